-- One node in the place of another, and the keys at which nodes stand.
use Rattle.std.proofs.Common.{◌≡◌, ◌≢◌, ℕ, zero, suc, ◌+◌, ◌<◌, true, not, ◌==◌, List, [], ◌∷◌, ◌++◌, length, slice_get, slice_set, Some, is_some, refl, sym, ap, subst, ◌∙◌, arith, true≢false, length-append, length-set, ◌⊎◌, inl, inr}
use Rattle.std.proofs.lemmas.Bool.{and_parts, cases_lt}
use Rattle.std.proofs.lemmas.Bool.Decides.{nat_tests, eqb_tells}
use Rattle.std.proofs.lemmas.Option.{slice_get_within}
use Rattle.lf_base.specs.declared.id.ExprId.{ExprId}
use Rattle.lf_base.specs.declared.id.StmtId.{StmtId}
use Rattle.lf_base.specs.declared.id.SymId.{SymId}
use Rattle.symtab_arena.specs.Scopes.{symbol_at}
use Rattle.asr_nodes.specs.Ids.{expr_id, stmt_id}
use Rattle.asr_nodes.specs.Keys.{Key, expr, stmt, Node, is_other}
use Rattle.asr_nodes.specs.Nodes.{Nodes, Sound, Replaces, HasExpr, HasStmt, node_at, node_count, tree_at, avoid, with_expr_at, with_stmt_at}
use Rattle.asr_nodes.specs.Parts.{parts, expr_parts, stmt_parts}
use Rattle.asr_nodes.specs.Reading.{Path, node_tree, no_tree}
use Rattle.asr_nodes.specs.Symbols.{symbol_parts}
use Rattle.asr_nodes.specs.Walks.{Founded, tree_within}
use Rattle.asr_nodes.specs.declared.node.Expr.{Expr}
use Rattle.asr_nodes.specs.declared.node.Stmt.{Stmt}
use Rattle.asr_nodes.proofs.Counts.{In}
use Rattle.asr_nodes.proofs.Grows as grows
use Rattle.asr_nodes.proofs.Replaces as one
use Rattle.asr_nodes.proofs.Same.{same}
use Rattle.asr_nodes.proofs.Walks.{all_weaker}

-- the keys of the first expressions, and of the first statements

exprs_below : ℕ → List Key
exprs_below zero = []
exprs_below (suc n) = expr (expr_id n) ∷ exprs_below n

stmts_below : ℕ → List Key
stmts_below zero = []
stmts_below (suc n) = stmt (stmt_id n) ∷ stmts_below n

many_exprs : (n : ℕ) → length (exprs_below n) ≡ n
unfolding exprs_below
many_exprs zero = refl
many_exprs (suc n) = ap suc (many_exprs n)

many_stmts : (n : ℕ) → length (stmts_below n) ≡ n
unfolding stmts_below
many_stmts zero = refl
many_stmts (suc n) = ap suc (many_stmts n)

in_first : {K : Type 0} (k : K) (ks js : List K) → In k ks → In k (ks ++ js)
in_first k [] js h = absurd h
in_first k (i ∷ is) js h = elim h as (λ _. In k ((i ∷ is) ++ js)) [ inl e ↦ inl e | inr e ↦ inr (in_first k is js e) ]

in_last : {K : Type 0} (k : K) (ks js : List K) → In k js → In k (ks ++ js)
in_last k [] js h = h
in_last k (i ∷ is) js h = inr (in_last k is js h)

expr_in : (n : ℕ) (id : ExprId) → id.0 < n → In (expr id) (exprs_below n)
unfolding exprs_below
expr_in zero id l = absurd (omega arith)
expr_in (suc n) id l =
    elim (cases_lt id.0 n) as (λ _. In (expr id) (exprs_below (suc n))) [
      | inl a ↦ inr (expr_in n id a)
      | inr a ↦ inl (let e : id.0 ≡ n = omega arith in ap (λ m. expr (expr_id m)) e)
    ]

stmt_in : (n : ℕ) (id : StmtId) → id.0 < n → In (stmt id) (stmts_below n)
unfolding stmts_below
stmt_in zero id l = absurd (omega arith)
stmt_in (suc n) id l =
    elim (cases_lt id.0 n) as (λ _. In (stmt id) (stmts_below (suc n))) [
      | inl a ↦ inr (stmt_in n id a)
      | inr a ↦ inl (let e : id.0 ≡ n = omega arith in ap (λ m. stmt (stmt_id m)) e)
    ]

pub keys_of : Nodes → List Key
keys_of a = exprs_below (length a.exprs) ++ stmts_below (length a.stmts)

pub keys_counted : (a : Nodes) → length (keys_of a) ≡ node_count a
unfolding keys_of
keys_counted a =
    let e = many_exprs (length a.exprs) in
    let s = many_stmts (length a.stmts) in
    omega (arith, length-append (exprs_below (length a.exprs)) (stmts_below (length a.stmts)))

pub keys_cover : (a : Nodes) (key : Key) (x : Node key) → node_at a key ≡ Some x → In key (keys_of a)
unfolding keys_of
keys_cover a (expr id) x e = in_first (expr id) (exprs_below (length a.exprs)) _ (expr_in (length a.exprs) id (slice_get_within a.exprs id.0 x e))
keys_cover a (stmt id) x e = in_last (stmt id) (exprs_below (length a.exprs)) _ (stmt_in (length a.stmts) id (slice_get_within a.stmts id.0 x e))

pub is_not : (i at : ℕ) → i ≢ at → not (i == at) ≡ true
is_not i at n = grind (arith, nat_tests)

differs : (i at : ℕ) → not (i == at) ≡ true → i ≢ at
differs i at t e = true≢false (sym t ∙ ap not (ap (λ j. j == at) e ∙ self at))
  where
    self : (n : ℕ) → (n == n) ≡ true
    self n = grind (arith, nat_tests)

pub this_or_other : (at key : Key) → (key ≡ at) ⊎ (is_other at key ≡ true)
this_or_other (expr at) (expr id) = elim (eqb_tells id.0 at.0) as (λ _. (expr id ≡ expr at) ⊎ (not (id.0 == at.0) ≡ true)) [ inl p ↦ inl (ap (λ m. expr (expr_id m)) p.1) | inr p ↦ inr (is_not id.0 at.0 p.1) ]
this_or_other (expr at) (stmt id) = inr refl
this_or_other (stmt at) (expr id) = inr refl
this_or_other (stmt at) (stmt id) = elim (eqb_tells id.0 at.0) as (λ _. (stmt id ≡ stmt at) ⊎ (not (id.0 == at.0) ≡ true)) [ inl p ↦ inl (ap (λ m. stmt (stmt_id m)) p.1) | inr p ↦ inr (is_not id.0 at.0 p.1) ]

pub get_set : {A : Type 0} (xs : List A) (i : ℕ) (x : A) → i < length xs → slice_get (slice_set xs i x) i ≡ Some x
get_set [] i x l = absurd (omega arith)
get_set (y ∷ ys) zero x l = refl
get_set (y ∷ ys) (suc i) x l = get_set ys i x (omega arith)

pub get_set_other : {A : Type 0} (xs : List A) (i j : ℕ) (x : A) → j ≢ i → slice_get (slice_set xs i x) j ≡ slice_get xs j
get_set_other [] i j x n = refl
get_set_other (y ∷ ys) zero zero x n = absurd (n refl)
get_set_other (y ∷ ys) zero (suc j) x n = refl
get_set_other (y ∷ ys) (suc i) zero x n = refl
get_set_other (y ∷ ys) (suc i) (suc j) x n = get_set_other ys i j x (λ e. n (ap suc e))

module _ (a b : Nodes) (h : Sound a) (at : Key) (x : Node at) (here : node_at b at ≡ Some x) (elsewhere : (key : Key) → is_other at key ≡ true → node_at b key ≡ node_at a key) (apart : avoid a at (parts at x) ≡ true) (counted : node_count b ≡ node_count a) (scopes : b.scopes ≡ a.scopes) where
  abbrev keys : List Key
  keys = keys_of b

  founded : Founded parts (node_at b) (node_count a)
  founded =
      one.still_founded parts (node_at a) (node_at b) (node_count a) h.founded at x (is_other at) here (this_or_other at) elsewhere apart keys (keys_cover b) (keys_counted b ∙ counted)

  still_there : (key : Key) → is_some (node_at a key) ≡ true → is_some (node_at b key) ≡ true
  still_there key e =
      elim (this_or_other at key) as (λ _. is_some (node_at b key) ≡ true) [
        | inl p ↦ subst (λ k. is_some (node_at b k) ≡ true) (sym p) (ap is_some here)
        | inr t ↦ ap is_some (elsewhere key t) ∙ e
      ]

  pub placed_sound : Sound b
  placed_sound = record {
    founded = subst (λ n. Founded parts (node_at b) n) (sym counted) founded;
    owned = λ id it e. h.owned id it (sym (ap (λ s. symbol_at s id) scopes) ∙ e);
    units = λ id it e. h.units id it (sym (ap (λ s. symbol_at s id) scopes) ∙ e);
    named = λ id it e. all_weaker (λ key. is_some (node_at a key)) (λ key. is_some (node_at b key)) still_there (symbol_parts it.what) (h.named id it (sym (ap (λ s. symbol_at s id) scopes) ∙ e));
  }

  at_count : (path : SymId → Path) (key : Key) → tree_at b path key ≡ tree_within (node_tree path) no_tree (node_at b) (node_count a) key
  at_count path key = ap (λ n. tree_within (node_tree path) no_tree (node_at b) n key) counted

  pub placed : Replaces a b at x
  placed = record {
    here = record {
      node = here;
      tree = λ path.
          at_count path at
          ∙ one.tree_here parts (node_at a) (node_at b) (node_count a) h.founded at x (is_other at) here (this_or_other at) elsewhere apart keys (keys_cover b) (keys_counted b ∙ counted) (node_tree path) no_tree (same path);
    };
    apart = λ key e path.
        at_count path key
        ∙ one.trees_apart parts (node_at a) (node_at b) (node_count a) h.founded at x (is_other at) here (this_or_other at) elsewhere apart keys (keys_cover b) (keys_counted b ∙ counted) (node_tree path) no_tree (same path) key (and_parts _ _ e).0;
    others = λ key y t e. record {
      node = elsewhere key t ∙ e;
      tree = λ path. grows.tree_here b placed_sound path key y (elsewhere key t ∙ e);
    };
  }

module _ (a : Nodes) (h : Sound a) (id : ExprId) (x : Expr) (l : HasExpr a id) (apart : avoid a (expr id) (expr_parts x) ≡ true) where
  pub expr_elsewhere : (key : Key) → is_other (expr id) key ≡ true → node_at (with_expr_at a id x) key ≡ node_at a key
  expr_elsewhere (expr u) t = get_set_other a.exprs id.0 u.0 x (differs u.0 id.0 t)
  expr_elsewhere (stmt u) t = refl

  expr_counted : node_count (with_expr_at a id x) ≡ node_count a
  expr_counted = ap (λ n. n + length a.stmts) (length-set a.exprs id.0 x)

  pub expr_placed_sound : Sound (with_expr_at a id x)
  expr_placed_sound = placed_sound a (with_expr_at a id x) h (expr id) x (get_set a.exprs id.0 x l) expr_elsewhere apart expr_counted refl

  pub expr_placed : Replaces a (with_expr_at a id x) (expr id) x
  expr_placed = placed a (with_expr_at a id x) h (expr id) x (get_set a.exprs id.0 x l) expr_elsewhere apart expr_counted refl

module _ (a : Nodes) (h : Sound a) (id : StmtId) (x : Stmt) (l : HasStmt a id) (apart : avoid a (stmt id) (stmt_parts x) ≡ true) where
  pub stmt_elsewhere : (key : Key) → is_other (stmt id) key ≡ true → node_at (with_stmt_at a id x) key ≡ node_at a key
  stmt_elsewhere (expr u) t = refl
  stmt_elsewhere (stmt u) t = get_set_other a.stmts id.0 u.0 x (differs u.0 id.0 t)

  stmt_counted : node_count (with_stmt_at a id x) ≡ node_count a
  stmt_counted = ap (λ n. length a.exprs + n) (length-set a.stmts id.0 x)

  pub stmt_placed_sound : Sound (with_stmt_at a id x)
  stmt_placed_sound = placed_sound a (with_stmt_at a id x) h (stmt id) x (get_set a.stmts id.0 x l) stmt_elsewhere apart stmt_counted refl

  pub stmt_placed : Replaces a (with_stmt_at a id x) (stmt id) x
  stmt_placed = placed a (with_stmt_at a id x) h (stmt id) x (get_set a.stmts id.0 x l) stmt_elsewhere apart stmt_counted refl

-- as the code has it: one list is another, and the other fields are those of the old value
module _ (old inside : Nodes) (v : inside ≡ old) (h : Sound old) where
  pub set_expr_sound : (id : ExprId) (x : Expr) (ys : List Expr) → ys ≡ slice_set inside.exprs id.0 x → HasExpr old id → avoid old (expr id) (expr_parts x) ≡ true → Sound (record inside { exprs = ys })
  set_expr_sound id x ys e l apart =
      subst (λ z. Sound (record inside { exprs = z })) (sym e) (subst (λ o. Sound (with_expr_at o id x)) (sym v) (expr_placed_sound old h id x l apart))

  pub set_stmt_sound : (id : StmtId) (x : Stmt) (ys : List Stmt) → ys ≡ slice_set inside.stmts id.0 x → HasStmt old id → avoid old (stmt id) (stmt_parts x) ≡ true → Sound (record inside { stmts = ys })
  set_stmt_sound id x ys e l apart =
      subst (λ z. Sound (record inside { stmts = z })) (sym e) (subst (λ o. Sound (with_stmt_at o id x)) (sym v) (stmt_placed_sound old h id x l apart))

  pub set_expr : (id : ExprId) (x : Expr) (new : Nodes) → new ≡ with_expr_at old id x → HasExpr old id → avoid old (expr id) (expr_parts x) ≡ true → Replaces old new (expr id) x
  set_expr id x new e l apart = subst (λ n. Replaces old n (expr id) x) (sym e) (expr_placed old h id x l apart)

  pub set_stmt : (id : StmtId) (x : Stmt) (new : Nodes) → new ≡ with_stmt_at old id x → HasStmt old id → avoid old (stmt id) (stmt_parts x) ≡ true → Replaces old new (stmt id) x
  set_stmt id x new e l apart = subst (λ n. Replaces old n (stmt id) x) (sym e) (stmt_placed old h id x l apart)
