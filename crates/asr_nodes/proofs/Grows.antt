-- The nodes of a program, and one more.
use Rattle.std.proofs.Common.{◌≡◌, ℕ, zero, suc, true, List, [], ◌∷◌, ◌++◌, length, slice_get, Option, Some, None, is_some, refl, sym, ap, subst, ◌∙◌, arith, true≢false, length-append, ◌⊎◌, inl, inr}
use Rattle.std.specs.List.{list_all}
use Rattle.std.proofs.lemmas.Grind.{common_steps}
use Rattle.std.proofs.lemmas.Option.{slice_get-get_or}
use Rattle.lf_base.specs.declared.id.ExprId.{ExprId}
use Rattle.lf_base.specs.declared.id.StmtId.{StmtId}
use Rattle.lf_base.specs.declared.id.SymId.{SymId}
use Rattle.asr_nodes.specs.Keys.{Key, expr, stmt, Node}
use Rattle.asr_nodes.specs.Nodes.{Nodes, Sound, Extends, StandsFor, node_at, node_count, tree_at, there, with_expr, with_stmt}
use Rattle.asr_nodes.specs.Parts.{parts, expr_parts, stmt_parts}
use Rattle.asr_nodes.specs.Symbols.{symbol_parts}
use Rattle.asr_nodes.specs.Reading.{Path, node_tree, no_tree}
use Rattle.asr_nodes.specs.Walks.{ends, Founded, Holds, tree_within}
use Rattle.symtab_arena.specs.Scopes.{symbol_at}
use Rattle.asr_nodes.specs.declared.node.Expr.{Expr}
use Rattle.asr_nodes.specs.declared.node.Stmt.{Stmt}
use Rattle.asr_nodes.proofs.Same.{same}
use Rattle.asr_nodes.proofs.Walks.{all_weaker, all_each, seen, parts_end, tree_is, more_founded, more_keeps}

pub some_is : {A : Type 0} (o : Option A) → is_some o ≡ true → (x : A) × (o ≡ Some x)
some_is (Some x) e = (x, refl)
some_is None e = absurd (true≢false (sym e))

-- In a list with one more item the earlier ones stand where they stood, and it stands last.
pub get_before : {A : Type 0} (xs : List A) (x y : A) (i : ℕ) → slice_get xs i ≡ Some y → slice_get (xs ++ x ∷ []) i ≡ Some y
get_before [] x y i e = absurd (cc)
get_before (z ∷ zs) x y zero e = e
get_before (z ∷ zs) x y (suc i) e = get_before zs x y i e

pub get_last : {A : Type 0} (xs : List A) (x : A) → slice_get (xs ++ x ∷ []) (length xs) ≡ Some x
get_last xs x = slice_get-get_or (xs ++ x ∷ []) (length xs) x (omega (arith, length-append xs (x ∷ []))) ∙ ap Some (grind (arith, common_steps))

-- What stands in the longer list stood before, or is the last.
pub get_either : {A : Type 0} (xs : List A) (x y : A) (i : ℕ) → slice_get (xs ++ x ∷ []) i ≡ Some y → (slice_get xs i ≡ Some y) ⊎ ((i ≡ length xs) × (x ≡ y))
get_either [] x y zero e = inr (refl, cc)
get_either [] x y (suc i) e = absurd (cc)
get_either (z ∷ zs) x y zero e = inl e
get_either (z ∷ zs) x y (suc i) e =
    elim (get_either zs x y i e) as (λ _. (slice_get (z ∷ zs) (suc i) ≡ Some y) ⊎ ((suc i ≡ length (z ∷ zs)) × (x ≡ y))) [
      | inl l ↦ inl l
      | inr r ↦ inr (let q = r.0 in omega arith, r.1)
    ]

module _ (a : Nodes) (h : Sound a) where
  ends_there : (key : Key) → is_some (node_at a key) ≡ true → ends parts (λ _. true) (node_at a) (node_count a) key ≡ true
  ends_there key e = let x = some_is (node_at a key) e in h.founded.ends_from key x.0 x.1

  there_ends : (n : ℕ) (key : Key) → ends parts (λ _. true) (node_at a) n key ≡ true → is_some (node_at a key) ≡ true
  there_ends zero key e = absurd (true≢false (sym e))
  there_ends (suc n) key e = let z = seen (λ x. list_all (ends parts (λ _. true) (node_at a) n) (parts key x)) (node_at a key) e in ap is_some z.1

  pub all_end : (keys : List Key) → there a keys ≡ true → list_all (ends parts (λ _. true) (node_at a) (node_count a)) keys ≡ true
  all_end keys = all_weaker (λ key. is_some (node_at a key)) (ends parts (λ _. true) (node_at a) (node_count a)) ends_there keys

  -- The parts of a node are there.
  pub parts_there : (key : Key) (x : Node key) → node_at a key ≡ Some x → there a (parts key x) ≡ true
  parts_there key x e =
      all_weaker (ends parts (λ _. true) (node_at a) (node_count a)) (λ key. is_some (node_at a key)) (there_ends (node_count a)) (parts key x)
      (parts_end parts (node_at a) (node_count a) h.founded key x e)

  -- The tree at a key is made of the trees of its parts.
  pub tree_here : (path : SymId → Path) (key : Key) (x : Node key) → node_at a key ≡ Some x → tree_at a path key ≡ node_tree path (tree_at a path) key x
  tree_here path key x e = tree_is parts (node_tree path) no_tree (same path) (node_at a) (node_count a) h.founded key x e

  -- One more node, whose parts are there, and the same symbols.
  module _ (b : Nodes) (holds : Holds (node_at a) (node_at b)) (counted : node_count b ≡ suc (node_count a)) (either : (key : Key) (y : Node key) → node_at b key ≡ Some y → (node_at a key ≡ Some y) ⊎ (there a (parts key y) ≡ true)) (scopes : b.scopes ≡ a.scopes) where
    still_there : (key : Key) → is_some (node_at a key) ≡ true → is_some (node_at b key) ≡ true
    still_there key e = let x = some_is (node_at a key) e in ap is_some (holds key x.0 x.1)

    all_there : (keys : List Key) → there a keys ≡ true → there b keys ≡ true
    all_there keys = all_weaker (λ key. is_some (node_at a key)) (λ key. is_some (node_at b key)) still_there keys

    ends_either : (key : Key) (y : Node key) → node_at b key ≡ Some y → (node_at a key ≡ Some y) ⊎ (list_all (ends parts (λ _. true) (node_at a) (node_count a)) (parts key y) ≡ true)
    ends_either key y e =
        elim (either key y e) as (λ _. (node_at a key ≡ Some y) ⊎ (list_all (ends parts (λ _. true) (node_at a) (node_count a)) (parts key y) ≡ true)) [
          | inl d ↦ inl d
          | inr d ↦ inr (all_end (parts key y) d)
        ]

    pub grown_sound : Sound b
    grown_sound = record {
      founded = subst (λ n. Founded parts (node_at b) n) (sym counted) (more_founded parts (node_at a) (node_at b) (node_count a) h.founded holds ends_either);
      owned = λ id it e. h.owned id it (sym (ap (λ s. symbol_at s id) scopes) ∙ e);
      units = λ id it e. h.units id it (sym (ap (λ s. symbol_at s id) scopes) ∙ e);
      named = λ id it e. all_there (symbol_parts it.what) (h.named id it (sym (ap (λ s. symbol_at s id) scopes) ∙ e));
    }

    grown_tree : (key : Key) (x : Node key) → node_at a key ≡ Some x → (path : SymId → Path) → tree_at b path key ≡ tree_at a path key
    grown_tree key x e path =
        ap (λ n. tree_within (node_tree path) no_tree (node_at b) n key) counted
        ∙ more_keeps parts (node_tree path) no_tree (same path) (node_at a) (node_at b) (node_count a) h.founded holds key x e

    pub grown_extends : Extends a b
    grown_extends = record { nodes = holds; trees = grown_tree }

    tree_there : (path : SymId → Path) (key : Key) → is_some (node_at a key) ≡ true → tree_at b path key ≡ tree_at a path key
    tree_there path key e = let x = some_is (node_at a key) e in grown_tree key x.0 x.1 path

    pub grown_stands : (key : Key) (x : Node key) → node_at b key ≡ Some x → there a (parts key x) ≡ true → StandsFor a b key x
    grown_stands key x e t = record {
      node = e;
      tree = λ path.
          tree_is parts (node_tree path) no_tree (same path) (node_at b) (node_count b) grown_sound.founded key x e
          ∙ same path (tree_at b path) (tree_at a path) key x
          (all_each (λ j. is_some (node_at a j)) (λ j. tree_at b path j ≡ tree_at a path j) (tree_there path) (parts key x) t);
    }

  module _ (x : Expr) where
    holds_expr : Holds (node_at a) (node_at (with_expr a x))
    holds_expr (expr id) y e = get_before a.exprs x y id.0 e
    holds_expr (stmt id) y e = e

    counted_expr : node_count (with_expr a x) ≡ suc (node_count a)
    counted_expr = omega (arith, length-append a.exprs (x ∷ []))

    module _ (t : there a (expr_parts x) ≡ true) where
      either_expr : (key : Key) (y : Node key) → node_at (with_expr a x) key ≡ Some y → (node_at a key ≡ Some y) ⊎ (there a (parts key y) ≡ true)
      either_expr (expr id) y e =
          elim (get_either a.exprs x y id.0 e) as (λ _. (slice_get a.exprs id.0 ≡ Some y) ⊎ (there a (expr_parts y) ≡ true)) [
            | inl d ↦ inl d
            | inr d ↦ inr (subst (λ z. there a (expr_parts z) ≡ true) d.1 t)
          ]
      either_expr (stmt id) y e = inl e

      pub expr_sound : Sound (with_expr a x)
      expr_sound = grown_sound (with_expr a x) holds_expr counted_expr either_expr refl

      pub expr_extends : Extends a (with_expr a x)
      expr_extends = grown_extends (with_expr a x) holds_expr counted_expr either_expr refl

      pub expr_stands : (id : ExprId) → id.0 ≡ length a.exprs → StandsFor a (with_expr a x) (expr id) x
      expr_stands id e = grown_stands (with_expr a x) holds_expr counted_expr either_expr refl (expr id) x (ap (slice_get (a.exprs ++ x ∷ [])) e ∙ get_last a.exprs x) t

  module _ (x : Stmt) where
    holds_stmt : Holds (node_at a) (node_at (with_stmt a x))
    holds_stmt (expr id) y e = e
    holds_stmt (stmt id) y e = get_before a.stmts x y id.0 e

    counted_stmt : node_count (with_stmt a x) ≡ suc (node_count a)
    counted_stmt = omega (arith, length-append a.stmts (x ∷ []))

    module _ (t : there a (stmt_parts x) ≡ true) where
      either_stmt : (key : Key) (y : Node key) → node_at (with_stmt a x) key ≡ Some y → (node_at a key ≡ Some y) ⊎ (there a (parts key y) ≡ true)
      either_stmt (expr id) y e = inl e
      either_stmt (stmt id) y e =
          elim (get_either a.stmts x y id.0 e) as (λ _. (slice_get a.stmts id.0 ≡ Some y) ⊎ (there a (stmt_parts y) ≡ true)) [
            | inl d ↦ inl d
            | inr d ↦ inr (subst (λ z. there a (stmt_parts z) ≡ true) d.1 t)
          ]

      pub stmt_sound : Sound (with_stmt a x)
      stmt_sound = grown_sound (with_stmt a x) holds_stmt counted_stmt either_stmt refl

      pub stmt_extends : Extends a (with_stmt a x)
      stmt_extends = grown_extends (with_stmt a x) holds_stmt counted_stmt either_stmt refl

      pub stmt_stands : (id : StmtId) → id.0 ≡ length a.stmts → StandsFor a (with_stmt a x) (stmt id) x
      stmt_stands id e = grown_stands (with_stmt a x) holds_stmt counted_stmt either_stmt refl (stmt id) x (ap (slice_get (a.stmts ++ x ∷ [])) e ∙ get_last a.stmts x) t
