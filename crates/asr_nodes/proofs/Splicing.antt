-- Several new statements, and a block of them in the place of a statement.
use Rattle.std.proofs.Common.{◌≡◌, ℕ, zero, suc, ◌+◌, ◌-◌, ◌<◌, ◌≤◌, Bool, true, List, [], ◌∷◌, ◌++◌, map, length, slice_get, slice_set, Some, is_some, refl, sym, ap, subst, ◌∙◌, arith, length-append, ◌⊎◌, inl, inr}
use Rattle.std.specs.List.{list_all, AllByRecursion}
use Rattle.std.proofs.lemmas.Bool.{and_parts, and_from}
use Rattle.lf_base.specs.declared.id.StmtId.{StmtId}
use Rattle.lf_base.specs.declared.id.SymId.{SymId}
use Rattle.asr_nodes.specs.Ids.{stmt_id}
use Rattle.asr_nodes.specs.Keys.{Key, expr, stmt, stmts, Node, is_other, chained}
use Rattle.asr_nodes.specs.Nodes.{Nodes, Sound, Replaces, HasStmt, node_at, node_count, tree_at, stmt_tree, reads, avoid}
use Rattle.asr_nodes.specs.Parts.{parts, stmt_parts}
use Rattle.asr_nodes.specs.Reading.{Path, node_tree, no_tree, stmt_node}
use Rattle.asr_nodes.specs.Splices.{stmts_from, line_at, block_of, spliced, are_apart, Splices}
use Rattle.asr_nodes.specs.Symbols.{symbol_parts}
use Rattle.asr_nodes.specs.Walks.{passes, ends, Founded, Holds}
use Rattle.asr_nodes.specs.declared.node.Stmt.{Stmt}
use Rattle.asr_nodes.specs.declared.node.Stmt.TheVariants as s
use Rattle.asr_nodes.specs.declared.tree.StmtTree.TheVariants as st
use Rattle.asr_nodes.proofs.Counts.{short}
use Rattle.asr_nodes.proofs.Grows.{some_is}
use Rattle.asr_nodes.proofs.Places.{keys_of, keys_counted, keys_cover, is_not, stmt_placed, stmt_placed_sound}
use Rattle.asr_nodes.proofs.Same.{same}
use Rattle.asr_nodes.proofs.Walks.{all_weaker, all_each, ends_kept, tree_kept, tree_is, more_founded}

pub all_first : {K : Type 0} (p : K → Bool) (ks js : List K) → list_all p (ks ++ js) ≡ true → list_all p ks ≡ true
all_first p [] js e = refl
all_first p (k ∷ ks) js e = let a = and_parts _ _ e in and_from _ _ a.0 (all_first p ks js a.1)

pub all_last : {K : Type 0} (p : K → Bool) (ks js : List K) → list_all p (ks ++ js) ≡ true → list_all p js ≡ true
all_last p [] js e = e
all_last p (k ∷ ks) js e = let a = and_parts _ _ e in all_last p ks js a.1

get_front : {A : Type 0} (xs ys : List A) (y : A) (i : ℕ) → slice_get xs i ≡ Some y → slice_get (xs ++ ys) i ≡ Some y
get_front [] ys y i e = absurd (cc)
get_front (z ∷ zs) ys y zero e = e
get_front (z ∷ zs) ys y (suc i) e = get_front zs ys y i e

pub get_middle : {A : Type 0} (xs ys : List A) (y : A) → slice_get (xs ++ y ∷ ys) (length xs) ≡ Some y
get_middle [] ys y = refl
get_middle (x ∷ xs) ys y = get_middle xs ys y

-- what stands in both together satisfies what the first ones do, or a claim that all of the others meet
get_among : {A : Type 0} (P : A → Type 0) (xs ys : List A) → AllByRecursion P ys → (i : ℕ) (y : A) → slice_get (xs ++ ys) i ≡ Some y → (slice_get xs i ≡ Some y) ⊎ P y
get_among P [] [] h i y e = absurd (cc)
get_among P [] (x ∷ ys) h zero y e = inr (let q : x ≡ y = cc in subst P q h.0)
get_among P [] (x ∷ ys) h (suc i) y e = elim (get_among P [] ys h.1 i y e) as (λ _. (slice_get [] (suc i) ≡ Some y) ⊎ P y) [ inl d ↦ absurd (cc) | inr d ↦ inr d ]
get_among P (x ∷ xs) ys h zero y e = inl e
get_among P (x ∷ xs) ys h (suc i) y e = get_among P xs ys h i y e

module _ (a : Nodes) (h : Sound a) (at : StmtId) (with : List Stmt) (l : HasStmt a at) (apart : are_apart a at with) where
  free : Key → Bool
  free = is_other (stmt at)

  abbrev pub m : Nodes
  m = record a { stmts = a.stmts ++ with }

  abbrev pub n : ℕ
  n = node_count a

  pub holds : Holds (node_at a) (node_at m)
  holds (expr id) y e = e
  holds (stmt id) y e = get_front a.stmts with y id.0 e

  pub grown : n ≤ node_count m
  grown = omega (arith, length-append a.stmts with)

  -- each new statement's parts are there and avoid the place
  pub each_apart : (xs : List Stmt) → list_all (ends parts (is_other (stmt at)) (node_at a) n) (chained (map stmt_parts xs)) ≡ true → AllByRecursion (λ x. list_all (ends parts (is_other (stmt at)) (node_at a) n) (stmt_parts x) ≡ true) xs
  each_apart [] e = tt
  each_apart (x ∷ xs) e = (all_first _ (stmt_parts x) _ e, each_apart xs (all_last _ (stmt_parts x) _ e))

  anywhere : (key : Key) → ends parts (is_other (stmt at)) (node_at a) n key ≡ true → ends parts (λ _. true) (node_at a) n key ≡ true
  anywhere key e = ends_kept parts (is_other (stmt at)) (λ _. true) (node_at a) (node_at a) (λ _ _ _ d. d) (λ _ _. refl) n n key (omega arith) e

  either : (key : Key) (y : Node key) → node_at m key ≡ Some y → (node_at a key ≡ Some y) ⊎ (list_all (ends parts (λ _. true) (node_at a) n) (parts key y) ≡ true)
  either (expr id) y e = inl e
  either (stmt id) y e =
      elim (get_among (λ x. list_all (ends parts (is_other (stmt at)) (node_at a) n) (stmt_parts x) ≡ true) a.stmts with (each_apart with apart) id.0 y e) as (λ _. (slice_get a.stmts id.0 ≡ Some y) ⊎ (list_all (ends parts (λ _. true) (node_at a) n) (stmt_parts y) ≡ true)) [
        | inl d ↦ inl d
        | inr d ↦ inr (all_weaker (ends parts (is_other (stmt at)) (node_at a) n) (ends parts (λ _. true) (node_at a) n) anywhere (stmt_parts y) d)
      ]

  founded : Founded parts (node_at m) (node_count m)
  founded = record {
    ends_from = λ key y e.
        subst (λ i. ends parts (λ _. true) (node_at m) i key ≡ true) (keys_counted m)
        (short parts (λ _. true) (node_at m) (keys_of m) (keys_cover m) (suc n) key ((more_founded parts (node_at a) (node_at m) n h.founded holds either).ends_from key y e));
  }

  still_there : (key : Key) → is_some (node_at a key) ≡ true → is_some (node_at m key) ≡ true
  still_there key e = let x = some_is (node_at a key) e in ap is_some (holds key x.0 x.1)

  pub m_sound : Sound m
  m_sound = record {
    founded = founded;
    owned = h.owned;
    units = h.units;
    named = λ id it e. all_weaker (λ key. is_some (node_at a key)) (λ key. is_some (node_at m key)) still_there (symbol_parts it.what) (h.named id it e);
  }

  -- the trees that stood
  kept : (path : SymId → Path) (key : Key) → ends parts (is_other (stmt at)) (node_at a) n key ≡ true → tree_at m path key ≡ tree_at a path key
  kept path key e = tree_kept parts (node_tree path) no_tree (same path) (is_other (stmt at)) (node_at a) (node_at m) (λ k y _ d. holds k y d) n (node_count m) key grown e

  -- what avoided the place avoids it still
  avoids : (key : Key) → ends parts (is_other (stmt at)) (node_at a) n key ≡ true → ends parts (is_other (stmt at)) (node_at m) (node_count m) key ≡ true
  avoids key e = ends_kept parts (is_other (stmt at)) (is_other (stmt at)) (node_at a) (node_at m) (λ k y _ d. holds k y d) (λ _ t. t) n (node_count m) key grown e

  -- a new statement, at its number
  module _ (number : ℕ) (x : Stmt) (late : length a.stmts ≤ number) (here : slice_get (a.stmts ++ with) number ≡ Some x) (ok : list_all (ends parts (is_other (stmt at)) (node_at a) n) (stmt_parts x) ≡ true) where
    new_tree : (path : SymId → Path) → stmt_tree m path (stmt_id number) ≡ stmt_node (reads a path) x
    new_tree path =
        tree_is parts (node_tree path) no_tree (same path) (node_at m) (node_count m) founded (stmt (stmt_id number)) x here
        ∙ same path (tree_at m path) (tree_at a path) (stmt (stmt_id number)) x
        (all_each (ends parts (is_other (stmt at)) (node_at a) n) (λ j. tree_at m path j ≡ tree_at a path j) (kept path) (stmt_parts x) ok)

    one_step : ends parts (is_other (stmt at)) (node_at m) (suc (node_count m)) (stmt (stmt_id number)) ≡ true
    one_step =
        and_from _ _ (is_not number at.0 (λ e. omega arith))
        (subst (λ o. passes (λ y. list_all (ends parts (is_other (stmt at)) (node_at m) (node_count m)) (stmt_parts y)) o ≡ true) (sym here)
        (all_weaker (ends parts (is_other (stmt at)) (node_at a) n) (ends parts (is_other (stmt at)) (node_at m) (node_count m)) avoids (stmt_parts x) ok))

    new_avoids : ends parts (is_other (stmt at)) (node_at m) (node_count m) (stmt (stmt_id number)) ≡ true
    new_avoids =
        subst (λ i. ends parts (is_other (stmt at)) (node_at m) i (stmt (stmt_id number)) ≡ true) (keys_counted m)
        (short parts (is_other (stmt at)) (node_at m) (keys_of m) (keys_cover m) (suc (node_count m)) (stmt (stmt_id number)) one_step)

  -- all new statements from one on
  module _ (path : SymId → Path) where
    all_new : (front xs : List Stmt) (number : ℕ) → number ≡ length front → length a.stmts ≤ number → a.stmts ++ with ≡ front ++ xs → AllByRecursion (λ x. list_all (ends parts (is_other (stmt at)) (node_at a) n) (stmt_parts x) ≡ true) xs → (list_all (ends parts (is_other (stmt at)) (node_at m) (node_count m)) (stmts (stmts_from number (length xs))) ≡ true) × (map (stmt_tree m path) (stmts_from number (length xs)) ≡ map (stmt_node (reads a path)) xs)
    all_new front [] number q l' e k = (refl, refl)
    all_new front (x ∷ xs) number q l' e k =
        let here : slice_get (a.stmts ++ with) number ≡ Some x = ap (λ ys. slice_get ys number) e ∙ ap (slice_get (front ++ x ∷ xs)) q ∙ get_middle front xs x in
        let rest = all_new (front ++ x ∷ []) xs (suc number) (let p = length-append front (x ∷ []) in omega arith) (omega arith) (e ∙ joins front x xs) k.1 in
        (and_from _ _ (new_avoids number x l' here k.0) rest.0, λ i. new_tree number x l' here k.0 path i ∷ rest.1 i)
      where
        joins : (ys : List Stmt) (y : Stmt) (zs : List Stmt) → ys ++ y ∷ zs ≡ (ys ++ y ∷ []) ++ zs
        joins [] y zs = refl
        joins (z ∷ ys) y zs = ap (λ ws. z ∷ ws) (joins ys y zs)

  -- the block at the place
  abbrev pub line : ℕ
  line = line_at a at with

  abbrev pub block : Stmt
  block = s.Block line (stmts_from (length a.stmts) (length with))

  all_of : (path : SymId → Path) → (list_all (ends parts (is_other (stmt at)) (node_at m) (node_count m)) (stmts (stmts_from (length a.stmts) (length with))) ≡ true) × (map (stmt_tree m path) (stmts_from (length a.stmts) (length with)) ≡ map (stmt_node (reads a path)) with)
  all_of path = all_new path a.stmts with (length a.stmts) refl (omega arith) refl (each_apart with apart)

  no_path : SymId → Path
  no_path id = []

  pub has : HasStmt m at
  has = let e = length-append a.stmts with in omega arith

  pub block_apart : avoid m (stmt at) (stmt_parts block) ≡ true
  block_apart = (all_of no_path).0

  pub spliced_sound : Sound (spliced a at with)
  spliced_sound = stmt_placed_sound m m_sound at block has block_apart

  placed : Replaces m (spliced a at with) (stmt at) block
  placed = stmt_placed m m_sound at block has block_apart

  pub spliced_trees : Splices a at with (spliced a at with)
  spliced_trees = record {
    here = λ path. placed.here.tree path ∙ ap (st.Block line) (all_of path).1;
    apart = λ key e path.
        let d = (and_parts _ _ e).0 in
        placed.apart key (and_from _ _ (avoids key d) refl) path ∙ kept path key d;
    others = λ key y t e. placed.others key y t (holds key y e);
  }

-- numbers behind numbers
pub numbers_next : (first place count : ℕ) → place < count → stmts_from (first + place) (count - place) ≡ stmt_id (first + place) ∷ stmts_from (first + (place + 1)) (count - (place + 1))
numbers_next first place count l =
    let left : count - place ≡ suc (count - (place + 1)) = omega arith in
    let next : suc (first + place) ≡ first + (place + 1) = omega arith in
    ap (stmts_from (first + place)) left ∙ ap (λ i. stmt_id (first + place) ∷ stmts_from i (count - (place + 1))) next

appended : {A : Type 0} (xs : List A) (x : A) (ys : List A) → (xs ++ x ∷ []) ++ ys ≡ xs ++ x ∷ ys
appended [] x ys = refl
appended (z ∷ xs) x ys = ap (λ zs. z ∷ zs) (appended xs x ys)

pub numbered_more : (ids more all : List StmtId) (first place count : ℕ) → place < count → more ≡ ids ++ stmt_id (first + place) ∷ [] → ids ++ stmts_from (first + place) (count - place) ≡ all → more ++ stmts_from (first + (place + 1)) (count - (place + 1)) ≡ all
numbered_more ids more all first place count l e h =
    ap (λ xs. xs ++ stmts_from (first + (place + 1)) (count - (place + 1))) e
    ∙ appended ids (stmt_id (first + place)) (stmts_from (first + (place + 1)) (count - (place + 1)))
    ∙ ap (λ xs. ids ++ xs) (sym (numbers_next first place count l))
    ∙ h

-- as the code has it
module _ (old inside : Nodes) (v : inside ≡ old) (h : Sound old) (at : StmtId) (with : List Stmt) (l : HasStmt old at) (apart : are_apart old at with) where
  pub put_sound : (longer_list ys : List Stmt) (x : Stmt) → x ≡ block_of old at with → longer_list ≡ inside.stmts ++ with → ys ≡ slice_set longer_list at.0 x → Sound (record inside { stmts = ys })
  put_sound longer_list ys x b e q =
      subst (λ z. Sound (record inside { stmts = z }))
      (ap (λ zs. slice_set (inside.stmts ++ with) at.0 zs) (sym b) ∙ ap (λ zs. slice_set zs at.0 x) (sym e) ∙ sym q)
      (subst (λ (o : Nodes). Sound (record o { stmts = slice_set (o.stmts ++ with) at.0 (block_of old at with) })) (sym v) (spliced_sound old h at with l apart))

  pub put_trees : (new : Nodes) → new ≡ spliced old at with → Splices old at with new
  put_trees new e = subst (λ n. Splices old at with n) (sym e) (spliced_trees old h at with l apart)
