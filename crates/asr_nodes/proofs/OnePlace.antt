-- For callers: building nodes and putting one in the place of another keep each expression and statement at one place.
use Rattle.std.proofs.Common.{◌≡◌, ℕ, zero, suc, ◌+◌, ◌*◌, ◌<◌, ◌≤◌, Bool, true, false, not, List, [], ◌∷◌, ◌++◌, Option, Some, None, is_some, refl, sym, ap, subst, ◌∙◌, arith, true≢false, ◌⊎◌, inl, inr, add-mul, zero-mul, ◌==◌, slice_get, length, length-append, map}
use Rattle.std.proofs.lemmas.Bool.Decides.{nat_tests}
use Rattle.std.specs.List.{list_all, AllByRecursion}
use Rattle.std.proofs.lemmas.Bool.{and_parts, and_from}
use Rattle.lf_base.specs.declared.id.ExprId.{ExprId}
use Rattle.lf_base.specs.declared.id.StmtId.{StmtId}
use Rattle.asr_nodes.specs.Keys.{Key, expr, stmt, stmts, Node, is_other, chained}
use Rattle.asr_nodes.specs.Nodes.{Nodes, Sound, HasExpr, HasStmt, node_at, node_count, there, avoid, with_expr, with_stmt, with_expr_at, with_stmt_at}
use Rattle.asr_nodes.specs.OnePlace.{one_where, total, places_node, places_at, places, StandAlone, MayMove}
use Rattle.asr_nodes.specs.Parts.{parts, expr_parts, stmt_parts}
use Rattle.asr_nodes.specs.Walks.{passes, ends, made, Holds, tree_within}
use Rattle.asr_nodes.specs.declared.node.Expr.{Expr}
use Rattle.asr_nodes.specs.declared.node.Stmt.{Stmt}
use Rattle.std.proofs.lemmas.Option.{slice_get_within}
use Rattle.asr_nodes.proofs.Grows.{some_is}
use Rattle.asr_nodes.proofs.Callers.{own_parts_avoid, avoids_there}
use Rattle.asr_nodes.proofs.Places.{this_or_other, is_not, get_set, expr_placed_sound, stmt_placed_sound, expr_elsewhere, stmt_elsewhere}
use Rattle.asr_nodes.proofs.Splicing.{m, m_sound, holds, grown, has, block, block_apart, each_apart, get_middle, spliced_sound}
use Rattle.asr_nodes.specs.Ids.{stmt_id}
use Rattle.asr_nodes.specs.Splices.{stmts_from, are_apart, spliced}
use Rattle.asr_nodes.proofs.Walks.{all_weaker, all_each, seen, tree_kept, tree_is}

pub total_append : {A : Type 0} (f : A → ℕ) (xs ys : List A) → total f (xs ++ ys) ≡ total f xs + total f ys
total_append f [] ys = omega arith
total_append f (x ∷ xs) ys = let e = total_append f xs ys in omega arith

total_same : {A : Type 0} (f g : A → ℕ) (xs : List A) → AllByRecursion (λ x. f x ≡ g x) xs → total f xs ≡ total g xs
total_same f g [] h = refl
total_same f g (x ∷ xs) h = let e = h.0 in let r = total_same f g xs h.1 in omega arith

total_none : {A : Type 0} (f : A → ℕ) (xs : List A) → AllByRecursion (λ x. f x ≡ 0) xs → total f xs ≡ 0
total_none f [] h = refl
total_none f (x ∷ xs) h = let e = h.0 in let r = total_none f xs h.1 in omega arith

same_places : (at : Key) (f g : (key : Key) → ℕ) (key : Key) (x : Node key) → AllByRecursion (λ j. f j ≡ g j) (parts key x) → places_node at f key x ≡ places_node at g key x
same_places at f g key x h = ap (λ n. one_where (is_other at key) + n) (total_same f g (parts key x) h)

same_number : (n : ℕ) → (n == n) ≡ true
same_number n = grind (arith, nat_tests)

-- a key is no other one than itself
self : (at : Key) → is_other at at ≡ false
self (expr id) = ap not (same_number id.0)
self (stmt id) = ap not (same_number id.0)

module _ (a : Nodes) (h : Sound a) where
  -- The places in a node's tree are those in the trees of its parts, and the node's own.
  pub places_are : (at key : Key) (x : Node key) → node_at a key ≡ Some x → places_at a at key ≡ one_where (is_other at key) + places a at (parts key x)
  places_are at key x e = tree_is parts (places_node at) (λ key. 0) (same_places at) (node_at a) (node_count a) h.founded key x e

  module _ (at : Key) where
    abbrev within : ℕ → Key → ℕ
    within = tree_within (places_node at) (λ key. 0) (node_at a)

    within_is : (n : ℕ) (key : Key) (x : Node key) → node_at a key ≡ Some x → within (suc n) key ≡ one_where (is_other at key) + total (within n) (parts key x)
    within_is n key x e = ap (made (places_node at (within n) key) 0) e

    -- What avoids a key has no place for it,
    avoids_one : (n : ℕ) (key : Key) → ends parts (is_other at) (node_at a) n key ≡ true → within n key ≡ 0
    avoids_one zero key e = absurd (true≢false (sym e))
    avoids_one (suc n) key e =
        let b = and_parts (is_other at key) (passes (λ x. list_all (ends parts (is_other at) (node_at a) n) (parts key x)) (node_at a key)) e in
        let z = seen (λ x. list_all (ends parts (is_other at) (node_at a) n) (parts key x)) (node_at a key) b.1 in
        let i = within_is n key z.0 z.1 in
        let o = ap one_where b.0 in
        let t = total_none (within n) (parts key z.0) (all_each (ends parts (is_other at) (node_at a) n) (λ k. within n k ≡ 0) (avoids_one n) (parts key z.0) z.2) in
        omega (arith, i, o, t)

    pub avoids_none : (keys : List Key) → avoid a at keys ≡ true → places a at keys ≡ 0
    avoids_none keys e = total_none (places_at a at) keys (all_each (ends parts (is_other at) (node_at a) (node_count a)) (λ k. places_at a at k ≡ 0) (avoids_one (node_count a)) keys e)

    -- and what has none avoids it.
    is_where : (t : Bool) → one_where t ≡ 0 → t ≡ true
    is_where true e = refl
    is_where false e = absurd (omega arith)

    each_avoids : (n : ℕ) → ((key : Key) → ends parts (λ _. true) (node_at a) n key ≡ true → within n key ≡ 0 → ends parts (is_other at) (node_at a) n key ≡ true) → (keys : List Key) → list_all (ends parts (λ _. true) (node_at a) n) keys ≡ true → total (within n) keys ≡ 0 → list_all (ends parts (is_other at) (node_at a) n) keys ≡ true
    each_avoids n f [] e z = refl
    each_avoids n f (key ∷ keys) e z = let b = and_parts _ _ e in and_from _ _ (f key b.0 (omega (arith, z))) (each_avoids n f keys b.1 (omega (arith, z)))

    none_one : (n : ℕ) (key : Key) → ends parts (λ _. true) (node_at a) n key ≡ true → within n key ≡ 0 → ends parts (is_other at) (node_at a) n key ≡ true
    none_one zero key e z = absurd (true≢false (sym e))
    none_one (suc n) key e z =
        let y = seen (λ x. list_all (ends parts (λ _. true) (node_at a) n) (parts key x)) (node_at a key) e in
        let s = sym (within_is n key y.0 y.1) ∙ z in
        and_from _ _ (is_where (is_other at key) (omega (arith, s)))
        (subst (λ o. passes (λ x. list_all (ends parts (is_other at) (node_at a) n) (parts key x)) o ≡ true) (sym y.1)
        (each_avoids n (none_one n) (parts key y.0) y.2 (omega (arith, s))))

    walk_there : (key : Key) → is_some (node_at a key) ≡ true → ends parts (λ _. true) (node_at a) (node_count a) key ≡ true
    walk_there key e = by (node_at a key) refl e
      where
        by : (o : Option (Node key)) → node_at a key ≡ o → is_some o ≡ true → ends parts (λ _. true) (node_at a) (node_count a) key ≡ true
        by (Some x) e t = h.founded.ends_from key x e
        by None e t = absurd (true≢false (sym t))

    pub none_avoids : (keys : List Key) → there a keys ≡ true → places a at keys ≡ 0 → avoid a at keys ≡ true
    none_avoids keys t z = each_avoids (node_count a) (none_one (node_count a)) keys (all_weaker (λ key. is_some (node_at a key)) (ends parts (λ _. true) (node_at a) (node_count a)) walk_there keys t) z

    -- A key has one place in its own tree,
    pub own_place : (x : Node at) → node_at a at ≡ Some x → places_at a at at ≡ 1
    own_place x e =
        let i = places_are at at x e in
        let o = ap one_where (self at) in
        let t = avoids_none (parts at x) (own_parts_avoid a at h x e) in
        omega (arith, i, o, t)

    -- and one that stands nowhere has no place.
    absent_one : node_at a at ≡ None → (n : ℕ) (key : Key) → ends parts (λ _. true) (node_at a) n key ≡ true → within n key ≡ 0
    absent_one none zero key e = absurd (true≢false (sym e))
    absent_one none (suc n) key e =
        let z = seen (λ x. list_all (ends parts (λ _. true) (node_at a) n) (parts key x)) (node_at a key) e in
        let i = within_is n key z.0 z.1 in
        let o = ap one_where (other z.0 z.1) in
        let t = total_none (within n) (parts key z.0) (all_each (ends parts (λ _. true) (node_at a) n) (λ k. within n k ≡ 0) (absent_one none n) (parts key z.0) z.2) in
        omega (arith, i, o, t)
      where
        other : (x : Node key) → node_at a key ≡ Some x → is_other at key ≡ true
        other x e =
            elim (this_or_other at key) as (λ _. is_other at key ≡ true) [
              | inl p ↦ absurd (let q : Some x ≡ None = sym e ∙ subst (λ k. node_at a k ≡ None) (sym p) none in cc)
              | inr t ↦ t
            ]

    pub absent_none : node_at a at ≡ None → (keys : List Key) → there a keys ≡ true → places a at keys ≡ 0
    absent_none none keys t =
        total_none (places_at a at) keys
        (all_each (λ key. is_some (node_at a key)) (λ k. places_at a at k ≡ 0) (λ key e. absent_one none (node_count a) key (walk_there key e)) keys t)

-- Nodes of which all that stood stand, and perhaps more: what was there has the places that it had.
module _ (a b : Nodes) (h : Sound a) (holds : Holds (node_at a) (node_at b)) (counted : node_count a ≤ node_count b) where
  kept_one : (at key : Key) → is_some (node_at a key) ≡ true → places_at b at key ≡ places_at a at key
  kept_one at key e =
      tree_kept parts (places_node at) (λ key. 0) (same_places at) (λ _. true) (node_at a) (node_at b) (λ k x _. holds k x) (node_count a) (node_count b) key counted (walk_there a h at key e)

  pub places_kept : (at : Key) (keys : List Key) → there a keys ≡ true → places b at keys ≡ places a at keys
  places_kept at keys t = total_same (places_at b at) (places_at a at) keys (all_each (λ key. is_some (node_at a key)) (λ k. places_at b at k ≡ places_at a at k) (kept_one at) keys t)

  pub kept_alone : (mine others : List Key) → there a mine ≡ true → there a others ≡ true → StandAlone a mine others → StandAlone b mine others
  kept_alone mine others t u s = record {
    once = λ key l.
        let m = places_kept key mine t in
        let o = places_kept key others u in
        let r = s.once key (subst (λ n. 0 < n) m l) in
        omega (arith, m, o, r);
  }

  -- A new node stands alone, where what stands in its parts and in `rest` did.
  pub built_alone : Sound b → (at : Key) (x : Node at) → node_at a at ≡ None → node_at b at ≡ Some x → there a (parts at x) ≡ true → (rest others : List Key) → there a rest ≡ true → there a others ≡ true → StandAlone a (parts at x ++ rest) others → StandAlone b (at ∷ rest) others
  built_alone k at x none e t rest others u v s = record { once = by }
    where
      by : (key : Key) → 0 < places b key (at ∷ rest) → places b key (at ∷ rest) + places b key others ≡ 1
      by key l =
          let i = places_are b k key at x e in
          let p = places_kept key (parts at x) t in
          let m = places_kept key rest u in
          let o = places_kept key others v in
          let q = total_append (places_at a key) (parts at x) rest in
          elim (this_or_other key at) as (λ _. places b key (at ∷ rest) + places b key others ≡ 1) [
            | inl f ↦
                let w = ap one_where (subst (λ j. is_other key j ≡ false) (sym f) (self key)) in
                let g = subst (λ j. node_at a j ≡ None) f none in
                let p0 = absent_none a h key g (parts at x) t in
                let m0 = absent_none a h key g rest u in
                let o0 = absent_none a h key g others v in
                omega (arith, i, p, m, o, w, p0, m0, o0)
            | inr f ↦
                let w = ap one_where f in
                let r = s.once key (omega (arith, i, p, m, q, w, l)) in
                omega (arith, i, p, m, o, q, w, r)
          ]

total_moved : {A : Type 0} (f g p : A → ℕ) (c d : ℕ) (xs : List A) → AllByRecursion (λ x. f x + p x * c ≡ g x + p x * d) xs → total f xs + total p xs * c ≡ total g xs + total p xs * d
total_moved f g p c d [] h = let e = zero-mul c in let r = zero-mul d in omega (arith, e, r)
total_moved f g p c d (x ∷ xs) h =
    let e = h.0 in
    let r = total_moved f g p c d xs h.1 in
    let m = add-mul (p x) (total p xs) c in
    let n = add-mul (p x) (total p xs) d in
    omega (arith, e, r, m, n)

-- One node in the place of another, as `replace` and `replace_expr` put it.
module _ (a b : Nodes) (h : Sound a) (k : Sound b) (at : Key) (old x : Node at) (was : node_at a at ≡ Some old) (here : node_at b at ≡ Some x) (elsewhere : (key : Key) → is_other at key ≡ true → node_at b key ≡ node_at a key) (apart : avoid a at (parts at x) ≡ true) where
  -- In each tree the places below the old node go, and those below the new one come, once for each place of the node.
  moved_one : (j : Key) (n : ℕ) (key : Key) → ends parts (λ _. true) (node_at a) n key ≡ true → places_at b j key + places_at a at key * places_at a j at ≡ places_at a j key + places_at a at key * places_at b j at
  moved_one j zero key e = absurd (true≢false (sym e))
  moved_one j (suc n) key e =
      let z = seen (λ y. list_all (ends parts (λ _. true) (node_at a) n) (parts key y)) (node_at a key) e in
      elim (this_or_other at key) as (λ _. places_at b j key + places_at a at key * places_at a j at ≡ places_at a j key + places_at a at key * places_at b j at) [
        | inl f ↦
            let o = own_place a h at old was in
            subst (λ i. places_at b j i + places_at a at i * places_at a j at ≡ places_at a j i + places_at a at i * places_at b j at) (sym f)
            (let c = ap (λ i. i * places_at a j at) o in let d = ap (λ i. i * places_at b j at) o in omega (arith, c, d))
        | inr t ↦
            let p = places_are a h j key z.0 z.1 in
            let q = places_are b k j key z.0 (elsewhere key t ∙ z.1) in
            let r = places_are a h at key z.0 z.1 in
            let w = ap one_where t in
            let s = total_moved (places_at b j) (places_at a j) (places_at a at) (places_at a j at) (places_at b j at) (parts key z.0)
            (all_each (ends parts (λ _. true) (node_at a) n) (λ i. places_at b j i + places_at a at i * places_at a j at ≡ places_at a j i + places_at a at i * places_at b j at) (moved_one j n) (parts key z.0) z.2) in
            let same : places_at a at key ≡ places a at (parts key z.0) = omega (arith, r, w) in
            let c = ap (λ i. i * places_at a j at) same in
            let d = ap (λ i. i * places_at b j at) same in
            omega (arith, p, q, s, c, d)
      ]

  pub places_moved : (j : Key) (keys : List Key) → there a keys ≡ true → places b j keys + places a at keys * places_at a j at ≡ places a j keys + places a at keys * places_at b j at
  places_moved j keys t =
      total_moved (places_at b j) (places_at a j) (places_at a at) (places_at a j at) (places_at b j at) keys
      (all_each (λ key. is_some (node_at a key)) (λ i. places_at b j i + places_at a at i * places_at a j at ≡ places_at a j i + places_at a at i * places_at b j at) (λ key e. moved_one j (node_count a) key (walk_there a h at key e)) keys t)

  parts_same : (j : Key) → places b j (parts at x) ≡ places a j (parts at x)
  parts_same j =
      let m = places_moved j (parts at x) (avoids_there a at (parts at x) apart) in
      let z = avoids_none a h at (parts at x) apart in
      let c = ap (λ i. i * places_at a j at) z in
      let d = ap (λ i. i * places_at b j at) z in
      omega (arith, m, c, d)

  pub edited_alone : (mine others : List Key) → there a mine ≡ true → there a others ≡ true → 0 < places a at mine → StandAlone a mine others → MayMove a at (parts at x) mine others → StandAlone b mine others
  edited_alone mine others t u l s fits = record { once = by }
    where
      one : places a at mine ≡ 1
      one = let r = s.once at l in omega (arith, r, l)

      none : places a at others ≡ 0
      none = let r = s.once at l in omega (arith, r, l)

      mine_moved : (j : Key) → places b j mine + places_at a j at ≡ places a j mine + places_at b j at
      mine_moved j =
          let m = places_moved j mine t in
          let c = ap (λ i. i * places_at a j at) one in
          let d = ap (λ i. i * places_at b j at) one in
          omega (arith, m, c, d)

      others_same : (j : Key) → places b j others ≡ places a j others
      others_same j =
          let m = places_moved j others u in
          let c = ap (λ i. i * places_at a j at) none in
          let d = ap (λ i. i * places_at b j at) none in
          omega (arith, m, c, d)

      at_place : (j : Key) → places_at b j at ≡ one_where (is_other j at) + places a j (parts at x)
      at_place j = let i = places_are b k j at x here in let p = parts_same j in omega (arith, i, p)

      counts : (j : Key) (new : ℕ) → places a j (parts at x) ≡ new → (at ≡ j) ⊎ (is_other j at ≡ true) → 0 < places b j mine → places b j mine + places b j others ≡ 1
      counts j new e (inl f) g =
          let z = avoids_none a h at (parts at x) apart in
          let y = subst (λ i. places a i (parts at x) ≡ 0) f z in
          let w = ap one_where (subst (λ i. is_other j i ≡ false) (sym f) (self j)) in
          let o = subst (λ i. places_at a i at ≡ 1) f (own_place a h at old was) in
          let m = subst (λ i. places a i mine ≡ 1) f one in
          let n = subst (λ i. places a i others ≡ 0) f none in
          let q = mine_moved j in let r = others_same j in let p = at_place j in
          omega (arith, y, w, o, m, n, q, r, p)
      counts j zero e (inr f) g =
          let w = ap one_where f in
          let q = mine_moved j in let r = others_same j in let p = at_place j in
          let v = s.once j (omega (arith, e, w, q, p, g)) in
          omega (arith, e, w, q, r, p, v, g)
      counts j (suc new) e (inr f) g =
          let w = ap one_where f in
          let i = fits j (omega (arith, e)) in
          let i0 = i.0 in let i1 = i.1 in let i2 = i.2 in
          let q = mine_moved j in let r = others_same j in let p = at_place j in
          omega (arith, w, i0, i1, i2, q, r, p)

      by : (j : Key) → 0 < places b j mine → places b j mine + places b j others ≡ 1
      by j g = counts j (places a j (parts at x)) refl (this_or_other j at) g

-- `replace`, `replace_expr` and `splice`
module _ (a : Nodes) (h : Sound a) (mine others : List Key) (t : there a mine ≡ true) (u : there a others ≡ true) (alone : StandAlone a mine others) where
  pub replaced_expr_alone : (id : ExprId) (old x : Expr) → node_at a (expr id) ≡ Some old → HasExpr a id → avoid a (expr id) (expr_parts x) ≡ true → 0 < places a (expr id) mine → MayMove a (expr id) (expr_parts x) mine others → StandAlone (with_expr_at a id x) mine others
  replaced_expr_alone id old x was l apart g fits =
      edited_alone a (with_expr_at a id x) h (expr_placed_sound a h id x l apart) (expr id) old x was (get_set a.exprs id.0 x l) (expr_elsewhere a h id x l apart) apart mine others t u g alone fits

  pub replaced_stmt_alone : (id : StmtId) (old x : Stmt) → node_at a (stmt id) ≡ Some old → HasStmt a id → avoid a (stmt id) (stmt_parts x) ≡ true → 0 < places a (stmt id) mine → MayMove a (stmt id) (stmt_parts x) mine others → StandAlone (with_stmt_at a id x) mine others
  replaced_stmt_alone id old x was l apart g fits =
      edited_alone a (with_stmt_at a id x) h (stmt_placed_sound a h id x l apart) (stmt id) old x was (get_set a.stmts id.0 x l) (stmt_elsewhere a h id x l apart) apart mine others t u g alone fits

  module _ (at : StmtId) (with : List Stmt) (l : HasStmt a at) (apart : are_apart a at with) where
    abbrev c : Nodes
    c = m a h at with l apart

    abbrev numbers : List Key
    numbers = stmts (stmts_from (length a.stmts) (length with))

    -- how often a key is one of so many numbers: never, if it is an earlier one, and at most once
    earlier : (j : StmtId) (first n : ℕ) → j.0 < first → total (λ key. one_where (is_other (stmt j) key)) (stmts (stmts_from first n)) ≡ 0
    earlier j first zero g = refl
    earlier j first (suc n) g =
        let w = ap one_where (is_not first j.0 (λ e. omega (arith, g, e))) in
        let r = earlier j (suc first) n (omega (arith, g)) in
        omega (arith, w, r)

    no_expr : (j : ExprId) (first n : ℕ) → total (λ key. one_where (is_other (expr j) key)) (stmts (stmts_from first n)) ≡ 0
    no_expr j first zero = refl
    no_expr j first (suc n) = let r = no_expr j (suc first) n in omega (arith, r)

    at_most : (t : Bool) → one_where t ≤ 1
    at_most true = omega arith
    at_most false = omega arith

    at_most_one : (j : StmtId) (first n : ℕ) → total (λ key. one_where (is_other (stmt j) key)) (stmts (stmts_from first n)) ≤ 1
    at_most_one j first zero = omega arith
    at_most_one j first (suc n) =
        elim (this_or_other (stmt j) (stmt (stmt_id first))) as (λ _. total (λ key. one_where (is_other (stmt j) key)) (stmts (stmts_from first (suc n))) ≤ 1) [
          | inl e ↦
              let q : first ≡ j.0 = cc in
              let r = earlier j (suc first) n (omega (arith, q)) in
              let w = at_most (is_other (stmt j) (stmt (stmt_id first))) in
              omega (arith, r, w)
          | inr e ↦
              let w = ap one_where e in
              let r = at_most_one j (suc first) n in
              omega (arith, r, w)
        ]

    new_places : (j : Key) (front xs : List Stmt) (number : ℕ) → number ≡ length front → a.stmts ++ with ≡ front ++ xs → AllByRecursion (λ x. list_all (ends parts (is_other (stmt at)) (node_at a) (node_count a)) (stmt_parts x) ≡ true) xs → places c j (stmts (stmts_from number (length xs))) ≡ total (λ key. one_where (is_other j key)) (stmts (stmts_from number (length xs))) + places a j (chained (map stmt_parts xs))
    new_places j front [] number q e k = refl
    new_places j front (x ∷ xs) number q e k =
        let here : slice_get (a.stmts ++ with) number ≡ Some x = ap (λ ys. slice_get ys number) e ∙ ap (slice_get (front ++ x ∷ xs)) q ∙ get_middle front xs x in
        let i = places_are c (m_sound a h at with l apart) j (stmt (stmt_id number)) x here in
        let p = places_kept a c h (holds a h at with l apart) (grown a h at with l apart) j (stmt_parts x) (avoids_there a (stmt at) (stmt_parts x) k.0) in
        let r = new_places j (front ++ x ∷ []) xs (suc number) (let z = length-append front (x ∷ []) in omega (arith, z, q)) (e ∙ joins front x xs) k.1 in
        let s = total_append (places_at a j) (stmt_parts x) (chained (map stmt_parts xs)) in
        omega (arith, i, p, r, s)
      where
        joins : (ys : List Stmt) (y : Stmt) (zs : List Stmt) → ys ++ y ∷ zs ≡ (ys ++ y ∷ []) ++ zs
        joins [] y zs = refl
        joins (z ∷ ys) y zs = ap (λ ws. z ∷ ws) (joins ys y zs)

    abbrev new_parts : List Key
    new_parts = chained (map stmt_parts with)

    block_places : (j : Key) → places c j numbers ≡ total (λ key. one_where (is_other j key)) numbers + places a j new_parts
    block_places j = new_places j a.stmts with (length a.stmts) refl refl (each_apart a h at with l apart with apart)

    parts_there : there a new_parts ≡ true
    parts_there = avoids_there a (stmt at) new_parts apart

    place_same : (j : Key) (old : Stmt) → node_at a (stmt at) ≡ Some old → places_at c j (stmt at) ≡ places_at a j (stmt at)
    place_same j old was =
        let p = places_kept a c h (holds a h at with l apart) (grown a h at with l apart) j (stmt at ∷ []) (and_from _ _ (ap is_some was) refl) in
        omega (arith, p)

    -- a key of a node that stood, and one of none
    old_key : (j : Key) (y : Node j) → node_at a j ≡ Some y → total (λ key. one_where (is_other j key)) numbers ≡ 0
    old_key (expr j) y e = no_expr j (length a.stmts) (length with)
    old_key (stmt j) y e = earlier j (length a.stmts) (length with) (slice_get_within a.stmts j.0 y e)

    few : (j : Key) → total (λ key. one_where (is_other j key)) numbers ≤ 1
    few (expr j) = let e = no_expr j (length a.stmts) (length with) in omega (arith, e)
    few (stmt j) = at_most_one j (length a.stmts) (length with)

    block_fits : (old : Stmt) → node_at a (stmt at) ≡ Some old → MayMove a (stmt at) new_parts mine others → MayMove c (stmt at) numbers mine others
    block_fits old was fits j g = by (node_at a j) refl
      where
        by : (o : Option (Node j)) → node_at a j ≡ o → (places c j numbers ≡ 1) × (places c j mine ≡ places_at c j (stmt at)) × (places c j others ≡ 0)
        by (Some y) e =
            let b = block_places j in
            let k = old_key j y e in
            let f = fits j (omega (arith, b, k, g)) in
            let f0 = f.0 in let f1 = f.1 in let f2 = f.2 in
            let m0 = places_kept a c h (holds a h at with l apart) (grown a h at with l apart) j mine t in
            let m1 = places_kept a c h (holds a h at with l apart) (grown a h at with l apart) j others u in
            let m2 = place_same j old was in
            (omega (arith, b, k, f0), omega (arith, m0, f1, m2), omega (arith, m1, f2))
        by None e =
            let b = block_places j in
            let k = few j in
            let z = absent_none a h j e new_parts parts_there in
            let z0 = absent_none a h j e mine t in
            let z1 = absent_none a h j e others u in
            let z2 = absent_none a h j e (stmt at ∷ []) (and_from _ _ (ap is_some was) refl) in
            let m0 = places_kept a c h (holds a h at with l apart) (grown a h at with l apart) j mine t in
            let m1 = places_kept a c h (holds a h at with l apart) (grown a h at with l apart) j others u in
            let m2 = place_same j old was in
            (omega (arith, b, k, z, g), omega (arith, m0, z0, m2, z2), omega (arith, m1, z1))

    pub spliced_alone : (old : Stmt) → node_at a (stmt at) ≡ Some old → 0 < places a (stmt at) mine → MayMove a (stmt at) new_parts mine others → StandAlone (spliced a at with) mine others
    spliced_alone old was g fits =
        edited_alone c (spliced a at with) (m_sound a h at with l apart) (spliced_sound a h at with l apart) (stmt at) old (block a h at with l apart)
        (holds a h at with l apart (stmt at) old was)
        (get_set (a.stmts ++ with) at.0 (block a h at with l apart) (has a h at with l apart))
        (stmt_elsewhere c (m_sound a h at with l apart) at (block a h at with l apart) (has a h at with l apart) (block_apart a h at with l apart))
        (block_apart a h at with l apart) mine others (there_still mine t) (there_still others u)
        (let p = places_kept a c h (holds a h at with l apart) (grown a h at with l apart) (stmt at) mine t in omega (arith, p, g))
        (kept_alone a c h (holds a h at with l apart) (grown a h at with l apart) mine others t u alone)
        (block_fits old was fits)
      where
        there_still : (keys : List Key) → there a keys ≡ true → there c keys ≡ true
        there_still = all_weaker (λ key. is_some (node_at a key)) (λ key. is_some (node_at c key)) (λ key e. let x = some_is (node_at a key) e in ap is_some (holds a h at with l apart key x.0 x.1))

total_inside : {A : Type 0} (f g : A → ℕ) (c : ℕ) (xs : List A) → AllByRecursion (λ x. 0 < f x → c ≤ g x) xs → 0 < total f xs → c ≤ total g xs
total_inside f g c [] h l = absurd (omega (arith, l))
total_inside f g c (x ∷ xs) h l = by (f x) refl (λ z. total_inside f g c xs h.1 z)
  where
    by : (n : ℕ) → f x ≡ n → (0 < total f xs → c ≤ total g xs) → c ≤ g x + total g xs
    by zero e more = let r = more (omega (arith, e, l)) in omega (arith, r)
    by (suc n) e more = let r = h.0 (omega (arith, e)) in omega (arith, r)

-- What stands in trees, stands there with all that stands in it.
module _ (a : Nodes) (h : Sound a) where
  inside_one : (j at : Key) (n : ℕ) (key : Key) → ends parts (λ _. true) (node_at a) n key ≡ true → 0 < places_at a at key → places_at a j at ≤ places_at a j key
  inside_one j at zero key e l = absurd (true≢false (sym e))
  inside_one j at (suc n) key e l =
      let z = seen (λ y. list_all (ends parts (λ _. true) (node_at a) n) (parts key y)) (node_at a key) e in
      elim (this_or_other at key) as (λ _. places_at a j at ≤ places_at a j key) [
        | inl f ↦ subst (λ i. places_at a j at ≤ places_at a j i) (sym f) (omega arith)
        | inr t ↦
            let p = places_are a h j key z.0 z.1 in
            let q = places_are a h at key z.0 z.1 in
            let w = ap one_where t in
            let r = total_inside (places_at a at) (places_at a j) (places_at a j at) (parts key z.0)
            (all_each (ends parts (λ _. true) (node_at a) n) (λ i. 0 < places_at a at i → places_at a j at ≤ places_at a j i) (inside_one j at n) (parts key z.0) z.2)
            (omega (arith, q, w, l)) in
            omega (arith, p, r)
      ]

  pub places_inside : (j at : Key) (keys : List Key) → there a keys ≡ true → 0 < places a at keys → places_at a j at ≤ places a j keys
  places_inside j at keys t =
      total_inside (places_at a at) (places_at a j) (places_at a j at) keys
      (all_each (λ key. is_some (node_at a key)) (λ i. 0 < places_at a at i → places_at a j at ≤ places_at a j i) (λ key e. inside_one j at (node_count a) key (walk_there a h at key e)) keys t)

  -- The parts of a node in trees that stand alone have nothing in common, so that an edit below one of them changes no
  -- other one.
  pub parts_once : (mine others : List Key) → there a mine ≡ true → StandAlone a mine others → (at : Key) (x : Node at) → node_at a at ≡ Some x → 0 < places a at mine → (j : Key) → places a j (parts at x) ≤ 1
  parts_once mine others t s at x e l j = by (places a j mine) refl
    where
      by : (n : ℕ) → places a j mine ≡ n → places a j (parts at x) ≤ 1
      by zero f = let i = places_inside j at mine t l in let p = places_are a h j at x e in omega (arith, i, p, f)
      by (suc n) f = let i = places_inside j at mine t l in let p = places_are a h j at x e in let r = s.once j (omega (arith, f)) in omega (arith, i, p, r)
