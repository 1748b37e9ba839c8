-- A record in the place of an output statement: what stands where, and that each node keeps standing at one place.
use Rattle.std.proofs.Common.{◌≡◌, ℕ, zero, suc, ◌+◌, ◌<◌, ◌≤◌, ◌==◌, Bool, true, false, if◌then◌else◌, List, [], ◌∷◌, ◌++◌, map, length, length-append, slice_get, Some, None, refl, sym, ap, subst, ◌∙◌, arith, true≢false, inl, inr}
use Rattle.std.specs.List.{list_all, AllByRecursion}
use Rattle.std.specs.Option.{option_map_or}
use Rattle.std.proofs.lemmas.Option.{slice_get_within}
use Rattle.lf_base.specs.declared.id.ExprId.{ExprId}
use Rattle.lf_base.specs.declared.id.StmtId.{StmtId}
use Rattle.asr_nodes.specs.Ids.{stmt_id}
use Rattle.asr_nodes.specs.Keys.{Key, expr, stmt, Node, is_other, exprs, stmts, chained}
use Rattle.asr_nodes.specs.Nodes.{Nodes, Sound, HasStmt, node_at, node_count, there, avoid}
use Rattle.asr_nodes.specs.OnePlace.{one_where, total, places_node, places_at, places, StandAlone, MayMove}
use Rattle.asr_nodes.specs.Parts.{parts, stmt_parts}
use Rattle.asr_nodes.specs.Splices.{stmts_from, are_apart, spliced, line_of}
use Rattle.asr_nodes.specs.Walks.{ends, made, tree_within}
use Rattle.asr_nodes.specs.declared.code.TheConstants.{FORMAT_LIST as list_form}
use Rattle.asr_nodes.specs.declared.node.PrintItem.{PrintItem}
use Rattle.asr_nodes.specs.declared.node.Stmt.{Stmt}
use Rattle.asr_nodes.specs.declared.node.Stmt.TheVariants as s
use Rattle.asr_nodes.proofs.Callers.{own_parts_avoid}
use Rattle.asr_nodes.proofs.Grows.{all_end}
use Rattle.asr_nodes.proofs.OnePlace.{total_append, places_are, places_inside, spliced_alone}
use Rattle.asr_nodes.proofs.Places.{this_or_other, is_not, get_set, stmt_elsewhere}
use Rattle.asr_nodes.proofs.Splicing.{m, m_sound, has, block, block_apart, get_middle, spliced_sound, spliced_trees}
use Rattle.asr_nodes.proofs.Walks.{all_each, seen}
use Rattle.pass_array_op.specs.Drawing.{some}
use Rattle.pass_array_op.specs.Prints.{values_of, values_put, puts, record_nodes, or_none, record_for, with_record, Keeps, IsRecord}
use Rattle.pass_array_op.proofs.Trees.{none_some, some_same, values_parts}

-- what is put are the parts of the statement,
print_parts : (form : ℕ) (items : List PrintItem) (values : List ExprId) (t : Bool) → (if t then values_of items else None) ≡ Some values → stmt_parts (s.Print 0 form 0 items) ≡ exprs values
print_parts form items values false v = absurd (none_some values v)
print_parts form items values true v = values_parts items values v

put_parts : (x : Stmt) (values : List ExprId) → values_put x ≡ Some values → stmt_parts x ≡ exprs values
put_parts (s.Print line form advance items) values v = print_parts form items values (form == list_form) v
put_parts (s.Assign line target value) values v = absurd (none_some values v)
put_parts (s.If line condition then_block else_block) values v = absurd (none_some values v)
put_parts (s.Do line id variable lower upper step body) values v = absurd (none_some values v)
put_parts (s.While line id condition body) values v = absurd (none_some values v)
put_parts (s.Exit line id) values v = absurd (none_some values v)
put_parts (s.Cycle line id) values v = absurd (none_some values v)
put_parts (s.Select line value cases default) values v = absurd (none_some values v)
put_parts (s.Call line callee arguments) values v = absurd (none_some values v)
put_parts (s.Read line target iostat) values v = absurd (none_some values v)
put_parts (s.Stop line error code) values v = absurd (none_some values v)
put_parts (s.Return line) values v = absurd (none_some values v)
put_parts (s.Block line stmts) values v = absurd (none_some values v)
put_parts (s.Let line number value) values v = absurd (none_some values v)
put_parts (s.Room line number element len extents) values v = absurd (none_some values v)
put_parts (s.Count line number bound body) values v = absurd (none_some values v)
put_parts (s.Same line left right) values v = absurd (none_some values v)
put_parts (s.Probe line designator) values v = absurd (none_some values v)
put_parts (s.Begin line number) values v = absurd (none_some values v)
put_parts (s.Put line number value) values v = absurd (none_some values v)
put_parts (s.End line) values v = absurd (none_some values v)

-- and those of the record
puts_parts : (line number : ℕ) (values : List ExprId) → chained (map stmt_parts (puts line number values)) ≡ exprs values
puts_parts line number [] = refl
puts_parts line number (v ∷ vs) = ap (λ l. expr v ∷ l) (puts_parts line number vs)

total_some : {A : Type 0} (f g : A → ℕ) (xs : List A) → AllByRecursion (λ x. 0 < f x → 0 < g x) xs → 0 < total f xs → 0 < total g xs
total_some f g [] h l = absurd (omega (arith, l))
total_some f g (x ∷ xs) h l = by (f x) refl (λ z. total_some f g xs h.1 z)
  where
    by : (n : ℕ) → f x ≡ n → (0 < total f xs → 0 < total g xs) → 0 < g x + total g xs
    by zero e more = let r = more (omega (arith, e, l)) in omega (arith, r)
    by (suc n) e more = let r = h.0 (omega (arith, e)) in omega (arith, r)

module _ (a : Nodes) (h : Sound a) (at : StmtId) (x : Stmt) (values : List ExprId) (was : node_at a (stmt at) ≡ Some x) (put : values_put x ≡ Some values) (number : ℕ) where
  abbrev nodes : List Stmt
  nodes = record_nodes (line_of x) number values

  same_parts : chained (map stmt_parts nodes) ≡ stmt_parts x
  same_parts = puts_parts (line_of x) number values ∙ sym (put_parts x values put)

  pub is_apart : are_apart a at nodes
  is_apart = subst (λ l. avoid a (stmt at) l ≡ true) (sym same_parts) (own_parts_avoid a (stmt at) h x was)

  l : HasStmt a at
  l = slice_get_within a.stmts at.0 x was

  abbrev b : Nodes
  b = spliced a at nodes

  pub is_with_record : with_record a at number ≡ b
  is_with_record =
      ap (λ o. option_map_or (λ y. spliced a at (record_for y number)) o a) was
      ∙ ap (λ o. spliced a at (record_nodes (line_of x) number (or_none o))) put

  sound : Sound b
  sound = spliced_sound a h at nodes l is_apart

  elsewhere : (key : Key) → is_other (stmt at) key ≡ true → node_at b key ≡ node_at (m a h at nodes l is_apart) key
  elsewhere = stmt_elsewhere (m a h at nodes l is_apart) (m_sound a h at nodes l is_apart) at (block a h at nodes l is_apart) (has a h at nodes l is_apart) (block_apart a h at nodes l is_apart)

  pub others : (key : Key) (y : Node key) → is_other (stmt at) key ≡ true → node_at a key ≡ Some y → node_at b key ≡ Some y
  others key y t e = ((spliced_trees a h at nodes l is_apart).others key y t e).node

  pub keeps : Keeps a b
  keeps (expr id) y e v = others (expr id) y refl e
  keeps (stmt id) y e v =
      elim (this_or_other (stmt at) (stmt id)) as (λ _. node_at b (stmt id) ≡ Some y) [
        | inl p ↦
            let i : id ≡ at = cc in
            let q : node_at a (stmt at) ≡ Some y = subst (λ j. node_at a (stmt j) ≡ Some y) i e in
            absurd (none_some values (sym v ∙ ap values_put (some_same y x (sym q ∙ was)) ∙ put))
        | inr t ↦ others (stmt id) y t e
      ]

  stands_from : (front xs : List Stmt) (first : ℕ) → first ≡ length front → length a.stmts ≤ first → a.stmts ++ nodes ≡ front ++ xs → map (λ i. node_at b (stmt i)) (stmts_from first (length xs)) ≡ map some xs
  stands_from front [] first q g e = refl
  stands_from front (y ∷ xs) first q g e =
      let here : slice_get (a.stmts ++ nodes) first ≡ Some y = ap (λ ys. slice_get ys first) e ∙ ap (slice_get (front ++ y ∷ xs)) q ∙ get_middle front xs y in
      let far : is_other (stmt at) (stmt (stmt_id first)) ≡ true = is_not first at.0 (λ p. omega (arith, p, g, l)) in
      let p : node_at b (stmt (stmt_id first)) ≡ Some y = elsewhere (stmt (stmt_id first)) far ∙ here in
      let rest = stands_from (front ++ y ∷ []) xs (suc first) (let z = length-append front (y ∷ []) in omega (arith, z, q)) (omega (arith, g)) (e ∙ joins front y xs) in
      λ i. p i ∷ rest i
    where
      joins : (ys : List Stmt) (y : Stmt) (zs : List Stmt) → ys ++ y ∷ zs ≡ (ys ++ y ∷ []) ++ zs
      joins [] y zs = refl
      joins (z ∷ ys) y zs = ap (λ ws. z ∷ ws) (joins ys y zs)

  abbrev ids : List StmtId
  ids = stmts_from (length a.stmts) (length nodes)

  stand : map (λ i. node_at b (stmt i)) ids ≡ map some nodes
  stand = stands_from a.stmts nodes (length a.stmts) refl (omega arith) refl

  block_here : node_at b (stmt at) ≡ Some (s.Block (line_of x) ids)
  block_here =
      get_set (a.stmts ++ nodes) at.0 (block a h at nodes l is_apart) (has a h at nodes l is_apart)
      ∙ ap (λ o. Some (s.Block (option_map_or line_of o 0) ids)) was

  pub is_record : IsRecord a b at number
  is_record = record { stands = λ y vs e v. by y vs (some_same x y (sym was ∙ e)) v }
    where
      by : (y : Stmt) (vs : List ExprId) → x ≡ y → values_put y ≡ Some vs → (js : List StmtId) × (node_at b (stmt at) ≡ Some (s.Block (line_of y) js)) × (map (λ i. node_at b (stmt i)) js ≡ map some (record_nodes (line_of y) number vs))
      by y vs p v =
          let q : values ≡ vs = some_same values vs (sym put ∙ ap values_put p ∙ v) in
          (ids, block_here ∙ ap (λ z. Some (s.Block (line_of z) ids)) p, stand ∙ (λ i. map some (record_nodes (line_of (p i)) number (q i))))

  module _ (mine others_keys : List Key) (t : there a mine ≡ true) (u : there a others_keys ≡ true) (alone : StandAlone a mine others_keys) (placed : 0 < places a (stmt at) mine) where
    fits : MayMove a (stmt at) (chained (map stmt_parts nodes)) mine others_keys
    fits j g =
        let g1 = subst (λ l. 0 < places a j l) same_parts g in
        let p = places_are a h j (stmt at) x was in
        let i = places_inside a h j (stmt at) mine t placed in
        let c = ap (places a j) same_parts in
        let o = alone.once j (omega (arith, g1, p, i)) in
        (omega (arith, g1, p, i, c, o), omega (arith, g1, p, i, o), omega (arith, g1, p, i, o))

    pub stays_alone : StandAlone b mine others_keys
    stays_alone = spliced_alone a h mine others_keys t u alone at nodes l is_apart x was placed fits

  -- What stood somewhere stands somewhere still, but for the statement itself.
  module _ (j : Key) where
    ids_places : (is : List StmtId) (xs : List Stmt) → map (λ i. node_at b (stmt i)) is ≡ map some xs → places b j (chained (map stmt_parts xs)) ≤ places b j (stmts is)
    ids_places is [] e = omega arith
    ids_places [] (y ∷ ys) e = absurd (cc)
    ids_places (i ∷ is) (y ∷ ys) e =
        let p : node_at b (stmt i) ≡ Some y = cc in
        let q : map (λ i. node_at b (stmt i)) is ≡ map some ys = cc in
        let r = ids_places is ys q in
        let c = places_are b sound j (stmt i) y p in
        let d = total_append (places_at b j) (stmt_parts y) (chained (map stmt_parts ys)) in
        omega (arith, r, c, d)

    abbrev within : ℕ → Key → ℕ
    within = tree_within (places_node j) (λ key. 0) (node_at a)

    node_some : (n : ℕ) (key : Key) (y : Node key) → AllByRecursion (λ k. 0 < within n k → 0 < places_at b j k) (parts key y) → (f : ℕ) → total (within n) (parts key y) ≡ f → 0 < one_where (is_other j key) + f → 0 < one_where (is_other j key) + places b j (parts key y)
    node_some n key y each zero e g = omega (arith, g)
    node_some n key y each (suc f) e g = let r = total_some (within n) (places_at b j) (parts key y) each (omega (arith, e)) in omega (arith, r)

    placed_one : (n : ℕ) (key : Key) → ends parts (λ _. true) (node_at a) n key ≡ true → 0 < within n key → 0 < places_at b j key
    placed_one zero key e g = absurd (true≢false (sym e))
    placed_one (suc n) key e g =
        let z = seen (λ y. list_all (ends parts (λ _. true) (node_at a) n) (parts key y)) (node_at a key) e in
        let w = ap (made (places_node j (within n) key) 0) z.1 in
        let each = all_each (ends parts (λ _. true) (node_at a) n) (λ k. 0 < within n k → 0 < places_at b j k) (placed_one n) (parts key z.0) z.2 in
        let some_there = node_some n key z.0 each (total (within n) (parts key z.0)) refl (subst (λ c. 0 < c) w g) in
        elim (this_or_other (stmt at) key) as (λ _. 0 < places_at b j key) [
          | inl p ↦ at_place key z.0 p z.1 some_there
          | inr o ↦ let c = places_are b sound j key z.0 (others key z.0 o z.1) in omega (arith, c, some_there)
        ]
      where
        at_place : (key : Key) (y : Node key) → key ≡ stmt at → node_at a key ≡ Some y → 0 < one_where (is_other j key) + places b j (parts key y) → 0 < places_at b j key
        at_place key y p e g =
            let c = places_are b sound j (stmt at) (s.Block (line_of x) ids) block_here in
            let i = ids_places ids nodes stand in
            let q = ap (places b j) same_parts in
            subst (λ k. (y : Node k) → node_at a k ≡ Some y → 0 < one_where (is_other j k) + places b j (parts k y) → 0 < places_at b j k) (sym p)
            (λ y e g. let f = subst (λ z. 0 < one_where (is_other j (stmt at)) + places b j (stmt_parts z)) (some_same y x (sym e ∙ was)) g in omega (arith, c, i, q, f))
            y e g

    pub stays_placed : (mine : List Key) → there a mine ≡ true → 0 < places a j mine → 0 < places b j mine
    stays_placed mine t g =
        total_some (places_at a j) (places_at b j) mine
        (all_each (ends parts (λ _. true) (node_at a) (node_count a)) (λ k. 0 < places_at a j k → 0 < places_at b j k) (placed_one (node_count a)) mine (all_end a h mine t)) g
