-- Records for several statements, one behind another.
use Rattle.std.proofs.Common.{◌≡◌, ℕ, suc, ◌<◌, true, List, [], ◌∷◌, ◌++◌, map, Option, Some, None, is_some, refl, sym, ap, subst, ◌∙◌, inl, inr}
use Rattle.std.specs.List.{AllByRecursion}
use Rattle.std.specs.Option.{option_map_or}
use Rattle.std.proofs.lemmas.Bool.{and_parts}
use Rattle.std.proofs.lemmas.Option.{slice_get_within}
use Rattle.lf_base.specs.declared.id.ExprId.{ExprId}
use Rattle.lf_base.specs.declared.id.StmtId.{StmtId}
use Rattle.asr_nodes.specs.Keys.{Key, expr, stmt, stmts, is_other}
use Rattle.asr_nodes.specs.Nodes.{Nodes, Sound, HasStmt, node_at, there}
use Rattle.asr_nodes.specs.OnePlace.{places}
use Rattle.asr_nodes.specs.Splices.{spliced, line_of}
use Rattle.asr_nodes.specs.Visits.{visits}
use Rattle.asr_nodes.specs.declared.node.Stmt.{Stmt}
use Rattle.asr_nodes.specs.declared.node.Stmt.TheVariants as s
use Rattle.asr_nodes.proofs.Grows.{some_is}
use Rattle.asr_nodes.proofs.Places.{this_or_other}
use Rattle.asr_nodes.proofs.Walks.{all_weaker}
use Rattle.pass_array_op.specs.Bodies.{Differ, HasNoneTwice, Records, Midway, LowersBody}
use Rattle.pass_array_op.specs.Drawing.{some}
use Rattle.pass_array_op.specs.Prints.{values_put, number_of, prints, puts, record_nodes, with_record, Keeps, IsRecord, IsLowered}
use Rattle.pass_array_op.proofs.Apart.{kept_trees}
use Rattle.pass_array_op.proofs.Edits.{keeps, others, is_record, is_with_record, stays_alone, stays_placed}
use Rattle.pass_array_op.proofs.Places.{body_differs, body_placed}
use Rattle.pass_array_op.proofs.Records.{values_are}
use Rattle.pass_array_op.proofs.Trees.{body_lowers}

pub stmt_there : (a : Nodes) (id : StmtId) → there a (stmt id ∷ []) ≡ true → HasStmt a id
stmt_there a id e = let x = some_is (node_at a (stmt id)) (and_parts _ _ e).0 in slice_get_within a.stmts id.0 x.0 x.1

abbrev Stays : Stmt → Type 0
Stays x = values_put x ≡ None

puts_stay : (line number : ℕ) (values : List ExprId) → AllByRecursion Stays (puts line number values)
puts_stay line number [] = (refl, tt)
puts_stay line number (v ∷ vs) = (refl, puts_stay line number vs)

still_stand : (a b : Nodes) → Keeps a b → (is : List StmtId) (xs : List Stmt) → AllByRecursion Stays xs → map (λ i. node_at a (stmt i)) is ≡ map some xs → map (λ i. node_at b (stmt i)) is ≡ map some xs
still_stand a b k [] [] h e = refl
still_stand a b k [] (x ∷ xs) h e = absurd (cc)
still_stand a b k (i ∷ is) [] h e = absurd (cc)
still_stand a b k (i ∷ is) (x ∷ xs) h e =
    let p : node_at a (stmt i) ≡ Some x = cc in
    let q : map (λ i. node_at a (stmt i)) is ≡ map some xs = cc in
    let r = k (stmt i) x p h.0 in
    let rest = still_stand a b k is xs h.1 q in
    λ j. r j ∷ rest j

same_nodes : (a : Nodes) (ids : List StmtId) → AllByRecursion (λ id. node_at a (stmt id) ≡ node_at a (stmt id)) ids
same_nodes a [] = tt
same_nodes a (id ∷ ids) = (refl, same_nodes a ids)

pub begins : (old : Nodes) (all : List StmtId) (number : ℕ) → AllByRecursion (IsLowered old) all → Differ all → Midway old old all all number number
begins old all number low differ = record {
  rest = λ key x e v. e;
  stays = λ new k. k;
  waits = same_nodes old all;
  lowered = low;
  differ = differ;
  records = λ new k r. r;
  scopes = refl;
  alone = λ mine others h. h;
}

pub ends_with : (old now : Nodes) (all : List StmtId) (number next : ℕ) → Midway old now all [] number next → Records old now all number
ends_with old now all number next m = record {
  rest = m.rest;
  stays = m.stays now (λ key x o e. e);
  records = m.records now (λ key x e v. e) tt;
  scopes = m.scopes;
  alone = m.alone;
}

module _ (old now : Nodes) (h : Sound now) (all : List StmtId) (id : StmtId) (ids : List StmtId) (number next : ℕ) (m : Midway old now all (id ∷ ids) number next) (x : Stmt) (values : List ExprId) (was : node_at now (stmt id) ≡ Some x) (put : values_put x ≡ Some values) where
  abbrev b : Nodes
  b = spliced now id (record_nodes (line_of x) next values)

  kept : Keeps now b
  kept = keeps now h id x values was put next

  still_wait : (js : List StmtId) → AllByRecursion (λ j. node_at now (stmt j) ≡ node_at old (stmt j)) js → AllByRecursion (IsLowered old) js → AllByRecursion (λ j. is_other (stmt id) (stmt j) ≡ true) js → AllByRecursion (λ j. node_at b (stmt j) ≡ node_at old (stmt j)) js
  still_wait [] w low o = tt
  still_wait (j ∷ js) w low o = (others now h id x values was put next (stmt j) low.0.node o.0 (w.0 ∙ low.0.stands) ∙ sym low.0.stands, still_wait js w.1 low.1 o.1)

  recorded_still : (new : Nodes) → Keeps b new → IsRecord old new id next
  recorded_still new k = record {
    stands = λ y vs e v.
        let z = (is_record now h id x values was put next).stands y vs (m.waits.0 ∙ e) v in
        (z.0, k (stmt id) (s.Block (line_of y) z.0) z.1 refl, still_stand b new k z.0 (record_nodes (line_of y) next vs) (refl, puts_stay (line_of y) next vs) z.2);
  }

  there_one : (key : Key) → is_some (node_at now key) ≡ true → is_some (node_at b key) ≡ true
  there_one key e =
      elim (this_or_other (stmt id) key) as (λ _. is_some (node_at b key) ≡ true) [
        | inl p ↦
            let z = (is_record now h id x values was put next).stands x values was put in
            subst (λ k. is_some (node_at b k) ≡ true) (sym p) (ap is_some z.1)
        | inr o ↦ let y = some_is (node_at now key) e in ap is_some (others now h id x values was put next key y.0 o y.1)
      ]

  there_still : (keys : List Key) → there now keys ≡ true → there b keys ≡ true
  there_still = all_weaker (λ key. is_some (node_at now key)) (λ key. is_some (node_at b key)) there_one

  still_placed : (mine : List Key) → there now mine ≡ true → (js : List StmtId) → AllByRecursion (λ j. 0 < places now (stmt j) mine) js → AllByRecursion (λ j. 0 < places b (stmt j) mine) js
  still_placed mine t [] p = tt
  still_placed mine t (j ∷ js) p = (stays_placed now h id x values was put next (stmt j) mine t p.0, still_placed mine t js p.1)

  goes_on : Midway old b all ids number (suc next)
  goes_on = record {
    rest = λ key y e v. kept key y (m.rest key y e v) v;
    stays = λ new k. m.stays new (λ key y o e. let p = and_parts _ _ o in k key y p.1 (others now h id x values was put next key y p.0 e));
    waits = still_wait ids m.waits.1 m.lowered.1 m.differ.0;
    lowered = m.lowered.1;
    differ = m.differ.1;
    records = λ new k r. m.records new (λ key y e v. k key y (kept key y e v) v) (recorded_still new k, r);
    scopes = m.scopes;
    alone = λ mine theirs hold.
        let q = m.alone mine theirs hold in
        record {
          mine_there = there_still mine q.mine_there;
          others_there = there_still theirs q.others_there;
          alone = stays_alone now h id x values was put next mine theirs q.mine_there q.others_there q.alone q.placed.0;
          placed = still_placed mine q.mine_there ids q.placed.1;
        };
  }

  moved : (new : Nodes) → new ≡ with_record now id next → Midway old new all ids number (suc next)
  moved new e = subst (λ a. Midway old a all ids number (suc next)) (sym (e ∙ is_with_record now h id x values was put next)) goes_on

module _ (old now : Nodes) (all : List StmtId) (id : StmtId) (ids : List StmtId) (number next : ℕ) (m : Midway old now all (id ∷ ids) number next) where
  pub now_lowered : IsLowered now id
  now_lowered = record { node = m.lowered.0.node; stands = m.waits.0 ∙ m.lowered.0.stands; is_lowered = m.lowered.0.is_lowered }

  pub next_midway : Sound now → (new : Nodes) → new ≡ with_record now id next → Midway old new all ids number (suc next)
  next_midway h new e =
      let low = m.lowered.0 in
      let v = values_are (values_put low.node) low.is_lowered in
      moved old now h all id ids number next m low.node v.0 (m.waits.0 ∙ low.stands) v.1 new e

each_lowered : (a : Nodes) (keys : List Key) → AllByRecursion (IsLowered a) (prints a keys)
each_lowered a [] = tt
each_lowered a (expr id ∷ keys) = each_lowered a keys
each_lowered a (stmt id ∷ keys) = by (node_at a (stmt id)) refl (each_lowered a keys)
  where
    with_put : (x : Stmt) → node_at a (stmt id) ≡ Some x → (o : Option (List ExprId)) → values_put x ≡ o → AllByRecursion (IsLowered a) (prints a keys) → AllByRecursion (IsLowered a) (option_map_or (λ values. id ∷ []) o [] ++ prints a keys)
    with_put x e None v r = r
    with_put x e (Some _) v r = (record { node = x; stands = e; is_lowered = ap is_some v }, r)

    by : (o : Option Stmt) → node_at a (stmt id) ≡ o → AllByRecursion (IsLowered a) (prints a keys) → AllByRecursion (IsLowered a) (number_of (stmt id) o ++ prints a keys)
    by None e r = r
    by (Some x) e r = with_put x e (values_put x) refl r

pub found_lowered : (a : Nodes) (body : List StmtId) (found : List StmtId) → found ≡ prints a (visits a (stmts body)) → AllByRecursion (IsLowered a) found
found_lowered a body found e = subst (AllByRecursion (IsLowered a)) (sym e) (each_lowered a (visits a (stmts body)))

pub found_differ : (a : Nodes) (body : List StmtId) (found : List StmtId) → found ≡ prints a (visits a (stmts body)) → HasNoneTwice a body → Differ found
found_differ a body found e d = subst Differ (sym e) (body_differs a body d)

pub lowers_body : (old new : Nodes) (h : Sound old) (k : Sound new) (body : List StmtId) (number : ℕ) (found : List StmtId) → there old (stmts body) ≡ true → found ≡ prints old (visits old (stmts body)) → Records old new found number → LowersBody old new body number
lowers_body old new h k body number found t e r =
    let q = subst (λ ids. Records old new ids number) e r in
    record {
      tree = λ path. body_lowers old new h k q.rest path body number t q.records;
      rest = q.rest;
      stays = q.stays;
      trees = λ keys u p path. kept_trees old new h k (prints old (visits old (stmts body))) q.stays path keys u p;
      records = q.records;
      scopes = q.scopes;
      alone = λ mine others u v h s. (q.alone mine others (record { mine_there = u; others_there = v; alone = s; placed = body_placed old body mine h })).alone;
    }
