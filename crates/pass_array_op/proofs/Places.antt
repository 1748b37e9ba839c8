-- Where each node has at most one place below a body, no statement is lowered twice, and each stands in what holds the body.
use Rattle.std.proofs.Common.{◌≡◌, ℕ, ◌+◌, ◌<◌, ◌≤◌, ◌==◌, Bool, true, false, not, List, [], ◌∷◌, ◌++◌, Option, Some, None, refl, ap, arith}
use Rattle.std.proofs.lemmas.Bool.Decides.{nat_tests}
use Rattle.std.specs.List.{AllByRecursion}
use Rattle.std.specs.Option.{option_map_or}
use Rattle.lf_base.specs.declared.id.ExprId.{ExprId}
use Rattle.lf_base.specs.declared.id.StmtId.{StmtId}
use Rattle.asr_nodes.specs.Keys.{Key, expr, stmt, stmts, is_other}
use Rattle.asr_nodes.specs.Nodes.{Nodes, node_at}
use Rattle.asr_nodes.specs.OnePlace.{one_where, places}
use Rattle.asr_nodes.specs.Visits.{visits, times}
use Rattle.asr_nodes.specs.declared.node.Stmt.{Stmt}
use Rattle.asr_nodes.proofs.VisitLists.{visited_times}
use Rattle.pass_array_op.specs.Bodies.{Differ}
use Rattle.pass_array_op.specs.Prints.{values_put, number_of, prints}

same_number : (n : ℕ) → (n == n) ≡ true
same_number n = grind (arith, nat_tests)

self : (at : StmtId) → is_other (stmt at) (stmt at) ≡ false
self at = ap not (same_number at.0)

is_where : (t : Bool) → one_where t ≡ 0 → t ≡ true
is_where true e = refl
is_where false e = absurd (omega (arith, e))

none_same : (at : StmtId) (ids : List StmtId) → times (stmt at) (stmts ids) ≡ 0 → AllByRecursion (λ j. is_other (stmt at) (stmt j) ≡ true) ids
none_same at [] e = tt
none_same at (j ∷ js) e = (is_where (is_other (stmt at) (stmt j)) (omega (arith, e)), none_same at js (omega (arith, e)))

differ_where : (ids : List StmtId) → ((at : StmtId) → times (stmt at) (stmts ids) ≤ 1) → Differ ids
differ_where [] h = tt
differ_where (id ∷ ids) h =
    let w = ap one_where (self id) in
    let e = h id in
    (none_same id ids (omega (arith, w, e)), differ_where ids (λ at. let f = h at in omega (arith, f)))

each_weaker : (P Q : StmtId → Type 0) → ((id : StmtId) → P id → Q id) → (ids : List StmtId) → AllByRecursion P ids → AllByRecursion Q ids
each_weaker P Q h [] a = tt
each_weaker P Q h (id ∷ ids) a = (h id a.0, each_weaker P Q h ids a.1)

module _ (a : Nodes) where
  one_more : (at id : StmtId) (ps : List StmtId) (o : Option Stmt) → times (stmt at) (stmts (number_of (stmt id) o ++ ps)) ≤ one_where (is_other (stmt at) (stmt id)) + times (stmt at) (stmts ps)
  one_more at id ps None = omega arith
  one_more at id ps (Some x) = by (values_put x)
    where
      by : (o : Option (List ExprId)) → times (stmt at) (stmts (option_map_or (λ values. id ∷ []) o [] ++ ps)) ≤ one_where (is_other (stmt at) (stmt id)) + times (stmt at) (stmts ps)
      by None = omega arith
      by (Some _) = omega arith

  prints_times : (at : StmtId) (keys : List Key) → times (stmt at) (stmts (prints a keys)) ≤ times (stmt at) keys
  prints_times at [] = omega arith
  prints_times at (expr id ∷ keys) = let r = prints_times at keys in omega (arith, r)
  prints_times at (stmt id ∷ keys) = let r = prints_times at keys in let o = one_more at id (prints a keys) (node_at a (stmt id)) in omega (arith, r, o)

  one_among : (id : StmtId) (keys : List Key) (ps : List StmtId) (o : Option Stmt) → AllByRecursion (λ j. 0 < times (stmt j) (stmt id ∷ keys)) ps → AllByRecursion (λ j. 0 < times (stmt j) (stmt id ∷ keys)) (number_of (stmt id) o ++ ps)
  one_among id keys ps None r = r
  one_among id keys ps (Some x) r = by (values_put x)
    where
      by : (o : Option (List ExprId)) → AllByRecursion (λ j. 0 < times (stmt j) (stmt id ∷ keys)) (option_map_or (λ values. id ∷ []) o [] ++ ps)
      by None = r
      by (Some _) = ((let w = ap one_where (self id) in omega (arith, w)), r)

  among : (keys : List Key) → AllByRecursion (λ id. 0 < times (stmt id) keys) (prints a keys)
  among [] = tt
  among (expr id ∷ keys) = each_weaker (λ j. 0 < times (stmt j) keys) (λ j. 0 < times (stmt j) (expr id ∷ keys)) (λ j g. omega (arith, g)) (prints a keys) (among keys)
  among (stmt id ∷ keys) =
      one_among id keys (prints a keys) (node_at a (stmt id))
      (each_weaker (λ j. 0 < times (stmt j) keys) (λ j. 0 < times (stmt j) (stmt id ∷ keys)) (λ j g. omega (arith, g)) (prints a keys) (among keys))

  module _ (body : List StmtId) where
    pub body_differs : ((key : Key) → places a key (stmts body) ≤ 1) → Differ (prints a (visits a (stmts body)))
    body_differs once =
        differ_where (prints a (visits a (stmts body)))
        (λ at. let p = prints_times at (visits a (stmts body)) in let v = visited_times a (stmt at) (stmts body) in let o = once (stmt at) in omega (arith, p, v, o))

    pub body_placed : (mine : List Key) → ((key : Key) → places a key (stmts body) ≤ places a key mine) → AllByRecursion (λ id. 0 < places a (stmt id) mine) (prints a (visits a (stmts body)))
    body_placed mine h =
        each_weaker (λ j. 0 < times (stmt j) (visits a (stmts body))) (λ j. 0 < places a (stmt j) mine)
        (λ j g. let v = visited_times a (stmt j) (stmts body) in let p = h (stmt j) in omega (arith, g, v, p))
        (prints a (visits a (stmts body))) (among (visits a (stmts body)))
