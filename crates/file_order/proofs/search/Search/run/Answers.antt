use Rattle.std.proofs.Common.{subst, Option, ℕ}
use Rattle.file_order.specs.Search.{FindsNext}
use Rattle.file_order.proofs.SearchLemmas.{held_left}
use Rattle.file_order.proofs.search.Search.run.Goals as goal

pub take-requires-clause-modules : goal.take-requires-clause-modules
take-requires-clause-modules c =
    let s = c.next.new.self in
    let all = c.requires.0 in
    let now = (subst (λ (f : Option ℕ). FindsNext all s f) c.in-Some.is (c.in_ok-place.ensures.found all (c.loop-place.invariant all c.requires.1))).0 in
    λ m h. held_left s.marks.items all s.modules now.table now.left m c.in-Some.place h

pub take-requires-clause-falling : goal.take-requires-clause-falling
take-requires-clause-falling c =
    let s = c.next.new.self in
    let all = c.requires.0 in
    let now = (subst (λ (f : Option ℕ). FindsNext all s f) c.in-Some.is (c.in_ok-place.ensures.found all (c.loop-place.invariant all c.requires.1))).0 in
    now.left.holders.falling now.table.falling

pub loop-place-preserved : goal.loop-place-preserved
loop-place-preserved c = λ all start. c.in_ok-take.ensures.taken all (subst (λ (f : Option ℕ). FindsNext all c.next.new.self f) c.in-Some.is (c.in_ok-place.ensures.found all (c.loop-place.invariant all start)))
