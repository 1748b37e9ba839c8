use Rattle.std.proofs.Common.{set, false, Some, subst, List, ℕ, Bool}
use Rattle.std.specs.List.{Contains}
use Rattle.std.specs.Vec.{with_item}
use Rattle.file_order.specs.declared.modules.Modules.{Modules}
use Rattle.file_order.specs.declared.search.Search.{Search}
use Rattle.file_order.specs.Search.{IsTrimmed, IsReleased, AreSettled, IsSearch, FindsNext}
use Rattle.file_order.proofs.SearchLemmas.{takes, on_all, taken_by}
use Rattle.file_order.proofs.search.Search.take.Goals as goal

pub settle_all-requires-clause-within : goal.settle_all-requires-clause-within
settle_all-requires-clause-within c = λ m h. c.requires.modules m (subst (λ (xs : List ℕ). Contains xs m) c.row.ensures h)

pub returns-clause-taken : goal.returns-clause-taken
returns-clause-taken c = λ all.
    let s = c.args.self.now in
    let p = c.args.place in
    let n = c.settle_all.new in
    let marks = c.deref.result.now in
    let modules = c.row.result.now in
    let left : Modules = record { holders = n.holders; held = s.modules.held; uses = s.modules.uses } in
    let new : Search = record { marks = with_item s.marks p false; modules = left; waiting = n.waiting; candidates = n.candidates; order = c.push.new.self } in
    takes all p s new c.settle_all.result
    (on_all c.settle_all.result
    (IsTrimmed marks s.modules.holders n.holders)
    (IsReleased s.waiting n.waiting s.candidates n.candidates)
    (AreSettled marks s.modules.holders n.waiting modules)
    (FindsNext all s (Some p) → IsSearch all left n.waiting (set s.marks.items p false) n.candidates c.push.new.self.items)
    c.settle_all.ensures.trimmed
    c.settle_all.ensures.released
    c.settle_all.ensures.settled
    (λ trimmed released settled found.
    subst (λ (m : List Bool). IsSearch all left n.waiting m n.candidates c.push.new.self.items) c.deref.ensures.value
    (taken_by all s.modules s.waiting s.marks.items marks s.order.items c.push.new.self.items s.candidates p modules n.holders n.waiting n.candidates
    c.deref.ensures.value c.in_ok-push.ensures.items c.row.ensures trimmed released settled found.0 found.2)))
