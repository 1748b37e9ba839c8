use Rattle.std.proofs.Common.{◌≡◌, sym, subst, ℕ, List, Bool, false, length}
use Rattle.file_order.specs.Cycles.{IsStuck, IsCycle}
use Rattle.file_order.specs.Modules.{MustPrecede}
use Rattle.file_order.specs.Search.{IsOpen, IsBeforeIn, is_open}
use Rattle.file_order.proofs.AnswerLemmas.{stuck_as, least_as}
use Rattle.file_order.proofs.SearchLemmas.{open_waits, open_stuck, stuck_open, ends_least, before_all, before_left, used_left}
use Rattle.file_order.proofs.WalkLemmas.{cycle_as}
use Rattle.file_order.proofs.answer.order.Goals as goal

pub cycle_from-requires-clause-waits : goal.cycle_from-requires-clause-waits
cycle_from-requires-clause-waits c =
    let s = c.in_ok-search.search in
    subst (λ (marks : List Bool). (p : ℕ) → IsOpen marks p → (a : ℕ) × IsOpen marks a × IsBeforeIn s.modules a p) (sym c.deref-in-Some.ensures.value)
    (open_waits c.in_ok-modules.modules s.modules s.waiting s.marks.items s.order.items c.in_ok-search.ensures)

pub returns-in-None : goal.returns-in-None
returns-in-None c =
    let files = c.args.files.now in
    let all = c.in_ok-modules.modules in
    let s = c.in_ok-search.search in
    let t = c.in_ok-modules.ensures in
    least_as (length all.uses) (length files) (IsBeforeIn all) (MustPrecede files) t.count
    (λ a b h. (t.before a b).0 h)
    (λ a b h. (t.before a b).1 h)
    s.order.items
    (ends_least all s.modules s.waiting s.marks.items s.order.items c.in_ok-search.ensures
    (subst (λ (marks : List Bool). (p : ℕ) → is_open marks p ≡ false) c.deref.ensures.value c.in-None.ensures.none))

pub returns-in_ok-cycle-in-Some : goal.returns-in_ok-cycle-in-Some
returns-in_ok-cycle-in-Some c =
    let files = c.args.files.now in
    let all = c.in_ok-modules.modules in
    let t = c.in_ok-modules.ensures in
    let s = c.in_ok-search.search in
    let whole = c.in_ok-search.ensures in
    cycle_as (IsOpen s.marks.items) (IsStuck (length files) (MustPrecede files)) (IsBeforeIn s.modules) (MustPrecede files)
    (λ p o. stuck_as (length all.uses) (length files) (IsBeforeIn all) (MustPrecede files) t.count (λ a b h. (t.before a b).0 h) p (open_stuck all s.modules s.waiting s.marks.items s.order.items whole p o))
    (λ p stuck. stuck_open all s.modules s.waiting s.marks.items s.order.items whole p (stuck_as (length files) (length all.uses) (MustPrecede files) (IsBeforeIn all) (sym t.count) (λ a b h. (t.before a b).1 h) p stuck))
    (λ a b o h. (t.before a b).0 (before_all all s.modules s.waiting s.marks.items s.order.items whole a b h))
    (λ a b o h. before_left all s.modules s.waiting s.marks.items s.order.items whole a b o ((t.before a b).1 h))
    _
    (subst (λ (marks : List Bool). IsCycle (IsOpen marks) (IsBeforeIn s.modules) c.in_ok-cycle-in-Some.cycle.items) c.deref-in-Some.ensures.value c.in_ok-cycle-in-Some.ensures)

pub cycle_from-requires-clause-used : goal.cycle_from-requires-clause-used
cycle_from-requires-clause-used c =
    let s = c.in_ok-search.search in
    let whole = c.in_ok-search.ensures in
    λ m p h. used_left s.marks.items c.in_ok-modules.modules s.modules whole.table whole.left m p h
