use Rattle.std.proofs.Common.{◌≡◌, ◌∙◌, ◌++◌, ◌∷◌, [], sym, ap, subst, set, length, List, ℕ, Some, None, Result, Ok, Err, IfOk, Vec, Global, drop, arith}
use Rattle.lf_base.specs.declared.fault.Memory.{Memory}
use Rattle.file_order.specs.Cycles.{IsCycle}
use Rattle.file_order.specs.Search.{IsOpen, IsBefore}
use Rattle.file_order.specs.Walks.{IsWalking}
use Rattle.file_order.proofs.Falling.{trimmed_more}
use Rattle.file_order.proofs.WalkLemmas.{here_within, visit_is, walking_more, walking_end, step_as, still_waits}
use Rattle.file_order.proofs.cycle.cycle_from.Goals as goal

pub cut-requires : goal.cut-requires
cut-requires c =
    let s = c.loop-first in
    let w = s.invariant.walking in
    let within = here_within (IsBefore c.args.holders.now c.args.uses.now) c.args.marks.now s.walk.items s.seen.items s.here w in
    let found = visit_is s.seen.items s.here c.index.result.now (Some c.in-Some.first) within c.index.ensures c.in-Some.is in
    let at = (w.visited s.here c.in-Some.first found).0 in
    let same = ap length c.deref.ensures.value in
    omega (arith, at, same)

cut_is : (r : Result (Vec ℕ Global) Memory) (P : List ℕ → Type 0) (xs : List ℕ) → IfOk r (λ v. v.items ≡ xs) → P xs → IfOk r (λ v. P v.items)
cut_is (Ok v) P xs e h = subst P (sym e) h
cut_is (Err m) P xs e h = tt

pub returns-in-Some : goal.returns-in-Some
returns-in-Some c =
    let s = c.loop-first in
    let marks = c.args.marks.now in
    let before = IsBefore c.args.holders.now c.args.uses.now in
    let w = s.invariant.walking in
    let within = here_within before marks s.walk.items s.seen.items s.here w in
    let found = visit_is s.seen.items s.here c.index.result.now (Some c.in-Some.first) within c.index.ensures c.in-Some.is in
    cut_is c.cut.result (λ xs. IsCycle (IsOpen marks) before xs) (drop c.in-Some.first c.deref.result.now) c.cut.ensures
    (subst (λ (xs : List ℕ). IsCycle (IsOpen marks) before (drop c.in-Some.first xs)) (sym c.deref.ensures.value) (walking_end before marks s.walk.items s.seen.items s.here c.in-Some.first w found))

pub next-requires-clause-used : goal.next-requires-clause-used
next-requires-clause-used c = λ m h. let less = c.requires.used m c.loop-first.here h in omega (arith, less, c.loop-first.invariant.trimmed.count)

pub next-requires-clause-some : goal.next-requires-clause-some
next-requires-clause-some c =
    let s = c.loop-first in
    still_waits c.args.marks.now c.args.holders.now s.holders c.args.uses.now s.here s.invariant.trimmed (c.requires.waits s.here s.invariant.walking.here_open)

pub loop-first-preserved : goal.loop-first-preserved
loop-first-preserved c =
    let s = c.loop-first in
    let marks = c.args.marks.now in
    let before = IsBefore c.args.holders.now c.args.uses.now in
    let w = s.invariant.walking in
    let t = s.invariant.trimmed in
    let next = c.in_ok-here.here in
    let within = here_within before marks s.walk.items s.seen.items s.here w in
    let unseen = visit_is s.seen.items s.here c.index.result.now None within c.index.ensures c.in_default.is in
    let long : length s.walk.items ≡ c.len.result = sym s.walk.ok.0 ∙ sym c.len.ensures in
    let step = step_as marks c.args.holders.now s.holders c.args.uses.now s.here next t c.in_ok-here.ensures.found in
    record {
      walking = subst (λ (xs : List ℕ). IsWalking before marks xs (set s.seen.items s.here (Some c.len.result)) next) (sym c.in_ok-push.ensures.items)
          (subst (λ (k : ℕ). IsWalking before marks (s.walk.items ++ s.here ∷ []) (set s.seen.items s.here (Some k)) next) long
          (walking_more before marks s.walk.items s.seen.items s.here next w unseen within step));
      trimmed = trimmed_more marks c.args.holders.now s.holders c.next.new.holders t c.in_ok-here.ensures.trimmed;
    }
