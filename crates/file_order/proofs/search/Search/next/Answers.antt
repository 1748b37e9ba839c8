use Rattle.std.proofs.Common.{◌≡◌, ◌∙◌, sym, ap, subst, List, ℕ, Option, Bool, true}
use Rattle.file_order.specs.Search.{IsLeft, IsBlocking, is_open}
use Rattle.file_order.proofs.SearchLemmas.{used_left, popped, passed, trimmed, waits, is_next}
use Rattle.file_order.proofs.search.Search.next.Goals as goal

pub blocker-requires-clause-falling : goal.blocker-requires-clause-falling
blocker-requires-clause-falling c =
    let now = c.loop-place.invariant.search c.requires.0 c.requires.1 in
    now.left.holders.falling now.table.falling

pub blocker-requires-clause-used : goal.blocker-requires-clause-used
blocker-requires-clause-used c =
    let s = c.loop-place.self in
    let now = c.loop-place.invariant.search c.requires.0 c.requires.1 in
    λ m h. used_left s.marks.items c.requires.0 s.modules now.table now.left m c.in-Some.place h

pub loop-place-preserved-in-Continue-branch-3 : goal.loop-place-preserved-in-Continue-branch-3
loop-place-preserved-in-Continue-branch-3 c =
    let s = c.loop-place.self in
    let marks = c.deref-then-opened.ensures.value in
    let new = c.blocker.new.modules in
    let p = c.in-Some.place in
    let m = c.in-Some-2.«module» in
    record {
      search = λ all start.
          let found = popped all s.modules s.waiting s.marks.items s.order.items s.candidates c.pop.new.self p c.in-Some.ensures.taken (c.loop-place.invariant.search all start) in
          let cut : IsLeft s.marks.items s.modules new = subst (λ (x : List Bool). IsLeft x s.modules new) marks c.in_ok-module.ensures.left in
          let why = subst (λ (o : Option ℕ). IsBlocking s.marks.items s.modules new p o) c.in-Some-2.is (subst (λ (x : List Bool). IsBlocking x s.modules new p c.in_ok-module.field-0) marks c.in_ok-module.ensures.found) in
          waits all new s.waiting s.marks.items s.order.items c.pop.new.self c.push.new.self p m
          (found.left.listed m p why.0)
          (why.1.0, why.1.1, why.1.2, found.left.holders.listed why.1.0 m why.1.3)
          c.in_ok-push-in-Some-2.ensures
          (trimmed all s.modules s.waiting s.marks.items s.order.items _ new cut found);
      marks = c.loop-place.invariant.marks;
      order = c.loop-place.invariant.order;
    }

pub returns-in-None-clause-found : goal.returns-in-None-clause-found
returns-in-None-clause-found c =
    let s = c.loop-place.self in
    let marks = c.deref-then-opened.ensures.value in
    let new = c.blocker.new.modules in
    let p = c.in-Some.place in
    λ all start.
    let found = popped all s.modules s.waiting s.marks.items s.order.items s.candidates c.pop.new.self p c.in-Some.ensures.taken (c.loop-place.invariant.search all start) in
    let cut : IsLeft s.marks.items s.modules new = subst (λ (x : List Bool). IsLeft x s.modules new) marks c.in_ok-module.ensures.left in
    let here : is_open s.marks.items p ≡ true = ap (λ (x : List Bool). is_open x p) (sym c.deref.ensures.value) ∙ sym c.opened.ensures ∙ c.if-opened.true in
    let none = subst (λ (o : Option ℕ). IsBlocking s.marks.items s.modules new p o) c.in-None.is (subst (λ (x : List Bool). IsBlocking x s.modules new p c.in_ok-module.field-0) marks c.in_ok-module.ensures.found) in
    let now = trimmed all s.modules s.waiting s.marks.items s.order.items _ new cut found in (
      now,
      here,
      is_next all new s.waiting s.marks.items s.order.items c.pop.new.self p now c.in-Some.ensures.least here none,
    )

pub loop-place-preserved : goal.loop-place-preserved
loop-place-preserved c =
    let s = c.loop-place.self in
    record {
      search = λ all start.
          let found = popped all s.modules s.waiting s.marks.items s.order.items s.candidates c.pop.new.self c.in-Some.place c.in-Some.ensures.taken (c.loop-place.invariant.search all start) in
          passed all s.modules s.waiting s.marks.items s.order.items c.pop.new.self c.in-Some.place
          (ap (λ (x : List Bool). is_open x c.in-Some.place) (sym c.deref.ensures.value) ∙ sym c.opened.ensures ∙ c.if-opened.false) found;
      marks = c.loop-place.invariant.marks;
      order = c.loop-place.invariant.order;
    }
