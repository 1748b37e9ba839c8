use Rattle.std.proofs.Common.{◌∙◌, ◌≢◌, sym, ap, length, refl, arith}
use Rattle.std.proofs.lemmas.List.{length_push}
use Rattle.file_order.specs.declared.modules.Modules.{Modules}
use Rattle.file_order.specs.Search.{row_at, IsOpen, IsListed}
use Rattle.file_order.proofs.Falling.{last_in, popped_last}
use Rattle.file_order.proofs.SearchLemmas.{blocked, free_of, left_pop}
use Rattle.file_order.proofs.search.blocker.Goals as goal

pub other_open-requires-clause-within : goal.other_open-requires-clause-within
other_open-requires-clause-within c =
    let l = c.loop-module in
    let last = c.in-Some.ensures.some in
    let m = c.in-Some.«module» in
    let less = c.requires.used m (l.invariant.listed m c.args.place (last_in (row_at l.modules.uses c.args.place) last.0 m last.1)) in
    omega (arith, less, l.invariant.holders.count)

pub returns-then-is_some-clause-found : goal.returns-then-is_some-clause-found
returns-then-is_some-clause-found c =
    let l = c.loop-module in
    let last = c.in-Some.ensures.some in
    let m = c.in-Some.«module» in
    blocked c.args.marks.now c.args.modules.now l.modules c.args.place m c.in_ok-other_open.field-0 l.invariant
    (last_in (row_at l.modules.uses c.args.place) last.0 m last.1) c.in_ok-other_open.ensures.found (sym c.is_some.ensures ∙ c.if-is_some.true)

pub loop-module-smaller : goal.loop-module-smaller
loop-module-smaller c =
    let last = c.in-Some.ensures.some in
    let m = c.in-Some.«module» in
    let row = popped_last (row_at c.loop-module.modules.uses c.args.place) (row_at c.pop.new.self c.args.place) last.0 m c.pop.result c.pop.ensures.row c.pop.ensures.none last.1 in
    omega (arith, ap length row, length_push (row_at c.pop.new.self c.args.place) m)

pub loop-module-preserved : goal.loop-module-preserved
loop-module-preserved c =
    let l = c.loop-module in
    let marks = c.args.marks.now in
    let place = c.args.place in
    let last = c.in-Some.ensures.some in
    let m = c.in-Some.«module» in
    let new : Modules = record { holders = c.other_open.new.rows; held = l.modules.held; uses = c.pop.new.self } in
    left_pop marks c.args.modules.now l.modules new place m l.invariant c.in_ok-other_open.ensures.trimmed
    (free_of (λ a. (a ≢ place) × IsOpen marks a × IsListed l.modules.holders a m) c.in_ok-other_open.field-0 c.in_ok-other_open.ensures.found (sym c.is_some.ensures ∙ c.if-is_some.false))
    refl
    (popped_last (row_at l.modules.uses place) (row_at c.pop.new.self place) last.0 m c.pop.result c.pop.ensures.row c.pop.ensures.none last.1)
    c.pop.ensures.others
