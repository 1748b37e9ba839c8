use Rattle.std.proofs.Common.{◌∙◌, sym, ap, length, arith}
use Rattle.std.proofs.lemmas.List.{length_push}
use Rattle.file_order.specs.Search.{row_at}
use Rattle.file_order.proofs.Falling.{popped_last, trimmed_pop}
use Rattle.file_order.proofs.open_places.last_open.Goals as goal

pub loop-place-smaller : goal.loop-place-smaller
loop-place-smaller c =
    let last = c.in-Some.ensures.some in
    let row = popped_last (row_at c.loop-place.rows c.args.row) (row_at c.pop.new.self c.args.row) last.0 c.in-Some.place c.pop.result c.pop.ensures.row c.pop.ensures.none last.1 in
    omega (arith, ap length row, length_push (row_at c.pop.new.self c.args.row) c.in-Some.place)

pub loop-place-preserved : goal.loop-place-preserved
loop-place-preserved c =
    let last = c.in-Some.ensures.some in
    let row = popped_last (row_at c.loop-place.rows c.args.row) (row_at c.pop.new.self c.args.row) last.0 c.in-Some.place c.pop.result c.pop.ensures.row c.pop.ensures.none last.1 in
    trimmed_pop c.args.marks.now c.args.rows.now c.loop-place.rows c.pop.new.self c.args.row c.in-Some.place c.loop-place.invariant row c.pop.ensures.others (sym c.opened.ensures ∙ c.if-opened.false)
