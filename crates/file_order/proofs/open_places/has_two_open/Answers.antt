use Rattle.file_order.specs.Search.{row_at, IsListed, IsOpen}
use Rattle.file_order.proofs.Falling.{last_in, two_open, two_if}
use Rattle.file_order.proofs.open_places.has_two_open.Goals as goal

pub returns-clause-two : goal.returns-clause-two
returns-clause-two c =
    let l = c.in-Some in
    let marks = c.args.marks.now in
    let rows = c.args.rows.now in
    let m = c.args.row in
    let listed = last_in (row_at c.last_open.new.rows m) l.ensures.last.0 l.last l.ensures.last.1 in
    two_if (λ a. IsOpen marks a × IsListed rows a m) c.in_ok-second.second c.is_some.result c.is_some.ensures
    (two_open marks rows c.last_open.new.rows m l.last c.in_ok-second.second l.ensures.trimmed l.ensures.is_open listed c.in_ok-second.ensures.found)
