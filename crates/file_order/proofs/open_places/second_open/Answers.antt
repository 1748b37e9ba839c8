use Rattle.file_order.specs.Search.{row_at}
use Rattle.file_order.proofs.Falling.{popped_last, put_trimmed, put_least}
use Rattle.file_order.proofs.open_places.second_open.Goals as goal

pub returns-clause-trimmed : goal.returns-clause-trimmed
returns-clause-trimmed c =
    let m = c.args.row in
    let row = popped_last (row_at c.args.rows.now m) (row_at c.pop.new.self m) c.requires.last.0 c.args.last c.pop.result c.pop.ensures.row c.pop.ensures.none c.requires.last.1 in
    put_trimmed c.args.marks.now c.args.rows.now c.pop.new.self c.last_open-second.new.rows c.push.new.self m c.args.last c.requires.within row c.pop.ensures.others c.last_open-second.ensures.trimmed c.in_ok-push.ensures

pub returns-clause-found : goal.returns-clause-found
returns-clause-found c =
    let m = c.args.row in
    let row = popped_last (row_at c.args.rows.now m) (row_at c.pop.new.self m) c.requires.last.0 c.args.last c.pop.result c.pop.ensures.row c.pop.ensures.none c.requires.last.1 in
    put_least c.args.marks.now c.args.rows.now c.pop.new.self c.last_open-second.new.rows c.push.new.self m c.args.last c.requires.within row c.pop.ensures.others c.last_open-second.ensures.trimmed c.in_ok-push.ensures
    c.requires.falling c.last_open-second.result c.last_open-second.ensures.is_open c.last_open-second.ensures.last c.last_open-second.ensures.none
