use Rattle.std.proofs.Common.{eqb, Some}
use Rattle.std.specs.Option.{option_eq}
use Rattle.std.proofs.lemmas.Result.{on_ok_weaker, IfOk-weaker}
use Rattle.file_order.proofs.Falling.{is_not_some_of, not_true, least_last, least_before, trimmed_more}
use Rattle.file_order.proofs.open_places.other_open.Goals as goal

pub returns-then-ne-clause-found : goal.returns-then-ne-clause-found
returns-then-ne-clause-found c =
    let l = c.last_open-last in
    least_last c.args.marks.now c.args.rows.now l.new.rows c.args.row c.args.place l.result l.ensures.trimmed c.requires.falling l.ensures.is_open l.ensures.last l.ensures.none
    (is_not_some_of l.result c.args.place (not_true c.ne.result (option_eq eqb l.result (Some c.args.place)) c.ne.ensures c.if-ne.true))

pub returns-clause-trimmed : goal.returns-clause-trimmed
returns-clause-trimmed c =
    on_ok_weaker c.second_open.result (trimmed_more c.args.marks.now c.args.rows.now c.last_open-last.new.rows c.second_open.new.rows c.last_open-last.ensures.trimmed) c.second_open.ensures.trimmed

pub returns-clause-found : goal.returns-clause-found
returns-clause-found c =
    IfOk-weaker c.second_open.result _ _ (λ o. least_before c.args.marks.now c.args.rows.now c.last_open-last.new.rows c.args.row c.args.place o c.last_open-last.ensures.trimmed) c.second_open.ensures.found
