use Rattle.std.proofs.Common.{◌∙◌, sym}
use Rattle.std.proofs.lemmas.Result.{on_ok_weaker}
use Rattle.file_order.proofs.Falling.{is_some_of, is_not_some_of}
use Rattle.file_order.proofs.TableLemmas.{noted_again, noted_one}
use Rattle.file_order.proofs.modules.note.Goals as goal

pub returns-then-eq : goal.returns-then-eq
returns-then-eq c = noted_again c.args.place c.args.«module» c.args.holders.now c.last.result c.last.ensures.some (is_some_of c.last.result c.args.place (sym c.eq.ensures ∙ c.if-eq.true))

pub returns : goal.returns
returns c =
    on_ok_weaker c.push.result
    (noted_one c.args.place c.args.«module» c.args.holders.now c.push.new.self c.last.result c.last.ensures.some c.last.ensures.none (is_not_some_of c.last.result c.args.place (sym c.eq.ensures ∙ c.if-eq.false)) c.requires)
    c.push.ensures
