use Rattle.std.proofs.Common.{sym}
use Rattle.lf_driver.proofs.OnePrint.Emits.{literal_emitted}
use Rattle.lf_driver.proofs.one_print.lower.emit_literal.Goals as goal

pub returns-in-Ok : goal.returns-in-Ok
returns-in-Ok c = λ location. literal_emitted location c.args.digits.now c.args.suffix c.in-Some.value c.args.behind c.in-Ok.number c.args.body.now c.emit_constant.new.body (sym c.in-Some.ensures) c.in-Ok.ensures.body c.in-Ok.ensures.count
