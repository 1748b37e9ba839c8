use Rattle.std.proofs.Common.{ap, ◌∙◌}
use Rattle.c_printer.specs.Chains.{all_closed}
use Rattle.c_printer.specs.Writing.{wrote}
use Rattle.c_printer.proofs.Branches.{closed_last}
use Rattle.c_printer.proofs.statements.chains.close_all.Goals as goal

pub loop-arm-preserved : goal.loop-arm-preserved
loop-arm-preserved c =
    c.loop-arm.invariant
    ∙ ap (λ arms. all_closed arms (wrote c.loop-arm.writer tt)) c.in-Some.ensures
    ∙ closed_last c.pop.new.self c.in-Some.arm (wrote c.loop-arm.writer tt)
    ∙ ap (all_closed c.pop.new.self) c.in_ok-close.ensures
