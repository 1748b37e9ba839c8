use Rattle.std.proofs.Common.{◌∙◌, sym, subst}
use Rattle.ast_to_asr.specs.Facts.{Designates}
use Rattle.ast_to_asr.proofs.Seen.{designator_seen}
use Rattle.ast_to_asr.proofs.Variables.{designator_known}
use Rattle.ast_to_asr.proofs.judge.judged_designator.Goals as goal

pub returns-clause-exact : goal.returns-clause-exact
returns-clause-exact c = λ unit. c.designator_told.ensures ∙ designator_seen unit c.args.names.now c.args.designator.now

pub returns-clause-variable : goal.returns-clause-variable
returns-clause-variable c = subst (Designates c.args.names.now c.args.designator.now.parts) (sym c.designator_told.ensures) (designator_known c.args.names.now c.args.designator.now)
