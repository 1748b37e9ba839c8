use Rattle.type_rules.proofs.Values.{folds_constant}
use Rattle.type_rules.proofs.folding.fold.Goals as goal

pub returns-clause-value : goal.returns-clause-value
returns-clause-value c = folds_constant c.args.op c.args.args.now c.folded.result c.folded.ensures
