use Rattle.asr_nodes.specs.Keys.{expr}
use Rattle.asr_nodes.proofs.Grows.{parts_there, tree_here}
use Rattle.asr_nodes.proofs.asr.Asr.expr.Goals as goal

pub returns-clause-parts : goal.returns-clause-parts
returns-clause-parts c = parts_there _ c.sound.ensures (expr c.args.id) _ c.expr_there.ensures

pub returns-clause-tree : goal.returns-clause-tree
returns-clause-tree c = λ path. tree_here _ c.sound.ensures path (expr c.args.id) _ c.expr_there.ensures
