use Rattle.ast_nodes.proofs.Depths.{depth_of_named}
use Rattle.ast_nodes.proofs.law.depth_of_a_name.Goals as goal

pub returns : goal.returns
returns c = depth_of_named
