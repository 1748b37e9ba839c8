use Rattle.std.proofs.Common.{w64, subst}
use Rattle.std.proofs.lemmas.Int.{to_z-of_z}
use Rattle.asr_nodes.specs.declared.node.Expr.TheVariants.{IntConst}
use Rattle.ast_to_asr.specs.Building.{Adds}
use Rattle.ast_to_asr.specs.declared.names.ScalarType.TheVariants.{Integer}
use Rattle.ast_to_asr.proofs.Leaves.{integer_built}
use Rattle.ast_to_asr.proofs.build.leaf.integer.Goals as goal

pub returns : goal.returns
returns c =
    integer_built c.args.asr.now c.add.new.asr c.args.kind c.args.value c.args.writes c.in_ok-built.built
    (subst (λ z. Adds c.args.asr.now c.add.new.asr (IntConst c.args.kind z) (Integer c.args.kind) c.in_ok-built.built) (to_z-of_z w64 c.args.value c.ranges.value) c.in_ok-built.ensures)
