use Rattle.std.proofs.Common.{rules}
use Rattle.ast_to_asr.proofs.Leaves.{variable_built}
use Rattle.ast_to_asr.proofs.build.leaf.name.Goals as goal

pub returns-in_ok-add-in-Some-Variable : goal.returns-in_ok-add-in-Some-Variable
returns-in_ok-add-in-Some-Variable c =
    variable_built c.args.asr.now c.add.new.asr c.args.here.unit.now c.args.here.names.now c.args.name.now c.in-Some-Variable.symbol c.in-Some-Variable.ty c.in_ok-add-in-Some-Variable.field-0 c.requires (search rules) c.in_ok-add-in-Some-Variable.ensures
