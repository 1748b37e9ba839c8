use Rattle.pass_array_op.proofs.Records.{for_apart}
use Rattle.pass_array_op.proofs.print.lower_print.Goals as goal

pub splice-requires-clause-apart : goal.splice-requires-clause-apart
splice-requires-clause-apart c = for_apart c.args.asr.now c.sound.ensures c.args.at c.args.number c.requires _ c.stmt.ensures.node _ c.in_ok-nodes.ensures
