use Rattle.std.proofs.Common.{◌∙◌}
use Rattle.pass_array_op.proofs.Loops.{found_lowered, found_differ, lowers_body}
use Rattle.pass_array_op.proofs.body.lower_statements.Goals as goal

pub lower_all-requires-clause-lowered : goal.lower_all-requires-clause-lowered
lower_all-requires-clause-lowered c = found_lowered c.args.asr.now c.args.body.now c.deref.result.now (c.deref.ensures.value ∙ c.in_ok-found.ensures)

pub lower_all-requires-clause-differ : goal.lower_all-requires-clause-differ
lower_all-requires-clause-differ c = found_differ c.args.asr.now c.args.body.now c.deref.result.now (c.deref.ensures.value ∙ c.in_ok-found.ensures) c.requires.once

pub returns : goal.returns
returns c =
    lowers_body c.args.asr.now c.lower_all.new.asr c.sound.ensures c.sound-2.ensures c.args.body.now c.args.number c.deref.result.now c.requires.there (c.deref.ensures.value ∙ c.in_ok-found.ensures) c.in_ok-lower_all.ensures
