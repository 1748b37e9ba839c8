use Rattle.std.proofs.Common.{ap, ◌∙◌, Err}
use Rattle.ast_to_asr.proofs.Told.{many_parts, many_of_int}
use Rattle.ast_to_asr.proofs.judge.+judge.Goals as goal

pub designator_told-returns-in-len3-up : goal.designator_told-returns-in-len3-up
designator_told-returns-in-len3-up n c = many_parts c.args.names.now c.args.designator.now c.as_slice.result.now c.as_slice.ensures c.in-len3-up.len_at_least

pub int-returns-in-len3-up : goal.int-returns-in-len3-up
int-returns-in-len3-up n c = ap Err c.least.ensures ∙ many_of_int c.args.names.now c.args.arguments.now c.in-len3-up.len_at_least
