use Rattle.asr_nodes.proofs.ExampleTrees.{program_read}
use Rattle.asr_nodes.proofs.law.small_program_is_read.Goals as goal

pub returns : goal.returns
returns c = program_read
