use Rattle.asr_nodes.proofs.ExampleTexts.{program_text, home_text, selection_text}
use Rattle.asr_nodes.proofs.law.small_texts.Goals as goal

pub returns-clause-program : goal.returns-clause-program
returns-clause-program c = program_text

pub returns-clause-home : goal.returns-clause-home
returns-clause-home c = home_text

pub returns-clause-selection : goal.returns-clause-selection
returns-clause-selection c = selection_text
