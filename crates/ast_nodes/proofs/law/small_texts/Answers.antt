use Rattle.ast_nodes.proofs.ExampleTexts.{program_text, characters_text, section_text, loop_text, variables_text}
use Rattle.ast_nodes.proofs.law.small_texts.Goals as goal

pub returns-clause-program : goal.returns-clause-program
returns-clause-program c = program_text

pub returns-clause-characters : goal.returns-clause-characters
returns-clause-characters c = characters_text

pub returns-clause-section : goal.returns-clause-section
returns-clause-section c = section_text

pub returns-clause-loops : goal.returns-clause-loops
returns-clause-loops c = loop_text

pub returns-clause-variables : goal.returns-clause-variables
returns-clause-variables c = variables_text
