use Rattle.std.proofs.Common.{[], Option, Some, None, ap, sym, subst}
use Rattle.c_nodes.specs.declared.tree.CFile.{CFile}
use Rattle.c_prelude.specs.PreludeFile.{Spells}
use Rattle.c_prelude.specs.PreludeMachine.{State}
use Rattle.c_prelude.specs.PreludeText.{prelude_text}
use Rattle.c_prelude.proofs.PreludeTexts.{prelude_spelled}
use Rattle.c_prelude.proofs.prelude_file.prelude.Goals as goal

abbrev file_of : Option State → CFile
file_of None = record { items = [] }
file_of (Some s) = record { items = s.items }

pub returns-in-Ok-clause-file : goal.returns-in-Ok-clause-file
returns-in-Ok-clause-file c = sym (ap file_of c.in-Ok.ensures)

pub returns-in-Ok-clause-text : goal.returns-in-Ok-clause-text
returns-in-Ok-clause-text c = subst (Spells prelude_text) (ap file_of c.in-Ok.ensures) prelude_spelled
