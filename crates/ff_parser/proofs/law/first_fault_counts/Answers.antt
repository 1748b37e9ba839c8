use Rattle.std.specs.Prelude.{[]}
use Rattle.ff_parser.specs.declared.nest.Nest.TheVariants.{Outside}
use Rattle.ff_parser.proofs.Laws.{first_fault}
use Rattle.ff_parser.proofs.law.first_fault_counts.Goals as goal

pub returns : goal.returns
returns c = λ front behind fault h. first_fault front behind (Outside []) fault h
