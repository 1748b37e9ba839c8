-- What the code that lowers the one program answers.
use Rattle.std.specs.Prelude.{◌≡◌, ℕ, ◌+◌, ◌<◌, ◌^◌, true, List, ◌++◌, length, Option, Some, None, Result, Ok, Err}
use Rattle.std.specs.List.{list_all}
use Rattle.lf_base.specs.declared.fault.Memory.{Memory}
use Rattle.lf_base.specs.declared.fault.SyntaxFault.{SyntaxFault}
use Rattle.lf_base.specs.declared.fault.SyntaxFault.TheVariants as syntax
use Rattle.lf_base.specs.Outcome.{Location}
use Rattle.lf_base.specs.declared.rule.Rule.TheVariants.{E202}
use Rattle.c_nodes.specs.declared.tree.CFile.{CFile}
use Rattle.c_nodes.specs.declared.tree.CStmt.{CStmt}
use Rattle.c_prelude.specs.Prelude.{prelude_file}
use Rattle.lf_driver.specs.declared.one_print.lower.Located.{Located}
use Rattle.lf_driver.specs.OnePrint.Source.{Tree, Source}
use Rattle.lf_driver.specs.OnePrint.Built.{Building, is_name_byte}
use Rattle.lf_driver.specs.OnePrint.Fortran.{IsSmall}
use Rattle.lf_driver.specs.OnePrint.Lowered.{count, lowered, printed, items_with, c_file}

-- where a statement stands
abbrev pub location_at : Located → Location
location_at at = record { source = at.source.now; line = at.line }

-- The statements of a value were added behind so many temporaries, and the number of the last one was answered; or
-- there is no value that is built.
abbrev pub Emits : Location → Result (Option ℕ) Memory → Option Tree → ℕ → List CStmt → List CStmt → Type 0
Emits location (Err memory) there behind old new = Unit {0}
Emits location (Ok None) there behind old new = there ≡ None
Emits location (Ok (Some last)) there behind old new = (tree : Tree) × (there ≡ Some tree) × IsSmall tree × (new ≡ old ++ lowered location tree behind) × (last ≡ behind + count tree)

-- the same of the statements that print a value
abbrev pub EmitsPrint : Location → Result (Option (List CStmt)) Memory → Option Tree → Type 0
EmitsPrint location (Err memory) there = Unit {0}
EmitsPrint location (Ok None) there = there ≡ None
EmitsPrint location (Ok (Some body)) there = (tree : Tree) × (there ≡ Some tree) × IsSmall tree × (count tree < 2 ^ 64) × (body ≡ printed location tree)

-- The literals are of kind 4, the name has the bytes of a name, neither it nor the temporaries outnumber memory, and the
-- line is one of 32 bits.
pub record IsBounded (source : Source) : Type 0 where
  pub small : IsSmall source.value
  pub few : count source.value < 2 ^ 64
  pub short : length source.name < 2 ^ 64
  pub named : list_all is_name_byte source.name ≡ true
  pub line : source.line < 2 ^ 32

abbrev pub IsFit : Option Source → Type 0
IsFit None = Unit {0}
IsFit (Some source) = IsBounded source

-- The C file of what is built of the file of this name was answered, or the line of the first form that is not.
abbrev pub Lowers : List ℕ → Result CFile SyntaxFault → Building → Type 0
Lowers name (Ok file) there = (source : Option Source) × (there ≡ Ok source) × IsFit source × (file ≡ c_file name source)
Lowers name (Err syntax.Memory) there = Unit {0}
Lowers name (Err (syntax.At line rule)) there = (there ≡ Err line) × (rule ≡ E202)

-- The C file of a program with these statements was answered, or the line of the form that stands behind them.
abbrev pub EndsProgram : List ℕ → List CStmt → Result CFile SyntaxFault → Option ℕ → Type 0
EndsProgram name statements (Ok file) behind = (behind ≡ None) × (length name < 2 ^ 64) × (file ≡ record { items = prelude_file.items ++ items_with name statements })
EndsProgram name statements (Err syntax.Memory) behind = Unit {0}
EndsProgram name statements (Err (syntax.At line rule)) behind = (behind ≡ Some line) × (rule ≡ E202)
