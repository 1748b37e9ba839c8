-- From a text to its tree, and to what is built of it: first its lexical form (ISO/IEC 1539-1:2018, 6), then the
-- statements' (R501), and then the forms that are built.
use Rattle.std.specs.Prelude.{◌≡◌, ℕ, List, Result, Ok, Err}
use Rattle.lf_base.specs.declared.fault.SyntaxFault.{SyntaxFault}
use Rattle.lf_base.specs.declared.fault.SyntaxFault.TheVariants as syntax
use Rattle.lf_base.specs.declared.rule.Rule.{Rule}
use Rattle.ff_lexer.specs.Statements.{Spelled, Found, statements_of}
use Rattle.ff_parser.specs.Files.{file_in}
use Rattle.ast_nodes.specs.declared.file.File.{File}
use Rattle.lf_driver.specs.OnePrint.Built.{Judged, judged, program_in}

-- the tree of a file, or the line and the rule of the first fault
abbrev pub Parsed : Type 0
Parsed = Result File (ℕ × Rule)

abbrev pub then_file : Found Spelled → Parsed
then_file (Ok statements) = file_in statements
then_file (Err fault) = Err fault

-- the tree of a text
abbrev pub front_of : List ℕ → Parsed
front_of text = then_file (statements_of text)

abbrev pub then_built : Parsed → Judged
then_built (Ok file) = judged (program_in file)
then_built (Err fault) = Err fault

-- what is built of a text
abbrev pub source_in : List ℕ → Judged
source_in text = then_built (front_of text)

-- The tree that was answered is that of a text, or the first fault is.
abbrev pub GivesFile : Result File SyntaxFault → Parsed → Type 0
GivesFile (Ok file) there = there ≡ Ok file
GivesFile (Err syntax.Memory) there = Unit {0}
GivesFile (Err (syntax.At line rule)) there = there ≡ Err (line, rule)
