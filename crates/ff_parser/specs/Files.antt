-- The file that statements are (ISO/IEC 1539-1:2018, 5.1), or their first fault.
use Rattle.std.specs.Prelude.{◌≡◌, ℕ, Bool, ◌&&◌, ◌||◌, ◌==◌, false, List, [], ◌∷◌, map, Option, Some, None, Result, Ok, Err, if◌then◌else◌}
use Rattle.std.specs.List.{AllByRecursion as Each}
use Rattle.lf_base.specs.declared.rule.Rule.{Rule}
use Rattle.lf_base.specs.declared.rule.Rule.TheVariants.{E203, E204, E205, E206}
use Rattle.ast_nodes.specs.declared.file.File.{File}
use Rattle.ff_forms.specs.declared.form.Formed.{Formed}
use Rattle.lf_base.specs.declared.fault.SyntaxFault.{SyntaxFault}
use Rattle.lf_base.specs.declared.fault.SyntaxFault.TheVariants.{At, Memory}
use Rattle.ff_lexer.specs.Statements.{Spelled}
use Rattle.ff_forms.specs.Cases.{IsStatement}
use Rattle.ff_forms.specs.Forms.{form_of}
use Rattle.ff_parser.specs.declared.nest.Definition.{Definition}
use Rattle.ff_parser.specs.declared.nest.Definition.TheVariants as definition
use Rattle.ff_parser.specs.declared.nest.Nest.{Nest}
use Rattle.ff_parser.specs.declared.nest.Nest.TheVariants as nest
use Rattle.ff_parser.specs.Allowed.{is_allowed}
use Rattle.ff_parser.specs.Names.{is_named, begins_construct, is_full}
use Rattle.ff_parser.specs.Taken.{taken}
use Rattle.ff_parser.specs.Grammar.{Stated, IsNested}

-- the value, or the line and the rule of a fault
abbrev pub Judged : Type 0 → Type 0
Judged T = Result T (ℕ × Rule)

abbrev pub and_then : {S T : Type 0} → Judged S → (S → Judged T) → Judged T
and_then (Err fault) next = Err fault
and_then (Ok value) next = next value

-- an expression is too deep, or a construct is one too many
abbrev pub is_too_deep : Nest → Formed → Bool
is_too_deep n f = f.is_deep == 1 || (begins_construct f.form && is_full n)

-- of the rules that a statement breaks where it stands, the one of the least number
abbrev pub broken : Nest → Formed → Option Rule
broken n f =
    if is_allowed n f.form then (if is_named n f.form then (if is_too_deep n f then Some E206 else None) else Some E205) else Some E203

-- a value, unless a rule is broken on this line
abbrev pub unless : {T : Type 0} → Option Rule → ℕ → T → Judged T
unless None line value = Ok value
unless (Some rule) line value = Err (line, rule)

-- what is open behind a statement
abbrev pub step : Nest → Formed → Judged Nest
step n f = unless (broken n f) f.line (taken n f.line f.form)

abbrev pub line_of_definition : Definition → ℕ
line_of_definition (definition.Type line name access components) = line
line_of_definition (definition.Interface line name names) = line

-- the line of the first statement of the innermost that is open
abbrev pub line_of_open : Nest → ℕ
line_of_open (nest.Outside units) = 0
line_of_open (nest.Scope units scope) = scope.line
line_of_open (nest.Definition units scope definition) = line_of_definition definition
line_of_open (nest.Construct units scope level around) = level.line

-- the units, unless something is open, which is told at this line
abbrev pub closed_file : Nest → ℕ → Judged File
closed_file (nest.Outside units) line = Ok (record { units = units })
closed_file _ line = Err (line, E204)

-- Behind the last statement nothing is open.
abbrev pub ended : Nest → Judged File
ended n = closed_file n (line_of_open n)

-- the file whose rest these statements are, behind what is open
abbrev pub rest_of : Nest → List (Judged Formed) → Judged File
rest_of n [] = ended n
rest_of n (f ∷ fs) = and_then (and_then f (step n)) (λ next. rest_of next fs)

-- the file that statements in their forms are
abbrev pub file_of : List (Judged Formed) → Judged File
file_of forms = rest_of (nest.Outside []) forms

-- what is open behind these statements
abbrev pub reached : Nest → List (Judged Formed) → Judged Nest
reached n [] = Ok n
reached n (f ∷ fs) = and_then (and_then f (step n)) (λ next. reached next fs)

abbrev pub reached_by : List (Judged Formed) → Judged Nest
reached_by forms = reached (nest.Outside []) forms

-- the form of a statement, or its line and the rule by which it has none
abbrev pub on_line : ℕ → Result Formed Rule → Judged Formed
on_line line (Ok formed) = Ok formed
on_line line (Err rule) = Err (line, rule)

abbrev pub form_in : ℕ × List Spelled → Judged Formed
form_in statement = on_line statement.0 (form_of statement.0 statement.1)

-- the file that statements are, behind what is open
abbrev pub file_behind : Nest → List (ℕ × List Spelled) → Judged File
file_behind n statements = rest_of n (map form_in statements)

-- the file that statements are
abbrev pub file_in : List (ℕ × List Spelled) → Judged File
file_in statements = file_of (map form_in statements)

-- Each statement is of the form beside it, by the cases of its grammar.
abbrev pub AreOfForms : List (ℕ × List Spelled) → List Formed → Type 0
AreOfForms [] [] = Unit {0}
AreOfForms [] (f ∷ fs) = ⊥
AreOfForms (s ∷ ss) [] = ⊥
AreOfForms (s ∷ ss) (f ∷ fs) = IsStatement s.0 s.1 f × AreOfForms ss fs

-- no expression of it is too deep
abbrev pub IsShallow : Formed → Type 0
IsShallow f = (f.is_deep == 1) ≡ false

abbrev pub stated : Formed → Stated
stated f = (f.line, f.form)

-- The statements are this file: each has a form, no expression is too deep, and by the grammar the forms are what the file is written as.
abbrev pub IsFile : List (ℕ × List Spelled) → File → Type 0
IsFile statements file = (forms : List Formed) × AreOfForms statements forms × Each IsShallow forms × IsNested (map stated forms) file

-- What was answered is the file by the grammar, and where a fault was there is none, unless memory ran out.
abbrev pub Parses : List (ℕ × List Spelled) → Result File SyntaxFault → Type 0
Parses statements (Ok file) = IsFile statements file
Parses statements (Err Memory) = Unit {0}
Parses statements (Err (At line rule)) = (file : File) → IsFile statements file → ⊥

-- What was answered is what there is, unless memory ran out.
abbrev pub Answers : {S T : Type 0} → (S → T) → Result S SyntaxFault → Judged T → Type 0
Answers found (Ok value) there = there ≡ Ok (found value)
Answers found (Err Memory) there = Unit {0}
Answers found (Err (At line rule)) there = there ≡ Err (line, rule)

-- What was answered leads on to what there is, unless memory ran out.
abbrev pub Leads : Result Nest SyntaxFault → (Nest → Judged File) → Judged File → Type 0
Leads (Ok next) behind there = there ≡ behind next
Leads (Err Memory) behind there = Unit {0}
Leads (Err (At line rule)) behind there = there ≡ Err (line, rule)
