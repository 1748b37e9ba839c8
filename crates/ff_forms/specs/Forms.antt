-- The form of a statement, by its tokens.
use Rattle.std.specs.Prelude.{◌≡◌, ℕ, List, nat_lt, Some, None, Result, Ok, Err, if◌then◌else◌}
use Rattle.lf_base.specs.declared.fault.SyntaxFault.{SyntaxFault}
use Rattle.lf_base.specs.declared.fault.SyntaxFault.TheVariants.{At, Memory}
use Rattle.lf_base.specs.declared.rule.Rule.{Rule}
use Rattle.ff_lexer.specs.Statements.{Spelled}
use Rattle.ff_expressions.specs.Items.{items_of}
use Rattle.ff_forms.specs.declared.form.Form.{Form}
use Rattle.ff_forms.specs.declared.form.Formed.{Formed}
use Rattle.ff_forms.specs.Answers.{on, Read}
use Rattle.ff_forms.specs.Rows.{statement_of}
use Rattle.ff_forms.specs.Words.{rule_of}

-- 1 above the greatest depth of an expression
unfoldable pub deep_flag : ℕ → ℕ
deep_flag depth = if nat_lt 256 depth then 1 else 0

unfoldable pub read_of : ℕ → List Spelled → Read Form
read_of line tokens = on (items_of tokens) (statement_of line)

unfoldable pub judged : ℕ → List Spelled → Read Form → Result Formed Rule
judged line tokens None = Err (rule_of tokens)
judged line tokens (Some read) = Ok (record { line = line; form = read.0; is_deep = deep_flag read.1 })

-- the form of the statement that these tokens are, on this line, or the rule that they break
unfoldable pub form_of : ℕ → List Spelled → Result Formed Rule
form_of line tokens = judged line tokens (read_of line tokens)

-- What was answered is what there is, unless memory ran out.
abbrev pub StatementGives : ℕ → Result Formed SyntaxFault → Result Formed Rule → Type 0
StatementGives line (Ok formed) there = there ≡ Ok formed
StatementGives line (Err Memory) there = Unit {0}
StatementGives line (Err (At at rule)) there = (at ≡ line) × (there ≡ Err rule)

-- A fault tells this rule with the line, unless memory ran out.
abbrev pub FaultGives : ℕ → SyntaxFault → Rule → Type 0
FaultGives line Memory there = Unit {0}
FaultGives line (At at rule) there = (at ≡ line) × (there ≡ rule)
