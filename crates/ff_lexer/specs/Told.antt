-- The statements of a source with their lines and tokens, said without reading it (ISO/IEC 1539-1:2018, 6.2 and 6.3.2).
use Rattle.std.specs.Prelude.{◌≡◌, ℕ, ◌≤◌, List, [], ◌∷◌, length, Result, Ok, Err}
use Rattle.lf_base.specs.declared.fault.LexFault.{LexFault}
use Rattle.lf_base.specs.declared.fault.LexFault.TheVariants.{At, Memory}
use Rattle.ff_lexer.specs.Continued.{HasDrafts}
use Rattle.ff_lexer.specs.Lexemes.{lexed}
use Rattle.ff_lexer.specs.Lines.{Draft}
use Rattle.ff_lexer.specs.Statements.{greatest_source, Spelled, spelled_as}

-- a statement in front of others: without a token it is none
abbrev pub in_front_of : ℕ → List Spelled → List (ℕ × List Spelled) → List (ℕ × List Spelled)
in_front_of line [] statements = statements
in_front_of line (token ∷ tokens) statements = (line, token ∷ tokens) ∷ statements

-- Each statement has its tokens and breaks no rule.
abbrev pub AreTold : List Draft → List (ℕ × List Spelled) → Type 0
AreTold [] statements = statements ≡ []
AreTold (d ∷ ds) statements = (tokens : List Spelled) × (more : List (ℕ × List Spelled)) × (lexed spelled_as d ≡ Ok tokens) × AreTold ds more × (statements ≡ in_front_of d.line tokens more)

-- The text has these statements: it is not too large, its lines give them, and each has its tokens and breaks no rule.
pub record StatementsOf (text : List ℕ) (statements : List (ℕ × List Spelled)) : Type 0 where
  pub size : length text ≤ greatest_source
  pub drafts : List Draft
  pub has_drafts : HasDrafts text drafts
  pub are_told : AreTold drafts statements

-- What was answered are the statements of the text, and where a fault was it has none, unless memory ran out.
abbrev pub Relates : {T : Type 0} → List ℕ → (T → List (ℕ × List Spelled)) → Result T LexFault → Type 0
Relates text spelled (Ok answered) = StatementsOf text (spelled answered)
Relates text spelled (Err Memory) = Unit {0}
Relates text spelled (Err (At line rule)) = (statements : List (ℕ × List Spelled)) → StatementsOf text statements → ⊥
