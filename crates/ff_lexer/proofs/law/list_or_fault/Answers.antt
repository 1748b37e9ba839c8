use Rattle.std.proofs.Common.{◌≡◌, ℕ, List, Ok, Err, inl, inr, ◌⊎◌, refl}
use Rattle.lf_base.specs.declared.rule.Rule.{Rule}
use Rattle.ff_lexer.specs.Statements.{Spelled, Found, statements_of}
use Rattle.ff_lexer.specs.Told.{StatementsOf}
use Rattle.ff_lexer.proofs.Telling.{source_there, not_at_fault}
use Rattle.ff_lexer.proofs.law.list_or_fault.Goals as goal

either : (text : List ℕ) (found : Found Spelled) → statements_of text ≡ found → ((statements : List (ℕ × List Spelled)) × StatementsOf text statements) ⊎ ((fault : ℕ × Rule) × (statements_of text ≡ Err fault))
either text (Ok statements) h = inl (statements, source_there text statements h)
either text (Err fault) h = inr (fault, h)

pub returns-clause-some : goal.returns-clause-some
returns-clause-some c = λ text. either text (statements_of text) refl

pub returns-clause-one : goal.returns-clause-one
returns-clause-one c = not_at_fault
