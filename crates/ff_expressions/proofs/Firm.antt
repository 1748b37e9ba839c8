-- No comma, colon, `=` or `=>` stands in an expression outside groups.
use Rattle.std.proofs.Common.{◌≡◌, ℕ, ◌+◌, ◌≤◌, ◌<◌, Bool, true, false, ◌||◌, ◌==◌, List, [], ◌∷◌, ◌++◌, refl, ap, ◌∙◌, eqb-true, arith}
use Rattle.std.specs.List.{list_any}
use Rattle.ff_expressions.specs.declared.item.Parsed.{Parsed}
use Rattle.ff_expressions.specs.declared.item.Reference.{Reference}
use Rattle.ff_expressions.specs.declared.item.Mark.{Mark}
use Rattle.ff_expressions.specs.declared.item.Mark.TheVariants as mark
use Rattle.ff_expressions.specs.declared.item.Bracket.TheVariants.{Round}
use Rattle.ff_expressions.specs.declared.item.Item.{Item}
use Rattle.ff_expressions.specs.declared.item.Item.TheVariants as item
use Rattle.ff_expressions.specs.declared.level.Level.{Level}
use Rattle.ff_expressions.specs.declared.level.Level.TheVariants.{Equivalence, Disjunction, Conjunction, Concatenation, Addition, Multiplication}
use Rattle.ff_expressions.specs.Pieces.{mark_number, is_mark}
use Rattle.ff_expressions.specs.Grammar.{IsJoined, IsDesignator, IsPrimary, IsPower, IsTerm, IsSigned, IsSum, IsText, IsRelation, IsNegation, IsConjunction, IsDisjunction, IsExpression}

abbrev pub Inner : Item → Type 0
Inner (item.Mark mark.Comma) = ⊥
Inner (item.Mark mark.Colon) = ⊥
Inner (item.Mark mark.DoubleColon) = ⊥
Inner (item.Mark mark.Equals) = ⊥
Inner (item.Mark mark.Arrow) = ⊥
Inner _ = Unit {0}

abbrev pub IsFirm : List Item → Type 0
IsFirm [] = Unit {0}
IsFirm (one ∷ items) = Inner one × IsFirm items

pub firm_both : (front behind : List Item) → IsFirm front → IsFirm behind → IsFirm (front ++ behind)
firm_both [] behind p q = q
firm_both (one ∷ front) behind p q = (p.0, firm_both front behind p.1 q)

firm_designator : (items : List Item) (r : Reference) → IsDesignator items r → IsFirm items
firm_designator items r IsDesignator.name = (tt, tt)
firm_designator items r (IsDesignator.with_arguments {front = front} {before = before} {parts = parts} p q) = firm_both front (item.Group Round parts ∷ []) (firm_designator front before p) (tt, tt)
firm_designator items r (IsDesignator.component {front = front} {before = before} name p) = firm_both front (item.Mark mark.Percent ∷ item.Word name ∷ []) (firm_designator front before p) (tt, (tt, tt))

firm_primary : (items : List Item) (e : Parsed) → IsPrimary items e → IsFirm items
firm_primary items e (IsPrimary.designator {reference = r} p) = firm_designator items r p
firm_primary items e IsPrimary.number = (tt, tt)
firm_primary items e IsPrimary.truth = (tt, tt)
firm_primary items e IsPrimary.text = (tt, tt)
firm_primary items e IsPrimary.in_parentheses = (tt, tt)
firm_primary items e (IsPrimary.constructor p q) = (tt, tt)

firm_operator : (front : List Item) (code : ℕ) (behind : List Item) → IsFirm front → IsFirm behind → IsFirm (front ++ item.Mark (mark.Operator code) ∷ behind)
firm_operator front code behind p q = firm_both front (item.Mark (mark.Operator code) ∷ behind) p (tt, q)

firm_joined : (level : Level) (IsFirst IsOperand : List Item → Parsed → Type 0) → ((items : List Item) (e : Parsed) → IsFirst items e → IsFirm items) → ((items : List Item) (e : Parsed) → IsOperand items e → IsFirm items)
    → (items : List Item) (e : Parsed) → IsJoined level IsFirst IsOperand items e → IsFirm items
firm_joined level IsFirst IsOperand f g items e (IsJoined.first p) = f items e p
firm_joined level IsFirst IsOperand f g items e (IsJoined.joined {front = front} {behind = behind} {code = code} {a = a} {b = b} p o q) =
    firm_operator front code behind (firm_joined level IsFirst IsOperand f g front a p) (g behind b q)

firm_power : (items : List Item) (e : Parsed) → IsPower items e → IsFirm items
firm_power items e (IsPower.primary p) = firm_primary items e p
firm_power items e (IsPower.power {front = front} {behind = behind} {code = code} {a = a} {b = b} p o q) = firm_operator front code behind (firm_primary front a p) (firm_power behind b q)

firm_term : (items : List Item) (e : Parsed) → IsTerm items e → IsFirm items
firm_term items e p = firm_joined Multiplication IsPower IsPower firm_power firm_power items e p

firm_signed : (items : List Item) (e : Parsed) → IsSigned items e → IsFirm items
firm_signed items e (IsSigned.unsigned p) = firm_term items e p
firm_signed items e (IsSigned.signed {items = rest} {a = a} o p) = (tt, firm_term rest a p)

firm_sum : (items : List Item) (e : Parsed) → IsSum items e → IsFirm items
firm_sum items e p = firm_joined Addition IsSigned IsTerm firm_signed firm_term items e p

firm_text : (items : List Item) (e : Parsed) → IsText items e → IsFirm items
firm_text items e p = firm_joined Concatenation IsSum IsSum firm_sum firm_sum items e p

firm_relation : (items : List Item) (e : Parsed) → IsRelation items e → IsFirm items
firm_relation items e (IsRelation.text p) = firm_text items e p
firm_relation items e (IsRelation.relation {front = front} {behind = behind} {code = code} {a = a} {b = b} p o q) = firm_operator front code behind (firm_text front a p) (firm_text behind b q)

firm_negation : (items : List Item) (e : Parsed) → IsNegation items e → IsFirm items
firm_negation items e (IsNegation.relation p) = firm_relation items e p
firm_negation items e (IsNegation.negation {items = rest} {a = a} p) = (tt, firm_relation rest a p)

firm_conjunction : (items : List Item) (e : Parsed) → IsConjunction items e → IsFirm items
firm_conjunction items e p = firm_joined Conjunction IsNegation IsNegation firm_negation firm_negation items e p

firm_disjunction : (items : List Item) (e : Parsed) → IsDisjunction items e → IsFirm items
firm_disjunction items e p = firm_joined Disjunction IsConjunction IsConjunction firm_conjunction firm_conjunction items e p

pub firm_expression : (items : List Item) (e : Parsed) → IsExpression items e → IsFirm items
firm_expression items e p = firm_joined Equivalence IsDisjunction IsDisjunction firm_disjunction firm_disjunction items e p

-- Nothing among the items passes a test.
abbrev pub Without : (Item → Bool) → List Item → Type 0
Without test [] = Unit {0}
Without test (one ∷ items) = (test one ≡ false) × Without test items

pub without_both : (test : Item → Bool) (front behind : List Item) → Without test front → Without test behind → Without test (front ++ behind)
without_both test [] behind p q = q
without_both test (one ∷ front) behind p q = (p.0, without_both test front behind p.1 q)

pub without_any : (test : Item → Bool) (items : List Item) → Without test items → list_any test items ≡ false
without_any test [] p = refl
without_any test (one ∷ items) p = ap (λ t. t || list_any test items) p.0 ∙ without_any test items p.1

pub any_there : (test : Item → Bool) (front : List Item) (one : Item) (behind : List Item) → test one ≡ true → list_any test (front ++ one ∷ behind) ≡ true
any_there test [] one behind p = ap (λ t. t || list_any test behind) p
any_there test (other ∷ front) one behind p = by (test other) (any_there test front one behind p)
  where
    by : (t : Bool) → list_any test (front ++ one ∷ behind) ≡ true → (t || list_any test (front ++ one ∷ behind)) ≡ true
    by true h = refl
    by false h = h

pub firm_without : (test : Item → Bool) → ((one : Item) → Inner one → test one ≡ false) → (items : List Item) → IsFirm items → Without test items
firm_without test f [] p = tt
firm_without test f (one ∷ items) p = (f one p.0, firm_without test f items p.1)

unlike : (number at : ℕ) → at < 5 → 5 ≤ number → (number == at) ≡ false
unlike number at h k = by (number == at) refl
  where
    by : (t : Bool) → (number == at) ≡ t → t ≡ false
    by false e = refl
    by true e = let w : number ≡ at = eqb-true number at e in absurd (omega (arith, h, k, w))

pub no_such : (at : Mark) → mark_number at < 5 → (one : Item) → Inner one → is_mark at one ≡ false
no_such at h (item.Mark (mark.Operator code)) p = unlike (code + 6) (mark_number at) h (omega arith)
no_such at h (item.Mark mark.Percent) p = unlike 5 (mark_number at) h (omega arith)
no_such at h (item.Mark mark.Comma) p = absurd p
no_such at h (item.Mark mark.Colon) p = absurd p
no_such at h (item.Mark mark.DoubleColon) p = absurd p
no_such at h (item.Mark mark.Equals) p = absurd p
no_such at h (item.Mark mark.Arrow) p = absurd p
no_such at h (item.Word name) p = refl
no_such at h (item.Number digits suffix) p = refl
no_such at h (item.Truth value) p = refl
no_such at h (item.Text bytes) p = refl
no_such at h (item.Group bracket parts) p = refl
