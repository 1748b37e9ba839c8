-- What is found in a list of items is what the grammar says, and only that.
use Rattle.std.proofs.Common.{◌≡◌, ℕ, ◌+◌, ◌≤◌, Bool, true, false, List, [], ◌∷◌, ◌++◌, Option, Some, None, refl, sym, subst, ap, ◌∙◌, append-nil, eqb-true, arith}
use Rattle.std.specs.Prelude.{if◌then◌else◌, slice_get}
use Rattle.std.specs.Option.{option_map}
use Rattle.ff_expressions.specs.declared.item.Parsed.{Parsed}
use Rattle.ff_expressions.specs.declared.item.Item.{Item}
use Rattle.ff_expressions.specs.declared.item.Item.TheVariants as item
use Rattle.ff_expressions.specs.declared.item.Mark.TheVariants.{Operator}
use Rattle.ff_expressions.specs.declared.item.Mark.TheVariants as mark
use Rattle.ff_expressions.specs.declared.level.Level.TheVariants.{Equivalence, Disjunction, Conjunction, Relation, Concatenation, Addition, Multiplication, Power}
use Rattle.ff_expressions.specs.Pieces.{is_mark, stands}
use Rattle.ff_expressions.specs.Binding.{looseness}
use Rattle.ff_expressions.specs.Trees.{unary, binary}
use Rattle.ff_expressions.specs.Expressions.{first_operand, other_operands, joined, to_left, to_right, at_most_two, primary_of, power_of, term_of, sign_in_front, behind_first, behind_sign, sum_behind, sum_of, text_of, relation_of, negation_of, conjunction_of, disjunction_of, expression_of}
use Rattle.ff_expressions.specs.Grammar.{IsOperator, IsJoined, IsPrimary, IsPower, IsTerm, IsSigned, IsSum, IsText, IsRelation, IsNegation, IsConjunction, IsDisjunction, IsExpression}
use Rattle.ff_expressions.proofs.Joined.{nowhere, inside, false_is_true, maps, both, flat, operator_is, operator_there, left_found, operands_in, rejoined, IsFree, AreOf, AreFree, apart, all_of, first_again, others_again, level_found, level_only, below_joined, below_both, below_looser, below_operator, is_free, Below}
use Rattle.ff_expressions.proofs.Primaries.{primary_is, only_primary, below_primary}

-- powers
right_found : (others : List (ℕ × List Item)) (first : List Item) (e : Parsed) → AreOf Power others → to_right primary_of first others ≡ Some e → IsPower (first ++ flat others) e
right_found [] first e p h = subst (λ items. IsPower items e) (sym (append-nil first)) (IsPower.primary (primary_is first e h))
right_found (other ∷ others) first e p h =
    both other.0 (primary_of first) (to_right primary_of other.1 others) e h (λ a b l r same.
    subst (λ t. IsPower (first ++ item.Mark (Operator other.0) ∷ (other.1 ++ flat others)) t) same (IsPower.power (primary_is first a l) p.0 (right_found others other.1 b p.1 r)))

power_is : (items : List Item) (e : Parsed) → power_of items ≡ Some e → IsPower items e
unfolding power_of
power_is items e h = subst (λ i. IsPower i e) (sym (apart Power items)) (right_found (other_operands Power items) (first_operand Power items) e (all_of Power items) h)

bases_in : (items : List Item) (e : Parsed) → IsPower items e
    → (first : List Item) × (a : Parsed) × (others : List (ℕ × List Item)) × (items ≡ first ++ flat others) × IsPrimary first a × AreOf Power others × AreFree Power others × (to_right primary_of first others ≡ Some e)
bases_in items e (IsPower.primary p) = (items, e, [], sym (append-nil items), p, tt, tt, only_primary items e p)
bases_in items e (IsPower.power {front = front} {behind = behind} {code = code} {a = a} {b = b} p o q) =
    let s = bases_in behind b q in (
      front,
      a,
      (code, s.0) ∷ s.2,
      ap (λ i. front ++ item.Mark (Operator code) ∷ i) s.3,
      p,
      (o, s.5),
      (is_free Power s.0 (below_primary s.0 s.1 s.4), s.6),
      ap (λ r. joined code (primary_of front) r) s.7 ∙ ap (λ l. joined code l (Some b)) (only_primary front a p),
    )

only_power : (items : List Item) (e : Parsed) → IsPower items e → power_of items ≡ Some e
unfolding power_of
only_power items e p =
    let s = bases_in items e p in
    let f = is_free Power s.0 (below_primary s.0 s.1 s.4) in
    ap (λ i. to_right primary_of (first_operand Power i) (other_operands Power i)) s.3
    ∙ ap (λ i. to_right primary_of i (other_operands Power (s.0 ++ flat s.2))) (first_again Power s.0 s.2 f s.5)
    ∙ ap (λ os. to_right primary_of s.0 os) (others_again Power s.0 s.2 f s.5 s.6)
    ∙ s.7

below_power : (items : List Item) (e : Parsed) → IsPower items e → Below 1 items
below_power items e (IsPower.primary p) = below_looser 0 1 (omega arith) items (below_primary items e p)
below_power items e (IsPower.power {front = front} {behind = behind} {code = code} {a = a} {b = b} p o q) =
    below_both 1 front (item.Mark (Operator code) ∷ behind) (below_looser 0 1 (omega arith) front (below_primary front a p)) (below_operator 1 (omega arith) o, below_power behind b q)

-- terms
term_is : (items : List Item) (e : Parsed) → term_of items ≡ Some e → IsTerm items e
unfolding term_of
term_is items e h = level_found Multiplication IsPower power_of power_is items e h

only_term : (items : List Item) (e : Parsed) → IsTerm items e → term_of items ≡ Some e
unfolding term_of
only_term items e p = level_only Multiplication IsPower power_of only_power (λ i e q. is_free Multiplication i (below_power i e q)) items e p

below_term : (items : List Item) (e : Parsed) → IsTerm items e → Below 2 items
below_term items e p = below_joined Multiplication IsPower IsPower 2 (omega arith) (λ i e q. below_looser 1 2 (omega arith) i (below_power i e q)) (λ i e q. below_looser 1 2 (omega arith) i (below_power i e q)) items e p

-- sums
sum_is : (items : List Item) (e : Parsed) → sum_of items ≡ Some e → IsSum items e
unfolding sum_of
sum_is items e h = by items (sign_in_front items) refl h
  where
    plain : (items : List Item) → sum_behind None items ≡ Some e → IsSum items e
    plain items h = subst (λ i. IsSum i e) (sym (apart Addition items))
        (left_found Addition IsSigned IsTerm term_of term_is (other_operands Addition items) (first_operand Addition items) (term_of (first_operand Addition items)) e (all_of Addition items)
        (λ a k. IsJoined.first (IsSigned.unsigned (term_is (first_operand Addition items) a k))) h)

    with_one : (code : ℕ) (rest : List Item) → IsOperator Addition code → sum_behind (Some code) rest ≡ Some e → IsSum (item.Mark (Operator code) ∷ rest) e
    with_one code rest o h = subst (λ i. IsSum (item.Mark (Operator code) ∷ i) e) (sym (apart Addition rest))
        (left_found Addition IsSigned IsTerm term_of term_is (other_operands Addition rest) (item.Mark (Operator code) ∷ first_operand Addition rest) (option_map (unary code) (term_of (first_operand Addition rest))) e (all_of Addition rest)
        (λ a k. maps (term_of (first_operand Addition rest)) (unary code) a k (λ t l same. subst (λ u. IsSum (item.Mark (Operator code) ∷ first_operand Addition rest) u) same (IsJoined.first (IsSigned.signed o (term_is (first_operand Addition rest) t l))))) h)

    by : (items : List Item) (sign : Option ℕ) → sign_in_front items ≡ sign → sum_behind sign (behind_sign sign items) ≡ Some e → IsSum items e
    by items None s h = plain items h
    by [] (Some code) s h = nowhere code s
    by (one ∷ rest) (Some code) s h = let p = operator_is Addition one code s in subst (λ x. IsSum (x ∷ rest) e) (sym p.0) (with_one code rest p.1 h)

-- nothing is no term
no_term : {R : Type 0} (a : Parsed) → term_of [] ≡ Some a → R
unfolding term_of power_of primary_of
no_term a h = nowhere a h

unsigned_front : (first : List Item) (a : Parsed) (others : List (ℕ × List Item)) → IsTerm first a → sign_in_front (first ++ flat others) ≡ None
unsigned_front [] a others p = no_term a (only_term [] a p)
unsigned_front (one ∷ first) a others p = (is_free Addition (one ∷ first) (below_term (one ∷ first) a p)).0

sum_again : (first : List Item) (a e : Parsed) (others : List (ℕ × List Item)) → IsSigned first a → AreOf Addition others → AreFree Addition others → to_left term_of (Some a) others ≡ Some e → sum_of (first ++ flat others) ≡ Some e
unfolding sum_of
sum_again first a e others (IsSigned.unsigned p) o f h =
    ap (λ sign. sum_behind sign (behind_sign sign (first ++ flat others))) (unsigned_front first a others p)
    ∙ rejoined Addition term_of term_of first others a e (is_free Addition first (below_term first a p)) o f (only_term first a p) h
sum_again first a e others (IsSigned.signed {items = items} {code = code} {a = b} q p) o f h =
    ap (λ sign. sum_behind sign (behind_sign sign (item.Mark (Operator code) ∷ (items ++ flat others)))) (operator_there q)
    ∙ rejoined Addition (λ i. option_map (unary code) (term_of i)) term_of items others (unary code b) e (is_free Addition items (below_term items b p)) o f (ap (λ t. option_map (unary code) t) (only_term items b p)) h

only_sum : (items : List Item) (e : Parsed) → IsSum items e → sum_of items ≡ Some e
only_sum items e p =
    let s = operands_in Addition IsSigned IsTerm term_of only_term (λ i e q. is_free Addition i (below_term i e q)) items e p in
    ap sum_of s.3 ∙ sum_again s.0 s.1 e s.2 s.4 s.5 s.6 s.7

below_signed : (items : List Item) (e : Parsed) → IsSigned items e → Below 3 items
below_signed items e (IsSigned.unsigned p) = below_looser 2 3 (omega arith) items (below_term items e p)
below_signed items e (IsSigned.signed {items = rest} {a = a} o p) = (below_operator 3 (omega arith) o, below_looser 2 3 (omega arith) rest (below_term rest a p))

below_sum : (items : List Item) (e : Parsed) → IsSum items e → Below 3 items
below_sum items e p = below_joined Addition IsSigned IsTerm 3 (omega arith) below_signed (λ i e q. below_looser 2 3 (omega arith) i (below_term i e q)) items e p

-- texts
text_is : (items : List Item) (e : Parsed) → text_of items ≡ Some e → IsText items e
unfolding text_of
text_is items e h = level_found Concatenation IsSum sum_of sum_is items e h

only_text : (items : List Item) (e : Parsed) → IsText items e → text_of items ≡ Some e
unfolding text_of
only_text items e p = level_only Concatenation IsSum sum_of only_sum (λ i e q. is_free Concatenation i (below_sum i e q)) items e p

below_text : (items : List Item) (e : Parsed) → IsText items e → Below 4 items
below_text items e p = below_joined Concatenation IsSum IsSum 4 (omega arith) (λ i e q. below_looser 3 4 (omega arith) i (below_sum i e q)) (λ i e q. below_looser 3 4 (omega arith) i (below_sum i e q)) items e p

-- relations
related : (first : List Item) (others : List (ℕ × List Item)) (e : Parsed) → AreOf Relation others → at_most_two text_of (text_of first) others ≡ Some e → IsRelation (first ++ flat others) e
related first [] e p h = subst (λ i. IsRelation i e) (sym (append-nil first)) (IsRelation.text (text_is first e h))
related first (other ∷ []) e p h =
    both other.0 (text_of first) (text_of other.1) e h (λ a b l r same.
    subst (λ t. IsRelation (first ++ item.Mark (Operator other.0) ∷ (other.1 ++ [])) t) same
    (subst (λ i. IsRelation (first ++ item.Mark (Operator other.0) ∷ i) (binary other.0 a b)) (sym (append-nil other.1)) (IsRelation.relation (text_is first a l) p.0 (text_is other.1 b r))))
related first (other ∷ third ∷ others) e p h = nowhere e h

relation_is : (items : List Item) (e : Parsed) → relation_of items ≡ Some e → IsRelation items e
unfolding relation_of
relation_is items e h = subst (λ i. IsRelation i e) (sym (apart Relation items)) (related (first_operand Relation items) (other_operands Relation items) e (all_of Relation items) h)

relation_again : (first : List Item) (others : List (ℕ × List Item)) (e : Parsed) → IsFree Relation first → AreOf Relation others → AreFree Relation others
    → at_most_two text_of (text_of first) others ≡ Some e → relation_of (first ++ flat others) ≡ Some e
unfolding relation_of
relation_again first others e f p q h =
    ap (λ i. at_most_two text_of (text_of i) (other_operands Relation (first ++ flat others))) (first_again Relation first others f p)
    ∙ ap (λ os. at_most_two text_of (text_of first) os) (others_again Relation first others f p q)
    ∙ h

free_text : (items : List Item) (e : Parsed) → IsText items e → IsFree Relation items
free_text items e p = is_free Relation items (below_text items e p)

only_relation : (items : List Item) (e : Parsed) → IsRelation items e → relation_of items ≡ Some e
only_relation items e (IsRelation.text p) = ap relation_of (sym (append-nil items)) ∙ relation_again items [] e (free_text items e p) tt tt (only_text items e p)
only_relation items e (IsRelation.relation {front = front} {behind = behind} {code = code} {a = a} {b = b} p o q) =
    ap (λ i. relation_of (front ++ item.Mark (Operator code) ∷ i)) (sym (append-nil behind))
    ∙ relation_again front ((code, behind) ∷ []) (binary code a b) (free_text front a p) (o, tt) (free_text behind b q, tt)
    (ap (λ l. joined code l (text_of behind)) (only_text front a p) ∙ ap (λ r. joined code (Some a) r) (only_text behind b q))

below_relation : (items : List Item) (e : Parsed) → IsRelation items e → Below 5 items
below_relation items e (IsRelation.text p) = below_looser 4 5 (omega arith) items (below_text items e p)
below_relation items e (IsRelation.relation {front = front} {behind = behind} {code = code} {a = a} {b = b} p o q) =
    below_both 5 front (item.Mark (Operator code) ∷ behind) (below_looser 4 5 (omega arith) front (below_text front a p)) (below_operator 5 (omega arith) o, below_looser 4 5 (omega arith) behind (below_text behind b q))

-- `.not.`
pub operator_mark : (code : ℕ) (one : Item) → is_mark (Operator code) one ≡ true → one ≡ item.Mark (Operator code)
operator_mark code (item.Mark (Operator other)) e = let w : other + 6 ≡ code + 6 = eqb-true (other + 6) (code + 6) e in let same : other ≡ code = omega (arith, w) in ap (λ c. item.Mark (Operator c)) same
operator_mark code (item.Mark mark.Comma) e = let w : 0 ≡ code + 6 = eqb-true 0 (code + 6) e in absurd (omega (arith, w))
operator_mark code (item.Mark mark.Colon) e = let w : 1 ≡ code + 6 = eqb-true 1 (code + 6) e in absurd (omega (arith, w))
operator_mark code (item.Mark mark.DoubleColon) e = let w : 2 ≡ code + 6 = eqb-true 2 (code + 6) e in absurd (omega (arith, w))
operator_mark code (item.Mark mark.Equals) e = let w : 3 ≡ code + 6 = eqb-true 3 (code + 6) e in absurd (omega (arith, w))
operator_mark code (item.Mark mark.Arrow) e = let w : 4 ≡ code + 6 = eqb-true 4 (code + 6) e in absurd (omega (arith, w))
operator_mark code (item.Mark mark.Percent) e = let w : 5 ≡ code + 6 = eqb-true 5 (code + 6) e in absurd (omega (arith, w))
operator_mark code (item.Word name) e = false_is_true e
operator_mark code (item.Number digits suffix) e = false_is_true e
operator_mark code (item.Truth value) e = false_is_true e
operator_mark code (item.Text bytes) e = false_is_true e
operator_mark code (item.Group bracket parts) e = false_is_true e

negation_is : (items : List Item) (e : Parsed) → negation_of items ≡ Some e → IsNegation items e
unfolding negation_of
negation_is [] e h = IsNegation.relation (relation_is [] e h)
negation_is (one ∷ items) e h = by (is_mark (Operator 16) one) refl h
  where
    by : (t : Bool) → is_mark (Operator 16) one ≡ t → (if t then option_map (unary 16) (relation_of items) else relation_of (one ∷ items)) ≡ Some e → IsNegation (one ∷ items) e
    by true k h = subst (λ x. IsNegation (x ∷ items) e) (sym (operator_mark 16 one k))
        (maps (relation_of items) (unary 16) e h (λ a l same. subst (λ t. IsNegation (item.Mark (Operator 16) ∷ items) t) same (IsNegation.negation (relation_is items a l))))
    by false k h = IsNegation.relation (relation_is (one ∷ items) e h)

no_not : (one : Item) → looseness one ≤ 4 → is_mark (Operator 16) one ≡ false
no_not one h = by (is_mark (Operator 16) one) refl
  where
    by : (t : Bool) → is_mark (Operator 16) one ≡ t → t ≡ false
    by false k = refl
    by true k = let w : looseness one ≡ 5 = ap looseness (operator_mark 16 one k) in absurd (omega (arith, h, w))

no_text : {R : Type 0} (a : Parsed) → text_of [] ≡ Some a → R
unfolding text_of sum_of term_of power_of primary_of
no_text a h = nowhere a h

no_not_in : (items : List Item) (e : Parsed) (more : List Item) → IsText items e → stands (Operator 16) (slice_get (items ++ more) 0) ≡ false
no_not_in [] e more p = no_text e (only_text [] e p)
no_not_in (one ∷ items) e more p = no_not one (below_text (one ∷ items) e p).0

no_not_front : (items : List Item) (e : Parsed) → IsRelation items e → stands (Operator 16) (slice_get items 0) ≡ false
no_not_front items e (IsRelation.text p) = ap (λ i. stands (Operator 16) (slice_get i 0)) (sym (append-nil items)) ∙ no_not_in items e [] p
no_not_front items e (IsRelation.relation {front = front} {behind = behind} {code = code} {a = a} p o q) = no_not_in front a (item.Mark (Operator code) ∷ behind) p

only_negation : (items : List Item) (e : Parsed) → IsNegation items e → negation_of items ≡ Some e
unfolding negation_of
only_negation items e (IsNegation.relation p) =
    ap (λ t. if t then option_map (unary 16) (relation_of (behind_first items)) else relation_of items) (no_not_front items e p) ∙ only_relation items e p
only_negation items e (IsNegation.negation {items = rest} {a = a} p) = ap (λ r. option_map (unary 16) r) (only_relation rest a p)

below_negation : (items : List Item) (e : Parsed) → IsNegation items e → Below 5 items
below_negation items e (IsNegation.relation p) = below_relation items e p
below_negation items e (IsNegation.negation {items = rest} {a = a} p) = (omega arith, below_relation rest a p)

-- `.and.`, `.or.`, and `.eqv.` and `.neqv.`
conjunction_is : (items : List Item) (e : Parsed) → conjunction_of items ≡ Some e → IsConjunction items e
unfolding conjunction_of
conjunction_is items e h = level_found Conjunction IsNegation negation_of negation_is items e h

only_conjunction : (items : List Item) (e : Parsed) → IsConjunction items e → conjunction_of items ≡ Some e
unfolding conjunction_of
only_conjunction items e p = level_only Conjunction IsNegation negation_of only_negation (λ i e q. is_free Conjunction i (below_negation i e q)) items e p

below_conjunction : (items : List Item) (e : Parsed) → IsConjunction items e → Below 6 items
below_conjunction items e p =
    below_joined Conjunction IsNegation IsNegation 6 (omega arith) (λ i e q. below_looser 5 6 (omega arith) i (below_negation i e q)) (λ i e q. below_looser 5 6 (omega arith) i (below_negation i e q)) items e p

disjunction_is : (items : List Item) (e : Parsed) → disjunction_of items ≡ Some e → IsDisjunction items e
unfolding disjunction_of
disjunction_is items e h = level_found Disjunction IsConjunction conjunction_of conjunction_is items e h

only_disjunction : (items : List Item) (e : Parsed) → IsDisjunction items e → disjunction_of items ≡ Some e
unfolding disjunction_of
only_disjunction items e p = level_only Disjunction IsConjunction conjunction_of only_conjunction (λ i e q. is_free Disjunction i (below_conjunction i e q)) items e p

below_disjunction : (items : List Item) (e : Parsed) → IsDisjunction items e → Below 7 items
below_disjunction items e p =
    below_joined Disjunction IsConjunction IsConjunction 7 (omega arith) (λ i e q. below_looser 6 7 (omega arith) i (below_conjunction i e q)) (λ i e q. below_looser 6 7 (omega arith) i (below_conjunction i e q)) items e p

pub expression_is : (items : List Item) (e : Parsed) → expression_of items ≡ Some e → IsExpression items e
unfolding expression_of
expression_is items e h = level_found Equivalence IsDisjunction disjunction_of disjunction_is items e h

pub only_expression : (items : List Item) (e : Parsed) → IsExpression items e → expression_of items ≡ Some e
unfolding expression_of
only_expression items e p = level_only Equivalence IsDisjunction disjunction_of only_disjunction (λ i e q. is_free Equivalence i (below_disjunction i e q)) items e p

pub one_expression : (items : List Item) (a b : Parsed) → IsExpression items a → IsExpression items b → a ≡ b
one_expression items a b p q = inside a b (sym (only_expression items a p) ∙ only_expression items b q)
