-- A list taken apart at the operators of a level, and put together again.
use Rattle.std.proofs.Common.{◌≡◌, ℕ, ◌+◌, ◌≤◌, Bool, true, false, ◌||◌, ◌==◌, List, [], ◌∷◌, ◌++◌, Option, Some, None, refl, sym, subst, ap, ◌∙◌, append_assoc, append-nil, eqb-true, arith}
use Rattle.std.specs.Prelude.{if◌then◌else◌}
use Rattle.std.specs.Option.{option_map, option_and_then}
use Rattle.ff_expressions.specs.declared.item.Parsed.{Parsed}
use Rattle.ff_expressions.specs.declared.item.Mark.TheVariants.{Operator}
use Rattle.ff_expressions.specs.declared.item.Mark.TheVariants as mark
use Rattle.ff_expressions.specs.declared.item.Item.{Item}
use Rattle.ff_expressions.specs.declared.item.Item.TheVariants as item
use Rattle.ff_expressions.specs.declared.level.Level.{Level}
use Rattle.ff_expressions.specs.declared.level.Level.TheVariants.{Equivalence, Disjunction, Conjunction, Relation, Concatenation, Addition, Multiplication, Power}
use Rattle.ff_expressions.specs.Trees.{binary}
use Rattle.ff_expressions.specs.Expressions.{belongs, operator_at, first_by, first_operand, others_by, other_operands, joined, to_left, left_level}
use Rattle.ff_expressions.specs.Binding.{rank, looseness_of, looseness}
use Rattle.ff_expressions.specs.Grammar.{IsOperator, IsJoined}

pub nowhere : {A R : Type 0} (z : A) → None ≡ Some z → R
nowhere z h = absurd (elsewhere z h)
  where
    elsewhere : {A : Type 0} (z : A) → None ≡ Some z → ⊥
    elsewhere z h = cc

pub inside : {A : Type 0} (x a : A) → Some x ≡ Some a → x ≡ a
inside x a h = cc

-- what comes of something that was found
pub follows : {A B R : Type 0} (o : Option A) (f : A → Option B) (z : B) → option_and_then f o ≡ Some z → ((a : A) → o ≡ Some a → f a ≡ Some z → R) → R
follows None f z h k = nowhere z h
follows (Some a) f z h k = k a refl h

pub maps : {A B R : Type 0} (o : Option A) (f : A → B) (z : B) → option_map f o ≡ Some z → ((a : A) → o ≡ Some a → f a ≡ z → R) → R
maps None f z h k = nowhere z h
maps (Some a) f z h k = k a refl (inside (f a) z h)

pub false_is_true : {A : Type 0} → false ≡ true → A
false_is_true e = absurd (apart e)
  where
    apart : false ≡ true → ⊥
    apart e = cc

either : {R : Type 0} (s t : Bool) → (s || t) ≡ true → (s ≡ true → R) → (t ≡ true → R) → R
either true t e left right = left refl
either false t e left right = right e

this : (level : Level) (code k : ℕ) → IsOperator level k → (code == k) ≡ true → IsOperator level code
this level code k p e = subst (λ c. IsOperator level c) (sym (eqb-true code k e)) p

-- the operators of a level, by their codes
pub belongs_is : (level : Level) (code : ℕ) → belongs level code ≡ true → IsOperator level code
belongs_is Power code e = this Power code 4 IsOperator.power e
belongs_is Multiplication code e = either _ _ e (this Multiplication code 2 IsOperator.times) (this Multiplication code 3 IsOperator.over)
belongs_is Addition code e = either _ _ e (this Addition code 0 IsOperator.plus) (this Addition code 1 IsOperator.minus)
belongs_is Concatenation code e = this Concatenation code 5 IsOperator.concatenated e
belongs_is Relation code e =
    either _ _ e (λ e.
    either _ _ e (λ e.
    either _ _ e (λ e.
    either _ _ e (λ e.
    either _ _ e (this Relation code 6 IsOperator.equal) (this Relation code 7 IsOperator.unequal)) (this Relation code 8 IsOperator.less))
    (this Relation code 9 IsOperator.at_most)) (this Relation code 10 IsOperator.greater)) (this Relation code 11 IsOperator.at_least)
belongs_is Conjunction code e = this Conjunction code 12 IsOperator.and e
belongs_is Disjunction code e = this Disjunction code 13 IsOperator.or e
belongs_is Equivalence code e = either _ _ e (this Equivalence code 14 IsOperator.equivalent) (this Equivalence code 15 IsOperator.unequivalent)

pub is_of : {level : Level} {code : ℕ} → IsOperator level code → belongs level code ≡ true
is_of IsOperator.power = refl
is_of IsOperator.times = refl
is_of IsOperator.over = refl
is_of IsOperator.plus = refl
is_of IsOperator.minus = refl
is_of IsOperator.concatenated = refl
is_of IsOperator.equal = refl
is_of IsOperator.unequal = refl
is_of IsOperator.less = refl
is_of IsOperator.at_most = refl
is_of IsOperator.greater = refl
is_of IsOperator.at_least = refl
is_of IsOperator.and = refl
is_of IsOperator.or = refl
is_of IsOperator.equivalent = refl
is_of IsOperator.unequivalent = refl

pub binds : {level : Level} {code : ℕ} → IsOperator level code → looseness_of code ≡ rank level + 1
binds IsOperator.power = refl
binds IsOperator.times = refl
binds IsOperator.over = refl
binds IsOperator.plus = refl
binds IsOperator.minus = refl
binds IsOperator.concatenated = refl
binds IsOperator.equal = refl
binds IsOperator.unequal = refl
binds IsOperator.less = refl
binds IsOperator.at_most = refl
binds IsOperator.greater = refl
binds IsOperator.at_least = refl
binds IsOperator.and = refl
binds IsOperator.or = refl
binds IsOperator.equivalent = refl
binds IsOperator.unequivalent = refl

-- an operator of the level, where one is found
pub operator_is : (level : Level) (one : Item) (code : ℕ) → operator_at level one ≡ Some code → (one ≡ item.Mark (Operator code)) × IsOperator level code
operator_is level (item.Mark (Operator c)) code h = by (belongs level c) refl h
  where
    by : (t : Bool) → belongs level c ≡ t → (if t then Some c else None) ≡ Some code → (item.Mark (Operator c) ≡ item.Mark (Operator code)) × IsOperator level code
    by true e h = let same = inside c code h in (ap (λ c. item.Mark (Operator c)) same, subst (λ c. IsOperator level c) same (belongs_is level c e))
    by false e h = nowhere code h
operator_is level (item.Mark mark.Comma) code h = nowhere code h
operator_is level (item.Mark mark.Colon) code h = nowhere code h
operator_is level (item.Mark mark.DoubleColon) code h = nowhere code h
operator_is level (item.Mark mark.Equals) code h = nowhere code h
operator_is level (item.Mark mark.Arrow) code h = nowhere code h
operator_is level (item.Mark mark.Percent) code h = nowhere code h
operator_is level (item.Word name) code h = nowhere code h
operator_is level (item.Number digits suffix) code h = nowhere code h
operator_is level (item.Truth value) code h = nowhere code h
operator_is level (item.Text bytes) code h = nowhere code h
operator_is level (item.Group bracket parts) code h = nowhere code h

pub operator_there : {level : Level} {code : ℕ} → IsOperator level code → operator_at level (item.Mark (Operator code)) ≡ Some code
operator_there {level = level} {code = code} p = ap (λ t. if t then Some code else None) (is_of p)

-- operators, each with the items behind it
abbrev pub flat : List (ℕ × List Item) → List Item
flat [] = []
flat (other ∷ others) = item.Mark (Operator other.0) ∷ (other.1 ++ flat others)

abbrev pub AreOf : Level → List (ℕ × List Item) → Type 0
AreOf level [] = Unit {0}
AreOf level (other ∷ others) = IsOperator level other.0 × AreOf level others

-- no operator of the level
abbrev pub IsFree : Level → List Item → Type 0
IsFree level [] = Unit {0}
IsFree level (one ∷ items) = (operator_at level one ≡ None) × IsFree level items

abbrev pub AreFree : Level → List (ℕ × List Item) → Type 0
AreFree level [] = Unit {0}
AreFree level (other ∷ others) = IsFree level other.1 × AreFree level others

-- What is taken apart is what stood there.
pub apart : (level : Level) (items : List Item) → items ≡ first_operand level items ++ flat (other_operands level items)
apart level [] = refl
apart level (one ∷ items) = by (apart level items) (operator_at level one) refl
  where
    by : items ≡ first_operand level items ++ flat (other_operands level items) → (o : Option ℕ) → operator_at level one ≡ o
        → one ∷ items ≡ first_by o one (first_operand level items) ++ flat (others_by o (first_operand level items) (other_operands level items))
    by same None e = ap (λ rest. one ∷ rest) same
    by same (Some code) e = ap (λ rest. one ∷ rest) same ∙ ap (λ x. x ∷ (first_operand level items ++ flat (other_operands level items))) (operator_is level one code e).0

pub all_of : (level : Level) (items : List Item) → AreOf level (other_operands level items)
all_of level [] = tt
all_of level (one ∷ items) = by (all_of level items) (operator_at level one) refl
  where
    by : AreOf level (other_operands level items) → (o : Option ℕ) → operator_at level one ≡ o → AreOf level (others_by o (first_operand level items) (other_operands level items))
    by all None e = all
    by all (Some code) e = ((operator_is level one code e).1, all)

-- Operands without an operator of the level are found again.
pub first_again : (level : Level) (first : List Item) (others : List (ℕ × List Item)) → IsFree level first → AreOf level others → first_operand level (first ++ flat others) ≡ first
first_again level [] [] f p = refl
first_again level [] (other ∷ others) f p = ap (λ o. first_by o (item.Mark (Operator other.0)) (first_operand level (other.1 ++ flat others))) (operator_there p.0)
first_again level (one ∷ first) others f p =
    ap (λ o. first_by o one (first_operand level (first ++ flat others))) f.0 ∙ ap (λ rest. one ∷ rest) (first_again level first others f.1 p)

pub others_again : (level : Level) (first : List Item) (others : List (ℕ × List Item)) → IsFree level first → AreOf level others → AreFree level others → other_operands level (first ++ flat others) ≡ others
others_again level [] [] f p q = refl
others_again level [] (other ∷ others) f p q =
    ap (λ o. others_by o (first_operand level (other.1 ++ flat others)) (other_operands level (other.1 ++ flat others))) (operator_there p.0)
    ∙ ap (λ operand. (other.0, operand) ∷ other_operands level (other.1 ++ flat others)) (first_again level other.1 others q.0 p.1)
    ∙ ap (λ rest. other ∷ rest) (others_again level other.1 others q.0 p.1 q.1)
others_again level (one ∷ first) others f p q =
    ap (λ o. others_by o (first_operand level (first ++ flat others)) (other_operands level (first ++ flat others))) f.0 ∙ others_again level first others f.1 p q

-- one more operand at the end
flat_more : (others : List (ℕ × List Item)) (code : ℕ) (behind : List Item) → flat (others ++ (code, behind) ∷ []) ≡ flat others ++ item.Mark (Operator code) ∷ behind
flat_more [] code behind = ap (λ rest. item.Mark (Operator code) ∷ rest) (append-nil behind)
flat_more (other ∷ others) code behind =
    ap (λ rest. item.Mark (Operator other.0) ∷ (other.1 ++ rest)) (flat_more others code behind)
    ∙ ap (λ rest. item.Mark (Operator other.0) ∷ rest) (sym (append_assoc other.1 (flat others) (item.Mark (Operator code) ∷ behind)))

of_more : (level : Level) (others : List (ℕ × List Item)) (code : ℕ) (behind : List Item) → AreOf level others → IsOperator level code → AreOf level (others ++ (code, behind) ∷ [])
of_more level [] code behind p q = (q, tt)
of_more level (other ∷ others) code behind p q = (p.0, of_more level others code behind p.1 q)

free_more : (level : Level) (others : List (ℕ × List Item)) (code : ℕ) (behind : List Item) → AreFree level others → IsFree level behind → AreFree level (others ++ (code, behind) ∷ [])
free_more level [] code behind p q = (q, tt)
free_more level (other ∷ others) code behind p q = (p.0, free_more level others code behind p.1 q)

left_more : (operand : List Item → Option Parsed) (left : Option Parsed) (others : List (ℕ × List Item)) (code : ℕ) (behind : List Item)
    → to_left operand left (others ++ (code, behind) ∷ []) ≡ joined code (to_left operand left others) (operand behind)
left_more operand left [] code behind = refl
left_more operand left (other ∷ others) code behind = left_more operand (joined other.0 left (operand other.1)) others code behind

-- what was joined
pub both : {R : Type 0} (code : ℕ) (left right : Option Parsed) (e : Parsed) → joined code left right ≡ Some e
    → ((a b : Parsed) → left ≡ Some a → right ≡ Some b → binary code a b ≡ e → R) → R
both code None right e h k = nowhere e h
both code (Some a) None e h k = nowhere e h
both code (Some a) (Some b) e h k = k a b refl refl (inside (binary code a b) e h)

-- Operands joined from the left are related so.
pub left_found : (level : Level) (IsFirst IsOperand : List Item → Parsed → Type 0) (operand : List Item → Option Parsed) → ((items : List Item) (e : Parsed) → operand items ≡ Some e → IsOperand items e)
    → (others : List (ℕ × List Item)) (front : List Item) (left : Option Parsed) (e : Parsed) → AreOf level others
    → ((a : Parsed) → left ≡ Some a → IsJoined level IsFirst IsOperand front a) → to_left operand left others ≡ Some e → IsJoined level IsFirst IsOperand (front ++ flat others) e
left_found level IsFirst IsOperand operand is [] front left e p joins h = subst (λ items. IsJoined level IsFirst IsOperand items e) (sym (append-nil front)) (joins e h)
left_found level IsFirst IsOperand operand is (other ∷ others) front left e p joins h =
    subst (λ items. IsJoined level IsFirst IsOperand items e) (append_assoc front (item.Mark (Operator other.0) ∷ other.1) (flat others))
    (left_found level IsFirst IsOperand operand is others (front ++ item.Mark (Operator other.0) ∷ other.1) (joined other.0 left (operand other.1)) e p.1
    (λ c k. both other.0 left (operand other.1) c k (λ a b l r same.
    subst (λ t. IsJoined level IsFirst IsOperand (front ++ item.Mark (Operator other.0) ∷ other.1) t) same (IsJoined.joined (joins a l) p.0 (is other.1 b r)))) h)

-- a level whose first operand is as every other one
pub level_found : (level : Level) (IsOperand : List Item → Parsed → Type 0) (operand : List Item → Option Parsed) → ((items : List Item) (e : Parsed) → operand items ≡ Some e → IsOperand items e)
    → (items : List Item) (e : Parsed) → left_level level operand items ≡ Some e → IsJoined level IsOperand IsOperand items e
level_found level IsOperand operand is items e h =
    subst (λ i. IsJoined level IsOperand IsOperand i e) (sym (apart level items))
    (left_found level IsOperand IsOperand operand is (other_operands level items) (first_operand level items) (operand (first_operand level items)) e (all_of level items)
    (λ a k. IsJoined.first (is (first_operand level items) a k)) h)

-- the operands of what is joined
abbrev pub Operands : Level → (List Item → Parsed → Type 0) → (List Item → Option Parsed) → List Item → Parsed → Type 0
Operands level IsFirst operand items e =
    (first : List Item) × (a : Parsed) × (others : List (ℕ × List Item)) × (items ≡ first ++ flat others) × IsFirst first a × AreOf level others × AreFree level others
    × (to_left operand (Some a) others ≡ Some e)

pub operands_in : (level : Level) (IsFirst IsOperand : List Item → Parsed → Type 0) (operand : List Item → Option Parsed) → ((items : List Item) (e : Parsed) → IsOperand items e → operand items ≡ Some e)
    → ((items : List Item) (e : Parsed) → IsOperand items e → IsFree level items) → (items : List Item) (e : Parsed) → IsJoined level IsFirst IsOperand items e → Operands level IsFirst operand items e
operands_in level IsFirst IsOperand operand found free items e (IsJoined.first p) = (items, e, [], sym (append-nil items), p, tt, tt, refl)
operands_in level IsFirst IsOperand operand found free items e (IsJoined.joined {front = front} {behind = behind} {code = code} {a = a} {b = b} p o q) =
    let s = operands_in level IsFirst IsOperand operand found free front a p in (
      s.0,
      s.1,
      s.2 ++ (code, behind) ∷ [],
      ap (λ i. i ++ item.Mark (Operator code) ∷ behind) s.3 ∙ append_assoc s.0 (flat s.2) (item.Mark (Operator code) ∷ behind) ∙ ap (λ rest. s.0 ++ rest) (sym (flat_more s.2 code behind)),
      s.4,
      of_more level s.2 code behind s.5 o,
      free_more level s.2 code behind s.6 (free behind b q),
      left_more operand (Some s.1) s.2 code behind ∙ ap (λ l. joined code l (operand behind)) s.7 ∙ ap (λ r. joined code (Some a) r) (found behind b q),
    )

-- A first operand and others, each without an operator of the level, are taken apart to just those.
pub rejoined : (level : Level) (left operand : List Item → Option Parsed) (first : List Item) (others : List (ℕ × List Item)) (a e : Parsed) → IsFree level first → AreOf level others → AreFree level others
    → left first ≡ Some a → to_left operand (Some a) others ≡ Some e → to_left operand (left (first_operand level (first ++ flat others))) (other_operands level (first ++ flat others)) ≡ Some e
rejoined level left operand first others a e f p q is h =
    ap (λ i. to_left operand (left i) (other_operands level (first ++ flat others))) (first_again level first others f p)
    ∙ ap (λ os. to_left operand (left first) os) (others_again level first others f p q)
    ∙ ap (λ l. to_left operand l others) is
    ∙ h

pub level_only : (level : Level) (IsOperand : List Item → Parsed → Type 0) (operand : List Item → Option Parsed) → ((items : List Item) (e : Parsed) → IsOperand items e → operand items ≡ Some e)
    → ((items : List Item) (e : Parsed) → IsOperand items e → IsFree level items) → (items : List Item) (e : Parsed) → IsJoined level IsOperand IsOperand items e → left_level level operand items ≡ Some e
level_only level IsOperand operand found free items e p =
    let s = operands_in level IsOperand IsOperand operand found free items e p in
    ap (λ i. left_level level operand i) s.3 ∙ rejoined level operand operand s.0 s.2 s.1 e (free s.0 s.1 s.4) s.5 s.6 (found s.0 s.1 s.4) s.7

-- No item binds looser than this.
abbrev pub Below : ℕ → List Item → Type 0
Below k [] = Unit {0}
Below k (one ∷ items) = (looseness one ≤ k) × Below k items

pub below_both : (k : ℕ) (front behind : List Item) → Below k front → Below k behind → Below k (front ++ behind)
below_both k [] behind p q = q
below_both k (one ∷ front) behind p q = (p.0, below_both k front behind p.1 q)

pub below_looser : (j k : ℕ) → j ≤ k → (items : List Item) → Below j items → Below k items
below_looser j k h [] p = tt
below_looser j k h (one ∷ items) p = (omega (arith, h, p.0), below_looser j k h items p.1)

pub below_operator : {level : Level} {code : ℕ} (k : ℕ) → rank level + 1 ≤ k → IsOperator level code → looseness (item.Mark (Operator code)) ≤ k
below_operator k h p = omega (arith, h, binds p)

pub below_joined : (level : Level) (IsFirst IsOperand : List Item → Parsed → Type 0) (k : ℕ) → rank level + 1 ≤ k → ((items : List Item) (e : Parsed) → IsFirst items e → Below k items)
    → ((items : List Item) (e : Parsed) → IsOperand items e → Below k items) → (items : List Item) (e : Parsed) → IsJoined level IsFirst IsOperand items e → Below k items
below_joined level IsFirst IsOperand k h f g items e (IsJoined.first p) = f items e p
below_joined level IsFirst IsOperand k h f g items e (IsJoined.joined {front = front} {behind = behind} {code = code} {a = a} {b = b} p o q) =
    below_both k front (item.Mark (Operator code) ∷ behind) (below_joined level IsFirst IsOperand k h f g front a p) (below_operator k h o, g behind b q)

-- Items that bind as tightly as the level have none of its operators.
free_one : (level : Level) (one : Item) → looseness one ≤ rank level → operator_at level one ≡ None
free_one level one h = by (operator_at level one) refl
  where
    by : (o : Option ℕ) → operator_at level one ≡ o → o ≡ None
    by None e = refl
    by (Some code) e = let p = operator_is level one code e in let w : looseness one ≡ rank level + 1 = ap looseness p.0 ∙ binds p.1 in absurd (omega (arith, h, w))

pub is_free : (level : Level) (items : List Item) → Below (rank level) items → IsFree level items
is_free level [] p = tt
is_free level (one ∷ items) p = (free_one level one p.0, is_free level items p.1)
