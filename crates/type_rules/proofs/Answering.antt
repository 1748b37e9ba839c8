-- The table on scalars answers as the types of the operands say.
use Rattle.std.proofs.Common.{◌≡◌, ℕ, suc, ◌+◌, ◌≤◌, max, Bool, true, false, not, ◌&&◌, refl, sym, ◌∙◌, ap, subst, arith, ℤ, pos, negsuc, ◌+ℤ◌, ◌-ℤ◌, ◌*ℤ◌, neg_ℤ, ◌==◌, nat_le, nat_lt, if◌then◌else◌, List, [], ◌∷◌, ◌++◌, length, Option, Some, None, Ok, Err, length-append}
use Rattle.std.specs.Int.{int_min, int_max}
use Rattle.std.specs.Ordering.{int_cmp}
use Rattle.std.specs.declared.cmp.Ordering.{Ordering}
use Rattle.std.proofs.lemmas.Bool.Decides.{nat_tests}
use Rattle.lf_base.specs.declared.trap.Trap.TheVariants.{IntegerOverflow, LengthLimit, BadCharacterCode}
use Rattle.lf_base.specs.declared.operator.Operator.{Operator}
use Rattle.lf_base.specs.declared.operator.Operator.TheVariants.{Add, Subtract, Multiply, Divide, Power, Concatenate, Eq, Ne, Lt, Le, Gt, Ge, And, Or, Eqv, Neqv, Not}
use Rattle.lf_base.specs.Operators.{operator_of}
use Rattle.lf_base.specs.declared.rule.Rule.TheVariants.{E405, E406}
use Rattle.type_rules.specs.Codes.{intrinsic_of}
use Rattle.type_rules.specs.Values.{Exact, Scalar, Integer, Logical, Characters, Evaluation, Gives, Traps, NoRule, fitted, is_in_kind, is_kind}
use Rattle.type_rules.specs.Integers.{quotient, remainder, modulo, power, magnitude, sign}
use Rattle.type_rules.specs.Characters.{text_order, concatenated, trimmed, place_from, number_of_byte, byte_of_number}
use Rattle.type_rules.specs.Operations.{relation, on_integers, on_logicals, on_texts, binary, on_integer, on_logical, unary, number, numbered, of_integer, of_text, of_one, of_integers, of_texts, of_two, extreme, extreme_of, picked, of_many, intrinsic, convert, where_known, operation}
use Rattle.type_rules.specs.Types.{of_relation, joined_length, element_of, is_concatenation}
use Rattle.type_rules.specs.Typing.{takes, class_of, may_be_one, are_in_class, greatest_kind, result_element, unary_element, element_or_none, unary_judged, binary_judged, intrinsic_judged, conversion_judged, judged, ranks_of, ranks_of_intrinsic, ranks_of_function, ranks_of_operator}
use Rattle.type_rules.specs.Judging.{Suits, AllSuit, Answers}
use Rattle.type_rules.specs.declared.ty.Elem.{Elem}
use Rattle.type_rules.specs.declared.ty.Elem.TheVariants as elem
use Rattle.type_rules.specs.declared.ty.Len.{Len}
use Rattle.type_rules.specs.declared.ty.Len.TheVariants as len
use Rattle.type_rules.specs.declared.code.Intrinsic.{Intrinsic}
use Rattle.type_rules.specs.declared.code.Intrinsic.TheVariants.{Abs, Mod, Modulo, Min, Max, Sign, Iachar, Achar, Len as LenOf, LenTrim, Trim, Index, Sum, Product, Maxval, Minval, Count, Any, All}
use Rattle.type_rules.specs.declared.constant.Op.{Op}
use Rattle.type_rules.specs.declared.constant.Op.TheVariants.{Unary, Binary, Intrinsic as IntrinsicOf, Convert}
use Rattle.type_rules.specs.declared.signature.Judgement.{Judgement}
use Rattle.type_rules.specs.declared.signature.Judgement.TheVariants.{Element, Misused}
use Rattle.type_rules.specs.declared.signature.Ranks.{Ranks}
use Rattle.type_rules.specs.declared.signature.Ranks.TheVariants.{Elementwise, Scalars, OneArray}
use Rattle.type_rules.specs.declared.signature.Class.TheVariants.{Integers}

fits : (j k : ℕ) (exact : Exact) → j ≡ k → Answers (Element (elem.Integer j)) (fitted k exact)
fits j k (Ok z) e = by (is_in_kind k z)
  where
    by : (t : Bool) → Answers (Element (elem.Integer j)) (if t then Gives (Integer k z) else Traps IntegerOverflow)
    by true = e
    by false = tt
fits j k (Err trap) e = tt

relations : (op : Operator) (order : Ordering) → Answers (element_or_none (of_relation op)) (relation op order)
relations Eq order = tt
relations Ne order = tt
relations Lt order = tt
relations Le order = tt
relations Gt order = tt
relations Ge order = tt
relations _ order = tt

two_integers : (op : Operator) (i j k l : ℕ) (a b : ℤ) → i ≡ k → j ≡ l → Answers (element_or_none (element_of op (elem.Integer i) (elem.Integer j))) (on_integers op (max k l) a b)
two_integers Add i j k l a b e f = fits _ _ (Ok (a +ℤ b)) (ap (λ n. max n j) e ∙ ap (max k) f)
two_integers Subtract i j k l a b e f = fits _ _ (Ok (a -ℤ b)) (ap (λ n. max n j) e ∙ ap (max k) f)
two_integers Multiply i j k l a b e f = fits _ _ (Ok (a *ℤ b)) (ap (λ n. max n j) e ∙ ap (max k) f)
two_integers Divide i j k l a b e f = fits _ _ (quotient a b) (ap (λ n. max n j) e ∙ ap (max k) f)
two_integers Power i j k l a b e f = fits _ _ (power a b) (ap (λ n. max n j) e ∙ ap (max k) f)
two_integers op i j k l a b e f = relations op (int_cmp a b)

two_logicals : (op : Operator) (p q : Bool) → Answers (element_or_none (element_of op elem.Logical elem.Logical)) (on_logicals op p q)
two_logicals And p q = tt
two_logicals Or p q = tt
two_logicals Eqv p q = tt
two_logicals Neqv p q = tt
two_logicals _ p q = tt

joined_texts : (m n : Len) (a b : List ℕ) → Suits (elem.Character m) (Characters a) → Suits (elem.Character n) (Characters b) → nat_le (length a + length b) 65535 ≡ true → Suits (elem.Character (joined_length m n)) (Characters (a ++ b))
joined_texts (len.Fixed m) (len.Fixed n) a b e f h = let short : length a + length b ≤ 65535 = grind (arith, nat_tests) in length-append a b ∙ omega arith
joined_texts (len.Fixed m) len.Assumed a b e f h = tt
joined_texts len.Assumed n a b e f h = tt

concatenations : (m n : Len) (a b : List ℕ) → Suits (elem.Character m) (Characters a) → Suits (elem.Character n) (Characters b) → Answers (Element (elem.Character (joined_length m n))) (concatenated a b)
concatenations m n a b e f = by (nat_le (length a + length b) 65535) refl
  where
    by : (t : Bool) → nat_le (length a + length b) 65535 ≡ t → Answers (Element (elem.Character (joined_length m n))) (if t then Gives (Characters (a ++ b)) else Traps LengthLimit)
    by true h = joined_texts m n a b e f h
    by false h = tt

two_texts : (op : Operator) (m n : Len) (a b : List ℕ) → Suits (elem.Character m) (Characters a) → Suits (elem.Character n) (Characters b) → Answers (element_or_none (element_of op (elem.Character m) (elem.Character n))) (on_texts op a b)
two_texts Concatenate m n a b e f = concatenations m n a b e f
two_texts op m n a b e f = relations op (text_order a b)

pub two_scalars : (op : Operator) (e f : Elem) (a b : Scalar) → Suits e a → Suits f b → Answers (element_or_none (element_of op e f)) (binary op a b)
two_scalars op (elem.Integer i) (elem.Integer j) (Integer k a) (Integer l b) p q = two_integers op i j k l a b p q
two_scalars op elem.Logical elem.Logical (Logical a) (Logical b) p q = two_logicals op a b
two_scalars op (elem.Character m) (elem.Character n) (Characters a) (Characters b) p q = two_texts op m n a b p q
two_scalars op (elem.Integer i) elem.Logical (Integer k a) (Logical b) p q = tt
two_scalars op (elem.Integer i) (elem.Character n) (Integer k a) (Characters b) p q = tt
two_scalars op elem.Logical (elem.Integer j) (Logical a) (Integer l b) p q = tt
two_scalars op elem.Logical (elem.Character n) (Logical a) (Characters b) p q = tt
two_scalars op (elem.Character m) (elem.Integer j) (Characters a) (Integer l b) p q = tt
two_scalars op (elem.Character m) elem.Logical (Characters a) (Logical b) p q = tt
two_scalars op (elem.Integer i) f (Logical a) b p q = absurd p
two_scalars op (elem.Integer i) f (Characters a) b p q = absurd p
two_scalars op elem.Logical f (Integer k a) b p q = absurd p
two_scalars op elem.Logical f (Characters a) b p q = absurd p
two_scalars op (elem.Character n) f (Integer k a) b p q = absurd p
two_scalars op (elem.Character n) f (Logical a) b p q = absurd p
two_scalars op (elem.Derived s) f a b p q = absurd p
two_scalars op e f a b p q = absurd q

one_integer : (op : Operator) (j k : ℕ) (a : ℤ) → j ≡ k → Answers (element_or_none (unary_element op (elem.Integer j))) (on_integer op k a)
one_integer Add j k a e = fits j k (Ok a) e
one_integer Subtract j k a e = fits j k (Ok (neg_ℤ a)) e
one_integer _ j k a e = tt

one_logical : (op : Operator) (p : Bool) → Answers (element_or_none (unary_element op elem.Logical)) (on_logical op p)
one_logical Not p = tt
one_logical _ p = tt

one_text : (op : Operator) (n : Len) → Answers (element_or_none (unary_element op (elem.Character n))) NoRule
one_text Not n = tt
one_text _ n = tt

pub one_scalar : (op : Operator) (e : Elem) (a : Scalar) → Suits e a → Answers (element_or_none (unary_element op e)) (unary op a)
one_scalar op (elem.Integer j) (Integer k a) p = one_integer op j k a p
one_scalar op elem.Logical (Logical a) p = one_logical op a
one_scalar op (elem.Character n) (Characters a) p = one_text op n
one_scalar op e a p = absurd p

-- The intrinsic functions.
number_answers : (n : ℕ) → Answers (Element (elem.Integer 4)) (number n)
number_answers n = fits 4 4 (Ok (pos n)) refl

-- One character of this length.
code_answers : (n : Len) (text : List ℕ) → Suits (elem.Character n) (Characters text) → Answers (if not (may_be_one n && true) then Misused E406 else Element (elem.Integer 4)) (numbered (number_of_byte text))
code_answers (len.Fixed n) text e = by (n == 1) refl text e
  where
    by : (t : Bool) → (n == 1) ≡ t → (text : List ℕ) → length text ≡ n → Answers (if not (t && true) then Misused E406 else Element (elem.Integer 4)) (numbered (number_of_byte text))
    by true p [] e = tt
    by true p (b ∷ []) e = number_answers b
    by true p (b ∷ c ∷ cs) e = tt
    by false p [] e = refl
    by false p (b ∷ []) e = let f : 1 ≡ n = e in absurd (grind (arith, nat_tests))
    by false p (b ∷ c ∷ cs) e = refl
code_answers len.Assumed [] e = tt
code_answers len.Assumed (b ∷ []) e = number_answers b
code_answers len.Assumed (b ∷ c ∷ cs) e = tt

byte_answers : (a : ℤ) → Answers (Element (elem.Character (len.Fixed 1))) (byte_of_number a)
byte_answers (pos n) = by (nat_lt n 256)
  where
    by : (t : Bool) → Answers (Element (elem.Character (len.Fixed 1))) (if t then Gives (Characters (n ∷ [])) else Traps BadCharacterCode)
    by true = refl
    by false = tt
byte_answers (negsuc n) = tt

no_more : (j : ℕ) → max j 0 ≡ j
no_more j = omega arith

-- One argument. The functions that reduce an array are left out.
is_reduction : Ranks → Bool
is_reduction Elementwise = false
is_reduction Scalars = false
is_reduction OneArray = true

of_one_integer : (which : Intrinsic) (j k : ℕ) (a : ℤ) → j ≡ k → (ranks_of_intrinsic which ≡ OneArray → ⊥) → Answers (intrinsic_judged (Some which) (elem.Integer j ∷ [])) (of_integer which k a)
of_one_integer Abs j k a e h = fits (max j 0) k (Ok (magnitude a)) (no_more j ∙ e)
of_one_integer Achar j k a e h = byte_answers a
of_one_integer Sum j k a e h = absurd (h refl)
of_one_integer Product j k a e h = absurd (h refl)
of_one_integer Maxval j k a e h = absurd (h refl)
of_one_integer Minval j k a e h = absurd (h refl)
of_one_integer _ j k a e h = tt

of_one_text : (which : Intrinsic) (n : Len) (text : List ℕ) → Suits (elem.Character n) (Characters text) → (ranks_of_intrinsic which ≡ OneArray → ⊥) → Answers (intrinsic_judged (Some which) (elem.Character n ∷ [])) (of_text which text)
of_one_text Iachar n text e h = code_answers n text e
of_one_text LenOf n text e h = number_answers (length text)
of_one_text LenTrim n text e h = number_answers (length (trimmed text))
of_one_text Trim n text e h = tt
of_one_text _ n text e h = tt

of_one_logical : (which : Intrinsic) → (ranks_of_intrinsic which ≡ OneArray → ⊥) → Answers (intrinsic_judged (Some which) (elem.Logical ∷ [])) NoRule
of_one_logical Count h = absurd (h refl)
of_one_logical Any h = absurd (h refl)
of_one_logical All h = absurd (h refl)
of_one_logical _ h = tt

of_one_scalar : (which : Intrinsic) (e : Elem) (a : Scalar) → Suits e a → (ranks_of_intrinsic which ≡ OneArray → ⊥) → Answers (intrinsic_judged (Some which) (e ∷ [])) (of_one which a)
of_one_scalar which (elem.Integer j) (Integer k a) p h = of_one_integer which j k a p h
of_one_scalar which elem.Logical (Logical a) p h = of_one_logical which h
of_one_scalar which (elem.Character n) (Characters a) p h = of_one_text which n a p h
of_one_scalar which e a p h = absurd p

-- Two arguments.
greatest_of_two : (i j : ℕ) → max i (max j 0) ≡ max i j
greatest_of_two i j = omega arith

of_two_integers : (which : Intrinsic) (i j k l : ℕ) (a b : ℤ) → i ≡ k → j ≡ l → Answers (intrinsic_judged (Some which) (elem.Integer i ∷ elem.Integer j ∷ [])) (of_integers which (max k l) a b)
of_two_integers Mod i j k l a b e f = fits _ _ (remainder a b) (greatest_of_two i j ∙ ap (λ n. max n j) e ∙ ap (max k) f)
of_two_integers Modulo i j k l a b e f = fits _ _ (modulo a b) (greatest_of_two i j ∙ ap (λ n. max n j) e ∙ ap (max k) f)
of_two_integers Sign i j k l a b e f = fits _ _ (Ok (sign a b)) (greatest_of_two i j ∙ ap (λ n. max n j) e ∙ ap (max k) f)
of_two_integers Min i j k l a b e f = fits _ _ (Ok (int_min a b)) (greatest_of_two i j ∙ ap (λ n. max n j) e ∙ ap (max k) f)
of_two_integers Max i j k l a b e f = fits _ _ (Ok (int_max a b)) (greatest_of_two i j ∙ ap (λ n. max n j) e ∙ ap (max k) f)
of_two_integers _ i j k l a b e f = tt

of_two_texts : (which : Intrinsic) (m n : Len) (a b : List ℕ) → Answers (intrinsic_judged (Some which) (elem.Character m ∷ elem.Character n ∷ [])) (of_texts which a b)
of_two_texts Index m n a b = number_answers (place_from 1 b a)
of_two_texts _ m n a b = tt

-- No function of two takes these.
abbrev NoFunction : List Elem → Type 0
NoFunction es = (which : Intrinsic) → Answers (intrinsic_judged (Some which) es) NoRule

integer_logical : (j : ℕ) → NoFunction (elem.Integer j ∷ elem.Logical ∷ [])
integer_logical j Index = tt
integer_logical j _ = tt

integer_text : (j : ℕ) (n : Len) → NoFunction (elem.Integer j ∷ elem.Character n ∷ [])
integer_text j n Index = tt
integer_text j n _ = tt

logical_any : (f : Elem) → NoFunction (elem.Logical ∷ f ∷ [])
logical_any f Index = tt
logical_any f _ = tt

text_integer : (n : Len) (j : ℕ) → NoFunction (elem.Character n ∷ elem.Integer j ∷ [])
text_integer n j Index = tt
text_integer n j _ = tt

text_logical : (n : Len) → NoFunction (elem.Character n ∷ elem.Logical ∷ [])
text_logical n Index = tt
text_logical n _ = tt

of_two_scalars : (which : Intrinsic) (e f : Elem) (a b : Scalar) → Suits e a → Suits f b → Answers (intrinsic_judged (Some which) (e ∷ f ∷ [])) (of_two which a b)
of_two_scalars which (elem.Integer i) (elem.Integer j) (Integer k a) (Integer l b) p q = of_two_integers which i j k l a b p q
of_two_scalars which (elem.Character m) (elem.Character n) (Characters a) (Characters b) p q = of_two_texts which m n a b
of_two_scalars which (elem.Integer i) elem.Logical (Integer k a) (Logical b) p q = integer_logical i which
of_two_scalars which (elem.Integer i) (elem.Character n) (Integer k a) (Characters b) p q = integer_text i n which
of_two_scalars which elem.Logical f (Logical a) b p q = logical_any f which
of_two_scalars which (elem.Character m) (elem.Integer j) (Characters a) (Integer l b) p q = text_integer m j which
of_two_scalars which (elem.Character m) elem.Logical (Characters a) (Logical b) p q = text_logical m which
of_two_scalars which (elem.Integer i) f (Logical a) b p q = absurd p
of_two_scalars which (elem.Integer i) f (Characters a) b p q = absurd p
of_two_scalars which elem.Logical f (Integer k a) b p q = absurd p
of_two_scalars which elem.Logical f (Characters a) b p q = absurd p
of_two_scalars which (elem.Character n) f (Integer k a) b p q = absurd p
of_two_scalars which (elem.Character n) f (Logical a) b p q = absurd p
of_two_scalars which (elem.Derived s) f a b p q = absurd p
of_two_scalars which e f a b p q = absurd q

-- More arguments.
abbrev Extreme : Bool → ℕ → Evaluation Scalar → Type 0
Extreme true kind o = Answers (Element (elem.Integer kind)) o
Extreme false kind o = o ≡ NoRule

extremes : (pick : ℤ → ℤ → ℤ) (j k : ℕ) (a : ℤ) (es : List Elem) (ss : List Scalar) → j ≡ k → AllSuit es ss → Extreme (are_in_class Integers es) (max j (greatest_kind es)) (extreme pick k a ss)
extremes pick j k a [] [] e h = fits (max j 0) k (Ok a) (no_more j ∙ e)
extremes pick j k a [] (s ∷ ss) e h = absurd h
extremes pick j k a (x ∷ es) [] e h = absurd h
extremes pick j k a (elem.Integer i ∷ es) (Integer l b ∷ ss) e h =
    let later = extremes pick (max j i) (max k l) (pick a b) es ss (ap (λ n. max n i) e ∙ ap (max k) h.0) h.1 in
    subst (λ n. Extreme (are_in_class Integers es) n (extreme pick (max k l) (pick a b) ss)) (together j i (greatest_kind es)) later
  where
    together : (x y z : ℕ) → max (max x y) z ≡ max x (max y z)
    together x y z = omega arith
extremes pick j k a (elem.Logical ∷ es) (Logical p ∷ ss) e h = refl
extremes pick j k a (elem.Character n ∷ es) (Characters b ∷ ss) e h = refl
extremes pick j k a (x ∷ es) (s ∷ ss) e h = absurd h.0

all_of_length : (es : List Elem) (ss : List Scalar) → AllSuit es ss → length es ≡ length ss
all_of_length [] [] h = refl
all_of_length [] (s ∷ ss) h = absurd h
all_of_length (e ∷ es) [] h = absurd h
all_of_length (e ∷ es) (s ∷ ss) h = ap suc (all_of_length es ss h.1)

wrong_number : (t u : Bool) (other : Judgement) → t ≡ false → Answers (if not t then Misused E405 else other) (if u then NoRule else NoRule)
wrong_number true u other e = cc
wrong_number false true other e = tt
wrong_number false false other e = tt

not_one : (n : ℕ) → 3 ≤ n → (n == 1) ≡ false
not_one n h = grind (arith, nat_tests)

not_two : (n : ℕ) → 3 ≤ n → (n == 2) ≡ false
not_two n h = grind (arith, nat_tests)

picks : (pick : ℤ → ℤ → ℤ) (e : Elem) (es : List Elem) (a : Scalar) (ss : List Scalar) → Suits e a → AllSuit es ss → Answers (if not (are_in_class Integers (e ∷ es)) then Misused E406 else Element (elem.Integer (greatest_kind (e ∷ es)))) (extreme_of pick a ss)
picks pick (elem.Integer j) es (Integer k a) ss p q = by (are_in_class Integers es) (extremes pick j k a es ss p q)
  where
    by : (t : Bool) → Extreme t (max j (greatest_kind es)) (extreme pick k a ss) → Answers (if not t then Misused E406 else Element (elem.Integer (max j (greatest_kind es)))) (extreme pick k a ss)
    by true h = h
    by false h = subst (λ o. Answers (Misused E406) o) (sym h) tt
picks pick elem.Logical es (Logical a) ss p q = tt
picks pick (elem.Character n) es (Characters a) ss p q = tt
picks pick e es a ss p q = absurd p

picks_many : (pick : ℤ → ℤ → ℤ) (e : Elem) (es : List Elem) (a : Scalar) (ss : List Scalar) (n : ℕ) → 3 ≤ n → n ≡ suc (length ss) → Suits e a → AllSuit es ss → Answers (if not (nat_le 2 n && nat_le n 31) then Misused E405 else if not (are_in_class Integers (e ∷ es)) then Misused E406 else Element (elem.Integer (greatest_kind (e ∷ es)))) (if nat_le (length ss) 30 then extreme_of pick a ss else NoRule)
picks_many pick e es a ss n three number p q = by (nat_le 2 n) (nat_le n 31) (nat_le (length ss) 30) refl refl refl
  where
    by : (t u v : Bool) → nat_le 2 n ≡ t → nat_le n 31 ≡ u → nat_le (length ss) 30 ≡ v → Answers (if not (t && u) then Misused E405 else if not (are_in_class Integers (e ∷ es)) then Misused E406 else Element (elem.Integer (greatest_kind (e ∷ es)))) (if v then extreme_of pick a ss else NoRule)
    by false u v f g h = absurd (grind (arith, nat_tests))
    by true true true f g h = picks pick e es a ss p q
    by true true false f g h = absurd (grind (arith, nat_tests))
    by true false true f g h = absurd (grind (arith, nat_tests))
    by true false false f g h = tt

of_more : (which : Intrinsic) (e : Elem) (es : List Elem) (a : Scalar) (ss : List Scalar) (n : ℕ) → 3 ≤ n → n ≡ suc (length ss) → Suits e a → AllSuit es ss → Answers (if not (takes which n) then Misused E405 else if not (are_in_class (class_of which) (e ∷ es)) then Misused E406 else Element (result_element which (greatest_kind (e ∷ es)))) (of_many which a ss)
of_more Min e es a ss n three number p q = picks_many int_min e es a ss n three number p q
of_more Max e es a ss n three number p q = picks_many int_max e es a ss n three number p q
of_more Mod e es a ss n three number p q = wrong_number _ (nat_le (length ss) 30) _ (not_two n three)
of_more Modulo e es a ss n three number p q = wrong_number _ (nat_le (length ss) 30) _ (not_two n three)
of_more Sign e es a ss n three number p q = wrong_number _ (nat_le (length ss) 30) _ (not_two n three)
of_more Index e es a ss n three number p q = wrong_number _ (nat_le (length ss) 30) _ (not_two n three)
of_more _ e es a ss n three number p q = wrong_number _ (nat_le (length ss) 30) _ (not_one n three)

nothing : (which : Intrinsic) → Answers (intrinsic_judged (Some which) []) NoRule
nothing Index = tt
nothing _ = tt

functions : (which : Intrinsic) (es : List Elem) (ss : List Scalar) → AllSuit es ss → (ranks_of_intrinsic which ≡ OneArray → ⊥) → Answers (intrinsic_judged (Some which) es) (intrinsic which ss)
functions which [] [] h r = nothing which
functions which [] (s ∷ ss) h r = absurd h
functions which (e ∷ es) [] h r = absurd h
functions which (e ∷ []) (a ∷ []) h r = of_one_scalar which e a h.0 r
functions which (e ∷ []) (a ∷ b ∷ ss) h r = absurd h.1
functions which (e ∷ f ∷ es) (a ∷ []) h r = absurd h.1
functions which (e ∷ f ∷ []) (a ∷ b ∷ []) h r = of_two_scalars which e f a b h.0 h.1.0
functions which (e ∷ f ∷ []) (a ∷ b ∷ c ∷ ss) h r = absurd h.1.1
functions which (e ∷ f ∷ g ∷ es) (a ∷ b ∷ []) h r = absurd h.1.1
functions which (e ∷ f ∷ g ∷ es) (a ∷ b ∷ c ∷ ss) h r =
    of_more which e (f ∷ g ∷ es) a (b ∷ c ∷ ss) (length (e ∷ f ∷ g ∷ es)) (omega arith) (ap suc (all_of_length (f ∷ g ∷ es) (b ∷ c ∷ ss) h.1)) h.0 h.1

conversions : (kind : ℕ) (e : Elem) (a : Scalar) → Suits e a → Answers (conversion_judged kind e) (convert kind a)
conversions kind (elem.Integer j) (Integer k a) p = by (is_kind kind)
  where
    by : (t : Bool) → Answers (if t && true then Element (elem.Integer kind) else Misused E406) (if t then fitted kind (Ok a) else NoRule)
    by true = fits kind kind (Ok a) refl
    by false = tt
conversions kind elem.Logical (Logical a) p = by (is_kind kind)
  where
    by : (t : Bool) → Answers (if t && false then Element (elem.Integer kind) else Misused E406) NoRule
    by true = tt
    by false = tt
conversions kind (elem.Character n) (Characters a) p = by (is_kind kind)
  where
    by : (t : Bool) → Answers (if t && false then Element (elem.Integer kind) else Misused E406) NoRule
    by true = tt
    by false = tt
conversions kind e a p = absurd p

-- Every operation on scalars, but for the functions that reduce an array.
pub answers : (op : Op) (es : List Elem) (ss : List Scalar) → AllSuit es ss → (ranks_of op ≡ OneArray → ⊥) → Answers (judged op es) (operation op ss)
answers (Unary code) [] [] h r = tt
answers (Unary code) [] (s ∷ ss) h r = absurd h
answers (Unary code) (e ∷ es) [] h r = absurd h
answers (Unary code) (e ∷ []) (a ∷ []) h r = by (operator_of code)
  where
    by : (o : Option Operator) → Answers (unary_judged o e) (where_known o (λ op. unary op a))
    by None = tt
    by (Some op) = one_scalar op e a h.0
answers (Unary code) (e ∷ []) (a ∷ b ∷ ss) h r = absurd h.1
answers (Unary code) (e ∷ f ∷ es) (a ∷ []) h r = absurd h.1
answers (Unary code) (e ∷ f ∷ es) (a ∷ b ∷ ss) h r = tt
answers (Binary code) [] [] h r = tt
answers (Binary code) [] (s ∷ ss) h r = absurd h
answers (Binary code) (e ∷ es) [] h r = absurd h
answers (Binary code) (e ∷ []) (a ∷ []) h r = tt
answers (Binary code) (e ∷ []) (a ∷ b ∷ ss) h r = absurd h.1
answers (Binary code) (e ∷ f ∷ es) (a ∷ []) h r = absurd h.1
answers (Binary code) (e ∷ f ∷ []) (a ∷ b ∷ []) h r = by (operator_of code)
  where
    by : (o : Option Operator) → Answers (binary_judged o e f) (where_known o (λ op. binary op a b))
    by None = tt
    by (Some op) = two_scalars op e f a b h.0 h.1.0
answers (Binary code) (e ∷ f ∷ []) (a ∷ b ∷ c ∷ ss) h r = absurd h.1.1
answers (Binary code) (e ∷ f ∷ g ∷ es) (a ∷ b ∷ []) h r = absurd h.1.1
answers (Binary code) (e ∷ f ∷ g ∷ es) (a ∷ b ∷ c ∷ ss) h r = tt
answers (IntrinsicOf code) es ss h r = by (intrinsic_of code) r
  where
    by : (o : Option Intrinsic) → (ranks_of_function o ≡ OneArray → ⊥) → Answers (intrinsic_judged o es) (where_known o (λ which. intrinsic which ss))
    by None r = tt
    by (Some which) r = functions which es ss h r
answers (Convert kind) [] [] h r = tt
answers (Convert kind) [] (s ∷ ss) h r = absurd h
answers (Convert kind) (e ∷ es) [] h r = absurd h
answers (Convert kind) (e ∷ []) (a ∷ []) h r = conversions kind e a h.0
answers (Convert kind) (e ∷ []) (a ∷ b ∷ ss) h r = absurd h.1
answers (Convert kind) (e ∷ f ∷ es) (a ∷ []) h r = absurd h.1
answers (Convert kind) (e ∷ f ∷ es) (a ∷ b ∷ ss) h r = tt

reduces_nothing : (which : Intrinsic) (ss : List Scalar) → ranks_of_intrinsic which ≡ OneArray → intrinsic which ss ≡ NoRule
reduces_nothing which [] e = refl
reduces_nothing which (a ∷ []) e = one which a e
  where
    of_integer_none : (which : Intrinsic) (k : ℕ) (a : ℤ) → ranks_of_intrinsic which ≡ OneArray → of_integer which k a ≡ NoRule
    of_integer_none Abs k a e = cc
    of_integer_none Achar k a e = cc
    of_integer_none _ k a e = refl

    of_text_none : (which : Intrinsic) (a : List ℕ) → ranks_of_intrinsic which ≡ OneArray → of_text which a ≡ NoRule
    of_text_none Iachar a e = cc
    of_text_none LenOf a e = cc
    of_text_none LenTrim a e = cc
    of_text_none Trim a e = cc
    of_text_none _ a e = refl

    one : (which : Intrinsic) (a : Scalar) → ranks_of_intrinsic which ≡ OneArray → of_one which a ≡ NoRule
    one which (Integer k a) e = of_integer_none which k a e
    one which (Logical a) e = refl
    one which (Characters a) e = of_text_none which a e
reduces_nothing which (a ∷ b ∷ []) e = two which a b e
  where
    of_integers_none : (which : Intrinsic) (k : ℕ) (a b : ℤ) → ranks_of_intrinsic which ≡ OneArray → of_integers which k a b ≡ NoRule
    of_integers_none Mod k a b e = cc
    of_integers_none Modulo k a b e = cc
    of_integers_none Sign k a b e = cc
    of_integers_none Min k a b e = cc
    of_integers_none Max k a b e = cc
    of_integers_none _ k a b e = refl

    of_texts_none : (which : Intrinsic) (a b : List ℕ) → ranks_of_intrinsic which ≡ OneArray → of_texts which a b ≡ NoRule
    of_texts_none Index a b e = cc
    of_texts_none _ a b e = refl

    two : (which : Intrinsic) (a b : Scalar) → ranks_of_intrinsic which ≡ OneArray → of_two which a b ≡ NoRule
    two which (Integer k a) (Integer l b) e = of_integers_none which (max k l) a b e
    two which (Characters a) (Characters b) e = of_texts_none which a b e
    two which a b e = refl
reduces_nothing which (a ∷ b ∷ c ∷ ss) e = by (nat_le (length (b ∷ c ∷ ss)) 30)
  where
    none : (which : Intrinsic) → ranks_of_intrinsic which ≡ OneArray → picked which a (b ∷ c ∷ ss) ≡ NoRule
    none Min e = cc
    none Max e = cc
    none _ e = refl

    by : (t : Bool) → (if t then picked which a (b ∷ c ∷ ss) else NoRule) ≡ NoRule
    by true = none which e
    by false = refl

-- A function that reduces an array has no rule for scalars.
pub no_reduction : (op : Op) (ss : List Scalar) → ranks_of op ≡ OneArray → operation op ss ≡ NoRule
no_reduction (Unary code) ss e = cc
no_reduction (Binary code) ss e = by (operator_of code) e
  where
    by : (o : Option Operator) → ranks_of_operator o ≡ OneArray → operation (Binary code) ss ≡ NoRule
    by None e = cc
    by (Some op) e = one (is_concatenation op) e
      where
        one : (t : Bool) → (if t then Scalars else Elementwise) ≡ OneArray → operation (Binary code) ss ≡ NoRule
        one true e = cc
        one false e = cc
no_reduction (IntrinsicOf code) ss e = by (intrinsic_of code) e
  where
    by : (o : Option Intrinsic) → ranks_of_function o ≡ OneArray → where_known o (λ which. intrinsic which ss) ≡ NoRule
    by None e = cc
    by (Some which) e = reduces_nothing which ss e
no_reduction (Convert kind) ss e = cc
