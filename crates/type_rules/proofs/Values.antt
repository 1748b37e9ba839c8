-- Operations on values give values.
use Rattle.std.proofs.Common.{◌≡◌, ℕ, ◌+◌, ◌≤◌, max, Bool, true, false, not, ◌&&◌, ◌||◌, refl, ◌∙◌, ap, subst, arith, ℤ, pos, negsuc, List, [], ◌∷◌, ◌++◌, map, length, ◌==◌, nat_le, nat_lt, if◌then◌else◌, Option, Some, None, Ok, Err, length-append, ◌⊎◌, inl, inr, ◌+ℤ◌, ◌-ℤ◌, ◌*ℤ◌, neg_ℤ}
use Rattle.type_rules.specs.Integers.{quotient, remainder, modulo, power, magnitude, sign}
use Rattle.std.specs.Ordering.{int_cmp}
use Rattle.std.specs.Int.{int_min, int_max}
use Rattle.std.specs.declared.cmp.Ordering.{Ordering}
use Rattle.type_rules.specs.Values.{Scalar, Integer, Logical, Characters, Evaluation, Gives, Traps, NoRule, Exact, fitted, is_in_kind, is_kind, is_constant, are_constants, scalar_of, constant_of}
use Rattle.type_rules.specs.Characters.{text_order, concatenated, trimmed, place_from, number_of_byte, byte_of_number}
use Rattle.type_rules.specs.Operations.{is_less, is_equal, same_truth, relation, on_integers, on_logicals, on_texts, binary, on_integer, on_logical, unary, number, numbered, of_integer, of_text, of_one, of_integers, of_texts, of_two, extreme, extreme_of, picked, of_many, intrinsic, convert, where_known, operation}
use Rattle.type_rules.specs.Folds.{constant_given, Folds}
use Rattle.lf_base.specs.Operators.{operator_of}
use Rattle.type_rules.specs.Codes.{intrinsic_of}
use Rattle.type_rules.proofs.Texts.{trimmed_short}
use Rattle.lf_base.specs.declared.operator.Operator.{Operator}
use Rattle.lf_base.specs.declared.operator.Operator.TheVariants.{Add, Subtract, Multiply, Divide, Power, Concatenate, Eq, Ne, Lt, Le, Gt, Ge, And, Or, Eqv, Neqv, Not}
use Rattle.type_rules.specs.declared.code.Intrinsic.{Intrinsic}
use Rattle.type_rules.specs.declared.code.Intrinsic.TheVariants.{Abs, Mod, Modulo, Min, Max, Sign, Iachar, Achar, Len, LenTrim, Trim, Index}
use Rattle.type_rules.specs.declared.constant.Const.{Const}
use Rattle.type_rules.specs.declared.constant.Const.TheVariants.{IntConst, LogConst, CharConst}
use Rattle.std.specs.Prelude.{Result, IfOk}
use Rattle.type_rules.specs.declared.constant.TypeFault.{TypeFault}
use Rattle.type_rules.specs.declared.constant.Op.{Op}
use Rattle.type_rules.specs.declared.constant.Op.TheVariants.{Unary, Binary, Intrinsic as IntrinsicOf, Convert}
use Rattle.lf_base.specs.declared.trap.Trap.TheVariants.{IntegerOverflow, LengthLimit, BadCharacterCode}

abbrev pub GivesValue : Evaluation Scalar → Type 0
GivesValue (Gives s) = is_constant (constant_of s) ≡ true
GivesValue (Traps trap) = Unit {0}
GivesValue NoRule = Unit {0}

both_true : (p q : Bool) → (p && q) ≡ true → (p ≡ true) × (q ≡ true)
both_true true true e = (refl, refl)
both_true true false e = cc
both_true false q e = cc

from_both : (p q : Bool) → p ≡ true → q ≡ true → (p && q) ≡ true
from_both p q e f = rw (e, f) refl

pub fitted_value : (kind : ℕ) (exact : Exact) → is_kind kind ≡ true → GivesValue (fitted kind exact)
fitted_value kind (Ok z) h = by (is_in_kind kind z) refl
  where
    by : (t : Bool) → is_in_kind kind z ≡ t → GivesValue (if t then Gives (Integer kind z) else Traps IntegerOverflow)
    by true p = from_both (is_kind kind) (is_in_kind kind z) h p
    by false p = tt
fitted_value kind (Err trap) h = tt

either_kind : (k : ℕ) → is_kind k ≡ true → (k ≡ 4) ⊎ (k ≡ 8)
either_kind k h = by (k == 4) (k == 8) refl refl h
  where
    by : (t u : Bool) → (k == 4) ≡ t → (k == 8) ≡ u → (t || u) ≡ true → (k ≡ 4) ⊎ (k ≡ 8)
    by true u p q e = inl (grind arith)
    by false true p q e = inr (grind arith)
    by false false p q e = cc

pub greater_kind : (j k : ℕ) → is_kind j ≡ true → is_kind k ≡ true → is_kind (max j k) ≡ true
greater_kind j k g h = by (either_kind j g) (either_kind k h)
  where
    by : (j ≡ 4) ⊎ (j ≡ 8) → (k ≡ 4) ⊎ (k ≡ 8) → is_kind (max j k) ≡ true
    by (inl p) (inl q) = rw (p, q) refl
    by (inl p) (inr q) = rw (p, q) refl
    by (inr p) (inl q) = rw (p, q) refl
    by (inr p) (inr q) = rw (p, q) refl

truth_value : (t : Bool) → is_constant (constant_of (Logical t)) ≡ true
truth_value true = refl
truth_value false = refl

relation_value : (op : Operator) (order : Ordering) → GivesValue (relation op order)
relation_value Eq order = truth_value (is_equal order)
relation_value Ne order = truth_value (not (is_equal order))
relation_value Lt order = truth_value (is_less order)
relation_value Le order = truth_value (is_less order || is_equal order)
relation_value Gt order = truth_value (not (is_less order || is_equal order))
relation_value Ge order = truth_value (not (is_less order))
relation_value _ order = tt

on_integers_value : (op : Operator) (kind : ℕ) (a b : ℤ) → is_kind kind ≡ true → GivesValue (on_integers op kind a b)
on_integers_value Add kind a b h = fitted_value kind (Ok (a +ℤ b)) h
on_integers_value Subtract kind a b h = fitted_value kind (Ok (a -ℤ b)) h
on_integers_value Multiply kind a b h = fitted_value kind (Ok (a *ℤ b)) h
on_integers_value Divide kind a b h = fitted_value kind (quotient a b) h
on_integers_value Power kind a b h = fitted_value kind (power a b) h
on_integers_value op kind a b h = relation_value op (int_cmp a b)

on_logicals_value : (op : Operator) (p q : Bool) → GivesValue (on_logicals op p q)
on_logicals_value And p q = truth_value (p && q)
on_logicals_value Or p q = truth_value (p || q)
on_logicals_value Eqv p q = truth_value (same_truth p q)
on_logicals_value Neqv p q = truth_value (not (same_truth p q))
on_logicals_value _ p q = tt

concatenated_value : (a b : List ℕ) → GivesValue (concatenated a b)
concatenated_value a b = by (nat_le (length a + length b) 65535) refl
  where
    by : (t : Bool) → nat_le (length a + length b) 65535 ≡ t → GivesValue (if t then Gives (Characters (a ++ b)) else Traps LengthLimit)
    by true p = ap (λ n. nat_le n 65535) (length-append a b) ∙ p
    by false p = tt

on_texts_value : (op : Operator) (a b : List ℕ) → GivesValue (on_texts op a b)
on_texts_value Concatenate a b = concatenated_value a b
on_texts_value op a b = relation_value op (text_order a b)

binary_value : (op : Operator) (a b : Scalar) → is_constant (constant_of a) ≡ true → is_constant (constant_of b) ≡ true → GivesValue (binary op a b)
binary_value op (Integer j a) (Integer k b) e f = on_integers_value op (max j k) a b (greater_kind j k (both_true (is_kind j) (is_in_kind j a) e).0 (both_true (is_kind k) (is_in_kind k b) f).0)
binary_value op (Logical p) (Logical q) e f = on_logicals_value op p q
binary_value op (Characters a) (Characters b) e f = on_texts_value op a b
binary_value op a b e f = tt

on_integer_value : (op : Operator) (kind : ℕ) (a : ℤ) → is_kind kind ≡ true → GivesValue (on_integer op kind a)
on_integer_value Add kind a h = fitted_value kind (Ok a) h
on_integer_value Subtract kind a h = fitted_value kind (Ok (neg_ℤ a)) h
on_integer_value _ kind a h = tt

on_logical_value : (op : Operator) (p : Bool) → GivesValue (on_logical op p)
on_logical_value Not p = truth_value (not p)
on_logical_value _ p = tt

unary_value : (op : Operator) (a : Scalar) → is_constant (constant_of a) ≡ true → GivesValue (unary op a)
unary_value op (Integer kind a) e = on_integer_value op kind a (both_true (is_kind kind) (is_in_kind kind a) e).0
unary_value op (Logical p) e = on_logical_value op p
unary_value op (Characters a) e = tt

number_value : (n : ℕ) → GivesValue (number n)
number_value n = fitted_value 4 (Ok (pos n)) refl

byte_value : (text : List ℕ) → GivesValue (numbered (number_of_byte text))
byte_value [] = tt
byte_value (b ∷ []) = number_value b
byte_value (b ∷ c ∷ cs) = tt

byte_of_value : (a : ℤ) → GivesValue (byte_of_number a)
byte_of_value (pos n) = by (nat_lt n 256)
  where
    by : (t : Bool) → GivesValue (if t then Gives (Characters (n ∷ [])) else Traps BadCharacterCode)
    by true = refl
    by false = tt
byte_of_value (negsuc n) = tt

shorter : (m n : ℕ) → m ≤ n → nat_le n 65535 ≡ true → nat_le m 65535 ≡ true
shorter m n h e = by (nat_le m 65535) refl
  where
    by : (t : Bool) → nat_le m 65535 ≡ t → t ≡ true
    by true p = refl
    by false p = absurd (grind arith)

of_integer_value : (which : Intrinsic) (kind : ℕ) (a : ℤ) → is_kind kind ≡ true → GivesValue (of_integer which kind a)
of_integer_value Abs kind a h = fitted_value kind (Ok (magnitude a)) h
of_integer_value Achar kind a h = byte_of_value a
of_integer_value _ kind a h = tt

of_text_value : (which : Intrinsic) (text : List ℕ) → nat_le (length text) 65535 ≡ true → GivesValue (of_text which text)
of_text_value Iachar text h = byte_value text
of_text_value Len text h = number_value (length text)
of_text_value LenTrim text h = number_value (length (trimmed text))
of_text_value Trim text h = shorter (length (trimmed text)) (length text) (trimmed_short text) h
of_text_value _ text h = tt

of_one_value : (which : Intrinsic) (a : Scalar) → is_constant (constant_of a) ≡ true → GivesValue (of_one which a)
of_one_value which (Integer kind a) e = of_integer_value which kind a (both_true (is_kind kind) (is_in_kind kind a) e).0
of_one_value which (Characters text) e = of_text_value which text e
of_one_value which (Logical p) e = tt

of_integers_value : (which : Intrinsic) (kind : ℕ) (a b : ℤ) → is_kind kind ≡ true → GivesValue (of_integers which kind a b)
of_integers_value Mod kind a b h = fitted_value kind (remainder a b) h
of_integers_value Modulo kind a b h = fitted_value kind (modulo a b) h
of_integers_value Sign kind a b h = fitted_value kind (Ok (sign a b)) h
of_integers_value Min kind a b h = fitted_value kind (Ok (int_min a b)) h
of_integers_value Max kind a b h = fitted_value kind (Ok (int_max a b)) h
of_integers_value _ kind a b h = tt

of_texts_value : (which : Intrinsic) (text part : List ℕ) → GivesValue (of_texts which text part)
of_texts_value Index text part = number_value (place_from 1 part text)
of_texts_value _ text part = tt

of_two_value : (which : Intrinsic) (a b : Scalar) → is_constant (constant_of a) ≡ true → is_constant (constant_of b) ≡ true → GivesValue (of_two which a b)
of_two_value which (Integer j a) (Integer k b) e f = of_integers_value which (max j k) a b (greater_kind j k (both_true (is_kind j) (is_in_kind j a) e).0 (both_true (is_kind k) (is_in_kind k b) f).0)
of_two_value which (Characters a) (Characters b) e f = of_texts_value which a b
of_two_value which a b e f = tt

abbrev pub are_values : List Scalar → Bool
are_values [] = true
are_values (s ∷ ss) = is_constant (constant_of s) && are_values ss

extreme_value : (pick : ℤ → ℤ → ℤ) (kind : ℕ) (a : ℤ) (rest : List Scalar) → is_kind kind ≡ true → are_values rest ≡ true → GivesValue (extreme pick kind a rest)
extreme_value pick kind a [] h e = fitted_value kind (Ok a) h
extreme_value pick kind a (Integer k b ∷ rest) h e =
    let p = both_true (is_constant (constant_of (Integer k b))) (are_values rest) e in
    extreme_value pick (max kind k) (pick a b) rest (greater_kind kind k h (both_true (is_kind k) (is_in_kind k b) p.0).0) p.1
extreme_value pick kind a (Logical _ ∷ rest) h e = tt
extreme_value pick kind a (Characters _ ∷ rest) h e = tt

extreme_of_value : (pick : ℤ → ℤ → ℤ) (a : Scalar) (rest : List Scalar) → is_constant (constant_of a) ≡ true → are_values rest ≡ true → GivesValue (extreme_of pick a rest)
extreme_of_value pick (Integer kind a) rest h e = extreme_value pick kind a rest (both_true (is_kind kind) (is_in_kind kind a) h).0 e
extreme_of_value pick (Logical _) rest h e = tt
extreme_of_value pick (Characters _) rest h e = tt

picked_value : (which : Intrinsic) (a : Scalar) (rest : List Scalar) → is_constant (constant_of a) ≡ true → are_values rest ≡ true → GivesValue (picked which a rest)
picked_value Min a rest h e = extreme_of_value int_min a rest h e
picked_value Max a rest h e = extreme_of_value int_max a rest h e
picked_value _ a rest h e = tt

of_many_value : (which : Intrinsic) (a : Scalar) (rest : List Scalar) → is_constant (constant_of a) ≡ true → are_values rest ≡ true → GivesValue (of_many which a rest)
of_many_value which a rest h e = by (nat_le (length rest) 30)
  where
    by : (t : Bool) → GivesValue (if t then picked which a rest else NoRule)
    by true = picked_value which a rest h e
    by false = tt

intrinsic_value : (which : Intrinsic) (args : List Scalar) → are_values args ≡ true → GivesValue (intrinsic which args)
intrinsic_value which [] e = tt
intrinsic_value which (a ∷ []) e = of_one_value which a (both_true (is_constant (constant_of a)) true e).0
intrinsic_value which (a ∷ b ∷ []) e =
    let p = both_true (is_constant (constant_of a)) (are_values (b ∷ [])) e in
    of_two_value which a b p.0 (both_true (is_constant (constant_of b)) true p.1).0
intrinsic_value which (a ∷ b ∷ c ∷ rest) e =
    let p = both_true (is_constant (constant_of a)) (are_values (b ∷ c ∷ rest)) e in
    of_many_value which a (b ∷ c ∷ rest) p.0 p.1

convert_value : (kind : ℕ) (a : Scalar) → GivesValue (convert kind a)
convert_value kind (Integer k a) = by (is_kind kind) refl
  where
    by : (t : Bool) → is_kind kind ≡ t → GivesValue (if t then fitted kind (Ok a) else NoRule)
    by true p = fitted_value kind (Ok a) p
    by false p = tt
convert_value kind (Logical p) = tt
convert_value kind (Characters a) = tt

where_known_value : {A : Type 0} (o : Option A) (rule : A → Evaluation Scalar) → ((a : A) → GivesValue (rule a)) → GivesValue (where_known o rule)
where_known_value None rule h = tt
where_known_value (Some a) rule h = h a

pub operation_value : (op : Op) (args : List Scalar) → are_values args ≡ true → GivesValue (operation op args)
operation_value (Unary code) [] e = tt
operation_value (Unary code) (a ∷ []) e = where_known_value (operator_of code) (λ op. unary op a) (λ op. unary_value op a (both_true (is_constant (constant_of a)) true e).0)
operation_value (Unary code) (a ∷ b ∷ rest) e = tt
operation_value (Binary code) [] e = tt
operation_value (Binary code) (a ∷ []) e = tt
operation_value (Binary code) (a ∷ b ∷ []) e =
    let p = both_true (is_constant (constant_of a)) (are_values (b ∷ [])) e in
    where_known_value (operator_of code) (λ op. binary op a b) (λ op. binary_value op a b p.0 (both_true (is_constant (constant_of b)) true p.1).0)
operation_value (Binary code) (a ∷ b ∷ c ∷ rest) e = tt
operation_value (IntrinsicOf code) args e = where_known_value (intrinsic_of code) (λ which. intrinsic which args) (λ which. intrinsic_value which args e)
operation_value (Convert kind) [] e = tt
operation_value (Convert kind) (a ∷ []) e = convert_value kind a
operation_value (Convert kind) (a ∷ b ∷ rest) e = tt

-- A constant that may be one is the constant of its value.
same_constant : (c : Const) → is_constant c ≡ true → is_constant (constant_of (scalar_of c)) ≡ true
same_constant (IntConst kind value) e = e
same_constant (LogConst value) e = truth_value (not (value == 0))
same_constant (CharConst bytes) e = e

all_same : (cs : List Const) → are_constants cs ≡ true → are_values (map scalar_of cs) ≡ true
all_same [] e = refl
all_same (c ∷ cs) e =
    let p = both_true (is_constant c) (are_constants cs) e in
    from_both (is_constant (constant_of (scalar_of c))) (are_values (map scalar_of cs)) (same_constant c p.0) (all_same cs p.1)

given_value : (o : Evaluation Scalar) (c : Const) → GivesValue o → constant_given o ≡ Some c → is_constant c ≡ true
given_value (Gives s) c h e = let same : constant_of s ≡ c = cc in subst (λ d. is_constant d ≡ true) same h
given_value (Traps trap) c h e = cc
given_value NoRule c h e = cc

pub gives_constants : (op : Op) (args : List Const) (c : Const) → are_constants args ≡ true → constant_given (operation op (map scalar_of args)) ≡ Some c → is_constant c ≡ true
gives_constants op args c h e = given_value (operation op (map scalar_of args)) c (operation_value op (map scalar_of args) (all_same args h)) e

pub folds_constant : (op : Op) (args : List Const) (r : Result Const TypeFault) → Folds r (operation op (map scalar_of args)) → are_constants args ≡ true → IfOk r (λ c. is_constant c ≡ true)
folds_constant op args (Ok c) h e = gives_constants op args c e h
folds_constant op args (Err fault) h e = tt
