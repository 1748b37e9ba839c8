-- The kinds of results, and what the functions give that reduce an array.
use Rattle.std.proofs.Common.{◌≡◌, ℕ, max, Bool, true, false, ◌&&◌, ◌||◌, refl, sym, ◌∙◌, ap, subst, arith, ℤ, pos, ◌==◌, if◌then◌else◌, List, [], ◌∷◌, length, Option, Some, None, Ok, Err, ◌⊎◌, inl, inr, ◌+ℤ◌, ◌*ℤ◌}
use Rattle.std.proofs.lemmas.Bool.{and_parts, and_from}
use Rattle.std.proofs.lemmas.Bool.Decides.{nat_tests}
use Rattle.lf_base.specs.declared.operator.Operator.{Operator}
use Rattle.lf_base.specs.declared.operator.Operator.TheVariants.{Add, Subtract, Multiply, Divide, Power, Not, Concatenate, Eq, Ne, Lt, Le, Gt, Ge, And, Or, Eqv, Neqv}
use Rattle.lf_base.specs.Operators.{operator_of}
use Rattle.type_rules.specs.Codes.{intrinsic_of}
use Rattle.type_rules.specs.Values.{Scalar, Integer, Logical, Characters, is_in_kind, is_kind, is_constant, constant_of}
use Rattle.type_rules.specs.Store.{Value, Single, Array, Record, Values, none, more}
use Rattle.type_rules.specs.Shapes.{shape_of, shapes_of, Definitions, IsValue, is_of, are_of, is_element, scalar_type}
use Rattle.type_rules.specs.Types.{element_of, of_relation, is_concatenation}
use Rattle.type_rules.specs.Typing.{takes, class_of, is_in_class, are_in_class, kind_of, greatest_kind, result_element, unary_element, element_or_none, unary_judged, binary_judged, intrinsic_judged, judged, ranks_of, ranks_of_intrinsic, ranks_of_operator, ranks_of_function, elements_of}
use Rattle.type_rules.specs.Judging.{Suits, AreValues}
use Rattle.type_rules.specs.declared.ty.Ty.{Ty}
use Rattle.type_rules.specs.declared.ty.Elem.{Elem}
use Rattle.type_rules.specs.declared.ty.Elem.TheVariants as elem
use Rattle.type_rules.specs.declared.ty.Len.{Len}
use Rattle.type_rules.specs.declared.code.Intrinsic.{Intrinsic}
use Rattle.type_rules.specs.declared.code.Intrinsic.TheVariants.{Abs, Mod, Modulo, Min, Max, Sign, Iachar, Len as LenOf, LenTrim, Trim, Index, Sum, Product, Maxval, Minval, Count, Any, All}
use Rattle.type_rules.specs.declared.constant.Op.{Op}
use Rattle.type_rules.specs.declared.constant.Op.TheVariants.{Unary, Binary, Intrinsic as IntrinsicOf, Convert}
use Rattle.type_rules.specs.declared.signature.Judgement.TheVariants.{Element}
use Rattle.type_rules.specs.declared.signature.Ranks.TheVariants.{Elementwise, Scalars, OneArray}
use Rattle.type_rules.specs.declared.signature.Class.{Class}
use Rattle.type_rules.specs.declared.signature.Class.TheVariants.{Integers, Logicals, Characters as CharacterClass, OneCharacter}
use Rattle.std.specs.Int.{int_min, int_max}
use Rattle.std.specs.Prelude.{int_le}
use Rattle.lf_base.specs.declared.trap.Trap.TheVariants.{IntegerOverflow}
use Rattle.type_rules.specs.Values.{Evaluation, Gives, Traps, NoRule, and_then, Exact, fitted, greatest, least}
use Rattle.type_rules.specs.Operations.{on_integers}
use Rattle.type_rules.specs.Arrays.{joined_by, integers, logicals, counted, reduced}
use Rattle.type_rules.proofs.Values.{greater_kind}
use Rattle.type_rules.proofs.Judging.{scalar_of_type}
use Rattle.type_rules.proofs.Arrayed.{Plain, AllPlain, Called, called, array_of, not_a_record}
use Rattle.type_rules.proofs.Arrayed.{converted}
use Rattle.std.proofs.lemmas.Int.{ints, int_max_is, int_min_is}

-- A kind of integers that there is.
abbrev pub Known : Elem → Type 0
Known (elem.Integer k) = is_kind k ≡ true
Known _ = Unit {0}

abbrev pub AllKnown : List Elem → Type 0
AllKnown [] = Unit {0}
AllKnown (e ∷ es) = Known e × AllKnown es

integer_known : (e : Elem) (k : ℕ) → is_element e (elem.Integer k) ≡ true → Known e
integer_known (elem.Integer j) k h =
    let p = and_parts (j == k) (is_kind k) h in
    let q = p.0 in
    let same : k ≡ j = grind (arith, nat_tests) in
    subst (λ (n : ℕ). is_kind n ≡ true) same p.1
integer_known elem.Logical k h = tt
integer_known (elem.Character n) k h = tt
integer_known (elem.Derived s) k h = tt

element_known : (e f : Elem) → is_element e f ≡ true → Known e
element_known (elem.Integer j) (elem.Integer k) h = integer_known (elem.Integer j) k h
element_known (elem.Integer j) elem.Logical h = cc
element_known (elem.Integer j) (elem.Character n) h = cc
element_known (elem.Integer j) (elem.Derived s) h = cc
element_known elem.Logical f h = tt
element_known (elem.Character n) f h = tt
element_known (elem.Derived s) f h = tt

scalar_known : (e : Elem) (s : Scalar) → Suits e s → is_constant (constant_of s) ≡ true → Known e
scalar_known (elem.Integer j) (Integer k z) p c = subst (λ (n : ℕ). is_kind n ≡ true) (sym p) (and_parts (is_kind k) (is_in_kind k z) c).0
scalar_known elem.Logical s p c = tt
scalar_known (elem.Character n) s p c = tt
scalar_known (elem.Derived t) s p c = tt
scalar_known (elem.Integer j) (Logical t) p c = absurd p
scalar_known (elem.Integer j) (Characters b) p c = absurd p

value_known : (ds : Definitions) (t : Ty) (v : Value) → Plain t.elem → IsValue ds t v → Known t.elem
value_known ds t (Single s) p h = let q = scalar_of_type ds t s h.holds in scalar_known t.elem s q.suits q.constant
value_known ds t (Array element extents elements) p h = element_known t.elem element (array_of ds t element extents elements h).element_is
value_known ds t (Record cs) p h = absurd (not_a_record ds t cs h p)

pub values_known : (ds : Definitions) (ts : List Ty) (vs : List Value) → AllPlain (elements_of ts) → AreValues ds ts vs → AllKnown (elements_of ts)
values_known ds [] [] p h = tt
values_known ds [] (v ∷ vs) p h = absurd h
values_known ds (t ∷ ts) [] p h = absurd h
values_known ds (t ∷ ts) (v ∷ vs) p h = (value_known ds t v p.0 h.0, values_known ds ts vs p.1 h.1)

-- The element type of a result is that of an array of values.
abbrev pub Closed : Elem → Type 0
Closed x = is_element x x ≡ true

same_number : (n : ℕ) → (n == n) ≡ true
same_number n = grind (arith, nat_tests)

integer_closed : (k : ℕ) (x : Elem) → is_kind k ≡ true → x ≡ elem.Integer k → Closed x
integer_closed k x h e = subst Closed (sym e) (and_from (k == k) (is_kind k) (same_number k) h)

relation_closed : (op : Operator) (x : Elem) → element_or_none (of_relation op) ≡ Element x → Closed x
relation_closed op x h = by op h
  where
    logical : Element elem.Logical ≡ Element x → Closed x
    logical g = let same : elem.Logical ≡ x = cc in subst Closed same refl

    by : (op : Operator) → element_or_none (of_relation op) ≡ Element x → Closed x
    by Eq g = logical g
    by Ne g = logical g
    by Lt g = logical g
    by Le g = logical g
    by Gt g = logical g
    by Ge g = logical g
    by _ g = cc

unary_closed : (op : Operator) (e x : Elem) → Known e → element_or_none (unary_element op e) ≡ Element x → Closed x
unary_closed Add (elem.Integer k) x p h = integer_closed k x p (cc)
unary_closed Subtract (elem.Integer k) x p h = integer_closed k x p (cc)
unary_closed Not elem.Logical x p h = let same : elem.Logical ≡ x = cc in subst Closed same refl
unary_closed op e x p h = cc

integers_closed : (op : Operator) (j k : ℕ) (x : Elem) → is_kind j ≡ true → is_kind k ≡ true → element_or_none (element_of op (elem.Integer j) (elem.Integer k)) ≡ Element x → Closed x
integers_closed Add j k x p q h = integer_closed (max j k) x (greater_kind j k p q) (cc)
integers_closed Subtract j k x p q h = integer_closed (max j k) x (greater_kind j k p q) (cc)
integers_closed Multiply j k x p q h = integer_closed (max j k) x (greater_kind j k p q) (cc)
integers_closed Divide j k x p q h = integer_closed (max j k) x (greater_kind j k p q) (cc)
integers_closed Power j k x p q h = integer_closed (max j k) x (greater_kind j k p q) (cc)
integers_closed op j k x p q h = relation_closed op x h

logicals_closed : (op : Operator) (x : Elem) → element_or_none (element_of op elem.Logical elem.Logical) ≡ Element x → Closed x
logicals_closed op x h = by op h
  where
    logical : Element elem.Logical ≡ Element x → Closed x
    logical g = let same : elem.Logical ≡ x = cc in subst Closed same refl

    by : (op : Operator) → element_or_none (element_of op elem.Logical elem.Logical) ≡ Element x → Closed x
    by And g = logical g
    by Or g = logical g
    by Eqv g = logical g
    by Neqv g = logical g
    by _ g = cc

texts_closed : (op : Operator) (m n : Len) (x : Elem) → is_concatenation op ≡ false → element_or_none (element_of op (elem.Character m) (elem.Character n)) ≡ Element x → Closed x
texts_closed Concatenate m n x e h = cc
texts_closed op m n x e h = relation_closed op x h

binary_closed : (op : Operator) (e f x : Elem) → Known e → Known f → is_concatenation op ≡ false → element_or_none (element_of op e f) ≡ Element x → Closed x
binary_closed op (elem.Integer j) (elem.Integer k) x p q c h = integers_closed op j k x p q h
binary_closed op elem.Logical elem.Logical x p q c h = logicals_closed op x h
binary_closed op (elem.Character m) (elem.Character n) x p q c h = texts_closed op m n x c h
binary_closed op (elem.Integer j) elem.Logical x p q c h = cc
binary_closed op (elem.Integer j) (elem.Character n) x p q c h = cc
binary_closed op (elem.Integer j) (elem.Derived s) x p q c h = cc
binary_closed op elem.Logical (elem.Integer k) x p q c h = cc
binary_closed op elem.Logical (elem.Character n) x p q c h = cc
binary_closed op elem.Logical (elem.Derived s) x p q c h = cc
binary_closed op (elem.Character m) (elem.Integer k) x p q c h = cc
binary_closed op (elem.Character m) elem.Logical x p q c h = cc
binary_closed op (elem.Character m) (elem.Derived s) x p q c h = cc
binary_closed op (elem.Derived s) f x p q c h = cc

greatest_known : (e : Elem) (es : List Elem) → AllKnown (e ∷ es) → are_in_class Integers (e ∷ es) ≡ true → is_kind (greatest_kind (e ∷ es)) ≡ true
greatest_known (elem.Integer k) [] p h = let same : k ≡ max k 0 = omega arith in subst (λ (n : ℕ). is_kind n ≡ true) same p.0
greatest_known (elem.Integer k) (f ∷ es) p h = greater_kind k (greatest_kind (f ∷ es)) p.0 (greatest_known f es p.1 h)
greatest_known elem.Logical es p h = cc
greatest_known (elem.Character n) es p h = cc
greatest_known (elem.Derived s) es p h = cc

integer_function : (which : Intrinsic) (es : List Elem) (x : Elem) → AllKnown es → takes which (length es) ≡ true → are_in_class Integers es ≡ true → (takes which 0 ≡ false) → x ≡ elem.Integer (greatest_kind es) → Closed x
integer_function which [] x p t c z e = cc
integer_function which (a ∷ es) x p t c z e = integer_closed (greatest_kind (a ∷ es)) x (greatest_known a es p c) e

function_closed : (which : Intrinsic) (es : List Elem) (x : Elem) → AllKnown es → Called which es x → ranks_of_intrinsic which ≡ Elementwise → Closed x
function_closed Abs es x p c r = integer_function Abs es x p c.number c.class refl c.is
function_closed Mod es x p c r = integer_function Mod es x p c.number c.class refl c.is
function_closed Modulo es x p c r = integer_function Modulo es x p c.number c.class refl c.is
function_closed Min es x p c r = integer_function Min es x p c.number c.class refl c.is
function_closed Max es x p c r = integer_function Max es x p c.number c.class refl c.is
function_closed Sign es x p c r = integer_function Sign es x p c.number c.class refl c.is
function_closed Iachar es x p c r = integer_closed 4 x refl c.is
function_closed _ es x p c r = cc

pub closed : (op : Op) (es : List Elem) (x : Elem) → judged op es ≡ Element x → AllKnown es → ranks_of op ≡ Elementwise → Closed x
closed (Unary code) [] x h p r = cc
closed (Unary code) (e ∷ []) x h p r = by (operator_of code) h
  where
    by : (o : Option Operator) → unary_judged o e ≡ Element x → Closed x
    by None g = cc
    by (Some op) g = unary_closed op e x p.0 g
closed (Unary code) (e ∷ f ∷ es) x h p r = cc
closed (Binary code) [] x h p r = cc
closed (Binary code) (e ∷ []) x h p r = cc
closed (Binary code) (e ∷ f ∷ []) x h p r = by (operator_of code) h r
  where
    apart : (t : Bool) → (if t then Scalars else Elementwise) ≡ Elementwise → t ≡ false
    apart true g = cc
    apart false g = refl

    by : (o : Option Operator) → binary_judged o e f ≡ Element x → ranks_of_operator o ≡ Elementwise → Closed x
    by None g k = cc
    by (Some op) g k = binary_closed op e f x p.0 p.1.0 (apart (is_concatenation op) k) g
closed (Binary code) (e ∷ f ∷ g ∷ es) x h p r = cc
closed (IntrinsicOf code) es x h p r = by (intrinsic_of code) h r
  where
    by : (o : Option Intrinsic) → intrinsic_judged o es ≡ Element x → ranks_of_function o ≡ Elementwise → Closed x
    by None g k = cc
    by (Some which) g k = function_closed which es x p (called which es x g) k
closed (Convert kind) [] x h p r = cc
closed (Convert kind) (e ∷ []) x h p r = let c = converted kind e x h in integer_closed kind x c.0 c.2
closed (Convert kind) (e ∷ f ∷ es) x h p r = cc

-- What reduces an array.
abbrev pub Good : Elem → Evaluation Scalar → Type 0
Good x (Gives s) = Suits x s × (is_constant (constant_of s) ≡ true)
Good x (Traps trap) = Unit {0}
Good x NoRule = ⊥

abbrev Joins : Elem → Elem → (Scalar → Scalar → Evaluation Scalar) → Type 0
Joins x e join = (so_far s : Scalar) → Suits x so_far → is_constant (constant_of so_far) ≡ true → Suits e s → is_constant (constant_of s) ≡ true → Good x (join so_far s)

joins : (ds : Definitions) (x e : Elem) (join : Scalar → Scalar → Evaluation Scalar) (vs : Values) → Plain e → Joins x e join → (so_far : Scalar) → Suits x so_far → is_constant (constant_of so_far) ≡ true → are_of ds e (shapes_of vs) ≡ true → Good x (joined_by join so_far vs)
joins ds x e join none p j so_far a c h = (a, c)
joins ds x e join (more (Single s) rest) p j so_far a c h =
    let q = and_parts (is_of ds (scalar_type e) (shape_of (Single s))) (are_of ds e (shapes_of rest)) h in
    let t = scalar_of_type ds (scalar_type e) s q.0 in
    by (join so_far s) (j so_far s a c t.suits t.constant) (λ next a c. joins ds x e join rest p j next a c q.1)
  where
    by : (o : Evaluation Scalar) → Good x o → ((next : Scalar) → Suits x next → is_constant (constant_of next) ≡ true → Good x (joined_by join next rest)) → Good x (and_then o (λ next. joined_by join next rest))
    by (Gives next) g later = later next g.0 g.1
    by (Traps trap) g later = tt
    by NoRule g later = absurd g
joins ds x e join (more (Array f xs us) rest) p j so_far a c h =
    let q = (and_parts (is_of ds (scalar_type e) (shape_of (Array f xs us))) (are_of ds e (shapes_of rest)) h).0 in cc
joins ds x e join (more (Record cs) rest) p j so_far a c h =
    absurd (not_a_record ds (scalar_type e) cs (record { holds = (and_parts (is_of ds (scalar_type e) (shape_of (Record cs))) (are_of ds e (shapes_of rest)) h).0 }) p)

pub good_fitted : (k : ℕ) (exact : Exact) → is_kind k ≡ true → Good (elem.Integer k) (fitted k exact)
good_fitted k (Ok z) h = by (is_in_kind k z) refl
  where
    by : (t : Bool) → is_in_kind k z ≡ t → Good (elem.Integer k) (if t then Gives (Integer k z) else Traps IntegerOverflow)
    by true e = (refl, and_from (is_kind k) (is_in_kind k z) h e)
    by false e = tt
good_fitted k (Err trap) h = tt

joins_integers : (k : ℕ) (join : ℤ → ℤ → Evaluation Scalar) → ((a b : ℤ) → is_in_kind k a ≡ true → is_in_kind k b ≡ true → Good (elem.Integer k) (join a b)) → Joins (elem.Integer k) (elem.Integer k) (integers join)
joins_integers k join h (Integer i a) (Integer j b) p c q d =
    h a b (subst (λ (n : ℕ). is_in_kind n a ≡ true) (sym p) (and_parts (is_kind i) (is_in_kind i a) c).1) (subst (λ (n : ℕ). is_in_kind n b ≡ true) (sym q) (and_parts (is_kind j) (is_in_kind j b) d).1)
joins_integers k join h (Integer i a) (Logical t) p c q d = absurd q
joins_integers k join h (Integer i a) (Characters b) p c q d = absurd q
joins_integers k join h (Logical t) s p c q d = absurd p
joins_integers k join h (Characters b) s p c q d = absurd p

kinds : (k : ℕ) → is_kind k ≡ true → (k ≡ 4) ⊎ (k ≡ 8)
kinds k h = by (k == 4) (k == 8) refl refl h
  where
    by : (t u : Bool) → (k == 4) ≡ t → (k == 8) ≡ u → (t || u) ≡ true → (k ≡ 4) ⊎ (k ≡ 8)
    by true u p q r = inl (grind (arith, nat_tests))
    by false true p q r = inr (grind (arith, nat_tests))
    by false false p q r = cc

-- Where a reduction begins is in each kind.
abbrev Starts : (ℕ → ℤ) → Type 0
Starts start = (is_constant (constant_of (Integer 4 (start 4))) ≡ true) × (is_constant (constant_of (Integer 8 (start 8))) ≡ true)

begins : (start : ℕ → ℤ) (k : ℕ) → Starts start → is_kind k ≡ true → is_constant (constant_of (Integer k (start k))) ≡ true
begins start k s h = by (kinds k h)
  where
    by : (k ≡ 4) ⊎ (k ≡ 8) → is_constant (constant_of (Integer k (start k))) ≡ true
    by (inl e) = subst (λ (n : ℕ). is_constant (constant_of (Integer n (start n))) ≡ true) (sym e) s.0
    by (inr e) = subst (λ (n : ℕ). is_constant (constant_of (Integer n (start n))) ≡ true) (sym e) s.1

picked : (k : ℕ) (pick : ℤ → ℤ → ℤ) → ((a b : ℤ) → (pick a b ≡ a) ⊎ (pick a b ≡ b)) → is_kind k ≡ true → (a b : ℤ) → is_in_kind k a ≡ true → is_in_kind k b ≡ true → Good (elem.Integer k) (Gives (Integer k (pick a b)))
picked k pick either h a b p q = (refl, and_from (is_kind k) (is_in_kind k (pick a b)) h (by (either a b)))
  where
    by : (pick a b ≡ a) ⊎ (pick a b ≡ b) → is_in_kind k (pick a b) ≡ true
    by (inl e) = ap (is_in_kind k) e ∙ p
    by (inr e) = ap (is_in_kind k) e ∙ q

either_max : (a b : ℤ) → (int_max a b ≡ a) ⊎ (int_max a b ≡ b)
either_max a b = by (int_le a b) refl
  where
    by : (t : Bool) → int_le a b ≡ t → (int_max a b ≡ a) ⊎ (int_max a b ≡ b)
    by true e = inr (omega (arith, ints, int_max_is a b))
    by false e = inl (omega (arith, ints, int_max_is a b))

either_min : (a b : ℤ) → (int_min a b ≡ a) ⊎ (int_min a b ≡ b)
either_min a b = by (int_le a b) refl
  where
    by : (t : Bool) → int_le a b ≡ t → (int_min a b ≡ a) ⊎ (int_min a b ≡ b)
    by true e = inl (omega (arith, ints, int_min_is a b))
    by false e = inr (omega (arith, ints, int_min_is a b))

joins_count : Joins (elem.Integer 4) elem.Logical counted
joins_count (Integer k n) (Logical true) p c q d = subst (λ (m : ℕ). Good (elem.Integer 4) (fitted m (Ok (n +ℤ pos 1)))) p (good_fitted 4 (Ok (n +ℤ pos 1)) refl)
joins_count (Integer k n) (Logical false) p c q d = (p, c)
joins_count (Integer k n) (Integer j b) p c q d = absurd q
joins_count (Integer k n) (Characters b) p c q d = absurd q
joins_count (Logical t) s p c q d = absurd p
joins_count (Characters b) s p c q d = absurd p

one_or_none : (p : Bool) → is_constant (constant_of (Logical p)) ≡ true
one_or_none true = refl
one_or_none false = refl

joins_logicals : (join : Bool → Bool → Bool) → Joins elem.Logical elem.Logical (logicals join)
joins_logicals join (Logical p) (Logical q) a c b d = (tt, one_or_none (join p q))
joins_logicals join (Logical p) (Integer k z) a c b d = absurd b
joins_logicals join (Logical p) (Characters t) a c b d = absurd b
joins_logicals join (Integer k z) s a c b d = absurd a
joins_logicals join (Characters t) s a c b d = absurd a

good_as : (x y : Elem) (o : Evaluation Scalar) → x ≡ y → Good y o → Good x o
good_as x y o e g = subst (λ (z : Elem). Good z o) (sym e) g

itself : (k : ℕ) → elem.Integer (max k 0) ≡ elem.Integer k
itself k = ap elem.Integer (by k)
  where
    by : (k : ℕ) → max k 0 ≡ k
    by k = omega arith

pub reduced_integers : (ds : Definitions) (which : Intrinsic) (k : ℕ) (vs : Values) → is_kind k ≡ true → are_of ds (elem.Integer k) (shapes_of vs) ≡ true → ranks_of_intrinsic which ≡ OneArray → class_of which ≡ Integers → Good (result_element which (max k 0)) (reduced which (elem.Integer k) vs)
reduced_integers ds Sum k vs h a r c = good_as _ _ _ (itself k) (joins ds (elem.Integer k) (elem.Integer k) _ vs tt (joins_integers k (on_integers Add k) (λ a b p q. good_fitted k (Ok (a +ℤ b)) h)) (Integer k (pos 0)) refl (begins (λ n. pos 0) k (refl, refl) h) a)
reduced_integers ds Product k vs h a r c = good_as _ _ _ (itself k) (joins ds (elem.Integer k) (elem.Integer k) _ vs tt (joins_integers k (on_integers Multiply k) (λ a b p q. good_fitted k (Ok (a *ℤ b)) h)) (Integer k (pos 1)) refl (begins (λ n. pos 1) k (refl, refl) h) a)
reduced_integers ds Maxval k vs h a r c = good_as _ _ _ (itself k) (joins ds (elem.Integer k) (elem.Integer k) _ vs tt (joins_integers k (λ a b. Gives (Integer k (int_max a b))) (picked k int_max either_max h)) (Integer k (least k)) refl (begins least k (refl, refl) h) a)
reduced_integers ds Minval k vs h a r c = good_as _ _ _ (itself k) (joins ds (elem.Integer k) (elem.Integer k) _ vs tt (joins_integers k (λ a b. Gives (Integer k (int_min a b))) (picked k int_min either_min h)) (Integer k (greatest k)) refl (begins greatest k (refl, refl) h) a)
reduced_integers ds Count k vs h a r c = cc
reduced_integers ds Any k vs h a r c = cc
reduced_integers ds All k vs h a r c = cc
reduced_integers ds _ k vs h a r c = cc

pub reduced_logicals : (ds : Definitions) (which : Intrinsic) (vs : Values) → are_of ds elem.Logical (shapes_of vs) ≡ true → ranks_of_intrinsic which ≡ OneArray → class_of which ≡ Logicals → Good (result_element which 0) (reduced which elem.Logical vs)
reduced_logicals ds Count vs a r c = joins ds (elem.Integer 4) elem.Logical counted vs tt joins_count (Integer 4 (pos 0)) refl refl a
reduced_logicals ds Any vs a r c = joins ds elem.Logical elem.Logical _ vs tt (joins_logicals (λ p q. p || q)) (Logical false) tt refl a
reduced_logicals ds All vs a r c = joins ds elem.Logical elem.Logical _ vs tt (joins_logicals (λ p q. p && q)) (Logical true) tt refl a
reduced_logicals ds _ vs a r c = cc

one_place : (n : ℕ) → (n == 1) ≡ true → n ≡ 1
one_place n h = grind (arith, nat_tests)

pub one_argument : (which : Intrinsic) (n : ℕ) → ranks_of_intrinsic which ≡ OneArray → takes which n ≡ true → n ≡ 1
one_argument Sum n r h = one_place n h
one_argument Product n r h = one_place n h
one_argument Maxval n r h = one_place n h
one_argument Minval n r h = one_place n h
one_argument Count n r h = one_place n h
one_argument Any n r h = one_place n h
one_argument All n r h = one_place n h
one_argument _ n r h = cc

no_texts : (which : Intrinsic) → ranks_of_intrinsic which ≡ OneArray → (class_of which ≡ CharacterClass → ⊥) × (class_of which ≡ OneCharacter → ⊥)
no_texts Iachar r = cc
no_texts LenOf r = cc
no_texts LenTrim r = cc
no_texts Trim r = cc
no_texts Index r = cc
no_texts Count r = (λ h. cc, λ h. cc)
no_texts Any r = (λ h. cc, λ h. cc)
no_texts All r = (λ h. cc, λ h. cc)
no_texts _ r = (λ h. cc, λ h. cc)

same_kind : (j k : ℕ) → ((j == k) && is_kind k) ≡ true → (j ≡ k) × (is_kind k ≡ true)
same_kind j k h = let p = and_parts (j == k) (is_kind k) h in (by p.0, p.1)
  where
    by : (j == k) ≡ true → j ≡ k
    by q = grind (arith, nat_tests)

pub reduced_class : (ds : Definitions) (which : Intrinsic) (c : Class) (e f : Elem) (vs : Values) → ranks_of_intrinsic which ≡ OneArray → class_of which ≡ c → is_in_class c e ≡ true → is_element e f ≡ true → are_of ds f (shapes_of vs) ≡ true → Good (result_element which (max (kind_of e) 0)) (reduced which f vs)
reduced_class ds which Integers (elem.Integer j) (elem.Integer k) vs r q c h a =
    let p = same_kind j k h in
    subst (λ (n : ℕ). Good (result_element which (max n 0)) (reduced which (elem.Integer k) vs)) (sym p.0) (reduced_integers ds which k vs p.1 a r q)
reduced_class ds which Logicals elem.Logical elem.Logical vs r q c h a = reduced_logicals ds which vs a r q
reduced_class ds which CharacterClass e f vs r q c h a = absurd ((no_texts which r).0 q)
reduced_class ds which OneCharacter e f vs r q c h a = absurd ((no_texts which r).1 q)
reduced_class ds which c e f vs r q g h a = cc
