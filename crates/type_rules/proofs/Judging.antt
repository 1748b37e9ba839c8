-- An operation whose types are right gives a value of its type or traps, and one whose types are wrong has no rule.
use Rattle.std.proofs.Common.{◌≡◌, ℕ, Bool, true, false, not, ◌&&◌, ◌||◌, refl, sym, ◌∙◌, ap, subst, arith, ℤ, ◌==◌, nat_le, if◌then◌else◌, List, [], ◌∷◌, length, map, Option, Some, None, Ok, Err}
use Rattle.std.specs.Prelude.{Result}
use Rattle.std.specs.Option.{option_map}
use Rattle.std.proofs.lemmas.Bool.{and_parts, and_from}
use Rattle.std.proofs.lemmas.Bool.Decides.{nat_tests}
use Rattle.lf_base.specs.declared.rule.Rule.{Rule}
use Rattle.lf_base.specs.declared.rule.Rule.TheVariants.{E406, E412}
use Rattle.type_rules.specs.Values.{Scalar, Integer, Logical, Characters, Evaluation, Gives, Traps, NoRule, is_in_kind, is_kind, is_constant, constant_of}
use Rattle.type_rules.specs.Store.{Value, Single, Array, Record}
use Rattle.type_rules.specs.Shapes.{shape_of_scalar, Definitions, is_of, is_scalar, is_element, scalar_type}
use Rattle.type_rules.specs.Operations.{operation}
use Rattle.type_rules.specs.Typing.{judged, ranks_of, breaks_ranks, some_array, dims_of_result, some_apart, joined, joined_with, least_rule, elements_of, dims_of, type_of}
use Rattle.type_rules.specs.Arrays.{single, scalars_of}
use Rattle.type_rules.specs.Judging.{Suits, AllSuit, Answers, AreValues, IsRight}
use Rattle.type_rules.proofs.Values.{GivesValue, are_values, operation_value}
use Rattle.type_rules.proofs.Answering.{answers}
use Rattle.type_rules.specs.declared.ty.Ty.{Ty}
use Rattle.type_rules.specs.declared.ty.Elem.{Elem}
use Rattle.type_rules.specs.declared.ty.Elem.TheVariants as elem
use Rattle.type_rules.specs.declared.ty.Len.TheVariants as len
use Rattle.type_rules.specs.declared.ty.Dim.{Dim}
use Rattle.type_rules.specs.declared.constant.Op.{Op}
use Rattle.type_rules.specs.declared.signature.Judgement.{Judgement}
use Rattle.type_rules.specs.declared.signature.Judgement.TheVariants.{Element, NoType, Misused}
use Rattle.type_rules.specs.declared.signature.Ranks.{Ranks}
use Rattle.type_rules.specs.declared.signature.Ranks.TheVariants.{Elementwise, Scalars, OneArray}

-- What a type that there is says of its parts.
pub record Typed (j : Judgement) (broken : Bool) (d : Result (List Dim) Rule) (ty : Ty) : Type 0 where
  pub element : Elem
  pub dims : List Dim
  pub judgement : j ≡ Element element
  pub ranks : broken ≡ false
  pub shape : d ≡ Ok dims
  pub is : ty ≡ record { elem = element; dims = dims }

pub typed_parts : (j : Judgement) (broken : Bool) (d : Result (List Dim) Rule) (ty : Ty) → least_rule j broken d ≡ Ok ty → Typed j broken d ty
typed_parts NoType broken d ty e = cc
typed_parts (Misused rule) broken d ty e = cc
typed_parts (Element x) true d ty e = cc
typed_parts (Element x) false (Ok dims) ty e = record { element = x; dims = dims; judgement = refl; ranks = refl; shape = refl; is = cc }
typed_parts (Element x) false (Err rule) ty e = cc

-- A scalar of a type.
pub record ScalarOf (ty : Ty) (s : Scalar) : Type 0 where
  pub scalar : is_scalar ty.dims ≡ true
  pub suits : Suits ty.elem s
  pub constant : is_constant (constant_of s) ≡ true

integer_of : (e : Elem) (k : ℕ) (z : ℤ) → (is_element e (elem.Integer k) && is_in_kind k z) ≡ true → Suits e (Integer k z) × ((is_kind k && is_in_kind k z) ≡ true)
integer_of (elem.Integer j) k z e =
    let p = and_parts ((j == k) && is_kind k) (is_in_kind k z) e in
    let q = and_parts (j == k) (is_kind k) p.0 in
    let f = q.0 in
    (grind (arith, nat_tests), and_from (is_kind k) (is_in_kind k z) q.1 p.1)
integer_of elem.Logical k z e = cc
integer_of (elem.Character n) k z e = cc
integer_of (elem.Derived s) k z e = cc

logical_of : (e : Elem) (p : Bool) → is_element e elem.Logical ≡ true → Suits e (Logical p)
logical_of (elem.Integer j) p e = cc
logical_of elem.Logical p e = tt
logical_of (elem.Character n) p e = cc
logical_of (elem.Derived s) p e = cc

text_of : (e : Elem) (bytes : List ℕ) → is_element e (elem.Character (len.Fixed (length bytes))) ≡ true → Suits e (Characters bytes) × (nat_le (length bytes) 65535 ≡ true)
text_of (elem.Integer j) bytes e = cc
text_of elem.Logical bytes e = cc
text_of (elem.Character (len.Fixed n)) bytes e =
    let p = and_parts (length bytes == n) (nat_le (length bytes) 65535) e in
    let f = p.0 in
    (grind (arith, nat_tests), p.1)
text_of (elem.Character len.Assumed) bytes e = (tt, e)
text_of (elem.Derived s) bytes e = cc

one_or_none : (p : Bool) → ((if p then 1 else 0) == 0) || ((if p then 1 else 0) == 1) ≡ true
one_or_none true = refl
one_or_none false = refl

pub scalar_of_type : (ds : Definitions) (ty : Ty) (s : Scalar) → is_of ds ty (shape_of_scalar s) ≡ true → ScalarOf ty s
scalar_of_type ds ty (Integer k z) e =
    let p = and_parts (is_scalar ty.dims) (is_element ty.elem (elem.Integer k) && is_in_kind k z) e in
    let q = integer_of ty.elem k z p.1 in
    record { scalar = p.0; suits = q.0; constant = q.1 }
scalar_of_type ds ty (Logical p) e =
    let q = and_parts (is_scalar ty.dims) (is_element ty.elem elem.Logical) e in
    record { scalar = q.0; suits = logical_of ty.elem p q.1; constant = one_or_none p }
scalar_of_type ds ty (Characters bytes) e =
    let p = and_parts (is_scalar ty.dims) (is_element ty.elem (elem.Character (len.Fixed (length bytes)))) e in
    let q = text_of ty.elem bytes p.1 in
    record { scalar = p.0; suits = q.0; constant = q.1 }

same_number : (n : ℕ) → (n == n) ≡ true
same_number n = grind (arith, nat_tests)

pub type_of_scalar : (ds : Definitions) (e : Elem) (s : Scalar) → Suits e s → is_constant (constant_of s) ≡ true → is_of ds (scalar_type e) (shape_of_scalar s) ≡ true
type_of_scalar ds (elem.Integer j) (Integer k z) p c =
    let q = and_parts (is_kind k) (is_in_kind k z) c in
    and_from ((j == k) && is_kind k) (is_in_kind k z) (and_from (j == k) (is_kind k) (grind (arith, nat_tests)) q.0) q.1
type_of_scalar ds elem.Logical (Logical t) p c = refl
type_of_scalar ds (elem.Character (len.Fixed n)) (Characters bytes) p c = and_from (length bytes == n) (nat_le (length bytes) 65535) (grind (arith, nat_tests)) c
type_of_scalar ds (elem.Character len.Assumed) (Characters bytes) p c = c
type_of_scalar ds (elem.Integer j) (Logical t) p c = absurd p
type_of_scalar ds (elem.Integer j) (Characters bytes) p c = absurd p
type_of_scalar ds elem.Logical (Integer k z) p c = absurd p
type_of_scalar ds elem.Logical (Characters bytes) p c = absurd p
type_of_scalar ds (elem.Character n) (Integer k z) p c = absurd p
type_of_scalar ds (elem.Character n) (Logical t) p c = absurd p
type_of_scalar ds (elem.Derived s) v p c = absurd p

-- Scalars of types.
pub record ScalarsOf (ts : List Ty) (ss : List Scalar) : Type 0 where
  pub suit : AllSuit (elements_of ts) ss
  pub constants : are_values ss ≡ true
  pub scalars : some_array (map length (dims_of ts)) ≡ false
  pub dims : (ds : List Dim) → ds ≡ [] → joined_with ds (dims_of ts) ≡ []

pub no_dims : (ds : List Dim) → is_scalar ds ≡ true → ds ≡ []
no_dims [] e = refl
no_dims (d ∷ ds) e = cc

more_scalars : (t : Ty) (ts : List Ty) (s : Scalar) (ss : List Scalar) → ScalarOf t s → ScalarsOf ts ss → ScalarsOf (t ∷ ts) (s ∷ ss)
more_scalars t ts s ss a h = record {
  suit = (a.suits, h.suit);
  constants = and_from (is_constant (constant_of s)) (are_values ss) a.constant h.constants;
  scalars = ap (λ (ds : List Dim). not (length ds == 0) || some_array (map length (dims_of ts))) (no_dims t.dims a.scalar) ∙ h.scalars;
  dims = λ ds e. ap (λ (x : List Dim). joined_with (joined ds x) (dims_of ts)) (no_dims t.dims a.scalar) ∙ h.dims (joined ds []) (ap (λ (x : List Dim). joined x []) e);
}

pub all_scalars : (ds : Definitions) (ts : List Ty) (vs : List Value) (ss : List Scalar) → AreValues ds ts vs → scalars_of vs ≡ Some ss → ScalarsOf ts ss
all_scalars ds [] [] ss h e = let same : [] ≡ ss = cc in subst (λ (x : List Scalar). ScalarsOf [] x) same (record { suit = tt; constants = refl; scalars = refl; dims = λ ds e. e })
all_scalars ds [] (v ∷ vs) ss h e = absurd h
all_scalars ds (t ∷ ts) [] ss h e = absurd h
all_scalars ds (t ∷ ts) (Single s ∷ vs) ss h e = by (scalars_of vs) refl e (λ rest f. all_scalars ds ts vs rest h.1 f)
  where
    by : (o : Option (List Scalar)) → scalars_of vs ≡ o → option_map (λ rest. s ∷ rest) o ≡ Some ss → ((rest : List Scalar) → scalars_of vs ≡ Some rest → ScalarsOf ts rest) → ScalarsOf (t ∷ ts) ss
    by None f g later = cc
    by (Some rest) f g later = let same : s ∷ rest ≡ ss = cc in subst (λ (x : List Scalar). ScalarsOf (t ∷ ts) x) same (more_scalars t ts s rest (scalar_of_type ds t s h.0.holds) (later rest f))
all_scalars ds (t ∷ ts) (Array element xs elements ∷ vs) ss h e = cc
all_scalars ds (t ∷ ts) (Record cs ∷ vs) ss h e = cc

right_scalar : (ds : Definitions) (e : Elem) (o : Evaluation Scalar) → Answers (Element e) o → GivesValue o → IsRight ds (scalar_type e) (single o)
right_scalar ds e (Gives s) a g = record { holds = type_of_scalar ds e s a g }
right_scalar ds e (Traps trap) a g = tt
right_scalar ds e NoRule a g = absurd a

-- The dimensions of an operation on scalars.
scalar_dims : (r : Ranks) (all : List (List Dim)) (dims : List Dim) → some_array (map length all) ≡ false → joined_with [] all ≡ [] → dims_of_result r all ≡ Ok dims → (dims ≡ []) × (r ≡ OneArray → ⊥)
scalar_dims Elementwise all dims e f g = (by (some_apart all) g, λ h. cc)
  where
    by : (t : Bool) → (if t then Err E412 else Ok (joined_with [] all)) ≡ Ok dims → dims ≡ []
    by true h = cc
    by false h = let same : joined_with [] all ≡ dims = cc in sym same ∙ f
scalar_dims Scalars all dims e f g = (cc, λ h. cc)
scalar_dims OneArray all dims e f g =
    let h : (if false then Ok [] else Err E406) ≡ Ok dims = ap (λ (t : Bool). if t then Ok [] else Err E406) (sym e) ∙ g in
    absurd (cc)

pub right_scalars : (ds : Definitions) (op : Op) (ts : List Ty) (ss : List Scalar) (ty : Ty) → ScalarsOf ts ss → type_of op ts ≡ Ok ty → IsRight ds ty (single (operation op ss))
right_scalars ds op ts ss ty h e =
    let p = typed_parts (judged op (elements_of ts)) (breaks_ranks (ranks_of op) (map length (dims_of ts))) (dims_of_result (ranks_of op) (dims_of ts)) ty e in
    let q = scalar_dims (ranks_of op) (dims_of ts) p.dims h.scalars (h.dims [] refl) p.shape in
    let same : ty ≡ scalar_type p.element = p.is ∙ ap (λ (x : List Dim). record { elem = p.element; dims = x }) q.0 in
    let a = subst (λ (j : Judgement). Answers j (operation op ss)) p.judgement (answers op (elements_of ts) ss h.suit q.1) in
    subst (λ (t : Ty). IsRight ds t (single (operation op ss))) (sym same) (right_scalar ds p.element (operation op ss) a (operation_value op ss h.constants))
