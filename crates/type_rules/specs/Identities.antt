-- The tests of equality decide it, and a constant is a value of its type.
use Rattle.std.proofs.Common.{◌≡◌, ℕ, Bool, true, false, ◌&&◌, refl, sym, ◌∙◌, ap, subst, arith, ◌==◌, nat_le, List, [], ◌∷◌, length, min}
use Rattle.std.specs.Bool.{Decides}
use Rattle.std.specs.Ordering.{int_eq}
use Rattle.std.specs.Cmp.{IsPartialEquivalence, IsEquivalence, equiv}
use Rattle.std.proofs.lemmas.Bool.{and_parts, and_from}
use Rattle.std.proofs.lemmas.Bool.Decides.{nat_tests, Decides-eqb, Decides-int_eq}
use Rattle.std.proofs.lemmas.Slice.Eq.{bytes_eq-Decides}
use Rattle.type_rules.specs.Equality.{identical_length, identical_element, identical_dim, identical_dims, identical_type, identical_constant, type_of_constant}
use Rattle.type_rules.specs.Values.{scalar_of, is_constant, is_kind, is_in_kind}
use Rattle.type_rules.specs.Store.{Single}
use Rattle.type_rules.specs.Shapes.{Definitions, IsValue}
use Rattle.type_rules.specs.declared.ty.Ty.{Ty}
use Rattle.type_rules.specs.declared.ty.Elem.{Elem}
use Rattle.type_rules.specs.declared.ty.Elem.TheVariants.{Integer, Logical, Character, Derived}
use Rattle.type_rules.specs.declared.ty.Len.{Len}
use Rattle.type_rules.specs.declared.ty.Len.TheVariants as len
use Rattle.type_rules.specs.declared.ty.Dim.{Dim}
use Rattle.type_rules.specs.declared.ty.Dim.TheVariants as dim
use Rattle.type_rules.specs.declared.constant.Const.{Const}
use Rattle.type_rules.specs.declared.constant.Const.TheVariants.{IntConst, LogConst, CharConst}

lengths : (a b : Len) → identical_length a b ≡ true → a ≡ b
lengths (len.Fixed m) (len.Fixed n) e = ap len.Fixed ((Decides-eqb m n).0 e)
lengths len.Assumed len.Assumed e = refl
lengths (len.Fixed m) len.Assumed e = cc
lengths len.Assumed (len.Fixed n) e = cc

elements : (a b : Elem) → identical_element a b ≡ true → a ≡ b
elements (Integer j) (Integer k) e = ap Integer ((Decides-eqb j k).0 e)
elements Logical Logical e = refl
elements (Character m) (Character n) e = ap Character (lengths m n e)
elements (Derived s) (Derived t) e = ap (λ (n : ℕ). Derived (record { 0 = n })) ((Decides-eqb s.0 t.0).0 e)
elements a b e = cc

dims_same : (a b : Dim) → identical_dim a b ≡ true → a ≡ b
dims_same (dim.Fixed l m) (dim.Fixed k n) e =
    let p = and_parts (int_eq l k) (m == n) e in
    ap (λ z. dim.Fixed z m) ((Decides-int_eq l k).0 p.0) ∙ ap (dim.Fixed k) ((Decides-eqb m n).0 p.1)
dims_same dim.Assumed dim.Assumed e = refl
dims_same (dim.Fixed l m) dim.Assumed e = cc
dims_same dim.Assumed (dim.Fixed k n) e = cc

all_dims : (xs ys : List Dim) → identical_dims xs ys ≡ true → xs ≡ ys
all_dims [] [] e = refl
all_dims [] (y ∷ ys) e = cc
all_dims (x ∷ xs) [] e = cc
all_dims (x ∷ xs) (y ∷ ys) e =
    let p = and_parts (identical_dim x y) (identical_dims xs ys) e in
    ap (λ (d : Dim). d ∷ xs) (dims_same x y p.0) ∙ ap (λ (ds : List Dim). y ∷ ds) (all_dims xs ys p.1)

types : (a b : Ty) → identical_type a b ≡ true → a ≡ b
types a b e =
    let p = and_parts (identical_element a.elem b.elem) (identical_dims a.dims b.dims) e in
    ap (λ (x : Elem). record { elem = x; dims = a.dims }) (elements a.elem b.elem p.0) ∙ ap (λ (x : List Dim). record { elem = b.elem; dims = x }) (all_dims a.dims b.dims p.1)

constants : (a b : Const) → identical_constant a b ≡ true → a ≡ b
constants (IntConst j a) (IntConst k b) e =
    let p = and_parts (j == k) (int_eq a b) e in
    ap (λ n. IntConst n a) ((Decides-eqb j k).0 p.0) ∙ ap (IntConst k) ((Decides-int_eq a b).0 p.1)
constants (LogConst p) (LogConst q) e = ap LogConst ((Decides-eqb p q).0 e)
constants (CharConst a) (CharConst b) e = ap CharConst ((bytes_eq-Decides a b).0 e)
constants a b e = cc

-- Each is itself.
length_itself : (a : Len) → identical_length a a ≡ true
length_itself (len.Fixed n) = (Decides-eqb n n).1 refl
length_itself len.Assumed = refl

element_itself : (a : Elem) → identical_element a a ≡ true
element_itself (Integer k) = (Decides-eqb k k).1 refl
element_itself Logical = refl
element_itself (Character n) = length_itself n
element_itself (Derived s) = (Decides-eqb s.0 s.0).1 refl

dim_itself : (a : Dim) → identical_dim a a ≡ true
dim_itself (dim.Fixed l n) = and_from (int_eq l l) (n == n) ((Decides-int_eq l l).1 refl) ((Decides-eqb n n).1 refl)
dim_itself dim.Assumed = refl

dims_itself : (xs : List Dim) → identical_dims xs xs ≡ true
dims_itself [] = refl
dims_itself (x ∷ xs) = and_from (identical_dim x x) (identical_dims xs xs) (dim_itself x) (dims_itself xs)

type_itself : (a : Ty) → identical_type a a ≡ true
type_itself a = and_from (identical_element a.elem a.elem) (identical_dims a.dims a.dims) (element_itself a.elem) (dims_itself a.dims)

constant_itself : (a : Const) → identical_constant a a ≡ true
constant_itself (IntConst k a) = and_from (k == k) (int_eq a a) ((Decides-eqb k k).1 refl) ((Decides-int_eq a a).1 refl)
constant_itself (LogConst p) = (Decides-eqb p p).1 refl
constant_itself (CharConst a) = (bytes_eq-Decides a a).1 refl

-- A test that decides equality is an equivalence.
decided : {K : Type 0} (E : K → K → Bool) → ((a b : K) → E a b ≡ true → a ≡ b) → ((a : K) → E a a ≡ true) → IsPartialEquivalence E
decided E same itself = record {
  symm = λ a b. by a b (E a b) (E b a) refl refl;
  trans = λ a b c e f. subst (λ x. E a x ≡ true) (same b c f) e;
}
  where
    by : (a b : _) (t u : Bool) → E a b ≡ t → E b a ≡ u → E a b ≡ E b a
    by a b true true p q = p ∙ sym q
    by a b false false p q = p ∙ sym q
    by a b true false p q = p ∙ sym (subst (λ x. E x a ≡ true) (same a b p) (itself a))
    by a b false true p q = subst (λ x. E x b ≡ true) (same b a q) (itself b) ∙ sym q

pub type_laws : IsPartialEquivalence identical_type
type_laws = decided identical_type types type_itself

pub type_equivalence : IsEquivalence identical_type
type_equivalence = equiv type_laws type_itself

pub constant_laws : IsPartialEquivalence identical_constant
constant_laws = decided identical_constant constants constant_itself

pub constant_equivalence : IsEquivalence identical_constant
constant_equivalence = equiv constant_laws constant_itself

pub type_decided : (a b : Ty) → Decides (identical_type a b) (a ≡ b)
type_decided a b = (types a b, λ e. subst (λ (x : Ty). identical_type a x ≡ true) e (type_itself a))

pub constant_decided : (a b : Const) → Decides (identical_constant a b) (a ≡ b)
constant_decided a b = (constants a b, λ e. subst (λ (x : Const). identical_constant a x ≡ true) e (constant_itself a))

pub constant_is_value : (definitions : Definitions) (c : Const) → is_constant c ≡ true → IsValue definitions (type_of_constant c) (Single (scalar_of c))
constant_is_value ds (IntConst kind value) h = record { holds = by (and_parts (is_kind kind) (is_in_kind kind value) h) }
  where
    by : (is_kind kind ≡ true) × (is_in_kind kind value ≡ true) → (((kind == kind) && is_kind kind) && is_in_kind kind value) ≡ true
    by p = and_from ((kind == kind) && is_kind kind) (is_in_kind kind value) (and_from (kind == kind) (is_kind kind) ((Decides-eqb kind kind).1 refl) p.0) p.1
constant_is_value ds (LogConst value) h = record { holds = refl }
constant_is_value ds (CharConst bytes) h = record { holds = and_from (length bytes == min (length bytes) 4294967295) (nat_le (length bytes) 65535) (grind (arith, nat_tests)) h }
