-- The elements and the extents of what an operation gives that is taken element by element.
use Rattle.std.proofs.Common.{◌≡◌, ℕ, zero, suc, ◌+◌, ◌≤◌, ◌<◌, Bool, true, ◌&&◌, refl, sym, ◌∙◌, ap, subst, arith, ◌==◌, nat_le, List, [], ◌∷◌, length, map, Option, Some, Ok}
use Rattle.std.specs.Option.{option_map, option_and_then}
use Rattle.std.proofs.lemmas.Bool.{and_parts, and_from}
use Rattle.std.proofs.lemmas.Bool.Decides.{nat_tests}
use Rattle.type_rules.specs.Values.{Scalar, Integer, Logical, Characters, is_kind, is_constant, constant_of}
use Rattle.type_rules.specs.Store.{Value, Single, Array, Record, Values, none, more, nth, size_of, same_numbers}
use Rattle.type_rules.specs.Shapes.{shape_of, shapes_of, Definitions, IsValue, is_of, are_of, is_array, is_element, are_extents, is_extent, count_shapes, scalar_type}
use Rattle.type_rules.specs.Types.{from_one, joined_dims, TakesMemory}
use Rattle.type_rules.specs.Typing.{judged, ranks_of, some_array, joined, joined_with, elements_of, dims_of}
use Rattle.type_rules.specs.Arrays.{all_have, scalar_in, operand_at, operands_at}
use Rattle.type_rules.specs.Judging.{Suits, AllSuit, AreValues}
use Rattle.type_rules.proofs.Disjoint.{numbers_equal}
use Rattle.type_rules.specs.declared.ty.Ty.{Ty}
use Rattle.type_rules.specs.declared.ty.Elem.{Elem}
use Rattle.type_rules.specs.declared.ty.Elem.TheVariants as elem
use Rattle.type_rules.specs.declared.ty.Len.TheVariants as len
use Rattle.type_rules.specs.declared.ty.Dim.{Dim}
use Rattle.type_rules.specs.declared.ty.Dim.TheVariants as dim
use Rattle.type_rules.specs.declared.constant.Op.{Op}
use Rattle.type_rules.specs.declared.signature.Judgement.{Judgement}
use Rattle.type_rules.specs.declared.signature.Judgement.TheVariants.{Element}
use Rattle.type_rules.specs.declared.signature.Ranks.TheVariants.{OneArray}
use Rattle.type_rules.specs.Values.{Evaluation, Gives, Traps, NoRule, and_then}
use Rattle.type_rules.specs.Operations.{operation}
use Rattle.type_rules.specs.Arrays.{on_operands, elements_from}
use Rattle.type_rules.specs.Judging.{Answers}
use Rattle.type_rules.proofs.Values.{are_values, GivesValue, operation_value}
use Rattle.type_rules.proofs.Dims.{joined_with_takes}
use Rattle.type_rules.proofs.Answering.{answers}
use Rattle.type_rules.proofs.Judging.{scalar_of_type, type_of_scalar, no_dims}
use Rattle.type_rules.proofs.Arrayed.{Plain, AllPlain, array_extents, array_of, not_a_record}

-- The operands of one element of the result.
suits_declared : (e f : Elem) (s : Scalar) → is_element e f ≡ true → Suits f s → Suits e s
suits_declared (elem.Integer j) (elem.Integer k) (Integer l z) h g = let q = (and_parts (j == k) (is_kind k) h).0 in by q g
  where
    by : (j == k) ≡ true → k ≡ l → j ≡ l
    by q g = grind (arith, nat_tests)
suits_declared elem.Logical elem.Logical s h g = g
suits_declared (elem.Character (len.Fixed n)) (elem.Character (len.Fixed m)) (Characters b) h g = let q = (and_parts (m == n) (nat_le m 65535) h).0 in by q g
  where
    by : (m == n) ≡ true → length b ≡ m → length b ≡ n
    by q g = grind (arith, nat_tests)
suits_declared (elem.Character len.Assumed) (elem.Character (len.Fixed m)) (Characters b) h g = tt
suits_declared (elem.Character n) (elem.Character len.Assumed) s h g = cc
suits_declared (elem.Character n) (elem.Character (len.Fixed m)) (Integer k z) h g = absurd g
suits_declared (elem.Character n) (elem.Character (len.Fixed m)) (Logical p) h g = absurd g
suits_declared (elem.Integer j) (elem.Integer k) (Logical p) h g = absurd g
suits_declared (elem.Integer j) (elem.Integer k) (Characters b) h g = absurd g
suits_declared (elem.Derived s) (elem.Derived t) v h g = absurd g
suits_declared e f s h g = cc

plain_element : (e f : Elem) → Plain e → is_element e f ≡ true → Plain f
plain_element (elem.Derived s) f p h = absurd p
plain_element (elem.Integer j) (elem.Derived s) p h = cc
plain_element elem.Logical (elem.Derived s) p h = cc
plain_element (elem.Character n) (elem.Derived s) p h = cc
plain_element e f p h = tt

pub record OperandOf (ty : Ty) (o : Option Scalar) : Type 0 where
  pub scalar : Scalar
  pub is : o ≡ Some scalar
  pub suits : Suits ty.elem scalar
  pub constant : is_constant (constant_of scalar) ≡ true

-- An element of an array of scalars.
pub record ElementOf (e : Elem) (o : Option Value) : Type 0 where
  pub scalar : Scalar
  pub is : o ≡ Some (Single scalar)
  pub suits : Suits e scalar
  pub constant : is_constant (constant_of scalar) ≡ true

one_element : (ds : Definitions) (e : Elem) (v : Value) → Plain e → is_of ds (scalar_type e) (shape_of v) ≡ true → ElementOf e (Some v)
one_element ds e (Single s) p h = let q = scalar_of_type ds (scalar_type e) s h in record { scalar = s; is = refl; suits = q.suits; constant = q.constant }
one_element ds e (Array f xs vs) p h = cc
one_element ds e (Record cs) p h = absurd (not_a_record ds (scalar_type e) cs (record { holds = h }) p)

pub nth_element : (ds : Definitions) (e : Elem) (vs : Values) (k : ℕ) → Plain e → k < count_shapes (shapes_of vs) → are_of ds e (shapes_of vs) ≡ true → ElementOf e (nth vs k)
nth_element ds e none k p below h = absurd (omega arith)
nth_element ds e (more v vs) zero p below h = one_element ds e v p (and_parts (is_of ds (scalar_type e) (shape_of v)) (are_of ds e (shapes_of vs)) h).0
nth_element ds e (more v vs) (suc k) p below h = nth_element ds e vs k p (omega arith) (and_parts (is_of ds (scalar_type e) (shape_of v)) (are_of ds e (shapes_of vs)) h).1

pub operand_of : (ds : Definitions) (t : Ty) (v : Value) (vs : List Value) (xs : List ℕ) (k : ℕ) → Plain t.elem → IsValue ds t v → all_have xs (v ∷ vs) ≡ true → k < size_of xs → OperandOf t (operand_at k v)
operand_of ds t (Single s) vs xs k p h same below = let q = scalar_of_type ds t s h.holds in record { scalar = s; is = refl; suits = q.suits; constant = q.constant }
operand_of ds t (Record cs) vs xs k p h same below = absurd (not_a_record ds t cs h p)
operand_of ds t (Array element extents elements) vs xs k p h same below =
    let a = array_of ds t element extents elements h in
    let own = numbers_equal xs extents (and_parts (same_numbers xs extents) (all_have xs vs) same).0 in
    let size : size_of xs ≡ size_of extents = ap size_of own in
    let count = a.count in
    let e = nth_element ds element elements k (plain_element t.elem element p a.element_is) (omega arith) a.are in
    record { scalar = e.scalar; is = ap scalar_in e.is; suits = suits_declared t.elem element e.scalar a.element_is e.suits; constant = e.constant }

rest_have : (xs : List ℕ) (v : Value) (vs : List Value) → all_have xs (v ∷ vs) ≡ true → all_have xs vs ≡ true
rest_have xs (Single s) vs h = h
rest_have xs (Array element extents elements) vs h = (and_parts (same_numbers xs extents) (all_have xs vs) h).1
rest_have xs (Record cs) vs h = h

pub record OperandsOf (es : List Elem) (o : Option (List Scalar)) : Type 0 where
  pub all : List Scalar
  pub is : o ≡ Some all
  pub suit : AllSuit es all
  pub constants : are_values all ≡ true

pub operands_of : (ds : Definitions) (ts : List Ty) (vs : List Value) (xs : List ℕ) (k : ℕ) → AllPlain (elements_of ts) → AreValues ds ts vs → all_have xs vs ≡ true → k < size_of xs → OperandsOf (elements_of ts) (operands_at k vs)
operands_of ds [] [] xs k p h same below = record { all = []; is = refl; suit = tt; constants = refl }
operands_of ds [] (v ∷ vs) xs k p h same below = absurd h
operands_of ds (t ∷ ts) [] xs k p h same below = absurd h
operands_of ds (t ∷ ts) (v ∷ vs) xs k p h same below =
    let a = operand_of ds t v vs xs k p.0 h.0 same below in
    let b = operands_of ds ts vs xs k p.1 h.1 (rest_have xs v vs same) below in
    record {
      all = a.scalar ∷ b.all;
      is = ap (λ (o : Option Scalar). option_and_then (λ s. option_map (λ ss. s ∷ ss) (operands_at k vs)) o) a.is ∙ ap (λ (o : Option (List Scalar)). option_map (λ ss. a.scalar ∷ ss) o) b.is;
      suit = (a.suits, b.suit);
      constants = and_from (is_constant (constant_of a.scalar)) (are_values b.all) a.constant b.constants;
    }

-- So many elements of the result's type, or a trap.
abbrev pub AreElements : Definitions → Elem → ℕ → Evaluation Values → Type 0
AreElements ds e count (Gives vs) = (count_shapes (shapes_of vs) ≡ count) × (are_of ds e (shapes_of vs) ≡ true)
AreElements ds e count (Traps trap) = Unit {0}
AreElements ds e count NoRule = ⊥

one_more : (ds : Definitions) (e : Elem) (count : ℕ) (o : Evaluation Scalar) (rest : Evaluation Values) → Answers (Element e) o → GivesValue o → AreElements ds e count rest → AreElements ds e (suc count) (and_then o (λ s. and_then rest (λ vs. Gives (more (Single s) vs))))
one_more ds e count (Gives s) (Gives vs) a g h = (ap suc h.0, and_from (is_of ds (scalar_type e) (shape_of (Single s))) (are_of ds e (shapes_of vs)) (type_of_scalar ds e s a g) h.1)
one_more ds e count (Gives s) (Traps trap) a g h = tt
one_more ds e count (Gives s) NoRule a g h = absurd h
one_more ds e count (Traps trap) rest a g h = tt
one_more ds e count NoRule rest a g h = absurd a

pub are_elements : (ds : Definitions) (op : Op) (ts : List Ty) (vs : List Value) (xs : List ℕ) (e : Elem) (k count : ℕ) → judged op (elements_of ts) ≡ Element e → (ranks_of op ≡ OneArray → ⊥) → AllPlain (elements_of ts) → AreValues ds ts vs → all_have xs vs ≡ true → k + count ≤ size_of xs → AreElements ds e count (elements_from op vs k count)
are_elements ds op ts vs xs e k zero j r p h same room = (refl, refl)
are_elements ds op ts vs xs e k (suc count) j r p h same room =
    let a = operands_of ds ts vs xs k p h same (omega arith) in
    let later = are_elements ds op ts vs xs e (k + 1) count j r p h same (omega arith) in
    let o = subst (λ (x : Judgement). Answers x (operation op a.all)) j (answers op (elements_of ts) a.all a.suit r) in
    subst (λ (x : Option (List Scalar)). AreElements ds e (suc count) (and_then (on_operands op x) (λ s. and_then (elements_from op vs (k + 1) count) (λ rest. Gives (more (Single s) rest))))) (sym a.is)
    (one_more ds e count (operation op a.all) (elements_from op vs (k + 1) count) o (operation_value op a.all a.constants) later)

-- The extents of the result are those of the arrays.
abbrev pub Fit : List Dim → List ℕ → Type 0
Fit [] xs = Unit {0}
Fit (d ∷ ds) xs = are_extents (d ∷ ds) xs ≡ true

from_one_extents : (ds : List Dim) (ns : List ℕ) → are_extents (map from_one ds) ns ≡ are_extents ds ns
from_one_extents [] [] = refl
from_one_extents [] (n ∷ ns) = refl
from_one_extents (dim.Fixed l m ∷ ds) [] = refl
from_one_extents (dim.Assumed ∷ ds) [] = refl
from_one_extents (dim.Fixed l m ∷ ds) (n ∷ ns) = ap (λ (t : Bool). is_extent (dim.Fixed l m) n && t) (from_one_extents ds ns)
from_one_extents (dim.Assumed ∷ ds) (n ∷ ns) = from_one_extents ds ns

joined_extents : (xs ys : List Dim) (ns : List ℕ) → are_extents xs ns ≡ true → are_extents ys ns ≡ true → are_extents (joined_dims xs ys) ns ≡ true
joined_extents [] [] ns f g = f
joined_extents [] (y ∷ ys) [] f g = cc
joined_extents [] (y ∷ ys) (n ∷ ns) f g = cc
joined_extents (x ∷ xs) ys [] f g = cc
joined_extents (x ∷ xs) [] (n ∷ ns) f g = cc
joined_extents (dim.Fixed l m ∷ xs) (y ∷ ys) (n ∷ ns) f g =
    let p = and_parts (is_extent (dim.Fixed l m) n) (are_extents xs ns) f in
    and_from (is_extent (dim.Fixed l m) n) (are_extents (joined_dims xs ys) ns) p.0 (joined_extents xs ys ns p.1 (and_parts (is_extent y n) (are_extents ys ns) g).1)
joined_extents (dim.Assumed ∷ xs) (dim.Fixed l m ∷ ys) (n ∷ ns) f g =
    let p = and_parts (is_extent (dim.Fixed l m) n) (are_extents ys ns) g in
    and_from (is_extent (dim.Fixed l m) n) (are_extents (joined_dims xs ys) ns) p.0 (joined_extents xs ys ns f p.1)
joined_extents (dim.Assumed ∷ xs) (dim.Assumed ∷ ys) (n ∷ ns) f g = joined_extents xs ys ns f g

from_one_fits : (ds : List Dim) (ns : List ℕ) → Fit ds ns → Fit (map from_one ds) ns
from_one_fits [] ns f = tt
from_one_fits (d ∷ ds) ns f = from_one_extents (d ∷ ds) ns ∙ f

joined_fits : (a b : List Dim) (ns : List ℕ) → Fit a ns → Fit b ns → Fit (joined a b) ns
joined_fits [] b ns f g = from_one_fits b ns g
joined_fits (a ∷ others) [] ns f g = from_one_fits (a ∷ others) ns f
joined_fits (a ∷ others) (b ∷ bs) ns f g = joined_extents (a ∷ others) (b ∷ bs) ns f g

one_fits : (ds : Definitions) (t : Ty) (v : Value) (vs : List Value) (xs : List ℕ) → Plain t.elem → IsValue ds t v → all_have xs (v ∷ vs) ≡ true → Fit t.dims xs
one_fits ds t (Single s) vs xs p h same = subst (λ (x : List Dim). Fit x xs) (sym (no_dims t.dims (scalar_of_type ds t s h.holds).scalar)) tt
one_fits ds t (Array element extents elements) vs xs p h same =
    let own = numbers_equal xs extents (and_parts (same_numbers xs extents) (all_have xs vs) same).0 in
    by t.dims (subst (λ (n : List ℕ). are_extents t.dims n ≡ true) (sym own) (array_extents t.dims extents (array_of ds t element extents elements h).array))
  where
    by : (x : List Dim) → are_extents x xs ≡ true → Fit x xs
    by [] f = tt
    by (d ∷ x) f = f
one_fits ds t (Record cs) vs xs p h same = absurd (not_a_record ds t cs h p)

pub all_fit : (ds : Definitions) (ts : List Ty) (vs : List Value) (xs : List ℕ) (a : List Dim) → AllPlain (elements_of ts) → AreValues ds ts vs → all_have xs vs ≡ true → Fit a xs → Fit (joined_with a (dims_of ts)) xs
all_fit ds [] [] xs a p h same f = f
all_fit ds [] (v ∷ vs) xs a p h same f = absurd h
all_fit ds (t ∷ ts) [] xs a p h same f = absurd h
all_fit ds (t ∷ ts) (v ∷ vs) xs a p h same f = all_fit ds ts vs xs (joined a t.dims) p.1 h.1 (rest_have xs v vs same) (joined_fits a t.dims xs f (one_fits ds t v vs xs p.0 h.0 same))

pub some_dims : (a : List Dim) (all : List (List Dim)) → some_array (map length all) ≡ true → TakesMemory (Ok (joined_with a all))
some_dims a [] h = cc
some_dims [] ([] ∷ all) h = some_dims [] all h
some_dims [] ((b ∷ bs) ∷ all) h = joined_with_takes (from_one b ∷ map from_one bs) all tt
some_dims (a ∷ xs) ([] ∷ all) h = joined_with_takes (from_one a ∷ map from_one xs) all tt
some_dims (a ∷ xs) ((b ∷ bs) ∷ all) h = joined_with_takes (joined_dims (a ∷ xs) (b ∷ bs)) all tt

pub is_array_of : (a : List Dim) (xs : List ℕ) → TakesMemory (Ok a) → Fit a xs → is_array a xs ≡ true
is_array_of [] xs h f = absurd h
is_array_of (d ∷ a) xs h f = f
