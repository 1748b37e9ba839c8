-- What the types of arrays and scalars say of their elements and of their shapes.
use Rattle.std.proofs.Common.{◌≡◌, ℕ, suc, max, Bool, true, false, not, ◌&&◌, ◌||◌, refl, sym, ◌∙◌, ap, arith, ◌==◌, if◌then◌else◌, List, [], ◌∷◌, length, map, Option, Some, None}
use Rattle.std.specs.Option.{option_map}
use Rattle.std.proofs.lemmas.Bool.{and_parts, and_from}
use Rattle.std.proofs.lemmas.Bool.Decides.{nat_tests}
use Rattle.lf_base.specs.declared.operator.Operator.{Operator}
use Rattle.lf_base.specs.declared.operator.Operator.TheVariants.{Add, Subtract, Not, Concatenate}
use Rattle.lf_base.specs.Operators.{operator_of}
use Rattle.lf_base.specs.declared.rule.Rule.TheVariants.{E405, E406}
use Rattle.type_rules.specs.Codes.{intrinsic_of}
use Rattle.type_rules.specs.Values.{Scalar, Integer, Logical, Characters, is_kind}
use Rattle.type_rules.specs.Store.{Value, Single, Array, Record, Values, Components, no_component, component, size_of}
use Rattle.type_rules.specs.Shapes.{shapes_of, Definitions, IsValue, are_of, is_scalar, is_array, is_element, are_extents, is_extent, count_shapes, components_of, have_types, component_shapes}
use Rattle.type_rules.specs.Types.{element_of, is_concatenation}
use Rattle.type_rules.specs.Typing.{takes, class_of, is_in_class, are_in_class, kind_of, greatest_kind, result_element, unary_element, element_or_none, unary_judged, binary_judged, intrinsic_judged, conversion_judged, judged, ranks_of, ranks_of_operator, some_array, elements_of, dims_of}
use Rattle.type_rules.specs.Arrays.{scalars_of, unmeasured, element_at_run, rank_of}
use Rattle.type_rules.specs.Judging.{Suits, AreValues}
use Rattle.type_rules.proofs.Judging.{scalar_of_type, no_dims}
use Rattle.type_rules.specs.declared.ty.Ty.{Ty}
use Rattle.type_rules.specs.declared.ty.Elem.{Elem}
use Rattle.type_rules.specs.declared.ty.Elem.TheVariants as elem
use Rattle.type_rules.specs.declared.ty.Len.{Len}
use Rattle.type_rules.specs.declared.ty.Len.TheVariants as len
use Rattle.type_rules.specs.declared.ty.Dim.{Dim}
use Rattle.type_rules.specs.declared.code.Intrinsic.{Intrinsic}
use Rattle.type_rules.specs.declared.constant.Op.{Op}
use Rattle.type_rules.specs.declared.constant.Op.TheVariants.{Unary, Binary, Intrinsic as IntrinsicOf, Convert}
use Rattle.type_rules.specs.declared.signature.Judgement.TheVariants.{Element, Misused}
use Rattle.type_rules.specs.declared.signature.Ranks.TheVariants.{Elementwise, Scalars}
use Rattle.type_rules.specs.declared.signature.Class.{Class}
use Rattle.type_rules.specs.declared.signature.Class.TheVariants.{Integers, Logicals, Characters as CharacterClass, OneCharacter}

-- No operation takes a derived type.
abbrev pub Plain : Elem → Type 0
Plain (elem.Derived s) = ⊥
Plain _ = Unit {0}

abbrev pub AllPlain : List Elem → Type 0
AllPlain [] = Unit {0}
AllPlain (e ∷ es) = Plain e × AllPlain es

no_unary : (op : Operator) (e : Elem) (x : Elem) → element_or_none (unary_element op e) ≡ Element x → Plain e
no_unary op (elem.Integer k) x h = tt
no_unary op elem.Logical x h = tt
no_unary op (elem.Character n) x h = tt
no_unary op (elem.Derived s) x h = by op h
  where
    by : (op : Operator) → element_or_none (unary_element op (elem.Derived s)) ≡ Element x → ⊥
    by Add h = cc
    by Subtract h = cc
    by Not h = cc
    by _ h = cc

no_binary : (op : Operator) (e f : Elem) (x : Elem) → element_or_none (element_of op e f) ≡ Element x → Plain e × Plain f
no_binary op (elem.Derived s) f x h = cc
no_binary op (elem.Integer k) (elem.Derived s) x h = cc
no_binary op elem.Logical (elem.Derived s) x h = cc
no_binary op (elem.Character n) (elem.Derived s) x h = cc
no_binary op (elem.Integer k) (elem.Integer j) x h = (tt, tt)
no_binary op (elem.Integer k) elem.Logical x h = (tt, tt)
no_binary op (elem.Integer k) (elem.Character m) x h = (tt, tt)
no_binary op elem.Logical (elem.Integer j) x h = (tt, tt)
no_binary op elem.Logical elem.Logical x h = (tt, tt)
no_binary op elem.Logical (elem.Character m) x h = (tt, tt)
no_binary op (elem.Character n) (elem.Integer j) x h = (tt, tt)
no_binary op (elem.Character n) elem.Logical x h = (tt, tt)
no_binary op (elem.Character n) (elem.Character m) x h = (tt, tt)

in_class : (c : Class) (e : Elem) → is_in_class c e ≡ true → Plain e
in_class c (elem.Integer k) h = tt
in_class c elem.Logical h = tt
in_class c (elem.Character n) h = tt
in_class Integers (elem.Derived s) h = cc
in_class Logicals (elem.Derived s) h = cc
in_class CharacterClass (elem.Derived s) h = cc
in_class OneCharacter (elem.Derived s) h = cc

all_in_class : (c : Class) (es : List Elem) → are_in_class c es ≡ true → AllPlain es
all_in_class c [] h = tt
all_in_class c (e ∷ es) h = let p = and_parts (is_in_class c e) (are_in_class c es) h in (in_class c e p.0, all_in_class c es p.1)

-- A function with an element type has the number and the class of its arguments.
pub record Called (which : Intrinsic) (es : List Elem) (x : Elem) : Type 0 where
  pub number : takes which (length es) ≡ true
  pub class : are_in_class (class_of which) es ≡ true
  pub is : x ≡ result_element which (greatest_kind es)

pub called : (which : Intrinsic) (es : List Elem) (x : Elem) → intrinsic_judged (Some which) es ≡ Element x → Called which es x
called which es x h = by (takes which (length es)) (are_in_class (class_of which) es) refl refl h
  where
    by : (t u : Bool) → takes which (length es) ≡ t → are_in_class (class_of which) es ≡ u → (if not t then Misused E405 else if not u then Misused E406 else Element (result_element which (greatest_kind es))) ≡ Element x → Called which es x
    by true true p q g = record { number = p; class = q; is = cc }
    by true false p q g = cc
    by false u p q g = cc

pub converted : (kind : ℕ) (e x : Elem) → conversion_judged kind e ≡ Element x → (is_kind kind ≡ true) × (is_in_class Integers e ≡ true) × (x ≡ elem.Integer kind)
converted kind e x h = by (is_kind kind) (is_in_class Integers e) refl refl h
  where
    by : (t u : Bool) → is_kind kind ≡ t → is_in_class Integers e ≡ u → (if t && u then Element (elem.Integer kind) else Misused E406) ≡ Element x → (is_kind kind ≡ true) × (is_in_class Integers e ≡ true) × (x ≡ elem.Integer kind)
    by true true p q g = (p, q, cc)
    by true false p q g = cc
    by false u p q g = cc

pub all_plain : (op : Op) (es : List Elem) (x : Elem) → judged op es ≡ Element x → AllPlain es
all_plain (Unary code) [] x h = tt
all_plain (Unary code) (e ∷ []) x h = by (operator_of code) h
  where
    by : (o : Option Operator) → unary_judged o e ≡ Element x → Plain e × Unit {0}
    by None g = cc
    by (Some op) g = (no_unary op e x g, tt)
all_plain (Unary code) (e ∷ f ∷ es) x h = cc
all_plain (Binary code) [] x h = tt
all_plain (Binary code) (e ∷ []) x h = cc
all_plain (Binary code) (e ∷ f ∷ []) x h = by (operator_of code) h
  where
    by : (o : Option Operator) → binary_judged o e f ≡ Element x → Plain e × (Plain f × Unit {0})
    by None g = cc
    by (Some op) g = let p = no_binary op e f x g in (p.0, (p.1, tt))
all_plain (Binary code) (e ∷ f ∷ g ∷ es) x h = cc
all_plain (IntrinsicOf code) es x h = by (intrinsic_of code) h
  where
    by : (o : Option Intrinsic) → intrinsic_judged o es ≡ Element x → AllPlain es
    by None g = cc
    by (Some which) g = all_in_class (class_of which) es (called which es x g).class
all_plain (Convert kind) [] x h = tt
all_plain (Convert kind) (e ∷ []) x h = (in_class Integers e (converted kind e x h).1, tt)
all_plain (Convert kind) (e ∷ f ∷ es) x h = cc

-- The length of characters does not decide the element type of an operation that takes arrays.
unmeasured_unary : (op : Operator) (e : Elem) → unary_element op (unmeasured e) ≡ unary_element op e
unmeasured_unary op (elem.Integer k) = refl
unmeasured_unary op elem.Logical = refl
unmeasured_unary op (elem.Character n) = by op
  where
    by : (op : Operator) → unary_element op (elem.Character len.Assumed) ≡ unary_element op (elem.Character n)
    by Not = refl
    by _ = refl
unmeasured_unary op (elem.Derived s) = by op
  where
    by : (op : Operator) → unary_element op (unmeasured (elem.Derived s)) ≡ unary_element op (elem.Derived s)
    by Not = refl
    by _ = refl

unmeasured_texts : (op : Operator) (m n : Len) → is_concatenation op ≡ false → element_of op (elem.Character len.Assumed) (elem.Character len.Assumed) ≡ element_of op (elem.Character m) (elem.Character n)
unmeasured_texts Concatenate m n h = cc
unmeasured_texts _ m n h = refl

unmeasured_binary : (op : Operator) (e f : Elem) → is_concatenation op ≡ false → element_of op (unmeasured e) (unmeasured f) ≡ element_of op e f
unmeasured_binary op (elem.Character m) (elem.Character n) h = unmeasured_texts op m n h
unmeasured_binary op (elem.Character m) (elem.Integer j) h = refl
unmeasured_binary op (elem.Character m) elem.Logical h = refl
unmeasured_binary op (elem.Character m) (elem.Derived s) h = refl
unmeasured_binary op (elem.Integer k) (elem.Integer j) h = refl
unmeasured_binary op (elem.Integer k) elem.Logical h = refl
unmeasured_binary op (elem.Integer k) (elem.Character n) h = refl
unmeasured_binary op (elem.Integer k) (elem.Derived s) h = refl
unmeasured_binary op elem.Logical (elem.Integer j) h = refl
unmeasured_binary op elem.Logical elem.Logical h = refl
unmeasured_binary op elem.Logical (elem.Character n) h = refl
unmeasured_binary op elem.Logical (elem.Derived s) h = refl
unmeasured_binary op (elem.Derived s) (elem.Integer j) h = refl
unmeasured_binary op (elem.Derived s) elem.Logical h = refl
unmeasured_binary op (elem.Derived s) (elem.Character n) h = refl
unmeasured_binary op (elem.Derived s) (elem.Derived t) h = refl

unmeasured_class : (c : Class) (e : Elem) → is_in_class c e ≡ true → is_in_class c (unmeasured e) ≡ true
unmeasured_class Integers (elem.Integer k) h = refl
unmeasured_class Logicals elem.Logical h = refl
unmeasured_class CharacterClass (elem.Character n) h = refl
unmeasured_class OneCharacter (elem.Character n) h = refl
unmeasured_class c e h = cc

unmeasured_classes : (c : Class) (es : List Elem) → are_in_class c es ≡ true → are_in_class c (map unmeasured es) ≡ true
unmeasured_classes c [] h = refl
unmeasured_classes c (e ∷ es) h =
    let p = and_parts (is_in_class c e) (are_in_class c es) h in
    and_from (is_in_class c (unmeasured e)) (are_in_class c (map unmeasured es)) (unmeasured_class c e p.0) (unmeasured_classes c es p.1)

unmeasured_kind : (e : Elem) → kind_of (unmeasured e) ≡ kind_of e
unmeasured_kind (elem.Integer k) = refl
unmeasured_kind elem.Logical = refl
unmeasured_kind (elem.Character n) = refl
unmeasured_kind (elem.Derived s) = refl

unmeasured_kinds : (es : List Elem) → greatest_kind (map unmeasured es) ≡ greatest_kind es
unmeasured_kinds [] = refl
unmeasured_kinds (e ∷ es) = ap (λ n. max n (greatest_kind (map unmeasured es))) (unmeasured_kind e) ∙ ap (max (kind_of e)) (unmeasured_kinds es)

as_many : (es : List Elem) → length (map unmeasured es) ≡ length es
as_many [] = refl
as_many (e ∷ es) = ap suc (as_many es)

unmeasured_function : (which : Intrinsic) (es : List Elem) (x : Elem) → Called which es x → intrinsic_judged (Some which) (map unmeasured es) ≡ Element x
unmeasured_function which es x h =
    ap (λ (t : Bool). if not t then Misused E405 else if not (are_in_class (class_of which) (map unmeasured es)) then Misused E406 else Element (result_element which (greatest_kind (map unmeasured es)))) (ap (takes which) (as_many es) ∙ h.number)
    ∙ ap (λ (t : Bool). if not t then Misused E406 else Element (result_element which (greatest_kind (map unmeasured es)))) (unmeasured_classes (class_of which) es h.class)
    ∙ ap (λ (n : ℕ). Element (result_element which n)) (unmeasured_kinds es)
    ∙ ap Element (sym h.is)

pub unmeasured_judged : (op : Op) (es : List Elem) (x : Elem) → judged op es ≡ Element x → (ranks_of op ≡ Scalars → ⊥) → judged op (map unmeasured es) ≡ Element x
unmeasured_judged (Unary code) [] x h r = h
unmeasured_judged (Unary code) (e ∷ []) x h r = by (operator_of code) h
  where
    by : (o : Option Operator) → unary_judged o e ≡ Element x → unary_judged o (unmeasured e) ≡ Element x
    by None g = g
    by (Some op) g = ap element_or_none (unmeasured_unary op e) ∙ g
unmeasured_judged (Unary code) (e ∷ f ∷ es) x h r = h
unmeasured_judged (Binary code) [] x h r = h
unmeasured_judged (Binary code) (e ∷ []) x h r = h
unmeasured_judged (Binary code) (e ∷ f ∷ []) x h r = by (operator_of code) h r
  where
    apart : (t : Bool) → ((if t then Scalars else Elementwise) ≡ Scalars → ⊥) → t ≡ false
    apart true g = absurd (g refl)
    apart false g = refl

    by : (o : Option Operator) → binary_judged o e f ≡ Element x → (ranks_of_operator o ≡ Scalars → ⊥) → binary_judged o (unmeasured e) (unmeasured f) ≡ Element x
    by None g k = g
    by (Some op) g k = ap element_or_none (unmeasured_binary op e f (apart (is_concatenation op) k)) ∙ g
unmeasured_judged (Binary code) (e ∷ f ∷ g ∷ es) x h r = h
unmeasured_judged (IntrinsicOf code) es x h r = by (intrinsic_of code) h
  where
    by : (o : Option Intrinsic) → intrinsic_judged o es ≡ Element x → intrinsic_judged o (map unmeasured es) ≡ Element x
    by None g = cc
    by (Some which) g = unmeasured_function which es x (called which es x g)
unmeasured_judged (Convert kind) [] x h r = h
unmeasured_judged (Convert kind) (e ∷ []) x h r = ap (λ (t : Bool). if is_kind kind && t then Element (elem.Integer kind) else Misused E406) (by e (converted kind e x h).1) ∙ h
  where
    by : (e : Elem) → is_in_class Integers e ≡ true → is_in_class Integers (unmeasured e) ≡ is_in_class Integers e
    by (elem.Integer k) g = refl
    by elem.Logical g = cc
    by (elem.Character n) g = cc
    by (elem.Derived s) g = cc
unmeasured_judged (Convert kind) (e ∷ f ∷ es) x h r = h

-- The rank and the element type of a value at run are those of its type.
extents_rank : (ds : List Dim) (ns : List ℕ) → are_extents ds ns ≡ true → length ns ≡ length ds
extents_rank [] [] h = refl
extents_rank [] (n ∷ ns) h = cc
extents_rank (d ∷ ds) [] h = cc
extents_rank (d ∷ ds) (n ∷ ns) h = ap suc (extents_rank ds ns (and_parts (is_extent d n) (are_extents ds ns) h).1)

pub array_extents : (ds : List Dim) (ns : List ℕ) → is_array ds ns ≡ true → are_extents ds ns ≡ true
array_extents [] ns h = cc
array_extents (d ∷ ds) ns h = h

-- An array of a type.
pub record ArrayOf (definitions : Definitions) (ty : Ty) (element : Elem) (extents : List ℕ) (elements : Values) : Type 0 where
  pub array : is_array ty.dims extents ≡ true
  pub element_is : is_element ty.elem element ≡ true
  pub count : count_shapes (shapes_of elements) ≡ size_of extents
  pub are : are_of definitions element (shapes_of elements) ≡ true

pub array_of : (ds : Definitions) (ty : Ty) (element : Elem) (extents : List ℕ) (elements : Values) → IsValue ds ty (Array element extents elements) → ArrayOf ds ty element extents elements
array_of ds ty element extents elements h =
    let p = and_parts (is_array ty.dims extents) (is_element ty.elem element && ((count_shapes (shapes_of elements) == size_of extents) && are_of ds element (shapes_of elements))) h.holds in
    let q = and_parts (is_element ty.elem element) ((count_shapes (shapes_of elements) == size_of extents) && are_of ds element (shapes_of elements)) p.1 in
    let r = and_parts (count_shapes (shapes_of elements) == size_of extents) (are_of ds element (shapes_of elements)) q.1 in
    let n = r.0 in
    record { array = p.0; element_is = q.0; count = grind (arith, nat_tests); are = r.1 }

record_parts : (ds : Definitions) (ty : Ty) (cs : Components) → IsValue ds ty (Record cs) → (ty.dims ≡ []) × (have_types ds (components_of ds ty.elem) (component_shapes cs) ≡ true)
record_parts ds ty cs h =
    let p = and_parts (is_scalar ty.dims) (have_types ds (components_of ds ty.elem) (component_shapes cs)) h.holds in
    (no_dims ty.dims p.0, p.1)

no_components : (ds : Definitions) (cs : Components) → have_types ds None (component_shapes cs) ≡ true → ⊥
no_components ds no_component h = cc
no_components ds (component name v rest) h = cc

pub not_a_record : (ds : Definitions) (ty : Ty) (cs : Components) → IsValue ds ty (Record cs) → Plain ty.elem → ⊥
not_a_record ds ty cs h plain = by ty.elem plain (record_parts ds ty cs h).1
  where
    by : (e : Elem) → Plain e → have_types ds (components_of ds e) (component_shapes cs) ≡ true → ⊥
    by (elem.Integer k) p g = no_components ds cs g
    by elem.Logical p g = no_components ds cs g
    by (elem.Character n) p g = no_components ds cs g
    by (elem.Derived s) p g = p

pub rank_is : (ds : Definitions) (ty : Ty) (v : Value) → IsValue ds ty v → rank_of v ≡ length ty.dims
rank_is ds ty (Single s) h = ap length (sym (no_dims ty.dims (scalar_of_type ds ty s h.holds).scalar))
rank_is ds ty (Array element extents elements) h = extents_rank ty.dims extents (array_extents ty.dims extents (array_of ds ty element extents elements h).array)
rank_is ds ty (Record cs) h = ap length (sym (record_parts ds ty cs h).0)

pub ranks_are : (ds : Definitions) (ts : List Ty) (vs : List Value) → AreValues ds ts vs → map rank_of vs ≡ map length (dims_of ts)
ranks_are ds [] [] h = refl
ranks_are ds [] (v ∷ vs) h = absurd h
ranks_are ds (t ∷ ts) [] h = absurd h
ranks_are ds (t ∷ ts) (v ∷ vs) h = ap (λ (n : ℕ). n ∷ map rank_of vs) (rank_is ds t v h.0) ∙ ap (λ (ns : List ℕ). length t.dims ∷ ns) (ranks_are ds ts vs h.1)

scalar_at_run : (e : Elem) (s : Scalar) → Suits e s → element_at_run (Single s) ≡ unmeasured e
scalar_at_run (elem.Integer j) (Integer k z) h = ap elem.Integer (sym h)
scalar_at_run elem.Logical (Logical p) h = refl
scalar_at_run (elem.Character n) (Characters b) h = refl
scalar_at_run e s h = absurd h

array_at_run : (e f : Elem) → Plain e → is_element e f ≡ true → unmeasured f ≡ unmeasured e
array_at_run (elem.Integer j) (elem.Integer k) p h = let q = (and_parts (j == k) (is_kind k) h).0 in ap elem.Integer (by q)
  where
    by : (j == k) ≡ true → k ≡ j
    by q = grind (arith, nat_tests)
array_at_run elem.Logical elem.Logical p h = refl
array_at_run (elem.Character n) (elem.Character m) p h = refl
array_at_run (elem.Derived s) f p h = absurd p
array_at_run e f p h = cc

pub element_is : (ds : Definitions) (ty : Ty) (v : Value) → Plain ty.elem → IsValue ds ty v → element_at_run v ≡ unmeasured ty.elem
element_is ds ty (Single s) p h = scalar_at_run ty.elem s (scalar_of_type ds ty s h.holds).suits
element_is ds ty (Array element extents elements) p h = array_at_run ty.elem element p (array_of ds ty element extents elements h).element_is
element_is ds ty (Record cs) p h = absurd (not_a_record ds ty cs h p)

pub elements_are : (ds : Definitions) (ts : List Ty) (vs : List Value) → AllPlain (elements_of ts) → AreValues ds ts vs → map element_at_run vs ≡ map unmeasured (elements_of ts)
elements_are ds [] [] p h = refl
elements_are ds [] (v ∷ vs) p h = absurd h
elements_are ds (t ∷ ts) [] p h = absurd h
elements_are ds (t ∷ ts) (v ∷ vs) p h = ap (λ (e : Elem). e ∷ map element_at_run vs) (element_is ds t v p.0 h.0) ∙ ap (λ (es : List Elem). unmeasured t.elem ∷ es) (elements_are ds ts vs p.1 h.1)

-- Where not all are scalars, there is an array.
nonzero_rank : (ds : List Dim) (ns : List ℕ) → is_array ds ns ≡ true → not (length ds == 0) ≡ true
nonzero_rank [] ns h = cc
nonzero_rank (d ∷ ds) ns h = by (length (d ∷ ds) == 0) refl
  where
    by : (t : Bool) → (length (d ∷ ds) == 0) ≡ t → not t ≡ true
    by true e = let f : suc (length ds) ≡ 0 = grind (arith, nat_tests) in absurd (omega arith)
    by false e = refl

or_true : (t : Bool) → (t || true) ≡ true
or_true true = refl
or_true false = refl

pub there_is_array : (ds : Definitions) (ts : List Ty) (vs : List Value) → AllPlain (elements_of ts) → AreValues ds ts vs → scalars_of vs ≡ None → some_array (map length (dims_of ts)) ≡ true
there_is_array ds [] [] p h e = cc
there_is_array ds [] (v ∷ vs) p h e = absurd h
there_is_array ds (t ∷ ts) [] p h e = absurd h
there_is_array ds (t ∷ ts) (Single s ∷ vs) p h e = by (scalars_of vs) refl e (λ f. there_is_array ds ts vs p.1 h.1 f)
  where
    by : (o : Option (List Scalar)) → scalars_of vs ≡ o → option_map (λ rest. s ∷ rest) o ≡ None → (scalars_of vs ≡ None → some_array (map length (dims_of ts)) ≡ true) → some_array (map length (dims_of (t ∷ ts))) ≡ true
    by None f g later = ap (λ (u : Bool). not (length t.dims == 0) || u) (later f) ∙ or_true (not (length t.dims == 0))
    by (Some rest) f g later = cc
there_is_array ds (t ∷ ts) (Array element extents elements ∷ vs) p h e =
    ap (λ (u : Bool). u || some_array (map length (dims_of ts))) (nonzero_rank t.dims extents (array_of ds t element extents elements h.0).array)
there_is_array ds (t ∷ ts) (Record cs ∷ vs) p h e = absurd (not_a_record ds t cs h.0 p.0)
