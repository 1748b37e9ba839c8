-- The shape of a part is the part of the shape, and a write of a part of the same shape keeps the shape of the whole.
use Rattle.std.proofs.Common.{◌≡◌, ℕ, zero, suc, ◌+◌, ◌≤◌, ◌==◌, Bool, true, false, ◌&&◌, nat_le, if◌then◌else◌, List, [], ◌∷◌, ◌++◌, length, take, drop, Option, Some, None, refl, sym, ap, subst, ◌∙◌, arith, length-append, length-take, length-drop}
use Rattle.std.specs.Option.{option_map, option_and_then}
use Rattle.std.specs.Str.{bytes_eq}
use Rattle.std.proofs.lemmas.Bool.Decides.{nat_tests}
use Rattle.type_rules.specs.Values.{Integer, Logical, Characters}
use Rattle.type_rules.specs.declared.ty.Elem.{Elem}
use Rattle.type_rules.specs.declared.ty.Ty.{Ty}
use Rattle.type_rules.specs.Store.{Value, Single, Array, Record, Values, none, more, Components, no_component, component, Selector, Component, Element, Bytes, offset_in, nth, with_nth, component_of, with_component, part_of, spliced, with_part, value_at, with_value, Store, Place, held, with_held, read, write}
use Rattle.type_rules.specs.Shapes.{CharactersShape, ArrayShape, RecordShape, element_shape, component_shape, shape_of, shapes_of, component_shapes, nth_shape, shape_named, shape_chosen, shape_at, Definitions, IsValue, is_of}

shape_of_nth : (vs : Values) (k : ℕ) → option_map shape_of (nth vs k) ≡ nth_shape (shapes_of vs) k
shape_of_nth none k = refl
shape_of_nth (more v vs) zero = refl
shape_of_nth (more v vs) (suc k) = shape_of_nth vs k

shape_of_component : (cs : Components) (name : List ℕ) → option_map shape_of (component_of cs name) ≡ shape_named (component_shapes cs) name
shape_of_component no_component name = refl
shape_of_component (component n v rest) name = by (bytes_eq n name) (shape_of_component rest name)
  where
    by : (t : Bool) → option_map shape_of (component_of rest name) ≡ shape_named (component_shapes rest) name → option_map shape_of (if t then Some v else component_of rest name) ≡ (if t then Some (shape_of v) else shape_named (component_shapes rest) name)
    by true later = refl
    by false later = later

length_of_cut : (skipped count : ℕ) (bytes : List ℕ) → skipped + count ≤ length bytes → length (take count (drop skipped bytes)) ≡ count
length_of_cut skipped count bytes room = length-take count (drop skipped bytes) ∙ omega (arith, length-drop skipped bytes)

shape_of_cut : (skipped count : ℕ) (bytes : List ℕ) → option_map shape_of (part_of (Bytes skipped count) (Single (Characters bytes))) ≡ shape_chosen (Bytes skipped count) (CharactersShape (length bytes))
shape_of_cut skipped count bytes = by (nat_le (skipped + count) (length bytes)) refl
  where
    by : (t : Bool) → nat_le (skipped + count) (length bytes) ≡ t → option_map shape_of (option_map (λ cut. Single (Characters cut)) (if t then Some (take count (drop skipped bytes)) else None)) ≡ (if t then Some (CharactersShape count) else None)
    by true e = let room : skipped + count ≤ length bytes = grind (arith, nat_tests) in ap (λ n. Some (CharactersShape n)) (length_of_cut skipped count bytes room)
    by false e = refl

shape_of_element : (element : Elem) (xs : List ℕ) (vs : Values) (at : List ℕ) → option_map shape_of (part_of (Element at) (Array element xs vs)) ≡ shape_chosen (Element at) (shape_of (Array element xs vs))
shape_of_element element xs vs at = by (offset_in xs at)
  where
    by : (o : Option ℕ) → option_map shape_of (option_and_then (nth vs) o) ≡ option_and_then (nth_shape (shapes_of vs)) o
    by None = refl
    by (Some k) = shape_of_nth vs k

pub shape_of_part : (selector : Selector) (v : Value) → option_map shape_of (part_of selector v) ≡ shape_chosen selector (shape_of v)
shape_of_part (Component name) (Single (Integer kind z)) = refl
shape_of_part (Component name) (Single (Logical p)) = refl
shape_of_part (Component name) (Single (Characters bytes)) = refl
shape_of_part (Component name) (Array element xs vs) = refl
shape_of_part (Component name) (Record cs) = shape_of_component cs name
shape_of_part (Element at) (Single (Integer kind z)) = refl
shape_of_part (Element at) (Single (Logical p)) = refl
shape_of_part (Element at) (Single (Characters bytes)) = refl
shape_of_part (Element at) (Array element xs vs) = shape_of_element element xs vs at
shape_of_part (Element at) (Record cs) = refl
shape_of_part (Bytes skipped count) (Single (Integer kind z)) = refl
shape_of_part (Bytes skipped count) (Single (Logical p)) = refl
shape_of_part (Bytes skipped count) (Single (Characters bytes)) = shape_of_cut skipped count bytes
shape_of_part (Bytes skipped count) (Array element xs vs) = refl
shape_of_part (Bytes skipped count) (Record cs) = refl

pub shape_of_value_at : (path : List Selector) (v : Value) → option_map shape_of (value_at path v) ≡ shape_at path (shape_of v)
shape_of_value_at [] v = refl
shape_of_value_at (selector ∷ path) v = by (part_of selector v) (λ u. shape_of_value_at path u) ∙ ap (option_and_then (shape_at path)) (shape_of_part selector v)
  where
    by : (o : Option Value) → ((u : Value) → option_map shape_of (value_at path u) ≡ shape_at path (shape_of u)) → option_map shape_of (option_and_then (value_at path) o) ≡ option_and_then (shape_at path) (option_map shape_of o)
    by None later = refl
    by (Some u) later = later u

shapes_with_nth : (vs : Values) (k : ℕ) (old new : Value) → nth vs k ≡ Some old → shape_of new ≡ shape_of old → shapes_of (with_nth vs k new) ≡ shapes_of vs
shapes_with_nth none k old new e same = cc
shapes_with_nth (more v vs) zero old new e same = let there : v ≡ old = cc in ap (λ s. element_shape s (shapes_of vs)) (same ∙ ap shape_of (sym there))
shapes_with_nth (more v vs) (suc k) old new e same = ap (element_shape (shape_of v)) (shapes_with_nth vs k old new e same)

shapes_with_component : (cs : Components) (name : List ℕ) (old new : Value) → component_of cs name ≡ Some old → shape_of new ≡ shape_of old → component_shapes (with_component cs name new) ≡ component_shapes cs
shapes_with_component no_component name old new e same = cc
shapes_with_component (component n v rest) name old new e same = by (bytes_eq n name) e (λ f. shapes_with_component rest name old new f same)
  where
    by : (t : Bool) → (if t then Some v else component_of rest name) ≡ Some old → (component_of rest name ≡ Some old → component_shapes (with_component rest name new) ≡ component_shapes rest) → component_shapes (if t then component n new rest else component n v (with_component rest name new)) ≡ component_shape n (shape_of v) (component_shapes rest)
    by true f later = let there : v ≡ old = cc in ap (λ s. component_shape n s (component_shapes rest)) (same ∙ ap shape_of (sym there))
    by false f later = ap (component_shape n (shape_of v)) (later f)

-- What is left when a part is replaced is there, and has the shape of the whole.
abbrev pub Keeps : Value → Option Value → Type 0
Keeps v o = (w : Value) × (o ≡ Some w) × (shape_of w ≡ shape_of v)

are_characters : (new : Value) (n : ℕ) → shape_of new ≡ CharactersShape n → (bytes : List ℕ) × (new ≡ Single (Characters bytes)) × (length bytes ≡ n)
are_characters (Single (Integer kind z)) n e = cc
are_characters (Single (Logical p)) n e = cc
are_characters (Single (Characters bytes)) n e = (bytes, refl, cc)
are_characters (Array element xs vs) n e = cc
are_characters (Record cs) n e = cc

spliced_keeps : (skipped count : ℕ) (bytes part : List ℕ) → skipped + count ≤ length bytes → length part ≡ count → Keeps (Single (Characters bytes)) (spliced skipped count bytes (Single (Characters part)))
spliced_keeps skipped count bytes part room e =
    let whole = take skipped bytes ++ part ++ drop (skipped + count) bytes in
    (Single (Characters whole), ap (λ t. if t then Some (Single (Characters whole)) else None) tests, ap CharactersShape long)
  where
    tests : ((length part == count) && nat_le (skipped + count) (length bytes)) ≡ true
    tests = grind (arith, nat_tests)

    long : length (take skipped bytes ++ part ++ drop (skipped + count) bytes) ≡ length bytes
    long = omega (arith, length-append (take skipped bytes) (part ++ drop (skipped + count) bytes), length-append part (drop (skipped + count) bytes), length-append (take skipped bytes ++ part) (drop (skipped + count) bytes), length-append (take skipped bytes) part, length-take skipped bytes, length-drop (skipped + count) bytes)

bytes_keep : (skipped count : ℕ) (bytes : List ℕ) (old new : Value) → part_of (Bytes skipped count) (Single (Characters bytes)) ≡ Some old → shape_of new ≡ shape_of old → Keeps (Single (Characters bytes)) (spliced skipped count bytes new)
bytes_keep skipped count bytes old new e same = by (nat_le (skipped + count) (length bytes)) refl e
  where
    by : (t : Bool) → nat_le (skipped + count) (length bytes) ≡ t → option_map (λ cut. Single (Characters cut)) (if t then Some (take count (drop skipped bytes)) else None) ≡ Some old → Keeps (Single (Characters bytes)) (spliced skipped count bytes new)
    by true f g =
        let room : skipped + count ≤ length bytes = grind (arith, nat_tests) in
        let there : Single (Characters (take count (drop skipped bytes))) ≡ old = cc in
        let c = are_characters new count (same ∙ ap shape_of (sym there) ∙ ap CharactersShape (length_of_cut skipped count bytes room)) in
        subst (λ n. Keeps (Single (Characters bytes)) (spliced skipped count bytes n)) (sym c.1) (spliced_keeps skipped count bytes c.0 room c.2)
    by false f g = cc

element_keeps : (element : Elem) (xs : List ℕ) (vs : Values) (at : List ℕ) (old new : Value) → part_of (Element at) (Array element xs vs) ≡ Some old → shape_of new ≡ shape_of old → Keeps (Array element xs vs) (with_part (Element at) (Array element xs vs) new)
element_keeps element xs vs at old new e same = by (offset_in xs at) e
  where
    by : (o : Option ℕ) → option_and_then (nth vs) o ≡ Some old → Keeps (Array element xs vs) (option_map (λ k. Array element xs (with_nth vs k new)) o)
    by None f = cc
    by (Some k) f = (Array element xs (with_nth vs k new), refl, ap (ArrayShape element xs) (shapes_with_nth vs k old new f same))

part_keeps : (selector : Selector) (v old new : Value) → part_of selector v ≡ Some old → shape_of new ≡ shape_of old → Keeps v (with_part selector v new)
part_keeps (Component name) (Record cs) old new e same = (Record (with_component cs name new), refl, ap RecordShape (shapes_with_component cs name old new e same))
part_keeps (Component name) (Single s) old new e same = cc
part_keeps (Component name) (Array element xs vs) old new e same = cc
part_keeps (Element at) (Array element xs vs) old new e same = element_keeps element xs vs at old new e same
part_keeps (Element at) (Single s) old new e same = cc
part_keeps (Element at) (Record cs) old new e same = cc
part_keeps (Bytes skipped count) (Single (Characters bytes)) old new e same = bytes_keep skipped count bytes old new e same
part_keeps (Bytes skipped count) (Single (Integer kind z)) old new e same = cc
part_keeps (Bytes skipped count) (Single (Logical p)) old new e same = cc
part_keeps (Bytes skipped count) (Array element xs vs) old new e same = cc
part_keeps (Bytes skipped count) (Record cs) old new e same = cc

pub value_keeps : (path : List Selector) (v old new : Value) → value_at path v ≡ Some old → shape_of new ≡ shape_of old → Keeps v (with_value path new v)
value_keeps [] v old new e same = let there : v ≡ old = cc in (new, refl, same ∙ ap shape_of (sym there))
value_keeps (selector ∷ path) v old new e same = by (part_of selector v) refl e (λ u f. value_keeps path u old new f same)
  where
    by : (o : Option Value) → part_of selector v ≡ o → option_and_then (value_at path) o ≡ Some old → ((u : Value) → value_at path u ≡ Some old → Keeps u (with_value path new u)) → Keeps v (option_and_then (λ u. option_and_then (with_part selector v) (with_value path new u)) o)
    by None f g later = cc
    by (Some u) f g later =
        let r = later u g in
        subst (λ o. Keeps v (option_and_then (with_part selector v) o)) (sym r.1) (part_keeps selector v u r.0 f r.2)

-- A part of another instance of the same type makes no other type of the whole.
pub is_value_by_shape : (definitions : Definitions) (ty : Ty) (v w : Value) → shape_of w ≡ shape_of v → IsValue definitions ty v → IsValue definitions ty w
is_value_by_shape definitions ty v w e h = record { holds = ap (is_of definitions ty) e ∙ h.holds }

held_shapes : (store : Store) (i j : ℕ) (old new : Value) → held store i ≡ Some old → shape_of new ≡ shape_of old → option_map shape_of (held (with_held store i new) j) ≡ option_map shape_of (held store j)
held_shapes [] i j old new e same = refl
held_shapes (entry ∷ store) i j old new e same = by (entry.0 == i) refl e (λ f. held_shapes store i j old new f same)
  where
    other : (t u : Bool) → (entry.0 == i) ≡ true → (i == j) ≡ t → (entry.0 == j) ≡ u → entry.1 ≡ old → option_map shape_of (if t then Some new else held store j) ≡ option_map shape_of (if u then Some entry.1 else held store j)
    other true true p q r s = ap Some (same ∙ ap shape_of (sym s))
    other true false p q r s = absurd (grind (arith, nat_tests))
    other false true p q r s = absurd (grind (arith, nat_tests))
    other false false p q r s = refl

    rest : (u : Bool) → option_map shape_of (held (with_held store i new) j) ≡ option_map shape_of (held store j) → option_map shape_of (if u then Some entry.1 else held (with_held store i new) j) ≡ option_map shape_of (if u then Some entry.1 else held store j)
    rest true h = refl
    rest false h = h

    by : (t : Bool) → (entry.0 == i) ≡ t → (if t then Some entry.1 else held store i) ≡ Some old → (held store i ≡ Some old → option_map shape_of (held (with_held store i new) j) ≡ option_map shape_of (held store j)) → option_map shape_of (held (if t then (i, new) ∷ store else entry ∷ with_held store i new) j) ≡ option_map shape_of (if entry.0 == j then Some entry.1 else held store j)
    by true p f later = other (i == j) (entry.0 == j) p refl refl (cc)
    by false p f later = rest (entry.0 == j) (later f)

-- What a write of a value of the same shape leaves: it is never stuck, and each instance keeps its shape.
pub write_keeps : (store : Store) (place : Place) (old new : Value) → read store place ≡ Some old → shape_of new ≡ shape_of old → (after : Store) × (write store place new ≡ Some after) × ((i : ℕ) → option_map shape_of (held after i) ≡ option_map shape_of (held store i))
write_keeps store place old new e same = by (held store place.instance) refl e
  where
    by : (o : Option Value) → held store place.instance ≡ o → option_and_then (value_at place.path) o ≡ Some old → (after : Store) × (option_map (with_held store place.instance) (option_and_then (with_value place.path new) o) ≡ Some after) × ((i : ℕ) → option_map shape_of (held after i) ≡ option_map shape_of (held store i))
    by None f g = cc
    by (Some v) f g =
        let r = value_keeps place.path v old new g same in
        (with_held store place.instance r.0, ap (option_map (with_held store place.instance)) r.1, λ i. held_shapes store place.instance i v r.0 f r.2)
