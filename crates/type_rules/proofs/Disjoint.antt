-- What a write leaves of all that has nothing in common with what is written; and the store as a map.
use Rattle.std.proofs.Common.{◌≡◌, ℕ, zero, suc, ◌+◌, ◌*◌, ◌-◌, ◌≤◌, ◌<◌, Bool, true, false, not, ◌&&◌, ◌||◌, refl, sym, ◌∙◌, ap, subst, cond, arith, List, [], ◌∷◌, ◌++◌, length, take, drop, ◌==◌, nat_le, nat_lt, if◌then◌else◌, Option, Some, None, ◌⊎◌, inl, inr, append_assoc, length-append, length-take, length-drop}
use Rattle.std.specs.Option.{option_map, option_and_then}
use Rattle.std.specs.Str.{bytes_eq}
use Rattle.std.specs.FinMap.{get, insert, get-insert, get-empty}
use Rattle.std.specs.Ordering.{nat_cmp, eq_by_cmp}
use Rattle.std.proofs.lemmas.Cmp.{nat_cmp_total}
use Rattle.std.proofs.lemmas.Option.{option_and_then_some}
use Rattle.std.proofs.lemmas.Slice.Eq.{bytes_eq-Decides}
use Rattle.std.proofs.lemmas.Bool.{and_parts, or_cases}
use Rattle.std.proofs.lemmas.Nat.{same_from_place}
use Rattle.std.proofs.lemmas.List.{take-append-le, drop-take, drop-drop, drop_at}
use Rattle.std.proofs.lemmas.Bool.Decides.{nat_tests}
use Rattle.type_rules.specs.Values.{Integer, Logical, Characters}
use Rattle.type_rules.specs.declared.ty.Elem.{Elem}
use Rattle.type_rules.specs.Store.{Value, Single, Array, Record, Values, none, more, Components, no_component, component, Selector, Component, Element, Bytes, offset_in, nth, with_nth, component_of, with_component, part_of, spliced, with_part, value_at, with_value, Store, Place, held, with_held, read, write, map_of, same_numbers, same_part, parts_apart, paths_apart, places_apart}
use Rattle.type_rules.proofs.Places.{part_with, written_is_read}

held_with : (store : Store) (i : ℕ) (old new : Value) (j : ℕ) → held store i ≡ Some old → held (with_held store i new) j ≡ (if i == j then Some new else held store j)
held_with [] i old new j e = cc
held_with (entry ∷ store) i old new j e = by (entry.0 == i) refl e (λ f. held_with store i old new j f)
  where
    here : (t u : Bool) → (entry.0 == i) ≡ true → (i == j) ≡ t → (entry.0 == j) ≡ u → (if t then Some new else held store j) ≡ (if t then Some new else if u then Some entry.1 else held store j)
    here true u p q r = refl
    here false true p q r = absurd (grind (arith, nat_tests))
    here false false p q r = refl

    later : (t u : Bool) → (entry.0 == i) ≡ false → (i == j) ≡ t → (entry.0 == j) ≡ u → held (with_held store i new) j ≡ (if t then Some new else held store j) → (if u then Some entry.1 else held (with_held store i new) j) ≡ (if t then Some new else if u then Some entry.1 else held store j)
    later true true p q r h = absurd (grind (arith, nat_tests))
    later true false p q r h = h
    later false true p q r h = refl
    later false false p q r h = h

    by : (t : Bool) → (entry.0 == i) ≡ t → (if t then Some entry.1 else held store i) ≡ Some old → (held store i ≡ Some old → held (with_held store i new) j ≡ (if i == j then Some new else held store j)) → held (if t then (i, new) ∷ store else entry ∷ with_held store i new) j ≡ (if i == j then Some new else held (entry ∷ store) j)
    by true p f h = here (i == j) (entry.0 == j) p refl refl
    by false p f h = later (i == j) (entry.0 == j) p refl refl (h f)

-- The store as a map.
eq_by_number : (i j : ℕ) → eq_by_cmp nat_cmp i j ≡ (j == i)
eq_by_number i j = grind (arith, nat_tests)

pub held_is_get : (store : Store) (i : ℕ) → held store i ≡ get (map_of store) i
held_is_get [] i = sym (get-empty nat_cmp i)
held_is_get (entry ∷ store) i =
    ap (λ o. if entry.0 == i then Some entry.1 else o) (held_is_get store i) ∙ sym (get-insert nat_cmp_total (map_of store) entry.0 entry.1 i ∙ ap (λ t. cond t (Some entry.1) (get (map_of store) i)) (eq_by_number i entry.0))

pub written_map : (store : Store) (i : ℕ) (old new : Value) → held store i ≡ Some old → (j : ℕ) → get (map_of (with_held store i new)) j ≡ get (insert (map_of store) i new) j
written_map store i old new e j =
    sym (held_is_get (with_held store i new) j) ∙ held_with store i old new j e ∙ ap (λ o. if i == j then Some new else o) (held_is_get store j) ∙ sym (get-insert nat_cmp_total (map_of store) i new j ∙ ap (λ t. cond t (Some new) (get (map_of store) j)) (eq_by_number j i))

-- Equal tests are equal things.
same_names : (m n : List ℕ) → bytes_eq m n ≡ true → m ≡ n
same_names m n e = (bytes_eq-Decides m n).0 e

pub numbers_equal : (xs ys : List ℕ) → same_numbers xs ys ≡ true → xs ≡ ys
numbers_equal [] [] e = refl
numbers_equal [] (y ∷ ys) e = cc
numbers_equal (x ∷ xs) [] e = cc
numbers_equal (x ∷ xs) (y ∷ ys) e =
    let p = and_parts (x == y) (same_numbers xs ys) e in
    let first = p.0 in
    let same : x ≡ y = grind (arith, nat_tests) in
    ap (λ n. n ∷ xs) same ∙ ap (λ ns. y ∷ ns) (numbers_equal xs ys p.1)

numbers_of_equal : (xs ys : List ℕ) → xs ≡ ys → same_numbers xs ys ≡ true
numbers_of_equal xs ys e = subst (λ zs. same_numbers xs zs ≡ true) e (itself xs)
  where
    step : (x : ℕ) (t : Bool) → (x == x) ≡ t → t ≡ true
    step x true e = refl
    step x false e = absurd (grind (arith, nat_tests))

    itself : (zs : List ℕ) → same_numbers zs zs ≡ true
    itself [] = refl
    itself (z ∷ zs) = ap (λ t. t && same_numbers zs zs) (step z (z == z) refl) ∙ itself zs

same_selectors : (s t : Selector) → same_part s t ≡ true → s ≡ t
same_selectors (Component m) (Component n) e = ap Component (same_names m n e)
same_selectors (Component m) (Element at) e = cc
same_selectors (Component m) (Bytes skipped count) e = cc
same_selectors (Element at) (Component n) e = cc
same_selectors (Element at) (Element other) e = ap Element (numbers_equal at other e)
same_selectors (Element at) (Bytes skipped count) e = cc
same_selectors (Bytes skipped count) (Component n) e = cc
same_selectors (Bytes skipped count) (Element at) e = cc
same_selectors (Bytes skipped count) (Bytes other_skipped other_count) e =
    let p = and_parts (skipped == other_skipped) (count == other_count) e in
    let first = p.0 in
    let second = p.1 in
    let a : skipped ≡ other_skipped = grind (arith, nat_tests) in
    let b : count ≡ other_count = grind (arith, nat_tests) in
    ap (λ k. Bytes k count) a ∙ ap (λ k. Bytes other_skipped k) b

-- Another component.
other_component : (cs : Components) (m n : List ℕ) (new : Value) → not (bytes_eq m n) ≡ true → component_of (with_component cs m new) n ≡ component_of cs n
other_component no_component m n new apart = refl
other_component (component c v rest) m n new apart = by (bytes_eq c m) (bytes_eq c n) refl refl (other_component rest m n new apart)
  where
    by : (t u : Bool) → bytes_eq c m ≡ t → bytes_eq c n ≡ u → component_of (with_component rest m new) n ≡ component_of rest n → component_of (if t then component c new rest else component c v (with_component rest m new)) n ≡ (if u then Some v else component_of rest n)
    by true true p q later =
        let same = same_names c m p in
        let there : bytes_eq m n ≡ true = subst (λ x. bytes_eq x n ≡ true) same q in
        cc
    by true false p q later = ap (λ t. if t then Some new else component_of rest n) q
    by false true p q later = ap (λ t. if t then Some v else component_of (with_component rest m new) n) q
    by false false p q later = ap (λ t. if t then Some v else component_of (with_component rest m new) n) q ∙ later

-- Another element.
other_nth : (vs : Values) (k j : ℕ) (new : Value) → (k ≡ j → ⊥) → nth (with_nth vs k new) j ≡ nth vs j
other_nth none k j new apart = refl
other_nth (more v vs) zero zero new apart = absurd (apart refl)
other_nth (more v vs) zero (suc j) new apart = refl
other_nth (more v vs) (suc k) zero new apart = refl
other_nth (more v vs) (suc k) (suc j) new apart = other_nth vs k j new (λ e. apart (ap suc e))

counted_alike : (x k j r s : ℕ) → k < x → j < x → k + x * r ≡ j + x * s → (k ≡ j) × (r ≡ s)
counted_alike x k j r s below other e =
    let turned : r * x + k ≡ s * x + j = grind arith in
    let same = same_from_place r k s j x below other turned in
    (same.1, same.0)

one_offset : (xs at other : List ℕ) (k : ℕ) → offset_in xs at ≡ Some k → offset_in xs other ≡ Some k → at ≡ other
one_offset [] [] [] k e f = refl
one_offset [] [] (j ∷ js) k e f = cc
one_offset [] (i ∷ at) other k e f = cc
one_offset (x ∷ xs) [] other k e f = cc
one_offset (x ∷ xs) (i ∷ at) [] k e f = cc
one_offset (x ∷ xs) (i ∷ at) (j ∷ other) k e f = by (nat_lt i x) (nat_lt j x) (offset_in xs at) (offset_in xs other) (λ r. one_offset xs at other r) refl refl refl refl e f
  where
    by : (t u : Bool) (o p : Option ℕ) → ((r : ℕ) → offset_in xs at ≡ Some r → offset_in xs other ≡ Some r → at ≡ other) → nat_lt i x ≡ t → nat_lt j x ≡ u → offset_in xs at ≡ o → offset_in xs other ≡ p → (if t then option_map (λ rest. i + x * rest) o else None) ≡ Some k → (if u then option_map (λ rest. j + x * rest) p else None) ≡ Some k → i ∷ at ≡ j ∷ other
    by true true (Some r) (Some s) later a b c d g h =
        let first : i + x * r ≡ k = cc in
        let second : j + x * s ≡ k = cc in
        let below : i < x = grind (arith, nat_tests) in
        let below' : j < x = grind (arith, nat_tests) in
        let same = counted_alike x i j r s below below' (omega arith) in
        ap (λ n. n ∷ at) same.0 ∙ ap (λ ns. j ∷ ns) (later r c (d ∙ ap Some (sym same.1)))
    by true true (Some r) None later a b c d g h = cc
    by true true None p later a b c d g h = cc
    by true false o p later a b c d g h = cc
    by false u o p later a b c d g h = cc

-- Other bytes.
part_in_front : (k n : ℕ) (xs rest bytes : List ℕ) (skipped : ℕ) → xs ≡ take skipped bytes → k + n ≤ length xs → take n (drop k (xs ++ rest)) ≡ take n (drop k bytes)
part_in_front k n xs rest bytes skipped e room =
    sym (drop-take k n (xs ++ rest)) ∙ ap (drop k) (take-append-le (k + n) xs rest room) ∙ ap (λ ys. drop k (take (k + n) ys)) e ∙ ap (drop k) (shorter room) ∙ drop-take k n bytes
  where
    fewer : (m n : ℕ) (ys : List ℕ) → m ≤ n → take m (take n ys) ≡ take m ys
    fewer zero n ys h = refl
    fewer (suc m) zero ys h = absurd (omega arith)
    fewer (suc m) (suc n) [] h = refl
    fewer (suc m) (suc n) (y ∷ ys) h = ap (λ zs. y ∷ zs) (fewer m n ys (omega arith))

    shorter : k + n ≤ length xs → take (k + n) (take skipped bytes) ≡ take (k + n) bytes
    shorter h = fewer (k + n) skipped bytes (let l = ap length e ∙ length-take skipped bytes in omega arith)

part_behind : (k : ℕ) (front part bytes : List ℕ) (ends : ℕ) → length front + length part ≡ ends → ends ≤ k → drop k (front ++ part ++ drop ends bytes) ≡ drop k bytes
part_behind k front part bytes ends e h =
    let more : ends + (k - ends) ≡ k = omega arith in
    let whole : length (front ++ part) ≡ ends = length-append front part ∙ e in
    let at_end : drop ends (front ++ part ++ drop ends bytes) ≡ drop ends bytes = drop_at (front ++ part) (drop ends bytes) ends whole in
    ap (λ n. drop n (front ++ part ++ drop ends bytes)) (sym more) ∙ sym (drop-drop (k - ends) ends (front ++ part ++ drop ends bytes)) ∙ ap (drop (k - ends)) at_end ∙ drop-drop (k - ends) ends bytes ∙ ap (λ n. drop n bytes) more

other_cut : (skipped count k n : ℕ) (bytes part : List ℕ) → length part ≡ count → skipped + count ≤ length bytes → (nat_le (skipped + count) k || nat_le (k + n) skipped) ≡ true → take n (drop k (take skipped bytes ++ part ++ drop (skipped + count) bytes)) ≡ take n (drop k bytes)
other_cut skipped count k n bytes part e room apart = by (or_cases (nat_le (skipped + count) k) (nat_le (k + n) skipped) apart)
  where
    front : length (take skipped bytes) ≡ skipped
    front = length-take skipped bytes ∙ omega arith

    by : (nat_le (skipped + count) k ≡ true) ⊎ (nat_le (k + n) skipped ≡ true) → take n (drop k (take skipped bytes ++ part ++ drop (skipped + count) bytes)) ≡ take n (drop k bytes)
    by (inl h) =
        let behind : skipped + count ≤ k = grind (arith, nat_tests) in
        ap (take n) (part_behind k (take skipped bytes) part bytes (skipped + count) (let f = front in omega arith) behind)
    by (inr h) =
        let before : k + n ≤ skipped = grind (arith, nat_tests) in
        ap (λ ys. take n (drop k ys)) (append_assoc (take skipped bytes) part (drop (skipped + count) bytes)) ∙ part_in_front k n (take skipped bytes) (part ++ drop (skipped + count) bytes) bytes skipped refl (let f = front in omega arith)

other_bytes : (skipped count k n : ℕ) (bytes : List ℕ) (new w : Value) → (nat_le (skipped + count) k || nat_le (k + n) skipped) ≡ true → spliced skipped count bytes new ≡ Some w → part_of (Bytes k n) w ≡ part_of (Bytes k n) (Single (Characters bytes))
other_bytes skipped count k n bytes (Single (Characters part)) w apart e = by ((length part == count) && nat_le (skipped + count) (length bytes)) refl e
  where
    by : (t : Bool) → ((length part == count) && nat_le (skipped + count) (length bytes)) ≡ t → (if t then Some (Single (Characters (take skipped bytes ++ part ++ drop (skipped + count) bytes))) else None) ≡ Some w → part_of (Bytes k n) w ≡ part_of (Bytes k n) (Single (Characters bytes))
    by true p f =
        let q = and_parts (length part == count) (nat_le (skipped + count) (length bytes)) p in
        let first = q.0 in
        let second = q.1 in
        let same : length part ≡ count = grind (arith, nat_tests) in
        let room : skipped + count ≤ length bytes = grind (arith, nat_tests) in
        let there : Single (Characters (take skipped bytes ++ part ++ drop (skipped + count) bytes)) ≡ w = cc in
        let long : length (take skipped bytes ++ part ++ drop (skipped + count) bytes) ≡ length bytes = whole_length same room in
        subst (λ x. part_of (Bytes k n) x ≡ part_of (Bytes k n) (Single (Characters bytes))) there
        (ap (λ m. option_map (λ c. Single (Characters c)) (if nat_le (k + n) m then Some (take n (drop k (take skipped bytes ++ part ++ drop (skipped + count) bytes))) else None)) long ∙ ap (λ c. option_map (λ c. Single (Characters c)) (if nat_le (k + n) (length bytes) then Some c else None)) (other_cut skipped count k n bytes part same room apart))
      where
        whole_length : length part ≡ count → skipped + count ≤ length bytes → length (take skipped bytes ++ part ++ drop (skipped + count) bytes) ≡ length bytes
        whole_length e h = omega (arith, length-append (take skipped bytes) (part ++ drop (skipped + count) bytes), length-append part (drop (skipped + count) bytes), length-append (take skipped bytes ++ part) (drop (skipped + count) bytes), length-append (take skipped bytes) part, length-take skipped bytes, length-drop (skipped + count) bytes)
    by false p f = cc
other_bytes skipped count k n bytes (Single (Integer kind z)) w apart e = cc
other_bytes skipped count k n bytes (Single (Logical p)) w apart e = cc
other_bytes skipped count k n bytes (Array element xs vs) w apart e = cc
other_bytes skipped count k n bytes (Record cs) w apart e = cc

other_element : (element : Elem) (xs : List ℕ) (vs : Values) (at other : List ℕ) (new w : Value) → not (same_numbers at other) ≡ true → with_part (Element at) (Array element xs vs) new ≡ Some w → part_of (Element other) w ≡ part_of (Element other) (Array element xs vs)
other_element element xs vs at other new w apart e = by (offset_in xs at) refl e
  where
    there : (k : ℕ) (o : Option ℕ) → offset_in xs at ≡ Some k → offset_in xs other ≡ o → option_and_then (nth (with_nth vs k new)) o ≡ option_and_then (nth vs) o
    there k None a b = refl
    there k (Some j) a b = other_nth vs k j new (λ same. let h = numbers_of_equal at other (one_offset xs at other k a (b ∙ ap Some (sym same))) in cc)

    by : (o : Option ℕ) → offset_in xs at ≡ o → option_map (λ k. Array element xs (with_nth vs k new)) o ≡ Some w → part_of (Element other) w ≡ part_of (Element other) (Array element xs vs)
    by None a f = cc
    by (Some k) a f =
        let same : Array element xs (with_nth vs k new) ≡ w = cc in
        subst (λ x. part_of (Element other) x ≡ part_of (Element other) (Array element xs vs)) same (there k (offset_in xs other) a refl)

-- Another part of the same value.
other_part : (s t : Selector) (v new w : Value) → parts_apart s t ≡ true → with_part s v new ≡ Some w → part_of t w ≡ part_of t v
other_part (Component m) (Component n) (Record cs) new w apart e =
    let same : Record (with_component cs m new) ≡ w = cc in
    subst (λ x. part_of (Component n) x ≡ component_of cs n) same (other_component cs m n new apart)
other_part (Component m) (Component n) (Single s) new w apart e = cc
other_part (Component m) (Component n) (Array element xs vs) new w apart e = cc
other_part (Element at) (Element other) (Array element xs vs) new w apart e = other_element element xs vs at other new w apart e
other_part (Element at) (Element other) (Single s) new w apart e = cc
other_part (Element at) (Element other) (Record cs) new w apart e = cc
other_part (Bytes skipped count) (Bytes k n) (Single (Characters bytes)) new w apart e = other_bytes skipped count k n bytes new w apart e
other_part (Bytes skipped count) (Bytes k n) (Single (Integer kind z)) new w apart e = cc
other_part (Bytes skipped count) (Bytes k n) (Single (Logical p)) new w apart e = cc
other_part (Bytes skipped count) (Bytes k n) (Array element xs vs) new w apart e = cc
other_part (Bytes skipped count) (Bytes k n) (Record cs) new w apart e = cc
other_part (Component m) (Element at) v new w apart e = cc
other_part (Component m) (Bytes k n) v new w apart e = cc
other_part (Element at) (Component m) v new w apart e = cc
other_part (Element at) (Bytes k n) v new w apart e = cc
other_part (Bytes skipped count) (Component m) v new w apart e = cc
other_part (Bytes skipped count) (Element at) v new w apart e = cc

pub other_path : (path other : List Selector) (v new w : Value) → paths_apart path other ≡ true → with_value path new v ≡ Some w → value_at other w ≡ value_at other v
other_path [] other v new w apart e = cc
other_path (s ∷ path) [] v new w apart e = cc
other_path (s ∷ path) (t ∷ other) v new w apart e =
    option_and_then_some _ (part_of s v) w e (λ old p g.
    option_and_then_some (with_part s v) (with_value path new old) w g (λ changed q h.
    by old changed p q h (or_cases (parts_apart s t) (same_part s t && paths_apart path other) apart) (λ f. other_path path other old new changed f q)))
  where
    by : (old changed : Value) → part_of s v ≡ Some old → with_value path new old ≡ Some changed → with_part s v changed ≡ Some w → (parts_apart s t ≡ true) ⊎ ((same_part s t && paths_apart path other) ≡ true) → (paths_apart path other ≡ true → value_at other changed ≡ value_at other old) → option_and_then (value_at other) (part_of t w) ≡ option_and_then (value_at other) (part_of t v)
    by old changed p q h (inl f) later = ap (option_and_then (value_at other)) (other_part s t v changed w f h)
    by old changed p q h (inr f) later =
        let c = and_parts (same_part s t) (paths_apart path other) f in
        let same = same_selectors s t c.0 in
        let now : part_of s w ≡ Some changed = part_with s v old changed w p h in
        ap (λ u. option_and_then (value_at other) (part_of u w)) (sym same) ∙ ap (option_and_then (value_at other)) now ∙ later c.1 ∙ ap (option_and_then (value_at other)) (sym p) ∙ ap (λ u. option_and_then (value_at other) (part_of u v)) same

pub other_place : (store after : Store) (place other : Place) (new : Value) → places_apart place other ≡ true → write store place new ≡ Some after → read after other ≡ read store other
other_place store after place other new apart e = by (held store place.instance) refl e
  where
    own : (v w : Value) (t : Bool) → held store place.instance ≡ Some v → with_value place.path new v ≡ Some w → (place.instance == other.instance) ≡ t → (not t || paths_apart place.path other.path) ≡ true → option_and_then (value_at other.path) (if t then Some w else held store other.instance) ≡ option_and_then (value_at other.path) (held store other.instance)
    own v w false p q r f = refl
    own v w true p q r f =
        let same : place.instance ≡ other.instance = grind (arith, nat_tests) in
        other_path place.path other.path v new w f q ∙ ap (option_and_then (value_at other.path)) (sym p ∙ ap (held store) same)

    changed : (v : Value) (o : Option Value) → held store place.instance ≡ Some v → with_value place.path new v ≡ o → option_map (with_held store place.instance) o ≡ Some after → read after other ≡ read store other
    changed v None p q f = cc
    changed v (Some w) p q f =
        let same : with_held store place.instance w ≡ after = cc in
        ap (λ s. read s other) (sym same) ∙ ap (option_and_then (value_at other.path)) (held_with store place.instance v w other.instance p) ∙ own v w (place.instance == other.instance) p q refl apart

    by : (o : Option Value) → held store place.instance ≡ o → option_map (with_held store place.instance) (option_and_then (with_value place.path new) o) ≡ Some after → read after other ≡ read store other
    by None p f = cc
    by (Some v) p f = changed v (with_value place.path new v) p refl f

-- What was written at a place is read there.
pub written_place : (store after : Store) (place : Place) (new : Value) → write store place new ≡ Some after → read after place ≡ Some new
written_place store after place new e = by (held store place.instance) refl e
  where
    itself : (t : Bool) (w : Value) → (place.instance == place.instance) ≡ t → (if t then Some w else held store place.instance) ≡ Some w
    itself true w p = refl
    itself false w p = absurd (grind (arith, nat_tests))

    changed : (v : Value) (o : Option Value) → held store place.instance ≡ Some v → with_value place.path new v ≡ o → option_map (with_held store place.instance) o ≡ Some after → read after place ≡ Some new
    changed v None p q f = cc
    changed v (Some w) p q f =
        let same : with_held store place.instance w ≡ after = cc in
        ap (λ s. read s place) (sym same) ∙ ap (option_and_then (value_at place.path)) (held_with store place.instance v w place.instance p ∙ itself (place.instance == place.instance) w refl) ∙ written_is_read place.path v new w q

    by : (o : Option Value) → held store place.instance ≡ o → option_map (with_held store place.instance) (option_and_then (with_value place.path new) o) ≡ Some after → read after place ≡ Some new
    by None p f = cc
    by (Some v) p f = changed v (with_value place.path new v) p refl f
