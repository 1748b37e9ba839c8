-- The store: what was written at a place is read there, and the other instances keep what they hold.
use Rattle.std.proofs.Common.{◌≡◌, ℕ, zero, suc, ◌+◌, ◌≤◌, Bool, true, false, ◌&&◌, refl, sym, ◌∙◌, ap, subst, arith, List, [], ◌∷◌, ◌++◌, length, take, drop, ◌==◌, nat_le, if◌then◌else◌, Option, Some, None, append_assoc, length-append, length-take}
use Rattle.std.specs.Option.{option_map, option_and_then}
use Rattle.std.specs.Str.{bytes_eq}
use Rattle.std.proofs.lemmas.Option.{option_and_then_some}
use Rattle.std.proofs.Math.Seq.{drop-append_seam, take-append_seam}
use Rattle.type_rules.specs.Values.{Characters}
use Rattle.type_rules.specs.Store.{Value, Single, Array, Record, Values, none, more, Components, no_component, component, nth, with_nth, component_of, with_component, offset_in, Selector, Component, Element, Bytes, cut_of, part_of, spliced, with_part, value_at, with_value}

nth_with : (vs : Values) (k : ℕ) (old new : Value) → nth vs k ≡ Some old → nth (with_nth vs k new) k ≡ Some new
nth_with none k old new e = cc
nth_with (more v vs) zero old new e = refl
nth_with (more v vs) (suc k) old new e = nth_with vs k old new e

component_with : (cs : Components) (name : List ℕ) (old new : Value) → component_of cs name ≡ Some old → component_of (with_component cs name new) name ≡ Some new
component_with no_component name old new e = cc
component_with (component n v rest) name old new e = by (bytes_eq n name) refl (component_with rest name old new) e
  where
    by : (t : Bool) → bytes_eq n name ≡ t → (component_of rest name ≡ Some old → component_of (with_component rest name new) name ≡ Some new) → (if t then Some v else component_of rest name) ≡ Some old → component_of (if t then component n new rest else component n v (with_component rest name new)) name ≡ Some new
    by true p later e = rw p refl
    by false p later e = rw p (later e)

both_true : (p q : Bool) → (p && q) ≡ true → (p ≡ true) × (q ≡ true)
both_true true true e = (refl, refl)
both_true true false e = cc
both_true false q e = cc

cut_if : (t : Bool) (a b : ℕ) (x y : List ℕ) → nat_le a b ≡ t → a ≤ b → x ≡ y → (if t then Some x else None) ≡ Some y
cut_if true a b x y p h e = ap Some e
cut_if false a b x y p h e = absurd (grind arith)

cut_with : (skipped count : ℕ) (bytes new : List ℕ) → length new ≡ count → skipped + count ≤ length bytes → cut_of skipped count (take skipped bytes ++ new ++ drop (skipped + count) bytes) ≡ Some new
cut_with skipped count bytes new e h =
    let front = take skipped bytes in
    let rest = drop (skipped + count) bytes in
    let n : length front ≡ skipped = simp length-take (omega arith) in
    let whole = append_assoc front new rest in
    let d : drop skipped (front ++ new ++ rest) ≡ new ++ rest =
    ap (drop skipped) whole ∙ ap (λ k. drop k (front ++ (new ++ rest))) (sym n) ∙ drop-append_seam front (new ++ rest) in
    let t : take count (new ++ rest) ≡ new = ap (λ k. take k (new ++ rest)) (sym e) ∙ take-append_seam new rest in
    let room : skipped + count ≤ length (front ++ new ++ rest) = simp length-append (omega arith) in
    cut_if (nat_le (skipped + count) (length (front ++ new ++ rest))) (skipped + count) (length (front ++ new ++ rest)) _ _ refl room (ap (take count) d ∙ t)

element_with : (extents at : List ℕ) (vs : Values) (old new : Value) → option_and_then (nth vs) (offset_in extents at) ≡ Some old → (k : ℕ) → offset_in extents at ≡ Some k → nth (with_nth vs k new) k ≡ Some new
element_with extents at vs old new e k f =
    let g : nth vs k ≡ Some old = subst (λ o. option_and_then (nth vs) o ≡ Some old) f e in
    nth_with vs k old new g

spliced_cut : (skipped count : ℕ) (bytes : List ℕ) (new w : Value) → spliced skipped count bytes new ≡ Some w → part_of (Bytes skipped count) w ≡ Some new
spliced_cut skipped count bytes (Single (Characters text)) w e = by ((length text == count) && nat_le (skipped + count) (length bytes)) refl e
  where
    whole : List ℕ
    whole = take skipped bytes ++ text ++ drop (skipped + count) bytes

    by : (t : Bool) → ((length text == count) && nat_le (skipped + count) (length bytes)) ≡ t → (if t then Some (Single (Characters (take skipped bytes ++ text ++ drop (skipped + count) bytes))) else None) ≡ Some w → part_of (Bytes skipped count) w ≡ Some (Single (Characters text))
    by true p f =
        let q = both_true (length text == count) (nat_le (skipped + count) (length bytes)) p in
        let same = q.0 in
        let room = q.1 in
        let e : length text ≡ count = grind arith in
        let h : skipped + count ≤ length bytes = grind arith in
        let cut = cut_with skipped count bytes text e h in
        let s : Single (Characters (take skipped bytes ++ text ++ drop (skipped + count) bytes)) ≡ w = cc in
        subst (λ x. part_of (Bytes skipped count) x ≡ Some (Single (Characters text))) s (ap (option_map (λ c. Single (Characters c))) cut)
    by false p f = cc
spliced_cut skipped count bytes new w e = cc

pub part_with : (s : Selector) (v old new w : Value) → part_of s v ≡ Some old → with_part s v new ≡ Some w → part_of s w ≡ Some new
part_with (Component name) (Record cs) old new w e f =
    let s : Record (with_component cs name new) ≡ w = cc in
    subst (λ x. part_of (Component name) x ≡ Some new) s (component_with cs name old new e)
part_with (Element at) (Array element extents vs) old new w e f = by (offset_in extents at) refl f
  where
    by : (o : Option ℕ) → offset_in extents at ≡ o → option_map (λ k. Array element extents (with_nth vs k new)) o ≡ Some w → part_of (Element at) w ≡ Some new
    by None p g = cc
    by (Some k) p g =
        let s : Array element extents (with_nth vs k new) ≡ w = cc in
        let n = element_with extents at vs old new e k p in
        subst (λ x. part_of (Element at) x ≡ Some new) s (rw p n)
part_with (Bytes skipped count) (Single (Characters bytes)) old new w e f = spliced_cut skipped count bytes new w f
part_with s v old new w e f = cc

pub written_is_read : (path : List Selector) (v new w : Value) → with_value path new v ≡ Some w → value_at path w ≡ Some new
written_is_read [] v new w e = sym e
written_is_read (s ∷ path) v new w e =
    option_and_then_some _ (part_of s v) w e (λ old p g.
    option_and_then_some (with_part s v) (with_value path new old) w g (λ changed q h.
    ap (option_and_then (value_at path)) (part_with s v old changed w p h) ∙ written_is_read path old new changed q))
