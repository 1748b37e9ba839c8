-- Subscripts, substrings and dummies at their edges.
use Rattle.std.proofs.Common.{◌≡◌, ℕ, ◌+◌, ◌*◌, ◌≤◌, ◌<◌, Bool, true, false, ◌&&◌, refl, ap, arith, ℤ, pos, ◌+ℤ◌, ◌-ℤ◌, nat_lt, if◌then◌else◌, List, [], ◌∷◌, ◌++◌, Option, Some, None}
use Rattle.std.specs.Prelude.{unsigned_abs, int_lt, int_le}
use Rattle.std.specs.Option.{option_map, option_and_then}
use Rattle.std.proofs.lemmas.Int.{ints}
use Rattle.std.proofs.lemmas.Nat.{row_fits}
use Rattle.std.proofs.lemmas.Bool.Decides.{nat_tests}
use Rattle.lf_base.specs.declared.trap.Trap.TheVariants.{SubscriptOutOfRange, SubstringOutOfRange}
use Rattle.type_rules.specs.Values.{Evaluation, Gives, Traps, NoRule, and_then}
use Rattle.type_rules.specs.Store.{Value, Selector, Store, Place, value_at, part_of, read, held, offset_in, size_of}
use Rattle.type_rules.specs.Bindings.{Bounds, Binding, upper_of, position_in, positions_in, extents_of, substring_of, IsPosition, HasElement, AreElements, IsSubstring, place_of, target_place, bound_path, bound_value}

pub empty_dimension : (b : Bounds) → b.extent ≡ 0 → upper_of b ≡ b.lower -ℤ pos 1
empty_dimension b e = omega (arith, ints)

pub is_position : (b : Bounds) (subscript : ℤ) → IsPosition b subscript (position_in b subscript)
is_position b subscript = by (int_le b.lower subscript) (int_le subscript (upper_of b)) refl refl
  where
    by : (t u : Bool) → int_le b.lower subscript ≡ t → int_le subscript (upper_of b) ≡ u → IsPosition b subscript (if t && u then Gives (unsigned_abs (subscript -ℤ b.lower)) else Traps SubscriptOutOfRange)
    by true true e f = (omega (arith, ints), omega (arith, ints))
    by true false e f = (refl, λ h. omega (arith, ints))
    by false u e f = (refl, λ h. absurd (omega (arith, ints)))

more_elements : (x i : ℕ) (xs at : List ℕ) → i < x → HasElement xs at → HasElement (x ∷ xs) (i ∷ at)
more_elements x i xs at below h = record {
  offset = i + x * h.offset;
  is = by (nat_lt i x) refl;
  below = inside (h.below);
}
  where
    by : (t : Bool) → nat_lt i x ≡ t → (if t then option_map (λ rest. i + x * rest) (offset_in xs at) else None) ≡ Some (i + x * h.offset)
    by true e = ap (option_map (λ rest. i + x * rest)) h.is
    by false e = absurd (grind (arith, nat_tests))

    turned : (m n o : ℕ) → o < n → m * o + m ≤ m * n
    turned m n o p = grind (arith, row_fits)

    inside : h.offset < size_of xs → i + x * h.offset < x * size_of xs
    inside p = let t = turned x (size_of xs) h.offset p in omega arith

pub are_elements : (bs : List Bounds) (ss : List ℤ) → AreElements bs (positions_in bs ss)
are_elements [] [] = record { offset = 0; is = refl; below = omega arith }
are_elements [] (s ∷ ss) = tt
are_elements (b ∷ bs) [] = tt
are_elements (b ∷ bs) (s ∷ ss) = by (position_in b s) (positions_in bs ss) (is_position b s) (are_elements bs ss)
  where
    by : (o : Evaluation ℕ) (p : Evaluation (List ℕ)) → IsPosition b s o → AreElements bs p → AreElements (b ∷ bs) (and_then o (λ k. and_then p (λ ks. Gives (k ∷ ks))))
    by (Gives k) (Gives ks) h g = more_elements b.extent k (extents_of bs) ks h.1 g
    by (Gives k) (Traps trap) h g = g
    by (Gives k) NoRule h g = tt
    by (Traps trap) p h g = h.0
    by NoRule p h g = absurd h

pub is_substring : (first last : ℤ) (n : ℕ) → IsSubstring first last n (substring_of first last n)
is_substring first last n = by (int_lt last first) (int_le (pos 1) first) (int_le first (pos n)) (int_le (pos 1) last) (int_le last (pos n)) refl refl refl refl refl
  where
    by : (t a b c d : Bool) → int_lt last first ≡ t → int_le (pos 1) first ≡ a → int_le first (pos n) ≡ b → int_le (pos 1) last ≡ c → int_le last (pos n) ≡ d → IsSubstring first last n (if t then Gives (0, 0) else if (a && b) && (c && d) then Gives (unsigned_abs (first -ℤ pos 1), unsigned_abs (last -ℤ first +ℤ pos 1)) else Traps SubstringOutOfRange)
    by true a b c d e f g h i = (omega arith, λ p. refl, λ p. absurd (omega (arith, ints)))
    by false true true true true e f g h i = (omega (arith, ints), λ p. absurd (omega (arith, ints)), λ p. (omega (arith, ints), omega (arith, ints)))
    by false true true true false e f g h i = (refl, omega (arith, ints), λ p. omega (arith, ints))
    by false true true false d e f g h i = (refl, omega (arith, ints), λ p. absurd (omega (arith, ints)))
    by false true false c d e f g h i = (refl, omega (arith, ints), λ p. omega (arith, ints))
    by false false b c d e f g h i = (refl, omega (arith, ints), λ p. absurd (omega (arith, ints)))

path_of_paths : (path more : List Selector) (v : Value) → value_at (path ++ more) v ≡ option_and_then (value_at more) (value_at path v)
path_of_paths [] more v = refl
path_of_paths (s ∷ path) more v = by (part_of s v) (λ u. path_of_paths path more u)
  where
    by : (o : Option Value) → ((u : Value) → value_at (path ++ more) u ≡ option_and_then (value_at more) (value_at path u)) → option_and_then (value_at (path ++ more)) o ≡ option_and_then (value_at more) (option_and_then (value_at path) o)
    by None later = refl
    by (Some u) later = later u

pub bound_is : (store : Store) (b : Binding) → read store (place_of b) ≡ bound_value store b
bound_is store b = by (target_place b.target) (held store (target_place b.target).instance)
  where
    by : (there : Place) (o : Option Value) → option_and_then (value_at (there.path ++ bound_path b.bounds b.length_of)) o ≡ option_and_then (value_at (bound_path b.bounds b.length_of)) (option_and_then (value_at there.path) o)
    by there None = refl
    by there (Some v) = path_of_paths there.path (bound_path b.bounds b.length_of) v
