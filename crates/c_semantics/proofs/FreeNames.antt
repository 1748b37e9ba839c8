-- Names that are not reserved, by how they begin.
use Rattle.std.proofs.Common.{◌≡◌, ℕ, ◌≤◌, Bool, true, false, not, ◌&&◌, List, [], ◌∷◌, ◌++◌, refl, ap, ◌∙◌, arith}
use Rattle.std.specs.Prelude.{◌||◌, ◌==◌, nat_eq, nat_le}
use Rattle.std.specs.List.{list_any}
use Rattle.std.specs.Str.{bytes_eq}
use Rattle.std.proofs.lemmas.Bool.Decides.{nat_tests}
use Rattle.c_semantics.specs.Reserved.{reserved, is_reserved, begins_with, is_free_front}

neither : (a b : Bool) → (a || b) ≡ false → (a ≡ false) × (b ≡ false)
neither true b h = absurd (cc)
neither false b h = (refl, h)

none : (a b : Bool) → a ≡ false → b ≡ false → (a || b) ≡ false
none true b h k = absurd (cc)
none false b h k = k

negated : (a : Bool) → not a ≡ true → a ≡ false
negated true h = absurd (cc)
negated false h = refl

both_so : (a b : Bool) → (a && b) ≡ true → (a ≡ true) × (b ≡ true)
both_so true b h = (refl, h)
both_so false b h = absurd (cc)

-- if every name fails the one test wherever it fails the other, so does each list
all_fail : (p q : List ℕ → Bool) → ((name : List ℕ) → p name ≡ false → q name ≡ false) → (names : List (List ℕ)) → list_any p names ≡ false → list_any q names ≡ false
all_fail p q f [] h = refl
all_fail p q f (name ∷ names) h =
    let parts = neither (p name) (list_any p names) h in
    none (q name) (list_any q names) (f name parts.0) (all_fail p q f names parts.1)

same_first : (t : Bool) (b c : ℕ) (front rest name : List ℕ) → nat_eq b c ≡ t → (begins_with front name ≡ false → bytes_eq (front ++ rest) name ≡ false) → (t && begins_with front name) ≡ false → (nat_eq b c && bytes_eq (front ++ rest) name) ≡ false
same_first true b c front rest name e f h = ap (λ t. t && bytes_eq (front ++ rest) name) e ∙ f h
same_first false b c front rest name e f h = ap (λ t. t && bytes_eq (front ++ rest) name) e

another : (front rest name : List ℕ) → begins_with front name ≡ false → bytes_eq (front ++ rest) name ≡ false
another [] rest name h = absurd (cc)
another (b ∷ front) rest [] h = refl
another (b ∷ front) rest (c ∷ name) h = same_first (nat_eq b c) b c front rest name refl (another front rest name) h

pub free_front : (front rest : List ℕ) → is_free_front front ≡ true → is_reserved (front ++ rest) ≡ false
free_front [] rest h = absurd (cc)
free_front (first ∷ front) rest h =
    let parts = both_so (not (first == 95)) (not (list_any (begins_with (first ∷ front)) reserved)) h in
    none (first == 95) (list_any (bytes_eq (first ∷ front ++ rest)) reserved) (negated (first == 95) parts.0)
    (all_fail (begins_with (first ∷ front)) (bytes_eq (first ∷ front ++ rest)) (another (first ∷ front) rest) reserved (negated (list_any (begins_with (first ∷ front)) reserved) parts.1))

-- whether the second byte is a digit
abbrev second_digit : List ℕ → Bool
second_digit [] = false
second_digit (a ∷ []) = false
second_digit (a ∷ b ∷ rest) = nat_le 48 b && nat_le b 57

differs : (a b : Bool) → b ≡ false → (a && b) ≡ false
differs true b h = h
differs false b h = refl

no_digit : (letter digit : ℕ) (rest : List ℕ) → 48 ≤ digit → digit ≤ 57 → (name : List ℕ) → second_digit name ≡ false → bytes_eq (letter ∷ digit ∷ rest) name ≡ false
no_digit letter digit rest l g [] h = refl
no_digit letter digit rest l g (a ∷ []) h = differs (nat_eq letter a) false refl
no_digit letter digit rest l g (a ∷ b ∷ name) h =
    let apart : nat_eq digit b ≡ false = grind (arith, nat_tests) in
    differs (nat_eq letter a) (nat_eq digit b && bytes_eq rest name) (ap (λ t. t && bytes_eq rest name) apart)

pub free_numbered : (letter digit : ℕ) (rest : List ℕ) → (letter == 95) ≡ false → 48 ≤ digit → digit ≤ 57 → is_reserved (letter ∷ digit ∷ rest) ≡ false
free_numbered letter digit rest e l g =
    none (letter == 95) (list_any (bytes_eq (letter ∷ digit ∷ rest)) reserved) e
    (all_fail second_digit (bytes_eq (letter ∷ digit ∷ rest)) (no_digit letter digit rest l g) reserved refl)
