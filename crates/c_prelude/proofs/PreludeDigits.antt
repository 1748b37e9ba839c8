-- The cells of digits that are being stored, and the digits of a number from the last one on.
use Rattle.std.proofs.Common.{◌≡◌, ℕ, zero, suc, ◌+◌, ◌-◌, ◌/◌, ◌%◌, ◌<◌, ◌≤◌, Bool, true, false, List, [], ◌∷◌, ◌++◌, length, map, Option, Some, None, refl, sym, ap, ◌∙◌, arith, zero-add}
use Rattle.std.specs.Prelude.{nat_lt, nat_le, int_div, int_rem, replicate, ◌-ℤ◌}
use Rattle.std.specs.Int.{int_rem_euclid}
use Rattle.std.proofs.Math.IntN.{ℤ, pos, neg_ℤ}
use Rattle.std.specs.Ordering.{int_eq}
use Rattle.std.proofs.lemmas.Int.{ints}
use Rattle.std.proofs.lemmas.Bool.Decides.{nat_tests}
use Rattle.c_semantics.specs.CState.{nth, set_nth}
use Rattle.c_semantics.specs.CValues.{W64, fits}

-- cells that are set, and others behind them
abbrev pub filled : List ℕ → List (Option ℤ) → List (Option ℤ)
filled done tail = map (λ b. Some (pos b)) done ++ tail

-- a cell that is not set for each element
abbrev pub unset : List ℕ → List (Option ℤ) → List (Option ℤ)
unset [] tail = tail
unset (x ∷ xs) tail = None ∷ unset xs tail

pub unset_more : (xs : List ℕ) (x : ℕ) (tail : List (Option ℤ)) → unset (xs ++ x ∷ []) tail ≡ None ∷ unset xs tail
unset_more [] x tail = refl
unset_more (y ∷ xs) x tail = ap (λ l. None ∷ l) (unset_more xs x tail)

pub nth_filled : (done : List ℕ) (c : Option ℤ) (tail : List (Option ℤ)) → nth (length done) (filled done (c ∷ tail)) ≡ Some c
nth_filled [] c tail = refl
nth_filled (x ∷ done) c tail = nth_filled done c tail

pub set_filled : (done : List ℕ) (x : ℕ) (c : Option ℤ) (tail : List (Option ℤ)) → set_nth (length done) (Some (pos x)) (filled done (c ∷ tail)) ≡ filled (done ++ x ∷ []) tail
set_filled [] x c tail = refl
set_filled (y ∷ done) x c tail = ap (λ l. Some (pos y) ∷ l) (set_filled done x c tail)

pub filled_more : (done : List ℕ) (x : ℕ) (tail : List (Option ℤ)) → filled (done ++ x ∷ []) tail ≡ filled done (Some (pos x) ∷ tail)
filled_more [] x tail = refl
filled_more (y ∷ done) x tail = ap (λ l. Some (pos y) ∷ l) (filled_more done x tail)

length-filled : (done : List ℕ) (tail : List (Option ℤ)) → length (filled done tail) ≡ length done + length tail
length-filled [] tail = sym (zero-add (length tail))
length-filled (x ∷ done) tail = ap suc (length-filled done tail) ∙ omega arith

pub has_room : (done : List ℕ) (c : Option ℤ) (tail : List (Option ℤ)) → nat_lt (length done) (length (filled done (c ∷ tail))) ≡ true
has_room done c tail =
    let long : length (filled done (c ∷ tail)) ≡ length done + (length tail + 1) = length-filled done (c ∷ tail) ∙ omega arith in
    grind (arith, nat_tests)

-- an empty array has room for digits
pub unset_all : (xs : List ℕ) (n : ℕ) → length xs ≤ n → replicate n None ≡ unset xs (replicate (n - length xs) None)
unset_all [] n h = ap (λ k. replicate k None) (omega arith)
unset_all (x ∷ xs) zero h = absurd (omega arith)
unset_all (x ∷ xs) (suc n) h = ap (λ l. None ∷ l) (unset_all xs n (omega arith) ∙ ap (λ k. unset xs (replicate k None)) (omega arith))

-- a number by its size, and whether it is negative
abbrev pub signed : Bool → ℕ → ℤ
signed false m = pos m
signed true m = neg_ℤ (pos m)

pub signed_rem : (n : Bool) (m : ℕ) → int_rem (signed n m) (pos 10) ≡ signed n (m % 10)
signed_rem false m = refl
signed_rem true zero = refl
signed_rem true (suc m) = refl

pub signed_div : (n : Bool) (m : ℕ) → int_div (signed n m) (pos 10) ≡ signed n (m / 10)
signed_div false m = refl
signed_div true zero = refl
signed_div true (suc m) = refl

pub byte_held : (r : ℕ) → r < 10 → int_rem_euclid (pos (48 + r)) (pos 256) ≡ pos (48 + r)
byte_held r h = ap pos (omega arith)

-- a list from its end
abbrev pub back : List ℕ → List ℕ
back [] = []
back (x ∷ xs) = back xs ++ x ∷ []

pub back-more : (xs : List ℕ) (x : ℕ) → back (xs ++ x ∷ []) ≡ x ∷ back xs
back-more [] x = refl
back-more (y ∷ xs) x = ap (λ l. l ++ y ∷ []) (back-more xs x)

pub length-snoc : (xs : List ℕ) (x : ℕ) → length (xs ++ x ∷ []) ≡ length xs + 1
length-snoc [] x = refl
length-snoc (y ∷ xs) x = ap suc (length-snoc xs x) ∙ omega arith

pub length-back : (xs : List ℕ) → length (back xs) ≡ length xs
length-back [] = refl
length-back (x ∷ xs) = length-snoc (back xs) x ∙ omega (arith, length-back xs)

-- numbers that are smaller fit too
fits_neg_nat : (p : ℕ) → fits W64 (neg_ℤ (pos p)) ≡ nat_le p 9223372036854775808
fits_neg_nat zero = refl
fits_neg_nat (suc p) = grind (arith, ints, nat_tests)

pub fits_smaller : (n : Bool) (m k : ℕ) → k ≤ m → fits W64 (signed n m) ≡ true → fits W64 (signed n k) ≡ true
fits_smaller false m k le f = grind (arith, nat_tests)
fits_smaller true m k le f = let g : nat_le m 9223372036854775808 ≡ true = sym (fits_neg_nat m) ∙ f in fits_neg_nat k ∙ grind (arith, nat_tests)

pub signed_small : (n : Bool) (m : ℕ) → fits W64 (signed n m) ≡ true → m ≤ 9223372036854775808
signed_small false m f = grind (arith, nat_tests)
signed_small true m f = let g : nat_le m 9223372036854775808 ≡ true = sym (fits_neg_nat m) ∙ f in grind (arith, nat_tests)

-- a digit with its sign, and without
pub flipped : (r : ℕ) → pos 0 -ℤ signed true (suc r) ≡ pos (suc r)
flipped r = omega (arith, ints)

pub one_less : (k : ℕ) → pos (k + 1) -ℤ pos 1 ≡ pos k
one_less k = omega (arith, ints)

pub zero_only : (n : Bool) (m : ℕ) → 0 < m → int_eq (signed n m) (pos 0) ≡ false
zero_only false m h = grind (arith, ints)
zero_only true zero h = absurd (omega arith)
zero_only true (suc m) h = refl

pub zero_is : (n : Bool) → int_eq (signed n 0) (pos 0) ≡ true
zero_is false = refl
zero_is true = refl
