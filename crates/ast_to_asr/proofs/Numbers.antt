-- Numbers of digits: what fits no 64 bits fits none with more digits.
use Rattle.std.proofs.Common.{◌≡◌, ℕ, pos, negsuc, int_le, ◌==◌, ◌&&◌, if◌then◌else◌, ◌+◌, ◌*◌, ◌-◌, ◌^◌, ◌<◌, ◌≤◌, true, false, length, drop, slice_index_or, List, [], ◌∷◌, Option, Some, None, refl, sym, subst, ◌∙◌, arith}
use Rattle.std.proofs.lemmas.Bool.Decides.{nat_tests}
use Rattle.std.proofs.lemmas.List.{at_drop_more}
use Rattle.fortran_semantics.specs.Constants.{number_from, number_of}
use Rattle.type_rules.specs.Values.{is_in_kind, greatest}
use Rattle.ast_to_asr.specs.Numbers.{in_64_bits}

pub grows : (n : ℕ) (digits : List ℕ) → n ≤ number_from n digits
grows n [] = omega arith
grows n (d ∷ ds) = let h : n * 10 + (d - 48) ≤ number_from (n * 10 + (d - 48)) ds = grows (n * 10 + (d - 48)) ds in omega (arith, h)

pub too_long : (n : ℕ) (digits : List ℕ) → None ≡ in_64_bits n → None ≡ in_64_bits (number_from n digits)
too_long n digits h = let g : n ≤ number_from n digits = grows n digits in grind (arith, nat_tests, h, g)

pub stopped : (digits : List ℕ) (i n : ℕ) (r : Option ℕ) → i < length digits → number_from n (drop i digits) ≡ number_of digits → r ≡ in_64_bits (n * 10 + (slice_index_or digits i 0 - 48)) → r ≡ None → None ≡ in_64_bits (number_of digits)
stopped digits i n r h e f g =
    subst (λ m. None ≡ in_64_bits m) (sym (at_drop_more (number_from n) digits i 0 h) ∙ e)
    (too_long (n * 10 + (slice_index_or digits i 0 - 48)) (drop (i + 1) digits) (sym g ∙ f))

pub fits : (n : ℕ) → n < 2 ^ 64 → Some n ≡ in_64_bits n
fits n h = grind (arith, nat_tests, h)

pub in_bounds : (n m : ℕ) → Some n ≡ in_64_bits m → n < 2 ^ 64
in_bounds n m h = grind (arith, nat_tests, h)

pub in_greatest : (kind n : ℕ) → is_in_kind kind (pos n) ≡ int_le (pos n) (greatest kind)
in_greatest kind n = elim (kind == 4) as (λ t. int_le (if t then negsuc 2147483647 else negsuc 9223372036854775807) (pos n) && int_le (pos n) (if t then pos 2147483647 else pos 9223372036854775807) ≡ int_le (pos n) (if t then pos 2147483647 else pos 9223372036854775807)) [ true ↦ refl | false ↦ refl ]

pub ruleset kinds = (in_greatest)
