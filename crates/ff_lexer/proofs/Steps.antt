-- One byte of a span after another.
use Rattle.std.proofs.Common.{◌≡◌, ℕ, zero, suc, ◌-◌, ◌<◌, Bool, true, false, List, [], ◌∷◌, refl, ap, ◌∙◌, arith}
use Rattle.std.specs.Prelude.{if◌then◌else◌, not}
use Rattle.ff_lexer.specs.declared.unbroken.Reading.{Reading}
use Rattle.ff_lexer.specs.declared.unbroken.Reading.TheVariants as reading
use Rattle.ff_lexer.specs.Bytes.{behind, is_continued}
use Rattle.ff_lexer.specs.Rest.{next_reading, is_told}
use Rattle.ff_lexer.specs.Spans.{unbroken}

told : (n : ℕ) (r : Reading) (b : ℕ) (bs : List ℕ) → is_told r b bs ≡ true → unbroken (suc n) r (b ∷ bs) ≡ b ∷ unbroken n (next_reading r b bs) bs
told n (reading.Body context) b bs h = by (is_continued context b bs) refl h
  where
    by : (t : Bool) → (is_continued context b bs) ≡ t → not t ≡ true → (if t then unbroken n (reading.Tail context) bs else b ∷ unbroken n (reading.Body (behind context b)) bs) ≡ b ∷ unbroken n (if t then reading.Tail context else reading.Body (behind context b)) bs
    by true e k = cc
    by false e k = refl
told n (reading.Tail context) b bs h = cc
told n (reading.Front context) b bs h = cc

passed : (n : ℕ) (r : Reading) (b : ℕ) (bs : List ℕ) → is_told r b bs ≡ false → unbroken (suc n) r (b ∷ bs) ≡ unbroken n (next_reading r b bs) bs
passed n (reading.Body context) b bs h = by (is_continued context b bs) refl h
  where
    by : (t : Bool) → (is_continued context b bs) ≡ t → not t ≡ false → (if t then unbroken n (reading.Tail context) bs else b ∷ unbroken n (reading.Body (behind context b)) bs) ≡ unbroken n (if t then reading.Tail context else reading.Body (behind context b)) bs
    by true e k = refl
    by false e k = cc
passed n (reading.Tail context) b bs h = refl
passed n (reading.Front context) b bs h = refl

pub told_left : (n : ℕ) (r : Reading) (b : ℕ) (bs : List ℕ) → 0 < n → is_told r b bs ≡ true → unbroken n r (b ∷ bs) ≡ b ∷ unbroken (n - 1) (next_reading r b bs) bs
told_left zero r b bs m h = absurd (omega (arith, m))
told_left (suc n) r b bs m h = told n r b bs h ∙ ap (λ k. b ∷ unbroken k (next_reading r b bs) bs) (omega arith)

pub passed_left : (n : ℕ) (r : Reading) (b : ℕ) (bs : List ℕ) → 0 < n → is_told r b bs ≡ false → unbroken n r (b ∷ bs) ≡ unbroken (n - 1) (next_reading r b bs) bs
passed_left zero r b bs m h = absurd (omega (arith, m))
passed_left (suc n) r b bs m h = passed n r b bs h ∙ ap (λ k. unbroken k (next_reading r b bs) bs) (omega arith)

-- nothing is left of no bytes
pub none_left : (n : ℕ) (r : Reading) → unbroken n r [] ≡ []
none_left zero r = refl
none_left (suc n) r = refl

pub ruleset steps = (told_left, passed_left, none_left)
