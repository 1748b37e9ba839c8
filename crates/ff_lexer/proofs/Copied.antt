-- A span with no `&` in it is told as it stands in the source.
use Rattle.std.proofs.Common.{◌≡◌, ℕ, zero, suc, Bool, true, false, List, [], ◌∷◌, take, refl, ap}
use Rattle.std.specs.Prelude.{if◌then◌else◌, ◌==◌, ◌&&◌, ◌||◌}
use Rattle.std.specs.List.{list_any}
use Rattle.ff_lexer.specs.declared.bytes.Context.{Context}
use Rattle.ff_lexer.specs.declared.unbroken.Reading.TheVariants as reading
use Rattle.ff_lexer.specs.Bytes.{behind, ends}
use Rattle.ff_lexer.specs.Spans.{unbroken}

pub unbroken_whole : (n : ℕ) (context : Context) (bs : List ℕ) → list_any (λ b. b == 38) (take n bs) ≡ false → unbroken n (reading.Body context) bs ≡ take n bs
unbroken_whole zero context bs h = refl
unbroken_whole (suc n) context [] h = refl
unbroken_whole (suc n) context (b ∷ bs) h = by (b == 38) (unbroken_whole n (behind context b) bs) h
  where
    rest : List ℕ
    rest = unbroken n (reading.Body (behind context b)) bs

    none : Bool
    none = list_any (λ c. c == 38) (take n bs)

    by : (t : Bool) → (none ≡ false → rest ≡ take n bs) → (t || none) ≡ false → (if t && ends context bs then unbroken n (reading.Tail context) bs else b ∷ rest) ≡ b ∷ take n bs
    by true same k = cc
    by false same k = ap (λ l. b ∷ l) (same k)
