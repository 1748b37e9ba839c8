-- The first line of a source, and those behind it.
use Rattle.std.proofs.Common.{◌≡◌, ℕ, suc, ◌+◌, ◌<◌, Bool, true, false, List, [], ◌∷◌, length, drop, refl, sym, ap, ◌∙◌, subst, arith}
use Rattle.std.specs.Prelude.{if◌then◌else◌, ◌==◌, ◌||◌}
use Rattle.std.proofs.lemmas.Bool.Decides.{nat_tests}
use Rattle.ff_lexer.specs.Bytes.{is_dropped}
use Rattle.ff_lexer.specs.Lines.{begun_at, onto, lines_from}
use Rattle.ff_lexer.specs.Reads.{first_line, ending, line_size}

moved : (a b : ℕ) (bs : List ℕ) → a ≡ b → lines_from a bs ≡ lines_from b bs
moved a b bs e = ap (λ n. lines_from n bs) e

-- a carriage return in front of a newline
dropped : (at b : ℕ) (bs : List ℕ) → is_dropped b bs ≡ true → begun_at at (lines_from (at + 1) bs) ≡ (at, []) ∷ lines_from (at + ending (b ∷ bs)) (drop (ending (b ∷ bs)) (b ∷ bs))
dropped at b [] h = absurd (grind (arith, nat_tests, h))
dropped at b (c ∷ bs) h = newline (c == 10) refl
  where
    newline : (t : Bool) → (c == 10) ≡ t → begun_at at (if t then (at + 1, []) ∷ lines_from (at + 1 + 1) bs else if is_dropped c bs then begun_at (at + 1) (lines_from (at + 1 + 1) bs) else onto (at + 1) c (lines_from (at + 1 + 1) bs)) ≡ (at, []) ∷ lines_from (at + ending (b ∷ c ∷ bs)) (drop (ending (b ∷ c ∷ bs)) (b ∷ c ∷ bs))
    newline true e =
        let k : (b == 13) ≡ true = grind (arith, nat_tests, h) in
        subst (λ n. (at, []) ∷ lines_from (at + 1 + 1) bs ≡ (at, []) ∷ lines_from (at + n) (drop n (b ∷ c ∷ bs))) (sym (ap (λ t. if t then 2 else 1) k)) (ap (λ ls. (at, []) ∷ ls) (moved (at + 1 + 1) (at + 2) bs (omega arith)))
    newline false e = absurd (grind (arith, nat_tests, h, e))

lone : (at b : ℕ) (bs : List ℕ) → (b == 10) ≡ true → (at, []) ∷ lines_from (at + 1) bs ≡ (at, []) ∷ lines_from (at + ending (b ∷ bs)) (drop (ending (b ∷ bs)) (b ∷ bs))
lone at b [] h = refl
lone at b (c ∷ bs) h =
    let k : (b == 13) ≡ false = grind (arith, nat_tests, h) in
    subst (λ n. (at, []) ∷ lines_from (at + 1) (c ∷ bs) ≡ (at, []) ∷ lines_from (at + n) (drop n (b ∷ c ∷ bs))) (sym (ap (λ t. if t then 2 else 1) k)) refl

longer : (b : ℕ) (bs : List ℕ) → length (b ∷ first_line bs) + ending (drop (length (b ∷ first_line bs)) (b ∷ bs)) ≡ suc (line_size bs)
longer b bs = subst (λ n. n + ending (drop n (b ∷ bs)) ≡ suc (line_size bs)) (sym counted) (omega arith)
  where
    counted : length (b ∷ first_line bs) ≡ suc (length (first_line bs))
    counted = omega arith

abbrev Splits : ℕ → List ℕ → Type 0
Splits at bs = lines_from at bs ≡ (at, first_line bs) ∷ lines_from (at + line_size bs) (drop (line_size bs) bs)

one_more : (at b : ℕ) (bs : List ℕ) → (0 < length bs → Splits (at + 1) bs) → onto at b (lines_from (at + 1) bs) ≡ (at, b ∷ first_line bs) ∷ lines_from (at + suc (line_size bs)) (drop (suc (line_size bs)) (b ∷ bs))
one_more at b [] h = refl
one_more at b (c ∷ bs) h =
    ap (onto at b) (h (omega arith))
    ∙ ap (λ ls. (at, b ∷ first_line (c ∷ bs)) ∷ ls) (moved (at + 1 + line_size (c ∷ bs)) (at + suc (line_size (c ∷ bs))) (drop (line_size (c ∷ bs)) (c ∷ bs)) (omega arith))

split_at : (at b : ℕ) (bs : List ℕ) → (0 < length bs → Splits (at + 1) bs) → Splits at (b ∷ bs)
split_at at b bs h = by (b == 10) refl (is_dropped b bs) refl
  where
    line : Bool → Bool → List ℕ
    line t u = if t || u then [] else b ∷ first_line bs

    sized : Bool → Bool → ℕ
    sized t u = length (line t u) + ending (drop (length (line t u)) (b ∷ bs))

    by : (t : Bool) → (b == 10) ≡ t → (u : Bool) → is_dropped b bs ≡ u → (if t then (at, []) ∷ lines_from (at + 1) bs else if u then begun_at at (lines_from (at + 1) bs) else onto at b (lines_from (at + 1) bs)) ≡ (at, line t u) ∷ lines_from (at + sized t u) (drop (sized t u) (b ∷ bs))
    by true e u f = subst (λ n. (at, []) ∷ lines_from (at + 1) bs ≡ (at, []) ∷ lines_from (at + n) (drop n (b ∷ bs))) (omega arith) (lone at b bs e)
    by false e true f = subst (λ n. begun_at at (lines_from (at + 1) bs) ≡ (at, []) ∷ lines_from (at + n) (drop n (b ∷ bs))) (omega arith) (dropped at b bs f)
    by false e false f = subst (λ n. onto at b (lines_from (at + 1) bs) ≡ (at, b ∷ first_line bs) ∷ lines_from (at + n) (drop n (b ∷ bs))) (sym (longer b bs)) (one_more at b bs h)

pub lines_split : (bs : List ℕ) (at : ℕ) → 0 < length bs → Splits at bs
lines_split [] at m = absurd (omega (arith, m))
lines_split (b ∷ bs) at m = split_at at b bs (lines_split bs (at + 1))

pub lines_cut : (at size : ℕ) (line bs behind : List ℕ) → line ≡ first_line bs → size ≡ line_size bs → behind ≡ drop (line_size bs) bs → 0 < length bs → lines_from at bs ≡ (at, line) ∷ lines_from (at + size) behind
lines_cut at size line bs behind e h k m =
    lines_split bs at m
    ∙ ap (λ l. (at, l) ∷ lines_from (at + line_size bs) (drop (line_size bs) bs)) (sym e)
    ∙ ap (λ n. (at, line) ∷ lines_from (at + n) (drop (line_size bs) bs)) (sym h)
    ∙ ap (λ l. (at, line) ∷ lines_from (at + size) l) (sym k)

has_ending : (b : ℕ) (bs : List ℕ) → 0 < ending (b ∷ bs)
has_ending b [] = omega arith
has_ending b (c ∷ bs) = elim (b == 13) as (λ t. 0 < (if t then 2 else 1)) [ true ↦ omega arith | false ↦ omega arith ]

-- a line with what ends it has a byte
pub has_size : (bs : List ℕ) → 0 < length bs → 0 < line_size bs
has_size [] m = absurd (omega (arith, m))
has_size (b ∷ bs) m = by (b == 10 || is_dropped b bs)
  where
    line : Bool → List ℕ
    line t = if t then [] else b ∷ first_line bs

    by : (t : Bool) → 0 < length (line t) + ending (drop (length (line t)) (b ∷ bs))
    by true = omega (arith, has_ending b bs)
    by false = omega arith
