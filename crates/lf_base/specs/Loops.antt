-- Loops whose test stands inside their body, as C has `while (1) { t = test; if (!t) goto out; body } out: ;`
-- (ISO/IEC 9899:1999, 6.8.5), beside loops that test before each turn, and loops whose count is known.
use Rattle.std.specs.Prelude.{◌≡◌, ℕ, zero, suc, Bool, true, false, cond, Option, Some, None}
use Rattle.lf_base.specs.Acts.{Act, bind, give, cut, next_or}
use Rattle.lf_base.specs.Order.{Link}

-- the body behind its test: where that fails, the loop is left with this signal
abbrev pub checked : {S B : Type 0} → B → Act S (Option B) → Bool → Act S (Option B)
checked out body true = body
checked out body false = give (Some out)

abbrev pub with_test : {S B : Type 0} → B → Act S Bool → Act S (Option B) → Act S (Option B)
with_test out test body = bind test (checked out body)

-- the label behind a loop, at which the signals land that it takes
abbrev pub landing : {S B : Type 0} → (B → Bool) → Option B → Act S (Option B)
landing lands None = give None
landing lands (Some signal) = cond (lands signal) (give None) (give (Some signal))

-- how a body went on: with the next turn, or out of the loop
abbrev pub left_with : {B : Type 0} → Option B → Option (Option B)
left_with None = None
left_with (Some signal) = Some (Some signal)

-- One turn of a loop that tests first: the next follows (None), the test fails (Some None), or the body leaves the
-- loop (Some (Some signal)).
abbrev pub half : {S B : Type 0} → Act S (Option B) → Bool → Act S (Option (Option B))
half body true = bind body (λ o. give (left_with o))
half body false = give (Some None)

abbrev pub once : {S B : Type 0} → Act S Bool → Act S (Option B) → Act S (Option (Option B))
once test body = bind test (half body)

-- The loop with its test inside is second, and is always left with a signal: with `out` where the test fails.
abbrev pub OrOut : {S B S' B' : Type 0} → (S → S' → Type 0) → Link S B S' B' → B' → Link S (Option B) S' B'
OrOut Q L out None s signal' s' = (signal' ≡ out) × Q s s'
OrOut Q L out (Some signal) s signal' s' = L signal s signal' s'

abbrev pub Exited : {S B S' B' : Type 0} → (S → S' → Type 0) → Link S B S' B' → B' → Link S (Option B) S' (Option B')
Exited Q L out o s None s' = ⊥
Exited Q L out o s (Some signal') s' = OrOut Q L out o s signal' s'

-- the same where it is first
abbrev pub OrIn : {S B S' B' : Type 0} → (S → S' → Type 0) → Link S B S' B' → B → Link S B S' (Option B')
OrIn Q L out signal s None s' = (signal ≡ out) × Q s s'
OrIn Q L out signal s (Some signal') s' = L signal s signal' s'

abbrev pub Entered : {S B S' B' : Type 0} → (S → S' → Type 0) → Link S B S' B' → B → Link S (Option B) S' (Option B')
Entered Q L out None s o' s' = ⊥
Entered Q L out (Some signal) s o' s' = OrIn Q L out signal s o' s'

-- A loop whose count of turns is known before it, of which it makes at most n.
abbrev pub counted : {S B : Type 0} → ℕ → ℕ → Act S (Option B) → Act S (Option B)
counted zero n body = give None
counted (suc count) zero body = cut
counted (suc count) (suc n) body = bind body (next_or (counted count n body))
