-- A list read one after another: what is read so far, and then the rest.
use Rattle.std.proofs.Common.{◌≡◌, ℕ, List, [], ◌∷◌, ◌++◌, max, Option, Some, None, refl, ap, append_assoc, sym, arith}
use Rattle.ff_forms.specs.Answers.{on, Read, with_first}

abbrev pub behind : {A : Type 0} → List A → Option (List A) → Option (List A)
behind xs rest = on rest (λ ys. Some (xs ++ ys))

abbrev pub ahead : {A : Type 0} → List A → ℕ → Read (List A) → Read (List A)
ahead xs depth None = None
ahead xs depth (Some rest) = Some (xs ++ rest.0, max depth rest.1)

pub behind_none : {A : Type 0} (r : Option (List A)) → behind [] r ≡ r
behind_none None = refl
behind_none (Some rest) = refl

pub behind_more : {A : Type 0} (xs : List A) (x : A) (r : Option (List A)) → behind xs (on r (λ ys. Some (x ∷ ys))) ≡ behind (xs ++ x ∷ []) r
behind_more xs x None = refl
behind_more xs x (Some rest) = ap Some (sym (append_assoc xs (x ∷ []) rest))

pub ahead_none : {A : Type 0} (r : Read (List A)) → ahead [] 0 r ≡ r
ahead_none None = refl
ahead_none (Some rest) = grind arith

pair : {A : Type 0} (xs ys : List A) (m n : ℕ) → xs ≡ ys → m ≡ n → ◌≡◌ {A = Read (List A)} (Some (xs, m)) (Some (ys, n))
pair xs ys m n p q = cc

pub ahead_more : {A : Type 0} (xs : List A) (depth : ℕ) (x : A × ℕ) (r : Read (List A)) → ahead xs depth (with_first x r) ≡ ahead (xs ++ x.0 ∷ []) (max depth x.1) r
ahead_more xs depth x None = refl
ahead_more xs depth x (Some rest) = pair (xs ++ x.0 ∷ rest.0) ((xs ++ x.0 ∷ []) ++ rest.0) (max depth (max x.1 rest.1)) (max (max depth x.1) rest.1) (sym (append_assoc xs (x.0 ∷ []) rest.0)) (omega arith)

pub ruleset lists = (behind_none, behind_more, ahead_none, ahead_more)
