-- Texts: padding, the first difference, what is left without blanks at the end, and the place of a part.
use Rattle.std.proofs.Common.{◌≡◌, ℕ, zero, suc, ◌+◌, ◌-◌, ◌≤◌, ◌<◌, Bool, true, false, refl, sym, ◌∙◌, ap, arith, List, [], ◌∷◌, ◌++◌, length, get_or, take, drop, replicate, ◌==◌, nat_eq, if◌then◌else◌, Some, add-one, length-append}
use Rattle.std.proofs.lemmas.List.{get_or_append_left, get_or-append_right, get_or-replicate, length-replicate, get_or_past, get_or_default}
use Rattle.std.proofs.Math.Seq.{drop-cons, take-suc}
use Rattle.std.specs.List.{starts_with}
use Rattle.std.proofs.Common.{◌⊎◌, inl, inr, length-take}
use Rattle.type_rules.specs.Characters.{padded, first_difference, before_trimmed, trimmed, place_from}

below_or_not : (m n : ℕ) → (m < n) ⊎ (n ≤ m)
below_or_not m zero = inr (omega arith)
below_or_not zero (suc n) = inl (omega arith)
below_or_not (suc m) (suc n) = by (below_or_not m n)
  where
    by : (m < n) ⊎ (n ≤ m) → (suc m < suc n) ⊎ (suc n ≤ suc m)
    by (inl h) = inl (omega arith)
    by (inr h) = inr (omega arith)

length-padded : (n : ℕ) (text : List ℕ) → length text ≤ n → length (padded n text) ≡ n
length-padded n text h = simp (length-append, length-replicate) (omega arith)

get_or-padded : (n : ℕ) (text : List ℕ) (i : ℕ) → length text ≤ n → i < n → get_or (padded n text) i 32 ≡ get_or text i 32
get_or-padded n text i h below = by (below_or_not i (length text))
  where
    inside : i < length text → get_or (padded n text) i 32 ≡ get_or text i 32
    inside l = get_or_append_left text (replicate (n - length text) 32) 32 i l

    behind : length text ≤ i → get_or (padded n text) i 32 ≡ get_or text i 32
    behind l =
        get_or-append_right text (replicate (n - length text) 32) (length text) i 32 refl l ∙
        get_or-replicate (n - length text) (i - length text) 32 32 (omega arith) ∙
        sym (get_or_past text i 32 l)

    by : (i < length text) ⊎ (length text ≤ i) → get_or (padded n text) i 32 ≡ get_or text i 32
    by (inl l) = inside l
    by (inr l) = behind l

pub padded_at : (n : ℕ) (text : List ℕ) (i : ℕ) → length text ≤ n → i < n → drop i (padded n text) ≡ get_or text i 32 ∷ drop (i + 1) (padded n text)
padded_at n text i h below =
    let long = length-padded n text h in
    let e = drop-cons (padded n text) i 32 (omega arith) in
    let g = get_or-padded n text i h below in
    rw (add-one, e, g) refl

pub difference_found : (xs ys xs' ys' : List ℕ) (x y : ℕ) → xs ≡ x ∷ xs' → ys ≡ y ∷ ys' → (x ≡ y → ⊥) → Some (x, y) ≡ first_difference xs ys
difference_found xs ys xs' ys' x y e f h = rw (e, f) (by (x == y) refl)
  where
    by : (t : Bool) → (x == y) ≡ t → Some (x, y) ≡ (if t then first_difference xs' ys' else Some (x, y))
    by true p = absurd (h (grind arith))
    by false p = refl

pub difference_later : (xs ys xs' ys' : List ℕ) (x y : ℕ) → xs ≡ x ∷ xs' → ys ≡ y ∷ ys' → x ≡ y → first_difference xs ys ≡ first_difference xs' ys'
difference_later xs ys xs' ys' x y e f h = rw (e, f) (by (x == y) refl)
  where
    by : (t : Bool) → (x == y) ≡ t → (if t then first_difference xs' ys' else Some (x, y)) ≡ first_difference xs' ys'
    by true p = refl
    by false p = absurd (grind arith)

pub trimmed_blank : (xs : List ℕ) → trimmed (xs ++ 32 ∷ []) ≡ trimmed xs
trimmed_blank [] = refl
trimmed_blank (x ∷ xs) = ap (before_trimmed x) (trimmed_blank xs)

pub trimmed_kept : (xs : List ℕ) (b : ℕ) → (b ≡ 32 → ⊥) → trimmed (xs ++ b ∷ []) ≡ xs ++ b ∷ []
trimmed_kept [] b h = by (b == 32) refl
  where
    by : (t : Bool) → (b == 32) ≡ t → (if t then [] else b ∷ []) ≡ b ∷ []
    by true p = absurd (h (grind arith))
    by false p = refl
trimmed_kept (x ∷ xs) b h = ap (before_trimmed x) (trimmed_kept xs b h) ∙ by xs
  where
    by : (ys : List ℕ) → before_trimmed x (ys ++ b ∷ []) ≡ x ∷ (ys ++ b ∷ [])
    by [] = refl
    by (y ∷ ys) = refl

-- One more byte.
pub blank_more : (t : List ℕ) (i : ℕ) → i < length t → get_or t i 0 ≡ 32 → length (trimmed (take (i + 1) t)) ≡ length (trimmed (take i t))
blank_more t i h e =
    let f : take (i + 1) t ≡ take i t ++ 32 ∷ [] = rw add-one (take-suc t i 0 h ∙ ap (λ b. take i t ++ b ∷ []) e) in
    rw (f, trimmed_blank (take i t)) refl

pub byte_more : (t : List ℕ) (i : ℕ) → i < length t → (get_or t i 0 ≡ 32 → ⊥) → length (trimmed (take (i + 1) t)) ≡ i + 1
byte_more t i h e =
    let f : take (i + 1) t ≡ take i t ++ get_or t i 0 ∷ [] = rw add-one (take-suc t i 0 h) in
    rw (f, trimmed_kept (take i t) (get_or t i 0) e) (simp (length-append, length-take) (omega arith))

pub kept_blank : (t : List ℕ) (i k x : ℕ) → i < length t → x ≡ get_or t i x → x ≡ 32 → k ≡ length (trimmed (take i t)) → k ≡ length (trimmed (take (i + 1) t))
kept_blank t i k x h e b same = same ∙ sym (blank_more t i h (get_or_default t i 0 x h ∙ sym e ∙ b))

pub kept_byte : (t : List ℕ) (i x : ℕ) → i < length t → x ≡ get_or t i x → (x ≡ 32 → ⊥) → i + 1 ≡ length (trimmed (take (i + 1) t))
kept_byte t i x h e b = sym (byte_more t i h (λ f. b (e ∙ get_or_default t i x 0 h ∙ f)))

pub trimmed_front : (t : List ℕ) → take (length (trimmed t)) t ≡ trimmed t
trimmed_front [] = refl
trimmed_front (b ∷ bs) = by (trimmed bs) (trimmed_front bs)
  where
    at_end : (u : Bool) → take (length (if u then [] else b ∷ [])) (b ∷ bs) ≡ (if u then [] else b ∷ [])
    at_end true = refl
    at_end false = refl

    by : (cs : List ℕ) → take (length cs) bs ≡ cs → take (length (before_trimmed b cs)) (b ∷ bs) ≡ before_trimmed b cs
    by [] e = at_end (b == 32)
    by (c ∷ cs) e = ap (λ xs. b ∷ xs) e

pub trimmed_short : (t : List ℕ) → length (trimmed t) ≤ length t
trimmed_short [] = omega arith
trimmed_short (b ∷ bs) = by (trimmed bs) (trimmed_short bs)
  where
    at_end : (u : Bool) → length (if u then [] else b ∷ []) ≤ suc (length bs)
    at_end true = omega arith
    at_end false = omega arith

    by : (cs : List ℕ) → length cs ≤ length bs → length (before_trimmed b cs) ≤ suc (length bs)
    by [] e = at_end (b == 32)
    by (c ∷ cs) e = omega arith

pub place_of_empty : (part text : List ℕ) → length part ≡ 0 → 1 ≡ place_from 1 part text
place_of_empty [] [] e = refl
place_of_empty [] (c ∷ cs) e = refl
place_of_empty (b ∷ bs) text e = absurd (omega arith)

pub place_later : (k : ℕ) (part xs ys : List ℕ) (x : ℕ) → xs ≡ x ∷ ys → starts_with nat_eq xs part ≡ false → place_from k part xs ≡ place_from (k + 1) part ys
place_later k part xs ys x e f =
    let g : starts_with nat_eq (x ∷ ys) part ≡ false = rw e at f in
    rw e (ap (λ t. if t then k else place_from (k + 1) part ys) g)

pub place_step : (part text : List ℕ) (i : ℕ) → i < length text → starts_with nat_eq (drop i text) part ≡ false → place_from (i + 1 + 1) part (drop (i + 1) text) ≡ place_from (i + 1) part (drop i text)
place_step part text i h f =
    let e = drop-cons text i 0 h in
    rw (add-one i) (sym (place_later (suc i) part (drop i text) (drop (suc i) text) (get_or text i 0) e f))

-- One more byte of two padded texts.
pub differs_at : (n : ℕ) (a b : List ℕ) (i x y : ℕ) → length a ≤ n → length b ≤ n → i < n → x ≡ get_or a i 32 → y ≡ get_or b i 32 → (x ≡ y → ⊥) → Some (x, y) ≡ first_difference (drop i (padded n a)) (drop i (padded n b))
differs_at n a b i x y h k below e f apart =
    difference_found (drop i (padded n a)) (drop i (padded n b)) (drop (i + 1) (padded n a)) (drop (i + 1) (padded n b)) x y (padded_at n a i h below ∙ ap (λ z. z ∷ drop (i + 1) (padded n a)) (sym e)) (padded_at n b i k below ∙ ap (λ z. z ∷ drop (i + 1) (padded n b)) (sym f)) apart

pub same_at : (n : ℕ) (a b : List ℕ) (i x y : ℕ) → length a ≤ n → length b ≤ n → i < n → x ≡ get_or a i 32 → y ≡ get_or b i 32 → x ≡ y → first_difference (drop i (padded n a)) (drop i (padded n b)) ≡ first_difference (drop (i + 1) (padded n a)) (drop (i + 1) (padded n b))
same_at n a b i x y h k below e f same =
    difference_later (drop i (padded n a)) (drop i (padded n b)) (drop (i + 1) (padded n a)) (drop (i + 1) (padded n b)) x y (padded_at n a i h below ∙ ap (λ z. z ∷ drop (i + 1) (padded n a)) (sym e)) (padded_at n b i k below ∙ ap (λ z. z ∷ drop (i + 1) (padded n b)) (sym f)) same
