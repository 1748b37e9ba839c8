-- The folder of a name, found from its end, and temporary names.
use Rattle.std.proofs.Common.{◌≡◌, ℕ, ◌+◌, ◌-◌, ◌≤◌, ◌<◌, true, false, ◌||◌, ◌==◌, if◌then◌else◌, List, [], ◌∷◌, ◌++◌, length, get_or, take, drop, zero, suc, refl, sym, ap, subst, ◌∙◌, arith, append_assoc, length-append, codes, ◌^◌, inl, inr}
use Rattle.std.proofs.lemmas.List.{take-append-drop, take_all}
use Rattle.std.proofs.lemmas.Str.{IsCharBoundary-after_ascii, IsCharBoundary-end}
use Rattle.std.proofs.lemmas.Bool.{cases_lt}
use Rattle.std.proofs.lemmas.Fmt.{length-decimal-le}
use Rattle.std.specs.Str.{IsUtf8, IsCharBoundary}
use Rattle.std.specs.Fmt.{decimal}
use Rattle.lf_outside.specs.Names.{slash, has_slash, folder_of, last_of, own_ending, is_own, IsFront, IsTemporary}
use Rattle.lf_base.specs.Contents.{joined}
use Rattle.std.specs.Cmp.Lexicographic.{pointwise}
use Rattle.std.proofs.Math.Seq.{drop-append_seam}

-- a name without a slash has no folder
pub no_folder : (bs : List ℕ) → has_slash bs ≡ false → folder_of bs ≡ []
no_folder [] h = refl
no_folder (b ∷ bs) h = ap (λ t. if t then b ∷ folder_of bs else []) h

at_slash : (b : ℕ) (bs : List ℕ) → b ≡ 47 → has_slash (b ∷ bs) ≡ true
at_slash b bs h = ap (λ t. (t == slash) || has_slash bs) h

behind : (b : ℕ) (bs : List ℕ) → has_slash bs ≡ true → has_slash (b ∷ bs) ≡ true
behind b bs h = elim (b == slash) as (λ t. (t || has_slash bs) ≡ true) [ true ↦ refl | false ↦ h ]

has_at : (bs : List ℕ) (i : ℕ) → i < length bs → get_or bs i 0 ≡ 47 → has_slash bs ≡ true
has_at [] i l h = absurd (omega (arith, l))
has_at (b ∷ bs) zero l h = at_slash b bs h
has_at (b ∷ bs) (suc i) l h = behind b bs (has_at bs i (omega (arith, l)) h)

into : (b : ℕ) (bs front : List ℕ) → has_slash (b ∷ bs) ≡ true → folder_of bs ≡ front → folder_of (b ∷ bs) ≡ b ∷ front
into b bs front h e = ap (λ t. if t then b ∷ folder_of bs else []) h ∙ ap (λ t. b ∷ t) e

-- the folder ends at the last slash
folder_at : (bs : List ℕ) (i : ℕ) → i < length bs → get_or bs i 0 ≡ 47 → has_slash (drop (suc i) bs) ≡ false → folder_of bs ≡ take (suc i) bs
folder_at [] i l h none = absurd (omega (arith, l))
folder_at (b ∷ bs) zero l h none = into b bs [] (at_slash b bs h) (no_folder bs none)
folder_at (b ∷ bs) (suc i) l h none = into b bs (take (suc i) bs) (behind b bs (has_at bs i (omega (arith, l)) h)) (folder_at bs i (omega (arith, l)) h none)

pub folder_found : (name bytes : List ℕ) (end : ℕ) → bytes ≡ name → 0 < end → end ≤ length bytes → get_or bytes (end - 1) 0 ≡ 47 → has_slash (drop end bytes) ≡ false → take end name ≡ folder_of name
folder_found name bytes zero is some le at none = absurd (omega (arith, some))
folder_found name bytes (suc i) is some le at none =
    let e : suc i - 1 ≡ i = omega arith in
    subst (λ n. take (suc i) n ≡ folder_of n) is (sym (folder_at bytes i (omega (arith, le)) (subst (λ k. get_or bytes k 0 ≡ 47) e at) none))

pub none_found : (name bytes : List ℕ) (end : ℕ) → bytes ≡ name → end ≤ 0 → has_slash (drop end bytes) ≡ false → [] ≡ folder_of name
none_found name bytes end is le none =
    let e : end ≡ 0 = omega (arith, le) in
    sym (no_folder name (subst (λ n. has_slash n ≡ false) is (subst (λ k. has_slash (drop k bytes) ≡ false) e none)))

-- a name may be cut behind a slash
pub after_slash : (name bytes : List ℕ) (end : ℕ) → IsUtf8 name → bytes ≡ name → 0 < end → end ≤ length bytes → get_or bytes (end - 1) 0 ≡ 47 → IsCharBoundary name end
after_slash name bytes end text is some le at =
    let e : end - 1 + 1 ≡ end = omega (arith, some) in
    let there : get_or name (end - 1) 0 ≡ 47 = subst (λ n. get_or n (end - 1) 0 ≡ 47) is at in
    subst (λ k. IsCharBoundary name k) e (IsCharBoundary-after_ascii name (end - 1) text (omega (arith, some, le, ap length is)) (omega (arith, there)))

-- a front that fits
pub front_is : (text front rest : List ℕ) (k : ℕ) → k ≤ 232 → IsCharBoundary text k → ((i : ℕ) → k < i → i ≤ 232 → IsCharBoundary text i → ⊥) → front ≡ take k text → rest ≡ drop k text → length front ≡ k → IsFront text front
front_is text front rest k bound at nearest is left long = record {
  rest = drop k text;
  cut = sym (ap (λ t. t ++ drop k text) is ∙ take-append-drop k text);
  short = omega (arith, bound, long);
  whole = λ fits. is ∙ elim (cases_lt k (length text)) [ inl l ↦ absurd (nearest (length text) l fits (IsCharBoundary-end text)) | inr l ↦ take_all k text l ];
}

-- the name that is written
pub temporary_is : (name folder last front text : List ℕ) (number : ℕ) → folder ≡ folder_of name → last ≡ last_of name → IsFront last front → number < 2 ^ 32 → text ≡ folder ++ (codes "." ++ (front ++ (codes ".lf-" ++ (decimal number ++ codes ".tmp")))) → IsTemporary name number text
unfolding joined
temporary_is name folder last front text number at behind cut small is = record {
  front = front;
  cut = subst (λ l. IsFront l front) behind cut;
  is = subst (λ f. text ≡ joined (f ∷ codes "." ∷ front ∷ codes ".lf-" ∷ decimal number ∷ own_ending ∷ [])) at is;
  fits = omega (arith, cut.short, ap length is, ap length at, length-decimal-le 10 number (omega arith) (omega (arith, small)) (omega (arith, small)), length-append folder (codes "." ++ (front ++ (codes ".lf-" ++ (decimal number ++ codes ".tmp")))), length-append front (codes ".lf-" ++ (decimal number ++ codes ".tmp")), length-append (decimal number) (codes ".tmp"));
}

-- it is one of the store's own
pub ends_own : (front : List ℕ) → is_own (front ++ codes ".tmp") ≡ true
ends_own front =
    let e : length (front ++ codes ".tmp") - 4 ≡ length front = omega (arith, length-append front (codes ".tmp")) in
    ap (λ t. pointwise (◌==◌) own_ending t) (ap (λ k. drop k (front ++ codes ".tmp")) e ∙ drop-append_seam front (codes ".tmp"))

pub own_is : (folder front digits text : List ℕ) → text ≡ folder ++ (codes "." ++ (front ++ (codes ".lf-" ++ (digits ++ codes ".tmp")))) → is_own text ≡ true
own_is folder front digits text is =
    let whole = append_assoc folder (codes "." ++ (front ++ (codes ".lf-" ++ digits))) (codes ".tmp") ∙ ap (λ t. folder ++ (codes "." ++ t)) (append_assoc front (codes ".lf-" ++ digits) (codes ".tmp")) in
    subst (λ t. is_own t ≡ true) (whole ∙ sym is) (ends_own (folder ++ (codes "." ++ (front ++ (codes ".lf-" ++ digits)))))
