-- Generic resolution finds the one specific that matches.
use Rattle.std.proofs.Common.{◌≡◌, ℕ, zero, suc, ◌+◌, ◌<◌, Bool, true, false, refl, sym, subst, arith, List, [], ◌∷◌, if◌then◌else◌, Option, Some, None, ◌⊎◌, inl, inr}
use Rattle.std.specs.Prelude.{slice_get}
use Rattle.type_rules.specs.Matching.{matches, match_from, ArePairwiseDistinguishable, IsTheSpecific, Resolves}
use Rattle.type_rules.specs.declared.ty.Ty.{Ty}
use Rattle.type_rules.proofs.Matches.{never_both}

-- What is found from a number on, and that none is there where nothing is found.
record Found (at : ℕ) (ss : List (List Ty)) (args : List Ty) (answer : ℕ) : Type 0 where
  place : ℕ
  counted : answer ≡ at + place
  specific : List Ty
  is : slice_get ss place ≡ Some specific
  matching : matches specific args ≡ true

abbrev FoundFrom : ℕ → List (List Ty) → List Ty → Option ℕ → Type 0
FoundFrom at ss args (Some answer) = Found at ss args answer
FoundFrom at ss args None = (j : ℕ) (t : List Ty) → slice_get ss j ≡ Some t → matches t args ≡ false

found_later : (at : ℕ) (s : List Ty) (ss : List (List Ty)) (args : List Ty) (o : Option ℕ) → matches s args ≡ false → FoundFrom (at + 1) ss args o → FoundFrom at (s ∷ ss) args o
found_later at s ss args None away h = none
  where
    none : (j : ℕ) (t : List Ty) → slice_get (s ∷ ss) j ≡ Some t → matches t args ≡ false
    none zero t e = let same : s ≡ t = cc in rw (← same) away
    none (suc j) t e = h j t e
found_later at s ss args (Some answer) away h = record {
  place = suc h.place;
  counted = let c = h.counted in omega arith;
  specific = h.specific;
  is = h.is;
  matching = h.matching;
}

found_from : (at : ℕ) (ss : List (List Ty)) (args : List Ty) → FoundFrom at ss args (match_from at ss args)
found_from at [] args = λ j t e. cc
found_from at (s ∷ ss) args = by (matches s args) refl (found_from (at + 1) ss args)
  where
    by : (t : Bool) → matches s args ≡ t → FoundFrom (at + 1) ss args (match_from (at + 1) ss args) → FoundFrom at (s ∷ ss) args (if t then Some at else match_from (at + 1) ss args)
    by true p later = record { place = 0; counted = omega arith; specific = s; is = refl; matching = p }
    by false p later = found_later at s ss args (match_from (at + 1) ss args) p later

compared : (i j : ℕ) → (i < j) ⊎ ((j < i) ⊎ (i ≡ j))
compared zero zero = inr (inr refl)
compared zero (suc j) = inl (omega arith)
compared (suc i) zero = inr (inl (omega arith))
compared (suc i) (suc j) = by (compared i j)
  where
    by : (i < j) ⊎ ((j < i) ⊎ (i ≡ j)) → (suc i < suc j) ⊎ ((suc j < suc i) ⊎ (suc i ≡ suc j))
    by (inl h) = inl (omega arith)
    by (inr (inl h)) = inr (inl (omega arith))
    by (inr (inr h)) = inr (inr (omega arith))

same_place : (ss : List (List Ty)) (args : List Ty) → ArePairwiseDistinguishable ss → (i j : ℕ) (s t : List Ty) → slice_get ss i ≡ Some s → matches s args ≡ true → slice_get ss j ≡ Some t → matches t args ≡ true → j ≡ i
same_place ss args apart i j s t e p f q = by (compared i j)
  where
    by : (i < j) ⊎ ((j < i) ⊎ (i ≡ j)) → j ≡ i
    by (inl h) = absurd (never_both s t args (apart i j s t h e f) p q)
    by (inr (inl h)) = absurd (never_both t s args (apart j i t s h f e) q p)
    by (inr (inr h)) = sym h

answered : (ss : List (List Ty)) (args : List Ty) (o : Option ℕ) → ArePairwiseDistinguishable ss → FoundFrom 0 ss args o → Resolves ss args o
answered ss args None apart h = h
answered ss args (Some answer) apart h =
    let c = h.counted in
    let same : h.place ≡ answer = omega arith in
    subst (λ k. IsTheSpecific ss args k) same (record {
      specific = h.specific;
      is = h.is;
      matching = h.matching;
      only = λ j t e q. same_place ss args apart h.place j h.specific t h.is h.matching e q;
    })

pub resolves : (ss : List (List Ty)) (args : List Ty) → ArePairwiseDistinguishable ss → Resolves ss args (match_from 0 ss args)
resolves ss args apart = answered ss args (match_from 0 ss args) apart (found_from 0 ss args)
