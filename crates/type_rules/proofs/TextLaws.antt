-- Texts in the terms of the standard: the first difference, what is left without blanks at the end, the least place.
use Rattle.std.proofs.Common.{◌≡◌, ◌≢◌, ℕ, zero, suc, ◌+◌, ◌≤◌, ◌<◌, Bool, true, false, refl, ◌∙◌, ap, arith, List, [], ◌∷◌, ◌++◌, length, replicate, ◌==◌, nat_eq, if◌then◌else◌, Option, Some, None}
use Rattle.std.specs.List.{starts_with}
use Rattle.type_rules.specs.Characters.{first_difference, DifferAt, before_trimmed, trimmed, IsTrimmed, place_from, StandsAt, IsPlace}

one_more : (x : ℕ) (xs ys : List ℕ) (o : Option (ℕ × ℕ)) → DifferAt xs ys o → DifferAt (x ∷ xs) (x ∷ ys) o
one_more x xs ys None h = ap (λ zs. x ∷ zs) h
one_more x xs ys (Some (a, b)) h = record {
  front = x ∷ h.front;
  rest = h.rest;
  other_rest = h.other_rest;
  is = ap (λ zs. x ∷ zs) h.is;
  other_is = ap (λ zs. x ∷ zs) h.other_is;
  apart = h.apart;
}

pub differ_at : (xs ys : List ℕ) → length xs ≡ length ys → DifferAt xs ys (first_difference xs ys)
differ_at [] [] e = refl
differ_at [] (y ∷ ys) e = absurd (omega arith)
differ_at (x ∷ xs) [] e = absurd (omega arith)
differ_at (x ∷ xs) (y ∷ ys) e = by (x == y) refl (differ_at xs ys (omega arith))
  where
    by : (t : Bool) → (x == y) ≡ t → DifferAt xs ys (first_difference xs ys) → DifferAt (x ∷ xs) (y ∷ ys) (if t then first_difference xs ys else Some (x, y))
    by true p h = let e : x ≡ y = grind arith in rw (← e) (one_more x xs ys (first_difference xs ys) h)
    by false p h = record { front = []; rest = xs; other_rest = ys; is = refl; other_is = refl; apart = λ f. absurd (grind arith) }

no_end : (front : List ℕ) → [] ≢ front ++ 32 ∷ []
no_end [] e = cc
no_end (f ∷ fs) e = cc

one_end : (b : ℕ) → b ≢ 32 → (front : List ℕ) → b ∷ [] ≢ front ++ 32 ∷ []
one_end b h [] e = h cc
one_end b h (f ∷ fs) e = no_end fs cc

more_end : (b c : ℕ) (cs : List ℕ) → ((front : List ℕ) → c ∷ cs ≢ front ++ 32 ∷ []) → (front : List ℕ) → b ∷ c ∷ cs ≢ front ++ 32 ∷ []
more_end b c cs h [] e = cc
more_end b c cs h (f ∷ fs) e = h fs cc

before : (b : ℕ) (bs left : List ℕ) → IsTrimmed bs left → IsTrimmed (b ∷ bs) (before_trimmed b left)
before b bs [] h = by (b == 32) refl
  where
    by : (t : Bool) → (b == 32) ≡ t → IsTrimmed (b ∷ bs) (if t then [] else b ∷ [])
    by true p =
        let e : b ≡ 32 = grind arith in
        record { blanks = suc h.blanks; is = ap (λ zs. b ∷ zs) h.is ∙ ap (λ x. x ∷ replicate h.blanks 32) e; no_blank = no_end }
    by false p = record { blanks = h.blanks; is = ap (λ zs. b ∷ zs) h.is; no_blank = one_end b (λ e. absurd (grind arith)) }
before b bs (c ∷ cs) h = record { blanks = h.blanks; is = ap (λ zs. b ∷ zs) h.is; no_blank = more_end b c cs h.no_blank }

pub is_trimmed : (text : List ℕ) → IsTrimmed text (trimmed text)
is_trimmed [] = record { blanks = 0; is = refl; no_blank = no_end }
is_trimmed (b ∷ bs) = before b bs (trimmed bs) (is_trimmed bs)

-- The least place in what is left of the text, where places are counted from a number above 0.
record PlaceFrom (at : ℕ) (part text : List ℕ) (place : ℕ) : Type 0 where
  stands : (k : ℕ) → place ≡ at + k → StandsAt part text k
  least : (k : ℕ) → at + k < place → ¬ StandsAt part text k
  none : place ≡ 0 → (k : ℕ) → k ≤ length text → ¬ StandsAt part text k
  low : place ≢ 0 → at ≤ place

here : (at : ℕ) (part text : List ℕ) → 0 < at → StandsAt part text 0 → PlaceFrom at part text at
here at part text h s = record {
  stands = λ k e. let z : 0 ≡ k = omega arith in rw (← z) s;
  least = λ k l. absurd (omega arith);
  none = λ e. absurd (omega arith);
  low = λ e. omega arith;
}

further : (at : ℕ) (part : List ℕ) (c : ℕ) (cs : List ℕ) (place : ℕ) → 0 < at → ¬ StandsAt part (c ∷ cs) 0 → PlaceFrom (at + 1) part cs place → PlaceFrom at part (c ∷ cs) place
further at part c cs place some away h = record {
  stands = stands;
  least = least;
  none = none;
  low = λ e. let l = h.low e in omega arith;
}
  where
    stands : (k : ℕ) → place ≡ at + k → StandsAt part (c ∷ cs) k
    stands zero e =
        let n : place ≢ 0 = λ z. absurd (omega arith) in
        let l = h.low n in
        absurd (omega arith)
    stands (suc k) e = h.stands k (omega arith)

    least : (k : ℕ) → at + k < place → ¬ StandsAt part (c ∷ cs) k
    least zero l = away
    least (suc k) l = h.least k (omega arith)

    none : place ≡ 0 → (k : ℕ) → k ≤ length (c ∷ cs) → ¬ StandsAt part (c ∷ cs) k
    none e zero l = away
    none e (suc k) l = h.none e k (omega arith)

at_end : (at : ℕ) (part : List ℕ) → 0 < at → PlaceFrom at part [] (place_from at part [])
at_end at [] h = here at [] [] h refl
at_end at (p ∷ ps) h = by (suc (length ps) == 0) refl
  where
    never : (k : ℕ) → k ≤ 0 → ¬ StandsAt (p ∷ ps) [] k
    never zero l e = cc
    never (suc k) l e = absurd (omega arith)

    by : (t : Bool) → (suc (length ps) == 0) ≡ t → PlaceFrom at (p ∷ ps) [] (if t then at else 0)
    by true e = absurd (grind arith)
    by false e = record {
      stands = λ k f. absurd (omega arith);
      least = λ k l. absurd (omega arith);
      none = λ f. never;
      low = λ f. absurd (f refl);
    }

place_in : (at : ℕ) (part text : List ℕ) → 0 < at → PlaceFrom at part text (place_from at part text)
place_in at part [] h = at_end at part h
place_in at part (c ∷ cs) h = by (starts_with nat_eq (c ∷ cs) part) refl (place_in (at + 1) part cs (omega arith))
  where
    by : (t : Bool) → starts_with nat_eq (c ∷ cs) part ≡ t → PlaceFrom (at + 1) part cs (place_from (at + 1) part cs) → PlaceFrom at part (c ∷ cs) (if t then at else place_from (at + 1) part cs)
    by true p later = here at part (c ∷ cs) h p
    by false p later = further at part c cs _ h (λ s. cc) later

pub is_place : (part text : List ℕ) → IsPlace part text (place_from 1 part text)
is_place part text =
    let h = place_in 1 part text (omega arith) in
    record {
      stands = λ k e. h.stands k (omega arith);
      least = λ k l. h.least k (omega arith);
      none = h.none;
    }
