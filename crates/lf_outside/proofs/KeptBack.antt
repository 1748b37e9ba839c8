-- What a stream tells, and what is kept back behind it.
use Rattle.std.proofs.Common.{◌≡◌, ℕ, List, [], ◌++◌, take, drop, Option, Some, None, refl, sym, ap, ◌∙◌, append_assoc, append-nil}
use Rattle.std.proofs.lemmas.List.{take-append-drop}
use Rattle.std.specs.Io.KnownBytes.{append_known}
use Rattle.lf_base.specs.Contents.{Appends, AppendsPart}
use Rattle.lf_outside.specs.Streams.{Stays}
use Rattle.lf_outside.proofs.Streams.{stay_same, stays_on}

-- a piece is kept back
pub kept_more : (a : Option (List ℕ)) (xs p : List ℕ) → Appends (append_known a xs) (append_known a (xs ++ p)) p
kept_more None xs p = record { bytes = λ held e. absurd (cc) }
kept_more (Some ys) xs p = record { bytes = λ held e. let is : ys ++ xs ≡ held = cc in ap Some (sym (append_assoc ys xs p) ∙ ap (λ t. t ++ p) is) }

-- a front of what is kept back is written
pub moved : (a b : Option (List ℕ)) (xs : List ℕ) (n : ℕ) → Appends a b (take n xs) → Stays (append_known a xs) (append_known b (drop n xs))
moved None b xs n h = record { bytes = λ left e. absurd (cc) }
moved (Some ys) b xs n h = record {
  bytes = λ left e.
      let is : ys ++ xs ≡ left = cc in
      ap (λ o. append_known o (drop n xs)) (h.bytes ys refl) ∙ ap Some (append_assoc ys (take n xs) (drop n xs) ∙ ap (λ t. ys ++ t) (take-append-drop n xs) ∙ is);
}

-- or none of it
pub not_moved : (a b : Option (List ℕ)) (xs : List ℕ) → Appends a b [] → Stays (append_known a xs) (append_known b xs)
not_moved None b xs h = record { bytes = λ left e. absurd (cc) }
not_moved (Some ys) b xs h = record { bytes = λ left e. ap (λ o. append_known o xs) (h.bytes ys refl ∙ ap Some (append-nil ys)) ∙ e }

-- behind nothing that is kept back
pub direct : (a b : Option (List ℕ)) (xs p : List ℕ) → xs ≡ [] → Appends a b p → Appends (append_known a xs) (append_known b xs) p
direct None b xs p none h = record { bytes = λ held e. absurd (cc) }
direct (Some ys) b xs p none h = record {
  bytes = λ held e.
      let is : ys ++ xs ≡ held = cc in
      let at : ys ≡ held = sym (append-nil ys) ∙ ap (λ t. ys ++ t) (sym none) ∙ is in
      ap (λ o. append_known o xs) (h.bytes ys refl) ∙ ap (λ t. Some ((ys ++ p) ++ t)) none ∙ ap Some (append-nil (ys ++ p) ∙ ap (λ t. t ++ p) at);
}

pub direct_part : (a b : Option (List ℕ)) (xs p : List ℕ) → xs ≡ [] → AppendsPart a b p → AppendsPart (append_known a xs) (append_known b xs) p
direct_part None b xs p none h = record { bytes = λ held e. absurd (cc) }
direct_part (Some ys) b xs p none h = record {
  bytes = λ held e.
      let is : ys ++ xs ≡ held = cc in
      let at : ys ≡ held = sym (append-nil ys) ∙ ap (λ t. ys ++ t) (sym none) ∙ is in
      let cut = h.bytes ys refl in
      (cut.0, cut.1, cut.2, ap (λ o. append_known o xs) cut.3 ∙ ap (λ t. Some ((ys ++ cut.0) ++ t)) none ∙ ap Some (append-nil (ys ++ cut.0) ∙ ap (λ t. t ++ cut.0) at));
}

pub stays_appends : (a b c : Option (List ℕ)) (p : List ℕ) → Stays a b → Appends b c p → Appends a c p
stays_appends a b c p h k = record { bytes = λ held e. k.bytes held (h.bytes held e) }

pub stays_part : (a b c : Option (List ℕ)) (p : List ℕ) → Stays a b → AppendsPart b c p → AppendsPart a c p
stays_part a b c p h k = record { bytes = λ held e. k.bytes held (h.bytes held e) }

pub nothing_more : (a b : Option (List ℕ)) (p : List ℕ) → Stays a b → AppendsPart a b p
nothing_more a b p h = record { bytes = λ held e. ([], p, refl, h.bytes held e ∙ ap Some (sym (append-nil held))) }

pub appends_stays : (a b c : Option (List ℕ)) (p : List ℕ) → Appends a b p → Stays b c → Appends a c p
appends_stays a b c p h k = record { bytes = λ held e. k.bytes (held ++ p) (h.bytes held e) }

pub appends_all : (a b c : Option (List ℕ)) (p : List ℕ) → Appends a b p → Stays b c → AppendsPart a c p
appends_all a b c p h k = record { bytes = λ held e. (p, [], sym (append-nil p), k.bytes (held ++ p) (h.bytes held e)) }

pub ruleset lines = (stay_same, stays_on, kept_more, moved, not_moved, direct, direct_part, stays_appends, stays_part, nothing_more, appends_stays, appends_all)
