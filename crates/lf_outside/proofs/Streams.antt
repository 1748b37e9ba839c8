-- What a stream does, in the words of sinks and sources.
use Rattle.std.proofs.Common.{◌≡◌, ℕ, ◌+◌, ◌≤◌, ◌<◌, List, [], ◌++◌, length, take, drop, Option, Some, None, IsSome, refl, sym, ap, subst, ◌∙◌, append_assoc, append-nil}
use Rattle.std.proofs.lemmas.List.{take-append-drop}
use Rattle.std.proofs.Math.Seq.{take-add, take-length}
use Rattle.std.specs.Io.KnownBytes as known
use Rattle.lf_base.specs.Contents.{Appends, AppendsPart, HandsOver}
use Rattle.lf_outside.specs.Streams.{Stays}

-- a write that was taken
pub told_appends : (old new : Option (List ℕ)) (bytes : List ℕ) → known.Appends old new bytes → Appends old new bytes
told_appends None new bytes h = record { bytes = λ held e. absurd (cc) }
told_appends (Some xs) None bytes h = absurd h
told_appends (Some xs) (Some ys) bytes h = record { bytes = λ held e. cc }

-- a write that was not
pub told_keeps : (old new : Option (List ℕ)) → known.Keeps old new → Appends old new []
told_keeps None new h = record { bytes = λ held e. absurd (cc) }
told_keeps (Some xs) None h = absurd h
told_keeps (Some xs) (Some ys) h = record { bytes = λ held e. let nil = append-nil held in cc }

-- nothing yet
pub none_yet : (a : Option (List ℕ)) (p : List ℕ) → Appends a a (take 0 p)
none_yet a p = record { bytes = λ held e. e ∙ ap Some (sym (append-nil held)) }

-- a front, and more of the rest
pub goes_on : (a b c : Option (List ℕ)) (i n : ℕ) (p : List ℕ) → Appends a b (take i p) → Appends b c (take n (drop i p)) → Appends a c (take (i + n) p)
goes_on a b c i n p h k = record { bytes = λ held e. k.bytes (held ++ take i p) (h.bytes held e) ∙ ap Some (append_assoc held (take i p) (take n (drop i p)) ∙ ap (λ t. held ++ t) (sym (take-add i n p))) }

-- all of it
pub whole : (a b : Option (List ℕ)) (i : ℕ) (p : List ℕ) → i ≡ length p → Appends a b (take i p) → Appends a b p
whole a b i p e h = subst (λ t. Appends a b t) (ap (λ k. take k p) e ∙ take-length p) h

-- or a front at the end
pub front : (a b : Option (List ℕ)) (i : ℕ) (p : List ℕ) → Appends a b (take i p) → AppendsPart a b p
front a b i p h = record { bytes = λ held e. (take i p, drop i p, sym (take-append-drop i p), h.bytes held e) }

pub cut_off : (a b c : Option (List ℕ)) (i : ℕ) (p : List ℕ) → Appends a b (take i p) → Appends b c [] → AppendsPart a c p
cut_off a b c i p h k = record { bytes = λ held e. (take i p, drop i p, sym (take-append-drop i p), k.bytes (held ++ take i p) (h.bytes held e) ∙ ap Some (append-nil (held ++ take i p))) }

pub ruleset streams = (told_appends, told_keeps, none_yet, goes_on, whole, front, cut_off)

-- a read that gave
gives : (old new : Option (List ℕ)) (buf : List ℕ) (n : ℕ) → (n ≤ length buf) × (n ≡ length (take n buf)) → known.Consumes old new (take n buf) → (n ≡ 0 → 0 < length buf → known.IsAtEnd new) → HandsOver old new buf n
gives None new buf n within h end = record { within = within.0; bytes = λ left e. absurd (cc); end = λ left e. absurd (cc) }
gives (Some xs) None buf n within h end = absurd h
gives (Some xs) (Some ys) buf n within h end = record {
  within = within.0;
  bytes = λ left e. let is : xs ≡ left = cc in (ys, sym is ∙ h, refl);
  end = λ left e none some. let is : xs ≡ left = cc in sym is ∙ h ∙ ap (λ k. take k buf ++ ys) none ∙ end none some;
}

pub gave : (old new : Option (List ℕ)) (buf : List ℕ) (n : ℕ) → (n ≤ length buf) × (n ≡ length (take n buf)) → known.Consumes old new (take n buf) × (n ≡ 0 → 0 < length buf → known.IsAtEnd new) → HandsOver old new buf n
gave old new buf n within h = gives old new buf n within h.0 h.1

-- a read that was refused
pub stayed : (old new : Option (List ℕ)) → known.Keeps old new → Stays old new
stayed None new h = record { bytes = λ left e. absurd (cc) }
stayed (Some xs) None h = absurd h
stayed (Some xs) (Some ys) h = record { bytes = λ left e. cc }

pub stay_same : (a : Option (List ℕ)) → Stays a a
stay_same a = record { bytes = λ left e. e }

pub stays_on : (a b c : Option (List ℕ)) → Stays a b → Stays b c → Stays a c
stays_on a b c h k = record { bytes = λ left e. k.bytes left (h.bytes left e) }

pub stays_hands : (a b c : Option (List ℕ)) (buf : List ℕ) (n : ℕ) → Stays a b → HandsOver b c buf n → HandsOver a c buf n
stays_hands a b c buf n h k = record { within = k.within; bytes = λ left e. k.bytes left (h.bytes left e); end = λ left e. k.end left (h.bytes left e) }

pub ruleset reads = (gave, stayed, stay_same, stays_on, stays_hands)

-- of a stream that tells all the time or never, the same is left
pub stays_same : (a b : Option (List ℕ)) → Stays a b → (IsSome b → IsSome a) → b ≡ a
stays_same None None h told = refl
stays_same None (Some y) h told = let no = told refl in absurd (cc)
stays_same (Some x) b h told = h.bytes x refl
