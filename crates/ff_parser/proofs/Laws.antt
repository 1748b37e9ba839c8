-- The first fault of a list of statements does not depend on what stands behind it.
use Rattle.std.proofs.Common.{◌≡◌, ℕ, List, [], ◌∷◌, ◌++◌, Ok, Err, refl, ap}
use Rattle.lf_base.specs.declared.rule.Rule.{Rule}
use Rattle.ff_forms.specs.declared.form.Formed.{Formed}
use Rattle.ff_parser.specs.declared.nest.Nest.{Nest}
use Rattle.ff_parser.specs.Files.{Judged, and_then, step, rest_of, reached}

same_fault : (a b : ℕ × Rule) (r : Judged Nest) → r ≡ Err a → r ≡ Err b → a ≡ b
same_fault a b r p q = cc

onward : (fs gs : List (Judged Formed)) (fault : ℕ × Rule) → ((next : Nest) → reached next fs ≡ Err fault → rest_of next (fs ++ gs) ≡ Err fault) → (r : Judged Nest) → and_then r (λ next. reached next fs) ≡ Err fault → and_then r (λ next. rest_of next (fs ++ gs)) ≡ Err fault
onward fs gs fault go (Err e) h = ap (λ told. Err told) (same_fault e fault (Err e) refl h)
onward fs gs fault go (Ok next) h = go next h

unfaulted : (n : Nest) (fault : ℕ × Rule) → Ok n ≡ Err fault → ⊥
unfaulted n fault h = cc

pub first_fault : (fs gs : List (Judged Formed)) (n : Nest) (fault : ℕ × Rule) → reached n fs ≡ Err fault → rest_of n (fs ++ gs) ≡ Err fault
first_fault [] gs n fault h = absurd (unfaulted n fault h)
first_fault (f ∷ fs) gs n fault h = onward fs gs fault (λ next k. first_fault fs gs next fault k) (and_then f (step n)) h
