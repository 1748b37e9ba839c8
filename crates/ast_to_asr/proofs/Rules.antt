-- The least of several rules, in whatever order they are joined.
use Rattle.std.proofs.Common.{◌≡◌, ℕ, Bool, true, false, nat_lt, if◌then◌else◌, refl, sym, ap, ◌∙◌, arith}
use Rattle.std.proofs.lemmas.Bool.Decides.{nat_tests}
use Rattle.lf_base.specs.Rules.{number_of}
use Rattle.lf_base.specs.declared.rule.Rule.{Rule}
use Rattle.ast_to_asr.specs.Judged.{lesser}

chosen : (a b : Rule) (t : Bool) → nat_lt (number_of b) (number_of a) ≡ t → lesser a b ≡ (if t then b else a)
chosen a b t e = ap (λ u. if u then b else a) e

less : (p q r : ℕ) → nat_lt q p ≡ true → nat_lt r q ≡ true → nat_lt r p ≡ false → ⊥
less p q r e f g = grind (arith, nat_tests, e, f, g)

not_less : (p q r : ℕ) → nat_lt q p ≡ false → nat_lt r q ≡ false → nat_lt r p ≡ true → ⊥
not_less p q r e f g = grind (arith, nat_tests, e, f, g)

pub lesser_joins : (a b c : Rule) → lesser (lesser a b) c ≡ lesser a (lesser b c)
lesser_joins a b c = by (nat_lt (number_of b) (number_of a)) (nat_lt (number_of c) (number_of b)) (nat_lt (number_of c) (number_of a)) refl refl refl
  where
    by : (s t u : Bool) → nat_lt (number_of b) (number_of a) ≡ s → nat_lt (number_of c) (number_of b) ≡ t → nat_lt (number_of c) (number_of a) ≡ u → lesser (lesser a b) c ≡ lesser a (lesser b c)
    by true true true e f g = (ap (λ r. lesser r c) (chosen a b true e) ∙ chosen b c true f) ∙ sym (ap (lesser a) (chosen b c true f) ∙ chosen a c true g)
    by true true false e f g = absurd (less (number_of a) (number_of b) (number_of c) e f g)
    by true false u e f g = (ap (λ r. lesser r c) (chosen a b true e) ∙ chosen b c false f) ∙ sym (ap (lesser a) (chosen b c false f) ∙ chosen a b true e)
    by false true u e f g = ap (λ r. lesser r c) (chosen a b false e) ∙ sym (ap (lesser a) (chosen b c true f))
    by false false true e f g = absurd (not_less (number_of a) (number_of b) (number_of c) e f g)
    by false false false e f g = (ap (λ r. lesser r c) (chosen a b false e) ∙ chosen a c false g) ∙ sym (ap (lesser a) (chosen b c false f) ∙ chosen a b false e)
