use Rattle.std.specs.Prelude.{◌≡◌}
use Rattle.lf_base.specs.Outcome.{Never}
use Rattle.lf_base.proofs.Nearby.{near_of_below}
use Rattle.lf_base.proofs.law.near_both_ways.Goals as goal

pub returns : goal.returns
returns g c = near_of_below Never (λ a s a' s'. a' ≡ a) (λ a s a' s'. a' ≡ a) (λ a s a' s' h. h) (λ a s a' s' h. h)
