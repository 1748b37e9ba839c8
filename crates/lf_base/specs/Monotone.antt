-- An act beside one with larger bounds: it goes at least as far.
use Rattle.std.specs.Prelude.{◌≡◌, Option}
use Rattle.lf_base.specs.Outcome.{Location, Written, Any}
use Rattle.lf_base.specs.Acts.{Act}
use Rattle.lf_base.specs.Order.{Below, Same}

-- locations are the same
abbrev pub SameLocation : Option Location → Option Location → Type 0
SameLocation p q = q ≡ p

-- from each state the second act ends as the first, or goes on as it does, or has written what it wrote
abbrev pub NoShorter : {S A : Type 0} → Act S A → Act S A → Type 0
NoShorter {S} act act' = (state : S) (sofar : Written) → Below Any SameLocation Same (act state sofar) (act' state sofar)
