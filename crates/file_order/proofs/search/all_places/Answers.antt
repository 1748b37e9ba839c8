use Rattle.std.proofs.Common.{arith}
use Rattle.file_order.proofs.SearchLemmas.{whole_more}
use Rattle.file_order.proofs.search.all_places.Goals as goal

pub loop-place-preserved : goal.loop-place-preserved
loop-place-preserved c = whole_more c.loop-place.places c.push.new.self c.loop-place.place c.loop-place.invariant c.in_ok-push.ensures

pub returns : goal.returns
returns c = λ p. (λ h. omega (arith, (c.loop-place.invariant p).0 h), λ less. (c.loop-place.invariant p).1 (omega arith))
