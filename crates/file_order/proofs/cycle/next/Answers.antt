use Rattle.std.proofs.Common.{subst, Option, ℕ}
use Rattle.file_order.specs.Search.{IsOpen, IsBefore, IsLeastIf}
use Rattle.file_order.proofs.WalkLemmas.{least_is_some}
use Rattle.file_order.proofs.cycle.next.Goals as goal

pub unwrap-requires : goal.unwrap-requires
unwrap-requires c =
    let w = c.requires.some in
    least_is_some (λ a. IsOpen c.args.marks.now a × IsBefore c.args.holders.now c.args.uses.now a c.args.here) c.in_ok-least.least c.in_ok-least.ensures.found (w.0, (w.1, w.2))

pub returns-clause-found : goal.returns-clause-found
returns-clause-found c = subst (λ (o : Option ℕ). IsLeastIf (λ a. IsOpen c.args.marks.now a × IsBefore c.args.holders.now c.args.uses.now a c.args.here) o) c.unwrap.ensures c.in_ok-least.ensures.found
