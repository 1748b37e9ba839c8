use Rattle.std.proofs.Common.{map}
use Rattle.type_rules.proofs.Resolution.{resolves}
use Rattle.type_rules.proofs.matching.resolve_borrowed.Goals as goal

pub returns-clause-only : goal.returns-clause-only
returns-clause-only c = λ apart. rw c.first_borrowed.ensures (resolves (map (λ s. s.now) c.args.specifics.now) c.args.args.now apart)
