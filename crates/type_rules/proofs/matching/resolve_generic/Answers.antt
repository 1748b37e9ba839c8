use Rattle.std.proofs.Common.{map}
use Rattle.type_rules.proofs.Resolution.{resolves}
use Rattle.type_rules.proofs.matching.resolve_generic.Goals as goal

pub returns-clause-only : goal.returns-clause-only
returns-clause-only c = λ apart. rw c.first_match.ensures (resolves (map (λ s. s.items) c.args.specifics.now) c.args.args.now apart)
