use Rattle.std.proofs.Common.{◌≡◌, drop}
use Rattle.ff_forms.specs.Actions.{seen_in}
use Rattle.ff_forms.specs.declared.chain.Seen.TheVariants.{NameWanted}
use Rattle.ff_forms.proofs.chain.is_assignment.Given as goal

abbrev pub invariant-loop-at : goal.invariant-loop-at
invariant-loop-at l = seen_in l.seen (drop l.at l.items) ≡ seen_in NameWanted l.items
