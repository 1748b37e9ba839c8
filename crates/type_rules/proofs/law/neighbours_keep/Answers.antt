use Rattle.type_rules.proofs.Disjoint.{other_place}
use Rattle.type_rules.proofs.law.neighbours_keep.Goals as goal

pub returns : goal.returns
returns c = other_place
