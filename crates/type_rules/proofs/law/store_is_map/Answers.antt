use Rattle.type_rules.proofs.Disjoint.{held_is_get}
use Rattle.type_rules.proofs.law.store_is_map.Goals as goal

pub returns : goal.returns
returns c = held_is_get
