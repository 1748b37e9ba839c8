use Rattle.type_rules.proofs.Disjoint.{written_map}
use Rattle.type_rules.proofs.law.instance_is_inserted.Goals as goal

pub returns : goal.returns
returns c = written_map
