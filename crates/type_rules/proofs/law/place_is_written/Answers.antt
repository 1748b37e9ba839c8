use Rattle.type_rules.proofs.Disjoint.{written_place}
use Rattle.type_rules.proofs.law.place_is_written.Goals as goal

pub returns : goal.returns
returns c = written_place
