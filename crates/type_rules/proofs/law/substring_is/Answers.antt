use Rattle.type_rules.proofs.Bindings.{is_substring}
use Rattle.type_rules.proofs.law.substring_is.Goals as goal

pub returns : goal.returns
returns c = is_substring
