use Rattle.std.proofs.Common.{rules, ap, ◌∙◌}
use Rattle.asr_nodes.specs.Noted.{is_among}
use Rattle.asr_nodes.proofs.NotedNames.{among_is}
use Rattle.asr_nodes.proofs.noted.NameSet.has.Goals as goal

pub returns : goal.returns
returns c = c.contains.ensures ∙ among_is c.args.name.now _ ∙ ap (is_among c.args.name.now) (search rules)
