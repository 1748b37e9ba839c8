use Rattle.asr_nodes.proofs.NotedNames.{first_notes}
use Rattle.asr_nodes.proofs.asr.ambiguous.note_first.Goals as goal

pub returns-clause-ok : goal.returns-clause-ok
returns-clause-ok c = first_notes c.args.table c.args.name.items _ _ c.new-names.result c.add.new.self c.requires c.new-names.ensures c.in_ok-add.ensures.ok c.in-Ok.ensures.updates.0
