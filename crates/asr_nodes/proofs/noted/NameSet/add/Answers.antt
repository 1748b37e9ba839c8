use Rattle.std.proofs.Common.{rules}
use Rattle.asr_nodes.proofs.NotedNames.{added}
use Rattle.asr_nodes.proofs.noted.NameSet.add.Goals as goal

pub returns-clause-ok : goal.returns-clause-ok
returns-clause-ok c = added c.args.name c.self.inside.names.keys _ _ (search rules) c.in-Ok.ensures.keys
