use Rattle.std.proofs.Common.{rules}
use Rattle.asr_nodes.proofs.Places.{set_stmt_sound, set_stmt}
use Rattle.asr_nodes.proofs.asr.Asr.replace.Goals as goal

pub invariant_of-self : goal.invariant_of-self
invariant_of-self c = set_stmt_sound c.args.self.now _ c.self.view_is c.sound.ensures c.args.at c.args.with _ c.put_at.ensures.new c.requires.there c.requires.apart

pub returns-clause-trees : goal.returns-clause-trees
returns-clause-trees c = set_stmt c.args.self.now _ c.self.view_is c.sound.ensures c.args.at c.args.with _ (search rules) c.requires.there c.requires.apart
