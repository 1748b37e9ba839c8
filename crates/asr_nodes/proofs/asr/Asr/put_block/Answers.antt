use Rattle.std.proofs.Common.{rules}
use Rattle.asr_nodes.proofs.Splicing.{put_sound, put_trees}
use Rattle.asr_nodes.proofs.asr.Asr.put_block.Goals as goal

pub invariant_of-self-2 : goal.invariant_of-self-2
invariant_of-self-2 c = put_sound c.args.self.now _ c.self.view_is c.sound.ensures c.args.at c.args.with.items c.requires.there c.requires.apart _ _ c.args.block c.requires.block c.in_ok-append.ensures.ok c.put_at.ensures.new

pub returns-clause-trees : goal.returns-clause-trees
returns-clause-trees c = put_trees c.args.self.now _ c.self.view_is c.sound.ensures c.args.at c.args.with.items c.requires.there c.requires.apart _ (search rules)
