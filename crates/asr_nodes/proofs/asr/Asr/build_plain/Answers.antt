use Rattle.asr_nodes.proofs.Symbols.{after_plain}
use Rattle.asr_nodes.proofs.asr.Asr.build_plain.Goals as goal

pub invariant_of-self : goal.invariant_of-self
invariant_of-self c = after_plain c.args.self.now _ c.self.view_is c.self.invariant c.args.symbol c.requires.parts c.args.table c.args.name.now c.linked.ensures c.requires.there c.requires.root _ c.declare.result c.requires.plain c.declare.ensures
