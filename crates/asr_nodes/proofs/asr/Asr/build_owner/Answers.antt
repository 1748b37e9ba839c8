use Rattle.std.proofs.Common.{rules}
use Rattle.asr_nodes.proofs.Symbols.{after_owner}
use Rattle.asr_nodes.proofs.asr.Asr.build_owner.Goals as goal

pub invariant_of-self : goal.invariant_of-self
invariant_of-self c = after_owner c.args.self.now _ c.self.view_is c.self.invariant c.args.symbol c.requires.parts c.args.table c.args.name.now c.linked.ensures c.requires.there c.requires.root _ c.with_table-symbol.result (search rules) c.declare_owner.result c.requires.owner c.declare_owner.ensures
