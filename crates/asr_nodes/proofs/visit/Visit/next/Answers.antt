use Rattle.std.proofs.Common.{rules, sym, ◌∙◌}
use Rattle.asr_nodes.proofs.VisitSteps.{stepped, top_there}
use Rattle.asr_nodes.proofs.visit.Visit.next.Goals as goal

pub push_parts-requires : goal.push_parts-requires
push_parts-requires c = top_there c.self.inside.asr.now c.as_slice.result.now c.self.inside.stack.items c.in-Some.top _ (search rules) c.in-Some.ensures c.node_of-node.ensures c.self.invariant

pub invariant_of-self-2 : goal.invariant_of-self-2
invariant_of-self-2 c =
    (stepped c.self.inside.asr.now c.sound.ensures c.as_slice.result.now c.self.inside.stack.items c.clear.new.self.items c.push_parts.new.list.items c.push_behind.new.list.items c.reverse.new.self.items c.replace_top.new.stack.items c.in-Some.top _ (search rules)
    c.in-Some.ensures c.node_of-node.ensures c.clear.ensures.items c.in_ok-push_parts.ensures c.in_ok-push_behind.ensures c.reverse.ensures.items c.in_ok-replace_top.ensures.ok c.self.invariant).stands

pub returns : goal.returns
returns c =
    sym c.self.view_is
    ∙ (stepped c.self.inside.asr.now c.sound.ensures c.as_slice.result.now c.self.inside.stack.items c.clear.new.self.items c.push_parts.new.list.items c.push_behind.new.list.items c.reverse.new.self.items c.replace_top.new.stack.items c.in-Some.top _ (search rules)
    c.in-Some.ensures c.node_of-node.ensures c.clear.ensures.items c.in_ok-push_parts.ensures c.in_ok-push_behind.ensures c.reverse.ensures.items c.in_ok-replace_top.ensures.ok c.self.invariant).visited
