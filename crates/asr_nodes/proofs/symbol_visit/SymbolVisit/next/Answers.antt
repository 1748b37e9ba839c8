use Rattle.std.proofs.Common.{rules, sym, ◌∙◌}
use Rattle.asr_nodes.proofs.SymbolsBelow.{symbol_stepped}
use Rattle.asr_nodes.proofs.symbol_visit.SymbolVisit.next.Goals as goal

pub returns : goal.returns
returns c =
    sym c.self.view_is
    ∙ symbol_stepped c.self.inside.asr.now c.as_slice.result.now c.self.inside.stack.items c.clear.new.self.items c.push.new.list.items c.push-2.new.list.items c.replace_top.new.stack.items c.in-Some.top c.turn_at.result c.own_turn.result (search rules)
    c.in-Some.ensures c.clear.ensures.items c.in_ok-push.ensures c.in_ok-push-2.ensures c.in_ok-replace_top.ensures.ok c.turn_at.ensures c.own_turn.ensures
