use Rattle.std.proofs.Common.{◌++◌, ap, subst, ◌∙◌}
use Rattle.symtab_arena.specs.Links.{Linked}
use Rattle.asr_nodes.specs.Visiting.{turn_list, turns_to_come}
use Rattle.asr_nodes.proofs.SymbolsBelow.{come_list, from_first}
use Rattle.asr_nodes.proofs.symbol_visit.SymbolVisit.below.Goals as goal

pub returns : goal.returns
returns c =
    ap (turns_to_come c.args.asr.now) (c.in_ok-push.ensures ∙ ap (λ l. l ++ turn_list c.turn_at.result) c.new-stack.ensures.items)
    ∙ come_list c.args.asr.now c.turn_at.result
    ∙ c.turn_at.ensures
    ∙ from_first c.args.asr.now (subst (λ s. Linked s) c.arena.ensures c.linked.ensures) c.sound.ensures c.args.table
