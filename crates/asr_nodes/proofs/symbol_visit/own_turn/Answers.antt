use Rattle.std.proofs.Common.{sym, ap, subst, ◌∙◌}
use Rattle.symtab_arena.specs.Links.{Linked}
use Rattle.symtab_arena.specs.Scopes.{owned_by}
use Rattle.asr_nodes.proofs.SymbolsBelow.{own_some}
use Rattle.asr_nodes.proofs.symbol_visit.own_turn.Goals as goal

pub returns-in-Some : goal.returns-in-Some
returns-in-Some c =
    c.turn_at.ensures
    ∙ own_some c.args.asr.now (subst (λ s. Linked s) c.arena.ensures c.linked.ensures) c.sound.ensures c.args.symbol c.in-Some.table
    (sym (c.owned.ensures ∙ ap (λ s. owned_by s c.args.symbol) c.arena-2.ensures) ∙ c.in-Some.is)
