use Rattle.std.proofs.Common.{sym, ap, ◌∙◌}
use Rattle.symtab_arena.specs.Scopes.{symbol_in_place}
use Rattle.asr_nodes.proofs.SymbolsBelow.{from_place}
use Rattle.asr_nodes.proofs.symbol_visit.turn_at.Goals as goal

pub returns-then-place-table_len : goal.returns-then-place-table_len
returns-then-place-table_len c =
    from_place c.args.asr.now c.args.table c.args.place c.nth.result (ap (λ s. symbol_in_place s c.args.table c.args.place) (sym c.arena-then-place-table_len.ensures) ∙ c.nth.ensures.listed)
