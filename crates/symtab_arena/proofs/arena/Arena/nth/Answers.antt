use Rattle.std.proofs.Common.{sym, ◌∙◌}
use Rattle.symtab_arena.proofs.CountLemmas.{in_place_stands}
use Rattle.symtab_arena.proofs.arena.Arena.nth.Goals as goal

pub returns-clause-stands : goal.returns-clause-stands
returns-clause-stands g c =
    in_place_stands c.args.self.now c.linked.ensures c.args.table c.args.place c.unwrap.result (sym c.at.ensures ∙ c.unwrap.ensures)
