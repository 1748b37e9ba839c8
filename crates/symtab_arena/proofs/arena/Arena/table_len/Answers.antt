use Rattle.std.proofs.Common.{◌≤◌, sym, subst}
use Rattle.symtab_arena.specs.Scopes.{symbol_numbers, live_count}
use Rattle.symtab_arena.proofs.CountLemmas.{table_within_live, table_small}
use Rattle.symtab_arena.proofs.arena.Arena.table_len.Goals as goal

pub returns-clause-live : goal.returns-clause-live
returns-clause-live g c = subst (λ n. n ≤ live_count c.args.self.now) (sym c.size.ensures) (table_within_live c.args.self.now c.linked.ensures c.args.table)

pub returns-clause-small : goal.returns-clause-small
returns-clause-small g c = subst (λ n. n ≤ symbol_numbers) (sym c.size.ensures) (table_small c.args.self.now c.linked.ensures c.args.table)
