use Rattle.std.proofs.Common.{sym, subst}
use Rattle.symtab_arena.specs.Scopes.{IsLive}
use Rattle.symtab_arena.proofs.EntryLemmas.{some_from}
use Rattle.symtab_arena.proofs.ReplaceLemmas.{replaced_keeps}
use Rattle.symtab_arena.proofs.arena.Arena.replace_what.Goals as goal

pub invariant_of-self : goal.invariant_of-self
invariant_of-self g c =
    let y = some_from _ (subst (λ a. IsLive a c.args.symbol) (sym c.self.view_is) c.requires) in
    replaced_keeps (record { tables = c.self.inside.tables.items; symbols = c.self.inside.symbols.items })
    c.args.symbol y.0 c.args.with c.self.invariant.0 y.1 c.replace_what.new.symbols.items c.self.inside.live c.self.invariant.1 c.replace_what.ensures.new
