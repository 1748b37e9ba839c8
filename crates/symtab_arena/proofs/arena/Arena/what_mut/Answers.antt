use Rattle.std.proofs.Common.{refl, sym, ap, subst, slice_set, ◌∙◌}
use Rattle.std.specs.Option.{option_map}
use Rattle.symtab_arena.specs.Changes.{standing_for, replaced_in}
use Rattle.symtab_arena.specs.Scopes.{IsLive, what_of}
use Rattle.symtab_arena.proofs.EntryLemmas.{some_from, there_within, entry_at_read}
use Rattle.symtab_arena.proofs.ReplaceLemmas.{replaced_keeps}
use Rattle.symtab_arena.proofs.arena.Arena.what_mut.Goals as goal

pub invariant_of-self-lent : goal.invariant_of-self-lent
invariant_of-self-lent g c w =
    let live = subst (λ a. IsLive a c.args.symbol) (sym c.self.view_is) c.requires in
    let y = some_from _ live in
    let at = entry_at_read c.self.inside.symbols.items c.args.symbol.0 c.index_mut.result.now (there_within c.self.inside.symbols.items c.args.symbol.0 live) c.index_mut.ensures.value in
    replaced_keeps (record { tables = c.self.inside.tables.items; symbols = c.self.inside.symbols.items })
    c.args.symbol y.0 w c.self.invariant.0 y.1 _ c.self.inside.live c.self.invariant.1
    (ap (λ o. slice_set c.self.inside.symbols.items c.args.symbol.0 (option_map (standing_for w) o)) (sym at))

pub returns : goal.returns
returns g c =
    let live = subst (λ a. IsLive a c.args.symbol) (sym c.self.view_is) c.requires in
    let at = entry_at_read c.self.inside.symbols.items c.args.symbol.0 c.index_mut.result.now (there_within c.self.inside.symbols.items c.args.symbol.0 live) c.index_mut.ensures.value in (
      (
        refl,
        λ w.
            ap (λ o. record { tables = c.self.inside.tables.items; symbols = slice_set c.self.inside.symbols.items c.args.symbol.0 (option_map (standing_for w) o) }) (sym at)
            ∙ ap (λ a. replaced_in a c.args.symbol w) c.self.view_is,
      ),
      record {
        writes_back = tt;
        value = ap (λ a. what_of a c.args.symbol) (sym c.self.view_is) ∙ ap (option_map (λ y. y.what)) at ∙ c.what_there.ensures.value;
      },
    )
