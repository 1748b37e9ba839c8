use Rattle.std.proofs.Common.{sym, ap, ◌∙◌}
use Rattle.std.specs.Option.{option_and_then}
use Rattle.symtab_arena.specs.Scopes.{symbol_seen}
use Rattle.symtab_arena.proofs.WayLemmas.{symbol_seen_above}
use Rattle.symtab_arena.proofs.arena.Arena.lookup_up.Goals as goal

pub loop-here-preserved : goal.loop-here-preserved
loop-here-preserved g c =
    ap (option_and_then (λ t. symbol_seen c.args.self.now t c.args.name.now)) c.parent-here.ensures
    ∙ sym (symbol_seen_above c.args.self.now c.linked.ensures c.args.name.now c.in-Some.at (sym c.lookup_here.ensures ∙ c.in_default-lookup_here.is))
    ∙ sym (ap (option_and_then (λ t. symbol_seen c.args.self.now t c.args.name.now)) c.in-Some.is)
    ∙ c.loop-here.invariant
