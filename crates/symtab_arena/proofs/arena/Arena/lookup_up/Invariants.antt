use Rattle.std.proofs.Common.{◌≡◌, ◌+◌}
use Rattle.std.specs.Option.{option_and_then, option_map_or}
use Rattle.lf_base.specs.declared.id.TableId.{TableId}
use Rattle.symtab_arena.specs.Scopes.{symbol_seen}
use Rattle.symtab_arena.proofs.arena.Arena.lookup_up.Given as goal

-- what is left to look up
abbrev pub invariant-loop-here : goal.invariant-loop-here
invariant-loop-here g l = option_and_then (λ t. symbol_seen l.self t l.name) l.here ≡ symbol_seen l.self l.fn.table l.name

abbrev pub decreases-loop-here : goal.decreases-loop-here
decreases-loop-here g l = option_map_or (λ (t : TableId). t.0 + 1) l.here 0
