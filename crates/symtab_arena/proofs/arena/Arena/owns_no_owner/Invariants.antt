use Rattle.std.proofs.Common.{◌≡◌, ℕ, ◌<◌, Some, None}
use Rattle.lf_base.specs.declared.id.SymId.{SymId}
use Rattle.symtab_arena.specs.Scopes.{symbol_in_place, owned_by}
use Rattle.symtab_arena.proofs.arena.Arena.owns_no_owner.Given as goal

-- no symbol before this place owns a table
abbrev pub invariant-loop-place : goal.invariant-loop-place
invariant-loop-place g l = (n : ℕ) (u : SymId) → n < l.place → symbol_in_place l.self l.table n ≡ Some u → owned_by l.self u ≡ None
