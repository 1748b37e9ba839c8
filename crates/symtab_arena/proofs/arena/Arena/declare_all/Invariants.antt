use Rattle.std.specs.declared.result.Result.{Result}
use Rattle.symtab_arena.specs.Answers.{DeclaresEach}
use Rattle.symtab_arena.specs.Scopes.{Scopes, HasTable}
use Rattle.symtab_arena.specs.declared.fault.ArenaFault.{ArenaFault}
use Rattle.symtab_arena.proofs.arena.Arena.declare_all.Given as goal

-- what the names that are left make is what all make
abbrev pub invariant-loop-name : goal.invariant-loop-name
invariant-loop-name g l = record {
  there : HasTable l.self l.table;
  onward : (new : Scopes g.row.K.Denot) (r : Result (Unit {0}) ArenaFault)
      → DeclaresEach l.self l.table l.name-iterator.rest.items new r → DeclaresEach l.fn.self l.table l.fn.names.items new r;
}
