use Rattle.std.proofs.Common.{◌≡◌}
use Rattle.symtab_arena.specs.Scopes.{names_in}
use Rattle.c_printer.specs.Files.{first_values}
use Rattle.c_printer.specs.UnitTrees.{saved_of}
use Rattle.c_printer.specs.Units.{types_of}
use Rattle.c_printer.specs.Writing.{from}
use Rattle.c_printer.proofs.SavedVariables.{saved_from}
use Rattle.c_printer.proofs.first.write_first_values.Given as goal

-- what is left to write
abbrev pub invariant-loop-place : goal.invariant-loop-place
invariant-loop-place l =
    from l.writer (first_values l.scope.unit l.source (types_of l.scope) (saved_from l.scope.asr l.place (names_in l.scope.asr.scopes l.scope.table)))
    ≡ from l.fn.writer (first_values l.scope.unit l.source (types_of l.scope) (saved_of l.scope))
