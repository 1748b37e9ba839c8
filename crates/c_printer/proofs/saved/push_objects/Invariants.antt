use Rattle.std.proofs.Common.{◌≡◌, ◌++◌, map}
use Rattle.symtab_arena.specs.Scopes.{names_in}
use Rattle.c_printer.specs.Files.{variable_item}
use Rattle.c_printer.specs.UnitTrees.{saved_of}
use Rattle.c_printer.proofs.SavedVariables.{saved_from}
use Rattle.c_printer.proofs.saved.push_objects.Given as goal

-- the objects of what is left
abbrev pub invariant-loop-place : goal.invariant-loop-place
invariant-loop-place l =
    l.items ++ map (variable_item l.scope.unit) (saved_from l.scope.asr l.place (names_in l.scope.asr.scopes l.scope.table))
    ≡ l.fn.items ++ map (variable_item l.scope.unit) (saved_of l.scope)
