use Rattle.std.proofs.Common.{◌≡◌, Some, subst}
use Rattle.symtab_arena.specs.Scopes.{name_of}
use Rattle.c_printer.proofs.UnitRoots.{unit_root}
use Rattle.c_printer.proofs.scope.Scope.of.Goals as goal

pub invariant_of-result : goal.invariant_of-result
invariant_of-result c = record {
  name_is = subst (λ s. name_of s c.args.id ≡ Some c.name_of.result.now) c.arena-2.ensures c.name_of.ensures;
  table_is = c.requires.owns;
  root = unit_root c.args.asr.now c.sound.ensures c.args.id c.requires.unit;
}
