use Rattle.std.proofs.Common.{◌≡◌, drop, IfSome}
use Rattle.asr_nodes.specs.Units.{IsUnit}
use Rattle.c_printer.specs.UnitTrees.{unit_trees}
use Rattle.c_printer.proofs.FileItems.{trees_left}
use Rattle.c_printer.proofs.units.only_unit.Given as goal

-- the unit that was found, and what is left
abbrev pub invariant-loop-id : goal.invariant-loop-id
invariant-loop-id l = record {
  trees : trees_left l.asr l.only (drop l.id-index l.ids) ≡ unit_trees l.asr l.ids;
  is_unit : IfSome l.only (λ id. IsUnit l.asr id);
}
