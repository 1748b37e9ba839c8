use Rattle.std.specs.Prelude.{◌≡◌, ◌++◌, drop}
use Rattle.std.specs.List.{flat_map}
use Rattle.file_order.specs.Modules.{names_of, used_by, used_by_unit}
use Rattle.file_order.proofs.uses.used.Given as goal

abbrev pub invariant-loop-unit : goal.invariant-loop-unit
invariant-loop-unit l = names_of l.names.items ++ flat_map used_by_unit (drop l.unit-index l.file.units) ≡ used_by l.file
