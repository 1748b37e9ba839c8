use Rattle.std.specs.Prelude.{◌≡◌, take}
use Rattle.file_order.specs.Modules.{names_of}
use Rattle.file_order.specs.Numbers.{numbers_in}
use Rattle.file_order.proofs.numbers.row_of.Given as goal

abbrev pub invariant-loop-name : goal.invariant-loop-name
invariant-loop-name l = l.row.items ≡ numbers_in l.numbers (take l.name-index (names_of l.names))
