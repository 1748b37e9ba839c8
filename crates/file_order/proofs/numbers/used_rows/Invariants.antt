use Rattle.std.specs.Prelude.{◌≡◌, map, take}
use Rattle.file_order.specs.Modules.{used_by}
use Rattle.file_order.specs.Numbers.{numbers_in}
use Rattle.file_order.proofs.numbers.used_rows.Given as goal

abbrev pub invariant-loop-file : goal.invariant-loop-file
invariant-loop-file l = l.rows ≡ map (λ file. numbers_in l.numbers (used_by file)) (take l.file-index l.files)
