use Rattle.file_order.specs.Modules.{held_by}
use Rattle.file_order.specs.Numbers.{IsNumbering}
use Rattle.file_order.proofs.NumberLemmas.{HaveNumbersBelow}
use Rattle.file_order.proofs.numbers.numbers_of.Given as goal

abbrev pub invariant-loop-place : goal.invariant-loop-place
invariant-loop-place l = record {
  numbering : IsNumbering l.numbers;
  below : HaveNumbersBelow held_by l.files l.place l.numbers;
}
