use Rattle.std.specs.Prelude.{take}
use Rattle.file_order.specs.Modules.{names_of}
use Rattle.file_order.specs.Numbers.{IsGrown, HaveNumbers}
use Rattle.file_order.proofs.numbers.add_file.Given as goal

abbrev pub invariant-loop-name : goal.invariant-loop-name
invariant-loop-name l = record {
  grown : IsGrown l.fn.numbers l.numbers;
  have : HaveNumbers l.numbers (take l.name-index (names_of l.name-items));
}
