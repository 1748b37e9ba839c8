use Rattle.std.proofs.Common.{◌≡◌, ◌≤◌, drop}
use Rattle.lf_driver.specs.OnePrint.Built.{value_behind}
use Rattle.lf_driver.proofs.one_print.built.value.Given as goal

abbrev pub invariant-loop-digit : goal.invariant-loop-digit
invariant-loop-digit l = record {
  rest : value_behind l.value (drop l.digit-index l.digits) ≡ value_behind 0 l.digits;
  bound : l.value ≤ 21474836725;
}
