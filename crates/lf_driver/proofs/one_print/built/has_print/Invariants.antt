use Rattle.std.proofs.Common.{◌≡◌, drop}
use Rattle.std.specs.List.{list_any}
use Rattle.lf_driver.specs.OnePrint.Built.{seen, is_print}
use Rattle.lf_driver.proofs.one_print.built.has_print.Given as goal

abbrev pub invariant-loop-statement : goal.invariant-loop-statement
invariant-loop-statement l = list_any (λ statement. is_print (seen statement)) (drop l.statement-index l.statements) ≡ list_any (λ statement. is_print (seen statement)) l.statements
