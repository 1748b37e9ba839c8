use Rattle.std.proofs.Common.{◌≡◌, drop}
use Rattle.std.specs.List.{list_all}
use Rattle.ast_to_asr.specs.Built.{is_built}
use Rattle.ast_to_asr.proofs.built.+built.Given as goal

abbrev pub invariant-are_built_expressions-loop-expr : goal.invariant-are_built_expressions-loop-expr
invariant-are_built_expressions-loop-expr l = list_all is_built (drop l.expr-index l.exprs) ≡ list_all is_built l.exprs
