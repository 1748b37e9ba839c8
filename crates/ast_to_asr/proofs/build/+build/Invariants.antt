use Rattle.std.proofs.Common.{drop, map}
use Rattle.ast_to_asr.specs.Sources.{BuiltSoFar, expr_in}
use Rattle.ast_to_asr.proofs.build.+build.Given as goal

abbrev pub invariant-expressions-loop-expr : goal.invariant-expressions-loop-expr
invariant-expressions-loop-expr l =
    BuiltSoFar l.fn.asr l.asr l.built (map (expr_in l.here.unit.now l.here.names.now) (drop l.expr-index l.exprs)) (map (expr_in l.here.unit.now l.here.names.now) l.exprs)
