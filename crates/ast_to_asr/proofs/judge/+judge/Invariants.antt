use Rattle.std.proofs.Common.{◌≡◌, drop, map, Ok}
use Rattle.ast_to_asr.specs.Facts.{expr_told, joined_from, least_from, no_arguments}
use Rattle.ast_to_asr.proofs.judge.+judge.Given as goal

abbrev pub invariant-least-loop-argument : goal.invariant-least-loop-argument
invariant-least-loop-argument l = least_from l.least (map (expr_told l.names) (drop l.argument-index l.arguments)) ≡ least_from l.fn.rule (map (expr_told l.names) l.arguments)

abbrev pub invariant-integers-loop-argument : goal.invariant-integers-loop-argument
invariant-integers-loop-argument l = joined_from l.so_far (map (expr_told l.names) (drop l.argument-index l.arguments)) ≡ joined_from (Ok no_arguments) (map (expr_told l.names) l.arguments)
