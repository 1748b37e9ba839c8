use Rattle.std.proofs.Common.{[], ◌∷◌, ◌++◌, codes, drop}
use Rattle.ast_nodes.specs.Node.{led}
use Rattle.ast_nodes.specs.Prints.{Awaits}
use Rattle.ast_nodes.specs.Text.{stmt_texts, arm_texts, case_texts}
use Rattle.ast_nodes.proofs.print.statement.+stmt.Given as goal

-- what is left to print
abbrev pub invariant-put_stmts-loop-stmt : goal.invariant-put_stmts-loop-stmt
invariant-put_stmts-loop-stmt g l = Awaits g.O.Sink.contents g.O.Sink.faults g.O.Sink.may_fail g.O.Sink.takes_memory g.O.Sink.keeps l.fn.before l.ended l.fn.out l.out (codes " [" ∷ led [] (stmt_texts l.stmts) ++ (codes "]" ∷ [])) (led l.lead (stmt_texts (drop l.stmt-index l.stmts)) ++ (codes "]" ∷ []))

abbrev pub invariant-put_arms-loop-arm : goal.invariant-put_arms-loop-arm
invariant-put_arms-loop-arm g l = Awaits g.O.Sink.contents g.O.Sink.faults g.O.Sink.may_fail g.O.Sink.takes_memory g.O.Sink.keeps l.fn.before l.ended l.fn.out l.out (codes " [" ∷ led [] (arm_texts l.arms) ++ (codes "]" ∷ [])) (led l.lead (arm_texts (drop l.arm-index l.arms)) ++ (codes "]" ∷ []))

abbrev pub invariant-put_cases-loop-case : goal.invariant-put_cases-loop-case
invariant-put_cases-loop-case g l = Awaits g.O.Sink.contents g.O.Sink.faults g.O.Sink.may_fail g.O.Sink.takes_memory g.O.Sink.keeps l.fn.before l.ended l.fn.out l.out (codes " [" ∷ led [] (case_texts l.cases) ++ (codes "]" ∷ [])) (led l.lead (case_texts (drop l.case-index l.cases)) ++ (codes "]" ∷ []))
