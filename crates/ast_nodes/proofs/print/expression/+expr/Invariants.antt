use Rattle.std.proofs.Common.{[], ◌∷◌, ◌++◌, codes, drop}
use Rattle.ast_nodes.specs.Node.{lead, led}
use Rattle.ast_nodes.specs.Prints.{Awaits}
use Rattle.ast_nodes.specs.Exprs.{expr_texts, part_texts}
use Rattle.ast_nodes.proofs.print.expression.+expr.Given as goal

-- what is left to print
abbrev pub invariant-put_exprs-loop-expr : goal.invariant-put_exprs-loop-expr
invariant-put_exprs-loop-expr g l = Awaits g.O.Sink.contents g.O.Sink.faults g.O.Sink.may_fail g.O.Sink.takes_memory g.O.Sink.keeps l.fn.before l.ended l.fn.out l.out (codes " [" ∷ led [] (expr_texts l.exprs) ++ (codes "]" ∷ [])) (led (lead l.is_first) (expr_texts (drop l.expr-index l.exprs)) ++ (codes "]" ∷ []))

abbrev pub invariant-put_parts-loop-part : goal.invariant-put_parts-loop-part
invariant-put_parts-loop-part g l = Awaits g.O.Sink.contents g.O.Sink.faults g.O.Sink.may_fail g.O.Sink.takes_memory g.O.Sink.keeps l.fn.before l.ended l.fn.out l.out (codes " [" ∷ led [] (part_texts l.parts) ++ (codes "]" ∷ [])) (led l.lead (part_texts (drop l.part-index l.parts)) ++ (codes "]" ∷ []))
