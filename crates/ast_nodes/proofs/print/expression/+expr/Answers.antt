use Rattle.std.proofs.Common.{sym, ◌∙◌}
use Rattle.ast_nodes.proofs.Chains.{prints_none, prints_more, prints_two}
use Rattle.ast_nodes.proofs.Texts.{expr_text-Triple, expr_text-Binary, expr_text-Paren, expr_text-Loop}
use Rattle.ast_nodes.proofs.Pieces.{operation_behind, paren_behind, name_alone, name_behind, pair_behind, first_text}
use Rattle.ast_nodes.proofs.print.expression.+expr.Goals as goal

pub put_expr-returns-in-Triple : goal.put_expr-returns-in-Triple
put_expr-returns-in-Triple g t c = rw c.in-Triple.is (rw (expr_text-Triple _ _ _) (prints_more _ _ _ _ _ _ _ _ _ _ _ _ _ c.put_opened-ended-in-Triple.ensures (prints_more _ _ _ _ _ _ _ _ _ _ _ _ _ c.put_optional_operand-ended.ensures (prints_more _ _ _ _ _ _ _ _ _ _ _ _ _ c.put_optional_operand-ended-in-Triple.ensures (prints_more _ _ _ _ _ _ _ _ _ _ _ _ _ c.put_optional_operand-ended-in-Triple-2.ensures (prints_more _ _ _ _ _ _ _ _ _ _ _ _ _ c.put-in-Triple.ensures (prints_none _ _ _ _ _ _ _)))))))

pub put_expr-returns-in-Loop : goal.put_expr-returns-in-Loop
put_expr-returns-in-Loop g t c = rw c.in-Loop.is (rw (expr_text-Loop _ _ _ _ _) ((prints_two _ _ _ _ _ _ _ _ _ _ _ _ _ _ c.put_named-ended.ensures (prints_more _ _ _ _ _ _ _ _ _ _ _ _ _ c.put_operand-ended-in-Loop.ensures (prints_more _ _ _ _ _ _ _ _ _ _ _ _ _ c.put_operand-ended-in-Loop-2.ensures (prints_more _ _ _ _ _ _ _ _ _ _ _ _ _ c.put_optional_operand-ended-in-Loop.ensures (prints_more _ _ _ _ _ _ _ _ _ _ _ _ _ c.put_items-ended-in-Loop.ensures (prints_more _ _ _ _ _ _ _ _ _ _ _ _ _ c.put-in-Loop.ensures (prints_none _ _ _ _ _ _ _)))))))))

pub put_value-returns-in-Binary : goal.put_value-returns-in-Binary
put_value-returns-in-Binary g t c = rw c.in-Binary.is (rw (expr_text-Binary _ _ _) (rw (operation_behind _ _ _) (rw (sym c.from.ensures) (prints_more _ _ _ _ _ _ _ _ _ _ _ _ _ c.put-ended.ensures (prints_more _ _ _ _ _ _ _ _ _ _ _ _ _ c.put_digits-ended.ensures (prints_more _ _ _ _ _ _ _ _ _ _ _ _ _ c.put_operand-ended.ensures (prints_more _ _ _ _ _ _ _ _ _ _ _ _ _ c.put_operand-ended-in-Binary.ensures (prints_more _ _ _ _ _ _ _ _ _ _ _ _ _ c.put.ensures (prints_none _ _ _ _ _ _ _)))))))))

pub put_designator-returns-in-Some : goal.put_designator-returns-in-Some
put_designator-returns-in-Some g t c = rw (name_alone _ _ (sym c.as_slice.ensures ∙ c.in-Some.ensures)) (rw (sym c.bytes.ensures) c.put_between.ensures)

pub put_place-returns-in-Some : goal.put_place-returns-in-Some
put_place-returns-in-Some g t c = rw (name_behind _ _ (sym c.as_slice.ensures ∙ c.in-Some.ensures)) (rw (sym c.bytes.ensures) c.put_between.ensures)

pub put_pair-returns : goal.put_pair-returns
put_pair-returns g t c = rw (pair_behind _ _) (rw (sym c.bytes.ensures) (prints_more _ _ _ _ _ _ _ _ _ _ _ _ _ c.put_between-ended.ensures (prints_more _ _ _ _ _ _ _ _ _ _ _ _ _ c.put_part-ended.ensures (prints_more _ _ _ _ _ _ _ _ _ _ _ _ _ c.put.ensures (prints_none _ _ _ _ _ _ _)))))

pub put_value-returns-in-Paren : goal.put_value-returns-in-Paren
put_value-returns-in-Paren g t c = rw c.in-Paren.is (rw (expr_text-Paren _) (rw (paren_behind _) (prints_more _ _ _ _ _ _ _ _ _ _ _ _ _ c.put-ended-in-Paren.ensures (prints_more _ _ _ _ _ _ _ _ _ _ _ _ _ c.put_operand-ended-in-Paren.ensures (prints_more _ _ _ _ _ _ _ _ _ _ _ _ _ c.put-in-Paren.ensures (prints_none _ _ _ _ _ _ _))))))

pub put_listed-returns-then-is_first : goal.put_listed-returns-then-is_first
put_listed-returns-then-is_first g t c = rw c.if-is_first.true (rw (first_text _) c.put_expr.ensures)
