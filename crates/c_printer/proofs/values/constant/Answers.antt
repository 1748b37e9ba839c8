use Rattle.std.proofs.Common.{sym, ap, ◌∙◌}
use Rattle.asr_nodes.proofs.Missing.{refuted}
use Rattle.c_printer.specs.Values.{Expression}
use Rattle.c_printer.proofs.Laid.{constant_found, missing_is}
use Rattle.c_printer.proofs.values.constant.Goals as goal

pub returns-then-has_expr : goal.returns-then-has_expr
returns-then-has_expr c = c.constant_in.ensures ∙ sym (constant_found c.args.scope.now c.asr-tree.result.now c.args.id _ c.asr-tree.ensures c.expr.ensures.tree)

pub returns-else-has_expr : goal.returns-else-has_expr
returns-else-has_expr c = sym (ap (λ (x : Expression). x.constant) (missing_is c.args.scope.now c.asr-tree.result.now c.args.id c.asr-tree.ensures (refuted _ c.has_expr.ensures c.if-has_expr.false)))
