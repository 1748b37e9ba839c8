use Rattle.std.proofs.Common.{sym, ap, ◌∙◌}
use Rattle.symtab_arena.specs.Paths.{path_of}
use Rattle.asr_nodes.specs.Shapes.{shown}
use Rattle.asr_nodes.specs.Text.{expr_text}
use Rattle.asr_nodes.proofs.Missing.{no_expr_there, refuted}
use Rattle.asr_nodes.proofs.print.node.shape_of_expr.Goals as goal

pub returns-then-has_expr : goal.returns-then-has_expr
returns-then-has_expr c = c.expr_shape.ensures (shown c.args.asr.now) ∙ sym (ap expr_text (c.expr.ensures.tree (path_of c.args.asr.now.scopes)))

pub returns-else-has_expr : goal.returns-else-has_expr
returns-else-has_expr c = c.no_expr.ensures (shown c.args.asr.now) ∙ sym (ap expr_text (no_expr_there c.args.asr.now (path_of c.args.asr.now.scopes) c.args.id (refuted _ c.has_expr.ensures c.if-has_expr.false)))
