use Rattle.std.proofs.Common.{sym, ap, ◌∙◌}
use Rattle.symtab_arena.specs.Paths.{path_of}
use Rattle.asr_nodes.specs.Shapes.{shown}
use Rattle.asr_nodes.specs.Text.{stmt_text}
use Rattle.asr_nodes.proofs.Missing.{no_stmt_there, refuted}
use Rattle.asr_nodes.proofs.print.node.shape_of_stmt.Goals as goal

pub returns-then-has_stmt : goal.returns-then-has_stmt
returns-then-has_stmt c = c.stmt_shape.ensures (shown c.args.asr.now) ∙ sym (ap stmt_text (c.stmt.ensures.tree (path_of c.args.asr.now.scopes)))

pub returns-else-has_stmt : goal.returns-else-has_stmt
returns-else-has_stmt c = c.no_stmt.ensures (shown c.args.asr.now) ∙ sym (ap stmt_text (no_stmt_there c.args.asr.now (path_of c.args.asr.now.scopes) c.args.id (refuted _ c.has_stmt.ensures c.if-has_stmt.false)))
