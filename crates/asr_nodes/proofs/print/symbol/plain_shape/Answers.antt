use Rattle.std.proofs.Common.{sym, ap, ◌∙◌}
use Rattle.std.specs.Option.{option_map_or}
use Rattle.asr_nodes.specs.Shapes.{shown}
use Rattle.asr_nodes.specs.Text.{stmt_text, symbol_text}
use Rattle.asr_nodes.specs.Units.{symbol_node, symbol_trees}
use Rattle.asr_nodes.specs.declared.tree.StmtTree.TheVariants as stmt
use Rattle.asr_nodes.proofs.Texts.{symbol_text-Variable, symbol_text-Generic, symbol_text-External}
use Rattle.asr_nodes.proofs.print.symbol.plain_shape.Goals as goal

pub returns-in-Variable : goal.returns-in-Variable
returns-in-Variable c = λ a. c.six.ensures (shown a) ∙ sym (ap (λ n. option_map_or symbol_text (symbol_node a (symbol_trees a) c.args.name.now n) (stmt_text (stmt.End 0))) c.in-Variable.is ∙ symbol_text-Variable _ _ _ _ _ _)

pub returns-in-Generic : goal.returns-in-Generic
returns-in-Generic c = λ a. c.three.ensures (shown a) ∙ sym (ap (λ n. option_map_or symbol_text (symbol_node a (symbol_trees a) c.args.name.now n) (stmt_text (stmt.End 0))) c.in-Generic.is ∙ symbol_text-Generic _ _ _)

pub returns-in-External : goal.returns-in-External
returns-in-External c = λ a. c.four.ensures (shown a) ∙ sym (ap (λ n. option_map_or symbol_text (symbol_node a (symbol_trees a) c.args.name.now n) (stmt_text (stmt.End 0))) c.in-External.is ∙ symbol_text-External _ _ _ _)
