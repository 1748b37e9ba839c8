use Rattle.std.proofs.Common.{◌∙◌}
use Rattle.lf_base.specs.declared.operator.TheConstants.{MULTIPLY as multiply}
use Rattle.asr_nodes.specs.declared.tree.ExprTree.TheVariants as tree
use Rattle.asr_nodes.proofs.Callers.{expr_kept}
use Rattle.asr_nodes.proofs.sample.doubled.Goals as goal

pub returns : goal.returns
returns c = λ path.
    c.in_ok-id.ensures.tree.tree path
    ∙ (λ k. tree.Binary multiply (c.in_ok-two.ensures.tree.tree path k) (expr_kept _ _ c.build_expr.ensures.extends c.args.e c.requires path k))
