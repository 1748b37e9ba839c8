use Rattle.asr_nodes.proofs.SampleLemmas.{parts_apart, inner_apart, wrapped}
use Rattle.asr_nodes.proofs.Callers.{apart_there}
use Rattle.asr_nodes.specs.Keys.{expr}
use Rattle.asr_nodes.specs.Parts.{expr_parts}
use Rattle.asr_nodes.proofs.sample.in_parentheses.Goals as goal

pub build_expr-requires : goal.build_expr-requires
build_expr-requires c = apart_there c.args.asr.now _ (expr c.args.at) _ c.replace_expr-old.ensures.trees (expr_parts c.replace_expr-old.result) (parts_apart c.args.asr.now c.sound.ensures c.args.at _ c.replace_expr-old.ensures.old)

pub replace_expr-requires-clause-apart : goal.replace_expr-requires-clause-apart
replace_expr-requires-clause-apart c =
    inner_apart c.args.asr.now c.sound.ensures c.args.at _ c.replace_expr-old.ensures.old _ _ c.replace_expr-old.ensures.new c.replace_expr-old.ensures.trees c.requires _ c.in_ok-inner.inner c.build_expr.ensures.extends c.in_ok-inner.ensures.tree c.in_ok-inner.ensures.builds.0

pub returns : goal.returns
returns c = λ path.
    wrapped c.args.asr.now c.sound.ensures c.args.at _ c.replace_expr-old.ensures.old _ _ c.replace_expr-old.ensures.trees _ c.in_ok-inner.inner c.in_ok-inner.ensures.tree _ c.replace_expr.ensures.trees path
