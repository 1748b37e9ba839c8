use Rattle.std.proofs.Common.{rules}
use Rattle.asr_nodes.proofs.Pushes.{push_expr_sound, push_expr_extends, push_expr_stands}
use Rattle.asr_nodes.proofs.asr.Asr.build_expr.Goals as goal

pub invariant_of-self-2 : goal.invariant_of-self-2
invariant_of-self-2 c = push_expr_sound c.args.self.now _ c.self.view_is c.self.invariant c.args.e _ c.in_ok-push.ensures.ok c.requires

pub returns-clause-tree : goal.returns-clause-tree
returns-clause-tree c = push_expr_stands c.args.self.now _ c.self.view_is c.self.invariant c.args.e _ c.in_ok-push.ensures.ok c.requires _ (search rules)

pub returns-clause-extends : goal.returns-clause-extends
returns-clause-extends c = push_expr_extends c.args.self.now _ c.self.view_is c.self.invariant c.args.e _ c.in_ok-push.ensures.ok c.requires
