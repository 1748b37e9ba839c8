use Rattle.std.proofs.Common.{◌≡◌, ◌++◌, [], ◌∷◌, OnOk, sym, ap, subst, ◌∙◌}
use Rattle.asr_nodes.specs.Nodes.{there}
use Rattle.asr_nodes.specs.Visiting.{keys_of, parts_at}
use Rattle.asr_nodes.specs.Visits.{key_of}
use Rattle.asr_nodes.proofs.VisitSteps.{has_expr, has_stmt}
use Rattle.asr_nodes.proofs.visit.push_parts.Goals as goal

pub push_expr_parts-requires : goal.push_expr_parts-requires
push_expr_parts-requires c = has_expr c.args.asr.now c.in-Expr.id (sym (ap (λ n. there c.args.asr.now (key_of n ∷ [])) c.in-Expr.is) ∙ c.requires)

pub push_stmt_parts-requires : goal.push_stmt_parts-requires
push_stmt_parts-requires c = has_stmt c.args.asr.now c.in-Stmt.id (sym (ap (λ n. there c.args.asr.now (key_of n ∷ [])) c.in-Stmt.is) ∙ c.requires)

pub returns-in-Expr : goal.returns-in-Expr
returns-in-Expr c =
    subst (λ n. OnOk c.push_expr_parts.result (keys_of c.push_expr_parts.new.list.items ≡ keys_of c.args.list.now.items ++ parts_at c.args.asr.now (key_of n))) (sym c.in-Expr.is) c.push_expr_parts.ensures

pub returns-in-Stmt : goal.returns-in-Stmt
returns-in-Stmt c =
    subst (λ n. OnOk c.push_stmt_parts.result (keys_of c.push_stmt_parts.new.list.items ≡ keys_of c.args.list.now.items ++ parts_at c.args.asr.now (key_of n))) (sym c.in-Stmt.is) c.push_stmt_parts.ensures
