-- A node that was put last, as the code has it: the fields are those of the old value, but for one list.
use Rattle.std.proofs.Common.{◌≡◌, true, List, [], ◌∷◌, ◌++◌, length, sym, subst}
use Rattle.lf_base.specs.declared.id.ExprId.{ExprId}
use Rattle.lf_base.specs.declared.id.StmtId.{StmtId}
use Rattle.asr_nodes.specs.Keys.{expr, stmt}
use Rattle.asr_nodes.specs.Nodes.{Nodes, Sound, Extends, StandsFor, there}
use Rattle.asr_nodes.specs.Parts.{expr_parts, stmt_parts}
use Rattle.asr_nodes.specs.declared.node.Expr.{Expr}
use Rattle.asr_nodes.specs.declared.node.Stmt.{Stmt}
use Rattle.asr_nodes.proofs.Grows.{expr_sound, expr_extends, expr_stands, stmt_sound, stmt_extends, stmt_stands}

module _ (old inside : Nodes) (v : inside ≡ old) (h : Sound inside) where
  module _ (x : Expr) (ys : List Expr) (e : ys ≡ inside.exprs ++ x ∷ []) (t : there old (expr_parts x) ≡ true) where
    inside_expr : there inside (expr_parts x) ≡ true
    inside_expr = subst (λ o. there o (expr_parts x) ≡ true) (sym v) t

    pub push_expr_sound : Sound (record inside { exprs = ys })
    push_expr_sound = subst (λ z. Sound (record inside { exprs = z })) (sym e) (expr_sound inside h x inside_expr)

    pub push_expr_extends : Extends old (record inside { exprs = ys })
    push_expr_extends = subst (λ o. Extends o (record inside { exprs = ys })) v (subst (λ z. Extends inside (record inside { exprs = z })) (sym e) (expr_extends inside h x inside_expr))

    pub push_expr_stands : (id : ExprId) → id.0 ≡ length inside.exprs → StandsFor old (record inside { exprs = ys }) (expr id) x
    push_expr_stands id l = subst (λ o. StandsFor o (record inside { exprs = ys }) (expr id) x) v (subst (λ z. StandsFor inside (record inside { exprs = z }) (expr id) x) (sym e) (expr_stands inside h x inside_expr id l))

  module _ (x : Stmt) (ys : List Stmt) (e : ys ≡ inside.stmts ++ x ∷ []) (t : there old (stmt_parts x) ≡ true) where
    inside_stmt : there inside (stmt_parts x) ≡ true
    inside_stmt = subst (λ o. there o (stmt_parts x) ≡ true) (sym v) t

    pub push_stmt_sound : Sound (record inside { stmts = ys })
    push_stmt_sound = subst (λ z. Sound (record inside { stmts = z })) (sym e) (stmt_sound inside h x inside_stmt)

    pub push_stmt_extends : Extends old (record inside { stmts = ys })
    push_stmt_extends = subst (λ o. Extends o (record inside { stmts = ys })) v (subst (λ z. Extends inside (record inside { stmts = z })) (sym e) (stmt_extends inside h x inside_stmt))

    pub push_stmt_stands : (id : StmtId) → id.0 ≡ length inside.stmts → StandsFor old (record inside { stmts = ys }) (stmt id) x
    push_stmt_stands id l = subst (λ o. StandsFor o (record inside { stmts = ys }) (stmt id) x) v (subst (λ z. StandsFor inside (record inside { stmts = z }) (stmt id) x) (sym e) (stmt_stands inside h x inside_stmt id l))
