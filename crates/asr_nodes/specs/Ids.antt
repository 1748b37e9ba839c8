-- The numbers of nodes.
use Rattle.std.specs.Prelude.{ℕ, List, map}
use Rattle.lf_base.specs.declared.id.ExprId.{ExprId}
use Rattle.lf_base.specs.declared.id.StmtId.{StmtId}

abbrev pub expr_id : ℕ → ExprId
expr_id n = record { 0 = n }

abbrev pub expr_ids : List ℕ → List ExprId
expr_ids = map expr_id

abbrev pub stmt_id : ℕ → StmtId
stmt_id n = record { 0 = n }
