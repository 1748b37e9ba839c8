-- What the sample callers show.
use Rattle.std.proofs.Common.{◌≡◌, ◌≢◌, true, length, Some, sym, ap, ◌∙◌, arith, length-set}
use Rattle.lf_base.specs.declared.id.ExprId.{ExprId}
use Rattle.lf_base.specs.declared.id.SymId.{SymId}
use Rattle.asr_nodes.specs.Keys.{expr}
use Rattle.asr_nodes.specs.Nodes.{Nodes, Sound, Extends, StandsFor, Replaces, HasExpr, node_at, expr_tree, avoid, with_expr_at}
use Rattle.asr_nodes.specs.Parts.{expr_parts}
use Rattle.asr_nodes.specs.Reading.{Path}
use Rattle.asr_nodes.specs.declared.node.Expr.{Expr}
use Rattle.asr_nodes.specs.declared.node.Expr.TheVariants.{Paren}
use Rattle.asr_nodes.specs.declared.tree.ExprTree.TheVariants as tree
use Rattle.asr_nodes.proofs.Callers.{own_parts_avoid, node_avoids, apart_still, avoid_still, apart_node}
use Rattle.asr_nodes.proofs.Grows.{tree_here}
use Rattle.asr_nodes.proofs.Places.{is_not}

module _ (old : Nodes) (h : Sound old) (at : ExprId) (x : Expr) (was : node_at old (expr at) ≡ Some x) where
  pub parts_apart : avoid old (expr at) (expr_parts x) ≡ true
  parts_apart = own_parts_avoid old (expr at) h x was

  pub inner_apart : (mid : Nodes) (y : Expr) → mid ≡ with_expr_at old at y → Replaces old mid (expr at) y → HasExpr old at → (more : Nodes) (inner : ExprId) → Extends mid more → StandsFor mid more (expr inner) x → inner.0 ≡ length mid.exprs → avoid more (expr at) (expr_parts (Paren inner)) ≡ true
  inner_apart mid y e edit l more inner grown stands next =
      let long : length mid.exprs ≡ length old.exprs = ap (λ (n : Nodes). length n.exprs) e ∙ length-set old.exprs at.0 y in
      let differs : inner.0 ≢ at.0 = λ q. omega (arith, q, next, long, l) in
      node_avoids more (expr at) (expr inner) x stands.node (is_not inner.0 at.0 differs)
      (avoid_still mid more grown (expr at) (expr_parts x) (apart_still old mid (expr at) y edit (expr_parts x) parts_apart))

  pub wrapped : (mid : Nodes) (y : Expr) → Replaces old mid (expr at) y → (more : Nodes) (inner : ExprId) → StandsFor mid more (expr inner) x → (new : Nodes) → Replaces more new (expr at) (Paren inner) → (path : SymId → Path) → expr_tree new path at ≡ tree.Paren (expr_tree old path at)
  wrapped mid y edit more inner stands new last path =
      last.here.tree path
      ∙ ap tree.Paren (stands.tree path ∙ apart_node old mid (expr at) y edit path (expr at) x parts_apart ∙ sym (tree_here old h path (expr at) x was))
