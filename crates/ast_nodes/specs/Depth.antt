-- How deep the nodes of an expression stand in each other.
use Rattle.std.specs.Prelude.{ℕ, ◌+◌, max, List, [], ◌∷◌, Option, Some, None}
use Rattle.lf_base.specs.declared.name.Name.{Name}
use Rattle.ast_nodes.specs.declared.expression.Expr.{Expr}
use Rattle.ast_nodes.specs.declared.expression.Expr.TheVariants.{Ref}
use Rattle.ast_nodes.specs.declared.expression.Expr.TheOpen.{Expr-F, RefPart-F, Designator-F}
use Rattle.ast_nodes.specs.declared.expression.Expr.TheFolds.{fold-Expr}
use Rattle.ast_nodes.specs.declared.expression.RefPart.{Part}

-- the deepest of these; 0 where there is none
abbrev pub deepest : List ℕ → ℕ
deepest [] = 0
deepest (depth ∷ depths) = max depth (deepest depths)

-- a part that is missing has no depth
abbrev pub depth_or_none : Option ℕ → ℕ
depth_or_none (Some depth) = depth
depth_or_none None = 0

-- a node is one deeper than its deepest part
abbrev pub depth_layer : Expr-F ℕ ℕ ℕ → ℕ
depth_layer (Expr-F.Int digits suffix) = 1
depth_layer (Expr-F.Log value) = 1
depth_layer (Expr-F.Char bytes) = 1
depth_layer (Expr-F.Ref parts) = parts + 1
depth_layer (Expr-F.Triple lower upper step) = deepest (depth_or_none lower ∷ depth_or_none upper ∷ depth_or_none step ∷ []) + 1
depth_layer (Expr-F.Unary operator operand) = operand + 1
depth_layer (Expr-F.Binary operator left right) = max left right + 1
depth_layer (Expr-F.Paren inner) = inner + 1
depth_layer (Expr-F.Array items) = deepest items + 1
depth_layer (Expr-F.Loop variable lower upper step items) = deepest (lower ∷ upper ∷ depth_or_none step ∷ items) + 1

abbrev pub part_depth : RefPart-F ℕ ℕ ℕ → ℕ
part_depth (RefPart-F.Part name) = 1
part_depth (RefPart-F.Group arguments) = deepest arguments + 1

-- a designator is no node of its own: its depth is that of its deepest part
abbrev pub designator_depth : Designator-F ℕ ℕ ℕ → ℕ
designator_depth designator = deepest designator.parts

abbrev pub depth_of : Expr → ℕ
depth_of = fold-Expr ℕ ℕ ℕ depth_layer part_depth designator_depth

-- a name alone
abbrev pub named : Name → Expr
named name = Ref (record { parts = Part name ∷ [] })
