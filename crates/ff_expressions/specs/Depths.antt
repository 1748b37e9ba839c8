-- The depth of a tree, counted over the whole tree: a node without parts has depth 1, every other one is one deeper than its
-- deepest part. A designator is no node of its own.
use Rattle.std.specs.Prelude.{◌≡◌, ℕ, ◌+◌, ◌≤◌, max, List, [], ◌∷◌, ◌++◌, Option, Some, None}
use Rattle.std.specs.Option.{option_map}
use Rattle.ff_lexer.specs.Statements.{Spelled}
use Rattle.ast_nodes.specs.declared.expression.Expr.{Expr}
use Rattle.ast_nodes.specs.declared.expression.Expr.TheOpen.{Expr-F, RefPart-F, Designator-F}
use Rattle.ast_nodes.specs.declared.expression.Expr.TheFolds.{fold-Expr}
use Rattle.ff_expressions.specs.declared.item.Parsed.{Parsed}
use Rattle.ff_expressions.specs.declared.item.Item.{Item}
use Rattle.ff_expressions.specs.Trees.{greatest_depth, as_expression}
use Rattle.ff_expressions.specs.Expressions.{reference_of}
use Rattle.ff_expressions.specs.Items.{items_of}

abbrev pub greatest : List ℕ → ℕ
greatest [] = 0
greatest (depth ∷ depths) = max depth (greatest depths)

abbrev pub or_none : Option ℕ → ℕ
or_none None = 0
or_none (Some depth) = depth

abbrev pub expr_layer : Expr-F ℕ ℕ ℕ → ℕ
expr_layer (Expr-F.Int digits suffix) = 1
expr_layer (Expr-F.Log value) = 1
expr_layer (Expr-F.Char bytes) = 1
expr_layer (Expr-F.Ref designator) = designator + 1
expr_layer (Expr-F.Triple lower upper step) = max (or_none lower) (max (or_none upper) (or_none step)) + 1
expr_layer (Expr-F.Unary operator operand) = operand + 1
expr_layer (Expr-F.Binary operator left right) = max left right + 1
expr_layer (Expr-F.Paren inner) = inner + 1
expr_layer (Expr-F.Array items) = greatest items + 1
expr_layer (Expr-F.Loop variable lower upper step items) = max (max lower upper) (max (or_none step) (greatest items)) + 1

abbrev pub part_layer : RefPart-F ℕ ℕ ℕ → ℕ
part_layer (RefPart-F.Part name) = 1
part_layer (RefPart-F.Group arguments) = greatest arguments + 1

abbrev pub designator_layer : Designator-F ℕ ℕ ℕ → ℕ
designator_layer designator = greatest designator.parts

abbrev pub depth_of : Expr → ℕ
depth_of = fold-Expr ℕ ℕ ℕ expr_layer part_layer designator_layer

-- A depth within the limit is that of the tree.
pub record Counted (value : Parsed) : Type 0 where
  pub count : value.depth ≤ greatest_depth → depth_of value.tree ≡ value.depth

-- What is read from neighbouring items of a statement has its tree's depth.
abbrev pub DepthIsCounted : (List Item → Option Parsed) → Type 0
DepthIsCounted read =
    (tokens : List Spelled) (before items behind : List Item) (value : Parsed) →
    items_of tokens ≡ Some (before ++ (items ++ behind)) → read items ≡ Some value → value.depth ≤ greatest_depth → depth_of value.tree ≡ value.depth

abbrev pub designator_of : List Item → Option Parsed
designator_of items = option_map as_expression (reference_of items)
