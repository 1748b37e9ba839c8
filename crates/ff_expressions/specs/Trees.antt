-- Trees with their depths. A node without parts has depth 1, every other one is one deeper than its deepest part. What
-- would be deeper than the limit becomes a stub without parts, whose depth stands for all of them.
use Rattle.std.specs.Prelude.{ℕ, ◌+◌, max, ◌&&◌, nat_lt, if◌then◌else◌, List, [], ◌∷◌, ◌++◌, Option, Some, None}
use Rattle.ast_nodes.specs.declared.expression.Expr.{Expr}
use Rattle.ast_nodes.specs.declared.expression.Expr.TheVariants as expr
use Rattle.ast_nodes.specs.declared.expression.RefPart.{RefPart}
use Rattle.ast_nodes.specs.declared.expression.RefPart.TheVariants.{Part, Group}
use Rattle.ff_expressions.specs.declared.item.Parsed.{Parsed}
use Rattle.ff_expressions.specs.declared.item.Reference.{Reference}
use Rattle.ff_expressions.specs.declared.item.Stride.{Stride}
use Rattle.ff_expressions.specs.declared.item.Stride.TheVariants.{Absent, Missing, Given}
use Rattle.ff_expressions.specs.declared.group.Arguments.{Arguments}

-- the greatest depth, and the one that stands for every depth above it
abbrev pub greatest_depth : ℕ
greatest_depth = 256

abbrev pub too_deep : ℕ
too_deep = 257

abbrev pub stub : Parsed
stub = record { tree = expr.Int [] 0; depth = too_deep }

abbrev pub leaf : Expr → Parsed
leaf tree = record { tree = tree; depth = 1 }

-- a node whose deepest part has this depth
abbrev pub node : ℕ → Expr → Parsed
node deepest tree = if nat_lt deepest greatest_depth then record { tree = tree; depth = deepest + 1 } else stub

abbrev pub unary : ℕ → Parsed → Parsed
unary operator operand = node operand.depth (expr.Unary operator operand.tree)

abbrev pub binary : ℕ → Parsed → Parsed → Parsed
binary operator left right = node (max left.depth right.depth) (expr.Binary operator left.tree right.tree)

abbrev pub paren : Parsed → Parsed
paren inner = node inner.depth (expr.Paren inner.tree)

-- a part that may be missing
abbrev pub depth_in : Option Parsed → ℕ
depth_in None = 0
depth_in (Some value) = value.depth

abbrev pub tree_in : Option Parsed → Option Expr
tree_in None = None
tree_in (Some value) = Some value.tree

abbrev pub value_of : Stride → Option Parsed
value_of Absent = None
value_of Missing = None
value_of (Given value) = Some value

abbrev pub triple : Option Parsed → Option Parsed → Option Parsed → Parsed
triple lower upper step = node (max (depth_in lower) (max (depth_in upper) (depth_in step))) (expr.Triple (tree_in lower) (tree_in upper) (tree_in step))

-- expressions side by side, with the greatest depth among them
abbrev pub no_arguments : Arguments
no_arguments = record { list = []; depth = 0 }

abbrev pub with_argument : Arguments → Parsed → Arguments
with_argument arguments value = record { list = arguments.list ++ value.tree ∷ []; depth = max arguments.depth value.depth }

abbrev pub array : Arguments → Parsed
array items = node items.depth (expr.Array items.list)

abbrev pub implied_do : List ℕ → Parsed → Parsed → Option Parsed → Arguments → Parsed
implied_do variable lower upper step items =
    node (max (max lower.depth upper.depth) (max (depth_in step) items.depth)) (expr.Loop variable lower.tree upper.tree (tree_in step) items.list)

-- designators; as an expression one is a node over its parts
abbrev pub no_designator : Reference
no_designator = record { designator = record { parts = [] }; depth = too_deep }

abbrev pub nothing_named : Reference
nothing_named = record { designator = record { parts = [] }; depth = 0 }

-- one more part, where the deepest of what stands in it has this depth
abbrev pub with_part : Reference → RefPart → ℕ → Reference
with_part reference part deepest =
    if nat_lt reference.depth too_deep && nat_lt deepest 255
    then record { designator = record { parts = reference.designator.parts ++ part ∷ [] }; depth = max reference.depth (deepest + 2) }
    else no_designator

abbrev pub with_name : Reference → List ℕ → Reference
with_name reference name = with_part reference (Part name) 0

abbrev pub with_group : Reference → Arguments → Reference
with_group reference arguments = with_part reference (Group arguments.list) arguments.depth

abbrev pub as_expression : Reference → Parsed
as_expression reference = record { tree = expr.Ref reference.designator; depth = reference.depth }
