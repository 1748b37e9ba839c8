-- Expressions without parts.
use Rattle.std.specs.Prelude.{◌≡◌, ℕ, ℤ, pos, true, if◌then◌else◌, [], Option, None, Some}
use Rattle.type_rules.specs.Values.{is_in_kind}
use Rattle.asr_nodes.specs.Parts.{expr_parts}
use Rattle.asr_nodes.specs.Reading.{Reading, expr_node}
use Rattle.asr_nodes.specs.declared.node.Expr.{Expr}
use Rattle.asr_nodes.specs.declared.tree.ExprTree.TheVariants as tree
use Rattle.fortran_semantics.specs.Declared.{IntegerType, LogicalType}
use Rattle.ast_to_asr.specs.declared.names.Constant.{Constant}
use Rattle.ast_to_asr.specs.declared.names.ScalarType.{ScalarType}
use Rattle.ast_to_asr.specs.Expressions.{Elaborated, value, constant_tree}
use Rattle.ast_to_asr.specs.Known.{type_of, evaluation_of}

-- an integer literal of a kind, which is a kind itself where `writes` says so
abbrev pub integer_literal : ℕ → ℤ → Option ℕ → Elaborated
integer_literal kind z writes = record { tree = tree.IntConst kind z; ty = IntegerType kind; writes = writes; variable = None; is_constant = true }

abbrev pub logical_literal : ℕ → Elaborated
logical_literal code = value (tree.LogConst code) LogicalType true

abbrev pub named_constant : ScalarType → Option Constant → Elaborated
named_constant ty v = value (constant_tree (type_of ty) (evaluation_of v)) (type_of ty) true

-- a node that has no parts, and this tree however nodes are read
pub record IsConstantNode (ty : ScalarType) (v : Option Constant) (node : Expr) : Type 0 where
  pub parts : expr_parts node ≡ []
  pub tree : (r : Reading) → expr_node r node ≡ constant_tree (type_of ty) (evaluation_of v)

-- a number of a kind
abbrev pub in_the_kind : ℕ → ℕ → Option ℤ
in_the_kind kind n = if is_in_kind kind (pos n) then Some (pos n) else None
