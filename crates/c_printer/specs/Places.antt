-- What designators designate, by symbols and by temporaries, and expressions by the parts of their nodes.
use Rattle.std.specs.Prelude.{ℤ, false, map, Option, Some, None}
use Rattle.lf_base.specs.declared.id.SymId.{SymId}
use Rattle.lf_base.specs.Operators.{operator_of}
use Rattle.type_rules.specs.Codes.{intrinsic_of}
use Rattle.c_nodes.specs.declared.tree.CExpr.TheVariants.{Constant}
use Rattle.asr_nodes.specs.Units.{path}
use Rattle.asr_nodes.specs.declared.node.Expr.{Expr}
use Rattle.asr_nodes.specs.declared.node.Expr.TheVariants as e
use Rattle.c_printer.specs.declared.places.Spot.{Spot}
use Rattle.c_printer.specs.declared.places.Spot.TheVariants.{Entity, Temp, Nowhere}
use Rattle.c_printer.specs.declared.scalar.ScalarType.TheVariants.{Logical}
use Rattle.c_printer.specs.Lowering.{computed, temp_of, value_of}
use Rattle.c_printer.specs.Lowered.{expression_of}
use Rattle.c_printer.specs.Manners.{kind_type, manner_of}
use Rattle.c_printer.specs.Units.{UnitScope, types_of}
use Rattle.c_printer.specs.Values.{Place, Expression, entity_place, integer_constant, only_value, no_expression, typed, entity, temp, unary, binary, converted, intrinsic_value}

abbrev pub spot_of : Expr → Spot
spot_of (e.Var symbol) = Entity symbol
spot_of (e.Temp number) = Temp number
spot_of _ = Nowhere

-- the value of an integer constant
abbrev pub constant_in : Expr → Option ℤ
constant_in (e.IntConst kind value) = Some value
constant_in _ = None

module _ (u : UnitScope) where
  abbrev pub place_of : Spot → Place
  place_of (Entity symbol) = entity_place (path u.asr symbol) (types_of u (path u.asr symbol))
  place_of (Temp number) = record { object = temp_of number; is_narrow = false }
  place_of Nowhere = record { object = value_of 0; is_narrow = false }

  abbrev pub entity_of : SymId → Expression
  entity_of symbol = entity (path u.asr symbol) (types_of u (path u.asr symbol))

  -- an expression by its node, whose parts are known by their numbers
  abbrev pub laid : Expr → Expression
  laid (e.IntConst kind value) = integer_constant kind value
  laid (e.LogConst value) = only_value (λ here. typed Logical (computed (Constant value)))
  laid (e.Var symbol) = entity_of symbol
  laid (e.Unary operator operand) = only_value (unary (operator_of operator) (expression_of u operand).value)
  laid (e.Binary operator left right) = only_value (binary (manner_of (operator_of operator)) (expression_of u left).value (expression_of u right).value)
  laid (e.Convert kind operand) = only_value (converted (kind_type kind) (expression_of u operand).value)
  laid (e.Paren inner) = only_value (expression_of u inner).value
  laid (e.Intrinsic code arguments) = only_value (intrinsic_value (intrinsic_of code) (map (expression_of u) arguments))
  laid (e.Temp number) = temp number
  laid _ = no_expression
