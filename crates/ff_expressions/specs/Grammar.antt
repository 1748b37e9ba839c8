-- The grammar of expressions, case by case (ISO/IEC 1539-1:2018, R1001 to R1022): which items an operand or an expression is made of,
-- apart from how lists are taken apart at operators. Groups in brackets have been read.
use Rattle.std.specs.Prelude.{ℕ, List, [], ◌∷◌, ◌++◌, Option}
use Rattle.ast_nodes.specs.declared.expression.Expr.TheVariants as expr
use Rattle.ff_expressions.specs.declared.item.Parsed.{Parsed}
use Rattle.ff_expressions.specs.declared.item.Reference.{Reference}
use Rattle.ff_expressions.specs.declared.item.Mark.TheVariants.{Operator, Percent}
use Rattle.ff_expressions.specs.declared.item.Bracket.TheVariants.{Round, Square}
use Rattle.ff_expressions.specs.declared.item.Part.{Part}
use Rattle.ff_expressions.specs.declared.item.Part.TheVariants as part
use Rattle.ff_expressions.specs.declared.item.Stride.{Stride}
use Rattle.ff_expressions.specs.declared.item.Item.{Item}
use Rattle.ff_expressions.specs.declared.item.Item.TheVariants as item
use Rattle.ff_expressions.specs.declared.group.Arguments.{Arguments}
use Rattle.ff_expressions.specs.declared.group.GroupRole.{GroupRole}
use Rattle.ff_expressions.specs.declared.group.GroupRole.TheVariants.{Argument, Element}
use Rattle.ff_expressions.specs.declared.level.Level.{Level}
use Rattle.ff_expressions.specs.declared.level.Level.TheVariants as level
use Rattle.ff_expressions.specs.Trees.{leaf, unary, binary, paren, value_of, triple, no_arguments, with_argument, array, nothing_named, with_name, with_group, as_expression}

-- What may stand between the commas of a group: an expression or a section in arguments (R1524, R920), an expression or an implied do in
-- an array constructor (R773).
pub data IsValue : GroupRole → Part → Parsed → Type 0 where
  argument : {value : Parsed} → IsValue Argument (part.Plain value) value
  section : {lower upper : Option Parsed} {step : Stride} → IsValue Argument (part.Section lower upper step) (triple lower upper (value_of step))
  element : {value : Parsed} → IsValue Element (part.Plain value) value
  implied : {value : Parsed} → IsValue Element (part.Implied value) value

-- all that stands in the group, from left to right
pub data AreValues (place : GroupRole) : List Part → Arguments → Type 0 where
  none : AreValues place [] no_arguments
  one_more : {parts : List Part} {before : Arguments} {last : Part} {value : Parsed} → AreValues place parts before → IsValue place last value
      → AreValues place (parts ++ last ∷ []) (with_argument before value)

-- A designator or a function reference (R901, R911, R1520): a name, and behind it groups of arguments and components.
pub data IsDesignator : List Item → Reference → Type 0 where
  name : {name : List ℕ} → IsDesignator (item.Word name ∷ []) (with_name nothing_named name)
  with_arguments : {front : List Item} {before : Reference} {parts : List Part} {arguments : Arguments} → IsDesignator front before → AreValues Argument parts arguments
      → IsDesignator (front ++ item.Group Round parts ∷ []) (with_group before arguments)
  component : {front : List Item} {before : Reference} (name : List ℕ) → IsDesignator front before
      → IsDesignator (front ++ item.Mark Percent ∷ item.Word name ∷ []) (with_name before name)

-- primary (R1001): a designator or a function reference, a literal, an expression in parentheses, an array constructor that is not empty
pub data IsPrimary : List Item → Parsed → Type 0 where
  designator : {items : List Item} {reference : Reference} → IsDesignator items reference → IsPrimary items (as_expression reference)
  number : {digits : List ℕ} {suffix : ℕ} → IsPrimary (item.Number digits suffix ∷ []) (leaf (expr.Int digits suffix))
  truth : {value : ℕ} → IsPrimary (item.Truth value ∷ []) (leaf (expr.Log value))
  text : {bytes : List ℕ} → IsPrimary (item.Text bytes ∷ []) (leaf (expr.Char bytes))
  in_parentheses : {inner : Parsed} → IsPrimary (item.Group Round (part.Plain inner ∷ []) ∷ []) (paren inner)
  constructor : {parts : List Part} {before : Arguments} {last : Part} {value : Parsed} → AreValues Element parts before → IsValue Element last value
      → IsPrimary (item.Group Square (parts ++ last ∷ []) ∷ []) (array (with_argument before value))

-- the operators of each level (R1007 to R1009, R1011, R1013, R1018 to R1021)
pub data IsOperator : Level → ℕ → Type 0 where
  -- `**`
  power : IsOperator level.Power 4
  -- `*` and `/`
  times : IsOperator level.Multiplication 2
  over : IsOperator level.Multiplication 3
  -- `+` and `-`
  plus : IsOperator level.Addition 0
  minus : IsOperator level.Addition 1
  -- `//`
  concatenated : IsOperator level.Concatenation 5
  -- `==`, `/=`, `<`, `<=`, `>` and `>=`, and `.eq.` to `.ge.`
  equal : IsOperator level.Relation 6
  unequal : IsOperator level.Relation 7
  less : IsOperator level.Relation 8
  at_most : IsOperator level.Relation 9
  greater : IsOperator level.Relation 10
  at_least : IsOperator level.Relation 11
  -- `.and.`
  and : IsOperator level.Conjunction 12
  -- `.or.`
  or : IsOperator level.Disjunction 13
  -- `.eqv.` and `.neqv.`
  equivalent : IsOperator level.Equivalence 14
  unequivalent : IsOperator level.Equivalence 15

-- Operands joined from the left by operators of one level: the first operand, or what is joined, an operator and one more operand.
pub data IsJoined (of : Level) (IsFirst IsOperand : List Item → Parsed → Type 0) : List Item → Parsed → Type 0 where
  first : {items : List Item} {a : Parsed} → IsFirst items a → IsJoined of IsFirst IsOperand items a
  joined : {front behind : List Item} {code : ℕ} {a b : Parsed} → IsJoined of IsFirst IsOperand front a → IsOperator of code → IsOperand behind b
      → IsJoined of IsFirst IsOperand (front ++ item.Mark (Operator code) ∷ behind) (binary code a b)

-- mult-operand (R1004): `**` associates to the right.
pub data IsPower : List Item → Parsed → Type 0 where
  primary : {items : List Item} {a : Parsed} → IsPrimary items a → IsPower items a
  power : {front behind : List Item} {code : ℕ} {a b : Parsed} → IsPrimary front a → IsOperator level.Power code → IsPower behind b
      → IsPower (front ++ item.Mark (Operator code) ∷ behind) (binary code a b)

-- add-operand (R1005): [ add-operand mult-op ] mult-operand
abbrev pub IsTerm : List Item → Parsed → Type 0
IsTerm = IsJoined level.Multiplication IsPower IsPower

-- A sign stands only in front of the first operand of a sum, and binds it alone.
pub data IsSigned : List Item → Parsed → Type 0 where
  unsigned : {items : List Item} {a : Parsed} → IsTerm items a → IsSigned items a
  signed : {items : List Item} {code : ℕ} {a : Parsed} → IsOperator level.Addition code → IsTerm items a → IsSigned (item.Mark (Operator code) ∷ items) (unary code a)

-- level-2-expr (R1006): [ [ level-2-expr ] add-op ] add-operand
abbrev pub IsSum : List Item → Parsed → Type 0
IsSum = IsJoined level.Addition IsSigned IsTerm

-- level-3-expr (R1010): [ level-3-expr concat-op ] level-2-expr
abbrev pub IsText : List Item → Parsed → Type 0
IsText = IsJoined level.Concatenation IsSum IsSum

-- level-4-expr (R1012): [ level-3-expr rel-op ] level-3-expr
pub data IsRelation : List Item → Parsed → Type 0 where
  text : {items : List Item} {a : Parsed} → IsText items a → IsRelation items a
  relation : {front behind : List Item} {code : ℕ} {a b : Parsed} → IsText front a → IsOperator level.Relation code → IsText behind b
      → IsRelation (front ++ item.Mark (Operator code) ∷ behind) (binary code a b)

-- and-operand (R1014): [ `.not.` ] level-4-expr
pub data IsNegation : List Item → Parsed → Type 0 where
  relation : {items : List Item} {a : Parsed} → IsRelation items a → IsNegation items a
  negation : {items : List Item} {a : Parsed} → IsRelation items a → IsNegation (item.Mark (Operator 16) ∷ items) (unary 16 a)

-- or-operand (R1015): [ or-operand and-op ] and-operand
abbrev pub IsConjunction : List Item → Parsed → Type 0
IsConjunction = IsJoined level.Conjunction IsNegation IsNegation

-- equiv-operand (R1016): [ equiv-operand or-op ] or-operand
abbrev pub IsDisjunction : List Item → Parsed → Type 0
IsDisjunction = IsJoined level.Disjunction IsConjunction IsConjunction

-- level-5-expr, expr (R1017, R1022): [ level-5-expr equiv-op ] equiv-operand
abbrev pub IsExpression : List Item → Parsed → Type 0
IsExpression = IsJoined level.Equivalence IsDisjunction IsDisjunction
