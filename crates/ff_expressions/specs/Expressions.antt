-- The expression that a list of items is (ISO/IEC 1539-1:2018, 10.1.2, R1001 to R1022). Groups have been read, so that
-- the list is flat: each level takes it apart at its own operators.
use Rattle.std.specs.Prelude.{ℕ, ◌+◌, Bool, true, false, ◌==◌, ◌||◌, ◌&&◌, nat_lt, length, slice_get, if◌then◌else◌, List, [], ◌∷◌, Option, Some, None}
use Rattle.std.specs.Option.{is_some, option_map, option_and_then}
use Rattle.ast_nodes.specs.declared.expression.Expr.TheVariants as expr
use Rattle.ff_expressions.specs.declared.item.Parsed.{Parsed}
use Rattle.ff_expressions.specs.declared.item.Reference.{Reference}
use Rattle.ff_expressions.specs.declared.item.Mark.{Mark}
use Rattle.ff_expressions.specs.declared.item.Mark.TheVariants.{Operator, Percent}
use Rattle.ff_expressions.specs.declared.item.Bracket.{Bracket}
use Rattle.ff_expressions.specs.declared.item.Bracket.TheVariants.{Round, Square}
use Rattle.ff_expressions.specs.declared.item.Part.{Part}
use Rattle.ff_expressions.specs.declared.item.Part.TheVariants as part
use Rattle.ff_expressions.specs.declared.item.Item.{Item}
use Rattle.ff_expressions.specs.declared.item.Item.TheVariants as item
use Rattle.ff_expressions.specs.declared.group.Arguments.{Arguments}
use Rattle.ff_expressions.specs.declared.group.GroupRole.{GroupRole}
use Rattle.ff_expressions.specs.declared.group.GroupRole.TheVariants.{Argument, Element}
use Rattle.ff_expressions.specs.declared.level.Level.{Level}
use Rattle.ff_expressions.specs.declared.level.Level.TheVariants.{Equivalence, Disjunction, Conjunction, Relation, Concatenation, Addition, Multiplication, Power}
use Rattle.ff_expressions.specs.Pieces.{mark_number, there, stands, each}
use Rattle.ff_expressions.specs.Trees.{leaf, unary, binary, paren, value_of, triple, no_arguments, with_argument, array, implied_do, nothing_named, with_name, with_group, as_expression}

-- an argument of a group, and an element of a constructor or an implied do
abbrev pub argument : Part → Option Parsed
argument (part.Plain value) = Some value
argument (part.Section lower upper step) = Some (triple lower upper (value_of step))
argument _ = None

abbrev pub element : Part → Option Parsed
element (part.Plain value) = Some value
element (part.Implied value) = Some value
element _ = None

abbrev pub value_at : GroupRole → Part → Option Parsed
value_at Argument = argument
value_at Element = element

-- the values of parts, behind those that have been read
abbrev pub values_behind : GroupRole → Arguments → List Part → Option Arguments
values_behind place before [] = Some before
values_behind place before (part ∷ parts) = option_and_then (λ value. values_behind place (with_argument before value) parts) (value_at place part)

abbrev pub values_of : GroupRole → List Part → Option Arguments
values_of place parts = values_behind place no_arguments parts

abbrev pub arguments_of : List Part → Option Arguments
arguments_of parts = values_of Argument parts

-- an expression
abbrev pub plain : Part → Option Parsed
plain (part.Plain value) = Some value
plain _ = None

-- An implied do (R774, R1218): at least one item, the variable with its lower bound, the upper bound, and a step or none.
abbrev pub loop_with : Arguments → List ℕ → Parsed → List Parsed → Option Parsed
loop_with items variable lower [] = None
loop_with items variable lower (upper ∷ []) = Some (implied_do variable lower upper None items)
loop_with items variable lower (upper ∷ step ∷ more) =
    if length more == 0 then Some (implied_do variable lower upper (Some step) items) else None

abbrev pub loop_over : Arguments → List ℕ → Option Parsed → List Part → Option Parsed
loop_over items variable None bounds = None
loop_over items variable (Some lower) bounds =
    if length items.list == 0 then None else option_and_then (loop_with items variable lower) (each plain bounds)

-- with the parts that stand behind these items
abbrev pub loop_behind : Arguments → List Part → Option Parsed
loop_behind items [] = None
loop_behind items (part.Plain value ∷ parts) = loop_behind (with_argument items value) parts
loop_behind items (part.Implied value ∷ parts) = loop_behind (with_argument items value) parts
loop_behind items (part.Keyed variable lower ∷ bounds) = loop_over items variable lower bounds
loop_behind items (part.Star ∷ parts) = None
loop_behind items (part.Section lower upper step ∷ parts) = None

abbrev pub loop_of : List Part → Option Parsed
loop_of parts = loop_behind no_arguments parts

-- A group in parentheses with several parts that stands alone can only be an implied do.
abbrev pub has_several : Bracket → List Part → Bool
has_several Round parts = nat_lt 1 (length parts)
has_several Square parts = false

abbrev pub is_several : Item → Bool
is_several (item.Group bracket parts) = has_several bracket parts
is_several _ = false

abbrev pub is_loop : List Item → Bool
is_loop items = length items == 1 && there is_several (slice_get items 0)

abbrev pub loop_in : Item → Option Parsed
loop_in (item.Group bracket parts) = loop_of parts
loop_in _ = None

abbrev pub loop_alone : List Item → Option Parsed
loop_alone [] = None
loop_alone (first ∷ items) = loop_in first

-- A designator (R901, R1520): a name is due in front and behind each `%`, and a group or `%` may stand behind each part.
abbrev pub with_due_name : Reference → Item → Option (Bool × Reference)
with_due_name before (item.Word name) = Some (false, with_name before name)
with_due_name before _ = None

abbrev pub group_behind : Reference → Bracket → List Part → Option (Bool × Reference)
group_behind before Round parts = option_map (λ arguments. (false, with_group before arguments)) (arguments_of parts)
group_behind before Square parts = None

abbrev pub with_more : Reference → Item → Option (Bool × Reference)
with_more before (item.Group bracket parts) = group_behind before bracket parts
with_more before (item.Mark mark) = if mark_number mark == mark_number Percent then Some (true, before) else None
with_more before _ = None

abbrev pub with_link : Bool → Reference → Item → Option (Bool × Reference)
with_link true = with_due_name
with_link false = with_more

abbrev pub whole : Bool → Reference → Option Reference
whole true reference = None
whole false reference = Some reference

abbrev pub designator_behind : Bool → Reference → List Item → Option Reference
designator_behind due before [] = whole due before
designator_behind due before (item ∷ items) = option_and_then (λ next. designator_behind next.0 next.1 items) (with_link due before item)

unfoldable pub reference_of : List Item → Option Reference
reference_of items = designator_behind true nothing_named items

-- A primary (R1001): a designator, a literal, an expression in parentheses or an array constructor.
abbrev pub paren_of : List Part → Option Parsed
paren_of [] = None
paren_of (first ∷ parts) = if length parts == 0 then option_map paren (plain first) else None

abbrev pub array_with : Arguments → Option Parsed
array_with items = if length items.list == 0 then None else Some (array items)

abbrev pub array_of : List Part → Option Parsed
array_of parts = option_and_then array_with (values_of Element parts)

abbrev pub group_alone : Bracket → List Part → Option Parsed
group_alone Round parts = paren_of parts
group_alone Square parts = array_of parts

abbrev pub literal : Item → Option Parsed
literal (item.Number digits suffix) = Some (leaf (expr.Int digits suffix))
literal (item.Truth value) = Some (leaf (expr.Log value))
literal (item.Text bytes) = Some (leaf (expr.Char bytes))
literal (item.Group bracket parts) = group_alone bracket parts
literal _ = None

abbrev pub literal_alone : List Item → Option Parsed
literal_alone [] = None
literal_alone (first ∷ items) = if length items == 0 then literal first else None

abbrev pub is_name : Item → Bool
is_name (item.Word name) = true
is_name _ = false

unfoldable pub primary_of : List Item → Option Parsed
primary_of items = if there is_name (slice_get items 0) then option_map as_expression (reference_of items) else literal_alone items

-- the operators of each level, by their codes
abbrev pub belongs : Level → ℕ → Bool
belongs Equivalence code = code == 14 || code == 15
belongs Disjunction code = code == 13
belongs Conjunction code = code == 12
belongs Relation code = code == 6 || code == 7 || code == 8 || code == 9 || code == 10 || code == 11
belongs Concatenation code = code == 5
belongs Addition code = code == 0 || code == 1
belongs Multiplication code = code == 2 || code == 3
belongs Power code = code == 4

-- the operator that a mark or an item is, if it is one of this level
abbrev pub operator_of : Level → Mark → Option ℕ
operator_of level (Operator code) = if belongs level code then Some code else None
operator_of level _ = None

abbrev pub operator_at : Level → Item → Option ℕ
operator_at level (item.Mark mark) = operator_of level mark
operator_at level _ = None

-- the items in front of the first operator of the level
abbrev pub first_by : Option ℕ → Item → List Item → List Item
first_by None item items = item ∷ items
first_by (Some code) item items = []

abbrev pub first_operand : Level → List Item → List Item
first_operand level [] = []
first_operand level (item ∷ items) = first_by (operator_at level item) item (first_operand level items)

-- whether an item is an operator of the level
abbrev pub is_at : Level → Item → Bool
is_at level one = is_some (operator_at level one)

-- each operator of the level, with the items behind it up to the next
abbrev pub others_by : Option ℕ → List Item → List (ℕ × List Item) → List (ℕ × List Item)
others_by None operand others = others
others_by (Some code) operand others = (code, operand) ∷ others

abbrev pub other_operands : Level → List Item → List (ℕ × List Item)
other_operands level [] = []
other_operands level (item ∷ items) = others_by (operator_at level item) (first_operand level items) (other_operands level items)

-- the same behind an operand that an operator ends, if one does
abbrev pub others_after : Level → Option ℕ → List Item → List (ℕ × List Item)
others_after level None items = []
others_after level (Some code) items = (code, first_operand level items) ∷ other_operands level items

-- how many items are left behind such an operand, and one for the operator
abbrev pub still_left : Option ℕ → List Item → ℕ
still_left None items = 0
still_left (Some code) items = length items + 1

abbrev pub joined : ℕ → Option Parsed → Option Parsed → Option Parsed
joined operator None right = None
joined operator (Some left) None = None
joined operator (Some left) (Some right) = Some (binary operator left right)

-- operators that associate to the left
abbrev pub to_left : (List Item → Option Parsed) → Option Parsed → List (ℕ × List Item) → Option Parsed
to_left operand left [] = left
to_left operand left (other ∷ others) = to_left operand (joined other.0 left (operand other.1)) others

-- and to the right
abbrev pub to_right : (List Item → Option Parsed) → List Item → List (ℕ × List Item) → Option Parsed
to_right operand first [] = operand first
to_right operand first (other ∷ others) = joined other.0 (operand first) (to_right operand other.1 others)

-- and not at all
abbrev pub at_most_two : (List Item → Option Parsed) → Option Parsed → List (ℕ × List Item) → Option Parsed
at_most_two operand left [] = left
at_most_two operand left (other ∷ []) = joined other.0 left (operand other.1)
at_most_two operand left _ = None

abbrev pub left_level : Level → (List Item → Option Parsed) → List Item → Option Parsed
left_level level operand items = to_left operand (operand (first_operand level items)) (other_operands level items)

-- mult-operand (R1004)
unfoldable pub power_of : List Item → Option Parsed
power_of items = to_right primary_of (first_operand Power items) (other_operands Power items)

-- bases with their operators, the last one in front, raised to what stands behind them
abbrev pub raised : List (Option Parsed × ℕ) → Option Parsed → Option Parsed
raised [] exponent = exponent
raised (base ∷ bases) exponent = raised bases (joined base.1 base.0 exponent)

-- add-operand (R1005)
unfoldable pub term_of : List Item → Option Parsed
term_of items = left_level Multiplication power_of items

-- an operator of the level in front, and what stands behind it
abbrev pub operator_in : Level → Option Item → Option ℕ
operator_in level None = None
operator_in level (Some first) = operator_at level first

abbrev pub sign_in_front : List Item → Option ℕ
sign_in_front items = operator_in Addition (slice_get items 0)

abbrev pub behind_first : List Item → List Item
behind_first [] = []
behind_first (first ∷ items) = items

abbrev pub behind_sign : Option ℕ → List Item → List Item
behind_sign None items = items
behind_sign (Some code) items = behind_first items

abbrev pub with_sign : Option ℕ → Option Parsed → Option Parsed
with_sign None value = value
with_sign (Some code) value = option_map (unary code) value

-- level-2-expr (R1006): a sign stands only in front of the first operand, and binds it alone.
abbrev pub sum_behind : Option ℕ → List Item → Option Parsed
sum_behind sign items = to_left term_of (with_sign sign (term_of (first_operand Addition items))) (other_operands Addition items)

unfoldable pub sum_of : List Item → Option Parsed
sum_of items = sum_behind (sign_in_front items) (behind_sign (sign_in_front items) items)

-- level-3-expr (R1010)
unfoldable pub text_of : List Item → Option Parsed
text_of items = left_level Concatenation sum_of items

-- level-4-expr (R1012)
unfoldable pub relation_of : List Item → Option Parsed
relation_of items = at_most_two text_of (text_of (first_operand Relation items)) (other_operands Relation items)

-- and-operand (R1014)
unfoldable pub negation_of : List Item → Option Parsed
negation_of items = if stands (Operator 16) (slice_get items 0) then option_map (unary 16) (relation_of (behind_first items)) else relation_of items

-- or-operand (R1015)
unfoldable pub conjunction_of : List Item → Option Parsed
conjunction_of items = left_level Conjunction negation_of items

-- equiv-operand (R1016)
unfoldable pub disjunction_of : List Item → Option Parsed
disjunction_of items = left_level Disjunction conjunction_of items

-- level-5-expr, expr (R1017, R1022)
unfoldable pub expression_of : List Item → Option Parsed
expression_of items = left_level Equivalence disjunction_of items

-- what stands between the operators of a level
abbrev pub operand_of : Level → List Item → Option Parsed
operand_of Equivalence = disjunction_of
operand_of Disjunction = conjunction_of
operand_of Conjunction = negation_of
operand_of Relation = text_of
operand_of Concatenation = sum_of
operand_of Addition = term_of
operand_of Multiplication = power_of
operand_of Power = primary_of

-- an item of a list to be written: an expression or an implied do
abbrev pub output_of : List Item → Option Parsed
output_of items = if is_loop items then loop_alone items else expression_of items
