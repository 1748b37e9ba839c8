-- The items of a statement: its tokens, with the groups in brackets read to their parts.
use Rattle.std.specs.Prelude.{ℕ, Bool, true, false, ◌==◌, ◌&&◌, not, length, slice_get, if◌then◌else◌, List, [], ◌∷◌, ◌++◌, Option, Some, None}
use Rattle.std.specs.List.{list_any}
use Rattle.std.specs.Option.{option_map, option_and_then}
use Rattle.ff_lexer.specs.declared.token.Kind.{Kind}
use Rattle.ff_lexer.specs.declared.token.Kind.TheVariants as kind
use Rattle.ff_lexer.specs.Statements.{Spelled}
use Rattle.ff_expressions.specs.declared.item.Parsed.{Parsed}
use Rattle.ff_expressions.specs.declared.item.Mark.TheVariants.{Operator, Comma, Colon, Equals}
use Rattle.ff_expressions.specs.declared.item.Bracket.{Bracket}
use Rattle.ff_expressions.specs.declared.item.Bracket.TheVariants.{Round, Square}
use Rattle.ff_expressions.specs.declared.item.Stride.{Stride}
use Rattle.ff_expressions.specs.declared.item.Stride.TheVariants.{Absent, Missing, Given}
use Rattle.ff_expressions.specs.declared.item.Part.{Part}
use Rattle.ff_expressions.specs.declared.item.Part.TheVariants as part
use Rattle.ff_expressions.specs.declared.item.Item.{Item}
use Rattle.ff_expressions.specs.declared.item.Item.TheVariants as item
use Rattle.ff_expressions.specs.declared.sign.Sign.{Sign}
use Rattle.ff_expressions.specs.declared.sign.Sign.TheVariants as sign
use Rattle.ff_expressions.specs.declared.reader.Opened.{Opened}
use Rattle.ff_expressions.specs.declared.reader.Reader.{Reader}
use Rattle.ff_expressions.specs.Signs.{sign_of, digits_of, suffix_of, text_value}
use Rattle.ff_expressions.specs.Pieces.{stands, is_colon, pieces_of, single_colons, each}
use Rattle.ff_expressions.specs.Expressions.{behind_first, expression_of, is_loop, loop_alone}

-- `*`
abbrev pub is_star : List Item → Bool
is_star items = length items == 1 && stands (Operator 2) (slice_get items 0)

-- `name = e` or `name = *`
abbrev pub is_keyed : List Item → Bool
is_keyed items = stands Equals (slice_get items 1)

abbrev pub keyed_with : List ℕ → List Item → Option Part
keyed_with name value =
    if is_star value then Some (part.Keyed name None) else option_map (λ e. part.Keyed name (Some e)) (expression_of value)

abbrev pub keyed_by : Item → List Item → Option Part
keyed_by (item.Word name) items = keyed_with name (behind_first items)
keyed_by _ items = None

abbrev pub keyed_of : List Item → Option Part
keyed_of [] = None
keyed_of (first ∷ items) = keyed_by first items

-- `l:u` and `l:u:s` (9.5.3.3.1), whose parts may be missing
abbrev pub bound_of : List Item → Option (Option Parsed)
bound_of items = if length items == 0 then Some None else option_map Some (expression_of items)

abbrev pub step_of : Option Parsed → Stride
step_of None = Missing
step_of (Some value) = Given value

abbrev pub section_with : List (Option Parsed) → Option Part
section_with [] = None
section_with (lower ∷ []) = None
section_with (lower ∷ upper ∷ []) = Some (part.Section lower upper Absent)
section_with (lower ∷ upper ∷ step ∷ more) = if length more == 0 then Some (part.Section lower upper (step_of step)) else None

abbrev pub section_of : List Item → Option Part
section_of items = option_and_then section_with (each bound_of (pieces_of Colon (single_colons items)))

-- an implied do or an expression
abbrev pub value_part : List Item → Option Part
value_part items = if is_loop items then option_map part.Implied (loop_alone items) else option_map part.Plain (expression_of items)

-- what stands between the commas of a group
unfoldable pub part_of : List Item → Option Part
part_of items =
    if is_star items then Some part.Star
    else if is_keyed items then keyed_of items
    else if list_any is_colon items then section_of items
    else value_part items

abbrev pub parts_of : List Item → Option (List Part)
parts_of items = if length items == 0 then Some [] else each part_of (pieces_of Comma items)

-- A reader has the groups that are open, the innermost first, each with the items before it, and the items since.
abbrev pub with_item : Reader → Item → Reader
with_item reader item = record { opened = reader.opened; items = reader.items ++ item ∷ [] }

abbrev pub opened_by : Bracket → Reader → Reader
opened_by bracket reader = record { opened = record { bracket = bracket; before = reader.items } ∷ reader.opened; items = [] }

abbrev pub is_round : Bracket → Bool
is_round Round = true
is_round Square = false

abbrev pub same_bracket : Bracket → Bracket → Bool
same_bracket Round other = is_round other
same_bracket Square other = not (is_round other)

abbrev pub closed_with : Opened → List Opened → Option (List Part) → Option Reader
closed_with group opened None = None
closed_with group opened (Some parts) = Some (record { opened = opened; items = group.before ++ item.Group group.bracket parts ∷ [] })

abbrev pub closed_by : Bracket → List Opened → List Item → Option Reader
closed_by bracket [] items = None
closed_by bracket (group ∷ opened) items = if same_bracket group.bracket bracket then closed_with group opened (parts_of items) else None

abbrev pub with_mark : Reader → Option Sign → Option Reader
with_mark reader None = None
with_mark reader (Some (sign.Mark mark)) = Some (with_item reader (item.Mark mark))
with_mark reader (Some (sign.Truth value)) = Some (with_item reader (item.Truth value))
with_mark reader (Some (sign.Opening bracket)) = Some (opened_by bracket reader)
with_mark reader (Some (sign.Closing bracket)) = closed_by bracket reader.opened reader.items

abbrev pub number_of : List ℕ → Item
number_of bytes = item.Number (digits_of bytes) (suffix_of bytes)

abbrev pub with_token : Reader → Kind → List ℕ → Option Reader
with_token reader kind.Word bytes = Some (with_item reader (item.Word bytes))
with_token reader kind.Number bytes = Some (with_item reader (number_of bytes))
with_token reader kind.Text bytes = Some (with_item reader (item.Text (text_value bytes)))
with_token reader kind.Mark bytes = with_mark reader (sign_of bytes)

-- the reader behind a token, if that can stand there
abbrev pub going : Bool → Reader → Option Reader
going true reader = Some reader
going false reader = None

-- At the end no group is open.
abbrev pub end_with : List Opened → List Item → Option (List Item)
end_with [] items = Some items
end_with (group ∷ opened) items = None

abbrev pub end_of : Reader → Option (List Item)
end_of reader = end_with reader.opened reader.items

abbrev pub read_behind : Reader → List Spelled → Option (List Item)
read_behind reader [] = end_of reader
read_behind reader (token ∷ tokens) = option_and_then (λ next. read_behind next tokens) (with_token reader token.0 token.1)

abbrev pub start : Reader
start = record { opened = []; items = [] }

-- the items of a statement, if its brackets match and each part of a group is one
abbrev pub items_of : List Spelled → Option (List Item)
items_of tokens = read_behind start tokens
