-- Types and attributes (ISO/IEC 1539-1:2018, 7.3.2, 7.4.4.2, 8.5).
use Rattle.std.specs.Prelude.{ℕ, List, codes, max, nat_lt, slice_get, Option, Some, None, if◌then◌else◌}
use Rattle.ast_nodes.specs.declared.declaration.Attribute.{Attribute}
use Rattle.ast_nodes.specs.declared.declaration.Attribute.TheVariants as attribute
use Rattle.ast_nodes.specs.declared.declaration.Bound.{Bound}
use Rattle.ast_nodes.specs.declared.declaration.Length.{Length}
use Rattle.ast_nodes.specs.declared.declaration.Length.TheVariants as length_of
use Rattle.ast_nodes.specs.declared.declaration.TypeSpec.{TypeSpec}
use Rattle.ast_nodes.specs.declared.declaration.TypeSpec.TheVariants as type
use Rattle.ast_nodes.specs.declared.expression.Designator.{Designator}
use Rattle.ast_nodes.specs.declared.expression.Expr.{Expr, out-Expr}
use Rattle.ast_nodes.specs.declared.expression.Expr.TheOpen.{Expr-F}
use Rattle.ast_nodes.specs.declared.expression.RefPart.{RefPart}
use Rattle.ff_expressions.specs.declared.item.Item.{Item}
use Rattle.ff_expressions.specs.declared.item.Parsed.{Parsed}
use Rattle.ff_expressions.specs.declared.item.Part.{Part}
use Rattle.ff_expressions.specs.declared.item.Part.TheVariants.{Star, Plain, Keyed, Section}
use Rattle.ff_expressions.specs.declared.item.Stride.TheVariants.{Absent}
use Rattle.ff_forms.specs.Answers.{on, Read, each}
use Rattle.ff_forms.specs.Shapes.{is, nothing, something, only_one, word_first, group_first, only_group, is_group, one_name}

-- a kind: the digit 4 or 8, without a suffix
unfoldable pub kind_of_digits : List ℕ → ℕ → Option ℕ
kind_of_digits digits suffix =
    if nat_lt 0 suffix then None
    else if is digits (codes "4") then Some 4
    else if is digits (codes "8") then Some 8
    else None

unfoldable pub kind_layer : Expr-F Expr RefPart Designator → Option ℕ
kind_layer (Expr-F.Int digits suffix) = kind_of_digits digits suffix
kind_layer other = None

unfoldable pub kind_in : Expr → Option ℕ
kind_in e = kind_layer (out-Expr e)

unfoldable pub kind_keyed : List ℕ → Parsed → Option ℕ
kind_keyed name value = if is name (codes "kind") then kind_in value.tree else None

-- `4` or `kind=4`
unfoldable pub kind_part : Part → Option ℕ
kind_part (Plain value) = kind_in value.tree
kind_part (Keyed name (Some value)) = kind_keyed name value
kind_part other = None

unfoldable pub one_kind : List Part → Option ℕ
one_kind parts = on (only_one parts) kind_part

-- the type behind `integer`, and what is behind it
unfoldable pub integer_type : List Item → Option (TypeSpec × List Item)
integer_type items =
    if is_group (slice_get items 0)
    then on (group_first items) (λ group. on (one_kind group.0) (λ kind. Some (type.Integer kind, group.1)))
    else Some (type.Integer 4, items)

unfoldable pub length_value : Option Parsed → Length × ℕ
length_value None = (length_of.Star, 0)
length_value (Some value) = (length_of.Given value.tree, value.depth)

unfoldable pub length_keyed : List ℕ → Option Parsed → Read Length
length_keyed name value = if is name (codes "len") then Some (length_value value) else None

-- `*`, `e`, or either behind `len=`
unfoldable pub length_part : Part → Read Length
length_part Star = Some (length_of.Star, 0)
length_part (Plain value) = Some (length_value (Some value))
length_part (Keyed name value) = length_keyed name value
length_part other = None

unfoldable pub one_length : List Part → Read Length
one_length parts = on (only_one parts) length_part

-- the type behind `character`, with its depth, and what is behind it
unfoldable pub character_type : List Item → Option (TypeSpec × ℕ × List Item)
character_type items =
    if is_group (slice_get items 0)
    then on (group_first items) (λ group. on (one_length group.0) (λ length. Some (type.Character (Some length.0), length.1, group.1)))
    else Some (type.Character None, 0, items)

-- the type behind `type`, and what is behind it
unfoldable pub derived_type : List Item → Option (TypeSpec × List Item)
derived_type items = on (group_first items) (λ group. on (one_name group.0) (λ name. Some (type.Derived name, group.1)))

unfoldable pub upper_bound : Parsed → Bound × ℕ
upper_bound value = (record { lower = None; upper = Some value.tree }, value.depth)

unfoldable pub both_bounds : Parsed → Parsed → Bound × ℕ
both_bounds lower upper = (record { lower = Some lower.tree; upper = Some upper.tree }, max lower.depth upper.depth)

unfoldable pub section_bound : Option Parsed → Option Parsed → Read Bound
section_bound (Some lower) (Some upper) = Some (both_bounds lower upper)
section_bound None None = Some (record { lower = None; upper = None }, 0)
section_bound lower upper = None

-- a bound: `e`, `e:e` or `:`
unfoldable pub bound_of : Part → Read Bound
bound_of (Plain value) = Some (upper_bound value)
bound_of (Section lower upper Absent) = section_bound lower upper
bound_of other = None

-- at least one bound
unfoldable pub bounds_of : List Part → Read (List Bound)
bounds_of parts = on (something parts) (λ _. each bound_of parts)

unfoldable pub intent_code : List ℕ → Option ℕ
intent_code name =
    if is name (codes "in") then Some 1
    else if is name (codes "out") then Some 2
    else if is name (codes "inout") then Some 3
    else None

unfoldable pub intent_of : List Item → Read Attribute
intent_of items = on (only_group items) (λ parts. on (one_name parts) (λ name. on (intent_code name) (λ code. Some (attribute.Intent code, 0))))

unfoldable pub dimension_of : List Item → Read Attribute
dimension_of items = on (only_group items) (λ parts. on (bounds_of parts) (λ bounds. Some (attribute.Dimension bounds.0, bounds.1)))

-- an attribute of one word
unfoldable pub word_attribute : List ℕ → Option Attribute
word_attribute name =
    if is name (codes "parameter") then Some attribute.Parameter
    else if is name (codes "save") then Some attribute.Save
    else if is name (codes "private") then Some attribute.Private
    else if is name (codes "public") then Some attribute.Public
    else None

unfoldable pub bare_attribute : List ℕ → List Item → Read Attribute
bare_attribute name rest = on (word_attribute name) (λ attribute. on (nothing rest) (λ _. Some (attribute, 0)))

unfoldable pub attribute_named : List ℕ → List Item → Read Attribute
attribute_named name rest =
    if is name (codes "dimension") then dimension_of rest
    else if is name (codes "intent") then intent_of rest
    else bare_attribute name rest

unfoldable pub attribute_of : List Item → Read Attribute
attribute_of items = on (word_first items) (λ found. attribute_named found.0 found.1)
