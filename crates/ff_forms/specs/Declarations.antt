-- Type declarations (ISO/IEC 1539-1:2018, 8.2): the attributes and the entities behind a type.
use Rattle.std.specs.Prelude.{ℕ, Bool, true, false, List, [], ◌∷◌, max, slice_get, Option, Some, None, if◌then◌else◌}
use Rattle.ast_nodes.specs.declared.declaration.Attribute.{Attribute}
use Rattle.ast_nodes.specs.declared.declaration.Bound.{Bound}
use Rattle.ast_nodes.specs.declared.declaration.Entity.{Entity}
use Rattle.ast_nodes.specs.declared.declaration.TypeSpec.{TypeSpec}
use Rattle.ast_nodes.specs.declared.expression.Expr.{Expr}
use Rattle.ff_expressions.specs.declared.item.Item.{Item}
use Rattle.ff_expressions.specs.declared.item.Mark.TheVariants.{Comma, DoubleColon}
use Rattle.ff_expressions.specs.Pieces.{pieces_of}
use Rattle.ff_forms.specs.declared.form.Form.{Form}
use Rattle.ff_forms.specs.declared.form.Form.TheVariants as form
use Rattle.ff_forms.specs.Answers.{on, Read, each}
use Rattle.ff_forms.specs.Shapes.{nothing, first_of, word_first, group_first, is_group, behind_comma, behind_equals, expression_in}
use Rattle.ff_forms.specs.Types.{bounds_of, attribute_of}

-- the bounds that may stand behind a name, with their depth, and what is behind them
unfoldable pub own_bounds : List Item → Option (List Bound × ℕ × List Item)
own_bounds items =
    if is_group (slice_get items 0)
    then on (group_first items) (λ group. on (bounds_of group.0) (λ bounds. Some (bounds.0, bounds.1, group.1)))
    else Some ([], 0, items)

unfoldable pub value_behind : List Item → Read (Option Expr)
value_behind items = on (behind_equals items) (λ rest. on (expression_in rest) (λ e. Some (Some e.0, e.1)))

-- the value that may stand behind a name, where values may stand at all
unfoldable pub own_value : Bool → List Item → Read (Option Expr)
own_value may [] = Some (None, 0)
own_value may (item ∷ items) = if may then value_behind (item ∷ items) else None

unfoldable pub entity_behind : Bool → List ℕ → List Item → Read Entity
entity_behind may name items =
    on (own_bounds items) (λ bounds. on (own_value may bounds.2) (λ value.
    Some (record { name = name; bounds = bounds.0; init = value.0 }, max bounds.1 value.1)))

-- an entity (R803)
unfoldable pub entity_of : Bool → List Item → Read Entity
entity_of may items = on (word_first items) (λ found. entity_behind may found.0 found.1)

unfoldable pub entities_of : Bool → List Item → Read (List Entity)
entities_of may items = each (entity_of may) (pieces_of Comma items)

-- `, attributes`, which may be missing
unfoldable pub attributes_of : List Item → Read (List Attribute)
attributes_of [] = Some ([], 0)
attributes_of (item ∷ items) = on (behind_comma (item ∷ items)) (λ rest. each attribute_of (pieces_of Comma rest))

-- attributes and entities
abbrev pub Declared : Type 0
Declared = Option (List Attribute × List Entity × ℕ)

-- without `::`
unfoldable pub plain_declared : List Item → Declared
plain_declared items = on (entities_of false items) (λ entities. Some ([], entities.0, entities.1))

-- with the attributes in front of `::` and the entities behind it, which may have values
unfoldable pub full_declared : List Item → List Item → Declared
full_declared front items =
    on (attributes_of front) (λ attributes. on (entities_of true items) (λ entities.
    Some (attributes.0, entities.0, max attributes.1 entities.1)))

unfoldable pub declared_behind : List Item → List (List Item) → Declared
declared_behind front [] = plain_declared front
declared_behind front (items ∷ pieces) = on (nothing pieces) (λ _. full_declared front items)

-- what stands behind a type
unfoldable pub declared_of : List Item → Declared
declared_of items = on (first_of (pieces_of DoubleColon items)) (λ found. declared_behind found.0 found.1)

-- a declaration of this type, whose depth is given
unfoldable pub declaration_of : ℕ → TypeSpec → ℕ → List Item → Read Form
declaration_of line type_spec depth items =
    on (declared_of items) (λ declared.
    Some (form.Variables (record { line = line; type_spec = type_spec; attributes = declared.0; entities = declared.1 }), max depth declared.2))
