-- The heads of procedures (ISO/IEC 1539-1:2018, 15.6.2), and what begins with a type: a function or a declaration.
use Rattle.std.specs.Prelude.{ℕ, Bool, List, [], ◌∷◌, codes, slice_get, Option, Some, None, if◌then◌else◌, ◌&&◌}
use Rattle.ast_nodes.specs.declared.declaration.TypeSpec.{TypeSpec}
use Rattle.ast_nodes.specs.declared.declaration.TypeSpec.TheVariants as type
use Rattle.ff_expressions.specs.declared.item.Item.{Item}
use Rattle.ff_forms.specs.declared.form.Form.{Form}
use Rattle.ff_forms.specs.declared.form.Form.TheVariants as form
use Rattle.ff_forms.specs.Answers.{on, Read}
use Rattle.ff_forms.specs.Shapes.{is, word_first, behind_word, group_first, only_group, is_word, spells, one_name}
use Rattle.ff_forms.specs.Names.{dummies_of}
use Rattle.ff_forms.specs.Types.{integer_type, character_type, derived_type}
use Rattle.ff_forms.specs.Declarations.{declaration_of}

-- the dummies of a subroutine, which may be missing
unfoldable pub subroutine_dummies : List Item → Option (List (List ℕ))
subroutine_dummies [] = Some []
subroutine_dummies (item ∷ items) = on (only_group (item ∷ items)) dummies_of

-- what stands behind `subroutine`: `N {(dummies)}`
unfoldable pub subroutine_of : List Item → Read Form
subroutine_of items =
    on (word_first items) (λ name. on (subroutine_dummies name.1) (λ dummies.
    Some (form.Procedure name.0 0 None dummies None, 0)))

unfoldable pub result_name : List Item → Option (Option (List ℕ))
result_name items = on (behind_word (codes "result") items) (λ rest. on (only_group rest) (λ parts. on (one_name parts) (λ name. Some (Some name))))

-- `result(N)`, which may be missing
unfoldable pub result_of : List Item → Option (Option (List ℕ))
result_of [] = Some None
result_of (item ∷ items) = result_name (item ∷ items)

-- the dummies and the result of a function
unfoldable pub function_behind : Option TypeSpec → List ℕ → List Item → Read Form
function_behind type_spec name items =
    on (group_first items) (λ group. on (dummies_of group.0) (λ dummies. on (result_of group.1) (λ result_name.
    Some (form.Procedure name 1 type_spec dummies result_name, 0))))

-- what stands behind `function`: `N (dummies) {result(N)}`
unfoldable pub function_of : Option TypeSpec → List Item → Read Form
function_of type_spec items = on (word_first items) (λ name. function_behind type_spec name.0 name.1)

-- `function N` stands in front, which begins no entity
unfoldable pub begins_function : List Item → Bool
begins_function items = spells (codes "function") (slice_get items 0) && is_word (slice_get items 1)

unfoldable pub begins_recursive : List Item → Bool
begins_recursive items = spells (codes "recursive") (slice_get items 0) && spells (codes "function") (slice_get items 1) && is_word (slice_get items 2)

-- what stands behind `function` as the next word
unfoldable pub behind_function : Option TypeSpec → List Item → Read Form
behind_function type_spec items = on (behind_word (codes "function") items) (function_of type_spec)

-- what stands behind `recursive function`
unfoldable pub behind_recursive : Option TypeSpec → List Item → Read Form
behind_recursive type_spec items = on (behind_word (codes "recursive") items) (behind_function type_spec)

-- what stands behind `integer{(kind)}` or `logical`: a function, or the entities of a declaration
unfoldable pub typed_of : ℕ → TypeSpec → List Item → Read Form
typed_of line type_spec items =
    if begins_function items then behind_function (Some type_spec) items
    else if begins_recursive items then behind_recursive (Some type_spec) items
    else declaration_of line type_spec 0 items

unfoldable pub integer_row : ℕ → List Item → Read Form
integer_row line items = on (integer_type items) (λ found. typed_of line found.0 found.1)

unfoldable pub character_row : ℕ → List Item → Read Form
character_row line items = on (character_type items) (λ found. declaration_of line found.0 found.1 found.2)

unfoldable pub derived_row : ℕ → List Item → Read Form
derived_row line items = on (derived_type items) (λ found. declaration_of line found.0 0 found.1)

unfoldable pub recursive_integer : List Item → Read Form
recursive_integer items = on (integer_type items) (λ found. behind_function (Some found.0) found.1)

unfoldable pub recursive_word : List ℕ → List Item → Read Form
recursive_word name items =
    if is name (codes "subroutine") then subroutine_of items
    else if is name (codes "function") then function_of None items
    else if is name (codes "integer") then recursive_integer items
    else if is name (codes "logical") then behind_function (Some type.Logical) items
    else None

-- what stands behind `recursive`
unfoldable pub recursive_row : List Item → Read Form
recursive_row items = on (word_first items) (λ found. recursive_word found.0 found.1)
