-- The statements of units and their specification parts, and which words begin which form (ISO/IEC 1539-1:2018, R501 to R517).
use Rattle.std.specs.Prelude.{ℕ, Bool, List, [], ◌∷◌, length, codes, max, slice_get, Option, Some, None, if◌then◌else◌, ◌==◌, ◌&&◌}
use Rattle.ast_nodes.specs.declared.declaration.TypeSpec.TheVariants as type
use Rattle.ast_nodes.specs.declared.expression.Expr.{Expr}
use Rattle.ff_expressions.specs.declared.item.Item.{Item}
use Rattle.ff_forms.specs.declared.form.End.{End}
use Rattle.ff_forms.specs.declared.form.Form.{Form}
use Rattle.ff_forms.specs.declared.form.Form.TheVariants as form
use Rattle.ff_forms.specs.Answers.{on, Read}
use Rattle.ff_forms.specs.Shapes.{is, nothing, word_first, only_word, behind_word, behind_comma, behind_colon, behind_double_colon, past_double_colon, group_first, is_group, is_comma, is_colon, spells, one_expression}
use Rattle.ff_forms.specs.Names.{listed_names, use_of}
use Rattle.ff_forms.specs.Procedures.{subroutine_of, function_of, recursive_row, typed_of, integer_row, character_row, derived_row}
use Rattle.ff_forms.specs.Constructs.{else_row, else_if_row, do_row, select_row, select_case_row, case_row, end_row, end_behind, ended_at_once}
use Rattle.ff_forms.specs.Actions.{is_assignment, assignment_row, action_of, action_named, lone_if}

unfoldable pub program_row : List Item → Read Form
program_row items = on (only_word items) (λ name. Some (form.Program name, 0))

unfoldable pub specifics_row : List Item → Read Form
specifics_row items = on (listed_names items) (λ names. Some (form.Specifics names, 0))

unfoldable pub module_word : List ℕ → List Item → Read Form
module_word name [] = Some (form.Module name, 0)
module_word name (item ∷ items) = if is name (codes "procedure") then specifics_row (item ∷ items) else None

-- what stands behind `module`: `N` or `procedure {::} names`
unfoldable pub module_row : List Item → Read Form
module_row items = on (word_first items) (λ found. module_word found.0 found.1)

unfoldable pub contains_row : List Item → Read Form
contains_row items = on (nothing items) (λ _. Some (form.Contains, 0))

unfoldable pub use_row : ℕ → List Item → Read Form
use_row line items = on (use_of line items) (λ used. Some (form.Use used, 0))

unfoldable pub implicit_row : List Item → Read Form
implicit_row items = on (behind_word (codes "none") items) (λ rest. on (nothing rest) (λ _. Some (form.ImplicitNone, 0)))

unfoldable pub access_names : ℕ → List Item → Read Form
access_names is_private items = on (listed_names items) (λ names. Some (form.Access is_private names, 0))

-- what stands behind `private` or `public`
unfoldable pub access_row : ℕ → List Item → Read Form
access_row is_private [] = Some (form.Access is_private [], 0)
access_row is_private (item ∷ items) = access_names is_private (item ∷ items)

unfoldable pub access_code : List ℕ → Option ℕ
access_code name =
    if is name (codes "public") then Some 0
    else if is name (codes "private") then Some 1
    else None

-- `, private ::` or `, public ::`
unfoldable pub written_access : List Item → Option (ℕ × List Item)
written_access items =
    on (behind_comma items) (λ rest. on (word_first rest) (λ name. on (access_code name.0) (λ code. on (behind_double_colon name.1) (λ behind. Some (code, behind)))))

unfoldable pub unsaid_access : List Item → Option (ℕ × List Item)
unsaid_access items = on (past_double_colon items) (λ rest. Some (2, rest))

unfoldable pub type_access : List Item → Option (ℕ × List Item)
type_access items = if is_comma (slice_get items 0) then written_access items else unsaid_access items

-- `{{, private or public} ::} T`
unfoldable pub type_definition : List Item → Read Form
type_definition items = on (type_access items) (λ access. on (only_word access.1) (λ name. Some (form.TypeDef name access.0, 0)))

-- what stands behind `type`: the type of a declaration or a definition
unfoldable pub type_row : ℕ → List Item → Read Form
type_row line items = if is_group (slice_get items 0) then derived_row line items else type_definition items

unfoldable pub interface_row : List Item → Read Form
interface_row items = on (only_word items) (λ name. Some (form.Interface name, 0))

-- `then` and nothing else
unfoldable pub is_then : List Item → Bool
is_then items = spells (codes "then") (slice_get items 0) && length items == 1

unfoldable pub lone_if_of : ℕ → Expr → ℕ → List Item → Read Form
lone_if_of line condition depth items =
    on (action_of line items) (λ action. Some (form.Action (lone_if line condition action.0), max depth action.1))

-- what stands behind `if (e)`
unfoldable pub if_behind : ℕ → Expr → ℕ → List Item → Read Form
if_behind line condition depth items =
    if is_then items then Some (form.IfThen None condition, depth) else lone_if_of line condition depth items

-- what stands behind `if`
unfoldable pub if_row : ℕ → List Item → Read Form
if_row line items = on (group_first items) (λ group. on (one_expression group.0) (λ condition. if_behind line condition.0 condition.1 group.1))

-- what stands behind `C: if`
unfoldable pub named_if_row : List ℕ → List Item → Read Form
named_if_row construct items =
    on (group_first items) (λ group. on (one_expression group.0) (λ condition. on (behind_word (codes "then") group.1) (λ rest. on (nothing rest) (λ _.
    Some (form.IfThen (Some construct) condition.0, condition.1)))))

-- a construct with a name
unfoldable pub construct_named : List ℕ → List ℕ → List Item → Read Form
construct_named construct name items =
    if is name (codes "if") then named_if_row construct items
    else if is name (codes "do") then do_row (Some construct) items
    else if is name (codes "select") then select_row (Some construct) items
    else if is name (codes "selectcase") then select_case_row (Some construct) items
    else None

-- what stands behind a construct's name
unfoldable pub construct_row : List ℕ → List Item → Read Form
construct_row construct items =
    on (behind_colon items) (λ rest. on (word_first rest) (λ found. construct_named construct found.0 found.1))

unfoldable pub action_row : ℕ → List ℕ → List Item → Read Form
action_row line name items = on (action_named line name items) (λ action. Some (form.Action action.0, action.1))

unfoldable pub end_or_action : Option End → ℕ → List ℕ → List Item → Read Form
end_or_action (Some end) line name items = end_behind (Some end) items
end_or_action None line name items = action_row line name items

-- an end whose words are written as one word, or an action
unfoldable pub end_at_once : ℕ → List ℕ → List Item → Read Form
end_at_once line name items = end_or_action (ended_at_once name) line name items

unfoldable pub choice_word : ℕ → List ℕ → List Item → Read Form
choice_word line name items =
    if is name (codes "select") then select_row None items
    else if is name (codes "selectcase") then select_case_row None items
    else if is name (codes "case") then case_row items
    else end_at_once line name items

-- the words of constructs
unfoldable pub construct_word : ℕ → List ℕ → List Item → Read Form
construct_word line name items =
    if is name (codes "if") then if_row line items
    else if is name (codes "else") then else_row items
    else if is name (codes "elseif") then else_if_row items
    else if is name (codes "do") then do_row None items
    else choice_word line name items

-- the words of generic names
unfoldable pub generic_word : ℕ → List ℕ → List Item → Read Form
generic_word line name items =
    if is name (codes "interface") then interface_row items
    else if is name (codes "procedure") then specifics_row items
    else construct_word line name items

-- the words of specifications
unfoldable pub specification_word : ℕ → List ℕ → List Item → Read Form
specification_word line name items =
    if is name (codes "use") then use_row line items
    else if is name (codes "implicit") then implicit_row items
    else if is name (codes "private") then access_row 1 items
    else if is name (codes "public") then access_row 0 items
    else generic_word line name items

-- the words of types
unfoldable pub type_word : ℕ → List ℕ → List Item → Read Form
type_word line name items =
    if is name (codes "integer") then integer_row line items
    else if is name (codes "logical") then typed_of line type.Logical items
    else if is name (codes "character") then character_row line items
    else if is name (codes "type") then type_row line items
    else specification_word line name items

-- the words of procedures
unfoldable pub procedure_word : ℕ → List ℕ → List Item → Read Form
procedure_word line name items =
    if is name (codes "recursive") then recursive_row items
    else if is name (codes "subroutine") then subroutine_of items
    else if is name (codes "function") then function_of None items
    else type_word line name items

-- the words of units
unfoldable pub unit_word : ℕ → List ℕ → List Item → Read Form
unit_word line name items =
    if is name (codes "program") then program_row items
    else if is name (codes "module") then module_row items
    else if is name (codes "contains") then contains_row items
    else if is name (codes "end") then end_row items
    else procedure_word line name items

-- the first word, and what is behind it
unfoldable pub by_word : ℕ → List ℕ → List Item → Read Form
by_word line name items = if is_colon (slice_get items 0) then construct_row name items else unit_word line name items

unfoldable pub worded : ℕ → List Item → Read Form
worded line items = on (word_first items) (λ found. by_word line found.0 found.1)

unfoldable pub assignment_form : ℕ → List Item → Read Form
assignment_form line items = on (assignment_row line items) (λ action. Some (form.Action action.0, action.1))

-- a statement in its form: an assignment, or what its leading words choose
unfoldable pub statement_of : ℕ → List Item → Read Form
statement_of line items = if is_assignment items then assignment_form line items else worded line items
