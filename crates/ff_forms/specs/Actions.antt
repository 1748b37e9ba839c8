-- Statements that are executed where they stand (ISO/IEC 1539-1:2018, clauses 10 to 12 and 15.5).
use Rattle.std.specs.Prelude.{ℕ, Bool, true, false, List, [], ◌∷◌, codes, max, Option, Some, None, if◌then◌else◌}
use Rattle.ast_nodes.specs.declared.expression.Expr.{Expr}
use Rattle.ast_nodes.specs.declared.statement.Statement.{Statement}
use Rattle.ast_nodes.specs.declared.statement.Statement.TheVariants as statement
use Rattle.ff_expressions.specs.declared.item.Bracket.TheVariants.{Round}
use Rattle.ff_expressions.specs.declared.item.Item.{Item}
use Rattle.ff_expressions.specs.declared.item.Item.TheVariants.{Word, Mark, Group}
use Rattle.ff_expressions.specs.declared.item.Mark.TheVariants.{Percent, Equals}
use Rattle.ff_expressions.specs.Pieces.{pieces_of}
use Rattle.ff_forms.specs.declared.chain.Seen.{Seen}
use Rattle.ff_forms.specs.declared.chain.Seen.TheVariants.{NameWanted, Chain, Assigned, Other}
use Rattle.ff_forms.specs.Answers.{on, Read}
use Rattle.ff_forms.specs.Shapes.{is, nothing, first_of, only_one, word_first, maybe_word, behind_word, only_group, expression_in, designator_in, arguments_in}
use Rattle.ff_forms.specs.Output.{print_row, write_row, read_row}

-- A designator chain is a name, and then groups and names behind `%`. What is seen of one, item by item, up to `=`.
unfoldable pub seen_by : Seen → Item → Seen
seen_by NameWanted (Word name) = Chain
seen_by Chain (Group Round parts) = Chain
seen_by Chain (Mark Percent) = NameWanted
seen_by Chain (Mark Equals) = Assigned
seen_by Assigned item = Assigned
seen_by seen item = Other

unfoldable pub seen_at : Seen → Option Item → Seen
seen_at seen None = seen
seen_at seen (Some item) = seen_by seen item

abbrev pub seen_in : Seen → List Item → Seen
seen_in seen [] = seen
seen_in seen (item ∷ items) = seen_in (seen_by seen item) items

unfoldable pub is_assigned : Seen → Bool
is_assigned Assigned = true
is_assigned seen = false

-- A designator chain in front of `=` makes an assignment, whatever its words are.
unfoldable pub is_assignment : List Item → Bool
is_assignment items = is_assigned (seen_in NameWanted items)

-- what stands round `=`
unfoldable pub assigned : ℕ → List Item → List Item → Read Statement
assigned line target value =
    on (designator_in target) (λ t. on (expression_in value) (λ e. Some (statement.Assign line t.0 e.0, max t.1 e.1)))

unfoldable pub assigned_by : ℕ → List (List Item) → Read Statement
assigned_by line pieces = on (first_of pieces) (λ found. on (only_one found.1) (λ value. assigned line found.0 value))

unfoldable pub assignment_row : ℕ → List Item → Read Statement
assignment_row line items = assigned_by line (pieces_of Equals items)

-- `(args)`, which may be missing
unfoldable pub call_arguments : List Item → Read (List Expr)
call_arguments [] = Some ([], 0)
call_arguments (item ∷ items) = on (only_group (item ∷ items)) arguments_in

-- what stands behind `call`
unfoldable pub call_row : ℕ → List Item → Read Statement
call_row line items =
    on (word_first items) (λ name. on (call_arguments name.1) (λ arguments. Some (statement.Call line name.0 arguments.0, arguments.1)))

unfoldable pub some_code : List Item → Read (Option Expr)
some_code items = on (expression_in items) (λ e. Some (Some e.0, e.1))

-- a stop code, which may be missing
unfoldable pub stop_code : List Item → Read (Option Expr)
stop_code [] = Some (None, 0)
stop_code (item ∷ items) = some_code (item ∷ items)

-- what stands behind `stop`
unfoldable pub stop_row : ℕ → ℕ → List Item → Read Statement
stop_row line is_error items = on (stop_code items) (λ code. Some (statement.Stop line is_error code.0, code.1))

-- what stands behind `error`
unfoldable pub error_row : ℕ → List Item → Read Statement
error_row line items = on (behind_word (codes "stop") items) (stop_row line 1)

unfoldable pub exit_row : ℕ → List Item → Read Statement
exit_row line items = on (maybe_word items) (λ construct. Some (statement.Exit line construct, 0))

unfoldable pub cycle_row : ℕ → List Item → Read Statement
cycle_row line items = on (maybe_word items) (λ construct. Some (statement.Cycle line construct, 0))

unfoldable pub return_row : ℕ → List Item → Read Statement
return_row line items = on (nothing items) (λ _. Some (statement.Return line, 0))

unfoldable pub continue_row : ℕ → List Item → Read Statement
continue_row line items = on (nothing items) (λ _. Some (statement.Continue line, 0))

-- the action that this word and what is behind it are
unfoldable pub transfer_named : ℕ → List ℕ → List Item → Read Statement
transfer_named line name items =
    if is name (codes "print") then print_row line items
    else if is name (codes "write") then write_row line items
    else if is name (codes "read") then read_row line items
    else None

unfoldable pub stop_named : ℕ → List ℕ → List Item → Read Statement
stop_named line name items =
    if is name (codes "stop") then stop_row line 0 items
    else if is name (codes "error") then error_row line items
    else if is name (codes "exit") then exit_row line items
    else if is name (codes "cycle") then cycle_row line items
    else transfer_named line name items

unfoldable pub action_named : ℕ → List ℕ → List Item → Read Statement
action_named line name items =
    if is name (codes "call") then call_row line items
    else if is name (codes "return") then return_row line items
    else if is name (codes "continue") then continue_row line items
    else stop_named line name items

unfoldable pub action_word : ℕ → List Item → Read Statement
action_word line items = on (word_first items) (λ found. action_named line found.0 found.1)

-- an action behind `if (e)`
unfoldable pub action_of : ℕ → List Item → Read Statement
action_of line items = if is_assignment items then assignment_row line items else action_word line items

-- an `if` of one arm with one statement, all of this line
unfoldable pub lone_if : ℕ → Expr → Statement → Statement
lone_if line condition action =
    statement.If line None (record { line = line; condition = Some condition; body = action ∷ [] } ∷ [])
