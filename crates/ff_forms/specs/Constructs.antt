-- The statements that begin, part and end constructs (ISO/IEC 1539-1:2018, 11.1).
use Rattle.std.specs.Prelude.{ℕ, List, [], ◌∷◌, codes, max, slice_get, Option, Some, None, if◌then◌else◌, ◌&&◌}
use Rattle.ast_nodes.specs.declared.expression.Expr.{Expr}
use Rattle.ast_nodes.specs.declared.statement.CaseRange.{CaseRange}
use Rattle.ast_nodes.specs.declared.statement.CaseRange.TheVariants as range
use Rattle.ff_expressions.specs.declared.item.Item.{Item}
use Rattle.ff_expressions.specs.declared.item.Mark.TheVariants.{Comma}
use Rattle.ff_expressions.specs.declared.item.Parsed.{Parsed}
use Rattle.ff_expressions.specs.declared.item.Part.{Part}
use Rattle.ff_expressions.specs.declared.item.Part.TheVariants.{Plain, Section}
use Rattle.ff_expressions.specs.declared.item.Stride.TheVariants.{Absent}
use Rattle.ff_expressions.specs.Pieces.{pieces_of}
use Rattle.ff_forms.specs.declared.form.End.{End}
use Rattle.ff_forms.specs.declared.form.End.TheVariants as ended
use Rattle.ff_forms.specs.declared.form.Form.{Form}
use Rattle.ff_forms.specs.declared.form.Form.TheVariants as form
use Rattle.ff_forms.specs.Answers.{on, Read, each}
use Rattle.ff_forms.specs.Shapes.{is, nothing, something, first_of, word_first, maybe_word, behind_word, behind_equals, group_first, only_group, is_group, one_expression, expression_in}

-- what stands behind `else if`: `(e) then {C}`
unfoldable pub else_if_row : List Item → Read Form
else_if_row items =
    on (group_first items) (λ group. on (one_expression group.0) (λ condition. on (behind_word (codes "then") group.1) (λ rest. on (maybe_word rest) (λ construct.
    Some (form.ElseIf construct condition.0, condition.1)))))

unfoldable pub else_word : List ℕ → List Item → Read Form
else_word name [] = Some (form.Else (Some name), 0)
else_word name (item ∷ items) = if is name (codes "if") then else_if_row (item ∷ items) else None

unfoldable pub else_behind : List Item → Read Form
else_behind items = on (word_first items) (λ found. else_word found.0 found.1)

-- what stands behind `else`: `{C}` or `if (e) then {C}`
unfoldable pub else_row : List Item → Read Form
else_row [] = Some (form.Else None, 0)
else_row (item ∷ items) = else_behind (item ∷ items)

-- what stands behind `do while`
unfoldable pub while_row : Option (List ℕ) → List Item → Read Form
while_row construct items =
    on (only_group items) (λ parts. on (one_expression parts) (λ condition.
    Some (form.While construct (Some condition.0), condition.1)))

-- the step, which may be missing
unfoldable pub step_of : List (List Item) → Read (Option Expr)
step_of [] = Some (None, 0)
step_of (piece ∷ pieces) = on (nothing pieces) (λ _. on (expression_in piece) (λ e. Some (Some e.0, e.1)))

unfoldable pub next_expression : List (List Item) → Option (Expr × ℕ × List (List Item))
next_expression pieces = on (first_of pieces) (λ found. on (expression_in found.0) (λ e. Some (e.0, e.1, found.1)))

-- `e, e {, e}`
unfoldable pub counted_by : Option (List ℕ) → List ℕ → List (List Item) → Read Form
counted_by construct variable pieces =
    on (next_expression pieces) (λ lower. on (next_expression lower.2) (λ upper. on (step_of upper.2) (λ step.
    Some (form.Do construct variable lower.0 upper.0 step.0, max (max lower.1 upper.1) step.1))))

unfoldable pub counted_row : Option (List ℕ) → List ℕ → List Item → Read Form
counted_row construct variable items = on (behind_equals items) (λ rest. counted_by construct variable (pieces_of Comma rest))

unfoldable pub do_word : Option (List ℕ) → List ℕ → List Item → Read Form
do_word construct name items =
    if is name (codes "while") && is_group (slice_get items 0) then while_row construct items
    else counted_row construct name items

unfoldable pub do_behind : Option (List ℕ) → List Item → Read Form
do_behind construct items = on (word_first items) (λ found. do_word construct found.0 found.1)

-- what stands behind `do`: nothing, `while (e)` or `i = e, e {, e}`
unfoldable pub do_row : Option (List ℕ) → List Item → Read Form
do_row construct [] = Some (form.While construct None, 0)
do_row construct (item ∷ items) = do_behind construct (item ∷ items)

-- what stands behind `select case`
unfoldable pub select_case_row : Option (List ℕ) → List Item → Read Form
select_case_row construct items =
    on (only_group items) (λ parts. on (one_expression parts) (λ value. Some (form.Select construct value.0, value.1)))

-- what stands behind `select`
unfoldable pub select_row : Option (List ℕ) → List Item → Read Form
select_row construct items = on (behind_word (codes "case") items) (select_case_row construct)

-- `a:b`, `a:` or `:b`
unfoldable pub section_range : Option Parsed → Option Parsed → Read CaseRange
section_range (Some lower) (Some upper) = Some (range.Range (Some lower.tree) (Some upper.tree), max lower.depth upper.depth)
section_range (Some lower) None = Some (range.Range (Some lower.tree) None, lower.depth)
section_range None (Some upper) = Some (range.Range None (Some upper.tree), upper.depth)
section_range None None = None

unfoldable pub range_of : Part → Read CaseRange
range_of (Plain value) = Some (range.One value.tree, value.depth)
range_of (Section lower upper Absent) = section_range lower upper
range_of other = None

-- at least one range
unfoldable pub ranges_of : List Part → Read (List CaseRange)
ranges_of parts = on (something parts) (λ _. each range_of parts)

-- `(ranges) {C}`
unfoldable pub ranged_case : List Item → Read Form
ranged_case items =
    on (group_first items) (λ group. on (ranges_of group.0) (λ ranges. on (maybe_word group.1) (λ construct.
    Some (form.Case construct 0 ranges.0, ranges.1))))

-- `default {C}`
unfoldable pub default_case : List Item → Read Form
default_case items =
    on (behind_word (codes "default") items) (λ rest. on (maybe_word rest) (λ construct. Some (form.Case construct 1 [], 0)))

-- what stands behind `case`
unfoldable pub case_row : List Item → Read Form
case_row items = if is_group (slice_get items 0) then ranged_case items else default_case items

-- what an end statement of these words closes
unfoldable pub ended_unit : List ℕ → Option End
ended_unit name =
    if is name (codes "program") then Some ended.Program
    else if is name (codes "module") then Some ended.Module
    else if is name (codes "subroutine") then Some ended.Subroutine
    else if is name (codes "function") then Some ended.Function
    else None

unfoldable pub ended_by : List ℕ → Option End
ended_by name =
    if is name (codes "type") then Some ended.Type
    else if is name (codes "interface") then Some ended.Interface
    else if is name (codes "if") then Some ended.If
    else if is name (codes "do") then Some ended.Do
    else if is name (codes "select") then Some ended.Select
    else ended_unit name

-- the same with `end` in one word
unfoldable pub ended_unit_at_once : List ℕ → Option End
ended_unit_at_once name =
    if is name (codes "endprogram") then Some ended.Program
    else if is name (codes "endmodule") then Some ended.Module
    else if is name (codes "endsubroutine") then Some ended.Subroutine
    else if is name (codes "endfunction") then Some ended.Function
    else None

unfoldable pub ended_at_once : List ℕ → Option End
ended_at_once name =
    if is name (codes "endtype") then Some ended.Type
    else if is name (codes "endinterface") then Some ended.Interface
    else if is name (codes "endif") then Some ended.If
    else if is name (codes "enddo") then Some ended.Do
    else if is name (codes "endselect") then Some ended.Select
    else ended_unit_at_once name

-- `{N}` behind the words of an end
unfoldable pub end_behind : Option End → List Item → Read Form
end_behind words items = on words (λ end. on (maybe_word items) (λ name. Some (form.End end name, 0)))

unfoldable pub end_words : List Item → Read Form
end_words items = on (word_first items) (λ found. end_behind (ended_by found.0) found.1)

-- what stands behind `end`
unfoldable pub end_row : List Item → Read Form
end_row [] = Some (form.End ended.Bare None, 0)
end_row (item ∷ items) = end_words (item ∷ items)
