-- Records that are written and read (ISO/IEC 1539-1:2018, 12.6 and 13.3).
use Rattle.std.specs.Prelude.{ℕ, ◌++◌, Bool, true, false, List, [], ◌∷◌, codes, max, nat_lt, length, slice_get, Option, Some, None, if◌then◌else◌, ◌==◌, ◌&&◌, ◌||◌}
use Rattle.std.specs.Char.{to_ascii_lowercase}
use Rattle.ast_nodes.specs.declared.expression.Designator.{Designator}
use Rattle.ast_nodes.specs.declared.expression.Expr.{Expr, out-Expr}
use Rattle.ast_nodes.specs.declared.expression.Expr.TheOpen.{Expr-F}
use Rattle.ast_nodes.specs.declared.expression.RefPart.{RefPart}
use Rattle.ast_nodes.specs.declared.statement.Statement.{Statement}
use Rattle.ast_nodes.specs.declared.statement.Statement.TheVariants as statement
use Rattle.ff_expressions.specs.declared.item.Item.{Item}
use Rattle.ff_expressions.specs.declared.item.Item.TheVariants.{Text, Mark}
use Rattle.ff_expressions.specs.declared.item.Mark.TheVariants.{Operator, Comma}
use Rattle.ff_expressions.specs.declared.item.Parsed.{Parsed}
use Rattle.ff_expressions.specs.declared.item.Part.{Part}
use Rattle.ff_expressions.specs.declared.item.Part.TheVariants.{Star, Plain, Keyed}
use Rattle.ff_expressions.specs.Pieces.{pieces_of}
use Rattle.ff_forms.specs.Answers.{on, Read, each}
use Rattle.ff_forms.specs.Shapes.{is, first_of, only_one, behind_comma, behind_star, group_first, expression_in, output_in, designator_in}

-- a space or a tab
unfoldable pub is_blank : ℕ → Bool
is_blank byte = byte == 32 || byte == 9

unfoldable pub squeezed_one : ℕ → List ℕ
squeezed_one byte = if is_blank byte then [] else to_ascii_lowercase byte ∷ []

-- in small letters, without blanks
abbrev pub squeezed : List ℕ → List ℕ
squeezed [] = []
squeezed (byte ∷ bytes) = squeezed_one byte ++ squeezed bytes

-- the code of a format's text
unfoldable pub format_of_squeezed : List ℕ → Option ℕ
format_of_squeezed text =
    if is text (codes "(a)") then Some 1
    else if is text (codes "(i0)") then Some 2
    else None

unfoldable pub format_of : List ℕ → Option ℕ
format_of bytes = format_of_squeezed (squeezed bytes)

abbrev pub all_blank : List ℕ → Bool
all_blank [] = true
all_blank (byte ∷ bytes) = is_blank byte && all_blank bytes

-- a letter, of either size
unfoldable pub is_letter : ℕ → ℕ → Bool
is_letter byte letter = to_ascii_lowercase byte == letter

-- `no`, and blanks behind it
unfoldable pub is_no : List ℕ → Bool
is_no (n ∷ o ∷ bytes) = is_letter n 110 && is_letter o 111 && all_blank bytes
is_no bytes = false

unfoldable pub text_layer : Expr-F Expr RefPart Designator → Option (List ℕ)
text_layer (Expr-F.Char bytes) = Some bytes
text_layer other = None

-- an expression that is a character literal
unfoldable pub text_in : Expr → Option (List ℕ)
text_in e = text_layer (out-Expr e)

unfoldable pub star_format : ℕ → Option ℕ
star_format code = if code == 2 then Some 0 else None

-- a format in front, and what is behind it
unfoldable pub format_first : List Item → Option (ℕ × List Item)
format_first (Mark (Operator code) ∷ items) = on (star_format code) (λ form. Some (form, items))
format_first (Text bytes ∷ items) = on (format_of bytes) (λ form. Some (form, items))
format_first items = None

unfoldable pub format_layer : Expr-F Expr RefPart Designator → Option ℕ
format_layer (Expr-F.Char bytes) = format_of bytes
format_layer other = None

unfoldable pub text_format : Expr → Option ℕ
text_format e = format_layer (out-Expr e)

unfoldable pub format_part : Part → Option ℕ
format_part Star = Some 0
format_part (Plain value) = text_format value.tree
format_part other = None

-- The items of a record: any with `*`, one expression with every other format.
unfoldable pub one_item : List (List Item) → Read (List Expr)
one_item pieces = on (only_one pieces) (λ piece. on (expression_in piece) (λ e. Some (e.0 ∷ [], e.1)))

unfoldable pub listed_of : ℕ → List Item → Read (List Expr)
listed_of form items = if form == 0 then each output_in (pieces_of Comma items) else one_item (pieces_of Comma items)

-- no items
unfoldable pub none_listed : ℕ → Read (List Expr)
none_listed form = if form == 0 then Some ([], 0) else None

-- the items of `write`
unfoldable pub written : ℕ → List Item → Read (List Expr)
written form [] = none_listed form
written form (item ∷ items) = listed_of form (item ∷ items)

-- `, items` of `print`
unfoldable pub comma_listed : ℕ → List Item → Read (List Expr)
comma_listed form items = on (behind_comma items) (λ rest. listed_of form rest)

unfoldable pub printed : ℕ → List Item → Read (List Expr)
printed form [] = none_listed form
printed form (item ∷ items) = comma_listed form (item ∷ items)

-- what stands behind `print`
unfoldable pub print_row : ℕ → List Item → Read Statement
print_row line items =
    on (format_first items) (λ found. on (printed found.0 found.1) (λ listed. Some (statement.Print line found.0 0 listed.0, listed.1)))

unfoldable pub is_no_advance : List ℕ → Option (List ℕ) → Bool
is_no_advance name (Some bytes) = is name (codes "advance") && is_no bytes
is_no_advance name None = false

-- `advance='no'`
unfoldable pub no_advance : Part → Bool
no_advance (Keyed name (Some value)) = is_no_advance name (text_in value.tree)
no_advance other = false

unfoldable pub advance_part : ℕ → Part → Option ℕ
advance_part form part = if form == 0 then None else if no_advance part then Some 1 else None

unfoldable pub advance_first : ℕ → Option Part → Option ℕ
advance_first form None = Some 0
advance_first form (Some part) = advance_part form part

-- 1 where no newline ends the record; never with `*`
unfoldable pub advance_of : ℕ → List Part → Option ℕ
advance_of form parts = if nat_lt 1 (length parts) then None else advance_first form (slice_get parts 0)

unfoldable pub format_next : List Part → Option (ℕ × List Part)
format_next parts = on (first_of parts) (λ found. on (format_part found.0) (λ form. Some (form, found.1)))

-- `*, f {, advance='no'}`: the format and the advance
unfoldable pub format_behind : List Part → Option (ℕ × List Part)
format_behind parts = on (behind_star parts) format_next

unfoldable pub write_controls : List Part → Option (ℕ × ℕ)
write_controls parts = on (format_behind parts) (λ found. on (advance_of found.0 found.1) (λ advance. Some (found.0, advance)))

-- what stands behind `write`
unfoldable pub write_row : ℕ → List Item → Read Statement
write_row line items =
    on (group_first items) (λ group. on (write_controls group.0) (λ controls. on (written controls.0 group.1) (λ listed.
    Some (statement.Print line controls.0 controls.1 listed.0, listed.1))))

unfoldable pub ref_layer : Expr-F Expr RefPart Designator → Option Designator
ref_layer (Expr-F.Ref designator) = Some designator
ref_layer other = None

-- an expression that is a designator
unfoldable pub ref_in : Expr → Option Designator
ref_in e = ref_layer (out-Expr e)

unfoldable pub iostat_word : List ℕ → Option (Unit {0})
iostat_word name = if is name (codes "iostat") then Some tt else None

unfoldable pub iostat_named : List ℕ → Option Parsed → Read (Option Designator)
iostat_named name None = None
iostat_named name (Some value) = on (iostat_word name) (λ _. on (ref_in value.tree) (λ designator. Some (Some designator, value.depth)))

-- `iostat=v`
unfoldable pub iostat_part : Part → Read (Option Designator)
iostat_part (Keyed name value) = iostat_named name value
iostat_part other = None

unfoldable pub one_iostat : List Part → Read (Option Designator)
one_iostat parts = on (only_one parts) iostat_part

unfoldable pub iostat_of : List Part → Read (Option Designator)
iostat_of [] = Some (None, 0)
iostat_of (part ∷ parts) = one_iostat (part ∷ parts)

-- `*, '(A)' {, iostat=v}`
unfoldable pub read_controls : List Part → Read (Option Designator)
read_controls parts = on (format_behind parts) (λ found. if found.0 == 1 then iostat_of found.1 else None)

-- what stands behind `read`
unfoldable pub read_row : ℕ → List Item → Read Statement
read_row line items =
    on (group_first items) (λ group. on (read_controls group.0) (λ iostat. on (designator_in group.1) (λ target.
    Some (statement.Read line target.0 iostat.0, max iostat.1 target.1))))
