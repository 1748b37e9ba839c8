-- Lists of names, and what `use` takes (ISO/IEC 1539-1:2018, 14.2.2).
use Rattle.std.specs.Prelude.{ℕ, List, [], ◌∷◌, codes, slice_get, Option, Some, if◌then◌else◌, ◌&&◌}
use Rattle.ast_nodes.specs.declared.declaration.Rename.{Rename}
use Rattle.ast_nodes.specs.declared.declaration.UseStmt.{UseStmt}
use Rattle.ff_expressions.specs.declared.item.Item.{Item}
use Rattle.ff_expressions.specs.declared.item.Mark.TheVariants.{Comma}
use Rattle.ff_expressions.specs.declared.item.Part.{Part}
use Rattle.ff_expressions.specs.Pieces.{pieces_of}
use Rattle.ff_forms.specs.Answers.{on, all}
use Rattle.ff_forms.specs.Shapes.{word_first, only_word, name_part, behind_comma, behind_colon, behind_double_colon, behind_arrow, past_double_colon, is_colon, is_double_colon, spells}

-- names between commas, at least one
unfoldable pub names_of : List Item → Option (List (List ℕ))
names_of items = all only_word (pieces_of Comma items)

-- `{::} names`
unfoldable pub listed_names : List Item → Option (List (List ℕ))
listed_names items = on (past_double_colon items) names_of

-- the dummies of a procedure
unfoldable pub dummies_of : List Part → Option (List (List ℕ))
dummies_of parts = all name_part parts

-- `=> b` behind a name
unfoldable pub renamed : List ℕ → List Item → Option Rename
renamed local items = on (behind_arrow items) (λ rest. on (only_word rest) (λ original. Some (record { local = local; original = original })))

-- `b => c`
unfoldable pub rename_of : List Item → Option Rename
rename_of items = on (word_first items) (λ found. renamed found.0 found.1)

-- what stands behind a name of an `only` list
unfoldable pub only_behind : List ℕ → List Item → Option Rename
only_behind name [] = Some (record { local = name; original = name })
only_behind name (item ∷ items) = renamed name (item ∷ items)

-- `a` or `b => c`
unfoldable pub only_item : List Item → Option Rename
only_item items = on (word_first items) (λ found. only_behind found.0 found.1)

-- an `only` list, which may be empty
unfoldable pub only_list : List Item → Option (List Rename)
only_list [] = Some []
only_list (item ∷ items) = all only_item (pieces_of Comma (item ∷ items))

unfoldable pub use_stmt : ℕ → List ℕ → ℕ → List Rename → UseStmt
use_stmt line name only renames = record { line = line; «module» = name; only = only; renames = renames }

-- the list behind `only:`
unfoldable pub only_use : ℕ → List ℕ → List Item → Option UseStmt
only_use line name items = on (word_first items) (λ only. on (behind_colon only.1) (λ rest. on (only_list rest) (λ renames. Some (use_stmt line name 1 renames))))

unfoldable pub rename_use : ℕ → List ℕ → List Item → Option UseStmt
rename_use line name items = on (all rename_of (pieces_of Comma items)) (λ renames. Some (use_stmt line name 0 renames))

-- what stands behind `use M,`
unfoldable pub list_use : ℕ → List ℕ → List Item → Option UseStmt
list_use line name items = if spells (codes "only") (slice_get items 0) && is_colon (slice_get items 1) then only_use line name items else rename_use line name items

-- what stands behind `use M`
unfoldable pub use_behind : ℕ → List ℕ → List Item → Option UseStmt
use_behind line name [] = Some (use_stmt line name 0 [])
use_behind line name (item ∷ items) = on (behind_comma (item ∷ items)) (list_use line name)

-- `use :: M`
unfoldable pub bare_use : ℕ → List Item → Option UseStmt
bare_use line items = on (behind_double_colon items) (λ rest. on (only_word rest) (λ name. Some (use_stmt line name 0 [])))

-- what stands behind `use`: `:: M`, `M`, `M, only: list` or `M, list`
unfoldable pub use_of : ℕ → List Item → Option UseStmt
use_of line items = if is_double_colon (slice_get items 0) then bare_use line items else on (word_first items) (λ found. use_behind line found.0 found.1)
