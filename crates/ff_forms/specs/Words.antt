-- The words of statements that are of the language, but not of this profile.
use Rattle.std.specs.Prelude.{ℕ, Bool, false, List, [], ◌∷◌, codes, slice_get, Option, Some, None, if◌then◌else◌, ◌&&◌, ◌||◌}
use Rattle.lf_base.specs.declared.rule.Rule.{Rule}
use Rattle.lf_base.specs.declared.rule.Rule.TheVariants.{E201, E202}
use Rattle.ff_lexer.specs.Statements.{Spelled}
use Rattle.ff_expressions.specs.declared.item.Item.{Item}
use Rattle.ff_expressions.specs.declared.item.Item.TheVariants.{Word}
use Rattle.ff_expressions.specs.Items.{items_of}
use Rattle.ff_forms.specs.Shapes.{is, is_word, is_colon, spells}

-- types (ISO/IEC 1539-1:2018, clause 7)
unfoldable pub is_type_word : List ℕ → Bool
is_type_word name = is name (codes "real") || is name (codes "complex") || is name (codes "double") || is name (codes "doubleprecision") || is name (codes "class") || is name (codes "enum")

-- attributes (clause 8)
unfoldable pub is_attribute_word : List ℕ → Bool
is_attribute_word name = is name (codes "allocatable") || is name (codes "pointer") || is name (codes "target") || is name (codes "dimension") || is name (codes "optional")

unfoldable pub is_linkage_word : List ℕ → Bool
is_linkage_word name = is name (codes "external") || is name (codes "intrinsic") || is name (codes "save") || is name (codes "parameter")

unfoldable pub is_storage_word : List ℕ → Bool
is_storage_word name = is name (codes "data") || is name (codes "common") || is name (codes "equivalence") || is name (codes "namelist")

-- allocation (9.7)
unfoldable pub is_allocation_word : List ℕ → Bool
is_allocation_word name = is name (codes "allocate") || is name (codes "deallocate") || is name (codes "nullify")

-- execution control (10.2.3 and clause 11)
unfoldable pub is_jump_word : List ℕ → Bool
is_jump_word name = is name (codes "entry") || is name (codes "go") || is name (codes "goto")

unfoldable pub is_block_word : List ℕ → Bool
is_block_word name = is name (codes "where") || is name (codes "forall") || is name (codes "associate") || is name (codes "block") || is name (codes "critical")

-- input and output (clauses 12 and 13)
unfoldable pub is_file_word : List ℕ → Bool
is_file_word name = is name (codes "open") || is name (codes "close") || is name (codes "inquire") || is name (codes "rewind") || is name (codes "backspace")

unfoldable pub is_record_word : List ℕ → Bool
is_record_word name = is name (codes "endfile") || is name (codes "format")

-- program units and procedures (6.4 and clauses 14 and 15)
unfoldable pub is_unit_word : List ℕ → Bool
is_unit_word name = is name (codes "blockdata") || is name (codes "submodule") || is name (codes "include") || is name (codes "import") || is name (codes "abstract") || is name (codes "generic")

unfoldable pub is_prefix_word : List ℕ → Bool
is_prefix_word name = is name (codes "pure") || is name (codes "elemental") || is name (codes "impure") || is name (codes "non_recursive")

unfoldable pub is_specification_word : List ℕ → Bool
is_specification_word name = is_type_word name || is_attribute_word name || is_linkage_word name || is_storage_word name

unfoldable pub is_executable_word : List ℕ → Bool
is_executable_word name = is_allocation_word name || is_jump_word name || is_block_word name || is_file_word name || is_record_word name

unfoldable pub is_other_word : List ℕ → Bool
is_other_word name = is_specification_word name || is_executable_word name || is_unit_word name || is_prefix_word name

-- A token by itself: whether it is a word, this word, a word of another statement, or `:`.
unfoldable pub is_word_in : Option (List Item) → Bool
is_word_in None = false
is_word_in (Some items) = is_word (slice_get items 0)

unfoldable pub is_colon_in : Option (List Item) → Bool
is_colon_in None = false
is_colon_in (Some items) = is_colon (slice_get items 0)

unfoldable pub spells_in : List ℕ → Option (List Item) → Bool
spells_in text None = false
spells_in text (Some items) = spells text (slice_get items 0)

unfoldable pub is_other : Option Item → Bool
is_other (Some (Word name)) = is_other_word name
is_other item = false

unfoldable pub is_other_in : Option (List Item) → Bool
is_other_in None = false
is_other_in (Some items) = is_other (slice_get items 0)

-- `C :`
unfoldable pub is_name_front : Spelled → Spelled → Bool
is_name_front name colon = is_word_in (items_of (name ∷ [])) && is_colon_in (items_of (colon ∷ []))

unfoldable pub is_concurrent : Spelled → List Spelled → Bool
is_concurrent first [] = false
is_concurrent first (second ∷ tokens) = spells_in (codes "do") (items_of (first ∷ [])) && spells_in (codes "concurrent") (items_of (second ∷ []))

-- a statement of the language that is not of the profile, by its first words
unfoldable pub is_unbuilt : List Spelled → Bool
is_unbuilt [] = false
is_unbuilt (first ∷ tokens) = is_other_in (items_of (first ∷ [])) || is_concurrent first tokens

unfoldable pub rule_at : List Spelled → Rule
rule_at tokens = if is_unbuilt tokens then E202 else E201

-- the rule that a statement in no form breaks, by its first words behind a construct's name
unfoldable pub rule_of : List Spelled → Rule
rule_of (name ∷ colon ∷ tokens) = if is_name_front name colon then rule_at tokens else rule_at (name ∷ colon ∷ tokens)
rule_of tokens = rule_at tokens
