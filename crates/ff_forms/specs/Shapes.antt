-- What stands in front of items, parts and pieces.
use Rattle.std.specs.Prelude.{ℕ, Bool, true, false, List, [], ◌∷◌, bytes_eq, slice_get, Option, Some, None, if◌then◌else◌}
use Rattle.ast_nodes.specs.declared.expression.Designator.{Designator, out-Designator}
use Rattle.ast_nodes.specs.declared.expression.Expr.{Expr, out-Expr}
use Rattle.ast_nodes.specs.declared.expression.Expr.TheOpen.{Expr-F, RefPart-F}
use Rattle.ast_nodes.specs.declared.expression.RefPart.{RefPart, out-RefPart}
use Rattle.ff_expressions.specs.declared.item.Bracket.TheVariants.{Round}
use Rattle.ff_expressions.specs.declared.item.Item.{Item}
use Rattle.ff_expressions.specs.declared.item.Item.TheVariants.{Word, Mark, Group}
use Rattle.ff_expressions.specs.declared.item.Mark.TheVariants as mark
use Rattle.ff_expressions.specs.declared.item.Part.{Part}
use Rattle.ff_expressions.specs.declared.item.Part.TheVariants.{Star, Plain}
use Rattle.ff_expressions.specs.Expressions.{expression_of, reference_of, arguments_of, output_of}
use Rattle.ff_forms.specs.Answers.{on, Read}

-- whether a name is this word
unfoldable pub is : List ℕ → List ℕ → Bool
is name text = bytes_eq name text

unfoldable pub nothing : {A : Type 0} → List A → Option (Unit {0})
nothing [] = Some tt
nothing (x ∷ xs) = None

unfoldable pub something : {A : Type 0} → List A → Option (Unit {0})
something [] = None
something (x ∷ xs) = Some tt

-- the first, and those behind it
unfoldable pub first_of : {A : Type 0} → List A → Option (A × List A)
first_of [] = None
first_of (x ∷ xs) = Some (x, xs)

unfoldable pub only_one : {A : Type 0} → List A → Option A
only_one xs = on (first_of xs) (λ found. on (nothing found.1) (λ _. Some found.0))

unfoldable pub word_first : List Item → Option (List ℕ × List Item)
word_first (Word name ∷ rest) = Some (name, rest)
word_first items = None

unfoldable pub only_word : List Item → Option (List ℕ)
only_word items = on (word_first items) (λ found. on (nothing found.1) (λ _. Some found.0))

-- a word that may be missing
unfoldable pub maybe_word : List Item → Option (Option (List ℕ))
maybe_word [] = Some None
maybe_word (Word name ∷ rest) = on (nothing rest) (λ _. Some (Some name))
maybe_word items = None

-- what is behind this word
unfoldable pub behind_word : List ℕ → List Item → Option (List Item)
behind_word text items = on (word_first items) (λ found. if is found.0 text then Some found.1 else None)

unfoldable pub behind_comma : List Item → Option (List Item)
behind_comma (Mark mark.Comma ∷ rest) = Some rest
behind_comma items = None

unfoldable pub behind_colon : List Item → Option (List Item)
behind_colon (Mark mark.Colon ∷ rest) = Some rest
behind_colon items = None

unfoldable pub behind_double_colon : List Item → Option (List Item)
behind_double_colon (Mark mark.DoubleColon ∷ rest) = Some rest
behind_double_colon items = None

unfoldable pub behind_equals : List Item → Option (List Item)
behind_equals (Mark mark.Equals ∷ rest) = Some rest
behind_equals items = None

unfoldable pub behind_arrow : List Item → Option (List Item)
behind_arrow (Mark mark.Arrow ∷ rest) = Some rest
behind_arrow items = None

-- a group in parentheses, and what is behind it
unfoldable pub group_first : List Item → Option (List Part × List Item)
group_first (Group Round parts ∷ rest) = Some (parts, rest)
group_first items = None

unfoldable pub only_group : List Item → Option (List Part)
only_group items = on (group_first items) (λ found. on (nothing found.1) (λ _. Some found.0))

unfoldable pub is_group : Option Item → Bool
is_group (Some (Group Round parts)) = true
is_group item = false

unfoldable pub is_comma : Option Item → Bool
is_comma (Some (Mark mark.Comma)) = true
is_comma item = false

unfoldable pub is_colon : Option Item → Bool
is_colon (Some (Mark mark.Colon)) = true
is_colon item = false

unfoldable pub is_double_colon : Option Item → Bool
is_double_colon (Some (Mark mark.DoubleColon)) = true
is_double_colon item = false

unfoldable pub is_word : Option Item → Bool
is_word (Some (Word name)) = true
is_word item = false

unfoldable pub spells : List ℕ → Option Item → Bool
spells text (Some (Word name)) = is name text
spells text item = false

-- `::` may stand in front
unfoldable pub past_double_colon : List Item → Option (List Item)
past_double_colon items = if is_double_colon (slice_get items 0) then behind_double_colon items else Some items

unfoldable pub expression_in : List Item → Read Expr
expression_in items = on (expression_of items) (λ e. Some (e.tree, e.depth))

unfoldable pub output_in : List Item → Read Expr
output_in items = on (output_of items) (λ e. Some (e.tree, e.depth))

unfoldable pub designator_in : List Item → Read Designator
designator_in items = on (reference_of items) (λ r. Some (r.designator, r.depth))

unfoldable pub arguments_in : List Part → Read (List Expr)
arguments_in parts = on (arguments_of parts) (λ a. Some (a.list, a.depth))

-- a part that is an expression
unfoldable pub plain_part : Part → Read Expr
plain_part (Plain value) = Some (value.tree, value.depth)
plain_part other = None

-- parts that are one expression
unfoldable pub one_expression : List Part → Read Expr
one_expression parts = on (only_one parts) plain_part

-- `*`
unfoldable pub star_part : Part → Option (Unit {0})
star_part Star = Some tt
star_part other = None

unfoldable pub behind_star : List Part → Option (List Part)
behind_star parts = on (first_of parts) (λ found. on (star_part found.0) (λ _. Some found.1))

unfoldable pub part_name : RefPart-F Expr RefPart Designator → Option (List ℕ)
part_name (RefPart-F.Part name) = Some name
part_name (RefPart-F.Group arguments) = None

unfoldable pub name_alone : List RefPart → Option (List ℕ)
name_alone (part ∷ []) = part_name (out-RefPart part)
name_alone parts = None

unfoldable pub name_layer : Expr-F Expr RefPart Designator → Option (List ℕ)
name_layer (Expr-F.Ref designator) = name_alone (out-Designator designator).parts
name_layer other = None

-- an expression that is a name alone
unfoldable pub name_in : Expr → Option (List ℕ)
name_in e = name_layer (out-Expr e)

-- a part that is a name
unfoldable pub name_part : Part → Option (List ℕ)
name_part part = on (plain_part part) (λ e. name_in e.0)

-- parts that are one name
unfoldable pub one_name : List Part → Option (List ℕ)
one_name parts = on (only_one parts) name_part
