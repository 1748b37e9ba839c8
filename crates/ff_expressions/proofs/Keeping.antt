-- What is read keeps its depth counted, from the tokens to the expression.
use Rattle.std.proofs.Common.{◌≡◌, ℕ, Bool, true, false, List, [], ◌∷◌, ◌++◌, length, Option, Some, None, subst, slice_get}
use Rattle.std.specs.Prelude.{if◌then◌else◌, ◌==◌}
use Rattle.std.specs.List.{AllByRecursion, list_any}
use Rattle.std.specs.Option.{option_map, option_and_then}
use Rattle.ff_lexer.specs.declared.token.Kind.{Kind}
use Rattle.ff_lexer.specs.declared.token.Kind.TheVariants as kind
use Rattle.ff_lexer.specs.Statements.{Spelled}
use Rattle.ast_nodes.specs.declared.expression.Expr.TheVariants as expr
use Rattle.ff_expressions.specs.declared.item.Parsed.{Parsed}
use Rattle.ff_expressions.specs.declared.item.Reference.{Reference}
use Rattle.ff_expressions.specs.declared.item.Mark.{Mark}
use Rattle.ff_expressions.specs.declared.item.Mark.TheVariants.{Comma, Colon, DoubleColon, Percent}
use Rattle.ff_expressions.specs.declared.item.Bracket.{Bracket}
use Rattle.ff_expressions.specs.declared.item.Bracket.TheVariants.{Round, Square}
use Rattle.ff_expressions.specs.declared.item.Part.{Part}
use Rattle.ff_expressions.specs.declared.item.Part.TheVariants as part
use Rattle.ff_expressions.specs.declared.item.Item.{Item}
use Rattle.ff_expressions.specs.declared.item.Item.TheVariants as item
use Rattle.ff_expressions.specs.declared.group.Arguments.{Arguments}
use Rattle.ff_expressions.specs.declared.group.GroupRole.{GroupRole}
use Rattle.ff_expressions.specs.declared.group.GroupRole.TheVariants.{Argument, Element}
use Rattle.ff_expressions.specs.declared.level.Level.{Level}
use Rattle.ff_expressions.specs.declared.level.Level.TheVariants.{Equivalence, Disjunction, Conjunction, Relation, Concatenation, Addition, Multiplication, Power}
use Rattle.ff_expressions.specs.declared.sign.Sign.{Sign}
use Rattle.ff_expressions.specs.declared.sign.Sign.TheVariants as sign
use Rattle.ff_expressions.specs.declared.reader.Opened.{Opened}
use Rattle.ff_expressions.specs.declared.reader.Reader.{Reader}
use Rattle.ff_expressions.specs.Trees.{unary, paren, value_of, no_arguments, with_argument, array, implied_do, nothing_named, with_group, as_expression}
use Rattle.ff_expressions.specs.Signs.{sign_of, text_value}
use Rattle.ff_expressions.specs.Pieces.{mark_number, is_mark, there, stands, pieces_from, pieces_of, colons_in, single_colons, is_colon, ahead, each}
use Rattle.ff_expressions.specs.Expressions.{argument, element, value_at, values_behind, values_of, arguments_of, plain, loop_with, loop_over, loop_behind, loop_in, loop_alone, is_loop, with_due_name, group_behind, with_more, with_link, whole, designator_behind, reference_of, paren_of, array_with, array_of, group_alone, literal, literal_alone, is_name, primary_of, operator_at, first_by, first_operand, others_by, other_operands, joined, to_left, to_right, at_most_two, left_level, power_of, term_of, sign_in_front, behind_first, behind_sign, with_sign, sum_behind, sum_of, text_of, relation_of, negation_of, conjunction_of, disjunction_of, expression_of, output_of}
use Rattle.ff_expressions.specs.Items.{is_star, is_keyed, keyed_with, keyed_by, keyed_of, bound_of, step_of, section_with, section_of, value_part, part_of, parts_of, with_item, same_bracket, closed_with, closed_by, with_mark, number_of, with_token, end_with, read_behind, start, items_of}
use Rattle.ff_expressions.specs.Depths.{Counted, DepthIsCounted, designator_of}
use Rattle.ff_expressions.proofs.Counting.{CountedIn, CountedAll, CountedRef, depth-Int, depth-Log, depth-Char, counted_leaf, counted_unary, counted_paren, counted_binary, counted_triple, counted_none, counted_more, counted_array, counted_loop, counted_name, counted_group, counted_nothing, counted_whole}

-- of what there may be

abbrev Holds : {A : Type 0} → (A → Type 0) → Option A → Type 0
Holds P None = Unit {0}
Holds P (Some x) = P x

holds_map : {A B : Type 0} → (P : A → Type 0) (Q : B → Type 0) (f : A → B) (o : Option A) → ((x : A) → P x → Q (f x)) → Holds P o → Holds Q (option_map f o)
holds_map P Q f None k h = tt
holds_map P Q f (Some x) k h = k x h

holds_then : {A B : Type 0} → (P : A → Type 0) (Q : B → Type 0) (f : A → Option B) (o : Option A) → ((x : A) → P x → Holds Q (f x)) → Holds P o → Holds Q (option_and_then f o)
holds_then P Q f None k h = tt
holds_then P Q f (Some x) k h = k x h

holds_if : {A : Type 0} → (P : A → Type 0) (t : Bool) (a b : Option A) → Holds P a → Holds P b → Holds P (if t then a else b)
holds_if P true a b h k = h
holds_if P false a b h k = k

holds_some : {A : Type 0} → (P : A → Type 0) (o : Option A) (x : A) → Holds P o → o ≡ Some x → P x
holds_some P o x h e = subst (Holds P) e h

all_more : {A : Type 0} → (P : A → Type 0) (xs ys : List A) → AllByRecursion P xs → AllByRecursion P ys → AllByRecursion P (xs ++ ys)
all_more P [] ys h k = k
all_more P (x ∷ xs) ys h k = (h.0, all_more P xs ys h.1 k)

holds_ahead : {A : Type 0} → (P : A → Type 0) (o : Option A) (others : Option (List A)) → Holds P o → Holds (AllByRecursion P) others → Holds (AllByRecursion P) (ahead o others)
holds_ahead P None others h k = tt
holds_ahead P (Some x) None h k = tt
holds_ahead P (Some x) (Some xs) h k = (h, k)

holds_each : {A B : Type 0} → (P : A → Type 0) (Q : B → Type 0) (f : A → Option B) (xs : List A) → ((x : A) → P x → Holds Q (f x)) → AllByRecursion P xs → Holds (AllByRecursion Q) (each f xs)
holds_each P Q f [] k h = tt
holds_each P Q f (x ∷ xs) k h = holds_ahead Q (f x) (each f xs) (k x h.0) (holds_each P Q f xs k h.1)

-- parts and items

abbrev GoodPart : Part → Type 0
GoodPart part.Star = Unit {0}
GoodPart (part.Plain value) = Counted value
GoodPart (part.Implied value) = Counted value
GoodPart (part.Section lower upper step) = CountedIn lower × CountedIn upper × CountedIn (value_of step)
GoodPart (part.Keyed name value) = CountedIn value

abbrev GoodParts : List Part → Type 0
GoodParts = AllByRecursion GoodPart

abbrev GoodItem : Item → Type 0
GoodItem (item.Group bracket parts) = GoodParts parts
GoodItem (item.Word name) = Unit {0}
GoodItem (item.Number digits suffix) = Unit {0}
GoodItem (item.Truth value) = Unit {0}
GoodItem (item.Text bytes) = Unit {0}
GoodItem (item.Mark mark) = Unit {0}

abbrev Good : List Item → Type 0
Good = AllByRecursion GoodItem

abbrev Keeps : (List Item → Option Parsed) → Type 0
Keeps f = (items : List Item) → Good items → Holds Counted (f items)

-- arguments and elements

good_argument : (p : Part) → GoodPart p → Holds Counted (argument p)
good_argument part.Star h = tt
good_argument (part.Plain value) h = h
good_argument (part.Implied value) h = tt
good_argument (part.Section lower upper step) h = counted_triple lower upper (value_of step) h.0 h.1 h.2
good_argument (part.Keyed name value) h = tt

good_element : (p : Part) → GoodPart p → Holds Counted (element p)
good_element part.Star h = tt
good_element (part.Plain value) h = h
good_element (part.Implied value) h = h
good_element (part.Section lower upper step) h = tt
good_element (part.Keyed name value) h = tt

good_plain : (p : Part) → GoodPart p → Holds Counted (plain p)
good_plain part.Star h = tt
good_plain (part.Plain value) h = h
good_plain (part.Implied value) h = tt
good_plain (part.Section lower upper step) h = tt
good_plain (part.Keyed name value) h = tt

good_value : (place : GroupRole) (p : Part) → GoodPart p → Holds Counted (value_at place p)
good_value Argument p h = good_argument p h
good_value Element p h = good_element p h

good_values : (place : GroupRole) (parts : List Part) (before : Arguments) → GoodParts parts → CountedAll before → Holds CountedAll (values_behind place before parts)
good_values place [] before h c = c
good_values place (p ∷ parts) before h c =
    holds_then Counted CountedAll (λ value. values_behind place (with_argument before value) parts) (value_at place p)
    (λ value d. good_values place parts (with_argument before value) h.1 (counted_more before value c d)) (good_value place p h.0)

-- implied dos

good_with : (items : Arguments) (variable : List ℕ) (lower : Parsed) (bounds : List Parsed) → CountedAll items → Counted lower → AllByRecursion Counted bounds → Holds Counted (loop_with items variable lower bounds)
good_with items variable lower [] c d h = tt
good_with items variable lower (upper ∷ []) c d h = counted_loop variable lower upper None items d h.0 tt c
good_with items variable lower (upper ∷ step ∷ more) c d h =
    holds_if Counted (length more == 0) (Some (implied_do variable lower upper (Some step) items)) None (counted_loop variable lower upper (Some step) items d h.0 h.1.0 c) tt

good_over : (items : Arguments) (variable : List ℕ) (lower : Option Parsed) (bounds : List Part) → CountedAll items → CountedIn lower → GoodParts bounds → Holds Counted (loop_over items variable lower bounds)
good_over items variable None bounds c d h = tt
good_over items variable (Some lower) bounds c d h =
    holds_if Counted (length items.list == 0) None (option_and_then (loop_with items variable lower) (each plain bounds)) tt
    (holds_then (AllByRecursion Counted) Counted (loop_with items variable lower) (each plain bounds) (λ bs k. good_with items variable lower bs c d k) (holds_each GoodPart Counted plain bounds good_plain h))

good_behind : (parts : List Part) (items : Arguments) → GoodParts parts → CountedAll items → Holds Counted (loop_behind items parts)
good_behind [] items h c = tt
good_behind (part.Star ∷ parts) items h c = tt
good_behind (part.Plain value ∷ parts) items h c = good_behind parts (with_argument items value) h.1 (counted_more items value c h.0)
good_behind (part.Implied value ∷ parts) items h c = good_behind parts (with_argument items value) h.1 (counted_more items value c h.0)
good_behind (part.Section lower upper step ∷ parts) items h c = tt
good_behind (part.Keyed name value ∷ parts) items h c = good_over items name value parts c h.0 h.1

good_loop_in : (one : Item) → GoodItem one → Holds Counted (loop_in one)
good_loop_in (item.Group bracket parts) h = good_behind parts no_arguments h counted_none
good_loop_in (item.Word name) h = tt
good_loop_in (item.Number digits suffix) h = tt
good_loop_in (item.Truth value) h = tt
good_loop_in (item.Text bytes) h = tt
good_loop_in (item.Mark mark) h = tt

good_loop : Keeps loop_alone
good_loop [] h = tt
good_loop (one ∷ items) h = good_loop_in one h.0

-- designators

abbrev GoodLink : Bool × Reference → Type 0
GoodLink link = CountedRef link.0 link.1

good_due : (before : Reference) (one : Item) → CountedRef true before → Holds GoodLink (with_due_name before one)
good_due before (item.Word name) c = counted_name true false before name c
good_due before (item.Group bracket parts) c = tt
good_due before (item.Number digits suffix) c = tt
good_due before (item.Truth value) c = tt
good_due before (item.Text bytes) c = tt
good_due before (item.Mark mark) c = tt

still_due : (before : Reference) → CountedRef false before → CountedRef true before
still_due before c = record { count = c.count; named = λ e. cc }

good_group : (before : Reference) (bracket : Bracket) (parts : List Part) → CountedRef false before → GoodParts parts → Holds GoodLink (group_behind before bracket parts)
good_group before Round parts c h =
    holds_map CountedAll GoodLink (λ arguments. (false, with_group before arguments)) (arguments_of parts) (λ arguments d. counted_group false false before arguments c d) (good_values Argument parts no_arguments h counted_none)
good_group before Square parts c h = tt

good_more : (before : Reference) (one : Item) → CountedRef false before → GoodItem one → Holds GoodLink (with_more before one)
good_more before (item.Group bracket parts) c h = good_group before bracket parts c h
good_more before (item.Mark mark) c h = holds_if GoodLink (mark_number mark == mark_number Percent) (Some (true, before)) None (still_due before c) tt
good_more before (item.Word name) c h = tt
good_more before (item.Number digits suffix) c h = tt
good_more before (item.Truth value) c h = tt
good_more before (item.Text bytes) c h = tt

good_link : (due : Bool) (before : Reference) (one : Item) → CountedRef due before → GoodItem one → Holds GoodLink (with_link due before one)
good_link true before one c h = good_due before one c
good_link false before one c h = good_more before one c h

good_end : (due : Bool) (reference : Reference) → CountedRef due reference → Holds (CountedRef false) (whole due reference)
good_end true reference c = tt
good_end false reference c = c

good_designator : (items : List Item) (due : Bool) (before : Reference) → Good items → CountedRef due before → Holds (CountedRef false) (designator_behind due before items)
good_designator [] due before h c = good_end due before c
good_designator (one ∷ items) due before h c =
    holds_then GoodLink (CountedRef false) (λ next. designator_behind next.0 next.1 items) (with_link due before one)
    (λ next d. good_designator items next.0 next.1 h.1 d) (good_link due before one c h.0)

good_reference : (items : List Item) → Good items → Holds (CountedRef false) (reference_of items)
unfolding reference_of
good_reference items h = good_designator items true nothing_named h counted_nothing

-- primaries

good_paren : (parts : List Part) → GoodParts parts → Holds Counted (paren_of parts)
good_paren [] h = tt
good_paren (p ∷ parts) h =
    holds_if Counted (length parts == 0) (option_map paren (plain p)) None (holds_map Counted Counted paren (plain p) counted_paren (good_plain p h.0)) tt

good_array : (parts : List Part) → GoodParts parts → Holds Counted (array_of parts)
good_array parts h =
    holds_then CountedAll Counted array_with (values_of Element parts)
    (λ items c. holds_if Counted (length items.list == 0) None (Some (array items)) tt (counted_array items c)) (good_values Element parts no_arguments h counted_none)

good_alone : (bracket : Bracket) (parts : List Part) → GoodParts parts → Holds Counted (group_alone bracket parts)
good_alone Round parts h = good_paren parts h
good_alone Square parts h = good_array parts h

good_literal : (one : Item) → GoodItem one → Holds Counted (literal one)
good_literal (item.Number digits suffix) h = counted_leaf (expr.Int digits suffix) (depth-Int digits suffix)
good_literal (item.Truth value) h = counted_leaf (expr.Log value) (depth-Log value)
good_literal (item.Text bytes) h = counted_leaf (expr.Char bytes) (depth-Char bytes)
good_literal (item.Group bracket parts) h = good_alone bracket parts h
good_literal (item.Word name) h = tt
good_literal (item.Mark mark) h = tt

good_literal_alone : Keeps literal_alone
good_literal_alone [] h = tt
good_literal_alone (one ∷ items) h = holds_if Counted (length items == 0) (literal one) None (good_literal one h.0) tt

good_primary : Keeps primary_of
unfolding primary_of
good_primary items h =
    holds_if Counted (there is_name (slice_get items 0)) (option_map as_expression (reference_of items)) (literal_alone items)
    (holds_map (CountedRef false) Counted as_expression (reference_of items) counted_whole (good_reference items h)) (good_literal_alone items h)

-- the levels of operators

good_first_by : (o : Option ℕ) (one : Item) (items : List Item) → GoodItem one → Good items → Good (first_by o one items)
good_first_by None one items h k = (h, k)
good_first_by (Some code) one items h k = tt

good_first : (level : Level) (items : List Item) → Good items → Good (first_operand level items)
good_first level [] h = tt
good_first level (one ∷ items) h = good_first_by (operator_at level one) one (first_operand level items) h.0 (good_first level items h.1)

abbrev GoodOthers : List (ℕ × List Item) → Type 0
GoodOthers = AllByRecursion (λ other. Good other.1)

good_others_by : (o : Option ℕ) (first : List Item) (others : List (ℕ × List Item)) → Good first → GoodOthers others → GoodOthers (others_by o first others)
good_others_by None first others h k = k
good_others_by (Some code) first others h k = (h, k)

good_others : (level : Level) (items : List Item) → Good items → GoodOthers (other_operands level items)
good_others level [] h = tt
good_others level (one ∷ items) h = good_others_by (operator_at level one) (first_operand level items) (other_operands level items) (good_first level items h.1) (good_others level items h.1)

good_joined : (operator : ℕ) (left right : Option Parsed) → Holds Counted left → Holds Counted right → Holds Counted (joined operator left right)
good_joined operator None right h k = tt
good_joined operator (Some left) None h k = tt
good_joined operator (Some left) (Some right) h k = counted_binary operator left right h k

module _ (operand : List Item → Option Parsed) (keeps : Keeps operand) where
  good_to_left : (others : List (ℕ × List Item)) (left : Option Parsed) → GoodOthers others → Holds Counted left → Holds Counted (to_left operand left others)
  good_to_left [] left h k = k
  good_to_left (other ∷ others) left h k = good_to_left others (joined other.0 left (operand other.1)) h.1 (good_joined other.0 left (operand other.1) k (keeps other.1 h.0))

  good_to_right : (others : List (ℕ × List Item)) (first : List Item) → GoodOthers others → Good first → Holds Counted (to_right operand first others)
  good_to_right [] first h k = keeps first k
  good_to_right (other ∷ others) first h k = good_joined other.0 (operand first) (to_right operand other.1 others) (keeps first k) (good_to_right others other.1 h.1 h.0)

  good_two : (others : List (ℕ × List Item)) (left : Option Parsed) → GoodOthers others → Holds Counted left → Holds Counted (at_most_two operand left others)
  good_two [] left h k = k
  good_two (other ∷ []) left h k = good_joined other.0 left (operand other.1) k (keeps other.1 h.0)
  good_two (other ∷ another ∷ others) left h k = tt

  good_left : (level : Level) → Keeps (left_level level operand)
  good_left level items h = good_to_left (other_operands level items) (operand (first_operand level items)) (good_others level items h) (keeps (first_operand level items) (good_first level items h))

good_power : Keeps power_of
unfolding power_of
good_power items h = good_to_right primary_of good_primary (other_operands Power items) (first_operand Power items) (good_others Power items h) (good_first Power items h)

good_term : Keeps term_of
unfolding term_of
good_term items h = good_left power_of good_power Multiplication items h

good_behind_first : (items : List Item) → Good items → Good (behind_first items)
good_behind_first [] h = tt
good_behind_first (one ∷ items) h = h.1

good_behind_sign : (sign : Option ℕ) (items : List Item) → Good items → Good (behind_sign sign items)
good_behind_sign None items h = h
good_behind_sign (Some code) items h = good_behind_first items h

good_sign : (sign : Option ℕ) (value : Option Parsed) → Holds Counted value → Holds Counted (with_sign sign value)
good_sign None value h = h
good_sign (Some code) value h = holds_map Counted Counted (unary code) value (counted_unary code) h

good_sum_behind : (sign : Option ℕ) (items : List Item) → Good items → Holds Counted (sum_behind sign items)
good_sum_behind sign items h =
    good_to_left term_of good_term (other_operands Addition items) (with_sign sign (term_of (first_operand Addition items))) (good_others Addition items h)
    (good_sign sign (term_of (first_operand Addition items)) (good_term (first_operand Addition items) (good_first Addition items h)))

good_sum : Keeps sum_of
unfolding sum_of
good_sum items h = good_sum_behind (sign_in_front items) (behind_sign (sign_in_front items) items) (good_behind_sign (sign_in_front items) items h)

good_text : Keeps text_of
unfolding text_of
good_text items h = good_left sum_of good_sum Concatenation items h

good_relation : Keeps relation_of
unfolding relation_of
good_relation items h =
    good_two text_of good_text (other_operands Relation items) (text_of (first_operand Relation items)) (good_others Relation items h) (good_text (first_operand Relation items) (good_first Relation items h))

good_negation : Keeps negation_of
unfolding negation_of
good_negation items h =
    holds_if Counted (stands (Mark.Operator 16) (slice_get items 0)) (option_map (unary 16) (relation_of (behind_first items))) (relation_of items)
    (holds_map Counted Counted (unary 16) (relation_of (behind_first items)) (counted_unary 16) (good_relation (behind_first items) (good_behind_first items h))) (good_relation items h)

good_conjunction : Keeps conjunction_of
unfolding conjunction_of
good_conjunction items h = good_left negation_of good_negation Conjunction items h

good_disjunction : Keeps disjunction_of
unfolding disjunction_of
good_disjunction items h = good_left conjunction_of good_conjunction Disjunction items h

good_expression : Keeps expression_of
unfolding expression_of
good_expression items h = good_left disjunction_of good_disjunction Equivalence items h

-- groups

good_pieces : (mark : Mark) (items piece : List Item) → Good items → Good piece → AllByRecursion Good (pieces_from mark piece items)
good_pieces mark [] piece h k = (k, tt)
good_pieces mark (one ∷ items) piece h k = by_test (is_mark mark one) (good_pieces mark items [] h.1 tt) (good_pieces mark items (piece ++ one ∷ []) h.1 (all_more GoodItem piece (one ∷ []) k (h.0, tt)))
  where
    by_test : (t : Bool) → AllByRecursion Good (pieces_from mark [] items) → AllByRecursion Good (pieces_from mark (piece ++ one ∷ []) items) →
        AllByRecursion Good (if t then piece ∷ pieces_from mark [] items else pieces_from mark (piece ++ one ∷ []) items)
    by_test true a b = (k, a)
    by_test false a b = b

good_colons_in : (t : Bool) (one : Item) → GoodItem one → Good (if t then item.Mark Colon ∷ item.Mark Colon ∷ [] else one ∷ [])
good_colons_in true one h = (tt, (tt, tt))
good_colons_in false one h = (h, tt)

good_colons : (items : List Item) → Good items → Good (single_colons items)
good_colons [] h = tt
good_colons (one ∷ items) h = all_more GoodItem (colons_in one) (single_colons items) (good_colons_in (is_mark DoubleColon one) one h.0) (good_colons items h.1)

good_bound : (items : List Item) → Good items → Holds CountedIn (bound_of items)
good_bound items h = holds_if CountedIn (length items == 0) (Some None) (option_map Some (expression_of items)) tt (holds_map Counted CountedIn Some (expression_of items) (λ value c. c) (good_expression items h))

good_step : (step : Option Parsed) → CountedIn step → CountedIn (value_of (step_of step))
good_step None c = tt
good_step (Some value) c = c

good_section_with : (bounds : List (Option Parsed)) → AllByRecursion CountedIn bounds → Holds GoodPart (section_with bounds)
good_section_with [] h = tt
good_section_with (lower ∷ []) h = tt
good_section_with (lower ∷ upper ∷ []) h = (h.0, h.1.0, tt)
good_section_with (lower ∷ upper ∷ step ∷ more) h =
    holds_if GoodPart (length more == 0) (Some (part.Section lower upper (step_of step))) None (h.0, h.1.0, good_step step h.1.1.0) tt

good_section : (items : List Item) → Good items → Holds GoodPart (section_of items)
good_section items h =
    holds_then (AllByRecursion CountedIn) GoodPart section_with (each bound_of (pieces_of Colon (single_colons items))) good_section_with
    (holds_each Good CountedIn bound_of (pieces_of Colon (single_colons items)) good_bound (good_pieces Colon (single_colons items) [] (good_colons items h) tt))

good_keyed_with : (name : List ℕ) (value : List Item) → Good value → Holds GoodPart (keyed_with name value)
good_keyed_with name value h =
    holds_if GoodPart (is_star value) (Some (part.Keyed name None)) (option_map (λ e. part.Keyed name (Some e)) (expression_of value)) tt
    (holds_map Counted GoodPart (λ e. part.Keyed name (Some e)) (expression_of value) (λ e c. c) (good_expression value h))

good_keyed_by : (one : Item) (items : List Item) → Good items → Holds GoodPart (keyed_by one items)
good_keyed_by (item.Word name) items h = good_keyed_with name (behind_first items) (good_behind_first items h)
good_keyed_by (item.Number digits suffix) items h = tt
good_keyed_by (item.Truth value) items h = tt
good_keyed_by (item.Text bytes) items h = tt
good_keyed_by (item.Mark mark) items h = tt
good_keyed_by (item.Group bracket parts) items h = tt

good_keyed : (items : List Item) → Good items → Holds GoodPart (keyed_of items)
good_keyed [] h = tt
good_keyed (one ∷ items) h = good_keyed_by one items h.1

good_value_part : (items : List Item) → Good items → Holds GoodPart (value_part items)
good_value_part items h =
    holds_if GoodPart (is_loop items) (option_map part.Implied (loop_alone items)) (option_map part.Plain (expression_of items))
    (holds_map Counted GoodPart part.Implied (loop_alone items) (λ value c. c) (good_loop items h)) (holds_map Counted GoodPart part.Plain (expression_of items) (λ value c. c) (good_expression items h))

good_part : (items : List Item) → Good items → Holds GoodPart (part_of items)
unfolding part_of
good_part items h =
    holds_if GoodPart (is_star items) (Some part.Star) (if is_keyed items then keyed_of items else if list_any is_colon items then section_of items else value_part items) tt
    (holds_if GoodPart (is_keyed items) (keyed_of items) (if list_any is_colon items then section_of items else value_part items) (good_keyed items h)
    (holds_if GoodPart (list_any is_colon items) (section_of items) (value_part items) (good_section items h) (good_value_part items h)))

good_parts : (items : List Item) → Good items → Holds GoodParts (parts_of items)
good_parts items h =
    holds_if GoodParts (length items == 0) (Some []) (each part_of (pieces_of Comma items)) tt
    (holds_each Good GoodPart part_of (pieces_of Comma items) good_part (good_pieces Comma items [] h tt))

-- the reader

abbrev GoodOpened : List Opened → Type 0
GoodOpened = AllByRecursion (λ group. Good group.before)

abbrev GoodReader : Reader → Type 0
GoodReader reader = GoodOpened reader.opened × Good reader.items

good_item : (reader : Reader) (one : Item) → GoodReader reader → GoodItem one → GoodReader (with_item reader one)
good_item reader one h k = (h.0, all_more GoodItem reader.items (one ∷ []) h.1 (k, tt))

good_closed_with : (group : Opened) (opened : List Opened) (parts : Option (List Part)) → Good group.before → GoodOpened opened → Holds GoodParts parts → Holds GoodReader (closed_with group opened parts)
good_closed_with group opened None h k p = tt
good_closed_with group opened (Some parts) h k p = (k, all_more GoodItem group.before (item.Group group.bracket parts ∷ []) h (p, tt))

good_closed : (bracket : Bracket) (opened : List Opened) (items : List Item) → GoodOpened opened → Good items → Holds GoodReader (closed_by bracket opened items)
good_closed bracket [] items h k = tt
good_closed bracket (group ∷ opened) items h k =
    holds_if GoodReader (same_bracket group.bracket bracket) (closed_with group opened (parts_of items)) None (good_closed_with group opened (parts_of items) h.0 h.1 (good_parts items k)) tt

good_mark : (reader : Reader) (s : Option Sign) → GoodReader reader → Holds GoodReader (with_mark reader s)
good_mark reader None h = tt
good_mark reader (Some (sign.Mark mark)) h = good_item reader (item.Mark mark) h tt
good_mark reader (Some (sign.Truth value)) h = good_item reader (item.Truth value) h tt
good_mark reader (Some (sign.Opening bracket)) h = ((h.1, h.0), tt)
good_mark reader (Some (sign.Closing bracket)) h = good_closed bracket reader.opened reader.items h.0 h.1

good_token : (reader : Reader) (kind : Kind) (bytes : List ℕ) → GoodReader reader → Holds GoodReader (with_token reader kind bytes)
good_token reader kind.Word bytes h = good_item reader (item.Word bytes) h tt
good_token reader kind.Number bytes h = good_item reader (number_of bytes) h tt
good_token reader kind.Text bytes h = good_item reader (item.Text (text_value bytes)) h tt
good_token reader kind.Mark bytes h = good_mark reader (sign_of bytes) h

good_end_with : (opened : List Opened) (items : List Item) → Good items → Holds Good (end_with opened items)
good_end_with [] items h = h
good_end_with (group ∷ opened) items h = tt

good_reads : (tokens : List Spelled) (reader : Reader) → GoodReader reader → Holds Good (read_behind reader tokens)
good_reads [] reader h = good_end_with reader.opened reader.items h.1
good_reads (token ∷ tokens) reader h =
    holds_then GoodReader Good (λ next. read_behind next tokens) (with_token reader token.0 token.1) (λ next k. good_reads tokens next k) (good_token reader token.0 token.1 h)

all_parts : {A : Type 0} → (P : A → Type 0) (xs ys : List A) → AllByRecursion P (xs ++ ys) → AllByRecursion P xs × AllByRecursion P ys
all_parts P [] ys h = (tt, h)
all_parts P (x ∷ xs) ys h = ((h.0, (all_parts P xs ys h.1).0), (all_parts P xs ys h.1).1)

good_within : (tokens : List Spelled) (before items behind : List Item) → items_of tokens ≡ Some (before ++ (items ++ behind)) → Good items
good_within tokens before items behind e =
    (all_parts GoodItem items behind (all_parts GoodItem before (items ++ behind) (holds_some Good (items_of tokens) (before ++ (items ++ behind)) (good_reads tokens start (tt, tt)) e)).1).0

counted_within : (read : List Item → Option Parsed) → Keeps read → DepthIsCounted read
counted_within read keeps tokens before items behind value e f = (holds_some Counted (read items) value (keeps items (good_within tokens before items behind e)) f).count

good_output : Keeps output_of
good_output items h = holds_if Counted (is_loop items) (loop_alone items) (expression_of items) (good_loop items h) (good_expression items h)

good_designator_of : Keeps designator_of
good_designator_of items h = holds_map (CountedRef false) Counted as_expression (reference_of items) counted_whole (good_reference items h)

pub expression_is_counted : DepthIsCounted expression_of
expression_is_counted = counted_within expression_of good_expression

pub output_is_counted : DepthIsCounted output_of
output_is_counted = counted_within output_of good_output

pub designator_is_counted : DepthIsCounted designator_of
designator_is_counted = counted_within designator_of good_designator_of
