-- A statement that is written in a form is found by its leading words.
use Rattle.std.proofs.Common.{◌≡◌, ℕ, Bool, true, false, ◌&&◌, List, [], ◌∷◌, ◌++◌, max, Option, Some, None, refl, ap, sym, ◌∙◌, subst, append-nil}
use Rattle.std.specs.Prelude.{codes, slice_get, Result, Ok, Err}
use Rattle.ast_nodes.specs.declared.declaration.Attribute.{Attribute}
use Rattle.ast_nodes.specs.declared.declaration.Entity.{Entity}
use Rattle.ast_nodes.specs.declared.declaration.Rename.{Rename}
use Rattle.ast_nodes.specs.declared.declaration.TypeSpec.{TypeSpec}
use Rattle.ast_nodes.specs.declared.declaration.TypeSpec.TheVariants as type
use Rattle.ast_nodes.specs.declared.expression.Designator.{Designator}
use Rattle.ast_nodes.specs.declared.expression.Expr.{Expr}
use Rattle.ast_nodes.specs.declared.statement.Statement.{Statement}
use Rattle.lf_base.specs.declared.rule.Rule.{Rule}
use Rattle.ff_lexer.specs.Statements.{Spelled}
use Rattle.ff_expressions.specs.declared.item.Bracket.TheVariants.{Round}
use Rattle.ff_expressions.specs.declared.item.Item.{Item}
use Rattle.ff_expressions.specs.declared.item.Item.TheVariants.{Word, Mark, Group}
use Rattle.ff_expressions.specs.declared.item.Mark.TheVariants as mark
use Rattle.ff_expressions.specs.declared.item.Part.{Part}
use Rattle.ff_expressions.specs.Pieces.{pieces_of, pieces_from}
use Rattle.ff_forms.specs.declared.chain.Seen.TheVariants.{Other}
use Rattle.ff_forms.specs.declared.form.End.{End}
use Rattle.ff_forms.specs.declared.form.Form.{Form}
use Rattle.ff_forms.specs.declared.form.Form.TheVariants as form
use Rattle.ff_forms.specs.declared.form.Formed.{Formed}
use Rattle.ff_forms.specs.Answers.{on, Read, all, each}
use Rattle.ff_forms.specs.Shapes.{is, nothing, first_of, only_one, word_first, only_word, behind_word, behind_comma, behind_colon, behind_double_colon, behind_equals, group_first, only_group, past_double_colon, is_double_colon, is_group, is_colon, is_comma, spells, is_word, behind_star, star_part}
use Rattle.ff_forms.specs.Names.{names_of, listed_names, use_of, use_behind, list_use, only_use, only_list, only_item, rename_use, rename_of, renamed, bare_use, use_stmt}
use Rattle.ff_forms.specs.Procedures.{subroutine_of, subroutine_dummies, function_of, function_behind, result_of, result_name, behind_function, behind_recursive, begins_function, begins_recursive, typed_of, integer_row, character_row, derived_row, recursive_row, recursive_word, recursive_integer}
use Rattle.ff_forms.specs.Types.{attribute_of, integer_type, character_type, derived_type}
use Rattle.ff_forms.specs.Declarations.{declaration_of, declared_of, declared_behind, plain_declared, full_declared, attributes_of, entities_of, entity_of, entity_behind, own_bounds, own_value}
use Rattle.ff_forms.specs.Constructs.{else_row, else_behind, else_word, else_if_row, do_row, do_behind, do_word, while_row, counted_row, counted_by, next_expression, step_of, select_row, select_case_row, case_row, ranged_case, default_case, end_row, end_words, end_behind, ended_by, ended_unit, ended_at_once, ended_unit_at_once}
use Rattle.ff_forms.specs.Output.{print_row, write_row, read_row, format_first, star_format, printed, none_listed, comma_listed, listed_of, one_item, written, write_controls, format_behind, format_next, format_part, advance_of, advance_first, advance_part, no_advance, is_no_advance, read_controls, iostat_of, one_iostat, iostat_part, iostat_named, iostat_word}
use Rattle.ff_forms.specs.Actions.{seen_by, seen_in, is_assigned, is_assignment, assignment_row, assigned_by, assigned, call_row, call_arguments, stop_row, stop_code, some_code, error_row, exit_row, cycle_row, return_row, continue_row, transfer_named, stop_named, action_named, action_word, action_of, lone_if}
use Rattle.ff_forms.specs.Forms.{deep_flag, read_of, judged, form_of}
use Rattle.ff_forms.specs.Words.{rule_of}
use Rattle.ff_forms.specs.Rows.{program_row, specifics_row, module_word, module_row, contains_row, use_row, implicit_row, access_names, access_row, access_code, written_access, unsaid_access, type_access, type_definition, type_row, interface_row, is_then, lone_if_of, if_behind, if_row, named_if_row, construct_named, construct_row, action_row, end_or_action, end_at_once, choice_word, construct_word, generic_word, specification_word, type_word, procedure_word, unit_word, by_word, worded, assignment_form, statement_of}
use Rattle.ff_forms.specs.Cases.{perhaps, Lacks, IsName, IsRename, IsOnly, IsAttribute, IsEntity, AreListed, IsAccess, Closes, IsResultType, IsType, AreAttributes, AreDeclared, IsResult, IsSubroutine, IsFunction, IsHead, IsStep, BeginsConstruct, IsFormat, IsFormatPart, IsRecord, AreWriteControls, AreReadControls, Stops, HasAction, IsAssignment, IsAction, HasForm, IsForm, IsStatement}
use Rattle.ff_forms.proofs.Chained.{assigned_is, not_assigned}
use Rattle.ff_forms.proofs.Cases.{then_alone, found}
use Rattle.ff_forms.proofs.Members.{kind_found, length_found, ranges_found, all_found, each_found, name_found, rename_found, only_found, attribute_found, entity_found}
use Rattle.ff_forms.proofs.Parted.{whole, parted}
use Rattle.ff_forms.proofs.Readings.{nowhere, follows, said, maybe, never, first_piece}

-- what the words choose where no colon is behind the first
abbrev pub chosen : ℕ → List Item → Read Form
chosen line items = on (word_first items) (λ found. unit_word line found.0 found.1)

-- lists of names
plain_listed : (items : List Item) (names : List (List ℕ)) → names_of items ≡ Some names → listed_names items ≡ Some names
unfolding listed_names past_double_colon is_double_colon behind_double_colon names_of only_word word_first
plain_listed [] names e = e
plain_listed (Mark mark.DoubleColon ∷ rest) names e = let p = first_piece mark.Comma (Mark mark.DoubleColon ∷ []) rest in nowhere names (sym (ap (all only_word) p.2) ∙ e)
plain_listed (other ∷ rest) names e = e

listed : {items : List Item} {names : List (List ℕ)} → AreListed items names → listed_names items ≡ Some names
unfolding listed_names past_double_colon is_double_colon behind_double_colon names_of
listed (AreListed.plain {items = items} {names = names} a) = plain_listed items names (all_found IsName only_word name_found a)
listed (AreListed.behind_colons a) = all_found IsName only_word name_found a

access_listed : (code : ℕ) (items : List Item) (names : List (List ℕ)) → listed_names items ≡ Some names → access_row code items ≡ Some (form.Access code names, 0)
unfolding access_row access_names listed_names past_double_colon is_double_colon names_of only_word word_first
access_listed code [] names e = nowhere names e
access_listed code (x ∷ items) names e = rw e

module_listed : (items : List Item) (names : List (List ℕ)) → listed_names items ≡ Some names → module_word (codes "procedure") items ≡ Some (form.Specifics names, 0)
unfolding module_word specifics_row listed_names past_double_colon is_double_colon names_of only_word word_first is
module_listed [] names e = nowhere names e
module_listed (x ∷ items) names e = rw e

only_listed : (items : List Item) (renames : List Rename) → all only_item (pieces_of mark.Comma items) ≡ Some renames → only_list items ≡ Some renames
unfolding only_list only_item word_first
only_listed [] renames e = nowhere renames e
only_listed (x ∷ items) renames e = e

not_only : (items : List Item) (renames : List Rename) → all rename_of (pieces_of mark.Comma items) ≡ Some renames → (spells (codes "only") (slice_get items 0) && is_colon (slice_get items 1)) ≡ false
unfolding spells is_colon rename_of renamed word_first Rattle.ff_forms.specs.Shapes.behind_arrow
not_only [] renames e = refl
not_only (Word w ∷ Mark mark.Colon ∷ rest) renames e = let p = first_piece mark.Comma (Word w ∷ Mark mark.Colon ∷ []) rest in nowhere renames (sym (ap (all rename_of) p.2) ∙ e)
not_only (Word w ∷ []) renames e = never (is w (codes "only"))
not_only (Word w ∷ y ∷ rest) renames e = never (is w (codes "only"))
not_only (other ∷ rest) renames e = refl

renamed_listed : (line : ℕ) (name : List ℕ) (items : List Item) (renames : List Rename) → all rename_of (pieces_of mark.Comma items) ≡ Some renames → list_use line name items ≡ Some (use_stmt line name 0 renames)
unfolding list_use rename_use
renamed_listed line name items renames e = rw (not_only items renames e, e)

-- ends
closes : {w : List ℕ} {of : End} → Closes w of → ended_by w ≡ Some of
unfolding ended_by ended_unit is
closes Closes.a_program = refl
closes Closes.a_module = refl
closes Closes.a_subroutine = refl
closes Closes.a_function = refl
closes Closes.a_type = refl
closes Closes.an_interface = refl
closes Closes.an_if = refl
closes Closes.a_do = refl
closes Closes.a_select = refl

closes_at_once : (line : ℕ) (items : List Item) {w : List ℕ} {of : End} → Closes w of → unit_word line (codes "end" ++ w) items ≡ end_behind (Some of) items
unfolding unit_word procedure_word type_word specification_word generic_word construct_word choice_word end_at_once end_or_action ended_at_once ended_unit_at_once is
closes_at_once line items Closes.a_program = refl
closes_at_once line items Closes.a_module = refl
closes_at_once line items Closes.a_subroutine = refl
closes_at_once line items Closes.a_function = refl
closes_at_once line items Closes.a_type = refl
closes_at_once line items Closes.an_interface = refl
closes_at_once line items Closes.an_if = refl
closes_at_once line items Closes.a_do = refl
closes_at_once line items Closes.a_select = refl

end_found : (of : End) (name : Option (List ℕ)) → end_behind (Some of) (perhaps name) ≡ Some (form.End of name, 0)
unfolding end_behind
end_found of name = rw (maybe name)

-- heads of procedures
result_found : {items : List Item} {r : Option (List ℕ)} → IsResult items r → result_of items ≡ Some r
unfolding result_of result_name behind_word word_first only_group group_first nothing is
result_found IsResult.none = refl
result_found (IsResult.named e) = rw e

head_found : (line : ℕ) {items : List Item} {f : Form} → IsHead items f → chosen line items ≡ Some (f, 0)
unfolding word_first unit_word procedure_word type_word recursive_row recursive_word recursive_integer subroutine_of subroutine_dummies only_group group_first nothing function_of function_behind behind_function behind_recursive behind_word integer_row integer_type typed_of begins_function begins_recursive spells is_word is_group is
head_found line (IsHead.subroutine IsSubroutine.bare) = refl
head_found line (IsHead.subroutine (IsSubroutine.with_dummies e)) = rw e
head_found line (IsHead.recursive_subroutine IsSubroutine.bare) = refl
head_found line (IsHead.recursive_subroutine (IsSubroutine.with_dummies e)) = rw e
head_found line (IsHead.function (IsFunction.headed e r)) = rw (e, result_found r)
head_found line (IsHead.recursive_function (IsFunction.headed e r)) = rw (e, result_found r)
head_found line (IsHead.typed_function IsResultType.integer (IsFunction.headed e r)) = rw (e, result_found r)
head_found line (IsHead.typed_function (IsResultType.integer_kind k) (IsFunction.headed e r)) = rw (kind_found k, e, result_found r)
head_found line (IsHead.typed_function IsResultType.logical (IsFunction.headed e r)) = rw (e, result_found r)
head_found line (IsHead.typed_recursive IsResultType.integer (IsFunction.headed e r)) = rw (e, result_found r)
head_found line (IsHead.typed_recursive (IsResultType.integer_kind k) (IsFunction.headed e r)) = rw (kind_found k, e, result_found r)
head_found line (IsHead.typed_recursive IsResultType.logical (IsFunction.headed e r)) = rw (e, result_found r)
head_found line (IsHead.recursive_typed IsResultType.integer (IsFunction.headed e r)) = rw (e, result_found r)
head_found line (IsHead.recursive_typed (IsResultType.integer_kind k) (IsFunction.headed e r)) = rw (kind_found k, e, result_found r)
head_found line (IsHead.recursive_typed IsResultType.logical (IsFunction.headed e r)) = rw (e, result_found r)

-- declarations
attributes_found : {items : List Item} {attributes : List Attribute} {d : ℕ} → AreAttributes items attributes d → attributes_of items ≡ Some (attributes, d)
unfolding attributes_of behind_comma
attributes_found AreAttributes.none = refl
attributes_found (AreAttributes.listed a) = each_found IsAttribute attribute_of attribute_found a

declared : {items : List Item} {attributes : List Attribute} {entities : List Entity} {d : ℕ} → AreDeclared items attributes entities d → declared_of items ≡ Some (attributes, entities, d)
unfolding declared_of declared_behind plain_declared full_declared entities_of first_of nothing
declared (AreDeclared.plain {items = items} l a) = rw (whole mark.DoubleColon items l, each_found (IsEntity false) (entity_of false) (entity_found false) a)
declared (AreDeclared.full {front = front} names l m a b) = rw (parted mark.DoubleColon front (Mark mark.DoubleColon) names l refl, whole mark.DoubleColon names m, attributes_found a, each_found (IsEntity true) (entity_of true) (entity_found true) b)

-- no declaration begins with these
refused : (front items : List Item) → ((more : List Item) → entities_of false (front ++ more) ≡ None) → ((more : List Item) → attributes_of (front ++ more) ≡ None)
    → on (first_of (pieces_from mark.DoubleColon front items)) (λ found. declared_behind found.0 found.1) ≡ None
unfolding declared_behind plain_declared full_declared first_of nothing
refused front items plain full = let p = first_piece mark.DoubleColon front items in ap (λ pieces. on (first_of pieces) (λ found. declared_behind found.0 found.1)) p.2 ∙ at p.0 p.1
  where
    at : (more : List Item) (pieces : List (List Item)) → declared_behind (front ++ more) pieces ≡ None
    at more [] = rw (plain more)
    at more (names ∷ []) = rw (full more)
    at more (names ∷ x ∷ rest) = refl

no_entity : (front more : List Item) → ((q : List Item) → entity_of false (front ++ q) ≡ None) → each (entity_of false) (pieces_from mark.Comma front more) ≡ None
no_entity front more h = let p = first_piece mark.Comma front more in ap (each (entity_of false)) p.2 ∙ at p.0 p.1
  where
    at : (q : List Item) (pieces : List (List Item)) → each (entity_of false) ((front ++ q) ∷ pieces) ≡ None
    at q pieces = rw (h q)

after_group : (parts : List Part) (items : List Item) → declared_of (Group Round parts ∷ items) ≡ None
unfolding declared_of attributes_of behind_comma entities_of entity_of word_first
after_group parts items = refused (Group Round parts ∷ []) items (λ more. no_entity (Group Round parts ∷ []) more (λ q. refl)) (λ more. refl)

after_words : (a b : List ℕ) (items : List Item) → declared_of (Word a ∷ Word b ∷ items) ≡ None
unfolding declared_of attributes_of behind_comma entities_of entity_of entity_behind own_bounds own_value is_group word_first
after_words a b items = refused (Word a ∷ Word b ∷ []) items (λ more. no_entity (Word a ∷ Word b ∷ []) more (λ q. refl)) (λ more. refl)

not_group : (items : List Item) (z : List Attribute × List Entity × ℕ) → declared_of items ≡ Some z → is_group (slice_get items 0) ≡ false
unfolding is_group
not_group [] z e = refl
not_group (Group Round parts ∷ items) z e = nowhere z (sym (after_group parts items) ∙ e)
not_group (other ∷ items) z e = refl

not_function : (items : List Item) (z : List Attribute × List Entity × ℕ) → declared_of items ≡ Some z → begins_function items ≡ false
unfolding begins_function spells is_word
not_function [] z e = refl
not_function (Word a ∷ []) z e = never (is a (codes "function"))
not_function (Word a ∷ Word b ∷ items) z e = nowhere z (sym (after_words a b items) ∙ e)
not_function (Word a ∷ other ∷ items) z e = never (is a (codes "function"))
not_function (other ∷ items) z e = refl

not_recursive : (items : List Item) (z : List Attribute × List Entity × ℕ) → declared_of items ≡ Some z → begins_recursive items ≡ false
unfolding begins_recursive spells is_word
not_recursive [] z e = refl
not_recursive (Word a ∷ []) z e = never (is a (codes "recursive") && false)
not_recursive (Word a ∷ Word b ∷ items) z e = nowhere z (sym (after_words a b items) ∙ e)
not_recursive (Word a ∷ other ∷ items) z e = rw (never (is a (codes "recursive")))
not_recursive (other ∷ items) z e = refl

typed : (line : ℕ) (of : TypeSpec) (items : List Item) (z : List Attribute × List Entity × ℕ) → declared_of items ≡ Some z
    → typed_of line of items ≡ Some (form.Variables (record { line = line; type_spec = of; attributes = z.0; entities = z.1 }), max 0 z.2)
unfolding typed_of declaration_of
typed line of items z e = rw (not_function items z e, not_recursive items z e, e)

variables : (line : ℕ) {front : List Item} {of : TypeSpec} {n : ℕ} → IsType front of n → (items : List Item) (z : List Attribute × List Entity × ℕ) → declared_of items ≡ Some z
    → chosen line (front ++ items) ≡ Some (form.Variables (record { line = line; type_spec = of; attributes = z.0; entities = z.1 }), max n z.2)
unfolding word_first unit_word procedure_word type_word integer_row integer_type character_row character_type type_row derived_row derived_type declaration_of group_first is_group is
variables line (IsType.of_result IsResultType.integer) items z e = rw (not_group items z e, typed line (type.Integer 4) items z e)
variables line (IsType.of_result (IsResultType.integer_kind {kind = kind} k)) items z e = rw (kind_found k, typed line (type.Integer kind) items z e)
variables line (IsType.of_result IsResultType.logical) items z e = typed line type.Logical items z e
variables line IsType.character items z e = rw (not_group items z e, e)
variables line (IsType.character_length k) items z e = rw (length_found k, e)
variables line (IsType.derived k) items z e = rw (k, e)

-- constructs
step : (second : List Item) {items : List Item} {by : Option Expr} {d : ℕ} → Lacks mark.Comma second → IsStep items by d
    → (third : List (List Item)) × (pieces_of mark.Comma (second ++ items) ≡ second ∷ third) × (step_of third ≡ Some (by, d))
unfolding step_of nothing
step second l IsStep.none = ([], whole mark.Comma (second ++ []) (subst (λ i. Lacks mark.Comma i) (sym (append-nil second)) l) ∙ ap (λ p. p ∷ []) (append-nil second), refl)
step second l (IsStep.given {items = items} m e) = (items ∷ [], parted mark.Comma second (Mark mark.Comma) items l refl ∙ ap (λ r. second ∷ r) (whole mark.Comma items m), rw e)

begins : (line : ℕ) {items : List Item} {f : Form} {d : ℕ} → BeginsConstruct None items f d → chosen line items ≡ Some (f, d)
unfolding word_first unit_word procedure_word type_word specification_word generic_word construct_word choice_word if_row if_behind is_then spells group_first do_row do_behind do_word while_row only_group nothing counted_row behind_equals counted_by next_expression first_of select_row behind_word select_case_row is_group is
begins line (BeginsConstruct.if_then e) = rw e
begins line BeginsConstruct.do_alone = refl
begins line (BeginsConstruct.do_while e) = rw e
begins line (BeginsConstruct.do_counted {variable = variable} first second {items = items} l m e e2 s) = let p = step second m s in
    rw (never (is variable (codes "while")), parted mark.Comma first (Mark mark.Comma) (second ++ items) l refl, e, p.1, e2, p.2)
begins line (BeginsConstruct.select e) = rw e
begins line (BeginsConstruct.select_at_once e) = rw e

named : {construct : List ℕ} {items : List Item} {f : Form} {d : ℕ} → BeginsConstruct (Some construct) items f d → on (word_first items) (λ found. construct_named construct found.0 found.1) ≡ Some (f, d)
unfolding word_first construct_named named_if_row group_first do_row do_behind do_word while_row only_group nothing counted_row behind_equals counted_by next_expression first_of select_row behind_word select_case_row is_group is
named (BeginsConstruct.if_then e) = rw e
named BeginsConstruct.do_alone = refl
named (BeginsConstruct.do_while e) = rw e
named (BeginsConstruct.do_counted {variable = variable} first second {items = items} l m e e2 s) = let p = step second m s in
    rw (never (is variable (codes "while")), parted mark.Comma first (Mark mark.Comma) (second ++ items) l refl, e, p.1, e2, p.2)
named (BeginsConstruct.select e) = rw e
named (BeginsConstruct.select_at_once e) = rw e

-- actions
format_found : {x : Item} {code : ℕ} (rest : List Item) → IsFormat x code → format_first (x ∷ rest) ≡ Some (code, rest)
unfolding format_first star_format
format_found rest IsFormat.star = refl
format_found rest (IsFormat.text e) = rw e

part_found : {part : Part} {code : ℕ} → IsFormatPart part code → format_part part ≡ Some code
unfolding format_part
part_found IsFormatPart.star = refl
part_found (IsFormatPart.text e) = e

record_found : {code : ℕ} {items : List Item} {values : List Expr} {d : ℕ} → IsRecord code items values d → listed_of code items ≡ Some (values, d)
unfolding listed_of one_item only_one first_of nothing
record_found (IsRecord.any e) = e
record_found (IsRecord.one {items = items} c l e) = rw (c, whole mark.Comma items l, e)

controls_found : {parts : List Part} {code advance : ℕ} → AreWriteControls parts code advance → write_controls parts ≡ Some (code, advance)
unfolding write_controls format_behind format_next behind_star star_part first_of advance_of advance_first advance_part no_advance is_no_advance is
controls_found (AreWriteControls.plain f) = rw (part_found f)
controls_found (AreWriteControls.no_advance f c e n) = rw (part_found f, c, e, n)

read_found : {parts : List Part} {iostat : Option Designator} {d : ℕ} → AreReadControls parts iostat d → read_controls parts ≡ Some (iostat, d)
unfolding read_controls format_behind format_next behind_star star_part first_of iostat_of one_iostat only_one nothing iostat_part iostat_named iostat_word is
read_found (AreReadControls.plain f) = rw (part_found f)
read_found (AreReadControls.iostat f e) = rw (part_found f, e)

action_found : (line : ℕ) {items : List Item} {s : Statement} {d : ℕ} → HasAction line items s d → action_word line items ≡ Some (s, d)
unfolding action_word word_first action_named stop_named transfer_named call_row call_arguments only_group group_first nothing return_row continue_row stop_row stop_code some_code error_row behind_word exit_row cycle_row print_row format_first star_format printed none_listed comma_listed behind_comma write_row written read_row is
action_found line HasAction.call = refl
action_found line (HasAction.call_with e) = rw e
action_found line HasAction.return = refl
action_found line HasAction.continue = refl
action_found line (HasAction.stop Stops.stop) = refl
action_found line (HasAction.stop Stops.error_stop) = refl
action_found line (HasAction.stop_with first items Stops.stop e) = rw e
action_found line (HasAction.stop_with first items Stops.error_stop e) = rw e
action_found line (HasAction.exit {construct = construct}) = rw (maybe construct)
action_found line (HasAction.cycle {construct = construct}) = rw (maybe construct)
action_found line HasAction.print_nothing = refl
action_found line (HasAction.print {items = items} f r) = rw (format_found (Mark mark.Comma ∷ items) f, record_found r)
action_found line (HasAction.write_nothing w) = rw (controls_found w)
action_found line (HasAction.write w r) = rw (controls_found w, record_found r)
action_found line (HasAction.read c e) = rw (read_found c, e)

action_chosen : (line : ℕ) {items : List Item} {s : Statement} {d : ℕ} → HasAction line items s d → chosen line items ≡ on (action_word line items) (λ action. Some (form.Action action.0, action.1))
unfolding action_word word_first unit_word procedure_word type_word specification_word generic_word construct_word choice_word end_at_once end_or_action ended_at_once ended_unit_at_once action_row is
action_chosen line HasAction.call = refl
action_chosen line (HasAction.call_with e) = refl
action_chosen line HasAction.return = refl
action_chosen line HasAction.continue = refl
action_chosen line (HasAction.stop Stops.stop) = refl
action_chosen line (HasAction.stop Stops.error_stop) = refl
action_chosen line (HasAction.stop_with first items Stops.stop e) = refl
action_chosen line (HasAction.stop_with first items Stops.error_stop e) = refl
action_chosen line HasAction.exit = refl
action_chosen line HasAction.cycle = refl
action_chosen line HasAction.print_nothing = refl
action_chosen line (HasAction.print f r) = refl
action_chosen line (HasAction.write_nothing w) = refl
action_chosen line (HasAction.write w r) = refl
action_chosen line (HasAction.read c e) = refl

assignment : (line : ℕ) {items : List Item} {s : Statement} {d : ℕ} → IsAssignment line items s d → assignment_row line items ≡ Some (s, d)
unfolding assignment_row assigned_by assigned first_of only_one nothing
assignment line (IsAssignment.assignment target value l m e e2) = rw (parted mark.Equals target (Mark mark.Equals) value l refl, whole mark.Equals value m, e, e2)

behind_if : (line : ℕ) {items : List Item} {s : Statement} {d : ℕ} → IsAction line items s d → action_of line items ≡ Some (s, d)
unfolding action_of
behind_if line (IsAction.assigns {items = items} c a) = rw (assigned_is items c) (assignment line a)
behind_if line (IsAction.acts {items = items} c a) = rw (not_assigned items c) (action_found line a)

then_is_none : (line : ℕ) → action_of line (Word (codes "then") ∷ []) ≡ None
unfolding action_of is_assignment is_assigned seen_by action_word word_first action_named stop_named transfer_named is
then_is_none line = refl

not_then : (line : ℕ) (items : List Item) (s : Statement) (d : ℕ) → action_of line items ≡ Some (s, d) → is_then items ≡ false
not_then line items s d h = at (is_then items) refl
  where
    at : (t : Bool) → is_then items ≡ t → t ≡ false
    at false e = refl
    at true e = nowhere (s, d) (sym (then_is_none line) ∙ ap (action_of line) (sym (then_alone items e)) ∙ h)

lone : (line : ℕ) (parts : List Part) (items : List Item) (condition : Expr) (s : Statement) (d e : ℕ) → Rattle.ff_forms.specs.Shapes.one_expression parts ≡ Some (condition, d) → IsAction line items s e
    → chosen line (Word (codes "if") ∷ Group Round parts ∷ items) ≡ Some (form.Action (lone_if line condition s), max d e)
unfolding word_first unit_word procedure_word type_word specification_word generic_word construct_word if_row group_first if_behind lone_if_of is
lone line parts items condition s d e h a = let k = behind_if line a in rw (h, not_then line items s e k, k)

use_only : (line : ℕ) (name : List ℕ) (items : List Item) (renames : List Rename) → all only_item (pieces_of mark.Comma items) ≡ Some renames
    → chosen line (Word (codes "use") ∷ Word name ∷ Mark mark.Comma ∷ Word (codes "only") ∷ Mark mark.Colon ∷ items) ≡ Some (form.Use (use_stmt line name 1 renames), 0)
unfolding word_first unit_word procedure_word type_word specification_word use_row use_of use_behind list_use only_use behind_comma behind_colon is_double_colon is_colon spells is
use_only line name items renames e = rw (only_listed items renames e)

use_renamed : (line : ℕ) (name : List ℕ) (items : List Item) (renames : List Rename) → all rename_of (pieces_of mark.Comma items) ≡ Some renames
    → chosen line (Word (codes "use") ∷ Word name ∷ Mark mark.Comma ∷ items) ≡ Some (form.Use (use_stmt line name 0 renames), 0)
unfolding word_first unit_word procedure_word type_word specification_word use_row use_of use_behind behind_comma is_double_colon is
use_renamed line name items renames e = rw (renamed_listed line name items renames e)

-- a statement that is no assignment and has no construct's name in front
has_form : (line : ℕ) {items : List Item} {f : Form} {d : ℕ} → HasForm line items f d → chosen line items ≡ Some (f, d)
unfolding word_first only_word nothing unit_word procedure_word type_word specification_word generic_word construct_word choice_word program_row module_row module_word specifics_row contains_row end_row end_words end_behind use_row use_of use_behind bare_use only_use only_list list_use behind_comma behind_colon behind_double_colon is_double_colon is_colon spells implicit_row behind_word access_row type_row type_definition type_access written_access unsaid_access past_double_colon access_code is_comma interface_row else_row else_behind else_word else_if_row group_first case_row ranged_case default_case is_group is
has_form line HasForm.program = refl
has_form line HasForm.a_module = refl
has_form line HasForm.contains = refl
has_form line HasForm.end = refl
has_form line (HasForm.end_of {name = name} c) = rw (closes c, maybe name)
has_form line (HasForm.end_at_once {of = of} {name = name} c) = closes_at_once line (perhaps name) c ∙ end_found of name
has_form line HasForm.use_all = refl
has_form line HasForm.use_behind_colons = refl
has_form line HasForm.use_none = refl
has_form line (HasForm.use_only {name = name} items {renames = renames} a) = use_only line name items renames (all_found IsOnly only_item only_found a)
has_form line (HasForm.use_renamed {name = name} items {renames = renames} a) = use_renamed line name items renames (all_found IsRename rename_of rename_found a)
has_form line HasForm.implicit_none = refl
has_form line (HasForm.access IsAccess.public) = refl
has_form line (HasForm.access IsAccess.private) = refl
has_form line (HasForm.access_of {items = items} {names = names} IsAccess.public l) = access_listed 0 items names (listed l)
has_form line (HasForm.access_of {items = items} {names = names} IsAccess.private l) = access_listed 1 items names (listed l)
has_form line HasForm.a_type = refl
has_form line HasForm.type_behind_colons = refl
has_form line (HasForm.type_with_access IsAccess.public) = refl
has_form line (HasForm.type_with_access IsAccess.private) = refl
has_form line HasForm.interface = refl
has_form line (HasForm.procedures l) = rw (listed l)
has_form line (HasForm.module_procedures {items = items} {names = names} l) = module_listed items names (listed l)
has_form line (HasForm.head h) = head_found line h
has_form line (HasForm.variables {items = items} {attributes = attributes} {entities = entities} {e = e} t a) = variables line t items (attributes, entities, e) (declared a)
has_form line (HasForm.begins b) = begins line b
has_form line (HasForm.else_if {construct = construct} e) = rw (e, maybe construct)
has_form line (HasForm.else_if_at_once {construct = construct} e) = rw (e, maybe construct)
has_form line (HasForm.else {construct = None}) = refl
has_form line (HasForm.else {construct = Some name}) = refl
has_form line (HasForm.case {construct = construct} r) = rw (ranges_found r, maybe construct)
has_form line (HasForm.case_default {construct = construct}) = rw (maybe construct)
has_form line (HasForm.action a) = rw (action_chosen line a, action_found line a)
has_form line (HasForm.lone {parts = parts} {condition = condition} {items = items} {of = of} {d = d} {e = e} h a) = lone line parts items condition of d e h a

-- all statements
seen_other : (items : List Item) → is_assigned (seen_in Other items) ≡ false
unfolding is_assigned seen_by
seen_other [] = refl
seen_other (x ∷ items) = seen_other items

worded_from : (line : ℕ) (items : List Item) (r : Read Form) → is_colon (slice_get items 1) ≡ false → chosen line items ≡ r → worded line items ≡ r
unfolding worded word_first by_word
worded_from line [] r c h = h
worded_from line (Word name ∷ rest) r c h = rw c h
worded_from line (other ∷ rest) r c h = h

pub back : (line : ℕ) (items : List Item) (f : Form) (d : ℕ) → IsForm line items f d → statement_of line items ≡ Some (f, d)
unfolding statement_of is_assignment seen_by worded word_first by_word construct_row behind_colon assignment_form is_colon
back line items f d (IsForm.assigns c a) = rw (assigned_is items c, assignment line a)
back line items f d (IsForm.named {items = rest} b) = rw (seen_other rest) (named b)
back line items f d (IsForm.other c n h) = rw (not_assigned items c) (worded_from line items (Some (f, d)) n (has_form line h))

same : (r : Read Form) (a b : Form) (m n : ℕ) → r ≡ Some (a, m) → r ≡ Some (b, n) → (a ≡ b) × (m ≡ n)
same r a b m n p q = said (λ c o. (a ≡ c) × (m ≡ o)) (sym p ∙ q) (refl, refl)

pub one : (line : ℕ) (items : List Item) (a b : Form) (m n : ℕ) → IsForm line items a m → IsForm line items b n → (a ≡ b) × (m ≡ n)
one line items a b m n p q = same (statement_of line items) a b m n (back line items a m p) (back line items b n q)

-- tokens
given : (rule : Rule) (formed : Formed) → Err rule ≡ Ok formed → ⊥
given rule formed h = cc

kept : (a b : Formed) → ◌≡◌ {A = Result Formed Rule} (Ok a) (Ok b) → a ≡ b
kept a b h = cc

pub is_written : (line : ℕ) (tokens : List Spelled) (formed : Formed) → form_of line tokens ≡ Ok formed → IsStatement line tokens formed
unfolding form_of judged read_of
is_written line tokens formed h = at (read_of line tokens) refl h
  where
    at : (r : Read Form) → read_of line tokens ≡ r → judged line tokens r ≡ Ok formed → IsStatement line tokens formed
    at None e k = absurd (given (rule_of tokens) formed k)
    at (Some read) e k = follows _ _ _ e (λ items e2 e3. subst (λ formed. IsStatement line tokens formed) (kept (record { line = line; form = read.0; is_deep = deep_flag read.1 }) formed k)
        (items, read.1, e2, found line items read.0 read.1 e3, refl, refl))

pub is_statement : (line : ℕ) (tokens : List Spelled) (formed : Formed) → IsStatement line tokens formed → form_of line tokens ≡ Ok formed
unfolding form_of judged read_of
is_statement line tokens formed w = rw (w.2, back line w.0 formed.form w.1 w.3) (all_same line formed.line (deep_flag w.1) formed.is_deep formed.form (sym w.4) (sym w.5))
  where
    all_same : (a b c d : ℕ) (f : Form) → a ≡ b → c ≡ d → ◌≡◌ {A = Result Formed Rule} (Ok (record { line = a; form = f; is_deep = c })) (Ok (record { line = b; form = f; is_deep = d }))
    all_same a b c d f p q = cc

one_formed : (r : Result Formed Rule) (a b : Formed) → r ≡ Ok a → r ≡ Ok b → a ≡ b
one_formed r a b p q = cc

pub one_statement : (line : ℕ) (tokens : List Spelled) (a b : Formed) → IsStatement line tokens a → IsStatement line tokens b → a ≡ b
one_statement line tokens a b p q = one_formed (form_of line tokens) a b (is_statement line tokens a p) (is_statement line tokens b q)
