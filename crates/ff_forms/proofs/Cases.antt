-- What is found by leading words is a statement of that form.
use Rattle.std.proofs.Common.{◌≡◌, ℕ, suc, Bool, true, false, ◌&&◌, ◌==◌, List, [], ◌∷◌, ◌++◌, length, Option, Some, None, refl, ap, sym, ◌∙◌, subst, append-nil, eqb-true, arith}
use Rattle.std.specs.Prelude.{if◌then◌else◌, codes, slice_get, nat_lt}
use Rattle.ast_nodes.specs.declared.declaration.Attribute.{Attribute}
use Rattle.ast_nodes.specs.declared.declaration.Entity.{Entity}
use Rattle.ast_nodes.specs.declared.declaration.Length.{Length}
use Rattle.ast_nodes.specs.declared.declaration.TypeSpec.{TypeSpec}
use Rattle.ast_nodes.specs.declared.declaration.TypeSpec.TheVariants as type
use Rattle.ast_nodes.specs.declared.declaration.UseStmt.{UseStmt}
use Rattle.ast_nodes.specs.declared.expression.Designator.{Designator}
use Rattle.ast_nodes.specs.declared.expression.Expr.{Expr}
use Rattle.ast_nodes.specs.declared.statement.Statement.{Statement}
use Rattle.ast_nodes.specs.declared.statement.Statement.TheVariants as statement
use Rattle.ff_expressions.specs.declared.item.Bracket.TheVariants.{Round}
use Rattle.ff_expressions.specs.declared.item.Item.{Item}
use Rattle.ff_expressions.specs.declared.item.Item.TheVariants.{Word, Text, Mark, Group}
use Rattle.ff_expressions.specs.declared.item.Mark.TheVariants as mark
use Rattle.ff_expressions.specs.declared.item.Part.{Part}
use Rattle.ff_expressions.specs.declared.item.Part.TheVariants.{Star, Plain, Keyed}
use Rattle.ff_expressions.specs.Pieces.{pieces_of}
use Rattle.ff_forms.specs.declared.form.End.{End}
use Rattle.ff_forms.specs.declared.form.Form.{Form}
use Rattle.ff_forms.specs.declared.form.Form.TheVariants as form
use Rattle.ff_forms.specs.Answers.{on, Read}
use Rattle.ff_forms.specs.Shapes.{is, nothing, only_word, first_of, past_double_colon, is_double_colon, behind_double_colon, is_group, is_colon, is_comma, spells, expression_in}
use Rattle.ff_forms.specs.Names.{names_of, only_item, rename_of, listed_names, use_of, use_behind, list_use, only_use, only_list, rename_use, bare_use, use_stmt}
use Rattle.ff_forms.specs.Procedures.{subroutine_of, subroutine_dummies, function_of, function_behind, result_of, result_name, behind_function, behind_recursive, begins_function, begins_recursive, typed_of, integer_row, character_row, derived_row, recursive_row, recursive_word, recursive_integer}
use Rattle.ff_forms.specs.Types.{attribute_of, integer_type, character_type, derived_type}
use Rattle.ff_forms.specs.Declarations.{declaration_of, declared_of, declared_behind, plain_declared, full_declared, attributes_of, entities_of, entity_of}
use Rattle.ff_forms.specs.Constructs.{else_row, else_behind, else_word, else_if_row, do_row, do_behind, do_word, while_row, counted_row, counted_by, next_expression, step_of, select_row, select_case_row, case_row, ranged_case, default_case, end_row, end_words, end_behind, ended_by, ended_unit, ended_at_once, ended_unit_at_once}
use Rattle.ff_forms.specs.Output.{print_row, write_row, read_row, format_first, star_format, format_of, format_of_squeezed, squeezed, printed, none_listed, comma_listed, listed_of, one_item, written, write_controls, format_behind, format_next, format_part, advance_of, advance_first, advance_part, no_advance, is_no_advance, text_in, ref_in, read_controls, iostat_of, one_iostat, iostat_part, iostat_named, iostat_word}
use Rattle.ff_forms.specs.Actions.{is_assignment, assignment_row, assigned_by, assigned, call_row, call_arguments, stop_row, stop_code, some_code, error_row, exit_row, cycle_row, return_row, continue_row, transfer_named, stop_named, action_named, action_word, action_of}
use Rattle.ff_forms.specs.Rows.{program_row, specifics_row, module_word, module_row, contains_row, use_row, implicit_row, access_names, access_row, access_code, written_access, unsaid_access, type_access, type_definition, type_row, interface_row, is_then, lone_if_of, if_behind, if_row, named_if_row, construct_named, construct_row, action_row, end_or_action, end_at_once, choice_word, construct_word, generic_word, specification_word, type_word, procedure_word, unit_word, by_word, worded, assignment_form, statement_of}
use Rattle.ff_forms.specs.Cases.{perhaps, Lacks, IsName, IsRename, IsOnly, IsAttribute, IsEntity, AreListed, IsAccess, Closes, IsResultType, IsType, AreAttributes, AreDeclared, IsResult, IsSubroutine, IsFunction, IsHead, IsStep, BeginsConstruct, IsFormat, IsFormatPart, IsRecord, AreWriteControls, AreReadControls, Stops, HasAction, IsAssignment, IsAction, HasForm, IsForm}
use Rattle.ff_forms.proofs.Chained.{is_assigned_by_chain, unassigned}
use Rattle.ff_forms.proofs.Members.{kind_is, length_is, ranges_are, all_are, each_are, name_is, rename_is, only_is, attribute_is, entity_is}
use Rattle.ff_forms.proofs.Parted.{comma_is, colons_is, equals_is, one_piece, more_pieces, two_pieces}
use Rattle.ff_forms.proofs.Readings.{same_word, when, when_word, nowhere, follows, said, told, ended, word, word_only, word_maybe, this_word, group, group_only, comma, colon, colons, equals, first, alone, star}

both : (s t : Bool) → (s && t) ≡ true → s ≡ true
both true t e = refl
both false t e = e

form_said : {line : ℕ} {items : List Item} {f g : Form} {d e : ℕ} → ◌≡◌ {A = Read Form} (Some (g, e)) (Some (f, d)) → HasForm line items g e → HasForm line items f d
form_said {line = line} {items = items} h p = said (HasForm line items) h p

use_said : {line : ℕ} {items : List Item} {a b : UseStmt} → Some b ≡ Some a → HasForm line items (form.Use b) 0 → HasForm line items (form.Use a) 0
use_said {line = line} {items = items} h p = told (λ u. HasForm line items (form.Use u) 0) h p

subroutine_said : {items : List Item} {f g : Form} {d : ℕ} → ◌≡◌ {A = Read Form} (Some (g, 0)) (Some (f, d)) → IsSubroutine items g → IsSubroutine items f × (0 ≡ d)
subroutine_said {items = items} h p = said (λ f d. IsSubroutine items f × (0 ≡ d)) h (p, refl)

function_said : {of : Option TypeSpec} {items : List Item} {f g : Form} {d : ℕ} → ◌≡◌ {A = Read Form} (Some (g, 0)) (Some (f, d)) → IsFunction of items g → IsFunction of items f × (0 ≡ d)
function_said {of = of} {items = items} h p = said (λ f d. IsFunction of items f × (0 ≡ d)) h (p, refl)

program_is : (line : ℕ) (items : List Item) (f : Form) (d : ℕ) → program_row items ≡ Some (f, d) → HasForm line (Word (codes "program") ∷ items) f d
unfolding program_row
program_is line items f d h = word_only (λ i. HasForm line (Word (codes "program") ∷ i) f d) items _ _ h (λ name k. form_said k HasForm.program)

listed : (items : List Item) (names : List (List ℕ)) → listed_names items ≡ Some names → AreListed items names
unfolding listed_names past_double_colon is_double_colon behind_double_colon names_of
listed [] names h = AreListed.plain (all_are IsName only_word name_is (pieces_of mark.Comma []) names h)
listed (Mark mark.DoubleColon ∷ rest) names h = AreListed.behind_colons (all_are IsName only_word name_is (pieces_of mark.Comma rest) names h)
listed (other ∷ rest) names h = AreListed.plain (all_are IsName only_word name_is (pieces_of mark.Comma (other ∷ rest)) names h)

module_is : (line : ℕ) (items : List Item) (f : Form) (d : ℕ) → module_row items ≡ Some (f, d) → HasForm line (Word (codes "module") ∷ items) f d
unfolding module_row module_word specifics_row
module_is line items f d h = word (λ i. HasForm line (Word (codes "module") ∷ i) f d) items _ _ h at
  where
    at : (name : List ℕ) (rest : List Item) → module_word name rest ≡ Some (f, d) → HasForm line (Word (codes "module") ∷ Word name ∷ rest) f d
    at name [] k = form_said k HasForm.a_module
    at name (x ∷ rest) k = when_word (λ n. HasForm line (Word (codes "module") ∷ Word n ∷ x ∷ rest) f d) name _ _ _ _ k (λ k. follows _ _ _ k (λ names e k. form_said k (HasForm.module_procedures (listed (x ∷ rest) names e)))) (λ k. nowhere _ k)

closes : (name : List ℕ) (of : End) → ended_by name ≡ Some of → Closes name of
unfolding ended_by ended_unit
closes name of h =
    when_word (λ n. Closes n of) name _ _ _ _ h (λ k. told (Closes (codes "type")) k Closes.a_type) (λ h.
    when_word (λ n. Closes n of) name _ _ _ _ h (λ k. told (Closes (codes "interface")) k Closes.an_interface) (λ h.
    when_word (λ n. Closes n of) name _ _ _ _ h (λ k. told (Closes (codes "if")) k Closes.an_if) (λ h.
    when_word (λ n. Closes n of) name _ _ _ _ h (λ k. told (Closes (codes "do")) k Closes.a_do) (λ h.
    when_word (λ n. Closes n of) name _ _ _ _ h (λ k. told (Closes (codes "select")) k Closes.a_select) (λ h.
    when_word (λ n. Closes n of) name _ _ _ _ h (λ k. told (Closes (codes "program")) k Closes.a_program) (λ h.
    when_word (λ n. Closes n of) name _ _ _ _ h (λ k. told (Closes (codes "module")) k Closes.a_module) (λ h.
    when_word (λ n. Closes n of) name _ _ _ _ h (λ k. told (Closes (codes "subroutine")) k Closes.a_subroutine) (λ h.
    when_word (λ n. Closes n of) name _ _ _ _ h (λ k. told (Closes (codes "function")) k Closes.a_function) (λ h. nowhere _ h)))))))))

closes_at_once : (R : List ℕ → Type 0) (name : List ℕ) (of : End) → ended_at_once name ≡ Some of → ((word : List ℕ) → Closes word of → R (codes "end" ++ word)) → R name
unfolding ended_at_once ended_unit_at_once
closes_at_once R name of h go =
    when_word R name _ _ _ _ h (λ k. go (codes "type") (told (Closes (codes "type")) k Closes.a_type)) (λ h.
    when_word R name _ _ _ _ h (λ k. go (codes "interface") (told (Closes (codes "interface")) k Closes.an_interface)) (λ h.
    when_word R name _ _ _ _ h (λ k. go (codes "if") (told (Closes (codes "if")) k Closes.an_if)) (λ h.
    when_word R name _ _ _ _ h (λ k. go (codes "do") (told (Closes (codes "do")) k Closes.a_do)) (λ h.
    when_word R name _ _ _ _ h (λ k. go (codes "select") (told (Closes (codes "select")) k Closes.a_select)) (λ h.
    when_word R name _ _ _ _ h (λ k. go (codes "program") (told (Closes (codes "program")) k Closes.a_program)) (λ h.
    when_word R name _ _ _ _ h (λ k. go (codes "module") (told (Closes (codes "module")) k Closes.a_module)) (λ h.
    when_word R name _ _ _ _ h (λ k. go (codes "subroutine") (told (Closes (codes "subroutine")) k Closes.a_subroutine)) (λ h.
    when_word R name _ _ _ _ h (λ k. go (codes "function") (told (Closes (codes "function")) k Closes.a_function)) (λ h. nowhere _ h)))))))))

end_is : (line : ℕ) (items : List Item) (f : Form) (d : ℕ) → end_row items ≡ Some (f, d) → HasForm line (Word (codes "end") ∷ items) f d
unfolding end_row end_words end_behind
end_is line [] f d h = form_said h HasForm.end
end_is line (x ∷ items) f d h = word (λ i. HasForm line (Word (codes "end") ∷ i) f d) (x ∷ items) _ _ h (λ w rest k.
    follows _ _ _ k (λ of e k. word_maybe (λ i. HasForm line (Word (codes "end") ∷ Word w ∷ i) f d) rest _ _ k (λ name k. form_said k (HasForm.end_of (closes w of e)))))

use_list : (line : ℕ) (name : List ℕ) (rest : List Item) (used : UseStmt) → on (only_list rest) (λ renames. Some (use_stmt line name 1 renames)) ≡ Some used
    → HasForm line (Word (codes "use") ∷ Word name ∷ Mark mark.Comma ∷ Word (codes "only") ∷ Mark mark.Colon ∷ rest) (form.Use used) 0
unfolding only_list
use_list line name [] used h = use_said h HasForm.use_none
use_list line name (x ∷ rest) used h = follows _ _ _ h (λ renames e k. use_said k (HasForm.use_only (x ∷ rest) (all_are IsOnly only_item only_is (pieces_of mark.Comma (x ∷ rest)) renames e)))

use_only : (line : ℕ) (name : List ℕ) (items : List Item) (used : UseStmt) → (spells (codes "only") (slice_get items 0) && is_colon (slice_get items 1)) ≡ true
    → only_use line name items ≡ Some used → HasForm line (Word (codes "use") ∷ Word name ∷ Mark mark.Comma ∷ items) (form.Use used) 0
unfolding only_use spells
use_only line name items used e h =
    word (λ i. (spells (codes "only") (slice_get i 0) && is_colon (slice_get i 1)) ≡ true → HasForm line (Word (codes "use") ∷ Word name ∷ Mark mark.Comma ∷ i) (form.Use used) 0) items _ _ h
    (λ only rest k e. subst (λ w. HasForm line (Word (codes "use") ∷ Word name ∷ Mark mark.Comma ∷ Word w ∷ rest) (form.Use used) 0) (sym (same_word only (codes "only") (both _ _ e)))
    (colon (λ i. HasForm line (Word (codes "use") ∷ Word name ∷ Mark mark.Comma ∷ Word (codes "only") ∷ i) (form.Use used) 0) rest _ _ k (λ behind k. use_list line name behind used k))) e

use_behind_is : (line : ℕ) (name : List ℕ) (items : List Item) (used : UseStmt) → use_behind line name items ≡ Some used → HasForm line (Word (codes "use") ∷ Word name ∷ items) (form.Use used) 0
unfolding use_behind list_use rename_use
use_behind_is line name [] used h = use_said h HasForm.use_all
use_behind_is line name (x ∷ items) used h = comma (λ i. HasForm line (Word (codes "use") ∷ Word name ∷ i) (form.Use used) 0) (x ∷ items) _ _ h (λ rest k.
    when _ _ _ _ k (λ e k. use_only line name rest used e k) (λ e k. follows _ _ _ k (λ renames e k. use_said k (HasForm.use_renamed rest (all_are IsRename rename_of rename_is (pieces_of mark.Comma rest) renames e)))))

use_is : (line : ℕ) (items : List Item) (f : Form) (d : ℕ) → use_row line items ≡ Some (f, d) → HasForm line (Word (codes "use") ∷ items) f d
unfolding use_row use_of bare_use
use_is line items f d h = follows _ _ _ h (λ used e k. form_said k (when (is_double_colon (slice_get items 0)) _ _ _ e
    (λ c e. colons (λ i. HasForm line (Word (codes "use") ∷ i) (form.Use used) 0) items _ _ e (λ rest e. word_only (λ i. HasForm line (Word (codes "use") ∷ Mark mark.DoubleColon ∷ i) (form.Use used) 0) rest _ _ e (λ name e. use_said e HasForm.use_behind_colons)))
    (λ c e. word (λ i. HasForm line (Word (codes "use") ∷ i) (form.Use used) 0) items _ _ e (λ name rest e. use_behind_is line name rest used e))))

access_is : (line : ℕ) (w : List ℕ) (code : ℕ) (items : List Item) (f : Form) (d : ℕ) → IsAccess w code → access_row code items ≡ Some (f, d) → HasForm line (Word w ∷ items) f d
unfolding access_row access_names
access_is line w code [] f d a h = form_said h (HasForm.access a)
access_is line w code (x ∷ items) f d a h = follows _ _ _ h (λ names e k. form_said k (HasForm.access_of a (listed (x ∷ items) names e)))

access_word : (w : List ℕ) (code : ℕ) → access_code w ≡ Some code → IsAccess w code
unfolding access_code
access_word w code h = when_word (λ w. IsAccess w code) w _ _ _ _ h (λ k. told (IsAccess (codes "public")) k IsAccess.public) (λ h. when_word (λ w. IsAccess w code) w _ _ _ _ h (λ k. told (IsAccess (codes "private")) k IsAccess.private) (λ h. nowhere _ h))

first_part : {A B : Type 0} (a x : A) (b y : B) → ◌≡◌ {A = Option (A × B)} (Some (x, y)) (Some (a, b)) → x ≡ a
first_part a x b y h = said (λ u v. x ≡ u) h refl

second_part : {A B : Type 0} (a x : A) (b y : B) → ◌≡◌ {A = Option (A × B)} (Some (x, y)) (Some (a, b)) → y ≡ b
second_part a x b y h = said (λ u v. y ≡ v) h refl

unsaid : (line : ℕ) (items : List Item) (code : ℕ) (name : List ℕ) → unsaid_access items ≡ Some (code, Word name ∷ []) → HasForm line (Word (codes "type") ∷ items) (form.TypeDef name code) 0
unfolding unsaid_access past_double_colon is_double_colon behind_double_colon
unsaid line [] code name h = absurd (apart (Word name) (second_part _ _ _ _ h))
  where
    apart : (x : Item) → [] ≡ x ∷ [] → ⊥
    apart x h = cc
unsaid line (Mark mark.DoubleColon ∷ rest) code name h =
    subst (λ r. HasForm line (Word (codes "type") ∷ Mark mark.DoubleColon ∷ r) (form.TypeDef name code) 0) (sym (second_part _ _ _ _ h))
    (subst (λ c. HasForm line (Word (codes "type") ∷ Mark mark.DoubleColon ∷ Word name ∷ []) (form.TypeDef name c) 0) (first_part _ _ _ _ h) HasForm.type_behind_colons)
unsaid line (other ∷ rest) code name h =
    subst (λ r. HasForm line (Word (codes "type") ∷ r) (form.TypeDef name code) 0) (sym (second_part _ _ _ _ h))
    (subst (λ c. HasForm line (Word (codes "type") ∷ Word name ∷ []) (form.TypeDef name c) 0) (first_part _ _ _ _ h) HasForm.a_type)

type_is : (line : ℕ) (items : List Item) (code : ℕ) (name : List ℕ) → type_access items ≡ Some (code, Word name ∷ []) → HasForm line (Word (codes "type") ∷ items) (form.TypeDef name code) 0
unfolding type_access written_access
type_is line items code name h = when (is_comma (slice_get items 0)) _ _ _ h
    (λ c k. comma (λ i. HasForm line (Word (codes "type") ∷ i) (form.TypeDef name code) 0) items _ _ k (λ rest k. word (λ i. HasForm line (Word (codes "type") ∷ Mark mark.Comma ∷ i) (form.TypeDef name code) 0) rest _ _ k (λ w rest k. follows _ _ _ k (λ said_code e k. colons (λ i. HasForm line (Word (codes "type") ∷ Mark mark.Comma ∷ Word w ∷ i) (form.TypeDef name code) 0) rest _ _ k (λ behind k.
    said (λ c r. IsAccess w c → HasForm line (Word (codes "type") ∷ Mark mark.Comma ∷ Word w ∷ Mark mark.DoubleColon ∷ r) (form.TypeDef name code) 0) (sym k) (λ a. HasForm.type_with_access a) (access_word w said_code e))))))
    (λ c k. unsaid line items code name k)

definition_is : (line : ℕ) (items : List Item) (f : Form) (d : ℕ) → type_definition items ≡ Some (f, d) → HasForm line (Word (codes "type") ∷ items) f d
unfolding type_definition
definition_is line items f d h = follows _ _ _ h (λ access e k.
    word_only (λ rest. type_access items ≡ Some (access.0, rest) → HasForm line (Word (codes "type") ∷ items) f d) access.1 _ _ k (λ name k e. form_said k (type_is line items access.0 name e)) e)

-- heads of procedures
subroutine_is : (items : List Item) (f : Form) (d : ℕ) → subroutine_of items ≡ Some (f, d) → IsSubroutine (Word (codes "subroutine") ∷ items) f × (0 ≡ d)
unfolding subroutine_of subroutine_dummies
subroutine_is items f d h = word (λ i. IsSubroutine (Word (codes "subroutine") ∷ i) f × (0 ≡ d)) items _ _ h at
  where
    at : (name : List ℕ) (rest : List Item) → on {B = Form × ℕ} (subroutine_dummies rest) (λ dummies. Some (form.Procedure name 0 None dummies None, 0)) ≡ Some (f, d) → IsSubroutine (Word (codes "subroutine") ∷ Word name ∷ rest) f × (0 ≡ d)
    at name [] k = subroutine_said k IsSubroutine.bare
    at name (x ∷ rest) k = follows _ _ _ k (λ dummies e k.
        group_only (λ r. IsSubroutine (Word (codes "subroutine") ∷ Word name ∷ r) f × (0 ≡ d)) (x ∷ rest) _ _ e (λ parts e. subroutine_said k (IsSubroutine.with_dummies e)))

result_is : (items : List Item) (r : Option (List ℕ)) → result_of items ≡ Some r → IsResult items r
unfolding result_of result_name
result_is [] r h = told (IsResult []) h IsResult.none
result_is (x ∷ items) r h = this_word (λ i. IsResult i r) (codes "result") (x ∷ items) _ _ h (λ rest k. group_only (λ i. IsResult (Word (codes "result") ∷ i) r) rest _ _ k (λ parts k. follows _ _ _ k (λ name e k. told (IsResult (Word (codes "result") ∷ Group Round parts ∷ [])) k (IsResult.named e))))

function_is : (of : Option TypeSpec) (items : List Item) (f : Form) (d : ℕ) → function_of of items ≡ Some (f, d) → IsFunction of (Word (codes "function") ∷ items) f × (0 ≡ d)
unfolding function_of function_behind
function_is of items f d h = word (λ i. IsFunction of (Word (codes "function") ∷ i) f × (0 ≡ d)) items _ _ h (λ name rest k. group (λ i. IsFunction of (Word (codes "function") ∷ Word name ∷ i) f × (0 ≡ d)) rest _ _ k (λ parts rest k. follows _ _ _ k (λ dummies e k. follows _ _ _ k (λ r e2 k.
    function_said k (IsFunction.headed e (result_is rest r e2))))))

behind_function_is : (of : Option TypeSpec) (items : List Item) (f : Form) (d : ℕ) → behind_function of items ≡ Some (f, d) → IsFunction of items f × (0 ≡ d)
unfolding behind_function
behind_function_is of items f d h = this_word (λ i. IsFunction of i f × (0 ≡ d)) (codes "function") items _ _ h (λ rest k. function_is of rest f d k)

head_is : (line : ℕ) (items : List Item) (f : Form) (d : ℕ) → IsHead items f → 0 ≡ d → HasForm line items f d
head_is line items f d head e = subst (λ d. HasForm line items f d) e (HasForm.head head)

-- declarations
attributes_are : (items : List Item) (z : List Attribute × ℕ) → attributes_of items ≡ Some z → AreAttributes items z.0 z.1
unfolding attributes_of
attributes_are [] z h = told (λ z. AreAttributes [] z.0 z.1) h AreAttributes.none
attributes_are (x ∷ items) z h = comma (λ i. AreAttributes i z.0 z.1) (x ∷ items) _ _ h (λ rest k. AreAttributes.listed (each_are IsAttribute attribute_of attribute_is (pieces_of mark.Comma rest) z k))

are_declared : (items : List Item) (z : List Attribute × List Entity × ℕ) → declared_of items ≡ Some z → AreDeclared items z.0 z.1 z.2
unfolding declared_of declared_behind plain_declared full_declared entities_of first_of nothing
are_declared items z h = at (pieces_of mark.DoubleColon items) refl h
  where
    at : (pieces : List (List Item)) → pieces_of mark.DoubleColon items ≡ pieces → on (first_of pieces) (λ found. declared_behind found.0 found.1) ≡ Some z → AreDeclared items z.0 z.1 z.2
    at [] e h = nowhere z h
    at (front ∷ []) e h = let p = one_piece mark.DoubleColon items front e in follows _ _ _ h (λ entities e2 k.
        told (λ (z : List Attribute × List Entity × ℕ). AreDeclared items z.0 z.1 z.2) k (AreDeclared.plain p.1 (each_are (IsEntity false) (entity_of false) (entity_is false) (pieces_of mark.Comma items) entities (subst (λ i. entities_of false i ≡ Some entities) p.0 e2))))
    at (front ∷ names ∷ []) e h = let p = two_pieces mark.DoubleColon items front names e in
        subst (λ i. AreDeclared i z.0 z.1 z.2) (sym (p.2 ∙ ap (λ x. front ++ x ∷ names) (colons_is p.0 p.1))) (follows _ _ _ h (λ attributes e2 k. follows _ _ _ k (λ entities e3 k.
        told (λ (z : List Attribute × List Entity × ℕ). AreDeclared (front ++ Mark mark.DoubleColon ∷ names) z.0 z.1 z.2) k (AreDeclared.full names p.3 p.4 (attributes_are front attributes e2) (each_are (IsEntity true) (entity_of true) (entity_is true) (pieces_of mark.Comma names) entities e3)))))
    at (front ∷ names ∷ x ∷ more) e h = nowhere z h

declaration_is : (line : ℕ) (front : List Item) (of : TypeSpec) (n : ℕ) (items : List Item) (f : Form) (d : ℕ) → IsType front of n → declaration_of line of n items ≡ Some (f, d) → HasForm line (front ++ items) f d
unfolding declaration_of
declaration_is line front of n items f d t h = follows _ _ _ h (λ declared e k. form_said k (HasForm.variables t (are_declared items declared e)))

typed_is : (line : ℕ) (front : List Item) (of : TypeSpec) (items : List Item) (f : Form) (d : ℕ) → IsResultType front of → typed_of line of items ≡ Some (f, d) → HasForm line (front ++ items) f d
unfolding typed_of behind_recursive
typed_is line front of items f d r h = when (begins_function items) _ _ _ h
    (λ c k. let p = behind_function_is (Some of) items f d k in head_is line (front ++ items) f d (IsHead.typed_function r p.0) p.1)
    (λ c k. when (begins_recursive items) _ _ _ k
    (λ c k. this_word (λ i. HasForm line (front ++ i) f d) (codes "recursive") items _ _ k (λ rest k.
    let p = behind_function_is (Some of) rest f d k in head_is line (front ++ Word (codes "recursive") ∷ rest) f d (IsHead.typed_recursive r p.0) p.1))
    (λ c k. declaration_is line front of 0 items f d (IsType.of_result r) k))

integer_front : {B : Type 0} (R : List Item → Type 0) (items : List Item) (f : TypeSpec × List Item → Option B) (z : B) → on (integer_type items) f ≡ Some z
    → ((front : List Item) (of : TypeSpec) (rest : List Item) → IsResultType front of → f (of, rest) ≡ Some z → R (front ++ rest)) → R (Word (codes "integer") ∷ items)
unfolding integer_type
integer_front R items f z h k = follows _ _ _ h (λ found e m. when (is_group (slice_get items 0)) _ _ _ e
    (λ c e. group (λ i. R (Word (codes "integer") ∷ i)) items _ _ e (λ parts rest e. follows _ _ _ e (λ kind e2 e.
    k (Word (codes "integer") ∷ Group Round parts ∷ []) (type.Integer kind) rest (IsResultType.integer_kind (kind_is parts kind e2)) (told (λ r. f r ≡ Some z) (sym e) m))))
    (λ c e. k (Word (codes "integer") ∷ []) (type.Integer 4) items IsResultType.integer (told (λ r. f r ≡ Some z) (sym e) m)))

integer_is : (line : ℕ) (items : List Item) (f : Form) (d : ℕ) → integer_row line items ≡ Some (f, d) → HasForm line (Word (codes "integer") ∷ items) f d
unfolding integer_row
integer_is line items f d h = integer_front (λ i. HasForm line i f d) items _ _ h (λ front of rest r k. typed_is line front of rest f d r k)

character_is : (line : ℕ) (items : List Item) (f : Form) (d : ℕ) → character_row line items ≡ Some (f, d) → HasForm line (Word (codes "character") ∷ items) f d
unfolding character_row character_type
character_is line items f d h = follows _ _ _ h (λ found e m. when (is_group (slice_get items 0)) _ _ _ e
    (λ c e. group (λ i. HasForm line (Word (codes "character") ∷ i) f d) items _ _ e (λ parts rest e. follows {A = Length × ℕ} _ _ _ e (λ length e2 e.
    declaration_is line (Word (codes "character") ∷ Group Round parts ∷ []) (type.Character (Some length.0)) length.1 rest f d (IsType.character_length (length_is parts length.0 length.1 e2)) (told (λ (r : TypeSpec × ℕ × List Item). declaration_of line r.0 r.1 r.2 ≡ Some (f, d)) (sym e) m))))
    (λ c e. declaration_is line (Word (codes "character") ∷ []) (type.Character None) 0 items f d IsType.character (told (λ (r : TypeSpec × ℕ × List Item). declaration_of line r.0 r.1 r.2 ≡ Some (f, d)) (sym e) m)))

derived_is : (line : ℕ) (items : List Item) (f : Form) (d : ℕ) → derived_row line items ≡ Some (f, d) → HasForm line (Word (codes "type") ∷ items) f d
unfolding derived_row derived_type
derived_is line items f d h = follows _ _ _ h (λ found e m.
    group (λ i. HasForm line (Word (codes "type") ∷ i) f d) items _ _ e (λ parts rest e. follows _ _ _ e (λ name e2 e.
    declaration_is line (Word (codes "type") ∷ Group Round parts ∷ []) (type.Derived name) 0 rest f d (IsType.derived e2) (told (λ (r : TypeSpec × List Item). declaration_of line r.0 0 r.1 ≡ Some (f, d)) (sym e) m))))

recursive_is : (line : ℕ) (items : List Item) (f : Form) (d : ℕ) → recursive_row items ≡ Some (f, d) → HasForm line (Word (codes "recursive") ∷ items) f d
unfolding recursive_row recursive_word recursive_integer
recursive_is line items f d h = word (λ i. HasForm line (Word (codes "recursive") ∷ i) f d) items _ _ h (λ name rest k.
    when_word (λ n. HasForm line (Word (codes "recursive") ∷ Word n ∷ rest) f d) name _ _ _ _ k (λ k. let p = subroutine_is rest f d k in head_is line (Word (codes "recursive") ∷ Word (codes "subroutine") ∷ rest) f d (IsHead.recursive_subroutine p.0) p.1) (λ k.
    when_word (λ n. HasForm line (Word (codes "recursive") ∷ Word n ∷ rest) f d) name _ _ _ _ k (λ k. let p = function_is None rest f d k in head_is line (Word (codes "recursive") ∷ Word (codes "function") ∷ rest) f d (IsHead.recursive_function p.0) p.1) (λ k.
    when_word (λ n. HasForm line (Word (codes "recursive") ∷ Word n ∷ rest) f d) name _ _ _ _ k (λ k. integer_front (λ i. HasForm line (Word (codes "recursive") ∷ i) f d) rest _ _ k (λ front of rest r k.
    let p = behind_function_is (Some of) rest f d k in head_is line (Word (codes "recursive") ∷ front ++ rest) f d (IsHead.recursive_typed r p.0) p.1)) (λ k.
    when_word (λ n. HasForm line (Word (codes "recursive") ∷ Word n ∷ rest) f d) name _ _ _ _ k (λ k. let p = behind_function_is (Some type.Logical) rest f d k in
    head_is line (Word (codes "recursive") ∷ Word (codes "logical") ∷ rest) f d (IsHead.recursive_typed IsResultType.logical p.0) p.1) (λ k. nowhere _ k)))))

-- constructs
begins_said : {construct : Option (List ℕ)} {items : List Item} {f g : Form} {d e : ℕ} → ◌≡◌ {A = Read Form} (Some (g, e)) (Some (f, d)) → BeginsConstruct construct items g e → BeginsConstruct construct items f d
begins_said {construct = construct} {items = items} h p = said (BeginsConstruct construct items) h p

-- a piece, what it is, and those behind it
next : {B R : Type 0} (pieces : List (List Item)) (f : Expr × ℕ × List (List Item) → Option B) (z : B) → on (next_expression pieces) f ≡ Some z
    → ((piece : List Item) (more : List (List Item)) (e : Expr) (n : ℕ) → pieces ≡ piece ∷ more → expression_in piece ≡ Some (e, n) → f (e, n, more) ≡ Some z → R) → R
unfolding next_expression first_of
next [] f z h k = nowhere z h
next {B = B} {R = R} (piece ∷ more) f z h k = at (expression_in piece) refl h
  where
    at : (r : Read Expr) → expression_in piece ≡ r → on (on r (λ e. Some (e.0, e.1, more))) f ≡ Some z → R
    at None e h = nowhere z h
    at (Some found) e h = k piece more found.0 found.1 refl e h

step_is : (items second : List Item) (third : List (List Item)) (z : Option Expr × ℕ) → pieces_of mark.Comma items ≡ second ∷ third → step_of third ≡ Some z
    → (rest : List Item) × (items ≡ second ++ rest) × Lacks mark.Comma second × IsStep rest z.0 z.1
unfolding step_of nothing
step_is items second [] z e h = let p = one_piece mark.Comma items second e in
    ([], sym p.0 ∙ sym (append-nil second), subst (λ i. Lacks mark.Comma i) (sym p.0) p.1, told (λ (z : Option Expr × ℕ). IsStep [] z.0 z.1) h IsStep.none)
step_is items second (piece ∷ []) z e h = let p = two_pieces mark.Comma items second piece e in (
  Mark mark.Comma ∷ piece,
  p.2 ∙ ap (λ x. second ++ x ∷ piece) (comma_is p.0 p.1),
  p.3,
  follows _ _ _ h (λ by e1 k. told (λ (z : Option Expr × ℕ). IsStep (Mark mark.Comma ∷ piece) z.0 z.1) k (IsStep.given p.4 e1)),
)
step_is items second (piece ∷ x ∷ more) z e h = nowhere z h

counted_is : (construct : Option (List ℕ)) (variable : List ℕ) (items : List Item) (f : Form) (d : ℕ) → counted_by construct variable (pieces_of mark.Comma items) ≡ Some (f, d)
    → BeginsConstruct construct (Word (codes "do") ∷ Word variable ∷ Mark mark.Equals ∷ items) f d
unfolding counted_by
counted_is construct variable items f d h = next (pieces_of mark.Comma items) _ _ h (λ first more lower l e1 e2 k. next more _ _ k (λ second third upper u e3 e4 k. follows _ _ _ k (λ by e5 k.
    let p = more_pieces mark.Comma items first second third (e1 ∙ ap (λ r. first ∷ r) e3) in let q = step_is p.1 second third by p.5 e5 in
    subst (λ i. BeginsConstruct construct (Word (codes "do") ∷ Word variable ∷ Mark mark.Equals ∷ i) f d)
    (sym (p.3 ∙ ap (λ x. first ++ x ∷ p.1) (comma_is p.0 p.2) ∙ ap (λ r. first ++ Mark mark.Comma ∷ r) q.1))
    (begins_said k (BeginsConstruct.do_counted first second p.4 q.2 e2 e4 q.3)))))

do_is : (construct : Option (List ℕ)) (items : List Item) (f : Form) (d : ℕ) → do_row construct items ≡ Some (f, d) → BeginsConstruct construct (Word (codes "do") ∷ items) f d
unfolding do_row do_behind do_word while_row counted_row
do_is construct [] f d h = begins_said h BeginsConstruct.do_alone
do_is construct (x ∷ items) f d h = word (λ i. BeginsConstruct construct (Word (codes "do") ∷ i) f d) (x ∷ items) _ _ h (λ name rest k. when (is name (codes "while") && is_group (slice_get rest 0)) _ _ _ k
    (λ c k. subst (λ w. BeginsConstruct construct (Word (codes "do") ∷ Word w ∷ rest) f d) (sym (same_word name (codes "while") (both _ _ c)))
    (group_only (λ i. BeginsConstruct construct (Word (codes "do") ∷ Word (codes "while") ∷ i) f d) rest _ _ k (λ parts k. follows _ _ _ k (λ condition e k. begins_said k (BeginsConstruct.do_while e)))))
    (λ c k. equals (λ i. BeginsConstruct construct (Word (codes "do") ∷ Word name ∷ i) f d) rest _ _ k (λ rest k. counted_is construct name rest f d k)))

select_case_is : (construct : Option (List ℕ)) (items : List Item) (f : Form) (d : ℕ) → select_case_row construct items ≡ Some (f, d) → BeginsConstruct construct (Word (codes "selectcase") ∷ items) f d
unfolding select_case_row
select_case_is construct items f d h = group_only (λ i. BeginsConstruct construct (Word (codes "selectcase") ∷ i) f d) items _ _ h (λ parts k. follows _ _ _ k (λ value e k. begins_said k (BeginsConstruct.select_at_once e)))

select_is : (construct : Option (List ℕ)) (items : List Item) (f : Form) (d : ℕ) → select_row construct items ≡ Some (f, d) → BeginsConstruct construct (Word (codes "select") ∷ items) f d
unfolding select_row select_case_row
select_is construct items f d h = this_word (λ i. BeginsConstruct construct (Word (codes "select") ∷ i) f d) (codes "case") items _ _ h (λ rest k.
    group_only (λ i. BeginsConstruct construct (Word (codes "select") ∷ Word (codes "case") ∷ i) f d) rest _ _ k (λ parts k. follows _ _ _ k (λ value e k. begins_said k (BeginsConstruct.select e))))

named_if_is : (construct : List ℕ) (items : List Item) (f : Form) (d : ℕ) → named_if_row construct items ≡ Some (f, d) → BeginsConstruct (Some construct) (Word (codes "if") ∷ items) f d
unfolding named_if_row
named_if_is construct items f d h = group (λ i. BeginsConstruct (Some construct) (Word (codes "if") ∷ i) f d) items _ _ h (λ parts rest k. follows _ _ _ k (λ condition e k.
    this_word (λ i. BeginsConstruct (Some construct) (Word (codes "if") ∷ Group Round parts ∷ i) f d) (codes "then") rest _ _ k (λ rest k.
    ended (λ i. BeginsConstruct (Some construct) (Word (codes "if") ∷ Group Round parts ∷ Word (codes "then") ∷ i) f d) rest _ _ k (λ k. begins_said k (BeginsConstruct.if_then e)))))

named_is : (construct name : List ℕ) (items : List Item) (f : Form) (d : ℕ) → construct_named construct name items ≡ Some (f, d) → BeginsConstruct (Some construct) (Word name ∷ items) f d
unfolding construct_named
named_is construct name items f d h =
    when_word (λ n. BeginsConstruct (Some construct) (Word n ∷ items) f d) name _ _ _ _ h (λ k. named_if_is construct items f d k) (λ h.
    when_word (λ n. BeginsConstruct (Some construct) (Word n ∷ items) f d) name _ _ _ _ h (λ k. do_is (Some construct) items f d k) (λ h.
    when_word (λ n. BeginsConstruct (Some construct) (Word n ∷ items) f d) name _ _ _ _ h (λ k. select_is (Some construct) items f d k) (λ h.
    when_word (λ n. BeginsConstruct (Some construct) (Word n ∷ items) f d) name _ _ _ _ h (λ k. select_case_is (Some construct) items f d k) (λ h. nowhere _ h))))

else_if_is : (line : ℕ) (items : List Item) (f : Form) (d : ℕ) → else_if_row items ≡ Some (f, d) → HasForm line (Word (codes "elseif") ∷ items) f d
unfolding else_if_row
else_if_is line items f d h = group (λ i. HasForm line (Word (codes "elseif") ∷ i) f d) items _ _ h (λ parts rest k. follows _ _ _ k (λ condition e k.
    this_word (λ i. HasForm line (Word (codes "elseif") ∷ Group Round parts ∷ i) f d) (codes "then") rest _ _ k (λ rest k.
    word_maybe (λ i. HasForm line (Word (codes "elseif") ∷ Group Round parts ∷ Word (codes "then") ∷ i) f d) rest _ _ k (λ construct k. form_said k (HasForm.else_if_at_once e)))))

else_then_if : (line : ℕ) (items : List Item) (f : Form) (d : ℕ) → else_if_row items ≡ Some (f, d) → HasForm line (Word (codes "else") ∷ Word (codes "if") ∷ items) f d
unfolding else_if_row
else_then_if line items f d h = group (λ i. HasForm line (Word (codes "else") ∷ Word (codes "if") ∷ i) f d) items _ _ h (λ parts rest k. follows _ _ _ k (λ condition e k.
    this_word (λ i. HasForm line (Word (codes "else") ∷ Word (codes "if") ∷ Group Round parts ∷ i) f d) (codes "then") rest _ _ k (λ rest k.
    word_maybe (λ i. HasForm line (Word (codes "else") ∷ Word (codes "if") ∷ Group Round parts ∷ Word (codes "then") ∷ i) f d) rest _ _ k (λ construct k. form_said k (HasForm.else_if e)))))

else_is : (line : ℕ) (items : List Item) (f : Form) (d : ℕ) → else_row items ≡ Some (f, d) → HasForm line (Word (codes "else") ∷ items) f d
unfolding else_row else_behind else_word
else_is line [] f d h = form_said h (HasForm.else {construct = None})
else_is line (x ∷ items) f d h = word (λ i. HasForm line (Word (codes "else") ∷ i) f d) (x ∷ items) _ _ h at
  where
    at : (name : List ℕ) (rest : List Item) → else_word name rest ≡ Some (f, d) → HasForm line (Word (codes "else") ∷ Word name ∷ rest) f d
    at name [] k = form_said k (HasForm.else {construct = Some name})
    at name (y ∷ rest) k = when_word (λ n. HasForm line (Word (codes "else") ∷ Word n ∷ y ∷ rest) f d) name _ _ _ _ k (λ k. else_then_if line (y ∷ rest) f d k) (λ k. nowhere _ k)

case_is : (line : ℕ) (items : List Item) (f : Form) (d : ℕ) → case_row items ≡ Some (f, d) → HasForm line (Word (codes "case") ∷ items) f d
unfolding case_row ranged_case default_case
case_is line items f d h = when (is_group (slice_get items 0)) _ _ _ h
    (λ c k. group (λ i. HasForm line (Word (codes "case") ∷ i) f d) items _ _ k (λ parts rest k. follows _ _ _ k (λ ranges e k.
    word_maybe (λ i. HasForm line (Word (codes "case") ∷ Group Round parts ∷ i) f d) rest _ _ k (λ construct k. form_said k (HasForm.case (ranges_are parts ranges e))))))
    (λ c k. this_word (λ i. HasForm line (Word (codes "case") ∷ i) f d) (codes "default") items _ _ k (λ rest k.
    word_maybe (λ i. HasForm line (Word (codes "case") ∷ Word (codes "default") ∷ i) f d) rest _ _ k (λ construct k. form_said k HasForm.case_default)))

-- actions
action_said : {line : ℕ} {items : List Item} {s t : Statement} {d e : ℕ} → ◌≡◌ {A = Read Statement} (Some (t, e)) (Some (s, d)) → HasAction line items t e → HasAction line items s d
action_said {line = line} {items = items} h p = said (HasAction line items) h p

call_is : (line : ℕ) (items : List Item) (s : Statement) (d : ℕ) → call_row line items ≡ Some (s, d) → HasAction line (Word (codes "call") ∷ items) s d
unfolding call_row call_arguments
call_is line items s d h = word (λ i. HasAction line (Word (codes "call") ∷ i) s d) items _ _ h at
  where
    at : (name : List ℕ) (rest : List Item) → on {B = Statement × ℕ} (call_arguments rest) (λ arguments. Some (statement.Call line name arguments.0, arguments.1)) ≡ Some (s, d) → HasAction line (Word (codes "call") ∷ Word name ∷ rest) s d
    at name [] k = action_said k HasAction.call
    at name (x ∷ rest) k = follows _ _ _ k (λ arguments e k.
        group_only (λ i. HasAction line (Word (codes "call") ∷ Word name ∷ i) s d) (x ∷ rest) _ _ e (λ parts e. action_said k (HasAction.call_with e)))

stop_is : (line : ℕ) (front : List Item) (is_error : ℕ) (items : List Item) (s : Statement) (d : ℕ) → Stops front is_error → stop_row line is_error items ≡ Some (s, d) → HasAction line (front ++ items) s d
unfolding stop_row stop_code some_code
stop_is line front is_error [] s d p h = subst (λ i. HasAction line i s d) (sym (append-nil front)) (action_said h (HasAction.stop p))
stop_is line front is_error (x ∷ items) s d p h = follows _ _ _ h (λ code e k. follows _ _ _ e (λ value e2 e.
    action_said (told (λ (c : Option Expr × ℕ). ◌≡◌ {A = Read Statement} (Some (statement.Stop line is_error c.0, c.1)) (Some (s, d))) (sym e) k) (HasAction.stop_with x items p e2)))

format_is : {B : Type 0} (R : List Item → Type 0) (items : List Item) (f : ℕ × List Item → Option B) (z : B) → on (format_first items) f ≡ Some z
    → ((x : Item) (code : ℕ) (rest : List Item) → IsFormat x code → f (code, rest) ≡ Some z → R (x ∷ rest)) → R items
unfolding format_first star_format
format_is R [] f z h k = nowhere z h
format_is R (Mark (mark.Operator code) ∷ rest) f z h k = at (code == 2) refl h
  where
    at : (t : Bool) → (code == 2) ≡ t → on (on (if t then Some 0 else None) (λ form. Some (form, rest))) f ≡ Some z → R (Mark (mark.Operator code) ∷ rest)
    at true e h = subst (λ c. R (Mark (mark.Operator c) ∷ rest)) (sym (eqb-true code 2 e)) (k (Mark (mark.Operator 2)) 0 rest IsFormat.star h)
    at false e h = nowhere z h
format_is R (Text bytes ∷ rest) f z h k = at (format_of bytes) refl h
  where
    at : (r : Option ℕ) → format_of bytes ≡ r → on (on r (λ form. Some (form, rest))) f ≡ Some z → R (Text bytes ∷ rest)
    at None e h = nowhere z h
    at (Some code) e h = k (Text bytes) code rest (IsFormat.text e) h
format_is R (other ∷ rest) f z h k = nowhere z h

record_is : (code : ℕ) (items : List Item) (values : List Expr) (d : ℕ) → listed_of code items ≡ Some (values, d) → IsRecord code items values d
unfolding listed_of one_item
record_is code items values d h = when (code == 0) _ _ _ h
    (λ c k. subst (λ c. IsRecord c items values d) (sym (eqb-true code 0 c)) (IsRecord.any k))
    (λ c k. at c (pieces_of mark.Comma items) refl k)
  where
    at : (code == 0) ≡ false → (pieces : List (List Item)) → pieces_of mark.Comma items ≡ pieces → one_item pieces ≡ Some (values, d) → IsRecord code items values d
    at c pieces e h = alone (λ p. pieces_of mark.Comma items ≡ p → IsRecord code items values d) pieces _ _ h (λ piece k e. let p = one_piece mark.Comma items piece e in follows _ _ _ k (λ value e2 k. said (IsRecord code items) k (IsRecord.one c p.1 (subst (λ i. expression_in i ≡ Some value) p.0 e2)))) e

pub no_star_text : (bytes : List ℕ) → format_of bytes ≡ Some 0 → ⊥
unfolding format_of format_of_squeezed
no_star_text bytes h = when (is (squeezed bytes) (codes "(a)")) _ _ _ h (λ c k. one k) (λ c k. when (is (squeezed bytes) (codes "(i0)")) _ _ _ k (λ c k. two k) (λ c k. nowhere _ k))
  where
    one : ◌≡◌ {A = Option ℕ} (Some 1) (Some 0) → ⊥
    one k = cc

    two : ◌≡◌ {A = Option ℕ} (Some 2) (Some 0) → ⊥
    two k = cc

print_nothing : (line : ℕ) (x : Item) (code : ℕ) → IsFormat x code → code ≡ 0 → HasAction line (Word (codes "print") ∷ x ∷ []) (statement.Print line 0 0 []) 0
print_nothing line x code IsFormat.star e = HasAction.print_nothing
print_nothing line x code (IsFormat.text {bytes = bytes} h) e = absurd (no_star_text bytes (subst (λ c. format_of bytes ≡ Some c) e h))

print_is : (line : ℕ) (items : List Item) (s : Statement) (d : ℕ) → print_row line items ≡ Some (s, d) → HasAction line (Word (codes "print") ∷ items) s d
unfolding print_row printed none_listed comma_listed
print_is line items s d h = format_is (λ i. HasAction line (Word (codes "print") ∷ i) s d) items _ _ h at
  where
    at : (x : Item) (code : ℕ) (rest : List Item) → IsFormat x code → on {B = Statement × ℕ} (printed code rest) (λ listed. Some (statement.Print line code 0 listed.0, listed.1)) ≡ Some (s, d) → HasAction line (Word (codes "print") ∷ x ∷ rest) s d
    at x code [] f k = follows _ _ _ k (λ values e k. when (code == 0) _ _ _ e
        (λ c e. action_said (told (λ (v : List Expr × ℕ). ◌≡◌ {A = Read Statement} (Some (statement.Print line code 0 v.0, v.1)) (Some (s, d))) (sym e) k)
        (subst (λ n. HasAction line (Word (codes "print") ∷ x ∷ []) (statement.Print line n 0 []) 0) (sym (eqb-true code 0 c)) (print_nothing line x code f (eqb-true code 0 c))))
        (λ c e. nowhere _ e))
    at x code (y ∷ rest) f k = follows _ _ _ k (λ values e k.
        comma (λ i. HasAction line (Word (codes "print") ∷ x ∷ i) s d) (y ∷ rest) _ _ e (λ rest e. action_said k (HasAction.print f (record_is code rest values.0 values.1 e))))

format_part_is : (part : Part) (code : ℕ) → format_part part ≡ Some code → IsFormatPart part code
unfolding format_part
format_part_is Star code h = told (IsFormatPart Star) h IsFormatPart.star
format_part_is (Plain value) code h = IsFormatPart.text h
format_part_is other code h = nowhere code h

controls_front : {B : Type 0} (R : List Part → Type 0) (parts : List Part) (f : ℕ × List Part → Option B) (z : B) → on (format_behind parts) f ≡ Some z
    → ((format : Part) (code : ℕ) (rest : List Part) → IsFormatPart format code → f (code, rest) ≡ Some z → R (Star ∷ format ∷ rest)) → R parts
unfolding format_behind format_next
controls_front R parts f z h k = follows _ _ _ h (λ found e m. star R parts _ _ e (λ rest e. first (λ r. R (Star ∷ r)) rest _ _ e (λ format rest e. follows _ _ _ e (λ code e2 e.
    k format code rest (format_part_is format code e2) (told (λ (r : ℕ × List Part). f r ≡ Some z) (sym e) m)))))

pub several : (n : ℕ) → nat_lt 1 (suc (suc n)) ≡ true
several n = grind arith

second : (s t : Bool) → (s && t) ≡ true → t ≡ true
second true t e = e
second false t e = absurd (apart e)
  where
    apart : false ≡ true → ⊥
    apart e = cc

untrue : {A : Type 0} → false ≡ true → A
untrue e = absurd (apart e)
  where
    apart : false ≡ true → ⊥
    apart e = cc

keyed : (code : ℕ) (format part : Part) → IsFormatPart format code → (code == 0) ≡ false → no_advance part ≡ true → AreWriteControls (Star ∷ format ∷ part ∷ []) code 1
unfolding no_advance is_no_advance
keyed code format (Keyed name (Some value)) f c n = at (text_in value.tree) refl n
  where
    at : (r : Option (List ℕ)) → text_in value.tree ≡ r → is_no_advance name r ≡ true → AreWriteControls (Star ∷ format ∷ Keyed name (Some value) ∷ []) code 1
    at None e n = untrue n
    at (Some bytes) e n = subst (λ w. AreWriteControls (Star ∷ format ∷ Keyed w (Some value) ∷ []) code 1) (sym (same_word name (codes "advance") (both _ _ n))) (AreWriteControls.no_advance f c e (second _ _ n))
keyed code format other f c n = untrue n

advance_is : (code : ℕ) (format : Part) (rest : List Part) (advance : ℕ) → IsFormatPart format code → advance_of code rest ≡ Some advance → AreWriteControls (Star ∷ format ∷ rest) code advance
unfolding advance_of advance_first advance_part no_advance is_no_advance
advance_is code format [] advance f h = told (AreWriteControls (Star ∷ format ∷ []) code) h (AreWriteControls.plain f)
advance_is code format (part ∷ []) advance f h = when (code == 0) _ _ _ h (λ c k. nowhere _ k) (λ c k. when (no_advance part) _ _ _ k (λ n k. told (AreWriteControls (Star ∷ format ∷ part ∷ []) code) k (keyed code format part f c n)) (λ n k. nowhere _ k))
advance_is code format (part ∷ next ∷ rest) advance f h = when (nat_lt 1 (suc (suc (length rest)))) _ _ _ h (λ c k. nowhere _ k) (λ c k. absurd (apart (sym (several (length rest)) ∙ c)))
  where
    apart : true ≡ false → ⊥
    apart e = cc

write_controls_are : (parts : List Part) (z : ℕ × ℕ) → write_controls parts ≡ Some z → AreWriteControls parts z.0 z.1
unfolding write_controls
write_controls_are parts z h = controls_front (λ p. AreWriteControls p z.0 z.1) parts _ _ h (λ format code rest f k. follows _ _ _ k (λ advance e k.
    told (λ (z : ℕ × ℕ). AreWriteControls (Star ∷ format ∷ rest) z.0 z.1) k (advance_is code format rest advance f e)))

write_is : (line : ℕ) (items : List Item) (s : Statement) (d : ℕ) → write_row line items ≡ Some (s, d) → HasAction line (Word (codes "write") ∷ items) s d
unfolding write_row written none_listed
write_is line items s d h = group (λ i. HasAction line (Word (codes "write") ∷ i) s d) items _ _ h (λ parts rest k. follows _ _ _ k (λ controls e k. at parts controls.0 controls.1 (write_controls_are parts controls e) rest k))
  where
    at : (parts : List Part) (code advance : ℕ) → AreWriteControls parts code advance → (rest : List Item) → on {B = Statement × ℕ} (written code rest) (λ listed. Some (statement.Print line code advance listed.0, listed.1)) ≡ Some (s, d)
        → HasAction line (Word (codes "write") ∷ Group Round parts ∷ rest) s d
    at parts code advance w [] k = follows _ _ _ k (λ values e k. when (code == 0) _ _ _ e
        (λ c e. action_said (told (λ (v : List Expr × ℕ). ◌≡◌ {A = Read Statement} (Some (statement.Print line code advance v.0, v.1)) (Some (s, d))) (sym e) k)
        (subst (λ n. HasAction line (Word (codes "write") ∷ Group Round parts ∷ []) (statement.Print line n advance []) 0) (sym (eqb-true code 0 c))
        (HasAction.write_nothing (subst (λ n. AreWriteControls parts n advance) (eqb-true code 0 c) w))))
        (λ c e. nowhere _ e))
    at parts code advance w (y ∷ rest) k = follows _ _ _ k (λ values e k. action_said k (HasAction.write w (record_is code (y ∷ rest) values.0 values.1 e)))

iostat_is : (format part : Part) (z : Option Designator × ℕ) → IsFormatPart format 1 → iostat_part part ≡ Some z → AreReadControls (Star ∷ format ∷ part ∷ []) z.0 z.1
unfolding iostat_part iostat_named iostat_word
iostat_is format (Keyed name (Some value)) z f h = at (is name (codes "iostat")) refl h
  where
    at : (t : Bool) → is name (codes "iostat") ≡ t → on {A = Unit {0}} {B = Option Designator × ℕ} (if t then Some tt else None) (λ _. on {B = Option Designator × ℕ} (ref_in value.tree) (λ designator. Some (Some designator, value.depth))) ≡ Some z
        → AreReadControls (Star ∷ format ∷ Keyed name (Some value) ∷ []) z.0 z.1
    at true e h = subst (λ w. AreReadControls (Star ∷ format ∷ Keyed w (Some value) ∷ []) z.0 z.1) (sym (same_word name (codes "iostat") e))
        (follows _ _ _ h (λ variable e2 k. told (λ (z : Option Designator × ℕ). AreReadControls (Star ∷ format ∷ Keyed (codes "iostat") (Some value) ∷ []) z.0 z.1) k (AreReadControls.iostat f e2)))
    at false e h = nowhere z h
iostat_is format (Keyed name None) z f h = nowhere z h
iostat_is format other z f h = nowhere z h

read_controls_are : (parts : List Part) (z : Option Designator × ℕ) → read_controls parts ≡ Some z → AreReadControls parts z.0 z.1
unfolding read_controls iostat_of one_iostat
read_controls_are parts z h = controls_front (λ p. AreReadControls p z.0 z.1) parts _ _ h (λ format code rest f k. when (code == 1) _ _ _ k
    (λ c k. at format (subst (λ n. IsFormatPart format n) (eqb-true code 1 c) f) rest k) (λ c k. nowhere _ k))
  where
    at : (format : Part) → IsFormatPart format 1 → (rest : List Part) → iostat_of rest ≡ Some z → AreReadControls (Star ∷ format ∷ rest) z.0 z.1
    at format f [] k = told (λ (z : Option Designator × ℕ). AreReadControls (Star ∷ format ∷ []) z.0 z.1) k (AreReadControls.plain f)
    at format f (part ∷ rest) k = alone (λ r. AreReadControls (Star ∷ format ∷ r) z.0 z.1) (part ∷ rest) _ _ k (λ part k. iostat_is format part z f k)

read_is : (line : ℕ) (items : List Item) (s : Statement) (d : ℕ) → read_row line items ≡ Some (s, d) → HasAction line (Word (codes "read") ∷ items) s d
unfolding read_row
read_is line items s d h = group (λ i. HasAction line (Word (codes "read") ∷ i) s d) items _ _ h (λ parts rest k. follows _ _ _ k (λ iostat e k. follows _ _ _ k (λ target e2 k.
    action_said k (HasAction.read (read_controls_are parts iostat e) e2))))

action_is : (line : ℕ) (name : List ℕ) (items : List Item) (s : Statement) (d : ℕ) → action_named line name items ≡ Some (s, d) → HasAction line (Word name ∷ items) s d
unfolding action_named stop_named transfer_named return_row continue_row error_row exit_row cycle_row
action_is line name items s d h =
    when_word (λ n. HasAction line (Word n ∷ items) s d) name _ _ _ _ h (λ k. call_is line items s d k) (λ h.
    when_word (λ n. HasAction line (Word n ∷ items) s d) name _ _ _ _ h (λ k. ended (λ i. HasAction line (Word (codes "return") ∷ i) s d) items _ _ k (λ k. action_said k HasAction.return)) (λ h.
    when_word (λ n. HasAction line (Word n ∷ items) s d) name _ _ _ _ h (λ k. ended (λ i. HasAction line (Word (codes "continue") ∷ i) s d) items _ _ k (λ k. action_said k HasAction.continue)) (λ h.
    when_word (λ n. HasAction line (Word n ∷ items) s d) name _ _ _ _ h (λ k. stop_is line (Word (codes "stop") ∷ []) 0 items s d Stops.stop k) (λ h.
    when_word (λ n. HasAction line (Word n ∷ items) s d) name _ _ _ _ h (λ k. this_word (λ i. HasAction line (Word (codes "error") ∷ i) s d) (codes "stop") items _ _ k (λ rest k.
    stop_is line (Word (codes "error") ∷ Word (codes "stop") ∷ []) 1 rest s d Stops.error_stop k)) (λ h.
    when_word (λ n. HasAction line (Word n ∷ items) s d) name _ _ _ _ h (λ k. word_maybe (λ i. HasAction line (Word (codes "exit") ∷ i) s d) items _ _ k (λ construct k. action_said k HasAction.exit)) (λ h.
    when_word (λ n. HasAction line (Word n ∷ items) s d) name _ _ _ _ h (λ k. word_maybe (λ i. HasAction line (Word (codes "cycle") ∷ i) s d) items _ _ k (λ construct k. action_said k HasAction.cycle)) (λ h.
    when_word (λ n. HasAction line (Word n ∷ items) s d) name _ _ _ _ h (λ k. print_is line items s d k) (λ h.
    when_word (λ n. HasAction line (Word n ∷ items) s d) name _ _ _ _ h (λ k. write_is line items s d k) (λ h.
    when_word (λ n. HasAction line (Word n ∷ items) s d) name _ _ _ _ h (λ k. read_is line items s d k) (λ h. nowhere _ h))))))))))

-- assignments, and actions behind `if (e)`
assignment_is : (line : ℕ) (items : List Item) (s : Statement) (d : ℕ) → assignment_row line items ≡ Some (s, d) → IsAssignment line items s d
unfolding assignment_row assigned_by assigned
assignment_is line items s d h = at (pieces_of mark.Equals items) refl h
  where
    at : (pieces : List (List Item)) → pieces_of mark.Equals items ≡ pieces → assigned_by line pieces ≡ Some (s, d) → IsAssignment line items s d
    at pieces e h = first (λ p. pieces_of mark.Equals items ≡ p → IsAssignment line items s d) pieces _ _ h (λ target rest k.
        alone (λ p. pieces_of mark.Equals items ≡ target ∷ p → IsAssignment line items s d) rest _ _ k (λ value k e. follows _ _ _ k (λ t e2 k. follows _ _ _ k (λ v e3 k.
        let p = two_pieces mark.Equals items target value e in subst (λ i. IsAssignment line i s d) (sym (p.2 ∙ ap (λ x. target ++ x ∷ value) (equals_is p.0 p.1))) (said (IsAssignment line (target ++ Mark mark.Equals ∷ value)) k (IsAssignment.assignment target value p.3 p.4 e2 e3)))))) e

behind_if : (line : ℕ) (items : List Item) (s : Statement) (d : ℕ) → action_of line items ≡ Some (s, d) → IsAction line items s d
unfolding action_of action_word
behind_if line items s d h = when (is_assignment items) _ _ _ h (λ c k. IsAction.assigns (is_assigned_by_chain items c) (assignment_is line items s d k))
    (λ c k. IsAction.acts (unassigned items c) (word (λ i. HasAction line i s d) items _ _ k (λ name rest k. action_is line name rest s d k)))

one_item_only : (n : ℕ) → (suc (suc n) == 1) ≡ false
one_item_only n = grind arith

pub then_alone : (items : List Item) → is_then items ≡ true → items ≡ Word (codes "then") ∷ []
unfolding is_then spells
then_alone [] e = untrue e
then_alone (Word w ∷ []) e = ap (λ w. Word w ∷ []) (same_word w (codes "then") (both _ _ e))
then_alone (Word w ∷ x ∷ rest) e = untrue (sym (one_item_only (length rest)) ∙ second _ _ e)
then_alone (other ∷ rest) e = untrue e

if_is : (line : ℕ) (items : List Item) (f : Form) (d : ℕ) → if_row line items ≡ Some (f, d) → HasForm line (Word (codes "if") ∷ items) f d
unfolding if_row if_behind lone_if_of
if_is line items f d h = group (λ i. HasForm line (Word (codes "if") ∷ i) f d) items _ _ h (λ parts rest k. follows _ _ _ k (λ condition e k. when (is_then rest) _ _ _ k
    (λ c k. subst (λ r. HasForm line (Word (codes "if") ∷ Group Round parts ∷ r) f d) (sym (then_alone rest c)) (form_said k (HasForm.begins (BeginsConstruct.if_then e))))
    (λ c k. follows _ _ _ k (λ action e2 k. form_said k (HasForm.lone e (behind_if line rest action.0 action.1 e2))))))

end_or_action_is : (line : ℕ) (name : List ℕ) (items : List Item) (f : Form) (d : ℕ) → end_at_once line name items ≡ Some (f, d) → HasForm line (Word name ∷ items) f d
unfolding end_at_once end_or_action end_behind action_row
end_or_action_is line name items f d h = at (ended_at_once name) refl h
  where
    at : (r : Option End) → ended_at_once name ≡ r → end_or_action r line name items ≡ Some (f, d) → HasForm line (Word name ∷ items) f d
    at None e k = follows _ _ _ k (λ action e2 k. form_said k (HasForm.action (action_is line name items action.0 action.1 e2)))
    at (Some of) e k = word_maybe (λ i. HasForm line (Word name ∷ i) f d) items _ _ k (λ n k.
        form_said k (closes_at_once (λ w. HasForm line (Word w ∷ perhaps n) (form.End of n) 0) name of e (λ w c. HasForm.end_at_once c)))

type_row_is : (line : ℕ) (items : List Item) (f : Form) (d : ℕ) → type_row line items ≡ Some (f, d) → HasForm line (Word (codes "type") ∷ items) f d
unfolding type_row
type_row_is line items f d h = when (is_group (slice_get items 0)) _ _ _ h (λ c k. derived_is line items f d k) (λ c k. definition_is line items f d k)

-- the words in front
unit_is : (line : ℕ) (name : List ℕ) (items : List Item) (f : Form) (d : ℕ) → unit_word line name items ≡ Some (f, d) → HasForm line (Word name ∷ items) f d
unfolding unit_word procedure_word type_word specification_word generic_word construct_word choice_word contains_row implicit_row interface_row specifics_row
unit_is line name items f d h =
    when_word (λ n. HasForm line (Word n ∷ items) f d) name _ _ _ _ h (λ k. program_is line items f d k) (λ h.
    when_word (λ n. HasForm line (Word n ∷ items) f d) name _ _ _ _ h (λ k. module_is line items f d k) (λ h.
    when_word (λ n. HasForm line (Word n ∷ items) f d) name _ _ _ _ h (λ k. ended (λ i. HasForm line (Word (codes "contains") ∷ i) f d) items _ _ k (λ k. form_said k HasForm.contains)) (λ h.
    when_word (λ n. HasForm line (Word n ∷ items) f d) name _ _ _ _ h (λ k. end_is line items f d k) (λ h.
    when_word (λ n. HasForm line (Word n ∷ items) f d) name _ _ _ _ h (λ k. recursive_is line items f d k) (λ h.
    when_word (λ n. HasForm line (Word n ∷ items) f d) name _ _ _ _ h (λ k. let p = subroutine_is items f d k in head_is line (Word (codes "subroutine") ∷ items) f d (IsHead.subroutine p.0) p.1) (λ h.
    when_word (λ n. HasForm line (Word n ∷ items) f d) name _ _ _ _ h (λ k. let p = function_is None items f d k in head_is line (Word (codes "function") ∷ items) f d (IsHead.function p.0) p.1) (λ h.
    when_word (λ n. HasForm line (Word n ∷ items) f d) name _ _ _ _ h (λ k. integer_is line items f d k) (λ h.
    when_word (λ n. HasForm line (Word n ∷ items) f d) name _ _ _ _ h (λ k. typed_is line (Word (codes "logical") ∷ []) type.Logical items f d IsResultType.logical k) (λ h.
    when_word (λ n. HasForm line (Word n ∷ items) f d) name _ _ _ _ h (λ k. character_is line items f d k) (λ h.
    when_word (λ n. HasForm line (Word n ∷ items) f d) name _ _ _ _ h (λ k. type_row_is line items f d k) (λ h.
    when_word (λ n. HasForm line (Word n ∷ items) f d) name _ _ _ _ h (λ k. use_is line items f d k) (λ h.
    when_word (λ n. HasForm line (Word n ∷ items) f d) name _ _ _ _ h (λ k. this_word (λ i. HasForm line (Word (codes "implicit") ∷ i) f d) (codes "none") items _ _ k (λ rest k.
    ended (λ i. HasForm line (Word (codes "implicit") ∷ Word (codes "none") ∷ i) f d) rest _ _ k (λ k. form_said k HasForm.implicit_none))) (λ h.
    when_word (λ n. HasForm line (Word n ∷ items) f d) name _ _ _ _ h (λ k. access_is line (codes "private") 1 items f d IsAccess.private k) (λ h.
    when_word (λ n. HasForm line (Word n ∷ items) f d) name _ _ _ _ h (λ k. access_is line (codes "public") 0 items f d IsAccess.public k) (λ h.
    when_word (λ n. HasForm line (Word n ∷ items) f d) name _ _ _ _ h (λ k. word_only (λ i. HasForm line (Word (codes "interface") ∷ i) f d) items _ _ k (λ name k. form_said k HasForm.interface)) (λ h.
    when_word (λ n. HasForm line (Word n ∷ items) f d) name _ _ _ _ h (λ k. follows _ _ _ k (λ names e k. form_said k (HasForm.procedures (listed items names e)))) (λ h.
    when_word (λ n. HasForm line (Word n ∷ items) f d) name _ _ _ _ h (λ k. if_is line items f d k) (λ h.
    when_word (λ n. HasForm line (Word n ∷ items) f d) name _ _ _ _ h (λ k. else_is line items f d k) (λ h.
    when_word (λ n. HasForm line (Word n ∷ items) f d) name _ _ _ _ h (λ k. else_if_is line items f d k) (λ h.
    when_word (λ n. HasForm line (Word n ∷ items) f d) name _ _ _ _ h (λ k. HasForm.begins (do_is None items f d k)) (λ h.
    when_word (λ n. HasForm line (Word n ∷ items) f d) name _ _ _ _ h (λ k. HasForm.begins (select_is None items f d k)) (λ h.
    when_word (λ n. HasForm line (Word n ∷ items) f d) name _ _ _ _ h (λ k. HasForm.begins (select_case_is None items f d k)) (λ h.
    when_word (λ n. HasForm line (Word n ∷ items) f d) name _ _ _ _ h (λ k. case_is line items f d k) (λ h.
    end_or_action_is line name items f d h))))))))))))))))))))))))

by_word_is : (line : ℕ) (name : List ℕ) (items : List Item) (f : Form) (d : ℕ) → is_assignment (Word name ∷ items) ≡ false → by_word line name items ≡ Some (f, d) → IsForm line (Word name ∷ items) f d
unfolding by_word construct_row
by_word_is line name items f d a h = when (is_colon (slice_get items 0)) _ _ _ h
    (λ c k. colon (λ i. IsForm line (Word name ∷ i) f d) items _ _ k (λ rest k. word (λ i. IsForm line (Word name ∷ Mark mark.Colon ∷ i) f d) rest _ _ k (λ w rest k. IsForm.named (named_is name w rest f d k))))
    (λ c k. IsForm.other (unassigned (Word name ∷ items) a) c (unit_is line name items f d k))

pub found : (line : ℕ) (items : List Item) (f : Form) (d : ℕ) → statement_of line items ≡ Some (f, d) → IsForm line items f d
unfolding statement_of worded assignment_form
found line items f d h = when (is_assignment items) _ _ _ h
    (λ c k. follows _ _ _ k (λ action e k. said (IsForm line items) k (IsForm.assigns (is_assigned_by_chain items c) (assignment_is line items action.0 action.1 e))))
    (λ c k. word (λ i. is_assignment i ≡ false → IsForm line i f d) items _ _ k (λ name rest k a. by_word_is line name rest f d a k) c)
