-- Each statement that may stand where it does leads from what is open by the grammar to what is open by it.
use Rattle.std.proofs.Common.{◌≡◌, ℕ, arith, Bool, true, false, not, ◌&&◌, ◌||◌, List, [], ◌∷◌, ◌++◌, map, refl, sym, ap, ◌∙◌, append_assoc, append-nil, Option, Some, None}
use Rattle.std.specs.Prelude.{◌==◌, if◌then◌else◌}
use Rattle.std.specs.List.{flat_map, AllByRecursion as Each}
use Rattle.ast_nodes.specs.declared.declaration.UseStmt.{UseStmt}
use Rattle.ast_nodes.specs.declared.file.Procedure.{Procedure}
use Rattle.ast_nodes.specs.declared.statement.Statement.{Statement}
use Rattle.ff_forms.specs.declared.form.End.{End}
use Rattle.ff_forms.specs.declared.form.End.TheVariants as end
use Rattle.ff_forms.specs.declared.form.Form.{Form}
use Rattle.ff_forms.specs.declared.form.Form.TheVariants as form
use Rattle.ff_parser.specs.declared.nest.Stage.TheVariants as stage
use Rattle.ff_parser.specs.declared.nest.Header.{Header}
use Rattle.ff_parser.specs.declared.nest.Host.{Host}
use Rattle.ff_parser.specs.declared.nest.Nest.TheVariants as nest
use Rattle.ff_parser.specs.declared.nest.ScopeKind.TheVariants as kind
use Rattle.ff_parser.specs.Pieces.{is_return}
use Rattle.ff_parser.specs.Allowed.{takes_uses, takes_declarations, takes_statements, takes_procedures, is_module, is_procedure, closes, begins_unit}
use Rattle.ff_parser.specs.Names.{is_named}
use Rattle.ff_parser.specs.Taken.{taken, declared, resumed}
use Rattle.ff_parser.specs.Grammar.{Name, Stated, Block, nothing, action, if_then, select, Declaration, implicit_none, variables, accesses, declaration_forms, declaration_tree, Scoping, main_program, a_module, a_procedure, is_a_module, is_a_procedure, IsDeclaration, Body, use_form, use_tree, body_forms, body_decls, HasPart, IsBody, fits, Subprogram, header_form, procedure_words, subprogram_forms, subprogram_tree, IsSubprogram, Internal, internal_forms, SourceUnit, unit_words, scoping_of, unit_forms, unit_tree, IsUnit, block_forms, block_tree}
use Rattle.ff_parser.proofs.Lists.{both_true, onto, each_snoc, map_snoc, flat_snoc}
use Rattle.ff_parser.proofs.States.{May, Front, in_counted, in_looped, in_arms, in_choices, front_forms, Opened, Owner, of_unit, of_procedure, opened_forms, host_with, owner_forms, owner_scoping, owner_line, owner_kind, stage_by, scope_at, without_block, State, outside, in_body, in_type, in_interface, in_constructs, behind_contains, nest_of, open_forms, units_of, forms_of, IsFront, IsRight}
use Rattle.ff_parser.proofs.Closing.{untrue, stands_first}

-- what is open behind a statement, by the grammar
pub record Goes (s : State) (line : ℕ) (f : Form) : Type 0 where
  pub next : State
  pub right : IsRight next
  pub leads : taken (nest_of s) line f ≡ nest_of next
  pub forms : forms_of next ≡ forms_of s ++ (line, f) ∷ []

pub module_kind : (o : Owner) → is_module (owner_kind o) ≡ is_a_module (owner_scoping o)
module_kind (of_unit line name false) = refl
module_kind (of_unit line name true) = refl
module_kind (of_procedure u internal line header) = refl

pub procedure_kind : (o : Owner) → is_procedure (owner_kind o) ≡ is_a_procedure (owner_scoping o)
procedure_kind (of_unit line name false) = refl
procedure_kind (of_unit line name true) = refl
procedure_kind (of_procedure u internal line header) = refl

untold : (p : Bool) → not p ≡ true → p ≡ false
untold true h = sym h
untold false h = refl

begins : (us : List SourceUnit) (line : ℕ) (name : Name) (is_module : Bool) (f : Form) → Each IsUnit us → HasPart (scoping_of is_module) nothing → owner_forms (of_unit line name is_module) ≡ (line, f) ∷ [] → taken (nest_of (outside us)) line f ≡ nest_of (in_body us (of_unit line name is_module) (without_block [] [])) → Goes (outside us) line f
begins us line name is_module f h part written leads = record {
  next = in_body us (of_unit line name is_module) (without_block [] []);
  right = (h, (tt, (tt, part, tt)));
  leads = leads;
  forms = ap (λ t. flat_map unit_forms us ++ t) (append-nil (owner_forms (of_unit line name is_module)) ∙ written) ∙ ap (λ t. t ++ (line, f) ∷ []) (sym (append-nil (flat_map unit_forms us)));
}

pub from_outside : (us : List SourceUnit) (line : ℕ) (f : Form) → Each IsUnit us → begins_unit f ≡ true → Goes (outside us) line f
from_outside us line (form.Program name) h allowed = begins us line name false (form.Program name) h tt refl refl
from_outside us line (form.Module name) h allowed = begins us line name true (form.Module name) h tt refl refl
from_outside us line _ h allowed = absurd (untrue allowed)

-- a state whose statements are those of another and one more
pub goes : (s next : State) (line : ℕ) (f : Form) → units_of next ≡ units_of s → IsRight next → taken (nest_of s) line f ≡ nest_of next → open_forms next ≡ open_forms s ++ (line, f) ∷ [] → Goes s line f
goes s next line f same right leads written = record {
  next = next;
  right = right;
  leads = leads;
  forms = ap (λ us. flat_map unit_forms us ++ open_forms next) same ∙ onto (flat_map unit_forms (units_of s)) (open_forms s) (open_forms next) ((line, f) ∷ []) written;
}

-- a body with a use more, or a declaration more
use_forms : (uses : List (ℕ × UseStmt)) (used : ℕ × UseStmt) → body_forms (without_block (uses ++ used ∷ []) []) ≡ body_forms (without_block uses []) ++ use_form used ∷ []
use_forms uses used = append-nil (map use_form (uses ++ used ∷ [])) ∙ map_snoc use_form uses used ∙ ap (λ t. t ++ use_form used ∷ []) (sym (append-nil (map use_form uses)))

use_decls : (uses : List (ℕ × UseStmt)) (used : ℕ × UseStmt) → body_decls (without_block (uses ++ used ∷ []) []) ≡ body_decls (without_block uses []) ++ use_tree used ∷ []
use_decls uses used = append-nil (map use_tree (uses ++ used ∷ [])) ∙ map_snoc use_tree uses used ∙ ap (λ t. t ++ use_tree used ∷ []) (sym (append-nil (map use_tree uses)))

declared_forms : (uses : List (ℕ × UseStmt)) (ds : List Declaration) (d : Declaration) → body_forms (without_block uses (ds ++ d ∷ [])) ≡ body_forms (without_block uses ds) ++ declaration_forms d
declared_forms uses ds d =
    onto (map use_form uses) (flat_map declaration_forms ds ++ []) (flat_map declaration_forms (ds ++ d ∷ []) ++ []) (declaration_forms d)
    (append-nil (flat_map declaration_forms (ds ++ d ∷ [])) ∙ flat_snoc declaration_forms ds d ∙ ap (λ t. t ++ declaration_forms d) (sym (append-nil (flat_map declaration_forms ds))))

declared_decls : (uses : List (ℕ × UseStmt)) (ds : List Declaration) (d : Declaration) → body_decls (without_block uses (ds ++ d ∷ [])) ≡ body_decls (without_block uses ds) ++ declaration_tree d ∷ []
declared_decls uses ds d =
    onto (map use_tree uses) (map declaration_tree ds) (map declaration_tree (ds ++ d ∷ [])) (declaration_tree d ∷ []) (map_snoc declaration_tree ds d)

declared_stage : (ds : List Declaration) (d : Declaration) → stage_by nothing (ds ++ d ∷ []) ≡ stage.Declarations
declared_stage [] d = refl
declared_stage (first ∷ ds) d = refl

pub use_leads : (us : List SourceUnit) (o : Owner) (uses : List (ℕ × UseStmt)) (used : ℕ × UseStmt) → declared (map unit_tree us) (scope_at o (without_block uses [])) stage.Uses (use_tree used) ≡ nest_of (in_body us o (without_block (uses ++ used ∷ []) []))
use_leads us o uses used = ap (λ decls. nest.Scope (map unit_tree us) (record { line = owner_line o; kind = owner_kind o; stage = stage.Uses; decls = decls; stmts = [] })) (sym (use_decls uses used))

pub declared_leads : (us : List SourceUnit) (o : Owner) (uses : List (ℕ × UseStmt)) (ds : List Declaration) (d : Declaration) → declared (map unit_tree us) (scope_at o (without_block uses ds)) stage.Declarations (declaration_tree d) ≡ nest_of (in_body us o (without_block uses (ds ++ d ∷ [])))
declared_leads us o uses ds d =
    ap (λ decls. nest.Scope (map unit_tree us) (record { line = owner_line o; kind = owner_kind o; stage = stage.Declarations; decls = decls; stmts = [] })) (sym (declared_decls uses ds d))
    ∙ ap (λ stage. nest.Scope (map unit_tree us) (record { line = owner_line o; kind = owner_kind o; stage = stage; decls = body_decls (without_block uses (ds ++ d ∷ [])); stmts = [] })) (sym (declared_stage ds d))

declared_body : (scoping : Scoping) (uses : List (ℕ × UseStmt)) (ds : List Declaration) (d : Declaration) → IsBody scoping (without_block uses ds) → IsDeclaration scoping d → IsBody scoping (without_block uses (ds ++ d ∷ []))
declared_body scoping uses ds d h k = (each_snoc (IsDeclaration scoping) ds d h.0 k, h.1, h.2)

-- a declaration of one statement
declares : (us : List SourceUnit) (o : Owner) (uses : List (ℕ × UseStmt)) (ds : List Declaration) (d : Declaration) (line : ℕ) (f : Form) → IsRight (in_body us o (without_block uses ds)) → IsDeclaration (owner_scoping o) d → declaration_forms d ≡ (line, f) ∷ [] → taken (nest_of (in_body us o (without_block uses ds))) line f ≡ declared (map unit_tree us) (scope_at o (without_block uses ds)) stage.Declarations (declaration_tree d) → Goes (in_body us o (without_block uses ds)) line f
declares us o uses ds d line f h k written leads =
    goes (in_body us o (without_block uses ds)) (in_body us o (without_block uses (ds ++ d ∷ []))) line f refl
    (h.0, (h.1.0, declared_body (owner_scoping o) uses ds d h.1.1 k))
    (leads ∙ declared_leads us o uses ds d)
    (onto (owner_forms o) (body_forms (without_block uses ds)) (body_forms (without_block uses (ds ++ d ∷ []))) ((line, f) ∷ []) (declared_forms uses ds d ∙ ap (λ t. body_forms (without_block uses ds) ++ t) written))

-- a definition that ends
pub defines : (s : State) (us : List SourceUnit) (o : Owner) (uses : List (ℕ × UseStmt)) (ds : List Declaration) (d : Declaration) (begun : List Stated) (line : ℕ) (f : Form) → units_of s ≡ us → IsRight (in_body us o (without_block uses ds)) → IsDeclaration (owner_scoping o) d → open_forms s ≡ owner_forms o ++ (body_forms (without_block uses ds) ++ begun) → declaration_forms d ≡ begun ++ (line, f) ∷ [] → taken (nest_of s) line f ≡ declared (map unit_tree us) (scope_at o (without_block uses ds)) stage.Declarations (declaration_tree d) → Goes s line f
defines s us o uses ds d begun line f same h k before written leads =
    goes s (in_body us o (without_block uses (ds ++ d ∷ []))) line f (sym same)
    (h.0, (h.1.0, declared_body (owner_scoping o) uses ds d h.1.1 k))
    (leads ∙ declared_leads us o uses ds d)
    (onto (owner_forms o) (body_forms (without_block uses ds) ++ begun) (body_forms (without_block uses (ds ++ d ∷ []))) ((line, f) ∷ [])
    (declared_forms uses ds d ∙ onto (body_forms (without_block uses ds)) begun (declaration_forms d) ((line, f) ∷ []) written)
    ∙ ap (λ t. t ++ (line, f) ∷ []) (sym before))

-- a use stands where nothing else stood
use_goes : (us : List SourceUnit) (o : Owner) (uses : List (ℕ × UseStmt)) (ds : List Declaration) (block : Block) (line : ℕ) (used : UseStmt) → IsRight (in_body us o (record { uses = uses; declarations = ds; block = block })) → takes_uses (stage_by block ds) ≡ true → Goes (in_body us o (record { uses = uses; declarations = ds; block = block })) line (form.Use used)
use_goes us o uses [] nothing line used h allowed =
    goes (in_body us o (without_block uses [])) (in_body us o (without_block (uses ++ (line, used) ∷ []) [])) line (form.Use used) refl h
    (use_leads us o uses (line, used))
    (onto (owner_forms o) (body_forms (without_block uses [])) (body_forms (without_block (uses ++ (line, used) ∷ []) [])) ((line, form.Use used) ∷ []) (use_forms uses (line, used)))
use_goes us o uses (d ∷ ds) nothing line used h allowed = absurd (untrue allowed)
use_goes us o uses ds _ line used h allowed = absurd (untrue allowed)

no_procedures : (block : Block) (ds : List Declaration) → takes_procedures (stage_by block ds) ≡ true → ⊥
no_procedures nothing [] h = untrue h
no_procedures nothing (d ∷ ds) h = untrue h
no_procedures _ ds h = untrue h

-- declarations stand where no block stood
declaring : (us : List SourceUnit) (o : Owner) (uses : List (ℕ × UseStmt)) (ds : List Declaration) (block : Block) (line : ℕ) (f : Form) → takes_declarations (stage_by block ds) ≡ true → IsRight (in_body us o (record { uses = uses; declarations = ds; block = block })) → (IsRight (in_body us o (without_block uses ds)) → Goes (in_body us o (without_block uses ds)) line f) → Goes (in_body us o (record { uses = uses; declarations = ds; block = block })) line f
declaring us o uses ds nothing line f t h go = go h
declaring us o uses ds _ line f t h go = absurd (untrue t)

pub has_part : (scoping : Scoping) (block : Block) → is_a_module scoping ≡ false → HasPart scoping block
has_part main_program block h = tt
has_part a_module block h = absurd (untrue (sym h))
has_part a_procedure block h = tt

-- where a body holds a block
executes : (us : List SourceUnit) (o : Owner) (body : Body) (line : ℕ) (statement : Statement) → IsRight (in_body us o body) → is_a_module (owner_scoping o) ≡ false → (is_a_procedure (owner_scoping o) || not (is_return statement)) ≡ true → Goes (in_body us o body) line (form.Action statement)
executes us o body line statement h m r =
    goes (in_body us o body) (in_body us o (record { uses = body.uses; declarations = body.declarations; block = action body.block line statement })) line (form.Action statement) refl
    (h.0, (h.1.0, (h.1.1.0, has_part (owner_scoping o) (action body.block line statement) m, (h.1.1.2, r))))
    refl
    (onto (owner_forms o) (body_forms body) (body_forms (record { uses = body.uses; declarations = body.declarations; block = action body.block line statement })) ((line, form.Action statement) ∷ [])
    (onto (map use_form body.uses) (flat_map declaration_forms body.declarations ++ block_forms body.block) (flat_map declaration_forms body.declarations ++ (block_forms body.block ++ (line, form.Action statement) ∷ [])) ((line, form.Action statement) ∷ [])
    (onto (flat_map declaration_forms body.declarations) (block_forms body.block) (block_forms body.block ++ (line, form.Action statement) ∷ []) ((line, form.Action statement) ∷ []) refl)))

-- a construct begins in a body
opens : (us : List SourceUnit) (o : Owner) (body : Body) (line : ℕ) (f : Form) (front : Front) → IsRight (in_body us o body) → is_a_module (owner_scoping o) ≡ false → front_forms front ≡ (line, f) ∷ [] → IsFront (is_a_procedure (owner_scoping o)) 1 front → taken (nest_of (in_body us o body)) line f ≡ nest_of (in_constructs us o body (record { front = front; block = nothing }) []) → Goes (in_body us o body) line f
opens us o body line f front h m written right leads =
    goes (in_body us o body) (in_constructs us o body (record { front = front; block = nothing }) []) line f refl
    (h.0, (h.1.0, h.1.1, m, tt, (omega arith, right, tt, stands_first front)))
    leads
    (onto (owner_forms o) (body_forms body) (body_forms body ++ (front_forms front ++ [])) ((line, f) ∷ []) (ap (λ t. body_forms body ++ t) (append-nil (front_forms front) ∙ written)))

-- a definition begins in a body
begins_definition : (us : List SourceUnit) (o : Owner) (uses : List (ℕ × UseStmt)) (ds : List Declaration) (line : ℕ) (f : Form) (next : State) → units_of next ≡ us → IsRight next → open_forms next ≡ owner_forms o ++ (body_forms (without_block uses ds) ++ (line, f) ∷ []) → taken (nest_of (in_body us o (without_block uses ds))) line f ≡ nest_of next → Goes (in_body us o (without_block uses ds)) line f
begins_definition us o uses ds line f next same right written leads =
    goes (in_body us o (without_block uses ds)) next line f same right leads
    (written ∙ sym (append_assoc (owner_forms o) (body_forms (without_block uses ds)) ((line, f) ∷ [])))

fits_unit : (name : Name) (is_module : Bool) (procs : List Procedure) (words : End) → closes (kind.Unit name is_module procs) words ≡ true → fits words (unit_words is_module) ≡ true
fits_unit name false procs end.Bare h = refl
fits_unit name false procs end.Program h = refl
fits_unit name false procs _ h = absurd (untrue h)
fits_unit name true procs end.Bare h = refl
fits_unit name true procs end.Module h = refl
fits_unit name true procs _ h = absurd (untrue h)

as_subroutine : (p : Bool) → not p ≡ true → fits end.Subroutine (if p then end.Function else end.Subroutine) ≡ true
as_subroutine true h = h
as_subroutine false h = refl

as_function : (p : Bool) → p ≡ true → fits end.Function (if p then end.Function else end.Subroutine) ≡ true
as_function true h = refl
as_function false h = h

fits_procedure : (header : Header) (host : Host) (words : End) → closes (kind.Procedure header host) words ≡ true → fits words (procedure_words header) ≡ true
fits_procedure header host end.Bare h = refl
fits_procedure header host end.Subroutine h = as_subroutine (header.is_function == 1) h
fits_procedure header host end.Function h = as_function (header.is_function == 1) h
fits_procedure header host _ h = absurd (untrue h)

-- what stands in four pieces, and one more behind them
pub sunk : {T : Type 0} (a b c d more : List T) → a ++ (b ++ (c ++ (d ++ more))) ≡ ((a ++ (b ++ c)) ++ d) ++ more
sunk a b c d more = ap (λ t. a ++ t) (sym (append_assoc b c (d ++ more))) ∙ sym (append_assoc a (b ++ c) (d ++ more)) ∙ sym (append_assoc (a ++ (b ++ c)) d more)

-- a unit ends
ends_unit : (s : State) (u : SourceUnit) (line : ℕ) (f : Form) → Each IsUnit (units_of s) → IsUnit u → taken (nest_of s) line f ≡ nest.Outside (map unit_tree (units_of s) ++ unit_tree u ∷ []) → unit_forms u ≡ open_forms s ++ (line, f) ∷ [] → Goes s line f
ends_unit s u line f h k leads written = record {
  next = outside (units_of s ++ u ∷ []);
  right = (each_snoc IsUnit (units_of s) u h k, tt);
  leads = leads ∙ ap (λ units. nest.Outside units) (sym (map_snoc unit_tree (units_of s) u));
  forms =
      append-nil (flat_map unit_forms (units_of s ++ u ∷ [])) ∙ flat_snoc unit_forms (units_of s) u
      ∙ onto (flat_map unit_forms (units_of s)) (open_forms s) (unit_forms u) ((line, f) ∷ []) written;
}

-- a procedure ends
pub procedure_leads : (us : List SourceUnit) (u : Opened) (internal : Internal) (p : Subprogram) → nest.Scope (map unit_tree us) (resumed (host_with u internal) (subprogram_tree p)) ≡ nest_of (behind_contains us u (record { line = internal.line; procedures = internal.procedures ++ p ∷ [] }))
procedure_leads us u internal p = ap (λ procs. nest.Scope (map unit_tree us) (record { line = u.line; kind = kind.Unit u.name u.is_module procs; stage = stage.Procedures; decls = body_decls u.body; stmts = block_tree u.body.block })) (sym (map_snoc subprogram_tree internal.procedures p))

-- the body of a unit or a procedure ends
ends_body : (us : List SourceUnit) (o : Owner) (body : Body) (line : ℕ) (words : End) (said : Option Name) → IsRight (in_body us o body) → closes (owner_kind o) words ≡ true → is_named (nest_of (in_body us o body)) (form.End words said) ≡ true → Goes (in_body us o body) line (form.End words said)
ends_body us (of_unit first name is_module) body line words said h allowed named =
    ends_unit (in_body us (of_unit first name is_module) body)
    (record { line = first; name = name; is_module = is_module; body = body; internal = None; last = record { line = line; words = words; name = said } })
    line (form.End words said) h.0
    (h.1.1, tt, (fits_unit name is_module [] words allowed, named))
    refl refl
ends_body us (of_procedure u internal first header) body line words said h allowed named =
    let p : Subprogram = record { line = first; header = header; body = body; last = record { line = line; words = words; name = said } } in
    goes (in_body us (of_procedure u internal first header) body) (behind_contains us u (record { line = internal.line; procedures = internal.procedures ++ p ∷ [] })) line (form.End words said) refl
    (h.0, (h.1.0.0, each_snoc IsSubprogram internal.procedures p h.1.0.1 (h.1.1, (fits_procedure header (host_with u internal) words allowed, named))))
    (procedure_leads us u internal p)
    (ap (λ t. opened_forms u ++ (internal.line, form.Contains) ∷ t) (flat_snoc subprogram_forms internal.procedures p)
    ∙ sunk (opened_forms u) (internal_forms (Some internal)) ((first, header_form header) ∷ []) (body_forms body) ((line, form.End words said) ∷ []))

contains : (us : List SourceUnit) (o : Owner) (body : Body) (line : ℕ) → IsRight (in_body us o body) → is_procedure (owner_kind o) ≡ false → Goes (in_body us o body) line form.Contains
contains us (of_unit first name is_module) body line h k =
    goes (in_body us (of_unit first name is_module) body) (behind_contains us (record { line = first; name = name; is_module = is_module; body = body }) (record { line = line; procedures = [] })) line form.Contains refl
    (h.0, (h.1.1, tt)) refl refl
contains us (of_procedure u internal first header) body line h k = absurd (untrue (sym k))

-- in a body of a unit or a procedure
pub from_body : (us : List SourceUnit) (o : Owner) (uses : List (ℕ × UseStmt)) (ds : List Declaration) (block : Block) (line : ℕ) (f : Form) → IsRight (in_body us o (record { uses = uses; declarations = ds; block = block })) → May (nest_of (in_body us o (record { uses = uses; declarations = ds; block = block }))) line f → Goes (in_body us o (record { uses = uses; declarations = ds; block = block })) line f
from_body us o uses ds block line (form.Use used) h m = use_goes us o uses ds block line used h m.allowed
from_body us o uses ds block line form.ImplicitNone h m =
    declaring us o uses ds block line form.ImplicitNone m.allowed h (λ k. declares us o uses ds (implicit_none line) line form.ImplicitNone k tt refl refl)
from_body us o uses ds block line (form.Variables vars) h m =
    declaring us o uses ds block line (form.Variables vars) m.allowed h (λ k. declares us o uses ds (variables line vars) line (form.Variables vars) k tt refl refl)
from_body us o uses ds block line (form.Access is_private names) h m =
    let both = both_true (is_module (owner_kind o)) (takes_declarations (stage_by block ds)) m.allowed in
    declaring us o uses ds block line (form.Access is_private names) both.1 h (λ k. declares us o uses ds (accesses line is_private names) line (form.Access is_private names) k (sym (module_kind o) ∙ both.0) refl refl)
from_body us o uses ds block line (form.TypeDef name access) h m =
    let both = both_true (not (is_procedure (owner_kind o))) (takes_declarations (stage_by block ds)) m.allowed in
    declaring us o uses ds block line (form.TypeDef name access) both.1 h (λ k. begins_definition us o uses ds line (form.TypeDef name access) (in_type us o uses ds line name access []) refl (k.0, (k.1.0, k.1.1, sym (procedure_kind o) ∙ untold (is_procedure (owner_kind o)) both.0)) refl refl)
from_body us o uses ds block line (form.Interface name) h m =
    let both = both_true (not (is_procedure (owner_kind o))) (takes_declarations (stage_by block ds)) m.allowed in
    declaring us o uses ds block line (form.Interface name) both.1 h (λ k. begins_definition us o uses ds line (form.Interface name) (in_interface us o uses ds line name []) refl (k.0, (k.1.0, k.1.1, sym (procedure_kind o) ∙ untold (is_procedure (owner_kind o)) both.0)) refl refl)
from_body us o uses ds block line (form.Action statement) h m =
    let first = both_true (not (is_module (owner_kind o)) && takes_statements (stage_by block ds)) (is_procedure (owner_kind o) || not (is_return statement)) m.allowed in
    let second = both_true (not (is_module (owner_kind o))) (takes_statements (stage_by block ds)) first.0 in
    executes us o (record { uses = uses; declarations = ds; block = block }) line statement h (sym (module_kind o) ∙ untold (is_module (owner_kind o)) second.0) (ap (λ p. p || not (is_return statement)) (sym (procedure_kind o)) ∙ first.1)
from_body us o uses ds block line (form.IfThen construct condition) h m =
    opens us o (record { uses = uses; declarations = ds; block = block }) line (form.IfThen construct condition) (in_arms (if_then (record { line = line; construct = construct; condition = condition }))) h
    (sym (module_kind o) ∙ untold (is_module (owner_kind o)) (both_true (not (is_module (owner_kind o))) (takes_statements (stage_by block ds)) m.allowed).0) refl tt refl
from_body us o uses ds block line (form.Do construct variable lower upper step) h m =
    opens us o (record { uses = uses; declarations = ds; block = block }) line (form.Do construct variable lower upper step) (in_counted (record { line = line; construct = construct; variable = variable; lower = lower; upper = upper; step = step })) h
    (sym (module_kind o) ∙ untold (is_module (owner_kind o)) (both_true (not (is_module (owner_kind o))) (takes_statements (stage_by block ds)) m.allowed).0) refl tt refl
from_body us o uses ds block line (form.While construct condition) h m =
    opens us o (record { uses = uses; declarations = ds; block = block }) line (form.While construct condition) (in_looped (record { line = line; construct = construct; condition = condition })) h
    (sym (module_kind o) ∙ untold (is_module (owner_kind o)) (both_true (not (is_module (owner_kind o))) (takes_statements (stage_by block ds)) m.allowed).0) refl tt refl
from_body us o uses ds block line (form.Select construct value) h m =
    opens us o (record { uses = uses; declarations = ds; block = block }) line (form.Select construct value) (in_choices (select (record { line = line; construct = construct; value = value }))) h
    (sym (module_kind o) ∙ untold (is_module (owner_kind o)) (both_true (not (is_module (owner_kind o))) (takes_statements (stage_by block ds)) m.allowed).0) refl tt refl
from_body us o uses ds block line form.Contains h m =
    contains us o (record { uses = uses; declarations = ds; block = block }) line h
    (untold (is_procedure (owner_kind o)) (both_true (not (is_procedure (owner_kind o))) (takes_statements (stage_by block ds)) m.allowed).0)
from_body us o uses ds block line (form.Procedure name is_function type_spec dummies result) h m = absurd (no_procedures block ds m.allowed)
from_body us o uses ds block line (form.End words said) h m = ends_body us o (record { uses = uses; declarations = ds; block = block }) line words said h m.allowed m.named
from_body us o uses ds block line _ h m = absurd (untrue m.allowed)

-- behind `contains`
pub from_contains : (us : List SourceUnit) (u : Opened) (internal : Internal) (line : ℕ) (f : Form) → IsRight (behind_contains us u internal) → May (nest_of (behind_contains us u internal)) line f → Goes (behind_contains us u internal) line f
from_contains us u internal line (form.Procedure name is_function type_spec dummies result) h m =
    let header : Header = record { name = name; is_function = is_function; type_spec = type_spec; dummies = dummies; result = result } in
    goes (behind_contains us u internal) (in_body us (of_procedure u internal line header) (without_block [] [])) line (form.Procedure name is_function type_spec dummies result) refl
    (h.0, (h.1, (tt, tt, tt))) refl
    (append-nil (owner_forms (of_procedure u internal line header)) ∙ sym (append_assoc (opened_forms u) (internal_forms (Some internal)) ((line, header_form header) ∷ [])))
from_contains us u internal line (form.End words said) h m =
    ends_unit (behind_contains us u internal)
    (record { line = u.line; name = u.name; is_module = u.is_module; body = u.body; internal = Some internal; last = record { line = line; words = words; name = said } })
    line (form.End words said) h.0
    (h.1.0, h.1.1, (fits_unit u.name u.is_module (map subprogram_tree internal.procedures) words m.allowed, m.named))
    refl (sym (append_assoc (opened_forms u) (internal_forms (Some internal)) ((line, form.End words said) ∷ [])))
from_contains us u internal line (form.Access is_private names) h m = absurd (untrue (both_true u.is_module false m.allowed).1)
from_contains us u internal line (form.Action statement) h m = absurd (untrue (both_true (not u.is_module) false (both_true (not u.is_module && false) (not (is_return statement)) m.allowed).0).1)
from_contains us u internal line (form.IfThen construct condition) h m = absurd (untrue (both_true (not u.is_module) false m.allowed).1)
from_contains us u internal line (form.Do construct variable lower upper step) h m = absurd (untrue (both_true (not u.is_module) false m.allowed).1)
from_contains us u internal line (form.While construct condition) h m = absurd (untrue (both_true (not u.is_module) false m.allowed).1)
from_contains us u internal line (form.Select construct value) h m = absurd (untrue (both_true (not u.is_module) false m.allowed).1)
from_contains us u internal line _ h m = absurd (untrue m.allowed)
