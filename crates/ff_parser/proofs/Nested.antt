-- Each statement that may stand in a definition or a construct leads from what is open by the grammar to what is open by it.
use Rattle.std.proofs.Common.{◌≡◌, ℕ, suc, ◌<◌, arith, true, false, not, ◌||◌, List, [], ◌∷◌, ◌++◌, map, length, refl, sym, ap, ◌∙◌, append_assoc, append-nil, Option, Some, None}
use Rattle.std.specs.Prelude.{◌==◌, nat_le}
use Rattle.std.specs.List.{flat_map}
use Rattle.std.proofs.lemmas.List.{length-map}
use Rattle.std.proofs.lemmas.Bool.Decides.{nat_tests}
use Rattle.ast_nodes.specs.declared.declaration.Vars.{Vars}
use Rattle.ast_nodes.specs.declared.declaration.UseStmt.{UseStmt}
use Rattle.ast_nodes.specs.declared.expression.Expr.{Expr}
use Rattle.ast_nodes.specs.declared.statement.Statement.{Statement}
use Rattle.ast_nodes.specs.declared.statement.CaseRange.{CaseRange}
use Rattle.ff_forms.specs.declared.form.End.{End}
use Rattle.ff_forms.specs.declared.form.End.TheVariants as end
use Rattle.ff_forms.specs.declared.form.Form.{Form}
use Rattle.ff_forms.specs.declared.form.Form.TheVariants as form
use Rattle.ff_parser.specs.declared.nest.Stage.TheVariants as stage
use Rattle.ff_parser.specs.declared.nest.Parts.TheVariants as parts
use Rattle.ff_parser.specs.declared.nest.Definition.TheVariants as definition
use Rattle.ff_parser.specs.declared.nest.Nest.TheVariants as nest
use Rattle.ff_parser.specs.Pieces.{is_return, agrees, arm}
use Rattle.ff_parser.specs.Allowed.{is_procedure, has_items, has_block, takes_arm, takes_case, closes_construct}
use Rattle.ff_parser.specs.Taken.{taken, executed, statement_of, within}
use Rattle.ff_parser.specs.Grammar.{Name, Stated, Last, last_form, Label, Block, nothing, action, Arms, if_then, else_if, otherwise, Choices, select, case, Declaration, derived_type, interface, component_form, specific_form, declaration_forms, vars_of, names_in, HasSome, is_a_procedure, is_else, Body, body_decls, use_form, body_forms, block_forms, arms_tree, first_of_arms, first_of_choices, block_tree, SourceUnit, unit_tree, greatest_nesting, has_default}
use Rattle.ff_parser.proofs.Lists.{both_true, onto, map_snoc}
use Rattle.ff_parser.proofs.States.{May, Front, in_counted, in_looped, in_arms, in_choices, front_forms, front_parts, front_name, front_line, closed_arms, arm_line, arm_condition, open_label, Spot, spot_level, spots_forms, Owner, owner_forms, owner_scoping, owner_line, owner_kind, stage_by, scope_at, without_block, in_body, in_type, in_interface, in_constructs, nest_of, IsFront, IsRight}
use Rattle.ff_parser.proofs.Closing.{untrue, closing, closing_forms, closing_tree, closing_right, arms_split, choices_split, words_of, takes, stands, stands_first}
use Rattle.ff_parser.proofs.Found.{Goes, goes, defines, has_part, procedure_kind, sunk}

has_some : {T : Type 0} (xs : List T) → has_items xs ≡ true → HasSome xs
has_some [] h = untrue h
has_some (x ∷ xs) h = tt

has_some_of : {S T : Type 0} (f : S → T) (xs : List S) → has_items (map f xs) ≡ true → HasSome xs
has_some_of f [] h = untrue h
has_some_of f (x ∷ xs) h = tt

pub names_snoc : (specifics : List (ℕ × List Name)) (specific : ℕ × List Name) → names_in (specifics ++ specific ∷ []) ≡ names_in specifics ++ specific.1
names_snoc [] specific = append-nil specific.1
names_snoc (first ∷ specifics) specific = ap (λ t. first.1 ++ t) (names_snoc specifics specific) ∙ sym (append_assoc first.1 (names_in specifics) specific.1)

-- in a derived type
pub from_type : (us : List SourceUnit) (o : Owner) (uses : List (ℕ × UseStmt)) (ds : List Declaration) (first : ℕ) (name : Name) (access : ℕ) (components : List (ℕ × Vars)) (line : ℕ) (f : Form) → IsRight (in_type us o uses ds first name access components) → May (nest_of (in_type us o uses ds first name access components)) line f → Goes (in_type us o uses ds first name access components) line f
from_type us o uses ds first name access components line (form.Variables vars) h m =
    goes (in_type us o uses ds first name access components) (in_type us o uses ds first name access (components ++ (line, vars) ∷ [])) line (form.Variables vars) refl h
    (ap (λ all. nest.Definition (map unit_tree us) (scope_at o (without_block uses ds)) (definition.Type first name access all)) (sym (map_snoc vars_of components (line, vars))))
    (onto (owner_forms o) (body_forms (without_block uses ds) ++ (first, form.TypeDef name access) ∷ map component_form components) (body_forms (without_block uses ds) ++ (first, form.TypeDef name access) ∷ map component_form (components ++ (line, vars) ∷ [])) ((line, form.Variables vars) ∷ [])
    (onto (body_forms (without_block uses ds)) ((first, form.TypeDef name access) ∷ map component_form components) ((first, form.TypeDef name access) ∷ map component_form (components ++ (line, vars) ∷ [])) ((line, form.Variables vars) ∷ [])
    (ap (λ all. (first, form.TypeDef name access) ∷ all) (map_snoc component_form components (line, vars)))))
from_type us o uses ds first name access components line (form.End end.Type said) h m =
    defines (in_type us o uses ds first name access components) us o uses ds (derived_type first name access components (record { line = line; words = end.Type; name = said })) ((first, form.TypeDef name access) ∷ map component_form components) line (form.End end.Type said) refl
    (h.0, (h.1.0, h.1.1)) (h.1.2, has_some_of vars_of components m.allowed, (refl, m.named)) refl refl refl
from_type us o uses ds first name access components line (form.End _ said) h m = absurd (untrue m.allowed)
from_type us o uses ds first name access components line _ h m = absurd (untrue m.allowed)

-- in an interface
pub from_interface : (us : List SourceUnit) (o : Owner) (uses : List (ℕ × UseStmt)) (ds : List Declaration) (first : ℕ) (name : Name) (specifics : List (ℕ × List Name)) (line : ℕ) (f : Form) → IsRight (in_interface us o uses ds first name specifics) → May (nest_of (in_interface us o uses ds first name specifics)) line f → Goes (in_interface us o uses ds first name specifics) line f
from_interface us o uses ds first name specifics line (form.Specifics names) h m =
    goes (in_interface us o uses ds first name specifics) (in_interface us o uses ds first name (specifics ++ (line, names) ∷ [])) line (form.Specifics names) refl h
    (ap (λ all. nest.Definition (map unit_tree us) (scope_at o (without_block uses ds)) (definition.Interface first name all)) (sym (names_snoc specifics (line, names))))
    (onto (owner_forms o) (body_forms (without_block uses ds) ++ (first, form.Interface name) ∷ map specific_form specifics) (body_forms (without_block uses ds) ++ (first, form.Interface name) ∷ map specific_form (specifics ++ (line, names) ∷ [])) ((line, form.Specifics names) ∷ [])
    (onto (body_forms (without_block uses ds)) ((first, form.Interface name) ∷ map specific_form specifics) ((first, form.Interface name) ∷ map specific_form (specifics ++ (line, names) ∷ [])) ((line, form.Specifics names) ∷ [])
    (ap (λ all. (first, form.Interface name) ∷ all) (map_snoc specific_form specifics (line, names)))))
from_interface us o uses ds first name specifics line (form.End end.Interface said) h m =
    defines (in_interface us o uses ds first name specifics) us o uses ds (interface first name specifics (record { line = line; words = end.Interface; name = said })) ((first, form.Interface name) ∷ map specific_form specifics) line (form.End end.Interface said) refl
    (h.0, (h.1.0, h.1.1)) (h.1.2, has_some (names_in specifics) m.allowed, (refl, m.named)) refl refl refl
from_interface us o uses ds first name specifics line (form.End _ said) h m = absurd (untrue m.allowed)
from_interface us o uses ds first name specifics line _ h m = absurd (untrue m.allowed)

-- the constructs that are open, with one more statement
spotted : (o : Owner) (body : Body) (before after more : List Stated) → after ≡ before ++ more → owner_forms o ++ (body_forms body ++ after) ≡ (owner_forms o ++ (body_forms body ++ before)) ++ more
spotted o body before after more p =
    onto (owner_forms o) (body_forms body ++ before) (body_forms body ++ after) more (onto (body_forms body) before after more p)

-- an action in a construct
acts : (us : List SourceUnit) (o : Owner) (body : Body) (spot : Spot) (around : List Spot) (line : ℕ) (statement : Statement) → IsRight (in_constructs us o body spot around) → has_block (front_parts spot.front) ≡ true → (is_procedure (owner_kind o) || not (is_return statement)) ≡ true → Goes (in_constructs us o body spot around) line (form.Action statement)
acts us o body spot around line statement h b r =
    let next : Spot = record { front = spot.front; block = action spot.block line statement } in
    goes (in_constructs us o body spot around) (in_constructs us o body next around) line (form.Action statement) refl
    (h.0, (h.1.0, h.1.1, h.1.2, h.1.3, (h.1.4.0, h.1.4.1, (h.1.4.2, ap (λ p. p || not (is_return statement)) (sym (procedure_kind o)) ∙ r), stands spot.front (action spot.block line statement) (takes spot.front b))))
    refl
    (spotted o body (spots_forms (spot ∷ around)) (spots_forms (next ∷ around)) ((line, form.Action statement) ∷ [])
    (onto (spots_forms around) (front_forms spot.front ++ block_forms spot.block) (front_forms spot.front ++ (block_forms spot.block ++ (line, form.Action statement) ∷ [])) ((line, form.Action statement) ∷ [])
    (onto (front_forms spot.front) (block_forms spot.block) (block_forms spot.block ++ (line, form.Action statement) ∷ []) ((line, form.Action statement) ∷ []) refl)))

room_left : (n m : ℕ) → n ≡ m → nat_le 63 n ≡ false → suc m < greatest_nesting
room_left n m p h = grind (arith, nat_tests)

-- a construct begins in a construct
nests : (us : List SourceUnit) (o : Owner) (body : Body) (spot : Spot) (around : List Spot) (line : ℕ) (f : Form) (front : Front) → IsRight (in_constructs us o body spot around) → has_block (front_parts spot.front) ≡ true → nat_le 63 (length (map spot_level around)) ≡ false → front_forms front ≡ (line, f) ∷ [] → IsFront (is_a_procedure (owner_scoping o)) (suc (length (spot ∷ around))) front → taken (nest_of (in_constructs us o body spot around)) line f ≡ nest_of (in_constructs us o body (record { front = front; block = nothing }) (spot ∷ around)) → Goes (in_constructs us o body spot around) line f
nests us o body spot around line f front h b room written right leads =
    goes (in_constructs us o body spot around) (in_constructs us o body (record { front = front; block = nothing }) (spot ∷ around)) line f refl
    (h.0, (h.1.0, h.1.1, h.1.2, (h.1.3, h.1.4, takes spot.front b), (room_left (length (map spot_level around)) (length around) (length-map around spot_level) room, right, tt, stands_first front)))
    leads
    (spotted o body (spots_forms (spot ∷ around)) (spots_forms (spot ∷ around) ++ (front_forms front ++ [])) ((line, f) ∷ [])
    (ap (λ t. spots_forms (spot ∷ around) ++ t) (append-nil (front_forms front) ∙ written)))

-- a construct goes on with another block
parts_forms : (around : List Spot) (front block : List Stated) (more : List Stated) → spots_forms around ++ ((front ++ (block ++ more)) ++ []) ≡ (spots_forms around ++ (front ++ block)) ++ more
parts_forms around front block more = onto (spots_forms around) (front ++ block) ((front ++ (block ++ more)) ++ []) more (append-nil (front ++ (block ++ more)) ∙ sym (append_assoc front block more))

goes_on : (us : List SourceUnit) (o : Owner) (body : Body) (spot : Spot) (around : List Spot) (line : ℕ) (f : Form) (front : Front) → IsRight (in_constructs us o body spot around) → front_forms front ≡ front_forms spot.front ++ (block_forms spot.block ++ (line, f) ∷ []) → IsFront (is_a_procedure (owner_scoping o)) (suc (length around)) front → taken (nest_of (in_constructs us o body spot around)) line f ≡ nest_of (in_constructs us o body (record { front = front; block = nothing }) around) → Goes (in_constructs us o body spot around) line f
goes_on us o body spot around line f front h written right leads =
    goes (in_constructs us o body spot around) (in_constructs us o body (record { front = front; block = nothing }) around) line f refl
    (h.0, (h.1.0, h.1.1, h.1.2, h.1.3, (h.1.4.0, right, tt, stands_first front)))
    leads
    (spotted o body (spots_forms (spot ∷ around)) (spots_forms around ++ (front_forms front ++ [])) ((line, f) ∷ [])
    (ap (λ t. spots_forms around ++ (t ++ [])) written ∙ parts_forms around (front_forms spot.front) (block_forms spot.block) ((line, f) ∷ [])))

not_else : (arms : Arms) → takes_arm (front_parts (in_arms arms)) ≡ true → is_else arms ≡ false
not_else (if_then head) h = refl
not_else (else_if arms block line said condition) h = refl
not_else (otherwise arms block line said) h = sym h

pub next_arms : (us : List SourceUnit) (o : Owner) (body : Body) (arms : Arms) (block : Block) (around : List Spot) (line : ℕ) (condition : Option Expr) → nest.Construct (map unit_tree us) (scope_at o body) (record { line = (first_of_arms arms).line; construct = (first_of_arms arms).construct; parts = parts.If (closed_arms arms ++ arm (arm_line arms) (arm_condition arms) (block_tree block) ∷ []) line condition; stmts = [] }) (map spot_level around) ≡ nest.Construct (map unit_tree us) (scope_at o body) (record { line = (first_of_arms arms).line; construct = (first_of_arms arms).construct; parts = parts.If (arms_tree arms (block_tree block)) line condition; stmts = [] }) (map spot_level around)
next_arms us o body arms block around line condition =
    ap (λ all. nest.Construct (map unit_tree us) (scope_at o body) (record { line = (first_of_arms arms).line; construct = (first_of_arms arms).construct; parts = parts.If all line condition; stmts = [] }) (map spot_level around)) (arms_split arms (block_tree block))

elses_if : (us : List SourceUnit) (o : Owner) (body : Body) (front : Front) (block : Block) (around : List Spot) (line : ℕ) (said : Option Name) (condition : Expr) → IsRight (in_constructs us o body (record { front = front; block = block }) around) → takes_arm (front_parts front) ≡ true → agrees said (front_name front) ≡ true → Goes (in_constructs us o body (record { front = front; block = block }) around) line (form.ElseIf said condition)
elses_if us o body (in_arms arms) block around line said condition h allowed named =
    goes_on us o body (record { front = in_arms arms; block = block }) around line (form.ElseIf said condition) (in_arms (else_if arms block line said condition)) h refl
    (h.1.4.1, not_else arms allowed, h.1.4.2, named) (next_arms us o body arms block around line (Some condition))
elses_if us o body _ block around line said condition h allowed named = absurd (untrue allowed)

elses : (us : List SourceUnit) (o : Owner) (body : Body) (front : Front) (block : Block) (around : List Spot) (line : ℕ) (said : Option Name) → IsRight (in_constructs us o body (record { front = front; block = block }) around) → takes_arm (front_parts front) ≡ true → agrees said (front_name front) ≡ true → Goes (in_constructs us o body (record { front = front; block = block }) around) line (form.Else said)
elses us o body (in_arms arms) block around line said h allowed named =
    goes_on us o body (record { front = in_arms arms; block = block }) around line (form.Else said) (in_arms (otherwise arms block line said)) h refl
    (h.1.4.1, not_else arms allowed, h.1.4.2, named) (next_arms us o body arms block around line None)
elses us o body _ block around line said h allowed named = absurd (untrue allowed)

pub next_cases : (us : List SourceUnit) (o : Owner) (body : Body) (choices : Choices) (block : Block) (label : Label) (around : List Spot) → taken (nest_of (in_constructs us o body (record { front = in_choices choices; block = block }) around)) label.line (form.Case label.said label.is_default label.ranges) ≡ nest_of (in_constructs us o body (record { front = in_choices (case choices block label); block = nothing }) around)
next_cases us o body choices block label around =
    ap (λ all. nest.Construct (map unit_tree us) (scope_at o body) (record { line = (first_of_choices choices).line; construct = (first_of_choices choices).construct; parts = parts.Select (first_of_choices choices).value all (open_label (case choices block label)) (has_default (case choices block label)); stmts = [] }) (map spot_level around)) (choices_split choices (block_tree block))

cases : (us : List SourceUnit) (o : Owner) (body : Body) (front : Front) (block : Block) (around : List Spot) (line : ℕ) (said : Option Name) (is_default : ℕ) (ranges : List CaseRange) → IsRight (in_constructs us o body (record { front = front; block = block }) around) → takes_case (front_parts front) (is_default == 1) ≡ true → agrees said (front_name front) ≡ true → Goes (in_constructs us o body (record { front = front; block = block }) around) line (form.Case said is_default ranges)
cases us o body (in_choices choices) block around line said is_default ranges h allowed named =
    let label : Label = record { line = line; said = said; is_default = is_default; ranges = ranges } in
    goes_on us o body (record { front = in_choices choices; block = block }) around line (form.Case said is_default ranges) (in_choices (case choices block label)) h refl
    (h.1.4.1, h.1.4.3, h.1.4.2, allowed, named)
    (next_cases us o body choices block label around)
cases us o body _ block around line said is_default ranges h allowed named = absurd (untrue allowed)

closing_stage : (f : Front) (before inner : Block) (last : Last) (ds : List Declaration) → stage_by (closing f before inner last) ds ≡ stage.Statements
closing_stage (in_counted head) before inner last ds = refl
closing_stage (in_looped head) before inner last ds = refl
closing_stage (in_arms arms) before inner last ds = refl
closing_stage (in_choices choices) before inner last ds = refl

with_closed : (f : Front) (before inner : Block) (last : Last) → block_forms (closing f before inner last) ≡ block_forms before ++ ((front_forms f ++ block_forms inner) ++ last_form last ∷ [])
with_closed f before inner last = closing_forms f before inner last ∙ ap (λ t. block_forms before ++ t) (sym (append_assoc (front_forms f) (block_forms inner) (last_form last ∷ [])))

-- what a construct leaves open that ends
pub closed_in_body : (us : List SourceUnit) (o : Owner) (body : Body) (front : Front) (block : Block) (last : Last) → executed (map unit_tree us) (scope_at o body) (statement_of (spot_level (record { front = front; block = block }))) ≡ nest_of (in_body us o (record { uses = body.uses; declarations = body.declarations; block = closing front body.block block last }))
closed_in_body us o body front block last =
    ap (λ stmts. nest.Scope (map unit_tree us) (record { line = owner_line o; kind = owner_kind o; stage = stage.Statements; decls = body_decls body; stmts = stmts })) (sym (closing_tree front body.block block last))
    ∙ ap (λ stage. nest.Scope (map unit_tree us) (record { line = owner_line o; kind = owner_kind o; stage = stage; decls = body_decls body; stmts = block_tree (closing front body.block block last) })) (sym (closing_stage front body.block block last body.declarations))

pub closed_in_spot : (us : List SourceUnit) (o : Owner) (body : Body) (outer : Spot) (rest : List Spot) (front : Front) (block : Block) (last : Last) → nest.Construct (map unit_tree us) (scope_at o body) (within (spot_level outer) (statement_of (spot_level (record { front = front; block = block })))) (map spot_level rest) ≡ nest_of (in_constructs us o body (record { front = outer.front; block = closing front outer.block block last }) rest)
closed_in_spot us o body outer rest front block last =
    ap (λ stmts. nest.Construct (map unit_tree us) (scope_at o body) (record { line = front_line outer.front; construct = front_name outer.front; parts = front_parts outer.front; stmts = stmts }) (map spot_level rest)) (sym (closing_tree front outer.block block last))

-- a construct ends
ends : (us : List SourceUnit) (o : Owner) (body : Body) (front : Front) (block : Block) (around : List Spot) (line : ℕ) (words : End) (said : Option Name) → IsRight (in_constructs us o body (record { front = front; block = block }) around) → closes_construct (front_parts front) words ≡ true → agrees said (front_name front) ≡ true → Goes (in_constructs us o body (record { front = front; block = block }) around) line (form.End words said)
ends us o body front block [] line words said h allowed named =
    let last : Last = record { line = line; words = words; name = said } in
    let next : Body = record { uses = body.uses; declarations = body.declarations; block = closing front body.block block last } in
    goes (in_constructs us o body (record { front = front; block = block }) []) (in_body us o next) line (form.End words said) refl
    (h.0, (h.1.0, (h.1.1.0, has_part (owner_scoping o) next.block h.1.2, closing_right front body.block block last (is_a_procedure (owner_scoping o)) 0 h.1.1.2 h.1.4.0 h.1.4.1 h.1.4.2 h.1.4.3 (words_of front words allowed) named)))
    (closed_in_body us o body front block last)
    (onto (owner_forms o) (body_forms body ++ (front_forms front ++ block_forms block)) (body_forms next) (last_form last ∷ [])
    (ap (λ t. map use_form body.uses ++ (flat_map declaration_forms body.declarations ++ t)) (with_closed front body.block block last)
    ∙ sunk (map use_form body.uses) (flat_map declaration_forms body.declarations) (block_forms body.block) (front_forms front ++ block_forms block) (last_form last ∷ [])))
ends us o body front block (outer ∷ rest) line words said h allowed named =
    let last : Last = record { line = line; words = words; name = said } in
    let next : Spot = record { front = outer.front; block = closing front outer.block block last } in
    goes (in_constructs us o body (record { front = front; block = block }) (outer ∷ rest)) (in_constructs us o body next rest) line (form.End words said) refl
    (h.0, (h.1.0, h.1.1, h.1.2, h.1.3.0, (h.1.3.1.0, h.1.3.1.1, closing_right front outer.block block last (is_a_procedure (owner_scoping o)) (suc (length rest)) h.1.3.1.2 h.1.4.0 h.1.4.1 h.1.4.2 h.1.4.3 (words_of front words allowed) named, stands outer.front next.block h.1.3.2)))
    (closed_in_spot us o body outer rest front block last)
    (spotted o body (spots_forms (outer ∷ rest) ++ (front_forms front ++ block_forms block)) (spots_forms (next ∷ rest)) (last_form last ∷ [])
    (ap (λ t. spots_forms rest ++ (front_forms outer.front ++ t)) (with_closed front outer.block block last)
    ∙ sunk (spots_forms rest) (front_forms outer.front) (block_forms outer.block) (front_forms front ++ block_forms block) (last_form last ∷ [])))

-- in a construct
pub from_constructs : (us : List SourceUnit) (o : Owner) (body : Body) (front : Front) (block : Block) (around : List Spot) (line : ℕ) (f : Form) → IsRight (in_constructs us o body (record { front = front; block = block }) around) → May (nest_of (in_constructs us o body (record { front = front; block = block }) around)) line f → Goes (in_constructs us o body (record { front = front; block = block }) around) line f
from_constructs us o body front block around line (form.Action statement) h m =
    let both = both_true (has_block (front_parts front)) (is_procedure (owner_kind o) || not (is_return statement)) m.allowed in
    acts us o body (record { front = front; block = block }) around line statement h both.0 both.1
from_constructs us o body front block around line (form.IfThen construct condition) h m =
    nests us o body (record { front = front; block = block }) around line (form.IfThen construct condition) (in_arms (if_then (record { line = line; construct = construct; condition = condition }))) h m.allowed m.room refl tt refl
from_constructs us o body front block around line (form.Do construct variable lower upper step) h m =
    nests us o body (record { front = front; block = block }) around line (form.Do construct variable lower upper step) (in_counted (record { line = line; construct = construct; variable = variable; lower = lower; upper = upper; step = step })) h m.allowed m.room refl tt refl
from_constructs us o body front block around line (form.While construct condition) h m =
    nests us o body (record { front = front; block = block }) around line (form.While construct condition) (in_looped (record { line = line; construct = construct; condition = condition })) h m.allowed m.room refl tt refl
from_constructs us o body front block around line (form.Select construct value) h m =
    nests us o body (record { front = front; block = block }) around line (form.Select construct value) (in_choices (select (record { line = line; construct = construct; value = value }))) h m.allowed m.room refl tt refl
from_constructs us o body front block around line (form.ElseIf said condition) h m = elses_if us o body front block around line said condition h m.allowed m.named
from_constructs us o body front block around line (form.Else said) h m = elses us o body front block around line said h m.allowed m.named
from_constructs us o body front block around line (form.Case said is_default ranges) h m = cases us o body front block around line said is_default ranges h m.allowed m.named
from_constructs us o body front block around line (form.End words said) h m = ends us o body front block around line words said h m.allowed m.named
from_constructs us o body front block around line _ h m = absurd (untrue m.allowed)
