-- The statements that trees of the grammar are written as may stand where they do, one behind the other, and lead to those trees.
use Rattle.std.proofs.Common.{◌≡◌, ℕ, suc, ◌<◌, arith, Bool, true, false, not, ◌&&◌, ◌||◌, ◌⊎◌, inl, inr, List, [], ◌∷◌, ◌++◌, map, length, refl, sym, ap, subst, ◌∙◌, append_assoc, append-nil, Option, Some, None}
use Rattle.std.specs.Prelude.{◌==◌, nat_le, if◌then◌else◌}
use Rattle.std.specs.List.{flat_map, AllByRecursion as Each}
use Rattle.std.proofs.lemmas.List.{length-map}
use Rattle.std.proofs.lemmas.Bool.Decides.{nat_tests}
use Rattle.ast_nodes.specs.declared.declaration.Vars.{Vars}
use Rattle.ast_nodes.specs.declared.declaration.UseStmt.{UseStmt}
use Rattle.ast_nodes.specs.declared.expression.Expr.{Expr}
use Rattle.ast_nodes.specs.declared.file.Procedure.{Procedure}
use Rattle.ast_nodes.specs.declared.statement.Statement.{Statement}
use Rattle.ff_forms.specs.declared.form.End.{End}
use Rattle.ff_forms.specs.declared.form.End.TheVariants as end
use Rattle.ff_forms.specs.declared.form.Form.{Form}
use Rattle.ff_forms.specs.declared.form.Form.TheVariants as form
use Rattle.ff_parser.specs.declared.nest.Scope.{Scope}
use Rattle.ff_parser.specs.declared.nest.Header.{Header}
use Rattle.ff_parser.specs.declared.nest.Host.{Host}
use Rattle.ff_parser.specs.declared.nest.Level.{Level}
use Rattle.ff_parser.specs.declared.nest.ScopeKind.TheVariants as kind
use Rattle.ff_parser.specs.declared.nest.Definition.TheVariants as definition
use Rattle.ff_parser.specs.declared.nest.Nest.{Nest}
use Rattle.ff_parser.specs.declared.nest.Nest.TheVariants as nest
use Rattle.ff_parser.specs.Pieces.{is_return, agrees}
use Rattle.ff_parser.specs.Allowed.{takes_declarations, takes_statements, is_module, is_procedure, closes, in_scope, in_construct, has_items, has_block, takes_arm, in_definition, closes_construct}
use Rattle.ff_parser.specs.Names.{said, name_of, begins_construct}
use Rattle.ff_parser.specs.Taken.{taken}
use Rattle.ff_parser.specs.Grammar.{Name, Stated, Last, last_form, Counted, Looped, IfThen, Select, Label, Block, nothing, action, counted, looped, conditional, selected, Arms, if_then, else_if, otherwise, Choices, select, case, block_forms, arms_forms, choices_forms, first_of_arms, first_of_choices, is_else, has_default, greatest_nesting, IsBlock, AreArms, AreChoices, Declaration, implicit_none, variables, accesses, derived_type, interface, component_form, specific_form, declaration_forms, vars_of, names_in, HasSome, Scoping, main_program, a_module, a_procedure, is_a_module, is_a_procedure, IsDeclaration, Body, use_form, body_forms, HasPart, IsBody, fits, Closes, Subprogram, header_form, procedure_words, subprogram_forms, subprogram_tree, IsSubprogram, Internal, internal_forms, AreInternal, SourceUnit, unit_form, unit_words, unit_forms, unit_tree, IsUnit}
use Rattle.ff_parser.proofs.Lists.{and_true, map_snoc}
use Rattle.ff_parser.proofs.States.{May, Leads, Onward, Front, in_counted, in_looped, in_arms, in_choices, front_forms, front_parts, front_name, Spot, spot_level, Opened, Owner, of_unit, of_procedure, owner_scoping, owner_kind, host_with, stage_by, scope_at, without_block, State, outside, in_body, in_type, in_interface, in_constructs, behind_contains, nest_of, StandsBehind, Takes}
use Rattle.ff_parser.proofs.Closing.{untrue, closing, closes_it, front_words, takes_back, stands}
use Rattle.ff_parser.proofs.Found.{module_kind, procedure_kind, use_leads, declared_leads, procedure_leads}
use Rattle.ff_parser.proofs.Nested.{next_arms, next_cases, closed_in_body, closed_in_spot, names_snoc}

pub leads_append : (xs ys : List Stated) (n m k : Nest) → Leads n xs m → Leads m ys k → Leads n (xs ++ ys) k
leads_append [] ys n m k p q = subst (λ t. Leads t ys k) (sym p) q
leads_append (x ∷ xs) ys n m k p q = (p.0, leads_append xs ys (taken n x.0 x.1) m k p.1 q)

joined : (s t u : State) (xs ys : List Stated) → Onward s xs t → Onward t ys u → Onward s (xs ++ ys) u
joined s t u xs ys p q = leads_append xs ys (nest_of s) (nest_of t) (nest_of u) p q

-- what holds a block
data Holder : Type 0 where
  by_body : List SourceUnit → Owner → List (ℕ × UseStmt) → List Declaration → Holder
  by_front : List SourceUnit → Owner → Body → Front → List Spot → Holder

abbrev with_block : Holder → Block → State
with_block (by_body us o uses ds) block = in_body us o (record { uses = uses; declarations = ds; block = block })
with_block (by_front us o body front around) block = in_constructs us o body (record { front = front; block = block }) around

abbrev inside : Holder → Block → Front → Holder
inside (by_body us o uses ds) block front = by_front us o (record { uses = uses; declarations = ds; block = block }) front []
inside (by_front us o body outer around) block front = by_front us o body front (record { front = outer; block = block } ∷ around)

abbrev returns_in : Holder → Bool
returns_in (by_body us o uses ds) = is_a_procedure (owner_scoping o)
returns_in (by_front us o body front around) = is_a_procedure (owner_scoping o)

abbrev depth_in : Holder → ℕ
depth_in (by_body us o uses ds) = 0
depth_in (by_front us o body front around) = suc (length around)

-- a module holds none
abbrev Holds : Holder → Type 0
Holds (by_body us o uses ds) = is_a_module (owner_scoping o) ≡ false
Holds (by_front us o body front around) = Unit {0}

abbrev HoldsIt : Holder → Block → Type 0
HoldsIt (by_body us o uses ds) block = Unit {0}
HoldsIt (by_front us o body front around) block = StandsBehind front block

abbrev HoldsMore : Holder → Type 0
HoldsMore (by_body us o uses ds) = Unit {0}
HoldsMore (by_front us o body front around) = Takes front

abbrev is_nothing : Block → Bool
is_nothing nothing = true
is_nothing _ = false

takes_of : (front : Front) (block : Block) → is_nothing block ≡ false → StandsBehind front block → Takes front
takes_of (in_counted head) block p h = tt
takes_of (in_looped head) block p h = tt
takes_of (in_arms arms) block p h = tt
takes_of (in_choices (case choices behind label)) block p h = tt
takes_of (in_choices (select head)) nothing p h = absurd (untrue (sym p))
takes_of (in_choices (select head)) _ p h = absurd h

holds_more : (h : Holder) (block : Block) → is_nothing block ≡ false → HoldsIt h block → HoldsMore h
holds_more (by_body us o uses ds) block p k = tt
holds_more (by_front us o body front around) block p k = takes_of front block p k

holds_it : (h : Holder) (block : Block) → HoldsMore h → HoldsIt h block
holds_it (by_body us o uses ds) block k = tt
holds_it (by_front us o body front around) block k = stands front block k

holds_inside : (h : Holder) (block : Block) (front : Front) → Holds (inside h block front)
holds_inside (by_body us o uses ds) block front = tt
holds_inside (by_front us o body outer around) block front = tt

stands_inside : (h : Holder) (block inner : Block) (front : Front) → StandsBehind front inner → HoldsIt (inside h block front) inner
stands_inside (by_body us o uses ds) block inner front k = k
stands_inside (by_front us o body outer around) block inner front k = k

right_inside : (h : Holder) (block inner : Block) (front : Front) → IsBlock (returns_in h) (suc (depth_in h)) inner → IsBlock (returns_in (inside h block front)) (depth_in (inside h block front)) inner
right_inside (by_body us o uses ds) block inner front k = k
right_inside (by_front us o body outer around) block inner front k = k

takes_here : (block : Block) (ds : List Declaration) → takes_statements (stage_by block ds) ≡ true
takes_here nothing [] = refl
takes_here nothing (d ∷ ds) = refl
takes_here _ ds = refl

room_here : (n m : ℕ) → n ≡ m → suc m < greatest_nesting → nat_le 63 n ≡ false
room_here n m p h = grind (arith, nat_tests)

acts : (h : Holder) (block : Block) (line : ℕ) (statement : Statement) → Holds h → HoldsMore h → (returns_in h || not (is_return statement)) ≡ true → Onward (with_block h block) ((line, form.Action statement) ∷ []) (with_block h (action block line statement))
acts (by_body us o uses ds) block line statement k m r = (
  record {
    allowed = and_true (not (is_module (owner_kind o)) && takes_statements (stage_by block ds)) (is_procedure (owner_kind o) || not (is_return statement))
        (and_true (not (is_module (owner_kind o))) (takes_statements (stage_by block ds)) (ap not (module_kind o ∙ k)) (takes_here block ds))
        (ap (λ p. p || not (is_return statement)) (procedure_kind o) ∙ r);
    named = refl;
    room = refl;
  },
  refl,
)
acts (by_front us o body front around) block line statement k m r = (
  record {
    allowed = and_true (has_block (front_parts front)) (is_procedure (owner_kind o) || not (is_return statement)) (takes_back front m) (ap (λ p. p || not (is_return statement)) (procedure_kind o) ∙ r);
    named = refl;
    room = refl;
  },
  refl,
)

-- a statement that begins a construct
record Begins (f : Form) : Type 0 where
  in_a_scope : (scope : Scope) → in_scope scope f ≡ (not (is_module scope.kind) && takes_statements scope.stage)
  in_a_construct : (scope : Scope) (level : Level) → in_construct scope level f ≡ has_block level.parts
  unnamed : said f ≡ None
  one : begins_construct f ≡ true

opens : (h : Holder) (block : Block) (line : ℕ) (f : Form) (front : Front) → Holds h → HoldsMore h → depth_in h < greatest_nesting → Begins f → taken (nest_of (with_block h block)) line f ≡ nest_of (with_block (inside h block front) nothing) → Onward (with_block h block) ((line, f) ∷ []) (with_block (inside h block front) nothing)
opens (by_body us o uses ds) block line f front k m d b leads = (
  record {
    allowed = b.in_a_scope (scope_at o (record { uses = uses; declarations = ds; block = block })) ∙ and_true (not (is_module (owner_kind o))) (takes_statements (stage_by block ds)) (ap not (module_kind o ∙ k)) (takes_here block ds);
    named = ap (λ t. agrees t (Some (name_of (owner_kind o)))) b.unnamed;
    room = ap (λ t. t && false) b.one;
  },
  leads,
)
opens (by_front us o body outer around) block line f front k m d b leads = (
  record {
    allowed = b.in_a_construct (scope_at o body) (spot_level (record { front = outer; block = block })) ∙ takes_back outer m;
    named = ap (λ t. agrees t (front_name outer)) b.unnamed;
    room = ap (λ t. t && nat_le 63 (length (map spot_level around))) b.one ∙ room_here (length (map spot_level around)) (length around) (length-map around spot_level) d;
  },
  leads,
)

leads_counted : (h : Holder) (block : Block) (head : Counted) → taken (nest_of (with_block h block)) head.line (form.Do head.construct head.variable head.lower head.upper head.step) ≡ nest_of (with_block (inside h block (in_counted head)) nothing)
leads_counted (by_body us o uses ds) block head = refl
leads_counted (by_front us o body outer around) block head = refl

opens_counted : (h : Holder) (block : Block) (head : Counted) → Holds h → HoldsMore h → depth_in h < greatest_nesting → Onward (with_block h block) (front_forms (in_counted head)) (with_block (inside h block (in_counted head)) nothing)
opens_counted h block head k m d =
    opens h block head.line (form.Do head.construct head.variable head.lower head.upper head.step) (in_counted head) k m d
    (record { in_a_scope = λ scope. refl; in_a_construct = λ scope level. refl; unnamed = refl; one = refl }) (leads_counted h block head)

leads_looped : (h : Holder) (block : Block) (head : Looped) → taken (nest_of (with_block h block)) head.line (form.While head.construct head.condition) ≡ nest_of (with_block (inside h block (in_looped head)) nothing)
leads_looped (by_body us o uses ds) block head = refl
leads_looped (by_front us o body outer around) block head = refl

opens_looped : (h : Holder) (block : Block) (head : Looped) → Holds h → HoldsMore h → depth_in h < greatest_nesting → Onward (with_block h block) (front_forms (in_looped head)) (with_block (inside h block (in_looped head)) nothing)
opens_looped h block head k m d =
    opens h block head.line (form.While head.construct head.condition) (in_looped head) k m d
    (record { in_a_scope = λ scope. refl; in_a_construct = λ scope level. refl; unnamed = refl; one = refl }) (leads_looped h block head)

leads_if : (h : Holder) (block : Block) (head : IfThen) → taken (nest_of (with_block h block)) head.line (form.IfThen head.construct head.condition) ≡ nest_of (with_block (inside h block (in_arms (if_then head))) nothing)
leads_if (by_body us o uses ds) block head = refl
leads_if (by_front us o body outer around) block head = refl

opens_if : (h : Holder) (block : Block) (head : IfThen) → Holds h → HoldsMore h → depth_in h < greatest_nesting → Onward (with_block h block) (front_forms (in_arms (if_then head))) (with_block (inside h block (in_arms (if_then head))) nothing)
opens_if h block head k m d =
    opens h block head.line (form.IfThen head.construct head.condition) (in_arms (if_then head)) k m d
    (record { in_a_scope = λ scope. refl; in_a_construct = λ scope level. refl; unnamed = refl; one = refl }) (leads_if h block head)

leads_select : (h : Holder) (block : Block) (head : Select) → taken (nest_of (with_block h block)) head.line (form.Select head.construct head.value) ≡ nest_of (with_block (inside h block (in_choices (select head))) nothing)
leads_select (by_body us o uses ds) block head = refl
leads_select (by_front us o body outer around) block head = refl

opens_select : (h : Holder) (block : Block) (head : Select) → Holds h → HoldsMore h → depth_in h < greatest_nesting → Onward (with_block h block) (front_forms (in_choices (select head))) (with_block (inside h block (in_choices (select head))) nothing)
opens_select h block head k m d =
    opens h block head.line (form.Select head.construct head.value) (in_choices (select head)) k m d
    (record { in_a_scope = λ scope. refl; in_a_construct = λ scope level. refl; unnamed = refl; one = refl }) (leads_select h block head)

ends : (h : Holder) (block : Block) (front : Front) (inner : Block) (last : Last) → last.words ≡ front_words front → agrees last.name (front_name front) ≡ true → Onward (with_block (inside h block front) inner) (last_form last ∷ []) (with_block h (closing front block inner last))
ends (by_body us o uses ds) block front inner last w n = (
  record { allowed = ap (λ words. closes_construct (front_parts front) words) w ∙ closes_it front; named = n; room = refl },
  closed_in_body us o (record { uses = uses; declarations = ds; block = block }) front inner last,
)
ends (by_front us o body outer around) block front inner last w n = (
  record { allowed = ap (λ words. closes_construct (front_parts front) words) w ∙ closes_it front; named = n; room = refl },
  closed_in_spot us o body (record { front = outer; block = block }) around front inner last,
)

arm_follows : (arms : Arms) → is_else arms ≡ false → takes_arm (front_parts (in_arms arms)) ≡ true
arm_follows (if_then head) h = refl
arm_follows (else_if arms block line said condition) h = refl
arm_follows (otherwise arms block line said) h = sym h

elses_if_in : (us : List SourceUnit) (o : Owner) (body : Body) (arms : Arms) (block : Block) (around : List Spot) (line : ℕ) (said : Option Name) (condition : Expr) → is_else arms ≡ false → agrees said (first_of_arms arms).construct ≡ true → Onward (in_constructs us o body (record { front = in_arms arms; block = block }) around) ((line, form.ElseIf said condition) ∷ []) (in_constructs us o body (record { front = in_arms (else_if arms block line said condition); block = nothing }) around)
elses_if_in us o body arms block around line said condition e n =
    (record { allowed = arm_follows arms e; named = n; room = refl }, next_arms us o body arms block around line (Some condition))

elses_in : (us : List SourceUnit) (o : Owner) (body : Body) (arms : Arms) (block : Block) (around : List Spot) (line : ℕ) (said : Option Name) → is_else arms ≡ false → agrees said (first_of_arms arms).construct ≡ true → Onward (in_constructs us o body (record { front = in_arms arms; block = block }) around) ((line, form.Else said) ∷ []) (in_constructs us o body (record { front = in_arms (otherwise arms block line said); block = nothing }) around)
elses_in us o body arms block around line said e n =
    (record { allowed = arm_follows arms e; named = n; room = refl }, next_arms us o body arms block around line None)

cases_in : (us : List SourceUnit) (o : Owner) (body : Body) (choices : Choices) (block : Block) (around : List Spot) (label : Label) → not (label.is_default == 1 && has_default choices) ≡ true → agrees label.said (first_of_choices choices).construct ≡ true → Onward (in_constructs us o body (record { front = in_choices choices; block = block }) around) ((label.line, form.Case label.said label.is_default label.ranges) ∷ []) (in_constructs us o body (record { front = in_choices (case choices block label); block = nothing }) around)
cases_in us o body choices block around label d n =
    (record { allowed = d; named = n; room = refl }, next_cases us o body choices block label around)

elses_if : (h : Holder) (before : Block) (arms : Arms) (block : Block) (line : ℕ) (said : Option Name) (condition : Expr) → is_else arms ≡ false → agrees said (first_of_arms arms).construct ≡ true → Onward (with_block (inside h before (in_arms arms)) block) ((line, form.ElseIf said condition) ∷ []) (with_block (inside h before (in_arms (else_if arms block line said condition))) nothing)
elses_if (by_body us o uses ds) before arms block line said condition e n = elses_if_in us o (record { uses = uses; declarations = ds; block = before }) arms block [] line said condition e n
elses_if (by_front us o body outer around) before arms block line said condition e n = elses_if_in us o body arms block (record { front = outer; block = before } ∷ around) line said condition e n

elses : (h : Holder) (before : Block) (arms : Arms) (block : Block) (line : ℕ) (said : Option Name) → is_else arms ≡ false → agrees said (first_of_arms arms).construct ≡ true → Onward (with_block (inside h before (in_arms arms)) block) ((line, form.Else said) ∷ []) (with_block (inside h before (in_arms (otherwise arms block line said))) nothing)
elses (by_body us o uses ds) before arms block line said e n = elses_in us o (record { uses = uses; declarations = ds; block = before }) arms block [] line said e n
elses (by_front us o body outer around) before arms block line said e n = elses_in us o body arms block (record { front = outer; block = before } ∷ around) line said e n

cases : (h : Holder) (before : Block) (choices : Choices) (block : Block) (label : Label) → not (label.is_default == 1 && has_default choices) ≡ true → agrees label.said (first_of_choices choices).construct ≡ true → Onward (with_block (inside h before (in_choices choices)) block) ((label.line, form.Case label.said label.is_default label.ranges) ∷ []) (with_block (inside h before (in_choices (case choices block label))) nothing)
cases (by_body us o uses ds) before choices block label d n = cases_in us o (record { uses = uses; declarations = ds; block = before }) choices block [] label d n
cases (by_front us o body outer around) before choices block label d n = cases_in us o body choices block (record { front = outer; block = before } ∷ around) label d n

-- a construct from its beginning to its end
whole : (h : Holder) (block : Block) (front : Front) (inner : Block) (last : Last) → Onward (with_block h block) (front_forms front) (with_block (inside h block front) nothing) → Onward (with_block (inside h block front) nothing) (block_forms inner) (with_block (inside h block front) inner) → last.words ≡ front_words front → agrees last.name (front_name front) ≡ true → Onward (with_block h block) (front_forms front ++ (block_forms inner ++ last_form last ∷ [])) (with_block h (closing front block inner last))
whole h block front inner last opened held w n =
    joined (with_block h block) (with_block (inside h block front) nothing) (with_block h (closing front block inner last)) (front_forms front) (block_forms inner ++ last_form last ∷ []) opened
    (joined (with_block (inside h block front) nothing) (with_block (inside h block front) inner) (with_block h (closing front block inner last)) (block_forms inner) (last_form last ∷ []) held (ends h block front inner last w n))

mutual
  blocks : (h : Holder) (block : Block) → Holds h → HoldsIt h block → IsBlock (returns_in h) (depth_in h) block → Onward (with_block h nothing) (block_forms block) (with_block h block)
  blocks h nothing k s r = refl
  blocks h (action block line statement) k s r =
      let m = holds_more h (action block line statement) refl s in
      joined (with_block h nothing) (with_block h block) (with_block h (action block line statement)) (block_forms block) ((line, form.Action statement) ∷ [])
      (blocks h block k (holds_it h block m) r.0) (acts h block line statement k m r.1)
  blocks h (counted block head body last) k s r =
      let m = holds_more h (counted block head body last) refl s in
      let front = in_counted head in
      joined (with_block h nothing) (with_block h block) (with_block h (counted block head body last)) (block_forms block) (front_forms front ++ (block_forms body ++ last_form last ∷ []))
      (blocks h block k (holds_it h block m) r.0)
      (whole h block front body last (opens_counted h block head k m r.1)
      (blocks (inside h block front) body (holds_inside h block front) (stands_inside h block body front tt) (right_inside h block body front r.2)) r.3.0 r.3.1)
  blocks h (looped block head body last) k s r =
      let m = holds_more h (looped block head body last) refl s in
      let front = in_looped head in
      joined (with_block h nothing) (with_block h block) (with_block h (looped block head body last)) (block_forms block) (front_forms front ++ (block_forms body ++ last_form last ∷ []))
      (blocks h block k (holds_it h block m) r.0)
      (whole h block front body last (opens_looped h block head k m r.1)
      (blocks (inside h block front) body (holds_inside h block front) (stands_inside h block body front tt) (right_inside h block body front r.2)) r.3.0 r.3.1)
  blocks h (conditional block arms body last) k s r =
      let m = holds_more h (conditional block arms body last) refl s in
      let front = in_arms arms in
      joined (with_block h nothing) (with_block h block) (with_block h (conditional block arms body last)) (block_forms block) (front_forms front ++ (block_forms body ++ last_form last ∷ []))
      (blocks h block k (holds_it h block m) r.0)
      (whole h block front body last (all_arms h block arms k m r.1 r.2)
      (blocks (inside h block front) body (holds_inside h block front) (stands_inside h block body front tt) (right_inside h block body front r.3)) r.4.0 r.4.1)
  blocks h (selected block choices body last) k s r =
      let m = holds_more h (selected block choices body last) refl s in
      let front = in_choices choices in
      joined (with_block h nothing) (with_block h block) (with_block h (selected block choices body last)) (block_forms block) (front_forms front ++ (block_forms body ++ last_form last ∷ []))
      (blocks h block k (holds_it h block m) r.0)
      (whole h block front body last (all_choices h block choices k m r.1 r.2)
      (blocks (inside h block front) body (holds_inside h block front) (stands_inside h block body front r.3) (right_inside h block body front r.4)) r.5.0 r.5.1)

  all_arms : (h : Holder) (before : Block) (arms : Arms) → Holds h → HoldsMore h → depth_in h < greatest_nesting → AreArms (returns_in h) (suc (depth_in h)) arms → Onward (with_block h before) (arms_forms arms) (with_block (inside h before (in_arms arms)) nothing)
  all_arms h before (if_then head) k m d r = opens_if h before head k m d
  all_arms h before (else_if arms block line said condition) k m d r =
      joined (with_block h before) (with_block (inside h before (in_arms arms)) nothing) (with_block (inside h before (in_arms (else_if arms block line said condition))) nothing) (arms_forms arms) (block_forms block ++ (line, form.ElseIf said condition) ∷ [])
      (all_arms h before arms k m d r.0)
      (joined (with_block (inside h before (in_arms arms)) nothing) (with_block (inside h before (in_arms arms)) block) (with_block (inside h before (in_arms (else_if arms block line said condition))) nothing) (block_forms block) ((line, form.ElseIf said condition) ∷ [])
      (blocks (inside h before (in_arms arms)) block (holds_inside h before (in_arms arms)) (stands_inside h before block (in_arms arms) tt) (right_inside h before block (in_arms arms) r.2))
      (elses_if h before arms block line said condition r.1 r.3))
  all_arms h before (otherwise arms block line said) k m d r =
      joined (with_block h before) (with_block (inside h before (in_arms arms)) nothing) (with_block (inside h before (in_arms (otherwise arms block line said))) nothing) (arms_forms arms) (block_forms block ++ (line, form.Else said) ∷ [])
      (all_arms h before arms k m d r.0)
      (joined (with_block (inside h before (in_arms arms)) nothing) (with_block (inside h before (in_arms arms)) block) (with_block (inside h before (in_arms (otherwise arms block line said))) nothing) (block_forms block) ((line, form.Else said) ∷ [])
      (blocks (inside h before (in_arms arms)) block (holds_inside h before (in_arms arms)) (stands_inside h before block (in_arms arms) tt) (right_inside h before block (in_arms arms) r.2))
      (elses h before arms block line said r.1 r.3))

  all_choices : (h : Holder) (before : Block) (choices : Choices) → Holds h → HoldsMore h → depth_in h < greatest_nesting → AreChoices (returns_in h) (suc (depth_in h)) choices → Onward (with_block h before) (choices_forms choices) (with_block (inside h before (in_choices choices)) nothing)
  all_choices h before (select head) k m d r = opens_select h before head k m d
  all_choices h before (case choices block label) k m d r =
      joined (with_block h before) (with_block (inside h before (in_choices choices)) nothing) (with_block (inside h before (in_choices (case choices block label))) nothing) (choices_forms choices) (block_forms block ++ (label.line, form.Case label.said label.is_default label.ranges) ∷ [])
      (all_choices h before choices k m d r.0)
      (joined (with_block (inside h before (in_choices choices)) nothing) (with_block (inside h before (in_choices choices)) block) (with_block (inside h before (in_choices (case choices block label))) nothing) (block_forms block) ((label.line, form.Case label.said label.is_default label.ranges) ∷ [])
      (blocks (inside h before (in_choices choices)) block (holds_inside h before (in_choices choices)) (stands_inside h before block (in_choices choices) r.1) (right_inside h before block (in_choices choices) r.2))
      (cases h before choices block label r.3 r.4))

-- a module holds no block
no_module : (scoping : Scoping) (block : Block) → HasPart scoping block → (is_a_module scoping ≡ false) ⊎ (nothing ≡ block)
no_module main_program block h = inl refl
no_module a_procedure block h = inl refl
no_module a_module nothing h = inr refl
no_module a_module _ h = absurd h

block_of : (us : List SourceUnit) (o : Owner) (uses : List (ℕ × UseStmt)) (ds : List Declaration) (block : Block) → IsBlock (is_a_procedure (owner_scoping o)) 0 block → (is_a_module (owner_scoping o) ≡ false) ⊎ (nothing ≡ block) → Onward (in_body us o (without_block uses ds)) (block_forms block) (in_body us o (record { uses = uses; declarations = ds; block = block }))
block_of us o uses ds block r (inl k) = blocks (by_body us o uses ds) block k tt r
block_of us o uses ds block r (inr p) = subst (λ t. Onward (in_body us o (without_block uses ds)) (block_forms t) (in_body us o (record { uses = uses; declarations = ds; block = t }))) p refl

-- one statement that leads there
leads_one : (s t u : State) (line : ℕ) (f : Form) (ss : List Stated) → May (nest_of s) line f → taken (nest_of s) line f ≡ nest_of t → Onward t ss u → Onward s ((line, f) ∷ ss) u
leads_one s t u line f ss may p l = (may, subst (λ n. Leads n ss (nest_of u)) (sym p) l)

all_uses : (us : List SourceUnit) (o : Owner) (before uses : List (ℕ × UseStmt)) → Onward (in_body us o (without_block before [])) (map use_form uses) (in_body us o (without_block (before ++ uses) []))
all_uses us o before [] = ap (λ t. nest_of (in_body us o (without_block t []))) (sym (append-nil before))
all_uses us o before (used ∷ uses) =
    leads_one (in_body us o (without_block before [])) (in_body us o (without_block (before ++ used ∷ []) [])) (in_body us o (without_block (before ++ used ∷ uses) [])) used.0 (form.Use used.1) (map use_form uses)
    (record { allowed = refl; named = refl; room = refl })
    (use_leads us o before used)
    (subst (λ t. Onward (in_body us o (without_block (before ++ used ∷ []) [])) (map use_form uses) (in_body us o (without_block t []))) (append_assoc before (used ∷ []) uses) (all_uses us o (before ++ used ∷ []) uses))

declares_here : (ds : List Declaration) → takes_declarations (stage_by nothing ds) ≡ true
declares_here [] = refl
declares_here (d ∷ ds) = refl

all_components : (us : List SourceUnit) (o : Owner) (uses : List (ℕ × UseStmt)) (ds : List Declaration) (line : ℕ) (name : Name) (access : ℕ) (before components : List (ℕ × Vars)) → Onward (in_type us o uses ds line name access before) (map component_form components) (in_type us o uses ds line name access (before ++ components))
all_components us o uses ds line name access before [] = ap (λ t. nest_of (in_type us o uses ds line name access t)) (sym (append-nil before))
all_components us o uses ds line name access before (c ∷ components) =
    leads_one (in_type us o uses ds line name access before) (in_type us o uses ds line name access (before ++ c ∷ [])) (in_type us o uses ds line name access (before ++ c ∷ components)) c.0 (form.Variables c.1) (map component_form components)
    (record { allowed = refl; named = refl; room = refl })
    (ap (λ all. nest.Definition (map unit_tree us) (scope_at o (without_block uses ds)) (definition.Type line name access all)) (sym (map_snoc vars_of before c)))
    (subst (λ t. Onward (in_type us o uses ds line name access (before ++ c ∷ [])) (map component_form components) (in_type us o uses ds line name access t)) (append_assoc before (c ∷ []) components) (all_components us o uses ds line name access (before ++ c ∷ []) components))

all_specifics : (us : List SourceUnit) (o : Owner) (uses : List (ℕ × UseStmt)) (ds : List Declaration) (line : ℕ) (name : Name) (before specifics : List (ℕ × List Name)) → Onward (in_interface us o uses ds line name before) (map specific_form specifics) (in_interface us o uses ds line name (before ++ specifics))
all_specifics us o uses ds line name before [] = ap (λ t. nest_of (in_interface us o uses ds line name t)) (sym (append-nil before))
all_specifics us o uses ds line name before (c ∷ specifics) =
    leads_one (in_interface us o uses ds line name before) (in_interface us o uses ds line name (before ++ c ∷ [])) (in_interface us o uses ds line name (before ++ c ∷ specifics)) c.0 (form.Specifics c.1) (map specific_form specifics)
    (record { allowed = refl; named = refl; room = refl })
    (ap (λ all. nest.Definition (map unit_tree us) (scope_at o (without_block uses ds)) (definition.Interface line name all)) (sym (names_snoc before c)))
    (subst (λ t. Onward (in_interface us o uses ds line name (before ++ c ∷ [])) (map specific_form specifics) (in_interface us o uses ds line name t)) (append_assoc before (c ∷ []) specifics) (all_specifics us o uses ds line name (before ++ c ∷ []) specifics))

some_left : {T : Type 0} (xs : List T) → HasSome xs → has_items xs ≡ true
some_left [] h = absurd h
some_left (x ∷ xs) h = refl

some_mapped : {S T : Type 0} (f : S → T) (xs : List S) → HasSome xs → has_items (map f xs) ≡ true
some_mapped f [] h = absurd h
some_mapped f (x ∷ xs) h = refl

not_procedure : (o : Owner) → is_a_procedure (owner_scoping o) ≡ false → not (is_procedure (owner_kind o)) ≡ true
not_procedure o h = ap not (procedure_kind o ∙ h)

declaration_of : (us : List SourceUnit) (o : Owner) (uses : List (ℕ × UseStmt)) (ds : List Declaration) (d : Declaration) → IsDeclaration (owner_scoping o) d → Onward (in_body us o (without_block uses ds)) (declaration_forms d) (in_body us o (without_block uses (ds ++ d ∷ [])))
declaration_of us o uses ds (implicit_none line) h = (record { allowed = declares_here ds; named = refl; room = refl }, declared_leads us o uses ds (implicit_none line))
declaration_of us o uses ds (variables line vars) h = (record { allowed = declares_here ds; named = refl; room = refl }, declared_leads us o uses ds (variables line vars))
declaration_of us o uses ds (accesses line is_private names) h =
    (record { allowed = and_true (is_module (owner_kind o)) (takes_declarations (stage_by nothing ds)) (module_kind o ∙ h) (declares_here ds); named = refl; room = refl }, declared_leads us o uses ds (accesses line is_private names))
declaration_of us o uses ds (derived_type line name access components last) h =
    joined (in_body us o (without_block uses ds)) (in_type us o uses ds line name access []) (in_body us o (without_block uses (ds ++ derived_type line name access components last ∷ []))) ((line, form.TypeDef name access) ∷ []) (map component_form components ++ last_form last ∷ [])
    (record { allowed = and_true (not (is_procedure (owner_kind o))) (takes_declarations (stage_by nothing ds)) (not_procedure o h.0) (declares_here ds); named = refl; room = refl }, refl)
    (joined (in_type us o uses ds line name access []) (in_type us o uses ds line name access components) (in_body us o (without_block uses (ds ++ derived_type line name access components last ∷ []))) (map component_form components) (last_form last ∷ [])
    (all_components us o uses ds line name access [] components)
    (record { allowed = ap (λ words. in_definition (definition.Type line name access (map vars_of components)) (form.End words last.name)) h.2.0 ∙ some_mapped vars_of components h.1; named = h.2.1; room = refl }, declared_leads us o uses ds (derived_type line name access components last)))
declaration_of us o uses ds (interface line name specifics last) h =
    joined (in_body us o (without_block uses ds)) (in_interface us o uses ds line name []) (in_body us o (without_block uses (ds ++ interface line name specifics last ∷ []))) ((line, form.Interface name) ∷ []) (map specific_form specifics ++ last_form last ∷ [])
    (record { allowed = and_true (not (is_procedure (owner_kind o))) (takes_declarations (stage_by nothing ds)) (not_procedure o h.0) (declares_here ds); named = refl; room = refl }, refl)
    (joined (in_interface us o uses ds line name []) (in_interface us o uses ds line name specifics) (in_body us o (without_block uses (ds ++ interface line name specifics last ∷ []))) (map specific_form specifics) (last_form last ∷ [])
    (all_specifics us o uses ds line name [] specifics)
    (record { allowed = ap (λ words. in_definition (definition.Interface line name (names_in specifics)) (form.End words last.name)) h.2.0 ∙ some_left (names_in specifics) h.1; named = h.2.1; room = refl }, declared_leads us o uses ds (interface line name specifics last)))

all_declarations : (us : List SourceUnit) (o : Owner) (uses : List (ℕ × UseStmt)) (before ds : List Declaration) → Each (IsDeclaration (owner_scoping o)) ds → Onward (in_body us o (without_block uses before)) (flat_map declaration_forms ds) (in_body us o (without_block uses (before ++ ds)))
all_declarations us o uses before [] h = ap (λ t. nest_of (in_body us o (without_block uses t))) (sym (append-nil before))
all_declarations us o uses before (d ∷ ds) h =
    joined (in_body us o (without_block uses before)) (in_body us o (without_block uses (before ++ d ∷ []))) (in_body us o (without_block uses (before ++ d ∷ ds))) (declaration_forms d) (flat_map declaration_forms ds)
    (declaration_of us o uses before d h.0)
    (subst (λ t. Onward (in_body us o (without_block uses (before ++ d ∷ []))) (flat_map declaration_forms ds) (in_body us o (without_block uses t))) (append_assoc before (d ∷ []) ds) (all_declarations us o uses (before ++ d ∷ []) ds h.1))

body_of : (us : List SourceUnit) (o : Owner) (body : Body) → IsBody (owner_scoping o) body → Onward (in_body us o (without_block [] [])) (body_forms body) (in_body us o body)
body_of us o body h =
    joined (in_body us o (without_block [] [])) (in_body us o (without_block body.uses [])) (in_body us o body) (map use_form body.uses) (flat_map declaration_forms body.declarations ++ block_forms body.block)
    (all_uses us o [] body.uses)
    (joined (in_body us o (without_block body.uses [])) (in_body us o (without_block body.uses body.declarations)) (in_body us o body) (flat_map declaration_forms body.declarations) (block_forms body.block)
    (all_declarations us o body.uses [] body.declarations h.0)
    (block_of us o body.uses body.declarations body.block h.2 (no_module (owner_scoping o) body.block h.1)))

closes_unit : (name : Name) (of_module : Bool) (procs : List Procedure) (words : End) → fits words (unit_words of_module) ≡ true → closes (kind.Unit name of_module procs) words ≡ true
closes_unit name false procs end.Bare h = refl
closes_unit name false procs end.Program h = refl
closes_unit name false procs _ h = absurd (untrue h)
closes_unit name true procs end.Bare h = refl
closes_unit name true procs end.Module h = refl
closes_unit name true procs _ h = absurd (untrue h)

closes_subroutine : (p : Bool) → fits end.Subroutine (if p then end.Function else end.Subroutine) ≡ true → not p ≡ true
closes_subroutine true h = h
closes_subroutine false h = refl

closes_function : (p : Bool) → fits end.Function (if p then end.Function else end.Subroutine) ≡ true → p ≡ true
closes_function true h = refl
closes_function false h = h

-- no other words fit a procedure
closes_neither : (words : End) (p : Bool) → fits words end.Function ≡ false → fits words end.Subroutine ≡ false → fits words (if p then end.Function else end.Subroutine) ≡ true → ⊥
closes_neither words true f s h = untrue (sym f ∙ h)
closes_neither words false f s h = untrue (sym s ∙ h)

closes_procedure : (header : Header) (host : Host) (words : End) → fits words (procedure_words header) ≡ true → closes (kind.Procedure header host) words ≡ true
closes_procedure header host end.Bare h = refl
closes_procedure header host end.Subroutine h = closes_subroutine (header.is_function == 1) h
closes_procedure header host end.Function h = closes_function (header.is_function == 1) h
closes_procedure header host end.Program h = absurd (closes_neither end.Program (header.is_function == 1) refl refl h)
closes_procedure header host end.Module h = absurd (closes_neither end.Module (header.is_function == 1) refl refl h)
closes_procedure header host end.Type h = absurd (closes_neither end.Type (header.is_function == 1) refl refl h)
closes_procedure header host end.Interface h = absurd (closes_neither end.Interface (header.is_function == 1) refl refl h)
closes_procedure header host end.If h = absurd (closes_neither end.If (header.is_function == 1) refl refl h)
closes_procedure header host end.Do h = absurd (closes_neither end.Do (header.is_function == 1) refl refl h)
closes_procedure header host end.Select h = absurd (closes_neither end.Select (header.is_function == 1) refl refl h)

subprogram : (us : List SourceUnit) (u : Opened) (internal : Internal) (p : Subprogram) → IsSubprogram p → Onward (behind_contains us u internal) (subprogram_forms p) (behind_contains us u (record { line = internal.line; procedures = internal.procedures ++ p ∷ [] }))
subprogram us u internal p h =
    let o = of_procedure u internal p.line p.header in
    let target : State = (behind_contains us u (record { line = internal.line; procedures = internal.procedures ++ p ∷ [] })) in
    joined (behind_contains us u internal) (in_body us o (without_block [] [])) target ((p.line, header_form p.header) ∷ []) (body_forms p.body ++ last_form p.last ∷ [])
    (record { allowed = refl; named = refl; room = refl }, refl)
    (joined (in_body us o (without_block [] [])) (in_body us o p.body) target (body_forms p.body) (last_form p.last ∷ [])
    (body_of us o p.body h.0)
    (record { allowed = closes_procedure p.header (host_with u internal) p.last.words h.1.0; named = h.1.1; room = refl }, procedure_leads us u internal p))

all_subprograms : (us : List SourceUnit) (u : Opened) (line : ℕ) (before ps : List Subprogram) → Each IsSubprogram ps → Onward (behind_contains us u (record { line = line; procedures = before })) (flat_map subprogram_forms ps) (behind_contains us u (record { line = line; procedures = before ++ ps }))
all_subprograms us u line before [] h = ap (λ t. nest_of (behind_contains us u (record { line = line; procedures = t }))) (sym (append-nil before))
all_subprograms us u line before (p ∷ ps) h =
    joined (behind_contains us u (record { line = line; procedures = before })) (behind_contains us u (record { line = line; procedures = before ++ p ∷ [] })) (behind_contains us u (record { line = line; procedures = before ++ p ∷ ps })) (subprogram_forms p) (flat_map subprogram_forms ps)
    (subprogram us u (record { line = line; procedures = before }) p h.0)
    (subst (λ t. Onward (behind_contains us u (record { line = line; procedures = before ++ p ∷ [] })) (flat_map subprogram_forms ps) (behind_contains us u (record { line = line; procedures = t }))) (append_assoc before (p ∷ []) ps) (all_subprograms us u line (before ++ p ∷ []) ps h.1))

contains_here : (line : ℕ) (name : Name) (of_module : Bool) (body : Body) → in_scope (scope_at (of_unit line name of_module) body) form.Contains ≡ true
contains_here line name of_module body = takes_here body.block body.declarations

begins : (us : List SourceUnit) (line : ℕ) (name : Name) (of_module : Bool) → Onward (outside us) ((line, unit_form of_module name) ∷ []) (in_body us (of_unit line name of_module) (without_block [] []))
begins us line name false = (record { allowed = refl; named = refl; room = refl }, refl)
begins us line name true = (record { allowed = refl; named = refl; room = refl }, refl)

unit_leads : (us : List SourceUnit) (u : SourceUnit) → nest.Outside (map unit_tree us ++ unit_tree u ∷ []) ≡ nest_of (outside (us ++ u ∷ []))
unit_leads us u = ap (λ units. nest.Outside units) (sym (map_snoc unit_tree us u))

-- the procedures of a unit, and its end
rest_of_unit : (us : List SourceUnit) (line : ℕ) (name : Name) (of_module : Bool) (body : Body) (internal : Option Internal) (last : Last) → AreInternal internal → Closes last (unit_words of_module) name → Onward (in_body us (of_unit line name of_module) body) (internal_forms internal ++ last_form last ∷ []) (outside (us ++ record { line = line; name = name; is_module = of_module; body = body; internal = internal; last = last } ∷ []))
rest_of_unit us line name of_module body None last h c =
    (record { allowed = closes_unit name of_module [] last.words c.0; named = c.1; room = refl }, unit_leads us (record { line = line; name = name; is_module = of_module; body = body; internal = None; last = last }))
rest_of_unit us line name of_module body (Some internal) last h c =
    let u : Opened = record { line = line; name = name; is_module = of_module; body = body } in
    let whole_unit : SourceUnit = record { line = line; name = name; is_module = of_module; body = body; internal = Some internal; last = last } in
    joined (in_body us (of_unit line name of_module) body) (behind_contains us u (record { line = internal.line; procedures = [] })) (outside (us ++ whole_unit ∷ [])) ((internal.line, form.Contains) ∷ []) (flat_map subprogram_forms internal.procedures ++ last_form last ∷ [])
    (record { allowed = contains_here line name of_module body; named = refl; room = refl }, refl)
    (joined (behind_contains us u (record { line = internal.line; procedures = [] })) (behind_contains us u internal) (outside (us ++ whole_unit ∷ [])) (flat_map subprogram_forms internal.procedures) (last_form last ∷ [])
    (all_subprograms us u internal.line [] internal.procedures h)
    (record { allowed = closes_unit name of_module (map subprogram_tree internal.procedures) last.words c.0; named = c.1; room = refl }, unit_leads us whole_unit))

unit_of_file : (us : List SourceUnit) (u : SourceUnit) → IsUnit u → Onward (outside us) (unit_forms u) (outside (us ++ u ∷ []))
unit_of_file us u h =
    let o = of_unit u.line u.name u.is_module in
    joined (outside us) (in_body us o (without_block [] [])) (outside (us ++ u ∷ [])) ((u.line, unit_form u.is_module u.name) ∷ []) (body_forms u.body ++ (internal_forms u.internal ++ last_form u.last ∷ []))
    (begins us u.line u.name u.is_module)
    (joined (in_body us o (without_block [] [])) (in_body us o u.body) (outside (us ++ u ∷ [])) (body_forms u.body) (internal_forms u.internal ++ last_form u.last ∷ [])
    (body_of us o u.body h.0)
    (rest_of_unit us u.line u.name u.is_module u.body u.internal u.last h.1 h.2))

-- the units of a file
pub all_units : (before us : List SourceUnit) → Each IsUnit us → Onward (outside before) (flat_map unit_forms us) (outside (before ++ us))
all_units before [] h = ap (λ t. nest_of (outside t)) (sym (append-nil before))
all_units before (u ∷ us) h =
    joined (outside before) (outside (before ++ u ∷ [])) (outside (before ++ u ∷ us)) (unit_forms u) (flat_map unit_forms us)
    (unit_of_file before u h.0)
    (subst (λ t. Onward (outside (before ++ u ∷ [])) (flat_map unit_forms us) (outside t)) (append_assoc before (u ∷ []) us) (all_units (before ++ u ∷ []) us h.1))
