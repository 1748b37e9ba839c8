-- Expressions of a source are built.
use Rattle.std.proofs.Common.{◌≡◌, ℕ, pos, Bool, true, false, is_some, cond, List, [], ◌∷◌, ◌++◌, map, Option, Some, None, option_map, Ok, Err, refl, sym, ap, subst, ◌∙◌}
use Rattle.std.specs.Prelude.{Result}
use Rattle.std.proofs.lemmas.List.{append-nil, append_assoc, map-append}
use Rattle.lf_base.specs.Operators.{operator_of}
use Rattle.lf_base.specs.declared.fault.Memory.{Memory}
use Rattle.lf_base.specs.declared.name.Name.{Name}
use Rattle.lf_base.specs.declared.rule.Rule.TheVariants.{E202, E304, E404, E405}
use Rattle.ast_nodes.specs.declared.expression.Designator.{Designator}
use Rattle.ast_nodes.specs.declared.expression.Expr.{Expr}
use Rattle.ast_nodes.specs.declared.expression.Expr.TheVariants as source
use Rattle.ast_nodes.specs.declared.expression.RefPart.{RefPart, Part, Group}
use Rattle.asr_nodes.specs.Keys.{Key}
use Rattle.asr_nodes.specs.Nodes.{Nodes, Extends, there}
use Rattle.fortran_semantics.specs.Constants.{intrinsic_named, is_int, is_huge}
use Rattle.fortran_semantics.specs.Constants as parts
use Rattle.ast_to_asr.specs.declared.build.Built.{Built}
use Rattle.ast_to_asr.specs.declared.names.Known.{Known}
use Rattle.ast_to_asr.specs.Expressions.{Elaborated, Elab, binary_of, binary_tree, unary_of, unary_tree, paren_tree, in_parentheses, literal_tree, function_tree, function_of, int_tree, int_to, huge_tree, huge_of, integer_argument, written_kind, elab_expr, call_tree}
use Rattle.ast_to_asr.specs.Judged.{also, all, lesser, map_right}
use Rattle.ast_to_asr.specs.Known.{Entries, known_in, scope_of, entity_known}
use Rattle.ast_to_asr.specs.Scope.{entity_of}
use Rattle.ast_to_asr.specs.Leaves.{logical_literal}
use Rattle.ast_to_asr.specs.Making.{Makes}
use Rattle.ast_to_asr.specs.Building.{IsRight, IsWrong, IsBuilt, IsDeclared, Are, AnyWrong, BuildsOf, BuildsOfTwo, BuildsOfAll, by_name, key_of, keys_of}
use Rattle.ast_to_asr.specs.Sources.{expr_in, designator_in, part_in, parts_in, call_in, BuiltSoFar}
use Rattle.ast_to_asr.proofs.Builds.{is_kept}
use Rattle.ast_to_asr.proofs.Calling.{any_wrong, function_wrong, front_wrong, both_wrong}
use Rattle.ast_to_asr.proofs.Entries.{entity_found}
use Rattle.ast_to_asr.proofs.Makings.{there_parts, makes_none, makes_last}
use Rattle.ast_to_asr.proofs.Nodes as nodes

-- names of variables keep their paths where symbols stay
pub declared_still : (old new : Nodes) (keys : List Key) (unit : List ℕ) (names : Entries) → Makes old new keys → IsDeclared old.scopes unit names → IsDeclared new.scopes unit names
declared_still old new keys unit names m d = subst (λ s. IsDeclared s unit names) (sym m.scopes) d

right_kept : (a b : Nodes) (i : Built) (e : Elab) → Extends a b → b.scopes ≡ a.scopes → there a (key_of i ∷ []) ≡ true → IsRight a i e → IsRight b i e
right_kept a b i e x s t h = record { elaborated = h.elaborated; right = h.right; is = is_kept a b i h.elaborated x s t h.is }

are_kept : (a b : Nodes) (bs : List Built) (es : List Elab) → Extends a b → b.scopes ≡ a.scopes → there a (keys_of bs) ≡ true → Are a bs es → Are b bs es
are_kept a b [] [] x s t h = tt
are_kept a b [] (e ∷ es) x s t h = h
are_kept a b (i ∷ bs) [] x s t h = h
are_kept a b (i ∷ bs) (e ∷ es) x s t h =
    let p = there_parts a (key_of i ∷ []) (keys_of bs) t in
    (right_kept a b i e x s p.0 h.0, are_kept a b bs es x s p.1 h.1)

are_more : (a : Nodes) (bs : List Built) (es : List Elab) (i : Built) (e : Elab) → Are a bs es → IsRight a i e → Are a (bs ++ i ∷ []) (es ++ e ∷ [])
are_more a [] [] i e h r = (r, tt)
are_more a [] (d ∷ es) i e h r = absurd h
are_more a (j ∷ bs) [] i e h r = absurd h
are_more a (j ∷ bs) (d ∷ es) i e h r = (h.0, are_more a bs es i e h.1 r)

pub far_none : (a : Nodes) (all : List Elab) → BuiltSoFar a a [] all all
far_none a all = record { done = []; are = tt; whole = refl; makes = makes_none a }

pub far_next : (start now new : Nodes) (bs : List Built) (e : Elab) (left all : List Elab) (i : Built) → BuiltSoFar start now bs (e ∷ left) all → IsRight new i e × Makes now new (key_of i ∷ []) → BuiltSoFar start new (bs ++ i ∷ []) left all
far_next start now new bs e left all i p q = record {
  done = p.done ++ e ∷ [];
  are = are_more new bs p.done i e (are_kept now new bs p.done q.1.grows q.1.scopes p.makes.stand p.are) q.0;
  whole = append_assoc p.done (e ∷ []) left ∙ p.whole;
  makes = subst (λ keys. Makes start new keys) (sym (map-append key_of bs (i ∷ []))) (makes_last start now new (keys_of bs) (key_of i) p.makes q.1);
}

pub far_wrong : (start now : Nodes) (bs : List Built) (e : Elab) (left all : List Elab) → BuiltSoFar start now bs (e ∷ left) all → IsWrong e → AnyWrong all
far_wrong start now bs e left all p h = record { before = p.done; one = e; behind = left; among = sym p.whole; wrong = h }

pub far_end : (start now : Nodes) (bs : List Built) (left all : List Elab) → left ≡ [] → BuiltSoFar start now bs left all → Are now bs all × Makes start now (keys_of bs)
far_end start now bs left all e p = (subst (λ es. Are now bs es) (sym (append-nil p.done) ∙ (ap (λ l. p.done ++ l) (sym e) ∙ p.whole)) p.are, p.makes)

-- A reference with an argument that breaks a rule breaks one.
int_wrong_by : (before : List Elab) (e : Elab) (behind : List Elab) → IsWrong e → IsWrong (int_tree (before ++ e ∷ behind))
int_wrong_by [] e [] h = record { rule = h.rule; wrong = ap (λ x. map_right (int_to 4) (integer_argument x)) h.wrong }
int_wrong_by [] e (d ∷ []) h = let r = front_wrong (λ p. int_to p.1 p.0) (integer_argument e) (written_kind d) h.rule (ap integer_argument h.wrong) in record { rule = r.0; wrong = r.1 }
int_wrong_by [] e (d ∷ c ∷ es) h = record { rule = also E405 (all (e ∷ d ∷ c ∷ es)); wrong = refl }
int_wrong_by (x ∷ []) e [] h = let r = both_wrong (λ p. int_to p.1 p.0) (integer_argument x) (written_kind e) h.rule (ap written_kind h.wrong) in record { rule = r.0; wrong = r.1 }
int_wrong_by (x ∷ []) e (d ∷ es) h = record { rule = also E405 (all (x ∷ e ∷ d ∷ es)); wrong = refl }
int_wrong_by (x ∷ y ∷ []) e behind h = record { rule = also E405 (all (x ∷ y ∷ e ∷ behind)); wrong = refl }
int_wrong_by (x ∷ y ∷ z ∷ before) e behind h = record { rule = also E405 (all (x ∷ y ∷ z ∷ (before ++ e ∷ behind))); wrong = refl }

huge_wrong_by : (before : List Elab) (e : Elab) (behind : List Elab) → IsWrong e → IsWrong (huge_tree (before ++ e ∷ behind))
huge_wrong_by [] e [] h = record { rule = h.rule; wrong = ap (λ x. map_right huge_of (integer_argument x)) h.wrong }
huge_wrong_by [] e (d ∷ es) h = record { rule = also E405 (all (e ∷ d ∷ es)); wrong = refl }
huge_wrong_by (x ∷ []) e behind h = record { rule = also E405 (all (x ∷ e ∷ behind)); wrong = refl }
huge_wrong_by (x ∷ y ∷ before) e behind h = record { rule = also E405 (all (x ∷ y ∷ (before ++ e ∷ behind))); wrong = refl }

-- a reference by the code of its name, or by its name
with_tests : List Elab → Option ℕ → Bool → Bool → Elab
with_tests es (Some code) s t = function_of code es
with_tests es None s t = cond s (int_tree es) (cond t (huge_tree es) (Err (also E304 (all es))))

tests_are : (name : List ℕ) (es : List Elab) (code : Option ℕ) → function_tree name es code ≡ with_tests es code (is_int name) (is_huge name)
unfolding with_tests
tests_are name es (Some code) = refl
tests_are name es None = refl

tests_wrong : (es : List Elab) (code : Option ℕ) (s t : Bool) → AnyWrong es → IsWrong (with_tests es code s t)
unfolding with_tests
tests_wrong es (Some code) s t w = let r = any_wrong es w in function_wrong code es r.0 r.1
tests_wrong es None true t w = subst (λ zs. IsWrong (int_tree zs)) (sym w.among) (int_wrong_by w.before w.one w.behind w.wrong)
tests_wrong es None false true w = subst (λ zs. IsWrong (huge_tree zs)) (sym w.among) (huge_wrong_by w.before w.one w.behind w.wrong)
tests_wrong es None false false w = record { rule = also E304 (all es); wrong = refl }

pub named_wrong : (name : List ℕ) (es : List Elab) → AnyWrong es → IsWrong (by_name name es)
named_wrong name es w = subst IsWrong (sym (tests_are name es (intrinsic_named name))) (tests_wrong es (intrinsic_named name) (is_int name) (is_huge name) w)

-- A name with arguments behind it.
module _ (unit : List ℕ) (names : Entries) (name : List ℕ) (es : List Elab) where
  call_is : (k : Option Known) → known_in names name ≡ k → call_in unit names name es ≡ call_tree unit (scope_of names) name es (option_map entity_known k)
  call_is k e = ap (call_tree unit (scope_of names) name es) (sym (entity_found names name) ∙ ap (option_map entity_known) e)

  declared_wrong : (k : Option Known) → is_some k ≡ true → known_in names name ≡ k → IsWrong (call_in unit names name es)
  declared_wrong (Some k) t e = record { rule = also E404 (all es); wrong = call_is (Some k) e }
  declared_wrong None t e = absurd (let q : false ≡ true = t in cc)

  pub call_declared : (a : Nodes) → is_some (known_in names name) ≡ true → IsBuilt a a (call_in unit names name es) (Ok None)
  call_declared a t = declared_wrong (known_in names name) t refl

  none_of : (k : Option Known) → is_some k ≡ false → k ≡ None
  none_of None t = refl
  none_of (Some k) t = absurd (let q : true ≡ false = t in cc)

  new_is : is_some (known_in names name) ≡ false → call_in unit names name es ≡ by_name name es
  new_is t = call_is None (none_of (known_in names name) t)

  pub call_wrong : (a b : Nodes) → is_some (known_in names name) ≡ false → AnyWrong es → IsBuilt a b (call_in unit names name es) (Ok None)
  call_wrong a b t w = subst IsWrong (sym (new_is t)) (named_wrong name es w)

  pub call_built : (a b c : Nodes) (bs : List Built) (r : Result (Option Built) Memory) → is_some (known_in names name) ≡ false → Are b bs es × Makes a b (keys_of bs) → BuildsOfAll b c bs (by_name name) r → IsBuilt a c (call_in unit names name es) r
  call_built a b c bs r t p q = subst (λ x. IsBuilt a c x r) (sym (new_is t)) (q.by a es p.0 p.1)

-- Parts of designators.
module _ (unit : List ℕ) (names : Entries) where
  pub part_is : (name : Name) → part_in unit names (Part name) ≡ parts.Named name
  part_is name = nodes.part-Part unit (scope_of names) name

  pub group_is : (arguments : List Expr) → part_in unit names (Group arguments) ≡ parts.Grouped (map (expr_in unit names) arguments)
  group_is arguments = nodes.part-Group unit (scope_of names) arguments

  pub designator_is : (it : Designator) → designator_in unit names it ≡ parts_in unit names (map (part_in unit names) it.parts)
  designator_is it = nodes.designator-parts unit (scope_of names) it

  module _ (a b : Nodes) (r : Result (Option Built) Memory) where
    pub two_names : (name : List ℕ) (other : Name) → IsBuilt a a (parts_in unit names (parts.Named name ∷ part_in unit names (Part other) ∷ [])) (Ok None)
    two_names name other = record { rule = E202; wrong = ap (λ p. parts_in unit names (parts.Named name ∷ p ∷ [])) (part_is other) }

    pub grouped : (name : List ℕ) (arguments : List Expr) → IsBuilt a b (call_in unit names name (map (expr_in unit names) arguments)) r
        → IsBuilt a b (parts_in unit names (parts.Named name ∷ part_in unit names (Group arguments) ∷ [])) r
    grouped name arguments h = subst (λ p. IsBuilt a b (parts_in unit names (parts.Named name ∷ p ∷ [])) r) (sym (group_is arguments)) h

    pub group_alone : (arguments : List Expr) → IsBuilt a a (parts_in unit names (part_in unit names (Group arguments) ∷ [])) (Ok None)
    group_alone arguments = record { rule = E202; wrong = ap (λ p. parts_in unit names (p ∷ [])) (group_is arguments) }

    pub group_first : (arguments : List Expr) (part : RefPart) → IsBuilt a a (parts_in unit names (part_in unit names (Group arguments) ∷ part_in unit names part ∷ [])) (Ok None)
    group_first arguments part = record { rule = E202; wrong = ap (λ p. parts_in unit names (p ∷ part_in unit names part ∷ [])) (group_is arguments) }

    pub name_alone : (name : Name) → IsBuilt a b (Rattle.ast_to_asr.specs.Expressions.name_tree unit (scope_of names) name (entity_of (scope_of names) name)) r → IsBuilt a b (parts_in unit names (part_in unit names (Part name) ∷ [])) r
    name_alone name h = subst (λ p. IsBuilt a b (parts_in unit names (p ∷ [])) r) (sym (part_is name)) h

    pub name_first : (name : Name) (part : RefPart) → IsBuilt a b (parts_in unit names (parts.Named name ∷ part_in unit names part ∷ [])) r → IsBuilt a b (parts_in unit names (part_in unit names (Part name) ∷ part_in unit names part ∷ [])) r
    name_first name part h = subst (λ p. IsBuilt a b (parts_in unit names (p ∷ part_in unit names part ∷ [])) r) (sym (part_is name)) h

pub ruleset parts_built = (two_names, grouped, group_alone, group_first, name_alone, name_first)

pub ruleset calls_built = (call_declared, call_wrong, call_built, declared_still)

pub ruleset several = (far_none, far_next, far_wrong, far_end, declared_still)

-- Operations on parts of the source.
module _ (a b c : Nodes) (code : ℕ) (e : Elab) (i : Built) (r : Result (Option Built) Memory) where
  pub unary_built : IsRight b i e × Makes a b (key_of i ∷ []) → BuildsOf b c i (unary_of code (operator_of code)) r → IsBuilt a c (unary_tree code (operator_of code) e) r
  unary_built p q = subst (λ x. IsBuilt a c (unary_tree code (operator_of code) x) r) (sym p.0.right) (q.by a p.0.elaborated p.0.is p.1)

  pub paren_built : IsRight b i e × Makes a b (key_of i ∷ []) → BuildsOf b c i (λ x. Ok (in_parentheses x)) r → IsBuilt a c (paren_tree e) r
  paren_built p q = subst (λ x. IsBuilt a c (paren_tree x) r) (sym p.0.right) (q.by a p.0.elaborated p.0.is p.1)

pub unary_wrong : (a b : Nodes) (code : ℕ) (e : Elab) → IsWrong e → IsBuilt a b (unary_tree code (operator_of code) e) (Ok None)
unary_wrong a b code e h = record { rule = h.rule; wrong = ap (unary_tree code (operator_of code)) h.wrong }

pub paren_wrong : (a b : Nodes) (e : Elab) → IsWrong e → IsBuilt a b (paren_tree e) (Ok None)
paren_wrong a b e h = record { rule = h.rule; wrong = ap paren_tree h.wrong }

pub left_wrong : (a b : Nodes) (code : ℕ) (e f : Elab) → IsWrong e → IsBuilt a b (binary_tree code (operator_of code) e f) (Ok None)
left_wrong a b code e f h = by f refl
  where
    by : (g : Elab) → f ≡ g → IsWrong (binary_tree code (operator_of code) e f)
    by (Ok y) q = record { rule = h.rule; wrong = ap (λ x. binary_tree code (operator_of code) x f) h.wrong ∙ ap (binary_tree code (operator_of code) (Err h.rule)) q }
    by (Err other) q = record { rule = lesser h.rule other; wrong = ap (λ x. binary_tree code (operator_of code) x f) h.wrong ∙ ap (binary_tree code (operator_of code) (Err h.rule)) q }

pub right_wrong : (a b : Nodes) (code : ℕ) (e f : Elab) (i : Built) → IsRight b i e × Makes a b (key_of i ∷ []) → (c : Nodes) → IsWrong f → IsBuilt a c (binary_tree code (operator_of code) e f) (Ok None)
right_wrong a b code e f i p c h = record { rule = h.rule; wrong = ap (λ x. binary_tree code (operator_of code) x f) p.0.right ∙ ap (binary_tree code (operator_of code) (Ok p.0.elaborated)) h.wrong }

pub operands_there : (a b c : Nodes) (e f : Elab) (i j : Built) → IsRight b i e × Makes a b (key_of i ∷ []) → IsRight c j f × Makes b c (key_of j ∷ []) → there c (key_of i ∷ key_of j ∷ []) ≡ true
operands_there a b c e f i j p q = (makes_last a b c (key_of i ∷ []) (key_of j) p.1 q.1).stand

pub binary_built : (a b c d : Nodes) (code : ℕ) (e f : Elab) (i j : Built) (r : Result (Option Built) Memory) → IsRight b i e × Makes a b (key_of i ∷ []) → IsRight c j f × Makes b c (key_of j ∷ [])
    → BuildsOfTwo c d i j (binary_of code (operator_of code)) r → IsBuilt a d (binary_tree code (operator_of code) e f) r
binary_built a b c d code e f i j r p q h =
    subst (λ x. IsBuilt a d (binary_tree code (operator_of code) x f) r) (sym p.0.right)
    (subst (λ y. IsBuilt a d (binary_tree code (operator_of code) (Ok p.0.elaborated) y) r) (sym q.0.right)
    (h.by a p.0.elaborated q.0.elaborated (is_kept b c i p.0.elaborated q.1.grows q.1.scopes p.1.stand p.0.is) q.0.is (makes_last a b c (key_of i ∷ []) (key_of j) p.1 q.1)))

pub ruleset operations = (unary_built, paren_built, unary_wrong, paren_wrong, left_wrong, right_wrong, operands_there, binary_built, declared_still)

-- An expression by its parts.
module _ (a b : Nodes) (unit : List ℕ) (names : Entries) (r : Result (Option Built) Memory) where
  by_layer : (e f : Elab) → e ≡ f → IsBuilt a b f r → IsBuilt a b e r
  by_layer e f h = subst (λ x. IsBuilt a b x r) (sym h)

  pub int_layer : (digits : List ℕ) (suffix : ℕ) → IsBuilt a b (literal_tree (parts.literal_kind suffix) (pos (parts.number_of digits)) (parts.kind_written digits suffix)) r → IsBuilt a b (expr_in unit names (source.Int digits suffix)) r
  int_layer digits suffix = by_layer _ _ (nodes.expr-Int unit (scope_of names) digits suffix)

  pub log_layer : (v : ℕ) → IsBuilt a b (Ok (logical_literal v)) r → IsBuilt a b (expr_in unit names (source.Log v)) r
  log_layer v = by_layer _ _ (nodes.expr-Log unit (scope_of names) v)

  pub ref_layer : (it : Designator) → IsBuilt a b (designator_in unit names it) r → IsBuilt a b (expr_in unit names (source.Ref it)) r
  ref_layer it h = by_layer _ _ (nodes.expr-Ref unit (scope_of names) it) (by_layer _ _ (sym (nodes.designator-parts unit (scope_of names) it)) h)

  pub unary_layer : (code : ℕ) (x : Expr) → IsBuilt a b (unary_tree code (operator_of code) (expr_in unit names x)) r → IsBuilt a b (expr_in unit names (source.Unary code x)) r
  unary_layer code x = by_layer _ _ (nodes.expr-Unary unit (scope_of names) code x)

  pub binary_layer : (code : ℕ) (x y : Expr) → IsBuilt a b (binary_tree code (operator_of code) (expr_in unit names x) (expr_in unit names y)) r → IsBuilt a b (expr_in unit names (source.Binary code x y)) r
  binary_layer code x y = by_layer _ _ (nodes.expr-Binary unit (scope_of names) code x y)

  pub paren_layer : (x : Expr) → IsBuilt a b (paren_tree (expr_in unit names x)) r → IsBuilt a b (expr_in unit names (source.Paren x)) r
  paren_layer x = by_layer _ _ (nodes.expr-Paren unit (scope_of names) x)

pub ruleset layers = (int_layer, log_layer, ref_layer, unary_layer, binary_layer, paren_layer)

-- A designator by how many parts it has.
module _ (a b : Nodes) (unit : List ℕ) (names : Entries) (it : Designator) (r : Result (Option Built) Memory) where
  by_parts : (ps : List RefPart) → it.parts ≡ ps → IsBuilt a b (parts_in unit names (map (part_in unit names) ps)) r → IsBuilt a b (designator_in unit names it) r
  by_parts ps e h =
      subst (λ x. IsBuilt a b x r) (sym (designator_is unit names it))
      (subst (λ qs. IsBuilt a b (parts_in unit names (map (part_in unit names) qs)) r) (sym e) h)

  pub of_one : (p : RefPart) → p ∷ [] ≡ it.parts → IsBuilt a b (parts_in unit names (part_in unit names p ∷ [])) r → IsBuilt a b (designator_in unit names it) r
  of_one p e = by_parts (p ∷ []) (sym e)

  pub of_two : (p q : RefPart) → p ∷ q ∷ [] ≡ it.parts → IsBuilt a b (parts_in unit names (part_in unit names p ∷ part_in unit names q ∷ [])) r → IsBuilt a b (designator_in unit names it) r
  of_two p q e = by_parts (p ∷ q ∷ []) (sym e)

pub ruleset designators = (of_one, of_two)
