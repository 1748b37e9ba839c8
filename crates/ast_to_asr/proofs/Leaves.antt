-- Expressions without parts are built.
use Rattle.std.proofs.Common.{◌≡◌, ℕ, ℤ, pos, int_le, ◌≤◌, ◌^◌, ◌==◌, ◌&&◌, cond, Bool, arith, true, false, List, [], ◌∷◌, ◌++◌, Option, Some, None, option_map, Ok, Err, refl, sym, ap, subst, ◌∙◌}
use Rattle.std.specs.Prelude.{Result}
use Rattle.lf_base.specs.declared.fault.Memory.{Memory}
use Rattle.lf_base.specs.declared.id.SymId.{SymId}
use Rattle.lf_base.specs.declared.rule.Rule.TheVariants.{E304, E403, E414}
use Rattle.std.proofs.lemmas.Bool.Decides.{nat_tests}
use Rattle.type_rules.specs.Values.{greatest, is_in_kind, is_kind}
use Rattle.ast_to_asr.specs.Numbers.{in_64_bits}
use Rattle.ast_to_asr.proofs.Numbers.{in_greatest}
use Rattle.symtab_arena.specs.Paths.{path_of}
use Rattle.asr_nodes.specs.Nodes.{Nodes, reads}
use Rattle.asr_nodes.specs.Parts.{expr_parts}
use Rattle.asr_nodes.specs.declared.node.Expr.{Expr}
use Rattle.asr_nodes.specs.declared.node.Expr.TheVariants.{IntConst, LogConst, Var}
use Rattle.asr_nodes.specs.declared.tree.ExprTree.TheVariants as tree
use Rattle.ast_to_asr.specs.declared.build.Built.{Built}
use Rattle.ast_to_asr.specs.declared.names.Constant.{Constant}
use Rattle.ast_to_asr.specs.declared.names.Known.{Known}
use Rattle.ast_to_asr.specs.declared.names.Known.TheVariants as known
use Rattle.ast_to_asr.specs.declared.names.ScalarType.{ScalarType}
use Rattle.ast_to_asr.specs.declared.names.ScalarType.TheVariants.{Integer, Logical}
use Rattle.ast_to_asr.specs.Expressions.{Elab, name_tree, variable_tree, is_intrinsic, literal_tree}
use Rattle.ast_to_asr.specs.Known.{Entries, type_of, known_in, scope_of, entity_known}
use Rattle.ast_to_asr.specs.Scope.{entity_of}
use Rattle.ast_to_asr.specs.Making.{Makes}
use Rattle.ast_to_asr.specs.Building.{Adds, IsWrong, IsBuilt, IsDeclared, key_of}
use Rattle.ast_to_asr.specs.Leaves.{integer_literal, logical_literal, named_constant, IsConstantNode, in_the_kind}
use Rattle.ast_to_asr.proofs.Builds.{adds_makes}
use Rattle.ast_to_asr.proofs.Entries.{entity_found}
use Rattle.ast_to_asr.proofs.Makings.{makes_none}

pub leaf : (a b : Nodes) (node : Expr) (ty : ScalarType) (i : Built) → expr_parts node ≡ [] → Adds a b node ty i → Makes a b (key_of i ∷ [])
leaf a b node ty i parts h = adds_makes a a b node ty i [] (subst (λ keys. Makes a a (keys ++ [])) (sym parts) (makes_none a)) h

pub integer_built : (a b : Nodes) (kind : ℕ) (z : ℤ) (writes : Option ℕ) (i : Built) → Adds a b (IntConst kind z) (Integer kind) i → IsBuilt a b (Ok (integer_literal kind z writes)) (Ok (Some (record { id = i.id; ty = i.ty; writes = writes })))
integer_built a b kind z writes i h =
    (record { elaborated = integer_literal kind z writes; right = refl; is = record { tree = h.tree; ty = ap type_of h.type_is; writes = refl } }, leaf a b (IntConst kind z) (Integer kind) i refl h)

pub logical_built : (a b : Nodes) (code : ℕ) (i : Built) → Adds a b (LogConst code) Logical i → IsBuilt a b (Ok (logical_literal code)) (Ok (Some i))
logical_built a b code i h =
    (record { elaborated = logical_literal code; right = refl; is = record { tree = h.tree; ty = ap type_of h.type_is; writes = h.writes } }, leaf a b (LogConst code) Logical i refl h)

pub constant_built : (a b : Nodes) (node : Expr) (ty : ScalarType) (v : Option Constant) (i : Built) → IsConstantNode ty v node → Adds a b node ty i → IsBuilt a b (Ok (named_constant ty v)) (Ok (Some i))
constant_built a b node ty v i n h = (
  record { elaborated = named_constant ty v; right = refl; is = record { tree = h.tree ∙ n.tree (reads a (path_of a.scopes)); ty = ap type_of h.type_is; writes = h.writes } },
  leaf a b node ty i n.parts h,
)

-- a name by what it is known for
name_is : (unit : List ℕ) (names : Entries) (name : List ℕ) (k : Option Known) → known_in names name ≡ k → name_tree unit (scope_of names) name (entity_of (scope_of names) name) ≡ name_tree unit (scope_of names) name (option_map entity_known k)
name_is unit names name k e = ap (name_tree unit (scope_of names) name) (sym (entity_found names name) ∙ ap (option_map entity_known) e)

pub built_as : (a b : Nodes) (e f : Elab) (r : Result (Option Built) Memory) → e ≡ f → IsBuilt a b f r → IsBuilt a b e r
built_as a b e f r h = subst (λ x. IsBuilt a b x r) (sym h)

pub variable_built : (a b : Nodes) (unit : List ℕ) (names : Entries) (name : List ℕ) (symbol : SymId) (ty : ScalarType) (i : Built) → IsDeclared a.scopes unit names → known_in names name ≡ Some (known.Variable symbol ty)
    → Adds a b (Var symbol) ty i → IsBuilt a b (name_tree unit (scope_of names) name (entity_of (scope_of names) name)) (Ok (Some i))
variable_built a b unit names name symbol ty i d e h =
    built_as a b _ _ (Ok (Some i)) (name_is unit names name (Some (known.Variable symbol ty)) e) (
      record { elaborated = variable_tree unit (scope_of names) name (type_of ty); right = refl; is = record { tree = h.tree ∙ ap tree.Var (d.variables name symbol ty e); ty = ap type_of h.type_is; writes = h.writes } },
      leaf a b (Var symbol) ty i refl h,
    )

pub named_built : (a b : Nodes) (unit : List ℕ) (names : Entries) (name : List ℕ) (ty : ScalarType) (v : Option Constant) (r : Result (Option Built) Memory) → known_in names name ≡ Some (known.NamedConstant ty v)
    → IsBuilt a b (Ok (named_constant ty v)) r → IsBuilt a b (name_tree unit (scope_of names) name (entity_of (scope_of names) name)) r
named_built a b unit names name ty v r e h = built_as a b _ _ r (name_is unit names name (Some (known.NamedConstant ty v)) e) h

pub unknown_built : (a b : Nodes) (unit : List ℕ) (names : Entries) (name : List ℕ) → known_in names name ≡ None → IsBuilt a b (name_tree unit (scope_of names) name (entity_of (scope_of names) name)) (Ok None)
unknown_built a b unit names name e = built_as a b _ _ (Ok None) (name_is unit names name None e) (by (is_intrinsic name))
  where
    by : (t : Bool) → IsWrong (cond t (Err E414) (Err E304))
    by true = record { rule = E414; wrong = refl }
    by false = record { rule = E304; wrong = refl }

-- numbers of a kind
least_fits : (kind n : ℕ) → in_the_kind kind n ≡ cond (int_le (pos n) (greatest kind)) (Some (pos n)) None
least_fits kind n = ap (λ t. cond t (Some (pos n)) None) (in_greatest kind n)

too_great : (kind n : ℕ) → 2 ^ 63 ≤ n → int_le (pos n) (greatest kind) ≡ false
too_great kind n h = elim (kind == 4) as (λ t. int_le (pos n) (cond t (pos 2147483647) (pos 9223372036854775807)) ≡ false) [ true ↦ grind (arith, nat_tests, h) | false ↦ grind (arith, nat_tests, h) ]

pub value_long : (kind n : ℕ) → 2 ^ 63 ≤ n → None ≡ in_the_kind kind n
value_long kind n h = sym (least_fits kind n ∙ ap (λ t. cond t (Some (pos n)) None) (too_great kind n h))

pub value_none : (kind n : ℕ) → None ≡ in_64_bits n → None ≡ in_the_kind kind n
value_none kind n h = value_long kind n (let l : 2 ^ 64 ≤ n = past n h in omega (arith, l))
  where
    past : (n : ℕ) → None ≡ in_64_bits n → 2 ^ 64 ≤ n
    past n h = grind (arith, nat_tests, h)

pub value_right : (kind n : ℕ) → int_le (pos n) (greatest kind) ≡ true → Some (pos n) ≡ in_the_kind kind n
value_right kind n h = sym (least_fits kind n ∙ ap (λ t. cond t (Some (pos n)) None) h)

pub value_wrong : (kind n : ℕ) → int_le (pos n) (greatest kind) ≡ false → None ≡ in_the_kind kind n
value_wrong kind n h = sym (least_fits kind n ∙ ap (λ t. cond t (Some (pos n)) None) h)

pub ruleset values = (value_long, value_none, value_right, value_wrong)

module _ (a : Nodes) (kind : ℕ) (z : ℤ) (writes : Option ℕ) where
  pub literal_kindless : is_kind kind ≡ false → IsBuilt a a (literal_tree kind z writes) (Ok None)
  literal_kindless e = record { rule = E403; wrong = ap (λ t. cond (t && is_in_kind kind z) (Ok (integer_literal kind z writes)) (Err E403)) e }

  pub literal_great : is_kind kind ≡ true → is_in_kind kind z ≡ false → IsBuilt a a (literal_tree kind z writes) (Ok None)
  literal_great e f = record { rule = E403; wrong = ap (λ t. cond (t && is_in_kind kind z) (Ok (integer_literal kind z writes)) (Err E403)) e ∙ ap (λ t. cond t (Ok (integer_literal kind z writes)) (Err E403)) f }

  pub literal_fits : (b : Nodes) (r : Result (Option Built) Memory) → is_kind kind ≡ true → is_in_kind kind z ≡ true → IsBuilt a b (Ok (integer_literal kind z writes)) r → IsBuilt a b (literal_tree kind z writes) r
  literal_fits b r e f h =
      subst (λ x. IsBuilt a b x r)
      (sym (ap (λ t. cond (t && is_in_kind kind z) (Ok (integer_literal kind z writes)) (Err E403)) e ∙ ap (λ t. cond t (Ok (integer_literal kind z writes)) (Err E403)) f)) h

-- what fits, by its value
pub fits_by : (kind n : ℕ) → in_the_kind kind n ≡ None → is_in_kind kind (pos n) ≡ false
fits_by kind n h = by (is_in_kind kind (pos n)) refl
  where
    by : (t : Bool) → is_in_kind kind (pos n) ≡ t → is_in_kind kind (pos n) ≡ false
    by true e = absurd (let s : Some (pos n) ≡ None = sym (ap (λ t. cond t (Some (pos n)) None) e) ∙ h in cc)
    by false e = e

pub value_by : (kind n : ℕ) (z : ℤ) → in_the_kind kind n ≡ Some z → (is_in_kind kind (pos n) ≡ true) × (z ≡ pos n)
value_by kind n z h = by (is_in_kind kind (pos n)) refl
  where
    by : (t : Bool) → is_in_kind kind (pos n) ≡ t → (is_in_kind kind (pos n) ≡ true) × (z ≡ pos n)
    by true e = (e, let s : Some (pos n) ≡ Some z = sym (ap (λ t. cond t (Some (pos n)) None) e) ∙ h in cc)
    by false e = absurd (let s : None ≡ Some z = sym (ap (λ t. cond t (Some (pos n)) None) e) ∙ h in cc)

pub literal_none : (a : Nodes) (kind n : ℕ) (writes : Option ℕ) → is_kind kind ≡ true → in_the_kind kind n ≡ None → IsBuilt a a (literal_tree kind (pos n) writes) (Ok None)
literal_none a kind n writes e h = literal_great a kind (pos n) writes e (fits_by kind n h)

pub literal_some : (a b : Nodes) (kind n : ℕ) (z : ℤ) (writes : Option ℕ) (r : Result (Option Built) Memory) → is_kind kind ≡ true → in_the_kind kind n ≡ Some z → IsBuilt a b (Ok (integer_literal kind z writes)) r → IsBuilt a b (literal_tree kind (pos n) writes) r
literal_some a b kind n z writes r e h is =
    let p = value_by kind n z h in
    literal_fits a kind (pos n) writes b r e p.0 (subst (λ y. IsBuilt a b (Ok (integer_literal kind y writes)) r) p.1 is)

pub ruleset literals = (literal_kindless, literal_none, literal_some)

pub ruleset leaves = (integer_built, logical_built, constant_built, variable_built, named_built, unknown_built)
