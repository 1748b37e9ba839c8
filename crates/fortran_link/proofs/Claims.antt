-- Each form of an expression does what its tree does, where its parts do.
use Rattle.std.proofs.Common.{◌≡◌, ◌⊎◌, inl, inr, ℕ, ℤ, pos, Bool, true, false, if◌then◌else◌, ◌==◌, ◌||◌, ◌&&◌, List, [], ◌∷◌, Option, Some, None, Ok, Err, refl, sym, ap, subst, ◌∙◌}
use Rattle.std.proofs.lemmas.Bool.{and_parts}
use Rattle.lf_base.specs.Outcome.{Location}
use Rattle.lf_base.specs.Acts.{bind}
use Rattle.lf_base.specs.Equal.{World, Equal, Always}
use Rattle.lf_base.proofs.Equals.{bind_equal, give_equal}
use Rattle.lf_base.specs.Operators.{operator_of}
use Rattle.lf_base.specs.declared.operator.Operator.{Operator}
use Rattle.lf_base.specs.declared.rule.Rule.{Rule}
use Rattle.lf_base.specs.declared.rule.Rule.TheVariants.{E401, E403}
use Rattle.type_rules.specs.Values.{Scalar, Integer, Logical, Characters, Evaluation, Gives, Traps, NoRule, is_kind, is_in_kind}
use Rattle.type_rules.specs.Store.{Value, Single}
use Rattle.type_rules.specs.Bindings.{Binding}
use Rattle.asr_nodes.specs.declared.code.TheConstants.{TRUE}
use Rattle.asr_nodes.specs.declared.tree.ExprTree.{ExprTree}
use Rattle.asr_nodes.specs.declared.tree.ExprTree.TheVariants as e
use Rattle.asr_semantics.specs.Machine.{State, M, variable, fetch}
use Rattle.asr_semantics.specs.Entities.{Entities, target}
use Rattle.asr_semantics.specs.Meaning.{Calls, expression}
use Rattle.asr_semantics.proofs.Nodes.{expression-IntConst, expression-LogConst, expression-Var, expression-Paren}
use Rattle.fortran_semantics.specs.Constants.{Constant, constant_of, kind_of, joined_kind, literal_kind, literal_value, number_of, kind_written, huge_of as huge_value}
use Rattle.fortran_semantics.specs.Declared.{ScalarType, IntegerType, LogicalType, Declared, Declaration, Variable, Parameter, Other, declared_as}
use Rattle.fortran_semantics.specs.Meaning.{Meant, Known, known_in, becoming, no_becoming, only_value, given_scalar, unary_value, binary_value, converted, int_of, huge_one, name_meant, constant_meant}
use Rattle.lf_base.specs.Acts.{wrong}
use Rattle.lf_base.specs.Outcome.{Stuck}
use Rattle.ast_to_asr.specs.Judged.{both, and_then, right, map_right}
use Rattle.ast_to_asr.specs.Scope as names
use Rattle.ast_to_asr.specs.Scope.{Scope}
use Rattle.ast_to_asr.specs.Expressions.{Elaborated, Elab, in_kind, value, truth, scalar_tree, constant_tree, literal_tree, integer_argument, argument_of, int_to, int_tree, written_kind, huge_of, huge_tree, greater, integer_result, logical_result, operation_of, on_integers, on_logicals, operated, binary_of, binary_tree, takes_operand, unary_of, unary_tree, in_parentheses, paren_tree, name_tree}
use Rattle.fortran_link.specs.Typed.{IsTyped, IsBound}
use Rattle.fortran_link.specs.Claims.{IsKinded, KindIs, IsKnown, AgreeAt}
use Rattle.fortran_link.proofs.States.{Is, W, variable_equal, fetch_equal}
use Rattle.fortran_link.proofs.Operators.{integers_equal, greater_is_kind}
use Rattle.fortran_link.proofs.Operands.{logicals_equal, unary_equal, convert_equal, only_logical}
use Rattle.fortran_link.proofs.Values.{kinds}

module _ (unit_name : List ℕ) (declared : List Declared) (es : Entities) (n : ℕ) (inner : Calls) where
  abbrev pub V : World State
  V = W unit_name declared

  abbrev pub A : ExprTree → Location → M Value
  A x here = (expression es n inner x).value here

  -- what is assigned to: a variable of the type, by its binding
  pub record Target (a : Elaborated) (m : Meant) : Type 0 where
    pub place : (here : Location) → Equal V Always (IsBound a.ty) m.place ((expression es n inner a.tree).place here)
    pub becomes : (v : Value) → m.becomes v ≡ becoming a.ty v

  pub record Claim (a : Elaborated) (m : Meant) : Type 0 where
    pub does : (here : Location) → Equal V Always (Is a.ty) (m.value here) (A a.tree here)
    pub kind : KindIs a.ty m.kind
    pub kinded : IsKinded a.ty
    pub writes : m.writes ≡ a.writes
    pub written : (k : ℕ) → a.writes ≡ Some k → is_kind k ≡ true
    pub target : (name : List ℕ) → a.variable ≡ Some name → Target a m

  abbrev pub ClaimOf : Elab → Meant → Type 0
  ClaimOf (Ok a) m = Claim a m
  ClaimOf (Err rule) m = Unit {0}

  no_target : (a : Elaborated) (m : Meant) → a.variable ≡ None → (name : List ℕ) → a.variable ≡ Some name → Target a m
  no_target a m q name r = absurd (cc)

  pub none_written : (k : ℕ) → None ≡ Some k → is_kind k ≡ true
  none_written k q = absurd (cc)

  -- a value that designates nothing and is no literal
  pub only_claim : (tree : ExprTree) (ty : ScalarType) (is_constant : Bool) (act : Location → M Value) (kind : Option ℕ) → ((here : Location) → Equal V Always (Is ty) (act here) (A tree here)) → KindIs ty kind → IsKinded ty → Claim (value tree ty is_constant) (only_value act kind)
  only_claim tree ty is_constant act kind does k f = record { does = does; kind = k; kinded = f; writes = refl; written = none_written; target = no_target (value tree ty is_constant) (only_value act kind) refl }

  -- literals
  number_does : (k : ℕ) (z : ℤ) (here : Location) → is_kind k ≡ true → is_in_kind k z ≡ true → Equal V Always (Is (IntegerType k)) (given_scalar (if is_in_kind k z then Gives (Integer k z) else NoRule) here) (A (e.IntConst k z) here)
  number_does k z here f h =
      subst (λ m. Equal V Always (Is (IntegerType k)) (given_scalar (if is_in_kind k z then Gives (Integer k z) else NoRule) here) (m.value here)) (sym (expression-IntConst es n inner k z))
      (subst (λ t. Equal V Always (Is (IntegerType k)) (given_scalar (if t then Gives (Integer k z) else NoRule) here) (give_number here)) (sym h)
      (give_equal V Always (Is (IntegerType k)) (Single (Integer k z)) (λ s i p. (refl, f, h))))
    where
      give_number : Location → M Value
      give_number here = Rattle.lf_base.specs.Acts.give (Single (Integer k z))

  pub truth_does : (t : Bool) (v : ℕ) (here : Location) → (v == TRUE) ≡ t → Equal V Always (Is LogicalType) (given_scalar (Gives (Logical t)) here) (A (e.LogConst v) here)
  truth_does t v here h =
      subst (λ m. Equal V Always (Is LogicalType) (given_scalar (Gives (Logical t)) here) (m.value here)) (sym (expression-LogConst es n inner v))
      (subst (λ u. Equal V Always (Is LogicalType) (given_scalar (Gives (Logical t)) here) (Rattle.lf_base.specs.Acts.give (Single (Logical u)))) (sym h)
      (give_equal V Always (Is LogicalType) (Single (Logical t)) (λ s i p. tt)))

  -- a name
  variable_does : (name : List ℕ) (ty : ScalarType) (init : Option Rattle.ast_nodes.specs.declared.expression.Expr.Expr) (here : Location) → declared_as declared name ≡ Some (Variable ty init) → target es (unit_name ∷ name ∷ []) ≡ unit_name ∷ name ∷ [] → Equal V Always (Is ty) (bind (variable (unit_name ∷ name ∷ [])) fetch) (A (e.Var (unit_name ∷ name ∷ [])) here)
  variable_does name ty init here q t =
      subst (λ m. Equal V Always (Is ty) (bind (variable (unit_name ∷ name ∷ [])) fetch) (m.value here)) (sym (expression-Var es n inner (unit_name ∷ name ∷ [])))
      (subst (λ p. Equal V Always (Is ty) (bind (variable (unit_name ∷ name ∷ [])) fetch) (bind (variable p) fetch)) (sym t)
      (bind_equal V Always (IsBound ty) (Is ty) (variable (unit_name ∷ name ∷ [])) (variable (unit_name ∷ name ∷ [])) fetch fetch
      (variable_equal unit_name declared Always name ty init q)
      (λ b s i p. fetch_equal unit_name declared (λ u. V.later s u × IsBound ty b u) b ty (λ u j r. r.1))))

  variable_place : (name : List ℕ) (ty : ScalarType) (init : Option Rattle.ast_nodes.specs.declared.expression.Expr.Expr) (here : Location) → declared_as declared name ≡ Some (Variable ty init) → target es (unit_name ∷ name ∷ []) ≡ unit_name ∷ name ∷ [] → Equal V Always (IsBound ty) (variable (unit_name ∷ name ∷ [])) ((expression es n inner (e.Var (unit_name ∷ name ∷ []))).place here)
  variable_place name ty init here q t =
      subst (λ m. Equal V Always (IsBound ty) (variable (unit_name ∷ name ∷ [])) (m.place here)) (sym (expression-Var es n inner (unit_name ∷ name ∷ [])))
      (subst (λ p. Equal V Always (IsBound ty) (variable (unit_name ∷ name ∷ [])) (variable p)) (sym t)
      (variable_equal unit_name declared Always name ty init q))

  -- a parenthesis, a sign or `.not.`, and an operation
  pub paren_claim : (a : Elab) (m : Meant) → ClaimOf a m → ClaimOf (paren_tree a) (only_value (λ here. m.value here) m.kind)
  paren_claim (Err rule) m h = tt
  paren_claim (Ok a) m h =
      only_claim (e.Paren a.tree) a.ty a.is_constant (λ here. m.value here) m.kind
      (λ here. subst (λ x. Equal V Always (Is a.ty) (m.value here) (x.value here)) (sym (expression-Paren es n inner a.tree)) (h.does here)) h.kind h.kinded

  unary_known : (code : ℕ) (op : Operator) (a : Elaborated) (m : Meant) → operator_of code ≡ Some op → Claim a m → (t : Bool) → takes_operand op a.ty ≡ t → ClaimOf (if t then Ok (value (e.Unary code a.tree) a.ty a.is_constant) else Err E401) (only_value (unary_value code m) m.kind)
  unary_known code op a m q h true r = only_claim (e.Unary code a.tree) a.ty a.is_constant (unary_value code m) m.kind (λ here. unary_equal unit_name declared es n inner here code op a.ty a.tree (m.value here) q r (h.does here)) h.kind h.kinded
  unary_known code op a m q h false r = tt

  unary_by : (code : ℕ) (a : Elaborated) (m : Meant) → Claim a m → (o : Option Operator) → operator_of code ≡ o → ClaimOf (unary_of code o a) (only_value (unary_value code m) m.kind)
  unary_by code a m h None q = tt
  unary_by code a m h (Some op) q = unary_known code op a m q h (takes_operand op a.ty) refl

  pub unary_claim : (code : ℕ) (a : Elab) (m : Meant) → ClaimOf a m → ClaimOf (unary_tree code (operator_of code) a) (only_value (unary_value code m) m.kind)
  unary_claim code (Err rule) m h = tt
  unary_claim code (Ok a) m h = unary_by code a m h (operator_of code) refl

  -- the kind that an operation on integers has, where it gives an integer
  kind_given : (op : Operator) (j k : ℕ) (ty : ScalarType) → integer_result op (greater j k) ≡ Some ty → KindIs ty (joined_kind (Some j) (Some k)) × IsKinded ty
  kind_given op j k (IntegerType g) q = let r : greater j k ≡ g = same_kind op (greater j k) g q in (ap Some r, subst (λ m. is_kind m ≡ true) r (greater_is_kind j k))
    where
      same_kind : (op : Operator) (h g : ℕ) → integer_result op h ≡ Some (IntegerType g) → h ≡ g
      same_kind Rattle.lf_base.specs.declared.operator.Operator.TheVariants.Add h g q = cc
      same_kind Rattle.lf_base.specs.declared.operator.Operator.TheVariants.Subtract h g q = cc
      same_kind Rattle.lf_base.specs.declared.operator.Operator.TheVariants.Multiply h g q = cc
      same_kind Rattle.lf_base.specs.declared.operator.Operator.TheVariants.Divide h g q = cc
      same_kind Rattle.lf_base.specs.declared.operator.Operator.TheVariants.Power h g q = cc
      same_kind _ h g q = absurd (cc)
  kind_given op j k LogicalType q = (tt, tt)

  abbrev Does : ScalarType → Meant → ExprTree → Type 0
  Does ty m x = (here : Location) → Equal V Always (Is ty) (m.value here) (A x here)

  integers_by : (code : ℕ) (op : Operator) (j : ℕ) (a : ExprTree) (k : ℕ) (b : ExprTree) (m m' : Meant) (c : Bool) → operator_of code ≡ Some op → Does (IntegerType j) m a → Does (IntegerType k) m' b → m.kind ≡ Some j → m'.kind ≡ Some k → (o : Option ScalarType) → integer_result op (greater j k) ≡ o → ClaimOf (map_right (operated code c) (right E401 (on_integers j a k b o))) (only_value (binary_value code m m') (joined_kind m.kind m'.kind))
  integers_by code op j a k b m m' c h f g kj kk None q = tt
  integers_by code op j a k b m m' c h f g kj kk (Some ty) q =
      let given = kind_given op j k ty q in
      only_claim (e.Binary code (in_kind (greater j k) j a) (in_kind (greater j k) k b)) ty c (binary_value code m m') (joined_kind m.kind m'.kind)
      (λ here. integers_equal unit_name declared es n inner here code op ty j k a b (m.value here) (m'.value here) h q (f here) (g here))
      (subst (λ x. KindIs ty (joined_kind x m'.kind)) (sym kj) (subst (λ y. KindIs ty (joined_kind (Some j) y)) (sym kk) given.0))
      given.1

  logicals_by : (code : ℕ) (op : Operator) (a b : ExprTree) (m m' : Meant) (c : Bool) → operator_of code ≡ Some op → Does LogicalType m a → Does LogicalType m' b → (o : Option ScalarType) → logical_result op ≡ o → ClaimOf (map_right (operated code c) (right E401 (on_logicals a b o))) (only_value (binary_value code m m') (joined_kind m.kind m'.kind))
  logicals_by code op a b m m' c h f g None q = tt
  logicals_by code op a b m m' c h f g (Some ty) q =
      let r = only_logical op ty q in
      subst (λ t. Claim (value (e.Binary code a b) t c) (only_value (binary_value code m m') (joined_kind m.kind m'.kind))) (sym r)
      (only_claim (e.Binary code a b) LogicalType c (binary_value code m m') (joined_kind m.kind m'.kind)
      (λ here. logicals_equal unit_name declared es n inner here code op a b (m.value here) (m'.value here) h (subst (λ t. logical_result op ≡ Some t) r q) (f here) (g here)) tt tt)

  types_by : (code : ℕ) (op : Operator) (s t : ScalarType) (a b : ExprTree) (m m' : Meant) (c : Bool) → operator_of code ≡ Some op → Does s m a → Does t m' b → KindIs s m.kind → KindIs t m'.kind → ClaimOf (map_right (operated code c) (right E401 (operation_of op s a t b))) (only_value (binary_value code m m') (joined_kind m.kind m'.kind))
  types_by code op (IntegerType j) (IntegerType k) a b m m' c h f g kj kk = integers_by code op j a k b m m' c h f g kj kk (integer_result op (greater j k)) refl
  types_by code op LogicalType LogicalType a b m m' c h f g kj kk = logicals_by code op a b m m' c h f g (logical_result op) refl
  types_by code op (IntegerType j) LogicalType a b m m' c h f g kj kk = tt
  types_by code op LogicalType (IntegerType k) a b m m' c h f g kj kk = tt

  binary_by : (code : ℕ) (a b : Elaborated) (m m' : Meant) → Claim a m → Claim b m' → (o : Option Operator) → operator_of code ≡ o → ClaimOf (binary_of code o a b) (only_value (binary_value code m m') (joined_kind m.kind m'.kind))
  binary_by code a b m m' h g None q = tt
  binary_by code a b m m' h g (Some op) q = types_by code op a.ty b.ty a.tree b.tree m m' (a.is_constant && b.is_constant) q h.does g.does h.kind g.kind

  pub binary_claim : (code : ℕ) (a b : Elab) (m m' : Meant) → ClaimOf a m → ClaimOf b m' → ClaimOf (binary_tree code (operator_of code) a b) (only_value (binary_value code m m') (joined_kind m.kind m'.kind))
  binary_claim code (Ok a) (Ok b) m m' h g = binary_by code a b m m' h g (operator_of code) refl
  binary_claim code (Ok a) (Err r) m m' h g = tt
  binary_claim code (Err r) (Ok b) m m' h g = tt
  binary_claim code (Err r) (Err q) m m' h g = tt

  -- names
  constant_does : (ty : ScalarType) (v : Evaluation Scalar) (here : Location) → IsKnown ty v → Equal V Always (Is ty) (given_scalar v here) (A (constant_tree ty v) here)
  constant_does (IntegerType k) (Gives (Integer j z)) here h =
      subst (λ m. Equal V Always (Is (IntegerType k)) (given_scalar (Gives (Integer j z)) here) (m.value here)) (sym (expression-IntConst es n inner j z))
      (give_equal V Always (Is (IntegerType k)) (Single (Integer j z)) (λ s i p. h))
  constant_does (IntegerType k) (Gives (Logical t)) here h = absurd h
  constant_does (IntegerType k) (Gives (Characters bytes)) here h = absurd h
  constant_does LogicalType (Gives (Logical true)) here h = truth_does true 1 here refl
  constant_does LogicalType (Gives (Logical false)) here h = truth_does false 0 here refl
  constant_does LogicalType (Gives (Integer j z)) here h = absurd h
  constant_does LogicalType (Gives (Characters bytes)) here h = absurd h
  constant_does ty (Traps cause) here h = absurd h
  constant_does ty NoRule here h = absurd h

  kind_known : (ty : ScalarType) → KindIs ty (kind_of ty)
  kind_known (IntegerType k) = refl
  kind_known LogicalType = tt

  module _ (scope : Scope) (known : Known) where
    name_by : (name : List ℕ) (o : Option names.Entity) (d : Option Declaration) (c : Option Constant) → declared_as declared name ≡ d → known_in known name ≡ c → AgreeAt es unit_name name o d c → ClaimOf (name_tree unit_name scope name o) (name_meant unit_name declared known name d)
    name_by name None None c q r h = absent_claim (Rattle.ast_to_asr.specs.Expressions.is_intrinsic name)
      where
        absent_claim : (t : Bool) → ClaimOf (if t then Err Rattle.lf_base.specs.declared.rule.Rule.TheVariants.E414 else Err Rattle.lf_base.specs.declared.rule.Rule.TheVariants.E304) (name_meant unit_name declared known name None)
        absent_claim true = tt
        absent_claim false = tt
    name_by name (Some (names.Variable ty)) (Some (Variable ty' init)) c q r h =
        subst (λ t. Claim (Rattle.ast_to_asr.specs.Expressions.variable_tree unit_name scope name ty) (name_meant unit_name declared known name (Some (Variable t init)))) (sym h.0)
        (record {
          does = λ here. variable_does name ty init here (q ∙ ap (λ t. Some (Variable t init)) h.0) h.2;
          kind = kind_known ty;
          kinded = h.1;
          writes = refl;
          written = none_written;
          target = λ other r. record { place = λ here. variable_place name ty init here (q ∙ ap (λ t. Some (Variable t init)) h.0) h.2; becomes = λ v. refl };
        })
    name_by name (Some (names.NamedConstant ty v)) (Some (Parameter ty' value)) (Some c) q r h =
        subst (λ o. Claim (Rattle.ast_to_asr.specs.Expressions.value (constant_tree ty v) ty true) (constant_meant unit_name declared known o)) (sym r)
        (subst (λ x. Claim (Rattle.ast_to_asr.specs.Expressions.value (constant_tree ty v) ty true) (only_value (given_scalar x.value) x.kind)) (sym h.0)
        (only_claim (constant_tree ty v) ty true (given_scalar v) (kind_of ty) (λ here. constant_does ty v here h.2) (kind_known ty) h.1))
    name_by name None (Some d) c q r h = absurd h
    name_by name (Some (names.Variable ty)) None c q r h = absurd h
    name_by name (Some (names.Variable ty)) (Some (Parameter ty' value)) c q r h = absurd h
    name_by name (Some (names.Variable ty)) (Some Other) c q r h = absurd h
    name_by name (Some (names.NamedConstant ty v)) None c q r h = absurd h
    name_by name (Some (names.NamedConstant ty v)) (Some (Variable ty' init)) c q r h = absurd h
    name_by name (Some (names.NamedConstant ty v)) (Some Other) c q r h = absurd h
    name_by name (Some (names.NamedConstant ty v)) (Some (Parameter ty' value)) None q r h = absurd h

    pub name_claim : (name : List ℕ) → AgreeAt es unit_name name (names.entity_of scope name) (declared_as declared name) (known_in known name) → ClaimOf (name_tree unit_name scope name (names.entity_of scope name)) (name_meant unit_name declared known name (declared_as declared name))
    name_claim name h = name_by name (names.entity_of scope name) (declared_as declared name) (known_in known name) refl refl h

  -- literals
  written_kinds : (digits : List ℕ) (suffix k : ℕ) → kind_written digits suffix ≡ Some k → is_kind k ≡ true
  written_kinds digits suffix k e = by (suffix == 0) (Rattle.std.specs.Str.bytes_eq digits (Rattle.std.specs.Prelude.codes "4")) (Rattle.std.specs.Str.bytes_eq digits (Rattle.std.specs.Prelude.codes "8")) e
    where
      of_four : Some 4 ≡ Some k → is_kind k ≡ true
      of_four q = let r : 4 ≡ k = cc in subst (λ m. is_kind m ≡ true) r refl

      of_eight : Some 8 ≡ Some k → is_kind k ≡ true
      of_eight q = let r : 8 ≡ k = cc in subst (λ m. is_kind m ≡ true) r refl

      by : (p q r : Bool) → (if p then (if q then Some 4 else if r then Some 8 else None) else None) ≡ Some k → is_kind k ≡ true
      by true true r q = of_four q
      by true false true q = of_eight q
      by true false false q = absurd (cc)
      by false q r e = absurd (cc)

  literal_by : (digits : List ℕ) (suffix : ℕ) (t : Bool) → (is_kind (literal_kind suffix) && is_in_kind (literal_kind suffix) (pos (number_of digits))) ≡ t → ClaimOf (if t then Ok (record { tree = e.IntConst (literal_kind suffix) (pos (number_of digits)); ty = IntegerType (literal_kind suffix); writes = kind_written digits suffix; variable = None; is_constant = true }) else Err E403) (record { value = given_scalar (literal_value digits suffix); place = wrong Stuck; becomes = no_becoming; kind = Some (literal_kind suffix); writes = kind_written digits suffix })
  literal_by digits suffix true q =
      let b = and_parts _ _ q in
      record {
        does = λ here. number_does (literal_kind suffix) (pos (number_of digits)) here b.0 b.1;
        kind = refl;
        kinded = b.0;
        writes = refl;
        written = written_kinds digits suffix;
        target = λ name r. absurd (cc);
      }
  literal_by digits suffix false q = tt

  pub literal_claim : (digits : List ℕ) (suffix : ℕ) → ClaimOf (literal_tree (literal_kind suffix) (pos (number_of digits)) (kind_written digits suffix)) (record { value = given_scalar (literal_value digits suffix); place = wrong Stuck; becomes = no_becoming; kind = Some (literal_kind suffix); writes = kind_written digits suffix })
  literal_claim digits suffix = literal_by digits suffix (is_kind (literal_kind suffix) && is_in_kind (literal_kind suffix) (pos (number_of digits))) refl

  -- `int`, whose result has the kind that is written, and `huge`
  pub converted_claim : (k : ℕ) (a : Elaborated) (m : Meant) → is_kind k ≡ true → Claim a m → (ty : ScalarType) → ty ≡ a.ty → ClaimOf (map_right (int_to k) (argument_of a ty)) (only_value (converted k m) (Some k))
  converted_claim k a m f h (IntegerType j) q =
      only_claim (e.Convert k a.tree) (IntegerType k) a.is_constant (converted k m) (Some k)
      (λ here. convert_equal unit_name declared es n inner here k j a.tree (m.value here) f (subst (λ t. Equal V Always (Is t) (m.value here) (A a.tree here)) (sym q) (h.does here))) refl f
  converted_claim k a m f h LogicalType q = tt

  greatest_fits : (k : ℕ) → is_kind k ≡ true → is_in_kind k (Rattle.type_rules.specs.Values.greatest k) ≡ true
  greatest_fits k f = elim (kinds k f) as (λ _. is_in_kind k (Rattle.type_rules.specs.Values.greatest k) ≡ true) [
    | inl p ↦ subst (λ m. is_in_kind m (Rattle.type_rules.specs.Values.greatest m) ≡ true) (sym p) refl
    | inr p ↦ subst (λ m. is_in_kind m (Rattle.type_rules.specs.Values.greatest m) ≡ true) (sym p) refl
  ]

  pub huge_claim : (a : Elaborated) (m : Meant) → Claim a m → (ty : ScalarType) → ty ≡ a.ty → ClaimOf (map_right huge_of (argument_of a ty)) (only_value (given_scalar (huge_value m.kind)) m.kind)
  huge_claim a m h (IntegerType k) q =
      let f : is_kind k ≡ true = subst IsKinded (sym q) h.kinded in
      let r : m.kind ≡ Some k = subst (λ t. KindIs t m.kind) (sym q) h.kind in
      only_claim (e.IntConst k (Rattle.type_rules.specs.Values.greatest k)) (IntegerType k) (a.is_constant || Rattle.std.specs.Prelude.is_some a.variable) (given_scalar (huge_value m.kind)) m.kind
      (λ here.
      subst (λ o. Equal V Always (Is (IntegerType k)) (given_scalar (huge_value o) here) (A (e.IntConst k (Rattle.type_rules.specs.Values.greatest k)) here)) (sym r)
      (subst (λ x. Equal V Always (Is (IntegerType k)) (given_scalar (huge_value (Some k)) here) (x.value here)) (sym (expression-IntConst es n inner k (Rattle.type_rules.specs.Values.greatest k)))
      (give_equal V Always (Is (IntegerType k)) (Single (Integer k (Rattle.type_rules.specs.Values.greatest k))) (λ s i p. (refl, f, greatest_fits k f)))))
      r f
  huge_claim a m h LogicalType q = tt
