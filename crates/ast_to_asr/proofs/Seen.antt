-- What is told of an expression without its tree is what is seen of its tree.
use Rattle.std.proofs.Common.{◌≡◌, ℕ, ℤ, pos, Bool, true, false, ◌||◌, ◌&&◌, if◌then◌else◌, List, [], ◌∷◌, map, length, is_some, Option, Some, None, Ok, Err, option_map, refl, sym, ap, subst, ◌∙◌}
use Rattle.std.proofs.lemmas.List.{length-map}
use Rattle.lf_base.specs.Operators.{operator_of}
use Rattle.lf_base.specs.declared.operator.Operator.{Operator}
use Rattle.lf_base.specs.declared.operator.Operator.TheVariants as operator
use Rattle.lf_base.specs.declared.rule.Rule.TheVariants.{E304, E401, E403, E404, E405, E414}
use Rattle.ast_nodes.specs.declared.expression.Designator.{Designator, Designator-F, map-Designator, roll-Designator, fold-roll-Designator, ind-Designator}
use Rattle.ast_nodes.specs.declared.expression.Expr.{Expr, Expr-F, map-Expr, roll-Expr, fold-roll-Expr, ind-Expr}
use Rattle.ast_nodes.specs.declared.expression.RefPart.{RefPart, RefPart-F, map-RefPart, roll-RefPart, fold-RefPart, fold-roll-RefPart}
use Rattle.asr_nodes.specs.declared.tree.ExprTree.{ExprTree}
use Rattle.asr_nodes.specs.declared.tree.ExprTree.TheVariants as e
use Rattle.lf_base.specs.declared.id.SymId.{SymId}
use Rattle.type_rules.specs.Values.{is_in_kind, is_kind}
use Rattle.fortran_semantics.specs.Constants.{Part, Named, Grouped, number_of, literal_kind, kind_written, intrinsic_named, is_int, is_huge}
use Rattle.fortran_semantics.specs.Declared as declared
use Rattle.ast_to_asr.specs.Judged.{Judged, also, right, both, map_right, all}
use Rattle.ast_to_asr.specs.Scope.{Scope, entity_of}
use Rattle.ast_to_asr.specs.Known.{Entries, known_in, scope_of, entity_known, type_of}
use Rattle.ast_to_asr.specs.Expressions as t
use Rattle.ast_to_asr.specs.Expressions.{Elaborated, Elab, greater, takes, is_intrinsic}
use Rattle.ast_to_asr.specs.Facts as f
use Rattle.ast_to_asr.specs.Facts.{Told, seen, symbol_of, type_seen, plain, least_from}
use Rattle.ast_to_asr.specs.declared.names.Known.{Known}
use Rattle.ast_to_asr.specs.declared.names.Known.TheVariants as known
use Rattle.ast_to_asr.specs.declared.names.ScalarType.{ScalarType}
use Rattle.ast_to_asr.specs.declared.names.ScalarType.TheVariants.{Integer, Logical}
use Rattle.ast_to_asr.proofs.Entries.{entity_found}
use Rattle.ast_to_asr.proofs.Joined.{told, stripped, argument_seen, least_seen, called_seen}

integers : (op : Operator) (kind : ℕ) → option_map type_seen (t.integer_result op kind) ≡ f.integer_result op kind
integers operator.Add kind = refl
integers operator.Subtract kind = refl
integers operator.Multiply kind = refl
integers operator.Divide kind = refl
integers operator.Power kind = refl
integers operator.Concatenate kind = refl
integers operator.Eq kind = refl
integers operator.Ne kind = refl
integers operator.Lt kind = refl
integers operator.Le kind = refl
integers operator.Gt kind = refl
integers operator.Ge kind = refl
integers operator.And kind = refl
integers operator.Or kind = refl
integers operator.Eqv kind = refl
integers operator.Neqv kind = refl
integers operator.Not kind = refl

logicals : (op : Operator) → option_map type_seen (t.logical_result op) ≡ f.logical_result op
logicals operator.Add = refl
logicals operator.Subtract = refl
logicals operator.Multiply = refl
logicals operator.Divide = refl
logicals operator.Power = refl
logicals operator.Concatenate = refl
logicals operator.Eq = refl
logicals operator.Ne = refl
logicals operator.Lt = refl
logicals operator.Le = refl
logicals operator.Gt = refl
logicals operator.Ge = refl
logicals operator.And = refl
logicals operator.Or = refl
logicals operator.Eqv = refl
logicals operator.Neqv = refl
logicals operator.Not = refl

abbrev operation_type : Option t.Operation → Option ScalarType
operation_type = option_map (λ o. type_seen o.ty)

on_integers : (j : ℕ) (a : ExprTree) (k : ℕ) (b : ExprTree) (r : Option declared.ScalarType) → operation_type (t.on_integers j a k b r) ≡ option_map type_seen r
on_integers j a k b None = refl
on_integers j a k b (Some ty) = refl

on_logicals : (a b : ExprTree) (r : Option declared.ScalarType) → operation_type (t.on_logicals a b r) ≡ option_map type_seen r
on_logicals a b None = refl
on_logicals a b (Some ty) = refl

operation_seen : (op : Operator) (s : declared.ScalarType) (a : ExprTree) (u : declared.ScalarType) (b : ExprTree) → operation_type (t.operation_of op s a u b) ≡ f.result_type op (type_seen s) (type_seen u)
operation_seen op (declared.IntegerType j) a (declared.IntegerType k) b = on_integers j a k b (t.integer_result op (greater j k)) ∙ integers op (greater j k)
operation_seen op declared.LogicalType a declared.LogicalType b = on_logicals a b (t.logical_result op) ∙ logicals op
operation_seen op (declared.IntegerType j) a declared.LogicalType b = refl
operation_seen op declared.LogicalType a (declared.IntegerType k) b = refl

takes_seen : (op : Operator) (ty : declared.ScalarType) → t.takes_operand op ty ≡ f.takes_operand op (type_seen ty)
takes_seen operator.Add (declared.IntegerType kind) = refl
takes_seen operator.Subtract (declared.IntegerType kind) = refl
takes_seen operator.Multiply (declared.IntegerType kind) = refl
takes_seen operator.Divide (declared.IntegerType kind) = refl
takes_seen operator.Power (declared.IntegerType kind) = refl
takes_seen operator.Concatenate (declared.IntegerType kind) = refl
takes_seen operator.Eq (declared.IntegerType kind) = refl
takes_seen operator.Ne (declared.IntegerType kind) = refl
takes_seen operator.Lt (declared.IntegerType kind) = refl
takes_seen operator.Le (declared.IntegerType kind) = refl
takes_seen operator.Gt (declared.IntegerType kind) = refl
takes_seen operator.Ge (declared.IntegerType kind) = refl
takes_seen operator.And (declared.IntegerType kind) = refl
takes_seen operator.Or (declared.IntegerType kind) = refl
takes_seen operator.Eqv (declared.IntegerType kind) = refl
takes_seen operator.Neqv (declared.IntegerType kind) = refl
takes_seen operator.Not (declared.IntegerType kind) = refl
takes_seen operator.Add declared.LogicalType = refl
takes_seen operator.Subtract declared.LogicalType = refl
takes_seen operator.Multiply declared.LogicalType = refl
takes_seen operator.Divide declared.LogicalType = refl
takes_seen operator.Power declared.LogicalType = refl
takes_seen operator.Concatenate declared.LogicalType = refl
takes_seen operator.Eq declared.LogicalType = refl
takes_seen operator.Ne declared.LogicalType = refl
takes_seen operator.Lt declared.LogicalType = refl
takes_seen operator.Le declared.LogicalType = refl
takes_seen operator.Gt declared.LogicalType = refl
takes_seen operator.Ge declared.LogicalType = refl
takes_seen operator.And declared.LogicalType = refl
takes_seen operator.Or declared.LogicalType = refl
takes_seen operator.Eqv declared.LogicalType = refl
takes_seen operator.Neqv declared.LogicalType = refl
takes_seen operator.Not declared.LogicalType = refl

type_again : (ty : ScalarType) → type_seen (type_of ty) ≡ ty
type_again (Integer kind) = refl
type_again Logical = refl

is_some_seen : {X Y : Type 0} (g : X → Y) (o : Option X) → is_some (option_map g o) ≡ is_some o
is_some_seen g None = refl
is_some_seen g (Some x) = refl

module _ (entries : Entries) where
  operated_seen : (code : ℕ) (c : Bool) (o : Option t.Operation) → told entries (map_right (t.operated code c) (right E401 o)) ≡ map_right (λ ty. plain ty c) (right E401 (operation_type o))
  operated_seen code c None = refl
  operated_seen code c (Some o) = refl

  binary_by : (code : ℕ) (op : Option Operator) (a b : Elaborated) → told entries (t.binary_of code op a b) ≡ f.binary_of op (seen entries a) (seen entries b)
  binary_by code None a b = refl
  binary_by code (Some op) a b =
      operated_seen code (a.is_constant && b.is_constant) (t.operation_of op a.ty a.tree b.ty b.tree)
      ∙ ap (λ o. map_right (λ ty. plain ty (a.is_constant && b.is_constant)) (right E401 o)) (operation_seen op a.ty a.tree b.ty b.tree)

  binary_seen : (code : ℕ) (op : Option Operator) (a b : Elab) → told entries (t.binary_tree code op a b) ≡ f.binary_told op (told entries a) (told entries b)
  binary_seen code op (Ok a) (Ok b) = binary_by code op a b
  binary_seen code op (Ok a) (Err s) = refl
  binary_seen code op (Err r) (Ok b) = refl
  binary_seen code op (Err r) (Err s) = refl

  unary_if : (code : ℕ) (a : Elaborated) (b : Bool) → told entries (if b then Ok (t.value (e.Unary code a.tree) a.ty a.is_constant) else Err E401) ≡ (if b then Ok (plain (type_seen a.ty) a.is_constant) else Err E401)
  unary_if code a true = refl
  unary_if code a false = refl

  unary_by : (code : ℕ) (op : Option Operator) (a : Elaborated) → told entries (t.unary_of code op a) ≡ f.unary_of op (seen entries a)
  unary_by code None a = refl
  unary_by code (Some op) a = unary_if code a (t.takes_operand op a.ty) ∙ ap (λ b. if b then Ok (plain (type_seen a.ty) a.is_constant) else Err E401) (takes_seen op a.ty)

  unary_seen : (code : ℕ) (op : Option Operator) (a : Elab) → told entries (t.unary_tree code op a) ≡ f.unary_told op (told entries a)
  unary_seen code op (Ok a) = unary_by code op a
  unary_seen code op (Err r) = refl

  paren_seen : (a : Elab) → told entries (t.paren_tree a) ≡ f.paren_told (told entries a)
  paren_seen (Ok a) = refl
  paren_seen (Err r) = refl

  literal_if : (kind : ℕ) (z : ℤ) (writes : Option ℕ) (b : Bool) → told entries (if b then Ok (record { tree = e.IntConst kind z; ty = declared.IntegerType kind; writes = writes; variable = None; is_constant = true }) else Err E403) ≡ (if b then Ok (record { ty = Integer kind; writes = writes; variable = None; is_constant = true }) else Err E403)
  literal_if kind z writes true = refl
  literal_if kind z writes false = refl

  literal_seen : (digits : List ℕ) (suffix : ℕ) → told entries (t.literal_tree (literal_kind suffix) (pos (number_of digits)) (kind_written digits suffix)) ≡ f.literal_told digits suffix
  literal_seen digits suffix = literal_if (literal_kind suffix) (pos (number_of digits)) (kind_written digits suffix) (is_kind (literal_kind suffix) && is_in_kind (literal_kind suffix) (pos (number_of digits)))

  many_seen : (xs : List Elab) → told entries (t.miscounted xs) ≡ Err (least_from E405 (map (told entries) xs))
  many_seen xs = ap Err (sym (least_seen entries E405 xs))

  function_if : (code : ℕ) (xs : List Elab) (b : Bool) → told entries (if b then map_right (t.called code) (all (map t.integer_argument xs)) else t.miscounted xs) ≡ (if b then map_right f.called (f.joined_from (Ok f.no_arguments) (map (told entries) xs)) else Err (least_from E405 (map (told entries) xs)))
  function_if code xs true = sym (called_seen entries code xs)
  function_if code xs false = many_seen xs

  function_of_seen : (code : ℕ) (xs : List Elab) → told entries (t.function_of code xs) ≡ f.function_of code (map (told entries) xs)
  function_of_seen code xs =
      function_if code xs (takes code (length xs))
      ∙ ap (λ n. if takes code n then map_right f.called (f.joined_from (Ok f.no_arguments) (map (told entries) xs)) else Err (least_from E405 (map (told entries) xs))) (sym (length-map xs (told entries)))

  int_by : (kind : ℕ) (a : Judged t.Argument) → told entries (map_right (t.int_to kind) a) ≡ map_right (f.int_to kind) (map_right (stripped entries) a)
  int_by kind (Ok a) = refl
  int_by kind (Err r) = refl

  written_seen : (k : Elab) → f.written_kind (told entries k) ≡ t.written_kind k
  written_seen (Ok k) = refl
  written_seen (Err r) = refl

  int_two : (a : Judged t.Argument) (k : Judged ℕ) → told entries (map_right (λ p. t.int_to p.1 p.0) (both a k)) ≡ map_right (λ p. f.int_to p.1 p.0) (both (map_right (stripped entries) a) k)
  int_two (Ok a) (Ok k) = refl
  int_two (Ok a) (Err s) = refl
  int_two (Err r) (Ok k) = refl
  int_two (Err r) (Err s) = refl

  int_seen : (xs : List Elab) → told entries (t.int_tree xs) ≡ f.int_told (map (told entries) xs)
  int_seen [] = many_seen []
  int_seen (a ∷ []) = int_by 4 (t.integer_argument a) ∙ ap (map_right (f.int_to 4)) (sym (argument_seen entries a))
  int_seen (a ∷ k ∷ []) =
      int_two (t.integer_argument a) (t.written_kind k)
      ∙ (ap (λ x. map_right (λ p. f.int_to p.1 p.0) (both x (t.written_kind k))) (sym (argument_seen entries a))
      ∙ ap (λ w. map_right (λ p. f.int_to p.1 p.0) (both (f.integer_argument (told entries a)) w)) (sym (written_seen k)))
  int_seen (a ∷ k ∷ l ∷ more) = many_seen (a ∷ k ∷ l ∷ more)

  huge_by : (a : Judged t.Argument) → told entries (map_right t.huge_of a) ≡ map_right f.huge_of (map_right (stripped entries) a)
  huge_by (Ok a) = ap (λ b. Ok (plain (Integer a.kind) (a.is_constant || b))) (sym (is_some_seen (λ name. symbol_of (known_in entries name)) a.variable))
  huge_by (Err r) = refl

  huge_seen : (xs : List Elab) → told entries (t.huge_tree xs) ≡ f.huge_told (map (told entries) xs)
  huge_seen [] = many_seen []
  huge_seen (a ∷ []) = huge_by (t.integer_argument a) ∙ ap (map_right f.huge_of) (sym (argument_seen entries a))
  huge_seen (a ∷ b ∷ more) = many_seen (a ∷ b ∷ more)

  named_if : (xs : List Elab) (b c : Bool) → told entries (if b then t.int_tree xs else if c then t.huge_tree xs else Err (also E304 (all xs))) ≡ (if b then f.int_told (map (told entries) xs) else if c then f.huge_told (map (told entries) xs) else Err (least_from E304 (map (told entries) xs)))
  named_if xs true c = int_seen xs
  named_if xs false true = huge_seen xs
  named_if xs false false = ap Err (sym (least_seen entries E304 xs))

  function_seen : (name : List ℕ) (xs : List Elab) (code : Option ℕ) → told entries (t.function_tree name xs code) ≡ f.function_told name (map (told entries) xs) code
  function_seen name xs (Some code) = function_of_seen code xs
  function_seen name xs None = named_if xs (is_int name) (is_huge name)

  module _ (unit_name : List ℕ) where
    abbrev scope : Scope
    scope = scope_of entries

    undeclared_if : (b : Bool) → told entries (if b then Err E414 else Err E304) ≡ (if b then Err E414 else Err E304)
    undeclared_if true = refl
    undeclared_if false = refl

    variable_is : (name : List ℕ) (k : Option Known) (symbol : SymId) (ty : ScalarType) → known_in entries name ≡ k → k ≡ Some (known.Variable symbol ty) → told entries (Ok (t.variable_tree unit_name scope name (type_of ty))) ≡ f.name_told name (Some (known.Variable symbol ty))
    variable_is name k symbol ty e g =
        ap (λ u. Ok (record { ty = u; writes = None; variable = Some (symbol_of (known_in entries name)); is_constant = false })) (type_again ty)
        ∙ ap (λ o. Ok (record { ty = ty; writes = None; variable = Some (symbol_of o); is_constant = false })) (e ∙ g)

    name_by : (name : List ℕ) (k : Option Known) → known_in entries name ≡ k → told entries (t.name_tree unit_name scope name (option_map entity_known k)) ≡ f.name_told name k
    name_by name (Some (known.Variable symbol ty)) e = variable_is name (Some (known.Variable symbol ty)) symbol ty e refl
    name_by name (Some (known.NamedConstant ty value)) e = ap (λ u. Ok (plain u true)) (type_again ty)
    name_by name None e = undeclared_if (is_intrinsic name)

    name_seen : (name : List ℕ) → told entries (t.name_tree unit_name scope name (entity_of scope name)) ≡ f.name_told name (known_in entries name)
    name_seen name = ap (λ o. told entries (t.name_tree unit_name scope name o)) (sym (entity_found entries name)) ∙ name_by name (known_in entries name) refl

    call_by : (name : List ℕ) (xs : List Elab) (k : Option Known) → told entries (t.call_tree unit_name scope name xs (option_map entity_known k)) ≡ f.call_told name (map (told entries) xs) k
    call_by name xs None = function_seen name xs (intrinsic_named name)
    call_by name xs (Some k) = ap Err (sym (least_seen entries E404 xs))

    call_seen : (name : List ℕ) (xs : List Elab) → told entries (t.call_tree unit_name scope name xs (entity_of scope name)) ≡ f.call_told name (map (told entries) xs) (known_in entries name)
    call_seen name xs = ap (λ o. told entries (t.call_tree unit_name scope name xs o)) (sym (entity_found entries name)) ∙ call_by name xs (known_in entries name)

    abbrev part_seen : Part Elab → Part Told
    part_seen (Named name) = Named name
    part_seen (Grouped xs) = Grouped (map (told entries) xs)

    parts_seen : (ps : List (Part Elab)) → told entries (t.parts_tree unit_name scope ps) ≡ f.parts_told entries (map part_seen ps)
    parts_seen [] = refl
    parts_seen (Named name ∷ []) = name_seen name
    parts_seen (Grouped xs ∷ []) = refl
    parts_seen (Named name ∷ Named other ∷ []) = refl
    parts_seen (Named name ∷ Grouped xs ∷ []) = call_seen name xs
    parts_seen (Grouped xs ∷ q ∷ []) = refl
    parts_seen (Named name ∷ Named other ∷ r ∷ more) = refl
    parts_seen (Named name ∷ Grouped xs ∷ r ∷ more) = refl
    parts_seen (Grouped xs ∷ q ∷ r ∷ more) = refl

    abbrev te : Expr → Elab
    te = t.elab_expr unit_name scope

    abbrev fe : Expr → Told
    fe = f.expr_told entries

    abbrev tp : RefPart → Part Elab
    tp = fold-RefPart Elab (Part Elab) Elab (t.expr_layer unit_name scope) (t.part_layer unit_name scope) (t.designator_layer unit_name scope)

    abbrev fp : RefPart → Part Told
    fp = f.part_told entries

    abbrev td : Designator → Elab
    td = t.elab_designator unit_name scope

    abbrev fd : Designator → Told
    fd = f.designator_told entries

    abbrev C : Elab → Told → Type 0
    C a b = told entries a ≡ b

    abbrev PartOf : Part Elab → Part Told → Type 0
    PartOf p q = part_seen p ≡ q

    abbrev SA : Type 0
    SA = (x : Expr) × C (te x) (fe x)

    abbrev SB : Type 0
    SB = (x : RefPart) × PartOf (tp x) (fp x)

    abbrev SC : Type 0
    SC = (x : Designator) × C (td x) (fd x)

    all_of : (xs : List SA) → map (told entries) (map te (map (λ x. x.0) xs)) ≡ map fe (map (λ x. x.0) xs)
    all_of [] = refl
    all_of (x ∷ xs) = ap (λ a. a ∷ map (told entries) (map te (map (λ y. y.0) xs))) x.1 ∙ ap (λ ys. fe x.0 ∷ ys) (all_of xs)

    parts_of : (xs : List SB) → map part_seen (map tp (map (λ x. x.0) xs)) ≡ map fp (map (λ x. x.0) xs)
    parts_of [] = refl
    parts_of (x ∷ xs) = ap (λ a. a ∷ map part_seen (map tp (map (λ y. y.0) xs))) x.1 ∙ ap (λ ys. fp x.0 ∷ ys) (parts_of xs)

    at_expr : (y : Expr-F SA SB SC) → C (t.expr_layer unit_name scope (map-Expr Expr RefPart Designator Elab (Part Elab) Elab te tp td (map-Expr SA SB SC Expr RefPart Designator (λ x. x.0) (λ x. x.0) (λ x. x.0) y))) (f.expr_layer entries (map-Expr Expr RefPart Designator Told (Part Told) Told fe fp fd (map-Expr SA SB SC Expr RefPart Designator (λ x. x.0) (λ x. x.0) (λ x. x.0) y)))
    at_expr (Expr-F.Int digits suffix) = literal_seen digits suffix
    at_expr (Expr-F.Log v) = refl
    at_expr (Expr-F.Ref designator) = designator.1
    at_expr (Expr-F.Unary code operand) = unary_seen code (operator_of code) (te operand.0) ∙ ap (f.unary_told (operator_of code)) operand.1
    at_expr (Expr-F.Binary code left right) =
        binary_seen code (operator_of code) (te left.0) (te right.0)
        ∙ (ap (λ a. f.binary_told (operator_of code) a (told entries (te right.0))) left.1
        ∙ ap (f.binary_told (operator_of code) (fe left.0)) right.1)
    at_expr (Expr-F.Paren inside) = paren_seen (te inside.0) ∙ ap f.paren_told inside.1
    at_expr (Expr-F.Char bytes) = refl
    at_expr (Expr-F.Triple lower upper step) = refl
    at_expr (Expr-F.Array items) = refl
    at_expr (Expr-F.Loop variable lower upper step items) = refl

    at_part : (y : RefPart-F SA SB SC) → PartOf (t.part_layer unit_name scope (map-RefPart Expr RefPart Designator Elab (Part Elab) Elab te tp td (map-RefPart SA SB SC Expr RefPart Designator (λ x. x.0) (λ x. x.0) (λ x. x.0) y))) (f.part_layer entries (map-RefPart Expr RefPart Designator Told (Part Told) Told fe fp fd (map-RefPart SA SB SC Expr RefPart Designator (λ x. x.0) (λ x. x.0) (λ x. x.0) y)))
    at_part (RefPart-F.Part name) = refl
    at_part (RefPart-F.Group arguments) = ap Grouped (all_of arguments)

    at_designator : (y : Designator-F SA SB SC) → C (t.designator_layer unit_name scope (map-Designator Expr RefPart Designator Elab (Part Elab) Elab te tp td (map-Designator SA SB SC Expr RefPart Designator (λ x. x.0) (λ x. x.0) (λ x. x.0) y))) (f.designator_layer entries (map-Designator Expr RefPart Designator Told (Part Told) Told fe fp fd (map-Designator SA SB SC Expr RefPart Designator (λ x. x.0) (λ x. x.0) (λ x. x.0) y)))
    at_designator y = parts_seen (map tp (map (λ x. x.0) y.parts)) ∙ ap (f.parts_told entries) (parts_of y.parts)

    both_sides : (z : Expr-F Expr RefPart Designator) → C (t.expr_layer unit_name scope (map-Expr Expr RefPart Designator Elab (Part Elab) Elab te tp td z)) (f.expr_layer entries (map-Expr Expr RefPart Designator Told (Part Told) Told fe fp fd z)) → C (te (roll-Expr z)) (fe (roll-Expr z))
    both_sides z h =
        ap (told entries) (fold-roll-Expr Elab (Part Elab) Elab (t.expr_layer unit_name scope) (t.part_layer unit_name scope) (t.designator_layer unit_name scope) z)
        ∙ (h ∙ sym (fold-roll-Expr Told (Part Told) Told (f.expr_layer entries) (f.part_layer entries) (f.designator_layer entries) z))

    both_parts : (z : RefPart-F Expr RefPart Designator) → PartOf (t.part_layer unit_name scope (map-RefPart Expr RefPart Designator Elab (Part Elab) Elab te tp td z)) (f.part_layer entries (map-RefPart Expr RefPart Designator Told (Part Told) Told fe fp fd z)) → PartOf (tp (roll-RefPart z)) (fp (roll-RefPart z))
    both_parts z h =
        ap part_seen (fold-roll-RefPart Elab (Part Elab) Elab (t.expr_layer unit_name scope) (t.part_layer unit_name scope) (t.designator_layer unit_name scope) z)
        ∙ (h ∙ sym (fold-roll-RefPart Told (Part Told) Told (f.expr_layer entries) (f.part_layer entries) (f.designator_layer entries) z))

    both_designators : (z : Designator-F Expr RefPart Designator) → C (t.designator_layer unit_name scope (map-Designator Expr RefPart Designator Elab (Part Elab) Elab te tp td z)) (f.designator_layer entries (map-Designator Expr RefPart Designator Told (Part Told) Told fe fp fd z)) → C (td (roll-Designator z)) (fd (roll-Designator z))
    both_designators z h =
        ap (told entries) (fold-roll-Designator Elab (Part Elab) Elab (t.expr_layer unit_name scope) (t.part_layer unit_name scope) (t.designator_layer unit_name scope) z)
        ∙ (h ∙ sym (fold-roll-Designator Told (Part Told) Told (f.expr_layer entries) (f.part_layer entries) (f.designator_layer entries) z))

    each_expression : (x : Expr) → C (te x) (fe x)
    each_expression =
        ind-Expr (λ x. C (te x) (fe x)) (λ x. PartOf (tp x) (fp x)) (λ x. C (td x) (fd x))
        (λ x y q. subst (λ z. C (te (roll-Expr z)) (fe (roll-Expr z))) q (both_sides (map-Expr SA SB SC Expr RefPart Designator (λ s. s.0) (λ s. s.0) (λ s. s.0) y) (at_expr y)))
        (λ x y q. subst (λ z. PartOf (tp (roll-RefPart z)) (fp (roll-RefPart z))) q (both_parts (map-RefPart SA SB SC Expr RefPart Designator (λ s. s.0) (λ s. s.0) (λ s. s.0) y) (at_part y)))
        (λ x y q. subst (λ z. C (td (roll-Designator z)) (fd (roll-Designator z))) q (both_designators (map-Designator SA SB SC Expr RefPart Designator (λ s. s.0) (λ s. s.0) (λ s. s.0) y) (at_designator y)))

    each_designator : (x : Designator) → C (td x) (fd x)
    each_designator =
        ind-Designator (λ x. C (te x) (fe x)) (λ x. PartOf (tp x) (fp x)) (λ x. C (td x) (fd x))
        (λ x y q. subst (λ z. C (te (roll-Expr z)) (fe (roll-Expr z))) q (both_sides (map-Expr SA SB SC Expr RefPart Designator (λ s. s.0) (λ s. s.0) (λ s. s.0) y) (at_expr y)))
        (λ x y q. subst (λ z. PartOf (tp (roll-RefPart z)) (fp (roll-RefPart z))) q (both_parts (map-RefPart SA SB SC Expr RefPart Designator (λ s. s.0) (λ s. s.0) (λ s. s.0) y) (at_part y)))
        (λ x y q. subst (λ z. C (td (roll-Designator z)) (fd (roll-Designator z))) q (both_designators (map-Designator SA SB SC Expr RefPart Designator (λ s. s.0) (λ s. s.0) (λ s. s.0) y) (at_designator y)))

pub expression_seen : (unit_name : List ℕ) (entries : Entries) (x : Expr) → f.expr_told entries x ≡ told entries (t.elab_expr unit_name (scope_of entries) x)
expression_seen unit_name entries x = sym (each_expression entries unit_name x)

pub designator_seen : (unit_name : List ℕ) (entries : Entries) (x : Designator) → f.designator_told entries x ≡ told entries (t.elab_designator unit_name (scope_of entries) x)
designator_seen unit_name entries x = sym (each_designator entries unit_name x)
