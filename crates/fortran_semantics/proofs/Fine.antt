-- What expressions do is the same at any bound, and they only write more.
use Rattle.std.proofs.Common.{ℕ, Bool, true, false, if◌then◌else◌, List, [], ◌∷◌, map, Option, Some, None, sym, subst, ◌==◌}
use Rattle.std.specs.List.{AllByRecursion}
use Rattle.lf_base.specs.Outcome.{Location, Stuck}
use Rattle.lf_base.specs.Acts.{wrong}
use Rattle.lf_base.specs.Operators.{operator_of}
use Rattle.ast_nodes.specs.declared.expression.Designator.{Designator, Designator-F, map-Designator, roll-Designator, fold-roll-Designator, ind-Designator}
use Rattle.ast_nodes.specs.declared.expression.Expr.{Expr, Expr-F, map-Expr, roll-Expr, fold-roll-Expr, ind-Expr}
use Rattle.ast_nodes.specs.declared.expression.RefPart.{RefPart, RefPart-F, map-RefPart, roll-RefPart, fold-RefPart, fold-roll-RefPart}
use Rattle.type_rules.specs.Arrays.{scalars_of, single}
use Rattle.type_rules.specs.Bindings.{Binding}
use Rattle.type_rules.specs.Store.{Value}
use Rattle.type_rules.specs.Values.{Scalar, Logical, Evaluation, Gives}
use Rattle.asr_nodes.specs.declared.code.TheConstants.{TRUE}
use Rattle.type_rules.specs.declared.constant.Op.{Op}
use Rattle.type_rules.specs.declared.constant.Op.TheVariants.{Unary, Binary, Intrinsic, Convert}
use Rattle.asr_semantics.specs.Machine.{M, stuck, variable, fetch}
use Rattle.asr_semantics.specs.Meaning.{operate, on_scalars, truth_of, decides, needed, or_left, same}
use Rattle.asr_semantics.proofs.Longer.{Longer, bind_longer, give_longer, wrong_longer, stuck_longer, result_longer, variable_longer, fetch_longer}
use Rattle.fortran_semantics.specs.Constants.{Part, Named, Grouped, Constant, intrinsic_named, is_int, is_huge, huge_of, literal_value}
use Rattle.fortran_semantics.specs.Declared.{Declared, Declaration, Variable, Parameter, Other, ScalarType, declared_as}
use Rattle.fortran_semantics.specs.Meaning.{Meant, Known, only_value, no_rule, given_scalar, unary_value, binary_value, each_value, converted, int_to, int_of, huge_one, function_meant, known_in, path_to, variable_meant, constant_meant, name_meant, call_meant, parts_meant, expr_layer, part_layer, designator_layer, expression, designated}

pub record Fine (m : Meant) : Type 0 where
  pub value : (here : Location) → Longer Value (m.value here) (m.value here)
  pub place : Longer Binding m.place m.place

only_fine : (v : Location → M Value) (kind : Option ℕ) → ((here : Location) → Longer Value (v here) (v here)) → Fine (only_value v kind)
only_fine v kind h = record { value = h; place = wrong_longer Binding }

no_rule_fine : Fine no_rule
no_rule_fine = only_fine (λ here. wrong Stuck) None (λ here. wrong_longer Value)

scalar_fine : (x : Evaluation Scalar) (here : Location) → Longer Value (given_scalar x here) (given_scalar x here)
scalar_fine x here = result_longer Value here (single x)

operate_fine : (here : Location) (op : Op) (vs : List Value) → Longer Value (operate here op vs) (operate here op vs)
operate_fine here op vs = result_longer Value here (on_scalars op (scalars_of vs))

unary_fine : (code : ℕ) (e : Meant) → Fine e → (here : Location) → Longer Value (unary_value code e here) (unary_value code e here)
unary_fine code e h here = bind_longer Value Value (e.value here) (e.value here) _ _ (h.value here) (λ v. operate_fine here (Unary code) (v ∷ []))

left_fine : (left : Value) (more : M Value) → Longer Value more more → (t : Bool) → Longer Value (or_left left more t) (or_left left more t)
left_fine left more h true = h
left_fine left more h false = give_longer Value left

needed_fine : (o : Option Bool) (left : Value) (more : M Value) → Longer Value more more → Longer Value (needed o left more) (needed o left more)
needed_fine None left more h = h
needed_fine (Some needs) left more h = bind_longer Bool Value (stuck (truth_of left)) (stuck (truth_of left)) _ _ (stuck_longer Bool (truth_of left)) (λ t. left_fine left more h (same needs t))

binary_fine : (code : ℕ) (a b : Meant) → Fine a → Fine b → (here : Location) → Longer Value (binary_value code a b here) (binary_value code a b here)
binary_fine code a b h k here =
    bind_longer Value Value (a.value here) (a.value here) _ _ (h.value here) (λ l.
    needed_fine (decides (operator_of code)) l _ (bind_longer Value Value (b.value here) (b.value here) _ _ (k.value here) (λ r. operate_fine here (Binary code) (l ∷ r ∷ []))))

pub converted_fine : (kind : ℕ) (e : Meant) → Fine e → (here : Location) → Longer Value (converted kind e here) (converted kind e here)
converted_fine kind e h here = bind_longer Value Value (e.value here) (e.value here) _ _ (h.value here) (λ v. operate_fine here (Convert kind) (v ∷ []))

values_fine : (here : Location) (es : List Meant) → AllByRecursion Fine es → Longer (List Value) (each_value here es) (each_value here es)
values_fine here [] h = give_longer (List Value) []
values_fine here (e ∷ es) h =
    bind_longer Value (List Value) (e.value here) (e.value here) _ _ (h.0.value here) (λ v.
    bind_longer (List Value) (List Value) (each_value here es) (each_value here es) _ _ (values_fine here es h.1) (λ vs. give_longer (List Value) (v ∷ vs)))

to_fine : (e : Meant) → Fine e → (o : Option ℕ) → Fine (int_to e o)
to_fine e h None = no_rule_fine
to_fine e h (Some kind) = only_fine _ _ (converted_fine kind e h)

int_fine : (es : List Meant) → AllByRecursion Fine es → Fine (int_of es)
int_fine [] h = no_rule_fine
int_fine (e ∷ []) h = only_fine _ _ (converted_fine 4 e h.0)
int_fine (e ∷ k ∷ []) h = to_fine e h.0 k.writes
int_fine (e ∷ k ∷ f ∷ es) h = no_rule_fine

huge_fine : (es : List Meant) → Fine (huge_one es)
huge_fine [] = no_rule_fine
huge_fine (e ∷ []) = only_fine _ _ (scalar_fine (huge_of e.kind))
huge_fine (e ∷ f ∷ es) = no_rule_fine

function_fine : (name : List ℕ) (es : List Meant) → AllByRecursion Fine es → (o : Option ℕ) → Fine (function_meant name es o)
function_fine name es h (Some code) = only_fine _ _ (λ here. bind_longer (List Value) Value (each_value here es) (each_value here es) _ _ (values_fine here es h) (operate_fine here (Intrinsic code)))
function_fine name es h None = by (is_int name) (is_huge name)
  where
    by : (s t : Bool) → Fine (if s then int_of es else if t then huge_one es else no_rule)
    by true t = int_fine es h
    by false true = huge_fine es
    by false false = no_rule_fine

FinePart : Part Meant → Type 0
FinePart (Named name) = Unit {0}
FinePart (Grouped arguments) = AllByRecursion Fine arguments

module _ (unit_name : List ℕ) (declared : List Declared) (known : Known) where
  variable_fine : (name : List ℕ) (ty : ScalarType) → Fine (variable_meant unit_name declared known name ty)
  variable_fine name ty = record {
    value = λ here. bind_longer Binding Value (variable (path_to unit_name declared known name)) (variable (path_to unit_name declared known name)) fetch fetch (variable_longer (path_to unit_name declared known name)) fetch_longer;
    place = variable_longer (path_to unit_name declared known name);
  }

  constant_fine : (o : Option Constant) → Fine (constant_meant unit_name declared known o)
  constant_fine None = no_rule_fine
  constant_fine (Some c) = only_fine _ _ (scalar_fine c.value)

  pub name_fine : (name : List ℕ) (o : Option Declaration) → Fine (name_meant unit_name declared known name o)
  name_fine name None = no_rule_fine
  name_fine name (Some Other) = no_rule_fine
  name_fine name (Some (Variable ty init)) = variable_fine name ty
  name_fine name (Some (Parameter ty value)) = constant_fine (known_in known name)

  call_fine : (name : List ℕ) (es : List Meant) → AllByRecursion Fine es → (o : Option Declaration) → Fine (call_meant unit_name declared known name es o)
  call_fine name es h None = function_fine name es h (intrinsic_named name)
  call_fine name es h (Some d) = no_rule_fine

  parts_fine : (ps : List (Part Meant)) → AllByRecursion FinePart ps → Fine (parts_meant unit_name declared known ps)
  unfolding FinePart
  parts_fine [] h = no_rule_fine
  parts_fine (Named name ∷ []) h = name_fine name (declared_as declared name)
  parts_fine (Named name ∷ Grouped es ∷ []) h = call_fine name es h.1.0 (declared_as declared name)
  parts_fine (Named name ∷ Named other ∷ ps) h = no_rule_fine
  parts_fine (Named name ∷ Grouped es ∷ p ∷ ps) h = no_rule_fine
  parts_fine (Grouped es ∷ ps) h = no_rule_fine

  abbrev e : Expr → Meant
  e = expression unit_name declared known

  abbrev p : RefPart → Part Meant
  p = fold-RefPart Meant (Part Meant) Meant (expr_layer unit_name declared known) (part_layer unit_name declared known) (designator_layer unit_name declared known)

  abbrev d : Designator → Meant
  d = designated unit_name declared known

  abbrev SA : Type 0
  SA = (x : Expr) × Fine (e x)

  abbrev SB : Type 0
  SB = (x : RefPart) × FinePart (p x)

  abbrev SC : Type 0
  SC = (x : Designator) × Fine (d x)

  all_fine : (xs : List SA) → AllByRecursion Fine (map e (map (λ x. x.0) xs))
  all_fine [] = tt
  all_fine (x ∷ xs) = (x.1, all_fine xs)

  each_part_fine : (xs : List SB) → AllByRecursion FinePart (map p (map (λ x. x.0) xs))
  each_part_fine [] = tt
  each_part_fine (x ∷ xs) = (x.1, each_part_fine xs)

  at_expr : (y : Expr-F SA SB SC) → Fine (expr_layer unit_name declared known (map-Expr Expr RefPart Designator Meant (Part Meant) Meant e p d (map-Expr SA SB SC Expr RefPart Designator (λ x. x.0) (λ x. x.0) (λ x. x.0) y)))
  at_expr (Expr-F.Int digits suffix) = record { value = scalar_fine (literal_value digits suffix); place = wrong_longer Binding }
  at_expr (Expr-F.Log value) = only_fine _ _ (scalar_fine (Gives (Logical (value == TRUE))))
  at_expr (Expr-F.Ref designator) = designator.1
  at_expr (Expr-F.Unary operator operand) = only_fine _ _ (unary_fine operator _ operand.1)
  at_expr (Expr-F.Binary operator left right) = only_fine _ _ (binary_fine operator _ _ left.1 right.1)
  at_expr (Expr-F.Paren inner) = only_fine _ _ inner.1.value
  at_expr (Expr-F.Char bytes) = no_rule_fine
  at_expr (Expr-F.Triple lower upper step) = no_rule_fine
  at_expr (Expr-F.Array items) = no_rule_fine
  at_expr (Expr-F.Loop variable lower upper step items) = no_rule_fine

  at_part : (y : RefPart-F SA SB SC) → FinePart (part_layer unit_name declared known (map-RefPart Expr RefPart Designator Meant (Part Meant) Meant e p d (map-RefPart SA SB SC Expr RefPart Designator (λ x. x.0) (λ x. x.0) (λ x. x.0) y)))
  unfolding FinePart
  at_part (RefPart-F.Part name) = tt
  at_part (RefPart-F.Group arguments) = all_fine arguments

  at_designator : (y : Designator-F SA SB SC) → Fine (designator_layer unit_name declared known (map-Designator Expr RefPart Designator Meant (Part Meant) Meant e p d (map-Designator SA SB SC Expr RefPart Designator (λ x. x.0) (λ x. x.0) (λ x. x.0) y)))
  at_designator y = parts_fine _ (each_part_fine y.parts)

  layer_expr : (y : Expr-F SA SB SC) → Fine (e (roll-Expr (map-Expr SA SB SC Expr RefPart Designator (λ x. x.0) (λ x. x.0) (λ x. x.0) y)))
  layer_expr y = subst Fine (sym (fold-roll-Expr Meant (Part Meant) Meant (expr_layer unit_name declared known) (part_layer unit_name declared known) (designator_layer unit_name declared known) (map-Expr SA SB SC Expr RefPart Designator (λ x. x.0) (λ x. x.0) (λ x. x.0) y))) (at_expr y)

  layer_part : (y : RefPart-F SA SB SC) → FinePart (p (roll-RefPart (map-RefPart SA SB SC Expr RefPart Designator (λ x. x.0) (λ x. x.0) (λ x. x.0) y)))
  layer_part y = subst FinePart (sym (fold-roll-RefPart Meant (Part Meant) Meant (expr_layer unit_name declared known) (part_layer unit_name declared known) (designator_layer unit_name declared known) (map-RefPart SA SB SC Expr RefPart Designator (λ x. x.0) (λ x. x.0) (λ x. x.0) y))) (at_part y)

  layer_designator : (y : Designator-F SA SB SC) → Fine (d (roll-Designator (map-Designator SA SB SC Expr RefPart Designator (λ x. x.0) (λ x. x.0) (λ x. x.0) y)))
  layer_designator y = subst Fine (sym (fold-roll-Designator Meant (Part Meant) Meant (expr_layer unit_name declared known) (part_layer unit_name declared known) (designator_layer unit_name declared known) (map-Designator SA SB SC Expr RefPart Designator (λ x. x.0) (λ x. x.0) (λ x. x.0) y))) (at_designator y)

  pub expr_fine : (x : Expr) → Fine (e x)
  expr_fine = ind-Expr (λ x. Fine (e x)) (λ x. FinePart (p x)) (λ x. Fine (d x)) (λ x y q. subst (λ z. Fine (e (roll-Expr z))) q (layer_expr y)) (λ x y q. subst (λ z. FinePart (p (roll-RefPart z))) q (layer_part y)) (λ x y q. subst (λ z. Fine (d (roll-Designator z))) q (layer_designator y))

  pub designator_fine : (x : Designator) → Fine (d x)
  designator_fine = ind-Designator (λ x. Fine (e x)) (λ x. FinePart (p x)) (λ x. Fine (d x)) (λ x y q. subst (λ z. Fine (e (roll-Expr z))) q (layer_expr y)) (λ x y q. subst (λ z. FinePart (p (roll-RefPart z))) q (layer_part y)) (λ x y q. subst (λ z. Fine (d (roll-Designator z))) q (layer_designator y))
