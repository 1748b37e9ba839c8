-- The expressions of a tree by their nodes.
use Rattle.std.proofs.Common.{◌≡◌, ◌<◌, List, [], ◌∷◌, map, length, Result, refl, sym, ap, subst, ◌∙◌}
use Rattle.lf_base.specs.Outcome.{Location}
use Rattle.lf_base.specs.declared.id.ExprId.{ExprId}
use Rattle.lf_base.specs.declared.id.SymId.{SymId}
use Rattle.asr_nodes.specs.Nodes.{Nodes, expr_tree, reads}
use Rattle.asr_nodes.specs.Reading.{Path, expr_node}
use Rattle.asr_nodes.specs.Units.{path}
use Rattle.asr_nodes.specs.declared.node.Expr.{Expr}
use Rattle.asr_nodes.specs.declared.node.Expr.TheVariants as e
use Rattle.asr_nodes.proofs.Missing.{no_expr_there}
use Rattle.asr_nodes.proofs.TreeFolds as trees
use Rattle.c_nodes.specs.declared.tree.CExpr.TheVariants.{Constant}
use Rattle.c_printer.specs.declared.scalar.ScalarType.TheVariants.{Logical}
use Rattle.c_printer.specs.Lowering.{computed, give}
use Rattle.c_printer.specs.Lowered.{expression_of, expression_at}
use Rattle.c_printer.specs.declared.scalar.Value.{Value}
use Rattle.c_printer.specs.Writing.{Written, Writes}
use Rattle.lf_base.specs.declared.fault.Memory.{Memory}
use Rattle.c_printer.specs.Places.{laid, spot_of, place_of, constant_in}
use Rattle.c_printer.specs.Statements.{nothing, item_layer, stmt_layer, expression}
use Rattle.c_printer.specs.Units.{UnitScope, types_of}
use Rattle.c_printer.specs.Values.{Expression, Doing, Item, expr_layer, only_value, typed, intrinsic_value}
use Rattle.type_rules.specs.Codes.{intrinsic_of}

map_twice : {A B C : Type 0} (f : B → C) (g : A → B) (xs : List A) → map f (map g xs) ≡ map (λ x. f (g x)) xs
map_twice f g [] = refl
map_twice f g (x ∷ xs) = ap (λ ys. f (g x) ∷ ys) (map_twice f g xs)

module _ (u : UnitScope) where
  -- each node is laid by its parts
  pub node_is : (node : Expr) → expression_at u node ≡ laid u node
  node_is (e.IntConst a b) = trees.fold_expr-IntConst (Unit {0}) Expression Item (Unit {0}) Doing (Unit {0}) nothing (expr_layer (types_of u)) item_layer nothing stmt_layer nothing _ _
  node_is (e.LogConst a) = trees.fold_expr-LogConst (Unit {0}) Expression Item (Unit {0}) Doing (Unit {0}) nothing (expr_layer (types_of u)) item_layer nothing stmt_layer nothing _
  node_is (e.CharConst a) = trees.fold_expr-CharConst (Unit {0}) Expression Item (Unit {0}) Doing (Unit {0}) nothing (expr_layer (types_of u)) item_layer nothing stmt_layer nothing _
  node_is (e.Var a) = trees.fold_expr-Var (Unit {0}) Expression Item (Unit {0}) Doing (Unit {0}) nothing (expr_layer (types_of u)) item_layer nothing stmt_layer nothing _
  node_is (e.Item a b) = trees.fold_expr-Item (Unit {0}) Expression Item (Unit {0}) Doing (Unit {0}) nothing (expr_layer (types_of u)) item_layer nothing stmt_layer nothing _ _
  node_is (e.Section a b) = trees.fold_expr-Section (Unit {0}) Expression Item (Unit {0}) Doing (Unit {0}) nothing (expr_layer (types_of u)) item_layer nothing stmt_layer nothing _ _
  node_is (e.Field a b) = trees.fold_expr-Field (Unit {0}) Expression Item (Unit {0}) Doing (Unit {0}) nothing (expr_layer (types_of u)) item_layer nothing stmt_layer nothing _ _
  node_is (e.Substring a b c) = trees.fold_expr-Substring (Unit {0}) Expression Item (Unit {0}) Doing (Unit {0}) nothing (expr_layer (types_of u)) item_layer nothing stmt_layer nothing _ _ _
  node_is (e.Unary a b) = trees.fold_expr-Unary (Unit {0}) Expression Item (Unit {0}) Doing (Unit {0}) nothing (expr_layer (types_of u)) item_layer nothing stmt_layer nothing _ _
  node_is (e.Binary a b c) = trees.fold_expr-Binary (Unit {0}) Expression Item (Unit {0}) Doing (Unit {0}) nothing (expr_layer (types_of u)) item_layer nothing stmt_layer nothing _ _ _
  node_is (e.Convert a b) = trees.fold_expr-Convert (Unit {0}) Expression Item (Unit {0}) Doing (Unit {0}) nothing (expr_layer (types_of u)) item_layer nothing stmt_layer nothing _ _
  node_is (e.Paren a) = trees.fold_expr-Paren (Unit {0}) Expression Item (Unit {0}) Doing (Unit {0}) nothing (expr_layer (types_of u)) item_layer nothing stmt_layer nothing _
  node_is (e.Invoke a b) = trees.fold_expr-Invoke (Unit {0}) Expression Item (Unit {0}) Doing (Unit {0}) nothing (expr_layer (types_of u)) item_layer nothing stmt_layer nothing _ _
  node_is (e.Intrinsic a b) =
      trees.fold_expr-Intrinsic (Unit {0}) Expression Item (Unit {0}) Doing (Unit {0}) nothing (expr_layer (types_of u)) item_layer nothing stmt_layer nothing _ _
      ∙ ap (λ es. only_value (intrinsic_value (intrinsic_of a) es)) (map_twice (expression (types_of u)) (expr_tree u.asr (path u.asr)) b)
  node_is (e.Construct a b) = trees.fold_expr-Construct (Unit {0}) Expression Item (Unit {0}) Doing (Unit {0}) nothing (expr_layer (types_of u)) item_layer nothing stmt_layer nothing _ _
  node_is (e.Array a) = trees.fold_expr-Array (Unit {0}) Expression Item (Unit {0}) Doing (Unit {0}) nothing (expr_layer (types_of u)) item_layer nothing stmt_layer nothing _
  node_is (e.Temp a) = trees.fold_expr-Temp (Unit {0}) Expression Item (Unit {0}) Doing (Unit {0}) nothing (expr_layer (types_of u)) item_layer nothing stmt_layer nothing _
  node_is (e.Extent a b) = trees.fold_expr-Extent (Unit {0}) Expression Item (Unit {0}) Doing (Unit {0}) nothing (expr_layer (types_of u)) item_layer nothing stmt_layer nothing _ _
  node_is (e.Seq a b) = trees.fold_expr-Seq (Unit {0}) Expression Item (Unit {0}) Doing (Unit {0}) nothing (expr_layer (types_of u)) item_layer nothing stmt_layer nothing _ _
  node_is (e.TempAt a b) = trees.fold_expr-TempAt (Unit {0}) Expression Item (Unit {0}) Doing (Unit {0}) nothing (expr_layer (types_of u)) item_layer nothing stmt_layer nothing _ _
  node_is (e.SecLen a b c d e) = trees.fold_expr-SecLen (Unit {0}) Expression Item (Unit {0}) Doing (Unit {0}) nothing (expr_layer (types_of u)) item_layer nothing stmt_layer nothing _ _ _ _ _
  node_is (e.Arr a b c) = trees.fold_expr-Arr (Unit {0}) Expression Item (Unit {0}) Doing (Unit {0}) nothing (expr_layer (types_of u)) item_layer nothing stmt_layer nothing _ _ _
  node_is (e.At a b c) = trees.fold_expr-At (Unit {0}) Expression Item (Unit {0}) Doing (Unit {0}) nothing (expr_layer (types_of u)) item_layer nothing stmt_layer nothing _ _ _

  pub found_is : (a : Nodes) (id : ExprId) (node : Expr) → a ≡ u.asr → ((path : SymId → Path) → expr_tree a path id ≡ expr_node (reads a path) node) → expression_of u id ≡ laid u node
  found_is a id node e h =
      ap (expression (types_of u)) (subst (λ b. (path : SymId → Path) → expr_tree b path id ≡ expr_node (reads b path) node) e h (path u.asr)) ∙ node_is node

  pub missing_is : (a : Nodes) (id : ExprId) → a ≡ u.asr → (id.0 < length a.exprs → ⊥) → expression_of u id ≡ only_value (λ here. typed Logical (computed (Constant 0)))
  missing_is a id e h =
      ap (expression (types_of u)) (no_expr_there u.asr (path u.asr) id (subst (λ (b : Nodes). id.0 < length b.exprs → ⊥) e h))
      ∙ trees.fold_expr-LogConst (Unit {0}) Expression Item (Unit {0}) Doing (Unit {0}) nothing (expr_layer (types_of u)) item_layer nothing stmt_layer nothing 0

  place_is : (node : Expr) (here : Location) → (laid u node).place here ≡ give (place_of u (spot_of node))
  place_is (e.IntConst a b) here = refl
  place_is (e.LogConst a) here = refl
  place_is (e.CharConst a) here = refl
  place_is (e.Var a) here = refl
  place_is (e.Item a b) here = refl
  place_is (e.Section a b) here = refl
  place_is (e.Field a b) here = refl
  place_is (e.Substring a b c) here = refl
  place_is (e.Unary a b) here = refl
  place_is (e.Binary a b c) here = refl
  place_is (e.Convert a b) here = refl
  place_is (e.Paren a) here = refl
  place_is (e.Invoke a b) here = refl
  place_is (e.Intrinsic a b) here = refl
  place_is (e.Construct a b) here = refl
  place_is (e.Array a) here = refl
  place_is (e.Temp a) here = refl
  place_is (e.Extent a b) here = refl
  place_is (e.Seq a b) here = refl
  place_is (e.TempAt a b) here = refl
  place_is (e.SecLen a b c d e) here = refl
  place_is (e.Arr a b c) here = refl
  place_is (e.At a b c) here = refl

  pub place_found : (a : Nodes) (id : ExprId) (node : Expr) → a ≡ u.asr → ((path : SymId → Path) → expr_tree a path id ≡ expr_node (reads a path) node)
      → (here : Location) → (expression_of u id).place here ≡ give (place_of u (spot_of node))
  place_found a id node e h here = ap (λ (x : Expression). x.place here) (found_is a id node e h) ∙ place_is node here

  constant_is : (node : Expr) → (laid u node).constant ≡ constant_in node
  constant_is (e.IntConst a b) = refl
  constant_is (e.LogConst a) = refl
  constant_is (e.CharConst a) = refl
  constant_is (e.Var a) = refl
  constant_is (e.Item a b) = refl
  constant_is (e.Section a b) = refl
  constant_is (e.Field a b) = refl
  constant_is (e.Substring a b c) = refl
  constant_is (e.Unary a b) = refl
  constant_is (e.Binary a b c) = refl
  constant_is (e.Convert a b) = refl
  constant_is (e.Paren a) = refl
  constant_is (e.Invoke a b) = refl
  constant_is (e.Intrinsic a b) = refl
  constant_is (e.Construct a b) = refl
  constant_is (e.Array a) = refl
  constant_is (e.Temp a) = refl
  constant_is (e.Extent a b) = refl
  constant_is (e.Seq a b) = refl
  constant_is (e.TempAt a b) = refl
  constant_is (e.SecLen a b c d e) = refl
  constant_is (e.Arr a b c) = refl
  constant_is (e.At a b c) = refl

  pub constant_found : (a : Nodes) (id : ExprId) (node : Expr) → a ≡ u.asr → ((path : SymId → Path) → expr_tree a path id ≡ expr_node (reads a path) node)
      → (expression_of u id).constant ≡ constant_in node
  constant_found a id node e h = ap (λ (x : Expression). x.constant) (found_is a id node e h) ∙ constant_is node

  pub value_found : (a : Nodes) (id : ExprId) (node : Expr) (w v : Written) (r : Result Value Memory) (here : Location) → a ≡ u.asr
      → ((path : SymId → Path) → expr_tree a path id ≡ expr_node (reads a path) node) → Writes w v r ((laid u node).value here) → Writes w v r ((expression_of u id).value here)
  value_found a id node w v r here e h k = subst (λ (x : Expression). Writes w v r (x.value here)) (sym (found_is a id node e h)) k

  pub value_missing : (a : Nodes) (id : ExprId) (w v : Written) (r : Result Value Memory) (here : Location) → a ≡ u.asr
      → (id.0 < length a.exprs → ⊥) → Writes w v r (typed Logical (computed (Constant 0))) → Writes w v r ((expression_of u id).value here)
  value_missing a id w v r here e h k = subst (λ (x : Expression). Writes w v r (x.value here)) (sym (missing_is a id e h)) k
