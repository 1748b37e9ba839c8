-- How deep expressions are whose parts are lowered.
use Rattle.std.proofs.Common.{◌≡◌, ℕ, zero, suc, ◌+◌, ◌≤◌, List, [], ◌∷◌, map, slice_get, Option, Some, refl, ap, subst, ◌∙◌, arith}
use Rattle.lf_base.specs.declared.id.ExprId.{ExprId}
use Rattle.lf_base.specs.declared.id.SymId.{SymId}
use Rattle.asr_nodes.specs.Nodes.{Nodes, expr_tree, reads}
use Rattle.asr_nodes.specs.Reading.{Path, expr_node}
use Rattle.asr_nodes.specs.Units.{path}
use Rattle.asr_nodes.specs.declared.node.Expr.{Expr}
use Rattle.asr_nodes.specs.declared.node.Expr.TheVariants as e
use Rattle.asr_nodes.specs.declared.tree.ExprTree.{ExprTree, ExprTree-F, fold-ExprTree}
use Rattle.asr_nodes.proofs.TreeFolds as trees
use Rattle.c_printer.specs.Statements.{nothing}
use Rattle.c_printer.specs.Units.{UnitScope}
use Rattle.c_printer.specs.Lowered.{reading_of}

-- the sum of the depths of several
abbrev pub total : List ℕ → ℕ
total [] = 0
total (d ∷ ds) = d + total ds

abbrev U : Type 0
U = Unit {0}

abbrev layer : ExprTree-F U ℕ U U U U → ℕ
layer (ExprTree-F.Unary operator operand) = operand + 1
layer (ExprTree-F.Binary operator left right) = left + right + 1
layer (ExprTree-F.Convert kind operand) = operand + 1
layer (ExprTree-F.Paren inner) = inner + 1
layer (ExprTree-F.Intrinsic code arguments) = total arguments + 1
layer _ = 0

abbrev pub depth : ExprTree → ℕ
depth = fold-ExprTree U ℕ U U U U nothing layer nothing nothing nothing nothing

map_twice : {A B C : Type 0} (f : B → C) (g : A → B) (xs : List A) → map f (map g xs) ≡ map (λ x. f (g x)) xs
map_twice f g [] = refl
map_twice f g (x ∷ xs) = ap (λ ys. f (g x) ∷ ys) (map_twice f g xs)

module _ (u : UnitScope) where
  abbrev pub depth_of : ExprId → ℕ
  depth_of id = depth (expr_tree u.asr (path u.asr) id)

  -- of a node
  abbrev pub depth_at : Expr → ℕ
  depth_at node = depth (expr_node (reading_of u) node)

  pub found_depth : (a : Nodes) (id : ExprId) (node : Expr) → a ≡ u.asr → ((path : SymId → Path) → expr_tree a path id ≡ expr_node (reads a path) node) → depth_of id ≡ depth_at node
  found_depth a id node e h = ap depth (subst (λ b. (path : SymId → Path) → expr_tree b path id ≡ expr_node (reads b path) node) e h (path u.asr))

  pub depth-Unary : (node : Expr) (operator : ℕ) (operand : ExprId) → node ≡ e.Unary operator operand → depth_at node ≡ depth_of operand + 1
  depth-Unary node operator operand is = ap depth_at is ∙ trees.fold_expr-Unary U ℕ U U U U nothing layer nothing nothing nothing nothing _ _

  pub depth-Binary : (node : Expr) (operator : ℕ) (left right : ExprId) → node ≡ e.Binary operator left right → depth_at node ≡ depth_of left + depth_of right + 1
  depth-Binary node operator left right is = ap depth_at is ∙ trees.fold_expr-Binary U ℕ U U U U nothing layer nothing nothing nothing nothing _ _ _

  pub depth-Convert : (node : Expr) (kind : ℕ) (operand : ExprId) → node ≡ e.Convert kind operand → depth_at node ≡ depth_of operand + 1
  depth-Convert node kind operand is = ap depth_at is ∙ trees.fold_expr-Convert U ℕ U U U U nothing layer nothing nothing nothing nothing _ _

  pub depth-Paren : (node : Expr) (inner : ExprId) → node ≡ e.Paren inner → depth_at node ≡ depth_of inner + 1
  depth-Paren node inner is = ap depth_at is ∙ trees.fold_expr-Paren U ℕ U U U U nothing layer nothing nothing nothing nothing _

  pub depth-Intrinsic : (node : Expr) (code : ℕ) (arguments : List ExprId) → node ≡ e.Intrinsic code arguments → depth_at node ≡ total (map depth_of arguments) + 1
  depth-Intrinsic node code arguments is =
      ap depth_at is ∙ trees.fold_expr-Intrinsic U ℕ U U U U nothing layer nothing nothing nothing nothing _ _ ∙ ap (λ ds. total ds + 1) (map_twice depth (expr_tree u.asr (path u.asr)) arguments)

-- one of several is no deeper than all together
pub one_of : {A : Type 0} (f : A → ℕ) (xs : List A) (i : ℕ) (x : A) → slice_get xs i ≡ Some x → f x ≤ total (map f xs)
one_of f [] i x e = absurd (cc)
one_of f (y ∷ ys) zero x e = let same = ap (λ o. option_or f o) e in omega (arith, same)
  where
    option_or : {A : Type 0} → (A → ℕ) → Option A → ℕ
    option_or f (Some y) = f y
    option_or f _ = 0
one_of f (y ∷ ys) (suc i) x e = let less = one_of f ys i x e in omega (arith, less)
