-- The statements of a value, as they are made: those of its parts, and the operation behind them.
use Rattle.std.proofs.Common.{◌≡◌, ℕ, ◌+◌, ◌≤◌, Bool, true, false, List, [], ◌∷◌, ◌++◌, Option, Some, None, Ok, cond, refl, sym, ap, subst, ◌∙◌, arith, append_assoc}
use Rattle.std.specs.Prelude.{◌==◌, ◌||◌, nat_le}
use Rattle.std.proofs.lemmas.Bool.Decides.{nat_tests}
use Rattle.lf_base.specs.Outcome.{Location}
use Rattle.ast_nodes.specs.declared.expression.Expr.{Expr}
use Rattle.ast_nodes.specs.declared.expression.Expr.TheOpen.{Expr-F}
use Rattle.ast_nodes.specs.declared.expression.Expr.TheFolds.{fold-roll-Expr}
use Rattle.ast_nodes.specs.declared.expression.Expr.TheVariants as expr
use Rattle.c_nodes.specs.declared.tree.CStmt.{CStmt}
use Rattle.lf_driver.specs.declared.one_print.built.Operator.{Operator}
use Rattle.lf_driver.specs.OnePrint.Source.{Tree, Literal, Binary}
use Rattle.lf_driver.specs.OnePrint.Built.{greatest_literal, value_behind, small_value, literal_of, literal_tree, operator_of, binary_tree, tree_layer, tree_in}
use Rattle.lf_driver.specs.OnePrint.Lowered.{constant, operation, count, lowered}
use Rattle.lf_driver.specs.OnePrint.Emits.{Emits}

within : (n value : ℕ) → nat_le n greatest_literal ≡ true → Some n ≡ Some value → value ≤ 2147483647
within n value t e =
    let same : n ≡ value = cc in
    subst (λ v. v ≤ 2147483647) same (grind (arith, nat_tests))

small_by : (t : Bool) (n value : ℕ) → nat_le n greatest_literal ≡ t → cond t (Some n) None ≡ Some value → value ≤ 2147483647
small_by true n value t e = within n value t e
small_by false n value t e = absurd (cc)

literal_by : (t : Bool) (digits : List ℕ) (value : ℕ) → cond t (small_value digits) None ≡ Some value → value ≤ 2147483647
literal_by true digits value e = small_by (nat_le (value_behind 0 digits) greatest_literal) (value_behind 0 digits) value refl e
literal_by false digits value e = absurd (cc)

-- a literal of kind 4 is small
literal_small : (digits : List ℕ) (suffix value : ℕ) → literal_of digits suffix ≡ Some value → value ≤ 2147483647
literal_small digits suffix value e = literal_by (suffix == 0 || suffix == 4) digits value e

pub literal_emitted : (location : Location) (digits : List ℕ) (suffix value behind last : ℕ) (old new : List CStmt) → literal_of digits suffix ≡ Some value → new ≡ old ++ constant (behind + 1) value ∷ [] → last ≡ behind + 1 → Emits location (Ok (Some last)) (literal_tree (literal_of digits suffix)) behind old new
literal_emitted location digits suffix value behind last old new e h k = (Literal value, ap literal_tree e, literal_small digits suffix value e, h, k)

-- the value of an operation is that of its parts
tree_binary : (code : ℕ) (left right : Expr) → tree_in (expr.Binary code left right) ≡ binary_tree (operator_of code) (tree_in left) (tree_in right)
tree_binary code left right = ap tree_in (sym (expr.rolls-Binary code left right)) ∙ fold-roll-Expr (Option Tree) (Unit {0}) (Unit {0}) tree_layer (λ part. tt) (λ designator. tt) (Expr-F.Binary code left right)

pub emitted_at : (location : Location) (o : Option ℕ) (last : ℕ) (e e' : Expr) (behind : ℕ) (old new : List CStmt) → o ≡ Some last → e ≡ e' → Emits location (Ok o) (tree_in e) behind old new → Emits location (Ok (Some last)) (tree_in e') behind old new
emitted_at location o last e e' behind old new ho he h = subst (λ x. Emits location (Ok (Some last)) (tree_in x) behind old new) he (subst (λ x. Emits location (Ok x) (tree_in e) behind old new) ho h)

pub binary_emitted : (location : Location) (e : Expr) (code : ℕ) (left right : Expr) (o : Operator) (b l r n : ℕ) (s0 s1 s2 s3 : List CStmt) → e ≡ expr.Binary code left right → operator_of code ≡ Some o → Emits location (Ok (Some l)) (tree_in left) b s0 s1 → Emits location (Ok (Some r)) (tree_in right) l s1 s2 → s3 ≡ s2 ++ operation location o l r r → n ≡ r + 2 → Emits location (Ok (Some n)) (tree_in e) b s0 s3
binary_emitted location e code left right o b l r n s0 s1 s2 s3 he ho hl hr h k = (
  Binary o hl.0 hr.0,
  ap tree_in he
      ∙ tree_binary code left right
      ∙ ap (λ x. binary_tree x (tree_in left) (tree_in right)) ho
      ∙ ap (λ x. binary_tree (Some o) x (tree_in right)) hl.1
      ∙ ap (λ x. binary_tree (Some o) (Some hl.0) x) hr.1,
  (hl.2, hr.2),
  h
      ∙ ap (λ m. s2 ++ operation location o l m m) hr.4
      ∙ ap (λ s. s ++ operation location o l (l + count hr.0) (l + count hr.0)) hr.3
      ∙ ap (λ s. (s ++ lowered location hr.0 l) ++ operation location o l (l + count hr.0) (l + count hr.0)) hl.3
      ∙ ap (λ m. ((s0 ++ lowered location hl.0 b) ++ lowered location hr.0 m) ++ operation location o m (m + count hr.0) (m + count hr.0)) hl.4
      ∙ append_assoc (s0 ++ lowered location hl.0 b) (lowered location hr.0 (b + count hl.0)) (operation location o (b + count hl.0) (b + count hl.0 + count hr.0) (b + count hl.0 + count hr.0))
      ∙ append_assoc s0 (lowered location hl.0 b) (lowered location hr.0 (b + count hl.0) ++ operation location o (b + count hl.0) (b + count hl.0 + count hr.0) (b + count hl.0 + count hr.0)),
  omega (arith, k, hl.4, hr.4),
)
