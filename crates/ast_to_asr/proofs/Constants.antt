-- The value, the kind and what is written of each constant expression, by its parts.
use Rattle.std.proofs.Common.{◌≡◌, ℕ, List, map, Option, ap}
use Rattle.ast_nodes.specs.declared.expression.Designator.{Designator}
use Rattle.ast_nodes.specs.declared.expression.Expr.{Expr, Expr-F}
use Rattle.ast_nodes.specs.declared.expression.Expr.TheVariants.{Int, Log, Ref, Unary, Binary, Paren}
use Rattle.fortran_semantics.specs.Constants.{Constant, constant_meaning, constant_layer, parts_constant}
use Rattle.fortran_semantics.proofs.Nodes.{constant_part_of, constant-Int, constant-Log, constant-Unary, constant-Binary, constant-Paren, constant-Ref, constant-Part, constant-Group}

module _ (known : List ℕ → Option Constant) where
  pub value-Int : (digits : List ℕ) (suffix : ℕ) → (constant_meaning known (Int digits suffix)).value ≡ (constant_layer known (Expr-F.Int digits suffix)).value
  value-Int digits suffix = ap (λ c. c.value) (constant-Int known digits suffix)

  pub kind-Int : (digits : List ℕ) (suffix : ℕ) → (constant_meaning known (Int digits suffix)).kind ≡ (constant_layer known (Expr-F.Int digits suffix)).kind
  kind-Int digits suffix = ap (λ c. c.kind) (constant-Int known digits suffix)

  pub writes-Int : (digits : List ℕ) (suffix : ℕ) → (constant_meaning known (Int digits suffix)).writes ≡ (constant_layer known (Expr-F.Int digits suffix)).writes
  writes-Int digits suffix = ap (λ c. c.writes) (constant-Int known digits suffix)

  pub value-Log : (value : ℕ) → (constant_meaning known (Log value)).value ≡ (constant_layer known (Expr-F.Log value)).value
  value-Log value = ap (λ c. c.value) (constant-Log known value)

  pub kind-Log : (value : ℕ) → (constant_meaning known (Log value)).kind ≡ (constant_layer known (Expr-F.Log value)).kind
  kind-Log value = ap (λ c. c.kind) (constant-Log known value)

  pub value-Unary : (operator : ℕ) (operand : Expr) → (constant_meaning known (Unary operator operand)).value ≡ (constant_layer known (Expr-F.Unary operator (constant_meaning known operand))).value
  value-Unary operator operand = ap (λ c. c.value) (constant-Unary known operator operand)

  pub kind-Unary : (operator : ℕ) (operand : Expr) → (constant_meaning known (Unary operator operand)).kind ≡ (constant_meaning known operand).kind
  kind-Unary operator operand = ap (λ c. c.kind) (constant-Unary known operator operand)

  pub value-Binary : (operator : ℕ) (left right : Expr) → (constant_meaning known (Binary operator left right)).value ≡ (constant_layer known (Expr-F.Binary operator (constant_meaning known left) (constant_meaning known right))).value
  value-Binary operator left right = ap (λ c. c.value) (constant-Binary known operator left right)

  pub kind-Binary : (operator : ℕ) (left right : Expr) → (constant_meaning known (Binary operator left right)).kind ≡ (constant_layer known (Expr-F.Binary operator (constant_meaning known left) (constant_meaning known right))).kind
  kind-Binary operator left right = ap (λ c. c.kind) (constant-Binary known operator left right)

  pub value-Paren : (inner : Expr) → (constant_meaning known (Paren inner)).value ≡ (constant_meaning known inner).value
  value-Paren inner = ap (λ c. c.value) (constant-Paren known inner)

  pub kind-Paren : (inner : Expr) → (constant_meaning known (Paren inner)).kind ≡ (constant_meaning known inner).kind
  kind-Paren inner = ap (λ c. c.kind) (constant-Paren known inner)

  pub value-Ref : (it : Designator) → (constant_meaning known (Ref it)).value ≡ (parts_constant known (map (constant_part_of known) it.parts)).value
  value-Ref it = ap (λ c. c.value) (constant-Ref known it)

  pub kind-Ref : (it : Designator) → (constant_meaning known (Ref it)).kind ≡ (parts_constant known (map (constant_part_of known) it.parts)).kind
  kind-Ref it = ap (λ c. c.kind) (constant-Ref known it)

  pub part-Part : (name : List ℕ) → constant_part_of known (Rattle.ast_nodes.specs.declared.expression.RefPart.Part name) ≡ Rattle.fortran_semantics.specs.Constants.Named name
  part-Part name = constant-Part known name

  pub part-Group : (arguments : List Expr) → constant_part_of known (Rattle.ast_nodes.specs.declared.expression.RefPart.Group arguments) ≡ Rattle.fortran_semantics.specs.Constants.Grouped (map (constant_meaning known) arguments)
  part-Group arguments = constant-Group known arguments

  pub ruleset values = (value-Int, kind-Int, writes-Int, value-Log, kind-Log, value-Unary, kind-Unary, value-Binary, kind-Binary, value-Paren, kind-Paren, value-Ref, kind-Ref, part-Part, part-Group)
