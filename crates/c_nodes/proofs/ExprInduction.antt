-- Induction over expressions, and a fold at each of their shapes.
use Rattle.std.proofs.Common.{◌≡◌, List, sym, subst, ap, ◌∙◌, ℕ}
use Rattle.lf_base.specs.declared.name.Name.{Name}
use Rattle.c_nodes.specs.declared.tree.CBinary.{CBinary}
use Rattle.c_nodes.specs.declared.tree.CType.{CType}
use Rattle.c_nodes.specs.declared.tree.CExpr.{CExpr, CExpr-F, map-CExpr, roll-CExpr, ind-CExpr, fold-CExpr, fold-roll-CExpr}
use Rattle.c_nodes.specs.declared.tree.CExpr.TheVariants.{Variable, Index, Member, Constant, Greatest, Least, Paren, Negate, Not, Binary, Cast, ToInt, Address, Literal, rolls-Variable, rolls-Index, rolls-Member, rolls-Constant, rolls-Greatest, rolls-Least, rolls-Paren, rolls-Negate, rolls-Not, rolls-Binary, rolls-Cast, rolls-ToInt, rolls-Address, rolls-Literal}

-- what holds of each shape, if it holds of its parts
pub record Cases (P : CExpr → Type 0) : Type 0 where
  pub variable : (name : Name) → P (Variable name)
  pub index : (base : CExpr) (subscript : CExpr) → P base → P subscript → P (Index base subscript)
  pub member : (base : CExpr) (name : Name) → P base → P (Member base name)
  pub constant : (value : ℕ) → P (Constant value)
  pub greatest : P Greatest
  pub least : P Least
  pub paren : (inner : CExpr) → P inner → P (Paren inner)
  pub negate : (operand : CExpr) → P operand → P (Negate operand)
  pub not : (operand : CExpr) → P operand → P (Not operand)
  pub binary : (operator : CBinary) (left : CExpr) (right : CExpr) → P left → P right → P (Binary operator left right)
  pub cast : (kind : CType) (operand : CExpr) → P operand → P (Cast kind operand)
  pub to_int : (operand : CExpr) → P operand → P (ToInt operand)
  pub address : (place : CExpr) → P place → P (Address place)
  pub literal : (bytes : List ℕ) → P (Literal bytes)

abbrev Shown : (CExpr → Type 0) → Type 0
Shown P = (x : CExpr) × P x

abbrev bare : (P : CExpr → Type 0) → Shown P → CExpr
bare P e = e.0

layer : (P : CExpr → Type 0) → Cases P → (y : CExpr-F (Shown P)) → P (roll-CExpr (map-CExpr (Shown P) CExpr (bare P) y))
layer P c (CExpr-F.Variable name) = subst P (sym (rolls-Variable name)) (c.variable name)
layer P c (CExpr-F.Index base subscript) = subst P (sym (rolls-Index base.0 subscript.0)) (c.index base.0 subscript.0 base.1 subscript.1)
layer P c (CExpr-F.Member base name) = subst P (sym (rolls-Member base.0 name)) (c.member base.0 name base.1)
layer P c (CExpr-F.Constant value) = subst P (sym (rolls-Constant value)) (c.constant value)
layer P c CExpr-F.Greatest = subst P (sym rolls-Greatest) c.greatest
layer P c CExpr-F.Least = subst P (sym rolls-Least) c.least
layer P c (CExpr-F.Paren inner) = subst P (sym (rolls-Paren inner.0)) (c.paren inner.0 inner.1)
layer P c (CExpr-F.Negate operand) = subst P (sym (rolls-Negate operand.0)) (c.negate operand.0 operand.1)
layer P c (CExpr-F.Not operand) = subst P (sym (rolls-Not operand.0)) (c.not operand.0 operand.1)
layer P c (CExpr-F.Binary operator left right) = subst P (sym (rolls-Binary operator left.0 right.0)) (c.binary operator left.0 right.0 left.1 right.1)
layer P c (CExpr-F.Cast kind operand) = subst P (sym (rolls-Cast kind operand.0)) (c.cast kind operand.0 operand.1)
layer P c (CExpr-F.ToInt operand) = subst P (sym (rolls-ToInt operand.0)) (c.to_int operand.0 operand.1)
layer P c (CExpr-F.Address place) = subst P (sym (rolls-Address place.0)) (c.address place.0 place.1)
layer P c (CExpr-F.Literal bytes) = subst P (sym (rolls-Literal bytes)) (c.literal bytes)

pub by_cases : (P : CExpr → Type 0) → Cases P → (x : CExpr) → P x
by_cases P c = ind-CExpr P (λ x y e. subst (λ z. P (roll-CExpr z)) e (layer P c y))

-- a fold at each shape
module _ (A : Type 0) (step : CExpr-F A → A) where
  abbrev pub f : CExpr → A
  f = fold-CExpr A step

  pub fold-Variable : (name : Name) → f (Variable name) ≡ step (CExpr-F.Variable name)
  fold-Variable name = ap f (sym (rolls-Variable name)) ∙ fold-roll-CExpr A step (CExpr-F.Variable name)

  pub fold-Index : (base : CExpr) (subscript : CExpr) → f (Index base subscript) ≡ step (CExpr-F.Index (f base) (f subscript))
  fold-Index base subscript = ap f (sym (rolls-Index base subscript)) ∙ fold-roll-CExpr A step (CExpr-F.Index base subscript)

  pub fold-Member : (base : CExpr) (name : Name) → f (Member base name) ≡ step (CExpr-F.Member (f base) name)
  fold-Member base name = ap f (sym (rolls-Member base name)) ∙ fold-roll-CExpr A step (CExpr-F.Member base name)

  pub fold-Constant : (value : ℕ) → f (Constant value) ≡ step (CExpr-F.Constant value)
  fold-Constant value = ap f (sym (rolls-Constant value)) ∙ fold-roll-CExpr A step (CExpr-F.Constant value)

  pub fold-Greatest : f Greatest ≡ step CExpr-F.Greatest
  fold-Greatest = ap f (sym rolls-Greatest) ∙ fold-roll-CExpr A step CExpr-F.Greatest

  pub fold-Least : f Least ≡ step CExpr-F.Least
  fold-Least = ap f (sym rolls-Least) ∙ fold-roll-CExpr A step CExpr-F.Least

  pub fold-Paren : (inner : CExpr) → f (Paren inner) ≡ step (CExpr-F.Paren (f inner))
  fold-Paren inner = ap f (sym (rolls-Paren inner)) ∙ fold-roll-CExpr A step (CExpr-F.Paren inner)

  pub fold-Negate : (operand : CExpr) → f (Negate operand) ≡ step (CExpr-F.Negate (f operand))
  fold-Negate operand = ap f (sym (rolls-Negate operand)) ∙ fold-roll-CExpr A step (CExpr-F.Negate operand)

  pub fold-Not : (operand : CExpr) → f (Not operand) ≡ step (CExpr-F.Not (f operand))
  fold-Not operand = ap f (sym (rolls-Not operand)) ∙ fold-roll-CExpr A step (CExpr-F.Not operand)

  pub fold-Binary : (operator : CBinary) (left : CExpr) (right : CExpr) → f (Binary operator left right) ≡ step (CExpr-F.Binary operator (f left) (f right))
  fold-Binary operator left right = ap f (sym (rolls-Binary operator left right)) ∙ fold-roll-CExpr A step (CExpr-F.Binary operator left right)

  pub fold-Cast : (kind : CType) (operand : CExpr) → f (Cast kind operand) ≡ step (CExpr-F.Cast kind (f operand))
  fold-Cast kind operand = ap f (sym (rolls-Cast kind operand)) ∙ fold-roll-CExpr A step (CExpr-F.Cast kind operand)

  pub fold-ToInt : (operand : CExpr) → f (ToInt operand) ≡ step (CExpr-F.ToInt (f operand))
  fold-ToInt operand = ap f (sym (rolls-ToInt operand)) ∙ fold-roll-CExpr A step (CExpr-F.ToInt operand)

  pub fold-Address : (place : CExpr) → f (Address place) ≡ step (CExpr-F.Address (f place))
  fold-Address place = ap f (sym (rolls-Address place)) ∙ fold-roll-CExpr A step (CExpr-F.Address place)

  pub fold-Literal : (bytes : List ℕ) → f (Literal bytes) ≡ step (CExpr-F.Literal bytes)
  fold-Literal bytes = ap f (sym (rolls-Literal bytes)) ∙ fold-roll-CExpr A step (CExpr-F.Literal bytes)
