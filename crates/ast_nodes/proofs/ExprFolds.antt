-- A fold over an expression at each of its shapes.
use Rattle.std.proofs.Common.{◌≡◌, ℕ, List, map, Option, Some, None, refl, sym, ap, ◌∙◌, option_map}
use Rattle.lf_base.specs.declared.name.Name.{Name}
use Rattle.ast_nodes.specs.declared.expression.Expr.{Expr, Expr-F, map-Expr, fold-Expr, fold-roll-Expr}
use Rattle.ast_nodes.specs.declared.expression.Expr.TheVariants.{Int, Log, Char, Ref, Triple, Unary, Binary, Paren, Array, Loop, rolls-Int, rolls-Log, rolls-Char, rolls-Ref, rolls-Triple, rolls-Unary, rolls-Binary, rolls-Paren, rolls-Array, rolls-Loop}
use Rattle.ast_nodes.specs.declared.expression.Expr.TheViews.{rolls-Part, rolls-Group}
use Rattle.ast_nodes.specs.declared.expression.RefPart.{RefPart, RefPart-F, Part, Group, fold-RefPart, fold-roll-RefPart}
use Rattle.ast_nodes.specs.declared.expression.Designator.{Designator, Designator-F, fold-Designator, fold-roll-Designator}

module _ (A B C : Type 0) (expr : Expr-F A B C → A) (part : RefPart-F A B C → B) (designator : Designator-F A B C → C) where
  abbrev pub e : Expr → A
  e = fold-Expr A B C expr part designator

  abbrev pub p : RefPart → B
  p = fold-RefPart A B C expr part designator

  abbrev pub d : Designator → C
  d = fold-Designator A B C expr part designator

  pub fold-Int : (digits : List ℕ) (suffix : ℕ) → e (Int digits suffix) ≡ expr (Expr-F.Int digits suffix)
  fold-Int digits suffix = ap e (sym (rolls-Int digits suffix)) ∙ fold-roll-Expr A B C expr part designator (Expr-F.Int digits suffix)

  pub fold-Log : (value : ℕ) → e (Log value) ≡ expr (Expr-F.Log value)
  fold-Log value = ap e (sym (rolls-Log value)) ∙ fold-roll-Expr A B C expr part designator (Expr-F.Log value)

  pub fold-Char : (bytes : List ℕ) → e (Char bytes) ≡ expr (Expr-F.Char bytes)
  fold-Char bytes = ap e (sym (rolls-Char bytes)) ∙ fold-roll-Expr A B C expr part designator (Expr-F.Char bytes)

  pub fold-Ref : (it : Designator) → e (Ref it) ≡ expr (Expr-F.Ref (d it))
  fold-Ref it = ap e (sym (rolls-Ref it)) ∙ fold-roll-Expr A B C expr part designator (Expr-F.Ref it)

  mapped-Triple : (lower : Option Expr) (upper : Option Expr) (step : Option Expr) → map-Expr Expr RefPart Designator A B C e p d (Expr-F.Triple lower upper step) ≡ Expr-F.Triple (option_map e lower) (option_map e upper) (option_map e step)
  mapped-Triple None None None = refl
  mapped-Triple None None (Some step) = refl
  mapped-Triple None (Some upper) None = refl
  mapped-Triple None (Some upper) (Some step) = refl
  mapped-Triple (Some lower) None None = refl
  mapped-Triple (Some lower) None (Some step) = refl
  mapped-Triple (Some lower) (Some upper) None = refl
  mapped-Triple (Some lower) (Some upper) (Some step) = refl

  pub fold-Triple : (lower : Option Expr) (upper : Option Expr) (step : Option Expr) → e (Triple lower upper step) ≡ expr (Expr-F.Triple (option_map e lower) (option_map e upper) (option_map e step))
  fold-Triple lower upper step = ap e (sym (rolls-Triple lower upper step)) ∙ fold-roll-Expr A B C expr part designator (Expr-F.Triple lower upper step) ∙ ap expr (mapped-Triple lower upper step)

  pub fold-Unary : (operator : ℕ) (operand : Expr) → e (Unary operator operand) ≡ expr (Expr-F.Unary operator (e operand))
  fold-Unary operator operand = ap e (sym (rolls-Unary operator operand)) ∙ fold-roll-Expr A B C expr part designator (Expr-F.Unary operator operand)

  pub fold-Binary : (operator : ℕ) (left : Expr) (right : Expr) → e (Binary operator left right) ≡ expr (Expr-F.Binary operator (e left) (e right))
  fold-Binary operator left right = ap e (sym (rolls-Binary operator left right)) ∙ fold-roll-Expr A B C expr part designator (Expr-F.Binary operator left right)

  pub fold-Paren : (inner : Expr) → e (Paren inner) ≡ expr (Expr-F.Paren (e inner))
  fold-Paren inner = ap e (sym (rolls-Paren inner)) ∙ fold-roll-Expr A B C expr part designator (Expr-F.Paren inner)

  pub fold-Array : (items : List Expr) → e (Array items) ≡ expr (Expr-F.Array (map e items))
  fold-Array items = ap e (sym (rolls-Array items)) ∙ fold-roll-Expr A B C expr part designator (Expr-F.Array items)

  mapped-Loop : (variable : Name) (lower : Expr) (upper : Expr) (step : Option Expr) (items : List Expr) → map-Expr Expr RefPart Designator A B C e p d (Expr-F.Loop variable lower upper step items) ≡ Expr-F.Loop variable (e lower) (e upper) (option_map e step) (map e items)
  mapped-Loop variable lower upper None items = refl
  mapped-Loop variable lower upper (Some step) items = refl

  pub fold-Loop : (variable : Name) (lower : Expr) (upper : Expr) (step : Option Expr) (items : List Expr) → e (Loop variable lower upper step items) ≡ expr (Expr-F.Loop variable (e lower) (e upper) (option_map e step) (map e items))
  fold-Loop variable lower upper step items = ap e (sym (rolls-Loop variable lower upper step items)) ∙ fold-roll-Expr A B C expr part designator (Expr-F.Loop variable lower upper step items) ∙ ap expr (mapped-Loop variable lower upper step items)

  pub fold-Part : (name : Name) → p (Part name) ≡ part (RefPart-F.Part name)
  fold-Part name = ap p (sym (rolls-Part name)) ∙ fold-roll-RefPart A B C expr part designator (RefPart-F.Part name)

  pub fold-Group : (arguments : List Expr) → p (Group arguments) ≡ part (RefPart-F.Group (map e arguments))
  fold-Group arguments = ap p (sym (rolls-Group arguments)) ∙ fold-roll-RefPart A B C expr part designator (RefPart-F.Group arguments)

  pub fold-parts : (it : Designator) → d it ≡ designator (record { parts = map p it.parts })
  fold-parts it = fold-roll-Designator A B C expr part designator (record { parts = it.parts })
