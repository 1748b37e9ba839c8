-- A small source language: named variables, a loop that tests first and is left by exit, a loop whose count is
-- known, and procedures with an argument and variables of their own, which may call themselves.
use Rattle.std.specs.Prelude.{ℕ, zero, suc, cond, Bool, true, eqb, List, [], ◌∷◌, ◌||◌, ◌&&◌, ◌≡◌}
use Rattle.lf_base.specs.Outcome.{Location}

-- a variable is told by its name, of which no more is known than which one it is
pub data Expression : Type 0 where
  Number : (v : ℕ) → Expression
  Variable : (x : ℕ) → Expression
  Sum : (a b : Expression) → Expression
  Less : (a b : Expression) → Expression
  Product : (a b : Expression) → Expression

-- where a statement has an expression, it tells its location
pub data Statement : Type 0 where
  Skip : Statement
  Sequence : (a b : Statement) → Statement
  Assign : (here : Location) (x : ℕ) (e : Expression) → Statement
  While : (here : Location) (e : Expression) (body : Statement) → Statement
  Repeat : (here : Location) (e : Expression) (body : Statement) → Statement
  Exit : Statement
  Call : (here : Location) (p : ℕ) (e : Expression) → Statement
  Print : (here : Location) (e : Expression) → Statement

-- what the main program and each procedure declare: the argument, and the other variables
pub record Scope : Type 0 where
  pub argument : ℕ
  pub others : List ℕ

-- a procedure is told by its number
pub record Program : Type 0 where
  pub scope : Scope
  pub bodies : ℕ → Statement
  pub main : Statement

abbrev pub declared : Scope → List ℕ
declared scope = scope.argument ∷ scope.others

abbrev pub is_among : ℕ → List ℕ → Bool
is_among x [] = Bool.false
is_among x (y ∷ names) = eqb x y || is_among x names

abbrev pub is_declared : Scope → ℕ → Bool
is_declared scope x = is_among x (declared scope)

-- where a name stands; the number of none where it does not
abbrev pub number_in : List ℕ → ℕ → ℕ
number_in [] x = zero
number_in (y ∷ names) x = cond (eqb x y) zero (suc (number_in names x))

abbrev pub number_of : Scope → ℕ → ℕ
number_of scope = number_in (declared scope)

-- each variable of the expression is declared
abbrev pub knows : Scope → Expression → Bool
knows scope (Number v) = true
knows scope (Variable x) = is_declared scope x
knows scope (Sum a b) = knows scope a && knows scope b
knows scope (Less a b) = knows scope a && knows scope b
knows scope (Product a b) = knows scope a && knows scope b

abbrev pub is_fine : Scope → Statement → Bool
is_fine scope Skip = true
is_fine scope (Sequence a b) = is_fine scope a && is_fine scope b
is_fine scope (Assign here x e) = is_declared scope x && knows scope e
is_fine scope (While here e body) = knows scope e && is_fine scope body
is_fine scope (Repeat here e body) = knows scope e && is_fine scope body
is_fine scope Exit = true
is_fine scope (Call here p e) = knows scope e
is_fine scope (Print here e) = knows scope e

-- A program whose statements name what is declared.
pub record IsFine (p : Program) : Type 0 where
  pub bodies : (q : ℕ) → is_fine p.scope (p.bodies q) ≡ true
  pub main : is_fine p.scope p.main ≡ true
