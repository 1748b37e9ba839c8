-- The translation, for a layout of the objects: those of variables stand below `base`, temporaries from there on.
use Rattle.std.specs.Prelude.{◌≡◌, ℕ, suc, length, ◌<◌, cond, ltb, true, Some, None}
use Rattle.lf_base.specs.Outcome.{Location}
use Rattle.lf_base.specs.Traps.{trap_text}
use Rattle.lf_base.specs.declared.trap.Trap.TheVariants.{IntegerOverflow}
use Rattle.link_toy.specs.Source.{Expression, Number, Variable, Sum, Less, Product, Statement, Skip, Sequence, Assign, While, Repeat, Exit, Call, Print, Scope, Program, declared, is_declared, number_of}
use Rattle.link_toy.specs.Target.{CStatement, CProgram, Constant, Load, Add, Subtract, IsLess, Nothing, Then, Set, Forever, Labelled, Unless, Jump, Invoke, Write, Multiply, Memory}

pub record Layout : Type 0 where
  pub object : ℕ → ℕ
  pub base : ℕ

-- The declared variables have objects of their own.
pub record IsLayout (scope : Scope) (layout : Layout) : Type 0 where
  pub apart : (x y : ℕ) → is_declared scope x ≡ true → is_declared scope y ≡ true → layout.object x ≡ layout.object y → x ≡ y
  pub inside : (x : ℕ) → is_declared scope x ≡ true → layout.object x < layout.base

-- the variables in the order of their declaration
abbrev pub layout_of : Scope → Layout
layout_of scope = record { object = number_of scope; base = length (declared scope) }

-- the value of the expression into temporary t, by temporaries from t on
abbrev pub evaluate : (ℕ → ℕ) → Location → Expression → ℕ → CStatement
evaluate object here (Number v) t = Set t (Constant v)
evaluate object here (Variable x) t = Set t (Load (object x))
evaluate object here (Sum a b) t = Then (evaluate object here a t) (Then (evaluate object here b (suc t)) (Set t (Add (Load t) (Load (suc t)))))
evaluate object here (Less a b) t = Then (evaluate object here a t) (Then (evaluate object here b (suc t)) (Set t (IsLess (Load t) (Load (suc t)))))
evaluate object here (Product a b) t = Then (evaluate object here a t) (Then (evaluate object here b (suc t)) (Multiply t t (suc t) (trap_text IntegerOverflow here)))

-- One turn of a loop: the body behind its test, which jumps out.
abbrev pub while_turn : CStatement → (t label : ℕ) → CStatement → CStatement
while_turn test t label body = Then test (Then (Unless t label) body)

-- One turn of a loop that counts down: its count stands in object t.
abbrev pub repeat_turn : (t label : ℕ) → CStatement → CStatement
repeat_turn t label body = Then (Unless t label) (Then (Set t (Subtract (Load t) (Constant 1))) body)

-- A statement whose temporaries begin at t; the label behind the loop around it is `label`.
abbrev pub translate : Scope → Layout → Statement → (t label : ℕ) → CStatement
translate scope layout Skip t label = Nothing
translate scope layout (Sequence a b) t label = Then (translate scope layout a t label) (translate scope layout b t label)
translate scope layout (Assign here x e) t label = Then (evaluate layout.object here e t) (Set (layout.object x) (Load t))
translate scope layout (While here e body) t label = Labelled (suc label) (Forever (while_turn (evaluate layout.object here e t) t (suc label) (translate scope layout body t (suc label))))
translate scope layout (Repeat here e body) t label = Then (evaluate layout.object here e t) (Labelled (suc label) (Forever (repeat_turn t (suc label) (translate scope layout body (suc t) (suc label)))))
translate scope layout Exit t label = Jump label
translate scope layout (Call here p e) t label = Then (evaluate layout.object here e t) (Invoke p t t layout.base (layout.object scope.argument))
translate scope layout (Print here e) t label = Then (evaluate layout.object here e t) (Write t)

-- the label of no loop: a jump to it ends the procedure
abbrev pub outermost : ℕ
outermost = 0

-- how much deeper calls of the code are than those of the source: by the helper
abbrev pub helper_depth : ℕ
helper_depth = 1

abbrev pub translated : Layout → Program → CProgram
translated layout p = record { bodies = λ q. translate p.scope layout (p.bodies q) layout.base outermost; main = translate p.scope layout p.main layout.base outermost }

-- the objects of all variables are zero
abbrev pub initial_memory : Layout → Memory
initial_memory layout = record { cells = λ a. cond (ltb a layout.base) (Some 0) None; frame = 0 }
