-- A pass over the source: each assignment goes through a new variable.
use Rattle.std.specs.Prelude.{ℕ, ◌∷◌, ◌≡◌, false}
use Rattle.link_toy.specs.Source.{Variable, Statement, Skip, Sequence, Assign, While, Repeat, Exit, Call, Print, Scope, Program, is_declared}

-- x = e becomes t = e; x = t
abbrev pub through : ℕ → Statement → Statement
through t Skip = Skip
through t (Sequence a b) = Sequence (through t a) (through t b)
through t (Assign here x e) = Sequence (Assign here t e) (Assign here x (Variable t))
through t (While here e body) = While here e (through t body)
through t (Repeat here e body) = Repeat here e (through t body)
through t Exit = Exit
through t (Call here p e) = Call here p e
through t (Print here e) = Print here e

-- the new variable is declared behind the argument
abbrev pub widened : ℕ → Scope → Scope
widened t scope = record { argument = scope.argument; others = t ∷ scope.others }

abbrev pub passed : ℕ → Program → Program
passed t p = record { scope = widened t p.scope; bodies = λ q. through t (p.bodies q); main = through t p.main }

-- the name is not declared yet
abbrev pub IsNew : ℕ → Scope → Type 0
IsNew t scope = is_declared scope t ≡ false
