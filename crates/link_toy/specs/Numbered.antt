-- The second meaning of the source: names are resolved to the numbers of slots before the program runs.
use Rattle.std.specs.Prelude.{ℕ, zero, suc, List, [], ◌∷◌, Option, Some, None}
use Rattle.lf_base.specs.Outcome.{Outcome}
use Rattle.link_toy.specs.Source.{number_of, Expression, Number, Variable, Sum, Less, Product, Statement, Skip, Sequence, Assign, While, Repeat, Exit, Call, Print, Scope, Program}
use Rattle.link_toy.specs.Meaning.{slot, Store, Access, run_by}

-- the names of the slots
abbrev pub names_of : Store → List ℕ
names_of [] = []
names_of (s ∷ store) = s.name ∷ names_of store

-- the slot with this number
abbrev pub find_number : ℕ → Store → Option ℕ
find_number i [] = None
find_number zero (s ∷ store) = Some s.value
find_number (suc i) (s ∷ store) = find_number i store

abbrev pub put_number : ℕ → ℕ → Store → Store
put_number i v [] = []
put_number zero v (s ∷ store) = slot s.name v ∷ store
put_number (suc i) v (s ∷ store) = s ∷ put_number i v store

abbrev pub by_number : Access
by_number = record { read = find_number; write = put_number }

abbrev pub resolve_expression : Scope → Expression → Expression
resolve_expression scope (Number v) = Number v
resolve_expression scope (Variable x) = Variable (number_of scope x)
resolve_expression scope (Sum a b) = Sum (resolve_expression scope a) (resolve_expression scope b)
resolve_expression scope (Less a b) = Less (resolve_expression scope a) (resolve_expression scope b)
resolve_expression scope (Product a b) = Product (resolve_expression scope a) (resolve_expression scope b)

abbrev pub resolve : Scope → Statement → Statement
resolve scope Skip = Skip
resolve scope (Sequence a b) = Sequence (resolve scope a) (resolve scope b)
resolve scope (Assign here x e) = Assign here (number_of scope x) (resolve_expression scope e)
resolve scope (While here e body) = While here (resolve_expression scope e) (resolve scope body)
resolve scope (Repeat here e body) = Repeat here (resolve_expression scope e) (resolve scope body)
resolve scope Exit = Exit
resolve scope (Call here p e) = Call here p (resolve_expression scope e)
resolve scope (Print here e) = Print here (resolve_expression scope e)

abbrev pub resolved : Program → Program
resolved p = record { scope = p.scope; bodies = λ q. resolve p.scope (p.bodies q); main = resolve p.scope p.main }

-- the program as its numbers say
abbrev pub run_numbered : Program → ℕ → ℕ → Outcome
run_numbered p = run_by by_number (resolved p)
