-- Two programs in the layout that the laws of single programs speak of.
use Rattle.std.specs.Prelude.{ℕ, [], ◌∷◌, codes}
use Rattle.lf_base.specs.Outcome.{Location}
use Rattle.link_toy.specs.Source.{Number, Variable, Sum, Less, Product, Statement, Skip, Sequence, Assign, While, Repeat, Exit, Call, Print, Scope, Program}
use Rattle.link_toy.specs.Translation.{Layout, layout_of}

abbrev pub depth : ℕ
depth = 4

abbrev pub total : ℕ
total = 9

abbrev pub scope : Scope
scope = record { argument = depth; others = total ∷ [] }

-- a name that is not declared
abbrev pub spare : ℕ
spare = 5

abbrev pub layout : Layout
layout = layout_of scope

abbrev pub at_line : ℕ → Location
at_line line = record { source = codes "toy"; line = line }

-- total = depth * depth + 1; while (depth < 2) { call p(depth + 1); exit }; repeat 2 { print total }
abbrev pub descent : Statement
descent =
    Sequence (Assign (at_line 2) total (Sum (Product (Variable depth) (Variable depth)) (Number 1)))
    (Sequence (While (at_line 3) (Less (Variable depth) (Number 2)) (Sequence (Call (at_line 4) 0 (Sum (Variable depth) (Number 1))) Exit))
    (Repeat (at_line 7) (Number 2) (Print (at_line 8) (Variable total))))

-- repeat 2 { call p(1) }
abbrev pub descends : Program
descends = record { scope = scope; bodies = λ p. descent; main = Repeat (at_line 10) (Number 2) (Call (at_line 11) 0 (Number 1)) }

-- print 1; print 65 * 2
abbrev pub overflows : Program
overflows = record { scope = scope; bodies = λ p. Skip; main = Sequence (Print (at_line 1) (Number 1)) (Print (at_line 2) (Product (Number 65) (Number 2))) }
