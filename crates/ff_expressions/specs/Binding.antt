-- How loosely operators bind (ISO/IEC 1539-1:2018, table 10.1). The levels above the loosest operator of a list hand it on.
use Rattle.std.specs.Prelude.{ℕ, ◌==◌, ◌||◌, max, if◌then◌else◌, List, [], ◌∷◌, Option, Some, None}
use Rattle.ff_expressions.specs.declared.item.Mark.{Mark}
use Rattle.ff_expressions.specs.declared.item.Mark.TheVariants.{Operator}
use Rattle.ff_expressions.specs.declared.item.Item.{Item}
use Rattle.ff_expressions.specs.declared.item.Item.TheVariants as item
use Rattle.ff_expressions.specs.declared.level.Level.{Level}
use Rattle.ff_expressions.specs.declared.level.Level.TheVariants.{Equivalence, Disjunction, Conjunction, Relation, Concatenation, Addition, Multiplication, Power}
use Rattle.ff_expressions.specs.Expressions.{belongs}

-- the place of a level in this order, from the tightest
abbrev pub rank : Level → ℕ
rank Power = 0
rank Multiplication = 1
rank Addition = 2
rank Concatenation = 3
rank Relation = 4
rank Conjunction = 5
rank Disjunction = 6
rank Equivalence = 7

-- the next tighter level
abbrev pub tighter : Level → Level
tighter Power = Power
tighter Multiplication = Power
tighter Addition = Multiplication
tighter Concatenation = Addition
tighter Relation = Concatenation
tighter Conjunction = Relation
tighter Disjunction = Conjunction
tighter Equivalence = Disjunction

-- one more than the level of an operator, and for `.not.` as for relations
abbrev pub looseness_of : ℕ → ℕ
looseness_of code =
    if belongs Equivalence code then 8
    else if belongs Disjunction code then 7
    else if belongs Conjunction code then 6
    else if code == 16 || belongs Relation code then 5
    else if belongs Concatenation code then 4
    else if belongs Addition code then 3
    else if belongs Multiplication code then 2
    else 1

-- of marks and items, 0 where they are no operators
abbrev pub looseness_in : Mark → ℕ
looseness_in (Operator code) = looseness_of code
looseness_in _ = 0

abbrev pub looseness : Item → ℕ
looseness (item.Mark mark) = looseness_in mark
looseness _ = 0

abbrev pub looseness_at : Option Item → ℕ
looseness_at None = 0
looseness_at (Some one) = looseness one

-- the greatest of these and of one that has been found
abbrev pub loosest_from : ℕ → List Item → ℕ
loosest_from found [] = found
loosest_from found (one ∷ items) = loosest_from (max found (looseness one)) items

abbrev pub loosest : List Item → ℕ
loosest items = loosest_from 0 items
