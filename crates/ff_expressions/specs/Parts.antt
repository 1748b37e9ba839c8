-- What stands between the commas of a group, and in a list of items to be written, case by case (ISO/IEC 1539-1:2018, R774, R920 to R923,
-- R1217, R1218, R1524).
use Rattle.std.specs.Prelude.{ℕ, List, [], ◌∷◌, ◌++◌, Option, Some, None}
use Rattle.ff_expressions.specs.declared.item.Parsed.{Parsed}
use Rattle.ff_expressions.specs.declared.item.Mark.TheVariants.{Operator, Comma, Colon, DoubleColon, Equals}
use Rattle.ff_expressions.specs.declared.item.Bracket.TheVariants.{Round}
use Rattle.ff_expressions.specs.declared.item.Part.{Part}
use Rattle.ff_expressions.specs.declared.item.Part.TheVariants as part
use Rattle.ff_expressions.specs.declared.item.Stride.TheVariants.{Absent}
use Rattle.ff_expressions.specs.declared.item.Item.{Item}
use Rattle.ff_expressions.specs.declared.item.Item.TheVariants as item
use Rattle.ff_expressions.specs.declared.group.Arguments.{Arguments}
use Rattle.ff_expressions.specs.declared.group.GroupRole.TheVariants.{Element}
use Rattle.ff_expressions.specs.Trees.{with_argument, implied_do}
use Rattle.ff_expressions.specs.Items.{step_of}
use Rattle.ff_expressions.specs.Grammar.{IsValue, AreValues, IsExpression}

-- An implied do (R774, R1218): at least one item, the variable with its lower bound, the upper bound, and a step or none.
pub data IsLoop : List Part → Parsed → Type 0 where
  loop : {front : List Part} {before : Arguments} {last : Part} {value : Parsed} (variable : List ℕ) (lower upper : Parsed) → AreValues Element front before → IsValue Element last value
      → IsLoop (front ++ last ∷ part.Keyed variable (Some lower) ∷ part.Plain upper ∷ []) (implied_do variable lower upper None (with_argument before value))
  loop_by : {front : List Part} {before : Arguments} {last : Part} {value : Parsed} (variable : List ℕ) (lower upper step : Parsed) → AreValues Element front before → IsValue Element last value
      → IsLoop (front ++ last ∷ part.Keyed variable (Some lower) ∷ part.Plain upper ∷ part.Plain step ∷ []) (implied_do variable lower upper (Some step) (with_argument before value))

-- output-item (R1217): an expression, or an implied do in parentheses
pub data IsOutput : List Item → Parsed → Type 0 where
  expression : {items : List Item} {a : Parsed} → IsExpression items a → IsOutput items a
  loop : {parts : List Part} {a : Parsed} → IsLoop parts a → IsOutput (item.Group Round parts ∷ []) a

-- a bound or a stride of a section, which may be missing
pub data IsBound : List Item → Option Parsed → Type 0 where
  missing : IsBound [] None
  given : {items : List Item} {a : Parsed} → IsExpression items a → IsBound items (Some a)

-- what stands between two commas
pub data IsPart : List Item → Part → Type 0 where
  -- `*`
  star : IsPart (item.Mark (Operator 2) ∷ []) part.Star
  -- `name = e` and `name = *`
  keyed : {name : List ℕ} {items : List Item} {a : Parsed} → IsExpression items a → IsPart (item.Word name ∷ item.Mark Equals ∷ items) (part.Keyed name (Some a))
  keyed_star : {name : List ℕ} → IsPart (item.Word name ∷ item.Mark Equals ∷ item.Mark (Operator 2) ∷ []) (part.Keyed name None)
  -- `l:u`, `l:u:s` and `l::s` (R921)
  section : {front behind : List Item} {lower upper : Option Parsed} → IsBound front lower → IsBound behind upper → IsPart (front ++ item.Mark Colon ∷ behind) (part.Section lower upper Absent)
  section_by : {front between behind : List Item} {lower upper step : Option Parsed} → IsBound front lower → IsBound between upper → IsBound behind step
      → IsPart (front ++ item.Mark Colon ∷ (between ++ item.Mark Colon ∷ behind)) (part.Section lower upper (step_of step))
  section_to_end : {front behind : List Item} {lower step : Option Parsed} → IsBound front lower → IsBound behind step
      → IsPart (front ++ item.Mark DoubleColon ∷ behind) (part.Section lower None (step_of step))
  value : {items : List Item} {a : Parsed} → IsExpression items a → IsPart items (part.Plain a)
  implied : {parts : List Part} {a : Parsed} → IsLoop parts a → IsPart (item.Group Round parts ∷ []) (part.Implied a)

-- parts with a comma between each two
pub data AreListed : List Item → List Part → Type 0 where
  last : {items : List Item} {one : Part} → IsPart items one → AreListed items (one ∷ [])
  one_more : {front behind : List Item} {one : Part} {parts : List Part} → IsPart front one → AreListed behind parts → AreListed (front ++ item.Mark Comma ∷ behind) (one ∷ parts)

-- what stands between the brackets of a group
pub data AreParts : List Item → List Part → Type 0 where
  none : AreParts [] []
  listed : {items : List Item} {parts : List Part} → AreListed items parts → AreParts items parts
