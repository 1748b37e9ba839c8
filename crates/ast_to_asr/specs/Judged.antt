-- What a part of a source is by the rules of names and types (ISO/IEC 1539-1:2018, clauses 7 to 11): what it stands for, or,
-- where it breaks rules, the one of the least number. A part that breaks a rule has no type, so it breaks no further rule of
-- what it stands in.
use Rattle.std.specs.Prelude.{ℕ, ◌==◌, nat_lt, if◌then◌else◌, List, [], ◌∷◌, Option, Some, None, Result, Ok, Err}
use Rattle.lf_base.specs.Rules.{number_of}
use Rattle.lf_base.specs.declared.rule.Rule.{Rule}

abbrev pub Judged : Type 0 → Type 0
Judged X = Result X Rule

abbrev pub lesser : Rule → Rule → Rule
lesser first second = if nat_lt (number_of second) (number_of first) then second else first

-- of two rules that are both broken, or of which none is
abbrev pub also : {X : Type 0} → Rule → Judged X → Rule
also rule (Ok x) = rule
also rule (Err other) = lesser rule other

-- what has no value breaks the rule
abbrev pub right : {X : Type 0} → Rule → Option X → Judged X
right rule None = Err rule
right rule (Some x) = Ok x

-- both parts, each of which is judged whatever the other is
abbrev pub both : {X Y : Type 0} → Judged X → Judged Y → Judged (X × Y)
both (Ok x) (Ok y) = Ok (x, y)
both (Ok x) (Err rule) = Err rule
both (Err rule) (Ok y) = Err rule
both (Err rule) (Err other) = Err (lesser rule other)

-- what is judged further only where it is right
abbrev pub and_then : {X Y : Type 0} → Judged X → (X → Judged Y) → Judged Y
and_then (Ok x) judge = judge x
and_then (Err rule) judge = Err rule

abbrev pub in_front : {X : Type 0} → X × List X → List X
in_front p = p.0 ∷ p.1

abbrev pub map_right : {X Y : Type 0} → (X → Y) → Judged X → Judged Y
map_right make (Ok x) = Ok (make x)
map_right make (Err rule) = Err rule

abbrev pub all : {X : Type 0} → List (Judged X) → Judged (List X)
all [] = Ok []
all (x ∷ xs) = map_right in_front (both x (all xs))

-- A rule that is broken at a line. The least line counts, and at one line the least number.
pub record Broken : Type 0 where
  pub line : ℕ
  pub rule : Rule

abbrev pub earlier : Broken → Broken → Broken
earlier first second =
    if nat_lt second.line first.line then second
    else if (second.line == first.line) then (if nat_lt (number_of second.rule) (number_of first.rule) then second else first)
    else first

abbrev pub Placed : Type 0 → Type 0
Placed X = Result X Broken

abbrev pub at_line : {X : Type 0} → ℕ → Judged X → Placed X
at_line line (Ok x) = Ok x
at_line line (Err rule) = Err (record { line = line; rule = rule })

abbrev pub both_placed : {X Y : Type 0} → Placed X → Placed Y → Placed (X × Y)
both_placed (Ok x) (Ok y) = Ok (x, y)
both_placed (Ok x) (Err broken) = Err broken
both_placed (Err broken) (Ok y) = Err broken
both_placed (Err broken) (Err other) = Err (earlier broken other)

abbrev pub map_placed : {X Y : Type 0} → (X → Y) → Placed X → Placed Y
map_placed make (Ok x) = Ok (make x)
map_placed make (Err broken) = Err broken

abbrev pub then_placed : {X Y : Type 0} → Placed X → (X → Placed Y) → Placed Y
then_placed (Ok x) judge = judge x
then_placed (Err broken) judge = Err broken
