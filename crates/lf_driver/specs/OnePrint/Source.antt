-- The program that is built: a main program (ISO/IEC 1539-1:2018, 14.1) with one `print` statement (12.6.1), whose value
-- is literals joined by operators (10.1.2).
use Rattle.std.specs.Prelude.{ℕ, ◌^◌, ◌<◌, ◌≤◌, List, length}
use Rattle.std.specs.List.{AllByRecursion}
use Rattle.lf_base.specs.Outcome.{Location}
use Rattle.lf_driver.specs.declared.one_print.built.Operator.{Operator}

-- the value that is printed
pub data Tree : Type 0 where
  Literal : (value : ℕ) → Tree
  Binary : (operator : Operator) (left right : Tree) → Tree

pub record Source : Type 0 where
  -- the name of the program
  pub name : List ℕ
  -- the line of the `print` statement
  pub line : ℕ
  pub value : Tree

-- the location of the one statement that is executed: the file by its name, and the line of the `print`
abbrev pub location_of : List ℕ → Source → Location
location_of file source = record { source = file; line = source.line }

-- a location that a program may have: its file is named by at most 255 bytes, and its line has 32 bits
pub record IsLocation (location : Location) : Type 0 where
  pub short : length location.source ≤ 255
  pub bytes : AllByRecursion (λ b. b < 256) location.source
  pub small : location.line < 2 ^ 32
