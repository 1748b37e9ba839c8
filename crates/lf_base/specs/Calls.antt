-- The calls of an object in memory, which are numbered from 0.
use Rattle.std.specs.Prelude.{ℕ, List}

pub record Numbers : Type 0 where
  -- the number of the next call
  pub next : ℕ
  -- the numbers of the calls that fail
  pub fails : List ℕ
