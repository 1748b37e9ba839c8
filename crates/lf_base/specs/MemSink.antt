-- A sink in memory, as callers see it.
use Rattle.std.specs.Prelude.{ℕ, List}
use Rattle.lf_base.specs.Calls.{Numbers}

pub record SinkState : Type 0 where
  -- the bytes that it holds
  pub bytes : List ℕ
  -- its calls
  pub calls : Numbers
  -- how often it has failed
  pub faults : ℕ
