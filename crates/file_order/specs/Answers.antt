-- What `order` answers.
use Rattle.std.specs.Prelude.{ℕ, List, Vec, Result, Ok, Err, length}
use Rattle.std.specs.Global.{Global}
use Rattle.ast_nodes.specs.declared.file.File.{File}
use Rattle.file_order.specs.declared.fault.OrderFault.{OrderFault}
use Rattle.file_order.specs.declared.fault.OrderFault.TheVariants.{Cycle, Memory}
use Rattle.file_order.specs.Cycles.{IsStuck, IsCycle}
use Rattle.file_order.specs.Modules.{MustPrecede}
use Rattle.file_order.specs.Orders.{IsLeastOrder}

-- the least valid order of the files' places
abbrev pub IsLeastFileOrder : List File → List ℕ → Type 0
IsLeastFileOrder files = IsLeastOrder (length files) (MustPrecede files)

-- the cycle that the walk over the stuck places names
abbrev pub IsNamedCycle : List File → List ℕ → Type 0
IsNamedCycle files = IsCycle (IsStuck (length files) (MustPrecede files)) (MustPrecede files)

abbrev pub IsAnswer : List File → Result (Vec ℕ Global) OrderFault → Type 0
IsAnswer files (Ok order) = IsLeastFileOrder files order.items
IsAnswer files (Err (Cycle places)) = IsNamedCycle files places.items
IsAnswer files (Err Memory) = Unit {0}
