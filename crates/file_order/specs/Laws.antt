-- What `law` says of orders and cycles.
use Rattle.std.specs.Prelude.{◌⊎◌, ℕ, List, length}
use Rattle.ast_nodes.specs.declared.file.File.{File}
use Rattle.file_order.specs.Cycles.{IsStuck}
use Rattle.file_order.specs.Modules.{MustPrecede}
use Rattle.file_order.specs.Orders.{IsValidOrder}
use Rattle.file_order.specs.Answers.{IsLeastFileOrder}

abbrev pub IsValidFileOrder : List File → List ℕ → Type 0
IsValidFileOrder files = IsValidOrder (length files) (MustPrecede files)

-- the file in the place waits for ever
abbrev pub IsStuckFile : List File → ℕ → Type 0
IsStuckFile files = IsStuck (length files) (MustPrecede files)

-- Either the files have a least valid order, or one of them is stuck.
abbrev pub HasOrderOrStuck : List File → Type 0
HasOrderOrStuck files = ((order : List ℕ) × IsLeastFileOrder files order) ⊎ ((p : ℕ) × IsStuckFile files p)

-- Not both.
abbrev pub HasNotBoth : List File → Type 0
HasNotBoth files = (order : List ℕ) (p : ℕ) → IsValidFileOrder files order → IsStuckFile files p → ⊥

-- The stuck files are such a set themselves, and so the greatest.
abbrev pub AreStuckTogether : List File → Type 0
AreStuckTogether files = (p : ℕ) → IsStuckFile files p → (a : ℕ) × IsStuckFile files a × MustPrecede files a p
