use Rattle.std.specs.Prelude.{take}
use Rattle.std.specs.List.{Contains}
use Rattle.file_order.specs.Tables.{IsNoted}
use Rattle.file_order.proofs.modules.note_all.Given as goal

abbrev pub invariant-loop-module : goal.invariant-loop-module
invariant-loop-module l = IsNoted l.place (Contains (take l.module-index l.modules)) l.fn.holders l.holders
