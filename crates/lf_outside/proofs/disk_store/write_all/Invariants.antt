use Rattle.std.proofs.Common.{◌≡◌, ◌≤◌, length, take}
use Rattle.lf_base.specs.Contents.{Appends}
use Rattle.lf_outside.specs.Disk.{told, held}
use Rattle.lf_outside.proofs.disk_store.write_all.Given as goal

-- a front is written
abbrev pub invariant-loop : goal.invariant-loop
invariant-loop g l = record {
  within : l.done ≤ length l.piece;
  told : told (g.D.Disk.history l.disk) ≡ told (g.D.Disk.history l.fn.disk);
  front : Appends (held (g.D.Disk.history l.fn.disk) l.name) (held (g.D.Disk.history l.disk) l.name) (take l.done l.piece);
}
