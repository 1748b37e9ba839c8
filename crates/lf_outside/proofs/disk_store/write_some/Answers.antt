use Rattle.std.proofs.Common.{Ok, subst, ap, ◌∙◌}
use Rattle.lf_outside.specs.Disk.{Writes}
use Rattle.lf_outside.proofs.Disks.{writes_told, writes_held}
use Rattle.lf_outside.proofs.disk_store.write_some.Goals as goal

pub returns-in-Ok-eq0-clause-told : goal.returns-in-Ok-eq0-clause-told
returns-in-Ok-eq0-clause-told g c = writes_told _ (g.D.Disk.history c.args.disk.now) (g.D.Disk.history c.write.new.self) c.args.name.now c.args.piece.now c.write.result c.requires c.write.ensures.writes

pub returns-in-Ok-eq0-clause-err : goal.returns-in-Ok-eq0-clause-err
returns-in-Ok-eq0-clause-err g c =
    let old = g.D.Disk.history c.args.disk.now in
    let new = g.D.Disk.history c.write.new.self in
    writes_held _ old new c.args.name.now c.args.piece.now 0 (subst (λ r. Writes old new c.args.name.now c.args.piece.now r) (c.in-Ok-eq0.is ∙ ap Ok c.in-Ok-eq0.field-0-test) c.write.ensures.writes)

pub returns-in-Ok-clause-told : goal.returns-in-Ok-clause-told
returns-in-Ok-clause-told g c = writes_told _ (g.D.Disk.history c.args.disk.now) (g.D.Disk.history c.write.new.self) c.args.name.now c.args.piece.now c.write.result c.requires c.write.ensures.writes

pub returns-in-Ok-clause-ok : goal.returns-in-Ok-clause-ok
returns-in-Ok-clause-ok g c = let gave = c.in-Ok.ensures in writes_held _ (g.D.Disk.history c.args.disk.now) (g.D.Disk.history c.write.new.self) c.args.name.now c.args.piece.now c.in-Ok.count gave.writes
