use Rattle.lf_outside.proofs.Disks.{removes_told, removes_gone}
use Rattle.lf_outside.proofs.disk_store.remove.Goals as goal

pub returns-clause-told : goal.returns-clause-told
returns-clause-told g c = removes_told _ _ (g.D.Disk.history c.args.disk.now) (g.D.Disk.history c.remove.new.self) (g.D.Disk.stuck c.args.disk.now) (g.D.Disk.stuck c.remove.new.self) c.args.name.now c.remove.result c.requires c.remove.ensures.removes

pub returns-clause-gone : goal.returns-clause-gone
returns-clause-gone g c = removes_gone _ _ (g.D.Disk.history c.args.disk.now) (g.D.Disk.history c.remove.new.self) (g.D.Disk.stuck c.args.disk.now) (g.D.Disk.stuck c.remove.new.self) c.args.name.now c.remove.result c.remove.ensures.removes
