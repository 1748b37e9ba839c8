use Rattle.std.proofs.Common.{sym, ap, ◌∙◌}
use Rattle.std.specs.IoError.{error_kind}
use Rattle.lf_outside.specs.Faults.{fault_of}
use Rattle.lf_outside.proofs.Disks.{own_absent, opened_gives, closed_gives}
use Rattle.lf_outside.proofs.disk_store.read_file.Goals as goal

pub returns-then-is_own : goal.returns-then-is_own
returns-then-is_own g c = own_absent (λ v. v.items) (g.D.Disk.history c.args.disk.now) c.args.name.now (sym c.is_own.ensures ∙ c.if-is_own.true)

pub returns-in-Ok : goal.returns-in-Ok
returns-in-Ok g c =
    let opened = c.in-Ok.ensures in
    opened_gives (λ v. v.items) g.D.Opened.Read.remaining (λ e. fault_of (error_kind e)) (g.D.Disk.history c.args.disk.now) c.args.name.now c.in-Ok.file c.read_whole.result (sym c.is_own.ensures ∙ c.if-is_own.false) opened.opens c.read_whole.ensures

pub returns-in-Err : goal.returns-in-Err
returns-in-Err g c =
    let opened = c.in-Err.ensures in
    closed_gives (λ v. v.items) g.D.Opened.Read.remaining (λ e. fault_of (error_kind e)) (g.D.Disk.history c.args.disk.now) c.args.name.now c.in-Err.error c.get_fault.result (sym c.is_own.ensures ∙ c.if-is_own.false) opened.opens (c.get_fault.ensures.fault ∙ ap fault_of c.kind.ensures) c.get_fault.ensures.short
