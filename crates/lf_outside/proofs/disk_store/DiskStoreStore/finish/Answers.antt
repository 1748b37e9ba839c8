use Rattle.std.proofs.Common.{Ok, sym, subst, ◌∙◌}
use Rattle.std.specs.Prelude.{string_bytes}
use Rattle.lf_base.specs.Files.{Finishes}
use Rattle.lf_outside.specs.Disk.{told, Publishes}
use Rattle.lf_outside.specs.DiskStore.{name_of, contents_of}
use Rattle.lf_outside.proofs.Disks.{finishes}
use Rattle.lf_outside.proofs.disk_store.DiskStoreStore.finish.Goals as goal

pub returns-in-Ok-clause-ok : goal.returns-in-Ok-clause-ok
returns-in-Ok-clause-ok g c =
    let old = g.D.Disk.history c.args.self.now.disk in
    let new = g.D.Disk.history c.publish.new.disk in
    let pending = c.in-Some.pending in
    let temporary = string_bytes pending.temporary.name in
    let done = c.in-Ok.ensures in
    let under = subst (λ n. Publishes old new temporary n (Ok c.in-Ok.field-0)) c.as_str.ensures.value done.publishes in
    subst (λ q. Finishes (told old) (name_of q) (contents_of old q) (told new)) (sym (sym c.take.ensures.value ∙ c.in-Some.is)) (finishes _ _ old new temporary (string_bytes pending.name) c.in-Ok.field-0 pending.temporary.own pending.plain under)
