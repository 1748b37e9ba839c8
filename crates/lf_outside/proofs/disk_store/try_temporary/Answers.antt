use Rattle.std.proofs.Common.{true, sym, subst, ◌≡◌}
use Rattle.lf_base.specs.Files.{Begins}
use Rattle.lf_outside.specs.Names.{is_own}
use Rattle.lf_outside.specs.Disk.{told, held}
use Rattle.lf_outside.proofs.Disks.{creates_told, creates_begins}
use Rattle.lf_outside.proofs.disk_store.try_temporary.Goals as goal

pub returns-in-Ok-clause-told : goal.returns-in-Ok-clause-told
returns-in-Ok-clause-told g c =
    let made = c.in-Ok.ensures in
    let named = c.in_ok-temporary.ensures in
    creates_told _ _ (g.D.Disk.history c.args.disk.now) (g.D.Disk.history c.create.new.self) c.as_str.result.now c.in-Ok.file (subst (λ n. is_own n ≡ true) (sym c.as_str.ensures.value) named.own) made.creates

pub returns-in-Ok-clause-made : goal.returns-in-Ok-clause-made
returns-in-Ok-clause-made g c =
    let made = c.in-Ok.ensures in
    let old = g.D.Disk.history c.args.disk.now in
    let new = g.D.Disk.history c.create.new.self in
    subst (λ n. Begins (told old) (held new n)) c.as_str.ensures.value (creates_begins _ _ old new c.as_str.result.now c.in-Ok.file made.creates)
