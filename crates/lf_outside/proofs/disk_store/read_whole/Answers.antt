use Rattle.std.proofs.Common.{ap, arith}
use Rattle.lf_outside.proofs.Disks.{read_to_end}
use Rattle.lf_outside.proofs.disk_store.read_whole.Goals as goal

pub returns-in-Ok-2 : goal.returns-in-Ok-2
returns-in-Ok-2 g c =
    let read = c.in-Ok.ensures in
    let long = c.read_to_end.new.buf.ok.0 in
    read_to_end (λ v. v.items) (g.R.Read.remaining c.args.file) (g.R.Read.remaining c.take.result.inner) c.take.result.limit c.new-bytes.result.items c.read_to_end.new.buf (ap g.R.Read.remaining c.take.ensures.inner) c.take.ensures.limit c.new-bytes.ensures.items read.bytes (omega (arith, long, read.ok, c.new-bytes.ensures.len, c.if-count-gt-GREATEST_FILE.false))
