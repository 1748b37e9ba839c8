use Rattle.std.proofs.lemmas.List.{nil_from_length}
use Rattle.std.proofs.Common.{sym, ap, ◌∙◌}
use Rattle.std.specs.FinMap.{get-empty}
use Rattle.lf_outside.specs.Disk.{bytes_in}
use Rattle.lf_outside.specs.MemDisk.{steps_of}
use Rattle.lf_outside.proofs.mem_disk.file_in.Goals as goal

pub returns : goal.returns
returns c = let none = c.in-None.ensures in sym (c.loop-step.invariant ∙ ap (λ s. bytes_in (steps_of s) c.args.name.now) (nil_from_length _ none.steps.0) ∙ get-empty _ c.args.name.now)
