use Rattle.std.proofs.Common.{◌≡◌, drop}
use Rattle.ff_forms.specs.Output.{all_blank}
use Rattle.ff_forms.proofs.output.all_blank.Given as goal

abbrev pub invariant-loop-byte : goal.invariant-loop-byte
invariant-loop-byte l = all_blank (drop l.byte-index l.bytes) ≡ all_blank l.bytes
