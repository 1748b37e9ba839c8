use Rattle.std.proofs.Common.{◌≡◌, ◌++◌, drop}
use Rattle.ff_forms.specs.Output.{squeezed}
use Rattle.ff_forms.proofs.output.squeezed.Given as goal

abbrev pub invariant-loop-byte : goal.invariant-loop-byte
invariant-loop-byte l = l.text.items ++ squeezed (drop l.byte-index l.bytes) ≡ squeezed l.bytes
