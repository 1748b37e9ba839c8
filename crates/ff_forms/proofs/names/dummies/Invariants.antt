use Rattle.std.proofs.Common.{◌≡◌, length}
use Rattle.ff_forms.specs.Answers.{all}
use Rattle.ff_forms.specs.Shapes.{name_part}
use Rattle.ff_forms.proofs.Lists.{behind}
use Rattle.ff_forms.proofs.names.dummies.Given as goal

abbrev pub invariant-loop-part : goal.invariant-loop-part
invariant-loop-part l = behind l.names (all name_part l.parts) ≡ all name_part l.fn.parts

abbrev pub decreases-loop-part : goal.decreases-loop-part
decreases-loop-part l = length l.parts
