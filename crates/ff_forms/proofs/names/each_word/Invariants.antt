use Rattle.std.proofs.Common.{◌≡◌, length}
use Rattle.ff_forms.specs.Answers.{all}
use Rattle.ff_forms.specs.Shapes.{only_word}
use Rattle.ff_forms.proofs.Lists.{behind}
use Rattle.ff_forms.proofs.names.each_word.Given as goal

abbrev pub invariant-loop-piece : goal.invariant-loop-piece
invariant-loop-piece l = behind l.names (all only_word l.pieces) ≡ all only_word l.fn.pieces

abbrev pub decreases-loop-piece : goal.decreases-loop-piece
decreases-loop-piece l = length l.pieces
