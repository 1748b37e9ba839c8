use Rattle.std.proofs.Common.{◌≡◌, length}
use Rattle.ff_forms.specs.Answers.{all}
use Rattle.ff_forms.specs.Names.{rename_of}
use Rattle.ff_forms.proofs.Lists.{behind}
use Rattle.ff_forms.proofs.names.each_rename.Given as goal

abbrev pub invariant-loop-piece : goal.invariant-loop-piece
invariant-loop-piece l = behind l.renames (all rename_of l.pieces) ≡ all rename_of l.fn.pieces

abbrev pub decreases-loop-piece : goal.decreases-loop-piece
decreases-loop-piece l = length l.pieces
