use Rattle.std.proofs.Common.{◌≡◌}
use Rattle.ff_lexer.specs.Rest.{spelling_left}
use Rattle.ff_lexer.proofs.unbroken.SpelledIterator.next.Given as goal

abbrev pub invariant-loop-self : goal.invariant-loop-self
invariant-loop-self l = spelling_left l.self ≡ spelling_left l.fn.self

abbrev pub decreases-loop-self : goal.decreases-loop-self
decreases-loop-self l = l.self.left
