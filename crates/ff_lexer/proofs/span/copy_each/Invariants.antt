use Rattle.std.proofs.Common.{◌≡◌, ◌++◌}
use Rattle.ff_lexer.specs.Rest.{spelling_left}
use Rattle.ff_lexer.specs.Spans.{spelled}
use Rattle.ff_lexer.proofs.span.copy_each.Given as goal

abbrev pub invariant-loop-byte : goal.invariant-loop-byte
invariant-loop-byte l = l.bytes.items ++ spelling_left l.byte-iterator ≡ (spelled l.source l.token).1
