use Rattle.std.proofs.Common.{◌≡◌, drop}
use Rattle.ff_lexer.specs.Spans.{end_of}
use Rattle.ff_lexer.proofs.reader.end_of.Given as goal

abbrev pub invariant-loop-placed : goal.invariant-loop-placed
invariant-loop-placed l = end_of l.end (drop l.placed-index l.bytes) ≡ end_of 0 l.bytes
