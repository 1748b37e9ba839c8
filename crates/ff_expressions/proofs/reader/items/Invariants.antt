use Rattle.std.proofs.Common.{◌≡◌, drop, map}
use Rattle.ff_lexer.specs.Spans.{spelled}
use Rattle.ff_expressions.specs.Items.{read_behind, items_of}
use Rattle.ff_expressions.proofs.reader.items.Given as goal

abbrev pub invariant-loop-token : goal.invariant-loop-token
invariant-loop-token l = read_behind l.reader (map (spelled l.source) (drop l.token-index l.tokens)) ≡ items_of (map (spelled l.source) l.tokens)
