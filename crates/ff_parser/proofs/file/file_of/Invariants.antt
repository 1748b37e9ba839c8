use Rattle.std.proofs.Common.{◌≡◌, drop}
use Rattle.ff_lexer.specs.Spans.{spelled_statements}
use Rattle.ff_parser.specs.Files.{file_behind, file_in}
use Rattle.ff_parser.proofs.file.file_of.Given as goal

abbrev pub invariant-loop-stmt : goal.invariant-loop-stmt
invariant-loop-stmt l = file_behind l.nest (spelled_statements l.source (drop l.stmt-index l.stmts)) ≡ file_in (spelled_statements l.source l.stmts)
