use Rattle.ff_lexer.specs.Spans.{spelled_statements}
use Rattle.ff_parser.proofs.Written.{parses}
use Rattle.ff_parser.proofs.file.parse.Goals as goal

pub returns-clause-grammar : goal.returns-clause-grammar
returns-clause-grammar c = parses (spelled_statements c.args.source.now c.args.stmts.now) c.before.file_of.result c.file_of.ensures
