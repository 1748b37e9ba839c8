use Rattle.ff_lexer.specs.Spans.{spelled_statements}
use Rattle.ff_lexer.proofs.Telling.{relates}
use Rattle.ff_lexer.proofs.reader.statements.Goals as goal

pub returns-clause-related : goal.returns-clause-related
returns-clause-related c = relates c.args.source.now (λ v. spelled_statements c.args.source.now v.items) c.before.read_source.result c.read_source.ensures.spelled
