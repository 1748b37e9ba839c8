use Rattle.ff_lexer.specs.Spans.{views}
use Rattle.ff_lexer.proofs.Found.{answers_spelled, answers_lie}
use Rattle.ff_lexer.proofs.reader.read_source.Goals as goal

pub returns-clause-spelled : goal.returns-clause-spelled
returns-clause-spelled c = answers_spelled c.args.source.now (λ v. views v.items) c.read_all.result c.if-source-gt-GREATEST_SOURCE.false c.read_all.ensures

pub returns-clause-places : goal.returns-clause-places
returns-clause-places c = answers_lie c.args.source.now (λ v. views v.items) c.read_all.result c.read_all.ensures
