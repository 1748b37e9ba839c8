use Rattle.ff_parser.proofs.Written.{one}
use Rattle.ff_parser.proofs.law.one_file.Goals as goal

pub returns : goal.returns
returns c = one
