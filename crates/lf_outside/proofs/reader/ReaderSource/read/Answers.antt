use Rattle.lf_outside.proofs.Streams.{stays_same}
use Rattle.lf_outside.proofs.reader.ReaderSource.read.Goals as goal

pub returns-in-Err-clause-err : goal.returns-in-Err-clause-err
returns-in-Err-clause-err g c = stays_same (g.R.Read.remaining c.args.self.now.stream) (g.R.Read.remaining c.read_once.new.stream) (c.in-Err.ensures).err (g.met.R.Steady.steady c.read_once.new.stream c.args.self.now.stream)
