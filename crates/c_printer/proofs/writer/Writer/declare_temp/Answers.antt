use Rattle.c_printer.proofs.Writes.{writes_temp}
use Rattle.c_printer.proofs.writer.Writer.declare_temp.Goals as goal

pub returns : goal.returns
returns c = writes_temp _ _ _ _ _ _ _ _ c.in_ok-name.ensures c.in_ok-given.ensures c.in_ok-line.ensures c.set_type.ensures
