use Rattle.std.proofs.Common.{true}
use Rattle.c_printer.specs.Writing.{location, locating}
use Rattle.c_printer.proofs.Writes.{writes_rest, writes_located}
use Rattle.c_printer.proofs.writer.Writer.locate.Goals as goal

pub returns : goal.returns
returns c =
    writes_rest c.args.self.now c.line.new.self c.line-2.new.self c.line-2.result (locating true (location c.args.here)) _
    (writes_located c.args.self.now c.line.new.self (location c.args.here) _ _ _ _ c.in_ok-target.ensures c.in_ok-value.ensures c.in_ok-target-2.ensures c.from.ensures c.in_ok-line.ensures)
    c.line-2.ensures
