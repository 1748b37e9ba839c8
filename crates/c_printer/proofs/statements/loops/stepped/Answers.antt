use Rattle.c_printer.specs.Places.{place_of}
use Rattle.c_printer.specs.Writing.{location}
use Rattle.c_printer.proofs.Branches.{writes_stepped}
use Rattle.c_printer.proofs.statements.loops.stepped.Goals as goal

pub returns : goal.returns
returns c =
    writes_stepped c.args.writer.now c.fetch.new.writer c.helped.new.self c.fitted.new.writer c.store.new.writer c.count_down.new.writer c.count_down.result (location c.args.here) (place_of c.args.scope.now c.args.begun.spot)
    c.args.begun.step c.args.begun.count c.in_ok-old.old c.in_ok-sum.sum c.in_ok-new.new c.in_ok-arguments.arguments c.in_ok-arguments.ensures c.in_ok-old.ensures c.in_ok-sum.ensures c.in_ok-new.ensures c.in_ok-store.ensures c.count_down.ensures
