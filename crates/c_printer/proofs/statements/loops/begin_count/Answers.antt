use Rattle.c_printer.specs.Lowered.{expression_of}
use Rattle.c_printer.specs.Places.{place_of}
use Rattle.c_printer.specs.Writing.{location}
use Rattle.c_printer.proofs.Branches.{counting_begins}
use Rattle.c_printer.proofs.statements.loops.begin_count.Goals as goal

pub returns : goal.returns
returns c =
    let e = expression_of c.args.scope.now in
    counting_begins c.args.writer.now c.value.new.writer c.value-2.new.writer c.value-3.new.writer c.helped.new.self c.store.new.writer (location c.args.here) c.args.counter.id (e c.args.counter.variable) (e c.args.counter.lower)
    (e c.args.counter.upper) (e c.args.counter.step) c.in_ok-lower.lower c.in_ok-upper.upper c.in_ok-step.step c.in_ok-count.count (place_of c.args.scope.now c.place-spot.result) c.in_ok-arguments.arguments
    c.in_ok-arguments.ensures (c.place-spot.ensures (location c.args.here)) c.in_ok-lower.ensures c.in_ok-upper.ensures c.in_ok-step.ensures c.in_ok-count.ensures c.in_ok-store.ensures
