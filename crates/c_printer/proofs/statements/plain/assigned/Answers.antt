use Rattle.c_printer.specs.Lowered.{expression_of}
use Rattle.c_printer.specs.Places.{place_of}
use Rattle.c_printer.specs.Writing.{location}
use Rattle.c_printer.proofs.Branches.{writes_assigned}
use Rattle.c_printer.proofs.statements.plain.assigned.Goals as goal

pub returns : goal.returns
returns c =
    let e = expression_of c.args.scope.now in
    writes_assigned c.args.writer.now c.value.new.writer c.store.new.writer c.store.result (location c.args.here) (e c.args.target) (e c.args.given) c.in_ok-v.v (place_of c.args.scope.now c.place.result) c.in_ok-v.ensures
    (c.place.ensures (location c.args.here)) c.store.ensures
