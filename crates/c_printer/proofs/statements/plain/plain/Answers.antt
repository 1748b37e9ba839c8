use Rattle.c_printer.proofs.statements.plain.plain.Goals as goal

pub returns-in-Stop : goal.returns-in-Stop
returns-in-Stop c = rw c.in-Stop.is c.stopped.ensures
