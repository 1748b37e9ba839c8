use Rattle.file_order.proofs.law.stuck_together.Goals as goal

pub returns : goal.returns
returns c = λ files p stuck.
    let one = (stuck.1 p stuck.2).1 in
    (one.0, (stuck.0, stuck.1, one.1), one.2)
