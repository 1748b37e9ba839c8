use Rattle.asr_nodes.proofs.print.ty.ty_shape.Goals as goal

pub returns : goal.returns
returns c = λ r. c.two.ensures r
