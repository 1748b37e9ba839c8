use Rattle.c_nodes.proofs.expressions.put_type.Goals as goal

pub returns-in-Byte-clause-text : goal.returns-in-Byte-clause-text
returns-in-Byte-clause-text g c = rw c.in-Byte.is c.put-in-Byte.ensures.text
