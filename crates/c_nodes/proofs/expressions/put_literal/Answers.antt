use Rattle.lf_base.proofs.Chains.{puts_none, puts_more}
use Rattle.c_nodes.proofs.expressions.put_literal.Goals as goal

pub returns-clause-text : goal.returns-clause-text
returns-clause-text g c = puts_more _ _ _ _ _ _ _ _ c.put-ended.ensures.text (puts_more _ _ _ _ _ _ _ _ c.put_bytes-ended.ensures.text (puts_more _ _ _ _ _ _ _ _ c.put.ensures.text (puts_none _ _)))
