use Rattle.std.proofs.Common.{sym}
use Rattle.lf_base.proofs.Chains.{puts_none, puts_more}
use Rattle.c_nodes.proofs.print.put_file.Goals as goal

pub returns-clause-text : goal.returns-clause-text
returns-clause-text g c = rw (sym c.as_slice.ensures) (puts_more _ _ _ _ _ _ _ _ c.put-ended.ensures.text (puts_more _ _ _ _ _ _ _ _ c.put_items.ensures.text (puts_none _ _)))
