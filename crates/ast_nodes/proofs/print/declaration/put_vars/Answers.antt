use Rattle.std.proofs.Common.{sym}
use Rattle.ast_nodes.proofs.Chains.{prints_none, prints_more}
use Rattle.ast_nodes.proofs.print.declaration.put_vars.Goals as goal

pub returns : goal.returns
returns g c = rw (sym c.as_slice.ensures) (rw (sym c.as_slice-2.ensures) (prints_more _ _ _ _ _ _ _ _ _ _ _ _ _ c.put_tag-ended.ensures (prints_more _ _ _ _ _ _ _ _ _ _ _ _ _ c.put_number-ended.ensures (prints_more _ _ _ _ _ _ _ _ _ _ _ _ _ c.put_led_type-ended.ensures (prints_more _ _ _ _ _ _ _ _ _ _ _ _ _ c.put_attributes-ended.ensures (prints_more _ _ _ _ _ _ _ _ _ _ _ _ _ c.put_entities-ended.ensures (prints_more _ _ _ _ _ _ _ _ _ _ _ _ _ c.put.ensures (prints_none _ _ _ _ _ _ _))))))))
