use Rattle.std.proofs.Common.{sym}
use Rattle.ast_nodes.proofs.Chains.{prints_none, prints_more}
use Rattle.ast_nodes.proofs.print.declaration.put_type_definition.Goals as goal

pub returns : goal.returns
returns g c = rw (sym c.from.ensures) (prints_more _ _ _ _ _ _ _ _ _ _ _ _ _ c.put_tag-ended.ensures (prints_more _ _ _ _ _ _ _ _ _ _ _ _ _ c.put_number-ended.ensures (prints_more _ _ _ _ _ _ _ _ _ _ _ _ _ c.put_name-ended.ensures (prints_more _ _ _ _ _ _ _ _ _ _ _ _ _ c.put_number-ended-2.ensures (prints_more _ _ _ _ _ _ _ _ _ _ _ _ _ c.put_components-ended.ensures (prints_more _ _ _ _ _ _ _ _ _ _ _ _ _ c.put.ensures (prints_none _ _ _ _ _ _ _)))))))
