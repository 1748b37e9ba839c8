use Rattle.std.proofs.Common.{sym}
use Rattle.ast_nodes.proofs.Chains.{prints_none, prints_more}
use Rattle.ast_nodes.proofs.print.unit.put_procedure.Goals as goal

pub returns : goal.returns
returns g c = rw (sym c.from.ensures) (rw (sym c.as_slice.ensures) (rw (sym c.as_slice-2.ensures) (rw (sym c.as_slice-3.ensures) (prints_more _ _ _ _ _ _ _ _ _ _ _ _ _ c.put_tag-ended.ensures (prints_more _ _ _ _ _ _ _ _ _ _ _ _ _ c.put_number-ended.ensures (prints_more _ _ _ _ _ _ _ _ _ _ _ _ _ c.put_name-ended.ensures (prints_more _ _ _ _ _ _ _ _ _ _ _ _ _ c.put_number-ended-2.ensures (prints_more _ _ _ _ _ _ _ _ _ _ _ _ _ c.put_optional_type-ended.ensures (prints_more _ _ _ _ _ _ _ _ _ _ _ _ _ c.put_names-ended.ensures (prints_more _ _ _ _ _ _ _ _ _ _ _ _ _ c.put_optional_name-ended.ensures (prints_more _ _ _ _ _ _ _ _ _ _ _ _ _ c.put_decls-ended.ensures (prints_more _ _ _ _ _ _ _ _ _ _ _ _ _ c.put_stmts-ended.ensures (prints_more _ _ _ _ _ _ _ _ _ _ _ _ _ c.put.ensures (prints_none _ _ _ _ _ _ _))))))))))))))
