use Rattle.std.proofs.Common.{sym}
use Rattle.ast_nodes.proofs.Chains.{prints_none, prints_more}
use Rattle.ast_nodes.proofs.print.unit.put_unit.Goals as goal

pub returns-in-Program : goal.returns-in-Program
returns-in-Program g c = rw c.in-Program.is (rw (sym c.as_slice-in-Program.ensures) (rw (sym c.as_slice.ensures) (rw (sym c.as_slice-in-Program-2.ensures) (prints_more _ _ _ _ _ _ _ _ _ _ _ _ _ c.put_tag-ended.ensures (prints_more _ _ _ _ _ _ _ _ _ _ _ _ _ c.put_number-ended.ensures (prints_more _ _ _ _ _ _ _ _ _ _ _ _ _ c.put_name-ended.ensures (prints_more _ _ _ _ _ _ _ _ _ _ _ _ _ c.put_decls-ended.ensures (prints_more _ _ _ _ _ _ _ _ _ _ _ _ _ c.put_stmts-ended.ensures (prints_more _ _ _ _ _ _ _ _ _ _ _ _ _ c.put_procedures-ended.ensures (prints_more _ _ _ _ _ _ _ _ _ _ _ _ _ c.put.ensures (prints_none _ _ _ _ _ _ _)))))))))))

pub returns-in-Module : goal.returns-in-Module
returns-in-Module g c = rw c.in-Module.is (rw (sym c.as_slice-in-Module.ensures) (rw (sym c.as_slice-in-Module-2.ensures) (prints_more _ _ _ _ _ _ _ _ _ _ _ _ _ c.put_tag-ended-in-Module.ensures (prints_more _ _ _ _ _ _ _ _ _ _ _ _ _ c.put_number-ended-in-Module.ensures (prints_more _ _ _ _ _ _ _ _ _ _ _ _ _ c.put_name-ended-in-Module.ensures (prints_more _ _ _ _ _ _ _ _ _ _ _ _ _ c.put_decls-ended-in-Module.ensures (prints_more _ _ _ _ _ _ _ _ _ _ _ _ _ c.put_procedures-ended-in-Module.ensures (prints_more _ _ _ _ _ _ _ _ _ _ _ _ _ c.put-in-Module.ensures (prints_none _ _ _ _ _ _ _)))))))))
