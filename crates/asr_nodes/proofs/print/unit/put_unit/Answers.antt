use Rattle.std.proofs.Common.{◌≡◌, false, Some, IfSome, ap, subst}
use Rattle.lf_base.specs.Contents.{joined}
use Rattle.ast_nodes.proofs.Chains.{prints_none, prints_more}
use Rattle.symtab_arena.specs.Links.{Linked}
use Rattle.symtab_arena.specs.Scopes.{name_of}
use Rattle.asr_nodes.specs.Symbols.{is_root, table_in}
use Rattle.asr_nodes.proofs.Entities.{unit_text_is, not_root, lines_are}
use Rattle.asr_nodes.proofs.print.unit.put_unit.Goals as goal

pub returns-in-Program : goal.returns-in-Program
returns-in-Program g c =
    let a = c.args.asr.now in
    let links = subst (λ s. Linked s) c.arena-arena.ensures c.linked.ensures in
    let name = subst (λ s. name_of s c.args.unit ≡ Some c.name_of-name.result.now) c.arena-arena.ensures c.name_of-name.ensures in
    let root = subst (λ x. IfSome (table_in x) (λ table. is_root table ≡ false)) c.in-Program.is (not_root a links c.args.unit _ c.symbol.ensures.table) in
    rw (unit_text_is a c.args.unit _ _ _ name c.symbol.ensures.node c.in-Program.is)
    (rw (ap joined (lines_are a links c.sound.ensures c.in-Program.table root))
    (prints_more _ _ _ _ _ _ _ _ _ _ _ _ _ c.put_front-ended.ensures (prints_more _ _ _ _ _ _ _ _ _ _ _ _ _ c.put_lines-ended.ensures (prints_more _ _ _ _ _ _ _ _ _ _ _ _ _ c.put-ended.ensures (prints_more _ _ _ _ _ _ _ _ _ _ _ _ _ c.put_group-ended.ensures (prints_more _ _ _ _ _ _ _ _ _ _ _ _ _ c.put.ensures (prints_none _ _ _ _ _ _ _)))))))

pub returns-in-Module : goal.returns-in-Module
returns-in-Module g c =
    let a = c.args.asr.now in
    let links = subst (λ s. Linked s) c.arena-arena.ensures c.linked.ensures in
    let name = subst (λ s. name_of s c.args.unit ≡ Some c.name_of-name.result.now) c.arena-arena.ensures c.name_of-name.ensures in
    let root = subst (λ x. IfSome (table_in x) (λ table. is_root table ≡ false)) c.in-Module.is (not_root a links c.args.unit _ c.symbol.ensures.table) in
    rw (unit_text_is a c.args.unit _ _ _ name c.symbol.ensures.node c.in-Module.is)
    (rw (ap joined (lines_are a links c.sound.ensures c.in-Module.table root))
    (prints_more _ _ _ _ _ _ _ _ _ _ _ _ _ c.put_front-ended-in-Module.ensures (prints_more _ _ _ _ _ _ _ _ _ _ _ _ _ c.put_lines-ended-in-Module.ensures (prints_more _ _ _ _ _ _ _ _ _ _ _ _ _ c.put-in-Module.ensures (prints_none _ _ _ _ _ _ _)))))
