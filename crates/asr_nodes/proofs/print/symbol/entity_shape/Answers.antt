use Rattle.std.proofs.Common.{◌≡◌, true, false, IfSome, inl, inr, sym, ap, subst, ◌∙◌}
use Rattle.std.specs.Option.{option_map_or}
use Rattle.symtab_arena.specs.Links.{Linked}
use Rattle.asr_nodes.specs.Shapes.{shown}
use Rattle.asr_nodes.specs.Symbols.{is_root, is_unit, table_in}
use Rattle.asr_nodes.specs.Text.{stmt_text, symbol_text}
use Rattle.asr_nodes.specs.Units.{symbol_node, symbol_trees}
use Rattle.asr_nodes.specs.declared.tree.StmtTree.TheVariants as stmt
use Rattle.asr_nodes.proofs.Entities.{function_text, struct_text, unit_text_none}
use Rattle.asr_nodes.proofs.print.symbol.entity_shape.Goals as goal

pub returns-in-Function : goal.returns-in-Function
returns-in-Function c =
    let links = subst (λ s. Linked s) c.arena.ensures c.linked.ensures in
    let root = subst (λ x. IfSome (table_in x) (λ table. is_root table ≡ false)) c.in-Function.is c.requires in
    c.seven.ensures (shown c.args.asr.now) ∙ sym (ap (λ n. option_map_or symbol_text (symbol_node c.args.asr.now (symbol_trees c.args.asr.now) c.args.name.now n) (stmt_text (stmt.End 0))) c.in-Function.is ∙ function_text c.args.asr.now links c.sound.ensures c.args.name.now c.in-Function.access c.in-Function.dummies c.in-Function.result c.in-Function.simple c.in-Function.table c.in-Function.body root)

pub returns-in-Struct : goal.returns-in-Struct
returns-in-Struct c =
    let links = subst (λ s. Linked s) c.arena.ensures c.linked.ensures in
    let root = subst (λ x. IfSome (table_in x) (λ table. is_root table ≡ false)) c.in-Struct.is c.requires in
    c.three.ensures (shown c.args.asr.now) ∙ sym (ap (λ n. option_map_or symbol_text (symbol_node c.args.asr.now (symbol_trees c.args.asr.now) c.args.name.now n) (stmt_text (stmt.End 0))) c.in-Struct.is ∙ struct_text c.args.asr.now links c.sound.ensures c.args.name.now c.in-Struct.access c.in-Struct.table root)

pub returns-in-Program : goal.returns-in-Program
returns-in-Program c = c.no_stmt.ensures (shown c.args.asr.now) ∙ sym (unit_text_none c.args.asr.now c.args.name.now c.args.symbol.now (elim c.in-Program.is as (λ _. is_unit c.args.symbol.now ≡ true) [ inl p ↦ ap is_unit p.4 | inr p ↦ ap is_unit p.3 ]))

pub returns-in-Variable : goal.returns-in-Variable
returns-in-Variable c = c.plain_shape.ensures c.args.asr.now
