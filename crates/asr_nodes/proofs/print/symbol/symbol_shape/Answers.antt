use Rattle.std.proofs.Common.{◌≡◌, false, Some, is_some, sym, subst, ◌∙◌}
use Rattle.symtab_arena.specs.Links.{Linked}
use Rattle.symtab_arena.specs.Scopes.{symbol_at, name_of}
use Rattle.asr_nodes.specs.Shapes.{shown}
use Rattle.asr_nodes.proofs.Entities.{entity_is, no_entity, not_root}
use Rattle.asr_nodes.proofs.Missing.{refuted, is_none}
use Rattle.asr_nodes.proofs.print.symbol.symbol_shape.Goals as goal

pub returns-then-live : goal.returns-then-live
returns-then-live c = c.entity_shape.ensures ∙ sym (entity_is c.args.asr.now c.args.id _ _ (subst (λ s. name_of s c.args.id ≡ Some c.name_of.result.now) c.arena-arena.ensures c.name_of.ensures) c.symbol.ensures.node)

pub returns-else-live : goal.returns-else-live
returns-else-live c = c.no_stmt.ensures (shown c.args.asr.now) ∙ sym (no_entity c.args.asr.now c.args.id (subst (λ s. is_some (symbol_at s c.args.id) ≡ false) c.arena-arena.ensures (is_none _ (refuted _ c.live.ensures c.if-live.false))))

pub entity_shape-requires : goal.entity_shape-requires
entity_shape-requires c = not_root c.args.asr.now (subst (λ s. Linked s) c.arena-arena.ensures c.linked.ensures) c.args.id _ c.symbol.ensures.table
