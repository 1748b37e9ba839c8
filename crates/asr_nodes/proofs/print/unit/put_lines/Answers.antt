use Rattle.std.proofs.Common.{◌≡◌, ℕ, List, [], ◌∷◌, Some, codes, subst}
use Rattle.lf_base.specs.declared.id.SymId.{SymId}
use Rattle.lf_base.specs.Contents.{joined}
use Rattle.ast_nodes.proofs.Chains.{awaits_rest}
use Rattle.symtab_arena.specs.Scopes.{names_in, symbol_in_place}
use Rattle.asr_nodes.specs.Shapes.{entity_text}
use Rattle.asr_nodes.proofs.Entities.{listed_at}
use Rattle.asr_nodes.proofs.Missing.{drop_next}
use Rattle.asr_nodes.proofs.print.unit.put_lines.Goals as goal

pub loop-place-preserved : goal.loop-place-preserved
loop-place-preserved g c =
    let a = c.args.asr.now in
    let listed = subst (λ s. symbol_in_place s c.args.table c.loop-place.place ≡ Some c.nth.result) c.arena-in-loop-place.ensures c.nth.ensures.listed in
    let line = listed_at (λ id. joined (entity_text a id ∷ codes "\n" ∷ [])) (λ (e : List ℕ × SymId). e.1) (names_in a.scopes c.args.table) c.loop-place.place c.nth.result listed in
    awaits_rest _ _ _ _ _ _ _ _ _ _ _ _ _ _ (rw (drop_next _ _ _ line) at c.loop-place.invariant) c.put_symbol_line-ended.ensures
