use Rattle.std.proofs.Common.{◌≡◌, ◌+◌, ◌++◌, map, Some, sym, ap, ◌∙◌, subst}
use Rattle.lf_base.specs.declared.id.TableId.{TableId}
use Rattle.symtab_arena.specs.Scopes.{names_in, symbol_in_place}
use Rattle.asr_nodes.specs.Nodes.{Nodes}
use Rattle.c_printer.specs.Files.{variable_item}
use Rattle.c_printer.proofs.SavedVariables.{saved_from, items_next}
use Rattle.c_printer.proofs.saved.push_objects.Goals as goal

pub loop-place-preserved : goal.loop-place-preserved
loop-place-preserved c =
    let u = c.args.scope.now in
    let names = names_in u.asr.scopes u.table in
    let scopes = c.arena-arena.ensures ∙ ap (λ (a : Nodes). a.scopes) c.asr.ensures in
    let listed =
    subst (λ s. symbol_in_place s u.table c.loop-place.place ≡ Some c.nth.result) scopes
    (subst (λ (t : TableId). symbol_in_place c.arena-arena.result.now t c.loop-place.place ≡ Some c.nth.result) c.table-table.ensures c.nth.ensures.listed)
    in
    ap (λ is. is ++ map (variable_item u.unit) (saved_from u.asr (c.loop-place.place + 1) names)) c.in_ok-push_object.ensures
    ∙ sym (items_next u.asr (variable_item u.unit) c.loop-place.items names c.loop-place.place c.nth.result listed)
    ∙ c.loop-place.invariant
