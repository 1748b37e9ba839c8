use Rattle.std.proofs.Common.{◌≡◌, Some, sym, ap, ◌∙◌, subst}
use Rattle.lf_base.specs.declared.id.TableId.{TableId}
use Rattle.symtab_arena.specs.Scopes.{names_in, symbol_in_place}
use Rattle.asr_nodes.specs.Nodes.{Nodes}
use Rattle.c_printer.specs.Units.{types_of}
use Rattle.c_printer.proofs.FirstValues.{firsts_next}
use Rattle.c_printer.proofs.first.write_first_values.Goals as goal

pub loop-place-preserved : goal.loop-place-preserved
loop-place-preserved c =
    let u = c.args.scope.now in
    let names = names_in u.asr.scopes u.table in
    let scopes = c.arena-arena.ensures ∙ ap (λ (a : Nodes). a.scopes) c.asr.ensures in
    let listed =
    subst (λ s. symbol_in_place s u.table c.loop-place.place ≡ Some c.nth.result) scopes
    (subst (λ (t : TableId). symbol_in_place c.arena-arena.result.now t c.loop-place.place ≡ Some c.nth.result) c.table-table.ensures c.nth.ensures.listed)
    in
    sym (firsts_next u.unit c.args.source.now (types_of u) u.asr names c.loop-place.writer c.write_first_of.new.writer c.loop-place.place c.nth.result listed c.in_ok-write_first_of.ensures)
    ∙ c.loop-place.invariant
