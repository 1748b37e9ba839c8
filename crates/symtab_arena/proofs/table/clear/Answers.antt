use Rattle.std.proofs.Common.{sym, ap, ◌∙◌, ◌+◌, drop, arith, is_some}
use Rattle.std.specs.List.{count_by}
use Rattle.symtab_arena.specs.Tables.{cleared}
use Rattle.symtab_arena.proofs.ClearLemmas.{cleared-step, cleared-end}
use Rattle.symtab_arena.proofs.table.clear.Goals as goal
use Rattle.symtab_arena.proofs.table.clear.Goals.{in-Some, in_default}

pub loop-place-preserved : goal.loop-place-preserved
loop-place-preserved g c =
    let names = c.args.names.now in
    let place = c.loop-place.place in
    let before = c.loop-place.invariant in
    elim c.match-at.branch [
      | in-Some w ↦
          let number = ap (λ v. count_by is_some v.items) w.symbols-is in
          let counted = w.clear_one-gone.ensures in
          let total = w.gone-is in
          record {
            left =
                ap (λ v. cleared (drop (place + 1) names) v.items) w.symbols-is
                ∙ ap (cleared (drop (place + 1) names)) counted.left
                ∙ sym (cleared-step names place w.in-Some.symbol c.loop-place.symbols.items (sym c.at.ensures ∙ w.in-Some.is))
                ∙ before.left;
            count = omega (arith, counted.count, before.count);
            within = omega (arith, counted.one, before.within);
          }
      | in_default w ↦
          let number = ap (λ v. count_by is_some v.items) w.symbols-is in
          let total = w.gone-is in
          record {
            left =
                ap (λ v. cleared (drop (place + 1) names) v.items) w.symbols-is
                ∙ sym (cleared-end names place c.loop-place.symbols.items (sym c.at.ensures ∙ w.in_default.is))
                ∙ before.left;
            count = omega (arith, before.count);
            within = omega (arith, before.within);
          }
    ]
