use Rattle.std.proofs.Common.{sym, ap, ◌∙◌, ◌+◌, drop, arith}
use Rattle.std.proofs.lemmas.List.{at_drop_more}
use Rattle.symtab_arena.specs.Tables.{without_each}
use Rattle.symtab_arena.proofs.table.clear_each.Goals as goal

pub loop-symbol-preserved : goal.loop-symbol-preserved
loop-symbol-preserved g c =
    let before = c.loop-symbol.invariant in
    let counted = c.clear_one-count.ensures in
    record {
      left =
          ap (without_each (drop (c.loop-symbol.symbol-index + 1) c.args.gone.now)) counted.left
          ∙ sym (at_drop_more (λ ss. without_each ss c.loop-symbol.symbols.items) c.args.gone.now c.loop-symbol.symbol-index _ c.loop-symbol-test.true)
          ∙ before.left;
      count = omega (arith, counted.count, before.count);
      within = omega (arith, counted.one, before.within);
    }
