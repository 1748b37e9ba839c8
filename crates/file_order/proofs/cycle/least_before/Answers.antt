use Rattle.std.proofs.Common.{◌∙◌, ◌<◌, ◌++◌, ◌∷◌, [], sym, ap, subst, refl, List, ℕ, length, take, get_or, arith}
use Rattle.std.specs.List.{Contains}
use Rattle.std.proofs.lemmas.List.{take_more, take_all}
use Rattle.file_order.specs.Search.{row_at, IsLeastIf}
use Rattle.file_order.proofs.Falling.{trimmed_more}
use Rattle.file_order.proofs.Lists.{contains_at}
use Rattle.file_order.proofs.WalkLemmas.{IsBeforeBy, before_more, before_all}
use Rattle.file_order.proofs.cycle.least_before.Goals as goal

pub other_open-requires-clause-within : goal.other_open-requires-clause-within
other_open-requires-clause-within c =
    let items = c.row-module-items.result.now in
    let i = c.loop-module.module-index in
    let x = get_or items i 0 in
    let less = c.requires.used x (subst (λ (xs : List ℕ). Contains xs x) c.row-module-items.ensures (contains_at items i x (c.loop-module-test.true, refl))) in
    omega (arith, less, c.loop-module.invariant.trimmed.count)

pub loop-module-preserved : goal.loop-module-preserved
loop-module-preserved c =
    let l = c.loop-module in
    let i = l.module-index in
    let marks = c.args.marks.now in
    let holders = c.args.holders.now in
    let items = c.row-module-items.result.now in
    let rows = row_at c.args.uses.now c.args.here in
    let e = c.in_ok-other_open.ensures in
    let within : i < length rows = omega (arith, c.loop-module-test.true, ap length c.row-module-items.ensures) in
    record {
      trimmed = trimmed_more marks holders l.holders c.other_open.new.rows l.invariant.trimmed e.trimmed;
      least = subst (λ (ms : List ℕ). IsLeastIf (IsBeforeBy marks holders ms c.args.here) c.lesser-least.result)
          (ap (λ (xs : List ℕ). take i rows ++ get_or xs i 0 ∷ []) c.row-module-items.ensures ∙ sym (take_more rows i 0 within))
          (before_more marks holders l.holders (take i rows) c.args.here (get_or items i 0) l.least c.in_ok-other_open.field-0 c.lesser-least.result l.invariant.trimmed l.invariant.least e.found c.lesser-least.ensures);
    }

pub returns-clause-found : goal.returns-clause-found
returns-clause-found c =
    let l = c.loop-module in
    let rows = row_at c.args.uses.now c.args.here in
    before_all c.args.marks.now c.args.holders.now c.args.uses.now (take l.module-index rows) c.args.here l.least
    (take_all l.module-index rows (omega (arith, c.loop-module-test.false, ap length c.row-module-items.ensures)))
    l.invariant.least
