use Rattle.std.proofs.Common.{sym, subst, List, ℕ, take, get_or, refl, arith}
use Rattle.std.proofs.lemmas.List.{take_more, take_all}
use Rattle.file_order.specs.Search.{AreSettled}
use Rattle.file_order.proofs.Falling.{trimmed_more}
use Rattle.file_order.proofs.Lists.{contains_at}
use Rattle.file_order.proofs.SearchLemmas.{released_more, settled_more}
use Rattle.file_order.proofs.search.settle_all.Goals as goal

pub settle-requires-clause-within : goal.settle-requires-clause-within
settle-requires-clause-within c =
    let l = c.loop-module in
    let x = get_or c.args.modules.now l.module-index 0 in
    let less = c.requires.within x (contains_at c.args.modules.now l.module-index x (c.loop-module-test.true, refl)) in
    omega (arith, less, l.invariant.trimmed.count)

pub settle-requires-clause-row : goal.settle-requires-clause-row
settle-requires-clause-row c =
    let l = c.loop-module in
    let x = get_or c.args.modules.now l.module-index 0 in
    let less = c.requires.within x (contains_at c.args.modules.now l.module-index x (c.loop-module-test.true, refl)) in
    omega (arith, less, l.invariant.released.count, c.requires.rows)

pub loop-module-preserved : goal.loop-module-preserved
loop-module-preserved c =
    let xs = c.args.modules.now in
    let l = c.loop-module in
    let i = l.module-index in
    let marks = c.args.marks.now in
    let n = c.settle.new in
    let e = c.in_ok-settle.ensures in
    record {
      trimmed = trimmed_more marks c.args.holders.now l.holders n.holders l.invariant.trimmed e.trimmed;
      released = released_more c.args.waiting.now l.waiting n.waiting c.args.candidates.now l.candidates n.candidates l.invariant.released e.released;
      settled = subst (λ (ms : List ℕ). AreSettled marks c.args.holders.now n.waiting ms) (sym (take_more xs i 0 c.loop-module-test.true))
          (settled_more marks c.args.holders.now l.holders l.waiting n.waiting (take i xs) (get_or xs i 0) l.invariant.settled e.released.listed l.invariant.trimmed e.settled);
    }

pub returns-clause-settled : goal.returns-clause-settled
returns-clause-settled c = subst (λ (ms : List ℕ). AreSettled c.args.marks.now c.args.holders.now c.loop-module.waiting ms) (take_all c.loop-module.module-index c.args.modules.now c.loop-module-test.false) c.loop-module.invariant.settled
