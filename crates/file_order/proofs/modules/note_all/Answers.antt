use Rattle.std.proofs.Common.{sym, subst, List, ℕ, take, get_or, refl, arith}
use Rattle.std.specs.List.{Contains}
use Rattle.std.proofs.lemmas.List.{take_more, take_all}
use Rattle.file_order.specs.Tables.{IsNoted}
use Rattle.file_order.proofs.Lists.{contains_at}
use Rattle.file_order.proofs.TableLemmas.{noted_more}
use Rattle.file_order.proofs.modules.note_all.Goals as goal

pub note-requires : goal.note-requires
note-requires c =
    let x = get_or c.args.modules.now c.loop-module.module-index 0 in
    let less = c.requires x (contains_at c.args.modules.now c.loop-module.module-index x (c.loop-module-test.true, refl)) in
    omega (arith, less, c.loop-module.invariant.count)

pub loop-module-preserved : goal.loop-module-preserved
loop-module-preserved c =
    let xs = c.args.modules.now in
    let i = c.loop-module.module-index in
    subst (λ (ms : List ℕ). IsNoted c.args.place (Contains ms) c.args.holders.now c.note.new.holders) (sym (take_more xs i 0 c.loop-module-test.true))
    (noted_more c.args.place (get_or xs i 0) (take i xs) c.args.holders.now c.loop-module.holders c.note.new.holders c.loop-module.invariant c.in_ok-note.ensures)

pub returns : goal.returns
returns c = subst (λ (ms : List ℕ). IsNoted c.args.place (Contains ms) c.args.holders.now c.loop-module.holders) (take_all c.loop-module.module-index c.args.modules.now c.loop-module-test.false) c.loop-module.invariant
