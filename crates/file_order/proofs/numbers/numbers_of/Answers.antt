use Rattle.std.proofs.Common.{arith}
use Rattle.file_order.specs.Modules.{held_by}
use Rattle.file_order.proofs.NumberLemmas.{below_next, below_all}
use Rattle.file_order.proofs.numbers.numbers_of.Goals as goal

pub loop-place-preserved : goal.loop-place-preserved
loop-place-preserved c =
    let l = c.loop-place in
    let e = c.in_ok-add_file.ensures in
    record {
      numbering = e.grown.numbering l.invariant.numbering;
      below = below_next held_by c.args.files.now l.place c.index-files-place.result l.numbers c.add_file.new.numbers l.invariant.below (omega arith) c.index-files-place.is e.grown e.named;
    }

pub returns-clause-named : goal.returns-clause-named
returns-clause-named c = below_all held_by c.args.files.now c.loop-place.place c.loop-place.numbers c.loop-place.invariant.below (omega arith)
