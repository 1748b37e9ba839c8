use Rattle.std.proofs.lemmas.Result.{on_ok_weaker}
use Rattle.file_order.proofs.SearchLemmas.{settled_none, settled_two}
use Rattle.file_order.proofs.search.settle.Goals as goal

pub returns-clause-settled : goal.returns-clause-settled
returns-clause-settled c = on_ok_weaker c.release.result (settled_none c.args.marks.now c.args.holders.now c.release.new.waiting c.args.«module») c.release.ensures.none

pub returns-then-branch-clause-settled : goal.returns-then-branch-clause-settled
returns-then-branch-clause-settled c = settled_two c.args.marks.now c.args.holders.now c.args.waiting.now c.args.«module» c.in_ok-has_two_open.field-0 c.if-branch.true c.in_ok-has_two_open.ensures.two
