use Rattle.std.proofs.Common.{◌∙◌, sym}
use Rattle.std.proofs.lemmas.List.{append-nil}
use Rattle.file_order.specs.Search.{row_at}
use Rattle.file_order.proofs.SearchLemmas.{released_pop}
use Rattle.file_order.proofs.search.release.Goals as goal

pub loop-later-preserved : goal.loop-later-preserved
loop-later-preserved c = released_pop c.args.«module» c.args.waiting.now c.loop-later.waiting c.pop.new.self c.args.candidates.now c.loop-later.candidates c.push.new.self c.in-Some.later c.loop-later.invariant c.in-Some.ensures.row c.pop.ensures.others c.in_ok-push.ensures

pub returns-clause-none : goal.returns-clause-none
returns-clause-none c = sym (append-nil (row_at c.pop.new.self c.args.«module»)) ∙ sym c.in_default.ensures.row ∙ c.in_default.ensures.none
