use Rattle.std.proofs.Common.{heap_items}
use Rattle.file_order.proofs.Heaps.{popped, least}
use Rattle.file_order.proofs.candidates.Candidates.pop.Goals as goal

pub returns-clause-taken : goal.returns-clause-taken
returns-clause-taken c = popped c.args.self.now (heap_items c.self.inside.heap) (heap_items c.pop.new.self) c.in_ok-place.field-0 c.self.view_is c.in_ok-place.ensures.permutation

pub returns-clause-least : goal.returns-clause-least
returns-clause-least c = least c.in_ok-place.field-0 (heap_items c.pop.new.self) (c.in_ok-place.ensures.below_top c.self.invariant)
