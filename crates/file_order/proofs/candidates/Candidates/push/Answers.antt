use Rattle.std.proofs.Common.{heap_items}
use Rattle.file_order.proofs.Heaps.{pushed}
use Rattle.file_order.proofs.candidates.Candidates.push.Goals as goal

pub returns : goal.returns
returns c = pushed c.args.self.now (heap_items c.self.inside.heap) (heap_items c.push.new.self) _ c.self.view_is c.in_ok-push.ensures.permutation
