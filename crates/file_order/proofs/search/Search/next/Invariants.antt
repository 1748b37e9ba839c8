use Rattle.std.specs.Prelude.{◌≡◌, length}
use Rattle.file_order.specs.Search.{IsSearchWith}
use Rattle.file_order.specs.declared.modules.Modules.{Modules}
use Rattle.file_order.proofs.search.Search.next.Given as goal

abbrev pub invariant-loop-place : goal.invariant-loop-place
invariant-loop-place l = record {
  search : (all : Modules) → IsSearchWith all l.fn.self l.fn.self.candidates → IsSearchWith all l.self l.self.candidates;
  marks : l.self.marks.items ≡ l.fn.self.marks.items;
  order : l.self.order.items ≡ l.fn.self.order.items;
}

abbrev pub decreases-loop-place : goal.decreases-loop-place
decreases-loop-place l = length l.self.candidates
