use Rattle.std.specs.Prelude.{count_by}
use Rattle.file_order.specs.Search.{IsSearchWith}
use Rattle.file_order.specs.declared.modules.Modules.{Modules}
use Rattle.file_order.proofs.search.Search.run.Given as goal

abbrev pub invariant-loop-place : goal.invariant-loop-place
invariant-loop-place l = (all : Modules) → IsSearchWith all l.fn.self l.fn.self.candidates → IsSearchWith all l.self l.self.candidates

abbrev pub decreases-loop-place : goal.decreases-loop-place
decreases-loop-place l = count_by (λ b. b) l.self.marks.items
