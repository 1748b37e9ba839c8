use Rattle.file_order.proofs.TableLemmas.{IsInverseFrom}
use Rattle.file_order.proofs.modules.holders_of.Given as goal

abbrev pub invariant-loop-place : goal.invariant-loop-place
invariant-loop-place l = IsInverseFrom l.held l.count l.place l.holders
