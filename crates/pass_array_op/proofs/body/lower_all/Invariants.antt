use Rattle.std.specs.Prelude.{drop}
use Rattle.pass_array_op.specs.Bodies.{Midway}
use Rattle.pass_array_op.proofs.body.lower_all.Given as goal

abbrev pub invariant-loop-id : goal.invariant-loop-id
invariant-loop-id l = Midway l.fn.asr l.asr l.ids (drop l.id-index l.ids) l.number l.next
