use Rattle.std.proofs.Common.{[], ◌∷◌, ap, sym, ◌∙◌}
use Rattle.asr_nodes.specs.Nodes.{there}
use Rattle.asr_nodes.specs.Visits.{key_of}
use Rattle.pass_array_op.proofs.Loops.{stmt_there}
use Rattle.pass_array_op.proofs.body.note.Goals as goal

pub note_stmt-requires : goal.note_stmt-requires
note_stmt-requires c = stmt_there c.args.asr.now c.in-Stmt.id (ap (λ node. there c.args.asr.now (key_of node ∷ [])) (sym c.in-Stmt.is) ∙ c.requires)
