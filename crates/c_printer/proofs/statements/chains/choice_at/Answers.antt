use Rattle.c_printer.proofs.Branches.{tree_found}
use Rattle.c_printer.proofs.statements.chains.choice_at.Goals as goal

pub returns-then-has_stmt : goal.returns-then-has_stmt
returns-then-has_stmt c = tree_found c.args.scope.now c.asr-asr.result.now c.args.id c.stmt.result.now c.choice_of.result c.asr-asr.ensures c.stmt.ensures.tree (c.choice_of.ensures c.args.scope.now)
