use Rattle.std.specs.Prelude.{length}
use Rattle.file_order.specs.Modules.{MustPrecede}
use Rattle.file_order.proofs.Exists.{files_order_or_stuck}
use Rattle.file_order.proofs.Greedy.{no_order}
use Rattle.file_order.proofs.law.order_or_stuck.Goals as goal

pub returns-clause-one : goal.returns-clause-one
returns-clause-one c = files_order_or_stuck

pub returns-clause-not_both : goal.returns-clause-not_both
returns-clause-not_both c = λ files order p valid stuck. no_order (length files) (MustPrecede files) order valid p stuck
