use Rattle.file_order.proofs.Samples.{user_first_order, circle_cycle}
use Rattle.file_order.proofs.law.small_projects.Goals as goal

pub returns-clause-order : goal.returns-clause-order
returns-clause-order c = user_first_order

pub returns-clause-cycle : goal.returns-clause-cycle
returns-clause-cycle c = circle_cycle
