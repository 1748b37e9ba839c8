use Rattle.std.proofs.Common.{rules}
use Rattle.lf_base.proofs.Chains.{chains}
use Rattle.lf_driver.proofs.outcome.put_absent.Goals as goal

pub returns-clause-text : goal.returns-clause-text
returns-clause-text g c = search (rules, chains)
