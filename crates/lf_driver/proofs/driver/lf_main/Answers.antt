use Rattle.lf_driver.proofs.SourceNames.{words_bytes}
use Rattle.lf_driver.proofs.HeadlineLemmas.{promises}
use Rattle.lf_driver.proofs.driver.lf_main.Goals as goal

pub returns-clause-call : goal.returns-clause-call
returns-clause-call g c = promises c.status.result c.perform-came.result c.report-told.result _ (words_bytes c.args.words.now) c.status.ensures c.perform-came.ensures.comes c.report-told.ensures.reports
