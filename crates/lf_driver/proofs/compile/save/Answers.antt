use Rattle.std.proofs.Common.{◌∙◌}
use Rattle.std.proofs.lemmas.Result.{on_ok_weaker}
use Rattle.lf_driver.proofs.Saving.{saved}
use Rattle.lf_driver.proofs.compile.save.Goals as goal

pub returns-clause-ok : goal.returns-clause-ok
returns-clause-ok g c =
    let kept = g.met.S.Store.keeps_files c.start.new.self c.put.new.self c.put.ensures.keeps in
    on_ok_weaker c.finish.result (saved _ _ _ _ _ _ _ _ c.in_ok-start.ensures.empty c.in_ok-put.ensures.ok (kept.0 ∙ c.start.ensures.files) (kept.1 ∙ c.in_ok-start.ensures.ok)) c.finish.ensures.ok
