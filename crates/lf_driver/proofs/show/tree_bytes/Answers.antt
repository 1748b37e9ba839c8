use Rattle.lf_driver.proofs.Saving.{filled}
use Rattle.lf_driver.proofs.show.tree_bytes.Goals as goal

pub returns-in-Ok : goal.returns-in-Ok
returns-in-Ok c = filled _ _ _ c.in-Ok.ensures.ok c.in_ok-sink.ensures
