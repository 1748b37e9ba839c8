use Rattle.std.proofs.Common.{refl}
use Rattle.link_toy.proofs.Instance.{descends_fine, overflows_fine}
use Rattle.link_toy.proofs.Layouts.{has_layout}
use Rattle.link_toy.proofs.law.premises_hold.Goals as goal

pub returns-clause-layout : goal.returns-clause-layout
returns-clause-layout c = has_layout

pub returns-clause-descends : goal.returns-clause-descends
returns-clause-descends c = descends_fine

pub returns-clause-overflows : goal.returns-clause-overflows
returns-clause-overflows c = overflows_fine

pub returns-clause-new : goal.returns-clause-new
returns-clause-new c = refl
