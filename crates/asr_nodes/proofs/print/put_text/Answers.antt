use Rattle.ast_nodes.proofs.Chains.{gained, counted, kept}
use Rattle.asr_nodes.proofs.print.put_text.Goals as goal

pub returns-clause-text : goal.returns-clause-text
returns-clause-text g c = gained _ _ _ _ _ _ _ _ _ _ c.put_unit.ensures

pub returns-clause-cause : goal.returns-clause-cause
returns-clause-cause g c = counted _ _ _ _ _ _ _ _ _ _ c.put_unit.ensures

pub returns-clause-keeps : goal.returns-clause-keeps
returns-clause-keeps g c = kept _ _ _ _ _ _ _ _ _ _ c.put_unit.ensures _ (g.met.O.Sink.keeps_same _)
