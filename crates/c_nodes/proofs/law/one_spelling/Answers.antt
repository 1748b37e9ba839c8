use Rattle.std.proofs.Common.{sym, ◌∙◌}
use Rattle.c_nodes.proofs.law.one_spelling.Goals as goal

pub returns : goal.returns
returns c prelude file a b p q = p.text ∙ sym q.text
