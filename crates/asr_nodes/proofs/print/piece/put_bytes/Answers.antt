use Rattle.std.proofs.Common.{sym, ◌∙◌}
use Rattle.ast_nodes.proofs.Pieces.{plain_text}
use Rattle.asr_nodes.proofs.print.piece.put_bytes.Goals as goal

pub returns-then-are_plain : goal.returns-then-are_plain
returns-then-are_plain g c = rw (plain_text _ (sym c.are_plain.ensures ∙ c.if-are_plain.true)) c.put.ensures
