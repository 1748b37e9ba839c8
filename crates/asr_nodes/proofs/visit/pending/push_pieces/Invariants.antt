use Rattle.std.proofs.Common.{◌≡◌, drop}
use Rattle.asr_nodes.specs.Visiting.{behind, keys_of}
use Rattle.asr_nodes.proofs.visit.pending.push_pieces.Given as goal

-- what is listed, with what is left behind it, is the whole
abbrev pub invariant-loop-piece : goal.invariant-loop-piece
invariant-loop-piece l = behind (keys_of l.list.items) (drop l.piece-index l.pieces) ≡ behind (keys_of l.fn.list.items) l.pieces
