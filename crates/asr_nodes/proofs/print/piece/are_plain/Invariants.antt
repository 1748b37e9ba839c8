use Rattle.std.proofs.Common.{◌≡◌, drop}
use Rattle.ast_nodes.specs.Node.{are_plain}
use Rattle.asr_nodes.proofs.print.piece.are_plain.Given as goal

-- the bytes so far are plain
abbrev pub invariant-loop-byte : goal.invariant-loop-byte
invariant-loop-byte l = are_plain (drop l.byte-index l.bytes) ≡ are_plain l.bytes
