use Rattle.std.proofs.Common.{◌≡◌, ◌++◌, drop, false}
use Rattle.ff_expressions.specs.Signs.{text_behind}
use Rattle.ff_expressions.proofs.spelling.text_behind.Given as goal

abbrev pub invariant-loop-byte : goal.invariant-loop-byte
invariant-loop-byte l =
    l.value ++ text_behind l.delimiter l.is_passed (drop l.byte-index l.bytes) ≡ text_behind l.delimiter false l.bytes
