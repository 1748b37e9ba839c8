use Rattle.std.proofs.Common.{◌≡◌, drop, ◌<◌, ◌^◌}
use Rattle.fortran_semantics.specs.Constants.{number_from, number_of}
use Rattle.ast_to_asr.proofs.number.number.Given as goal

abbrev pub invariant-loop-digit : goal.invariant-loop-digit
invariant-loop-digit l = record {
  whole : number_from l.number (drop l.digit-index l.digits) ≡ number_of l.digits;
  fits : l.number < 2 ^ 64;
}
