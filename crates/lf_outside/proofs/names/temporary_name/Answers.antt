use Rattle.std.specs.Prelude.{string_bytes}
use Rattle.std.specs.Fmt.{decimal}
use Rattle.lf_outside.proofs.Folders.{temporary_is, own_is}
use Rattle.lf_outside.proofs.names.temporary_name.Goals as goal

pub returns-clause-temporary : goal.returns-clause-temporary
returns-clause-temporary c = let h = c.in_ok-format.ensures in temporary_is c.args.name.now c.parts.result.0.now c.parts.result.1.now c.front_of-front.result.now (string_bytes c.in_ok-format.field-0) c.args.number c.parts.ensures.folder c.parts.ensures.last c.front_of-front.ensures c.ranges.number.fits h.ok

pub returns-clause-own : goal.returns-clause-own
returns-clause-own c = let h = c.in_ok-format.ensures in own_is c.parts.result.0.now c.front_of-front.result.now (decimal c.args.number) (string_bytes c.in_ok-format.field-0) h.ok
