use Rattle.std.proofs.Common.{sym}
use Rattle.lf_driver.specs.OnePrint.Emits.{location_at}
use Rattle.lf_driver.proofs.OnePrint.Emits.{binary_emitted, emitted_at}
use Rattle.lf_driver.proofs.one_print.lower.+emit.Goals as goal

pub returns-in_ok-number-in-Binary : goal.returns-in_ok-number-in-Binary
returns-in_ok-number-in-Binary t c =
    binary_emitted (location_at c.args.at) c.args.value.now c.in-Binary.operator c.in-Binary.left c.in-Binary.right c.in-Some.operator c.args.behind c.in-Some-2.left c.in-Some-3.right c.in_ok-number-in-Binary.number c.args.body.now c.emit.new.body c.emit-in-Binary.new.body c.emit_operation.new.body c.in-Binary.is (sym c.in-Some.ensures)
    (emitted_at (location_at c.args.at) c.in_ok-left-in-Binary.field-0 c.in-Some-2.left c.get.result.now c.in-Binary.left c.args.behind c.args.body.now c.emit.new.body c.in-Some-2.is c.get.ensures c.in_ok-left-in-Binary.ensures)
    (emitted_at (location_at c.args.at) c.in_ok-right-in-Binary.field-0 c.in-Some-3.right c.get-in-Binary.result.now c.in-Binary.right c.in-Some-2.left c.emit.new.body c.emit-in-Binary.new.body c.in-Some-3.is c.get-in-Binary.ensures c.in_ok-right-in-Binary.ensures)
    c.in_ok-number-in-Binary.ensures.body c.in_ok-number-in-Binary.ensures.count
