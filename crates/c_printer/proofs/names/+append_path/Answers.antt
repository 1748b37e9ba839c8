use Rattle.std.proofs.Common.{sym, ◌∙◌}
use Rattle.c_printer.proofs.Naming.{alone_appended, inside_appended}
use Rattle.c_printer.proofs.names.+append_path.Goals as goal

pub returns-in-None : goal.returns-in-None
returns-in-None t c =
    rw (← alone_appended c.args.arena.now c.linked.ensures c.args.text.now.items c.args.symbol _ c.name_of.result.now c.table_of.ensures (sym c.owner.ensures ∙ c.in-None.is) c.name_of.ensures) c.append_part.ensures

pub returns-in_ok-append_path-in-Some : goal.returns-in_ok-append_path-in-Some
returns-in_ok-append_path-in-Some t c =
    rw (← inside_appended c.args.arena.now c.linked.ensures c.args.text.now.items c.args.symbol c.in-Some.owner _ c.name_of-in-Some.result.now c.table_of.ensures (sym c.owner.ensures ∙ c.in-Some.is) c.name_of-in-Some.ensures)
    (rw c.in_ok-append_path-in-Some.ensures at c.append_part-in-Some.ensures)
