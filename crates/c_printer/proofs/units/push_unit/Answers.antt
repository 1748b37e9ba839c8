use Rattle.std.proofs.Common.{◌≡◌, ◌++◌, map, OnOk, Some, sym, ap, subst, ◌∙◌}
use Rattle.symtab_arena.specs.Links.{Linked}
use Rattle.c_printer.specs.Files.{variable_item}
use Rattle.c_printer.specs.UnitTrees.{function_items, saved_of}
use Rattle.c_printer.proofs.FileItems.{program_items_are}
use Rattle.c_printer.proofs.units.push_unit.Goals as goal

pub returns-in-Program : goal.returns-in-Program
returns-in-Program c =
    let u = c.of-scope.result in
    let made = c.of-scope.ensures in
    let links = subst (λ s. Linked s) c.arena.ensures c.linked.ensures in
    let items =
    program_items_are c.args.asr.now u c.args.unit c.symbol.result.now c.in-Program.source c.in-Program.deps c.in-Program.table c.in-Program.body links c.sound.ensures made.asr made.id made.table made.name c.symbol.ensures.node
    c.in-Program.is
    in
    subst (λ is. OnOk c.push_program.result (c.push_program.new.items ≡ c.args.items.now ++ is))
    ((λ i. map (variable_item u.unit) (saved_of u) ++ function_items u (c.as_slice.ensures i) (c.as_slice-in-Program.ensures i)) ∙ sym items)
    c.push_program.ensures
