use Rattle.std.proofs.Common.{◌≡◌, ◌∷◌, [], Some, subst}
use Rattle.asr_nodes.specs.Nodes.{Nodes}
use Rattle.c_printer.specs.Files.{saved}
use Rattle.c_printer.specs.UnitTrees.{found}
use Rattle.c_printer.specs.Units.{types_of, variable_at}
use Rattle.c_printer.proofs.FirstValues.{firsts_found}
use Rattle.c_printer.proofs.first.write_first_of.Goals as goal

pub returns-in-Some : goal.returns-in-Some
returns-in-Some c =
    let u = c.args.scope.now in
    firsts_found u.unit c.args.source.now (types_of u) u.asr c.args.writer.now c.write_first.new.writer c.write_first.result c.in-Some.variable (saved (variable_at u.asr c.args.symbol ∷ []))
    (subst (λ (a : Nodes). found a (Some c.in-Some.variable) ≡ saved (variable_at a c.args.symbol ∷ [])) c.asr.ensures c.in-Some.ensures)
    c.write_first.ensures
