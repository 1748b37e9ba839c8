use Rattle.std.proofs.Common.{subst}
use Rattle.std.proofs.lemmas.Int.{to_z-of_z}
use Rattle.type_rules.specs.Folds.{Folds}
use Rattle.type_rules.specs.Operations.{relation}
use Rattle.type_rules.proofs.Tables.{no_arithmetic}
use Rattle.type_rules.proofs.scalar.on_integers.Goals as goal

pub returns-in_default : goal.returns-in_default
returns-in_default c =
    let f = c.ranges.a in
    let g = c.ranges.b in
    let order = simp to_z-of_z at c.compared.ensures in
    let e = no_arithmetic c.args.op c.args.kind c.args.a c.args.b c.in_default.not-Add c.in_default.not-Subtract c.in_default.not-Multiply c.in_default.not-Divide c.in_default.not-Power in
    rw e (subst (λ o. Folds c.relation.result (relation c.args.op o)) order c.relation.ensures)
