-- Steps of operations: the value with the other sign, the value with the sign of 0, and a value that becomes that of another
-- number.
use Rattle.std.specs.Prelude.{ℕ, [], ◌∷◌}
use Rattle.lf_base.specs.Outcome.{Location}
use Rattle.c_nodes.specs.declared.tree.CExpr.TheVariants.{Constant}
use Rattle.c_nodes.specs.declared.tree.CStmt.TheVariants.{Assign}
use Rattle.c_printer.specs.declared.scalar.Helper.TheVariants as helper
use Rattle.c_printer.specs.declared.scalar.Value.{Value}
use Rattle.c_printer.specs.Lowering.{Lowering, bind, line, value_of}
use Rattle.c_printer.specs.Values.{operation, typed}

abbrev pub negated_value : Location → Value → Lowering Value
negated_value here v = typed v.ty (operation here helper.Subtract v.ty (Constant 0 ∷ value_of v.number ∷ []))

abbrev pub absolute_value : Location → Value → Lowering Value
absolute_value here v = typed v.ty (operation here helper.Sign v.ty (value_of v.number ∷ Constant 0 ∷ []))

abbrev pub into : ℕ → Lowering Value → Lowering (Unit {0})
into number act = bind act (λ r. line (Assign (value_of number) (value_of r.number)))
