use Rattle.std.specs.Prelude.{◌≡◌, ◌++◌, drop}
use Rattle.file_order.specs.Modules.{names_of, used_by_procedures}
use Rattle.file_order.proofs.uses.add_procedures.Given as goal

abbrev pub invariant-loop-procedure : goal.invariant-loop-procedure
invariant-loop-procedure l = names_of l.names.items ++ used_by_procedures (drop l.procedure-index l.procedures) ≡ names_of l.fn.names.items ++ used_by_procedures l.procedures
