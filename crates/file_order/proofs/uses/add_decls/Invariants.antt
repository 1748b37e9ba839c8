use Rattle.std.specs.Prelude.{◌≡◌, ◌++◌, drop}
use Rattle.file_order.specs.Modules.{names_of, used_by_decls}
use Rattle.file_order.proofs.uses.add_decls.Given as goal

abbrev pub invariant-loop-decl : goal.invariant-loop-decl
invariant-loop-decl l = names_of l.names.items ++ used_by_decls (drop l.decl-index l.decls) ≡ names_of l.fn.names.items ++ used_by_decls l.decls
