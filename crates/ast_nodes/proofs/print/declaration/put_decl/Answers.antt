use Rattle.ast_nodes.proofs.print.declaration.put_decl.Goals as goal

pub returns-in-ImplicitNone : goal.returns-in-ImplicitNone
returns-in-ImplicitNone g c = rw c.in-ImplicitNone.is c.put_node.ensures
