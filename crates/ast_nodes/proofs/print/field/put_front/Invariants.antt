use Rattle.std.proofs.Common.{◌∷◌, drop}
use Rattle.ast_nodes.specs.Node.{opened, behind_blanks}
use Rattle.ast_nodes.specs.Prints.{Awaits}
use Rattle.ast_nodes.specs.Fields.{field_texts}
use Rattle.ast_nodes.proofs.print.field.put_front.Given as goal

-- what is left to print
abbrev pub invariant-loop-field : goal.invariant-loop-field
invariant-loop-field g l = Awaits g.O.Sink.contents g.O.Sink.faults g.O.Sink.may_fail g.O.Sink.takes_memory g.O.Sink.keeps l.fn.before l.ended l.fn.out l.out (opened l.tag ∷ behind_blanks (field_texts l.fields)) (behind_blanks (field_texts (drop l.field-index l.fields)))
