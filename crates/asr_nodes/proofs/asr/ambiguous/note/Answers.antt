use Rattle.std.proofs.Common.{rules, ap, ◌∙◌}
use Rattle.asr_nodes.specs.Noted.{names_noted}
use Rattle.asr_nodes.proofs.NotedNames.{noted_none, some_notes, same_entries}
use Rattle.asr_nodes.proofs.asr.ambiguous.note.Goals as goal

pub returns-in-Some-clause-ok : goal.returns-in-Some-clause-ok
returns-in-Some-clause-ok c =
    some_notes c.add.result c.args.table c.args.name.items _ _ c.in-Some.names.now c.add.new.self (search rules) c.add.ensures.ok ((c.get_mut.follows.holds c.add.new.self).3 (search rules)).0

pub returns-in-Some-clause-err : goal.returns-in-Some-clause-err
returns-in-Some-clause-err c =
    same_entries c.add.result c.args.table.0 _ _ c.in-Some.names.now c.add.new.self (search rules) c.add.ensures.err (c.get_mut.follows.holds c.add.new.self).0

pub note_first-requires : goal.note_first-requires
note_first-requires c = ap (λ m. names_noted c.args.table.0 m.entries) c.get_mut.follows.holds-at-none ∙ noted_none c.args.table.0 _ (search rules)
