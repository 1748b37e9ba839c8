use Rattle.std.proofs.Common.{Some, rules, sym, ap, ◌∙◌}
use Rattle.asr_nodes.specs.Noted.{is_among, is_noted}
use Rattle.asr_nodes.proofs.NotedNames.{noted_at, noted_none}
use Rattle.asr_nodes.proofs.asr.Asr.is_ambiguous.Goals as goal

pub returns-in-Some : goal.returns-in-Some
returns-in-Some c =
    c.has.ensures
    ∙ (λ i. is_among (c.bytes.ensures i) c.in-Some.names.now)
    ∙ ap (is_among c.args.name.now) (sym (noted_at c.args.table.0 c.self.inside.noted.entries (Some c.in-Some.names.now) (search rules)))
    ∙ ap (λ a. is_noted c.args.table c.args.name.now a.noted) c.self.view_is

pub returns-in-None : goal.returns-in-None
returns-in-None c = ap (is_among c.args.name.now) (sym (noted_none c.args.table.0 c.self.inside.noted.entries (search rules))) ∙ ap (λ a. is_noted c.args.table c.args.name.now a.noted) c.self.view_is
