use Rattle.std.proofs.Common.{◌+◌, ◌*◌, ◌≤◌, [], ◌∷◌, ◌++◌, codes, drop, map, length}
use Rattle.ast_nodes.specs.Node.{led, listed}
use Rattle.ast_nodes.specs.Prints.{Awaits}
use Rattle.asr_nodes.specs.Shapes.{shown, thing_text, maybe_text, group_texts, field_behind, fields_text, link_text, closers}
use Rattle.asr_nodes.proofs.print.node.+node.Given as goal

-- what is left to print
abbrev pub invariant-put_fields-loop-field : goal.invariant-put_fields-loop-field
invariant-put_fields-loop-field g l = Awaits g.O.Sink.contents g.O.Sink.faults g.O.Sink.may_fail g.O.Sink.takes_memory g.O.Sink.keeps l.fn.before l.ended l.fn.out l.out (map (field_behind (shown l.asr)) l.fields) (map (field_behind (shown l.asr)) (drop l.field-index l.fields))

abbrev pub invariant-put_group-loop-place : goal.invariant-put_group-loop-place
invariant-put_group-loop-place g l = Awaits g.O.Sink.contents g.O.Sink.faults g.O.Sink.may_fail g.O.Sink.takes_memory g.O.Sink.keeps l.fn.before l.ended l.fn.out l.out (codes " [" ∷ led [] (group_texts (shown l.asr) l.group) ++ (codes "]" ∷ [])) (led l.lead (drop l.place (group_texts (shown l.asr) l.group)) ++ (codes "]" ∷ []))

-- the text of a part is shorter
abbrev pub decreases-put_thing : goal.decreases-put_thing
decreases-put_thing g l = 4 * length (thing_text (shown l.asr.now) l.thing)

abbrev pub decreases-put_operand : goal.decreases-put_operand
decreases-put_operand g l = 4 * length (thing_text (shown l.asr.now) l.thing) + 1

abbrev pub decreases-put_listed : goal.decreases-put_listed
decreases-put_listed g l = 4 * length (thing_text (shown l.asr.now) l.thing) + 2

abbrev pub decreases-put_group : goal.decreases-put_group
decreases-put_group g l = 4 * length (listed (group_texts (shown l.asr.now) l.group)) + 1

abbrev pub decreases-put_field : goal.decreases-put_field
decreases-put_field g l = 4 * length (field_behind (shown l.asr.now) l.field) + 1

abbrev pub decreases-put_fields : goal.decreases-put_fields
decreases-put_fields g l = 4 * length (fields_text (shown l.asr.now) l.fields.now) + 2

abbrev pub decreases-put_maybe : goal.decreases-put_maybe
decreases-put_maybe g l = 4 * length (maybe_text (shown l.asr.now) l.id) + 2

abbrev pub decreases-put_chain : goal.decreases-put_chain
decreases-put_chain g l = 4 * length (thing_text (shown l.asr.now) l.thing) + 1

abbrev pub decreases-put_link : goal.decreases-put_link
decreases-put_link g l = 4 * length (link_text (shown l.asr.now) l.fields.now)

-- what is left to print: the node here, and what closes those around it
abbrev pub invariant-put_chain-loop-link : goal.invariant-put_chain-loop-link
invariant-put_chain-loop-link g l =
    Awaits g.O.Sink.contents g.O.Sink.faults g.O.Sink.may_fail g.O.Sink.takes_memory g.O.Sink.keeps l.fn.before l.ended l.fn.out l.out (thing_text (shown l.asr) l.fn.thing ∷ []) (thing_text (shown l.asr) l.here ∷ closers l.links)
    × (length (thing_text (shown l.asr) l.here) ≤ length (thing_text (shown l.asr) l.fn.thing))

abbrev pub decreases-put_chain-loop-link : goal.decreases-put_chain-loop-link
decreases-put_chain-loop-link g l = length (thing_text (shown l.asr) l.here)
