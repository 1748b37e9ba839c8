use Rattle.std.proofs.Common.{◌+◌, [], ◌∷◌, codes, drop, length, map, sym, ap, ◌∙◌, arith}
use Rattle.ast_nodes.specs.Node.{listed, opened}
use Rattle.ast_nodes.proofs.Chains.{prints_none, prints_more, awaits_all, awaits_next}
use Rattle.asr_nodes.specs.Shapes.{shown, thing_text, maybe_text, group_texts, field_behind, fields_text}
use Rattle.asr_nodes.proofs.Chained.{closers_more, awaits_inside, awaits_end, link_shorter}
use Rattle.asr_nodes.proofs.Lengths.{blank_longer, link_longer, part_shorter, fields_shorter, item_shorter}
use Rattle.asr_nodes.proofs.Missing.{node_pieces, drop_next}
use Rattle.asr_nodes.proofs.print.node.+node.Goals as goal

pub put_field-put_operand-requires : goal.put_field-put_operand-requires
put_field-put_operand-requires g t c κs within =
    (let e = ap (λ f. length (field_behind (shown c.args.asr.now) f)) c.in-One.is ∙ blank_longer (thing_text (shown c.args.asr.now) c.in-One.thing) in omega (arith, c.decreases), within)

pub put_field-put_maybe-requires : goal.put_field-put_maybe-requires
put_field-put_maybe-requires g t c κs within =
    (let e = ap (λ f. length (field_behind (shown c.args.asr.now) f)) c.in-Maybe.is ∙ blank_longer (maybe_text (shown c.args.asr.now) c.in-Maybe.id) in omega (arith, c.decreases), within)

pub put_maybe-put_operand-requires : goal.put_maybe-put_operand-requires
put_maybe-put_operand-requires g t c κs within =
    (let e = ap (λ o. length (maybe_text (shown c.args.asr.now) o)) c.in-Some.is in omega (arith, c.decreases), within)

pub put_field-put_group-requires : goal.put_field-put_group-requires
put_field-put_group-requires g t c κs within =
    (let e = ap (λ f. length (field_behind (shown c.args.asr.now) f)) c.in-Many.is ∙ blank_longer (listed (group_texts (shown c.args.asr.now) c.in-Many.group)) in omega (arith, c.decreases), within)

pub put_field-returns-in-End : goal.put_field-returns-in-End
put_field-returns-in-End g t c = rw c.in-End.is (prints_none _ _ _ _ _ _ _)

pub put_fields-put_field-ended-requires : goal.put_fields-put_field-ended-requires
put_fields-put_field-ended-requires g t c κs within =
    (let e = part_shorter (field_behind (shown c.args.asr.now)) c.args.fields.now c.loop-field.field-index c.field-item.result c.loop-field-test.true in let h = ap (λ f. length (field_behind (shown c.args.asr.now) f)) c.field-item.is in omega (arith, c.decreases), within)

pub put_group-put_listed-ended-requires : goal.put_group-put_listed-ended-requires
put_group-put_listed-ended-requires g t c κs within =
    (let e = item_shorter (group_texts (shown c.args.asr.now) c.args.group) _ _ (c.thing_at.ensures) in omega (arith, c.decreases), within)

pub put_group-loop-place-preserved : goal.put_group-loop-place-preserved
put_group-loop-place-preserved g t c = awaits_next _ _ _ _ _ _ _ _ _ _ _ _ _ _ (drop (c.loop-place.place + 1) (group_texts (shown c.args.asr.now) c.args.group)) (codes "]" ∷ []) (rw (drop_next _ _ _ (c.thing_at.ensures)) at c.loop-place.invariant) c.put_listed-ended.ensures

pub put_thing-put_fields-ended-requires : goal.put_thing-put_fields-ended-requires
put_thing-put_fields-ended-requires g t c κs within =
    (let e = fields_shorter c.shape_of-shape.result.tag.now (map (field_behind (shown c.args.asr.now)) c.shape_of-shape.result.fields) in let h = ap length c.shape_of-shape.ensures in omega (arith, c.decreases), within)

pub put_thing-returns : goal.put_thing-returns
put_thing-returns g t c =
    rw (sym c.shape_of-shape.ensures ∙ node_pieces (opened c.shape_of-shape.result.tag.now) (map (field_behind (shown c.args.asr.now)) c.shape_of-shape.result.fields) (codes ")" ∷ [])) (prints_more _ _ _ _ _ _ _ _ _ _ _ _ _ c.put_tag-ended.ensures (prints_more _ _ _ _ _ _ _ _ _ _ _ _ _ c.put_fields-ended.ensures (prints_more _ _ _ _ _ _ _ _ _ _ _ _ _ c.put.ensures (prints_none _ _ _ _ _ _ _))))

pub put_link-put_fields-ended-requires : goal.put_link-put_fields-ended-requires
put_link-put_fields-ended-requires g t c κs within =
    (let e = link_longer (codes "If") (fields_text (shown c.args.asr.now) c.args.fields.now) in omega (arith, c.decreases), within)

pub put_chain-loop-link-init : goal.put_chain-loop-link-init
put_chain-loop-link-init g t c = (awaits_all _ _ _ _ _ _ _ _, omega arith)

pub put_chain-put_link-ended-requires : goal.put_chain-put_link-ended-requires
put_chain-put_link-ended-requires g t c κs within =
    (let e = link_shorter _ _ _ _ c.in-Some.ensures.text in let w = c.loop-link.invariant.1 in omega (arith, c.decreases), within)

pub put_chain-loop-link-smaller : goal.put_chain-loop-link-smaller
put_chain-loop-link-smaller g t c =
    let e = link_shorter _ _ _ _ c.in-Some.ensures.text in
    let l = link_longer (codes "If") (fields_text (shown c.args.asr.now) c.in-Some.link.fields) in
    omega arith

pub put_chain-loop-link-preserved : goal.put_chain-loop-link-preserved
put_chain-loop-link-preserved g t c = (
  awaits_inside _ _ _ _ _ _ _ _ _ _ _ _ _ _ _ _ _ _ c.loop-link.invariant.0 c.in-Some.ensures.text (closers_more c.loop-link.links) c.put_link-ended.ensures,
  let e = link_shorter _ _ _ _ c.in-Some.ensures.text in let w = c.loop-link.invariant.1 in omega arith,
)

pub put_chain-returns : goal.put_chain-returns
put_chain-returns g t c = awaits_end _ _ _ _ _ _ _ _ _ _ _ _ _ _ _ _ c.loop-link.invariant.0 c.put_thing-ended.ensures c.put_closers.ensures
