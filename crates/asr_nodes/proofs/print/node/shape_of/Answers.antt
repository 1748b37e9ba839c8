use Rattle.std.proofs.Common.{sym, ap, ◌∙◌}
use Rattle.asr_nodes.specs.Shapes.{shown, thing_text}
use Rattle.asr_nodes.proofs.print.node.shape_of.Goals as goal

pub returns-in-Part : goal.returns-in-Part
returns-in-Part c = c.part_shape.ensures (shown c.args.asr.now) ∙ sym (ap (thing_text (shown c.args.asr.now)) c.in-Part.is)

pub returns-in-Value : goal.returns-in-Value
returns-in-Value c = c.value_shape.ensures (shown c.args.asr.now) ∙ sym (ap (thing_text (shown c.args.asr.now)) c.in-Value.is)

pub returns-in-Output : goal.returns-in-Output
returns-in-Output c = c.item_shape.ensures (shown c.args.asr.now) ∙ sym (ap (thing_text (shown c.args.asr.now)) c.in-Output.is)

pub returns-in-Case : goal.returns-in-Case
returns-in-Case c = c.case_shape.ensures (shown c.args.asr.now) ∙ sym (ap (thing_text (shown c.args.asr.now)) c.in-Case.is)

pub returns-in-Range : goal.returns-in-Range
returns-in-Range c = c.range_shape.ensures (shown c.args.asr.now) ∙ sym (ap (thing_text (shown c.args.asr.now)) c.in-Range.is)

pub returns-in-Const : goal.returns-in-Const
returns-in-Const c = c.const_shape.ensures (shown c.args.asr.now) ∙ sym (ap (thing_text (shown c.args.asr.now)) c.in-Const.is)

pub returns-in-Elem : goal.returns-in-Elem
returns-in-Elem c = c.elem_shape.ensures (shown c.args.asr.now) ∙ sym (ap (thing_text (shown c.args.asr.now)) c.in-Elem.is)

pub returns-in-Len : goal.returns-in-Len
returns-in-Len c = c.len_shape.ensures (shown c.args.asr.now) ∙ sym (ap (thing_text (shown c.args.asr.now)) c.in-Len.is)

pub returns-in-Ty : goal.returns-in-Ty
returns-in-Ty c = c.ty_shape.ensures (shown c.args.asr.now) ∙ sym (ap (thing_text (shown c.args.asr.now)) c.in-Ty.is)

pub returns-in-Dim : goal.returns-in-Dim
returns-in-Dim c = c.dim_shape.ensures (shown c.args.asr.now) ∙ sym (ap (thing_text (shown c.args.asr.now)) c.in-Dim.is)
