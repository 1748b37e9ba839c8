use Rattle.std.proofs.Common.{arith, ◌∙◌, ap, take, length-take}
use Rattle.type_rules.proofs.Texts.{trimmed_front, trimmed_short}
use Rattle.type_rules.proofs.character.trimmed.Goals as goal

pub slice_bounds-result-end : goal.slice_bounds-result-end
slice_bounds-result-end c = simp length-take (omega (arith, trimmed_short c.args.text.now, c.trimmed_length.ensures))

pub returns : goal.returns
returns c = ap (λ n. take n c.args.text.now) c.trimmed_length.ensures ∙ trimmed_front c.args.text.now
