use Rattle.std.proofs.Common.{◌∙◌, sym}
use Rattle.type_rules.proofs.Texts.{blank_more, byte_more}
use Rattle.type_rules.proofs.character.trimmed_length.Goals as goal
use Rattle.type_rules.proofs.character.trimmed_length.Goals.{then-text-i-ne-BLANK, else-text-i-ne-BLANK}

pub loop-i-preserved : goal.loop-i-preserved
loop-i-preserved c =
    elim c.if-text-i-ne-BLANK.branch [
      | then-text-i-ne-BLANK w ↦ w.kept-is ∙ sym (byte_more c.args.text.now c.loop-i.i c.loop-i-test.true w.if-text-i-ne-BLANK.true)
      | else-text-i-ne-BLANK w ↦ w.kept-is ∙ c.loop-i.invariant ∙ sym (blank_more c.args.text.now c.loop-i.i c.loop-i-test.true w.if-text-i-ne-BLANK.false)
    ]
