use Rattle.std.proofs.Common.{arith, ◌∙◌, sym}
use Rattle.type_rules.proofs.Texts.{differs_at, same_at}
use Rattle.type_rules.proofs.character.first_difference.Goals as goal

pub returns-then-x-y : goal.returns-then-x-y
returns-then-x-y c =
    differs_at c.args.width c.args.a.now c.args.b.now c.loop-i.i _ _ c.requires.first c.requires.second (omega arith) c.byte_or_blank-x.ensures c.byte_or_blank-y.ensures c.if-x-y.true ∙ c.loop-i.invariant

pub loop-i-preserved : goal.loop-i-preserved
loop-i-preserved c =
    sym (same_at c.args.width c.args.a.now c.args.b.now c.loop-i.i _ _ c.requires.first c.requires.second (omega arith) c.byte_or_blank-x.ensures c.byte_or_blank-y.ensures c.if-x-y.false) ∙ c.loop-i.invariant
