use Rattle.std.proofs.Common.{ap, sym, subst, ◌∙◌}
use Rattle.pass_array_op.specs.Bodies.{HasNoneTwice}
use Rattle.pass_array_op.specs.Greatest.{first_free}
use Rattle.symtab_arena.specs.Links.{Linked}
use Rattle.pass_array_op.proofs.OtherUnits.{others_stay_or}
use Rattle.pass_array_op.proofs.UnitBodies.{own_once, unit_alone_or}
use Rattle.pass_array_op.proofs.UnitTrees.{unit_becomes_or}
use Rattle.pass_array_op.proofs.unit.lower_implied_do.Goals as goal

pub lower_statements-requires-clause-once : goal.lower_statements-requires-clause-once
lower_statements-requires-clause-once c =
    subst (HasNoneTwice c.args.asr.now) (sym (c.deref-2.ensures.value ∙ c.in_ok-body.ensures)) (own_once c.args.asr.now c.args.unit c.requires.alone)

pub returns-clause-alone : goal.returns-clause-alone
returns-clause-alone c =
    unit_alone_or c.args.asr.now c.lower_statements.new.asr c.sound.ensures c.args.unit _ _ c.lower_statements.result (c.deref-2.ensures.value ∙ c.in_ok-body.ensures) c.lower_statements.ensures c.requires.alone

pub returns-clause-tree : goal.returns-clause-tree
returns-clause-tree c =
    let body = c.deref-2.ensures.value ∙ c.in_ok-body.ensures in
    unit_becomes_or c.args.asr.now c.lower_statements.new.asr c.sound.ensures c.args.unit _ _ _ c.lower_statements.result body (c.in_ok-number.ensures ∙ ap (first_free c.args.asr.now) (c.deref.ensures.value ∙ c.in_ok-body.ensures)) c.lower_statements.ensures c.requires.alone

pub returns-clause-others : goal.returns-clause-others
returns-clause-others c =
    others_stay_or c.args.asr.now c.lower_statements.new.asr c.sound.ensures (subst (λ s. Linked s) c.arena.ensures c.linked.ensures) c.args.unit _ _ c.lower_statements.result (c.deref-2.ensures.value ∙ c.in_ok-body.ensures)
    c.lower_statements.ensures c.requires.alone
