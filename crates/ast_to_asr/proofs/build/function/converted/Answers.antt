use Rattle.std.proofs.Common.{rules, sym, subst, drop, ◌+◌}
use Rattle.std.proofs.lemmas.List.{drop_more}
use Rattle.ast_to_asr.specs.Building.{Converted}
use Rattle.ast_to_asr.proofs.Converting.{conv_next}
use Rattle.ast_to_asr.proofs.build.function.converted.Goals as goal

pub loop-argument-preserved : goal.loop-argument-preserved
loop-argument-preserved c =
    let all = c.args.arguments.now in
    let place = c.loop-argument.argument-index in
    let left = drop (place + 1) all in
    let now = c.loop-argument.asr in
    let ids = c.loop-argument.ids in
    let before = subst (λ bs. Converted c.args.asr.now now c.args.kind all ids bs) (drop_more all place _ (search rules)) c.loop-argument.invariant in
    subst (λ is. Converted c.args.asr.now c.in_kind.new.asr c.args.kind all is left) (sym c.in_ok-push-in-Integer.ensures.ok)
    (conv_next c.args.asr.now now c.args.kind all ids _ left before c.requires c.in_kind.new.asr c.in-Integer.from c.in_ok-in_kind-in-Integer.field-0 (search rules) c.in_ok-in_kind-in-Integer.ensures)
