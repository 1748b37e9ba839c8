use Rattle.std.proofs.Common.{subst}
use Rattle.ast_to_asr.specs.Building.{BuildsOfAll}
use Rattle.ast_to_asr.specs.Expressions.{int_tree}
use Rattle.ast_to_asr.proofs.Calling.{int_one, int_two, one_item, two_items}
use Rattle.ast_to_asr.proofs.build.function.int.Goals as goal

pub returns-in-len1 : goal.returns-in-len1
returns-in-len1 c =
    subst (λ bs. BuildsOfAll c.args.asr.now c.to_kind.new.asr bs int_tree c.to_kind.result) (one_item c.args.arguments.now _ c.in-len1.len_at_least c.in-len1.len_below)
    (int_one c.args.asr.now c.to_kind.new.asr _ c.to_kind.result c.to_kind.ensures)

pub returns-in-Some : goal.returns-in-Some
returns-in-Some c =
    subst (λ bs. BuildsOfAll c.args.asr.now c.to_kind-in-Some.new.asr bs int_tree c.to_kind-in-Some.result) (two_items c.args.arguments.now _ _ c.in-len2.len_at_least c.in-len2.len_below)
    (int_two c.args.asr.now c.to_kind-in-Some.new.asr c.in-Some.kind _ _ c.to_kind-in-Some.result c.in-Some.is c.to_kind-in-Some.ensures)
