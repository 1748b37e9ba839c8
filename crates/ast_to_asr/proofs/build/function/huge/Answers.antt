use Rattle.std.proofs.Common.{rules, subst, None, Ok, w64, ◌∙◌}
use Rattle.std.proofs.lemmas.Int.{to_z-of_z}
use Rattle.ast_to_asr.specs.Building.{BuildsOfAll, IsBuilt}
use Rattle.ast_to_asr.specs.Expressions.{huge_tree}
use Rattle.ast_to_asr.specs.Leaves.{integer_literal}
use Rattle.ast_to_asr.proofs.Calling.{huge_one, one_item}
use Rattle.ast_to_asr.proofs.build.function.huge.Goals as goal

pub returns-in-Integer : goal.returns-in-Integer
returns-in-Integer c =
    let a = c.args.asr.now in
    let b = c.integer.new.asr in
    let kind = c.in-Integer.kind in
    subst (λ bs. BuildsOfAll a b bs huge_tree c.integer.result) (one_item c.args.arguments.now _ c.in-len1.len_at_least c.in-len1.len_below)
    (huge_one a b _ kind c.integer.result c.in-Integer.is
    (subst (λ z. IsBuilt a b (Ok (integer_literal kind z None)) c.integer.result) (to_z-of_z w64 c.greatest.result (search rules) ∙ c.greatest.ensures) c.integer.ensures))
