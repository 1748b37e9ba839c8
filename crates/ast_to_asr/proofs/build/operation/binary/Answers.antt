use Rattle.std.proofs.Common.{rules, ap, subst, ◌∙◌}
use Rattle.ast_to_asr.specs.Building.{Joins}
use Rattle.ast_to_asr.specs.Expressions.{integer_result}
use Rattle.ast_to_asr.proofs.Operations.{binary_integers, binary_logicals}
use Rattle.ast_to_asr.proofs.build.operation.binary.Goals as goal

pub returns-in_ok-join-in-Integer-Integer : goal.returns-in_ok-join-in-Integer-Integer
returns-in_ok-join-in-Integer-Integer c =
    let j = c.in-Integer-Integer.j in
    let k = c.in-Integer-Integer.k in
    let i = c.in_ok-join-in-Integer-Integer.field-0 in
    binary_integers c.args.asr.now c.args.code c.args.left c.args.right c.in-Some.operator (search rules) c.join.new.asr j k c.integer_result.result c.in-Some-integer_result.ty i (search rules) (search rules)
    (c.integer_result.ensures.exact ∙ ap (integer_result c.in-Some.operator) c.greater-kind.ensures) (search rules)
    (subst (λ n. Joins c.args.asr.now c.join.new.asr c.args.code n j k c.in-Some-integer_result.ty c.args.left c.args.right i) c.greater-kind.ensures c.in_ok-join-in-Integer-Integer.ensures)

pub returns-in_ok-add-in-Logical-Logical : goal.returns-in_ok-add-in-Logical-Logical
returns-in_ok-add-in-Logical-Logical c =
    binary_logicals c.args.asr.now c.args.code c.args.left c.args.right c.in-Some.operator (search rules) c.add.new.asr c.logical_result.result c.in-Some-logical_result.ty c.in_ok-add-in-Logical-Logical.field-0
    (search rules) (search rules) c.logical_result.ensures.exact (search rules) c.in_ok-add-in-Logical-Logical.ensures
