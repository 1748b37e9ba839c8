use Rattle.std.proofs.Common.{◌≡◌, ◌∙◌, false, sym}
use Rattle.std.specs.List.{list_any}
use Rattle.ff_expressions.specs.Expressions.{is_at}
use Rattle.ff_expressions.proofs.Operands.{none_first, none_others}
use Rattle.ff_expressions.proofs.level.take_operand.Goals as goal

pub returns-clause-operand : goal.returns-clause-operand
returns-clause-operand c =
    let e : list_any (is_at c.args.level) c.args.items.now ≡ false = cc in
    c.replace-all.ensures.value ∙ sym (none_first c.args.level c.args.items.now e)

pub returns-clause-others : goal.returns-clause-others
returns-clause-others c =
    let e : list_any (is_at c.args.level) c.args.items.now ≡ false = cc in
    sym (none_others c.args.level c.args.items.now e)
