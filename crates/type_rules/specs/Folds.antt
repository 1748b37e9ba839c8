-- How the folding of constants answers the table of operations.
use Rattle.std.specs.Prelude.{◌≡◌, Option, Some, None, Result, Ok, Err}
use Rattle.lf_base.specs.declared.rule.Rule.{Rule}
use Rattle.lf_base.specs.declared.rule.Rule.TheVariants.{E401, E415, E416}
use Rattle.type_rules.specs.Values.{Scalar, Integer, Logical, Characters, Evaluation, Gives, Traps, NoRule, constant_of}
use Rattle.type_rules.specs.declared.constant.Const.{Const}
use Rattle.type_rules.specs.declared.constant.TypeFault.{TypeFault}
use Rattle.type_rules.specs.declared.constant.TypeFault.TheVariants.{Rule as Broken, Memory}
use Rattle.lf_base.specs.declared.trap.Trap.{Trap}
use Rattle.lf_base.specs.declared.trap.Trap.TheVariants.{LengthLimit}

-- The rule that a constant expression breaks by this trap: a limit, or a trap of another kind.
abbrev pub rule_of : Trap → Rule
rule_of LengthLimit = E416
rule_of _ = E415

-- The constant that an operation gives.
abbrev pub constant_given : Evaluation Scalar → Option Const
constant_given (Gives value) = Some (constant_of value)
constant_given (Traps trap) = None
constant_given NoRule = None

-- The rule that is broken. Operands for which the table has no rule break that on types.
abbrev pub rule_broken : Evaluation Scalar → Option Rule
rule_broken (Gives value) = None
rule_broken (Traps trap) = Some (rule_of trap)
rule_broken NoRule = Some E401

-- The value is one of characters: no other value takes memory.
abbrev pub GivesCharacters : Evaluation Scalar → Type 0
GivesCharacters (Gives (Integer _ _)) = ⊥
GivesCharacters (Gives (Logical _)) = ⊥
GivesCharacters (Gives (Characters _)) = Unit {0}
GivesCharacters (Traps _) = ⊥
GivesCharacters NoRule = ⊥

-- The constant that the operation gives, or the rule that is broken. Want of memory comes for characters alone.
abbrev pub Folds : Result Const TypeFault → Evaluation Scalar → Type 0
Folds (Ok constant) there = constant_given there ≡ Some constant
Folds (Err (Broken rule)) there = rule_broken there ≡ Some rule
Folds (Err Memory) there = GivesCharacters there
