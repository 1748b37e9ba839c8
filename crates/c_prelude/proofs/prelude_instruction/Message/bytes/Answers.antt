use Rattle.std.proofs.Common.{ap, sym}
use Rattle.c_prelude.specs.PreludeMachine.{message_text}
use Rattle.c_prelude.proofs.prelude_instruction.Message.bytes.Goals as goal

pub returns-in-TrapHead : goal.returns-in-TrapHead
returns-in-TrapHead c = sym (ap message_text c.in-TrapHead.is)

pub returns-in-IntegerOverflow : goal.returns-in-IntegerOverflow
returns-in-IntegerOverflow c = sym (ap message_text c.in-IntegerOverflow.is)

pub returns-in-DivisionByZero : goal.returns-in-DivisionByZero
returns-in-DivisionByZero c = sym (ap message_text c.in-DivisionByZero.is)

pub returns-in-SubscriptOutOfRange : goal.returns-in-SubscriptOutOfRange
returns-in-SubscriptOutOfRange c = sym (ap message_text c.in-SubscriptOutOfRange.is)

pub returns-in-SubstringOutOfRange : goal.returns-in-SubstringOutOfRange
returns-in-SubstringOutOfRange c = sym (ap message_text c.in-SubstringOutOfRange.is)

pub returns-in-ShapeMismatch : goal.returns-in-ShapeMismatch
returns-in-ShapeMismatch c = sym (ap message_text c.in-ShapeMismatch.is)

pub returns-in-ZeroStep : goal.returns-in-ZeroStep
returns-in-ZeroStep c = sym (ap message_text c.in-ZeroStep.is)

pub returns-in-EndOfFile : goal.returns-in-EndOfFile
returns-in-EndOfFile c = sym (ap message_text c.in-EndOfFile.is)

pub returns-in-LengthLimit : goal.returns-in-LengthLimit
returns-in-LengthLimit c = sym (ap message_text c.in-LengthLimit.is)

pub returns-in-BadCharacterCode : goal.returns-in-BadCharacterCode
returns-in-BadCharacterCode c = sym (ap message_text c.in-BadCharacterCode.is)
