-- What the instructions of a table stand for: each adds to the functions that are made so far, and takes its parts from the
-- values, blocks, arguments and parameters that stand before it.
use Rattle.std.specs.Prelude.{◌≡◌, true, ℕ, List, [], ◌∷◌, ◌++◌, codes, Option, Some, None, Result, Ok, Err}
use Rattle.c_nodes.specs.declared.tree.CType.TheVariants.{Int64, Byte}
use Rattle.c_nodes.specs.declared.tree.CResult.{CResult}
use Rattle.c_nodes.specs.declared.tree.CResult.TheVariants as gives
use Rattle.c_nodes.specs.declared.tree.CParameter.{CParameter}
use Rattle.c_nodes.specs.declared.tree.CParameter.TheVariants as parameter
use Rattle.c_nodes.specs.declared.tree.CExpr.{CExpr}
use Rattle.c_nodes.specs.declared.tree.CExpr.TheVariants as expr
use Rattle.c_nodes.specs.declared.tree.CStmt.{CStmt}
use Rattle.c_nodes.specs.declared.tree.CStmt.TheVariants as stmt
use Rattle.c_nodes.specs.declared.tree.CItem.{CItem}
use Rattle.c_nodes.specs.declared.tree.CItem.TheVariants.{Function}
use Rattle.c_nodes.specs.declared.tree.CItem.TheVariants as item
use Rattle.c_prelude.specs.declared.prelude_instruction.Word.{Word}
use Rattle.c_prelude.specs.declared.prelude_instruction.Word.TheVariants as word
use Rattle.c_prelude.specs.declared.prelude_instruction.Callee.{Callee}
use Rattle.c_prelude.specs.declared.prelude_instruction.Callee.TheVariants as callee
use Rattle.c_prelude.specs.declared.prelude_instruction.Message.{Message}
use Rattle.c_prelude.specs.declared.prelude_instruction.Message.TheVariants as message
use Rattle.c_prelude.specs.declared.prelude_instruction.Instruction.{Instruction}
use Rattle.c_prelude.specs.declared.prelude_instruction.Instruction.TheVariants.{Number, Greatest, Least, Variable, Literal, Index, Paren, Negate, ToInt, Binary, Argument, Body, DeclareValue, DeclarePointer, DeclareArray, DeclareCall, Assign, AssignCall, Call, ReturnValue, ReturnCall, While, If, IfElse, Value, BytePointer, NumberPointer, StaticNumber, StaticPointer, VoidFunction, NumberFunction}
use Rattle.c_prelude.specs.declared.prelude_machine.Machine.{Machine}
use Rattle.c_prelude.specs.declared.prelude_machine.Fault.{Fault}
use Rattle.c_prelude.specs.declared.prelude_machine.Fault.TheVariants.{Memory, Broken}

abbrev pub word_text : Word → List ℕ
word_text word.A = codes "a"
word_text word.B = codes "b"
word_text word.Bad = codes "bad"
word_text word.C = codes "c"
word_text word.D = codes "d"
word_text word.I = codes "i"
word_text word.J = codes "j"
word_text word.K = codes "k"
word_text word.L = codes "l"
word_text word.Line = codes "lf_line"
word_text word.M = codes "m"
word_text word.N = codes "n"
word_text word.Name = codes "lf_name"
word_text word.P = codes "p"
word_text word.R = codes "r"
word_text word.S = codes "s"
word_text word.Stderr = codes "stderr"
word_text word.U = codes "u"
word_text word.X = codes "x"
word_text word.Y = codes "y"

abbrev pub callee_text : Callee → List ℕ
callee_text callee.Trap = codes "lf_trap"
callee_text callee.Over = codes "lf_over"
callee_text callee.Zero = codes "lf_zero"
callee_text callee.Fit = codes "lf_fit"
callee_text callee.Add = codes "lf_add"
callee_text callee.Sub = codes "lf_sub"
callee_text callee.Mul = codes "lf_mul"
callee_text callee.Div = codes "lf_div"
callee_text callee.Mod = codes "lf_mod"
callee_text callee.Modulo = codes "lf_modulo"
callee_text callee.Pow = codes "lf_pow"
callee_text callee.Sign = codes "lf_sign"
callee_text callee.Min = codes "lf_min"
callee_text callee.Max = codes "lf_max"
callee_text callee.Count = codes "lf_count"
callee_text callee.At = codes "lf_at"
callee_text callee.Sec = codes "lf_sec"
callee_text callee.Same = codes "lf_same"
callee_text callee.Need = codes "lf_need"
callee_text callee.Part = codes "lf_part"
callee_text callee.Join = codes "lf_join"
callee_text callee.Code = codes "lf_code"
callee_text callee.Copy = codes "lf_copy"
callee_text callee.Cmp = codes "lf_cmp"
callee_text callee.Trim = codes "lf_trim"
callee_text callee.Index = codes "lf_index"
callee_text callee.Gap = codes "lf_gap"
callee_text callee.Int = codes "lf_int"
callee_text callee.Chars = codes "lf_chars"
callee_text callee.Read = codes "lf_read"
callee_text callee.End = codes "lf_end"
callee_text callee.Exit = codes "exit"
callee_text callee.PutByte = codes "fputc"
callee_text callee.GetCharacter = codes "getchar"
callee_text callee.PutCharacter = codes "putchar"

abbrev pub message_text : Message → List ℕ
message_text message.TrapHead = codes "lf: trap "
message_text message.IntegerOverflow = codes "IntegerOverflow"
message_text message.DivisionByZero = codes "DivisionByZero"
message_text message.SubscriptOutOfRange = codes "SubscriptOutOfRange"
message_text message.SubstringOutOfRange = codes "SubstringOutOfRange"
message_text message.ShapeMismatch = codes "ShapeMismatch"
message_text message.ZeroStep = codes "ZeroStep"
message_text message.EndOfFile = codes "EndOfFile"
message_text message.LengthLimit = codes "LengthLimit"
message_text message.BadCharacterCode = codes "BadCharacterCode"

-- What is made so far: the innermost block and the blocks around it, the values with the newest in front, the rest in order.
pub record State : Type 0 where
  pub values : List CExpr
  pub arguments : List CExpr
  pub block : List CStmt
  pub blocks : List (List CStmt)
  pub parameters : List CParameter
  pub items : List CItem

abbrev pub start : State
start = record { values = []; arguments = []; block = []; blocks = []; parameters = []; items = [] }

abbrev pub state_of : Machine → State
state_of m = record { values = m.values.items; arguments = m.arguments; block = m.block; blocks = m.blocks.items; parameters = m.parameters; items = m.items }

-- the newest, where there is one
abbrev pub on_first : {T : Type 0} → List T → (T → List T → Option State) → Option State
on_first [] next = None
on_first (x ∷ xs) next = next x xs

abbrev pub on_value : State → (CExpr → State → Option State) → Option State
on_value s next = on_first s.values (λ value values. next value (record s { values = values }))

-- the innermost block is complete, and the one around it goes on
abbrev pub on_block : State → (List CStmt → State → Option State) → Option State
on_block s next = on_first s.blocks (λ outer blocks. next s.block (record s { block = outer; blocks = blocks }))

abbrev pub with_value : State → CExpr → Option State
with_value s value = Some (record s { values = value ∷ s.values })

-- one statement more in the innermost block
abbrev pub with_stmt : State → CStmt → Option State
with_stmt s statement = Some (record s { block = s.block ++ statement ∷ [] })

-- the arguments are those of this call, and none are left
abbrev pub without_arguments : State → State
without_arguments s = record s { arguments = [] }

abbrev pub with_parameter : State → CParameter → Option State
with_parameter s p = Some (record s { parameters = s.parameters ++ p ∷ [] })

abbrev pub with_item : State → CItem → Option State
with_item s defined = Some (record s { items = s.items ++ defined ∷ [] })

abbrev pub with_function : State → CResult → List ℕ → Option State
with_function s result name = on_block s (λ block t. with_item (record t { parameters = [] }) (Function true result name t.parameters block))

abbrev pub taken : State → Instruction → Option State
taken s (Number n) = with_value s (expr.Constant n)
taken s Greatest = with_value s expr.Greatest
taken s Least = with_value s expr.Least
taken s (Variable w) = with_value s (expr.Variable (word_text w))
taken s (Literal m) = with_value s (expr.Literal (message_text m))
taken s Index = on_value s (λ subscript t. on_value t (λ base u. with_value u (expr.Index base subscript)))
taken s Paren = on_value s (λ inner t. with_value t (expr.Paren inner))
taken s Negate = on_value s (λ operand t. with_value t (expr.Negate operand))
taken s ToInt = on_value s (λ operand t. with_value t (expr.ToInt operand))
taken s (Binary operator) = on_value s (λ right t. on_value t (λ left u. with_value u (expr.Binary operator left right)))
taken s Argument = on_value s (λ value t. Some (record t { arguments = t.arguments ++ value ∷ [] }))
taken s Body = Some (record s { block = []; blocks = s.block ∷ s.blocks })
taken s (DeclareValue w) = on_value s (λ value t. with_stmt t (stmt.DeclareValue Int64 (word_text w) value))
taken s (DeclarePointer w) = on_value s (λ value t. with_stmt t (stmt.DeclarePointer Byte (word_text w) value))
taken s (DeclareArray w) = on_value s (λ size t. with_stmt t (stmt.DeclareArray Byte (word_text w) size))
taken s (DeclareCall w c) = with_stmt (without_arguments s) (stmt.DeclareCall Int64 (word_text w) (callee_text c) s.arguments)
taken s Assign = on_value s (λ value t. on_value t (λ target u. with_stmt u (stmt.Assign target value)))
taken s (AssignCall c) = on_value s (λ target t. with_stmt (without_arguments t) (stmt.AssignCall target (callee_text c) t.arguments))
taken s (Call c) = with_stmt (without_arguments s) (stmt.Call (callee_text c) s.arguments)
taken s ReturnValue = on_value s (λ value t. with_stmt t (stmt.ReturnValue value))
taken s (ReturnCall c) = with_stmt (without_arguments s) (stmt.ReturnCall (callee_text c) s.arguments)
taken s While = on_value s (λ test t. on_block t (λ body u. with_stmt u (stmt.While test body)))
taken s If = on_value s (λ test t. on_block t (λ body u. with_stmt u (stmt.If test body)))
taken s IfElse = on_value s (λ test t. on_block t (λ other u. on_block u (λ body v. with_stmt v (stmt.IfElse test body other))))
taken s (Value w) = with_parameter s (parameter.Value Int64 (word_text w))
taken s (BytePointer w) = with_parameter s (parameter.Pointer Byte (word_text w))
taken s (NumberPointer w) = with_parameter s (parameter.Pointer Int64 (word_text w))
taken s (StaticNumber w) = with_item s (item.StaticObject Int64 (word_text w))
taken s (StaticPointer w) = with_item s (item.StaticPointer Byte (word_text w))
taken s (VoidFunction c) = with_function s gives.Void (callee_text c)
taken s (NumberFunction c) = with_function s gives.Int64 (callee_text c)

-- the state after all instructions, if each finds its parts
abbrev pub go_on : Option State → (State → Option State) → Option State
go_on None next = None
go_on (Some s) next = next s

abbrev pub run : List Instruction → State → Option State
run [] s = Some s
run (instruction ∷ instructions) s = go_on (taken s instruction) (run instructions)

-- What a step gave is what there is, unless memory ran out.
abbrev pub Took : State → Result (Unit {0}) Fault → Option State → Type 0
Took new (Ok _) there = there ≡ Some new
Took new (Err Memory) there = Unit {0}
Took new (Err Broken) there = there ≡ None

abbrev pub Made : Result Machine Fault → Option State → Type 0
Made (Ok m) there = there ≡ Some (state_of m)
Made (Err Memory) there = Unit {0}
Made (Err Broken) there = there ≡ None

-- what is taken from a list whose newest is in front
abbrev pub Popped : {T : Type 0} → Result T Fault → List T → List T → Type 0
Popped (Ok x) old new = old ≡ x ∷ new
Popped (Err Memory) old new = Unit {0}
Popped (Err Broken) old new = old ≡ []

-- the block that was innermost, and what goes on around it
abbrev pub Closed : State → Result (List CStmt) Fault → State → Type 0
Closed old (Ok block) new = old ≡ record new { block = block; blocks = new.block ∷ new.blocks }
Closed old (Err Memory) new = Unit {0}
Closed old (Err Broken) new = old.blocks ≡ []
