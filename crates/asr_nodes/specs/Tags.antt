-- The tags of nodes.
use Rattle.std.specs.Prelude.{ℕ}
use Rattle.asr_nodes.specs.declared.code.TheConstants.{EXPR_INT_CONST, EXPR_LOG_CONST, EXPR_CHAR_CONST, EXPR_VAR, EXPR_ITEM, EXPR_SECTION, EXPR_FIELD, EXPR_SUBSTRING, EXPR_UNARY, EXPR_BINARY, EXPR_CONVERT, EXPR_PAREN, EXPR_INVOKE, EXPR_INTRINSIC, EXPR_CONSTRUCT, EXPR_ARRAY, EXPR_TEMP, EXPR_SEQ, EXPR_TEMP_AT, EXPR_EXTENT, EXPR_SEC_LEN, EXPR_ARR, EXPR_AT, STMT_ASSIGN, STMT_IF, STMT_DO, STMT_WHILE, STMT_EXIT, STMT_CYCLE, STMT_SELECT, STMT_CALL, STMT_PRINT, STMT_READ, STMT_STOP, STMT_RETURN, STMT_BLOCK, STMT_LET, STMT_ROOM, STMT_COUNT, STMT_SAME, STMT_PROBE, STMT_BEGIN, STMT_PUT, STMT_END}
use Rattle.asr_nodes.specs.declared.node.Expr.{Expr}
use Rattle.asr_nodes.specs.declared.node.Expr.TheVariants as e
use Rattle.asr_nodes.specs.declared.node.Stmt.{Stmt}
use Rattle.asr_nodes.specs.declared.node.Stmt.TheVariants as s

abbrev pub expr_tag : Expr → ℕ
expr_tag (e.IntConst kind value) = EXPR_INT_CONST
expr_tag (e.LogConst value) = EXPR_LOG_CONST
expr_tag (e.CharConst bytes) = EXPR_CHAR_CONST
expr_tag (e.Var symbol) = EXPR_VAR
expr_tag (e.Item base subscripts) = EXPR_ITEM
expr_tag (e.Section base parts) = EXPR_SECTION
expr_tag (e.Field base component) = EXPR_FIELD
expr_tag (e.Substring base lower upper) = EXPR_SUBSTRING
expr_tag (e.Unary operator operand) = EXPR_UNARY
expr_tag (e.Binary operator left right) = EXPR_BINARY
expr_tag (e.Convert kind operand) = EXPR_CONVERT
expr_tag (e.Paren inner) = EXPR_PAREN
expr_tag (e.Invoke callee arguments) = EXPR_INVOKE
expr_tag (e.Intrinsic code arguments) = EXPR_INTRINSIC
expr_tag (e.Construct definition arguments) = EXPR_CONSTRUCT
expr_tag (e.Array items) = EXPR_ARRAY
expr_tag (e.Temp number) = EXPR_TEMP
expr_tag (e.Extent symbol dimension) = EXPR_EXTENT
expr_tag (e.Seq body value) = EXPR_SEQ
expr_tag (e.TempAt number place) = EXPR_TEMP_AT
expr_tag (e.SecLen lower upper step low high) = EXPR_SEC_LEN
expr_tag (e.Arr number element extents) = EXPR_ARR
expr_tag (e.At source line value) = EXPR_AT

abbrev pub stmt_tag : Stmt → ℕ
stmt_tag (s.Assign line target value) = STMT_ASSIGN
stmt_tag (s.If line condition then_block else_block) = STMT_IF
stmt_tag (s.Do line id variable lower upper step body) = STMT_DO
stmt_tag (s.While line id condition body) = STMT_WHILE
stmt_tag (s.Exit line id) = STMT_EXIT
stmt_tag (s.Cycle line id) = STMT_CYCLE
stmt_tag (s.Select line value cases default) = STMT_SELECT
stmt_tag (s.Call line callee arguments) = STMT_CALL
stmt_tag (s.Print line form advance items) = STMT_PRINT
stmt_tag (s.Read line target iostat) = STMT_READ
stmt_tag (s.Stop line error code) = STMT_STOP
stmt_tag (s.Return line) = STMT_RETURN
stmt_tag (s.Block line body) = STMT_BLOCK
stmt_tag (s.Let line number value) = STMT_LET
stmt_tag (s.Room line number element len extents) = STMT_ROOM
stmt_tag (s.Count line number bound body) = STMT_COUNT
stmt_tag (s.Same line left right) = STMT_SAME
stmt_tag (s.Probe line designator) = STMT_PROBE
stmt_tag (s.Begin line number) = STMT_BEGIN
stmt_tag (s.Put line number value) = STMT_PUT
stmt_tag (s.End line) = STMT_END
