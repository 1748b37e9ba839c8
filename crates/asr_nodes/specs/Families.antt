-- The families of expressions and statements, as the printer takes them.
use Rattle.asr_nodes.specs.declared.node.Expr.{Expr}
use Rattle.asr_nodes.specs.declared.node.Expr.TheVariants as e
use Rattle.asr_nodes.specs.declared.node.Stmt.{Stmt}
use Rattle.asr_nodes.specs.declared.node.Stmt.TheVariants as s

pub data ExprFamily : Type 0 where
  Leaf : ExprFamily
  Designator : ExprFamily
  Operation : ExprFamily
  Reference : ExprFamily
  Temporary : ExprFamily
  Wrapper : ExprFamily

pub data StmtFamily : Type 0 where
  Action : StmtFamily
  Branch : StmtFamily
  Repetition : StmtFamily
  Transfer : StmtFamily
  Output : StmtFamily
  Room : StmtFamily
  Check : StmtFamily

abbrev pub expr_family : Expr → ExprFamily
expr_family (e.IntConst kind value) = Leaf
expr_family (e.LogConst value) = Leaf
expr_family (e.CharConst bytes) = Leaf
expr_family (e.Var symbol) = Leaf
expr_family (e.Item base subscripts) = Designator
expr_family (e.Section base parts) = Designator
expr_family (e.Field base component) = Designator
expr_family (e.Substring base lower upper) = Designator
expr_family (e.Unary operator operand) = Operation
expr_family (e.Binary operator left right) = Operation
expr_family (e.Convert kind operand) = Operation
expr_family (e.Paren inner) = Operation
expr_family (e.Invoke callee arguments) = Reference
expr_family (e.Intrinsic code arguments) = Reference
expr_family (e.Construct definition arguments) = Reference
expr_family (e.Array items) = Reference
expr_family (e.Temp number) = Temporary
expr_family (e.Extent symbol dimension) = Leaf
expr_family (e.Seq body value) = Wrapper
expr_family (e.TempAt number place) = Temporary
expr_family (e.SecLen lower upper step low high) = Wrapper
expr_family (e.Arr number element extents) = Temporary
expr_family (e.At source line value) = Wrapper

abbrev pub stmt_family : Stmt → StmtFamily
stmt_family (s.Assign line target value) = Action
stmt_family (s.If line condition then_block else_block) = Branch
stmt_family (s.Do line id variable lower upper step body) = Repetition
stmt_family (s.While line id condition body) = Repetition
stmt_family (s.Exit line id) = Action
stmt_family (s.Cycle line id) = Action
stmt_family (s.Select line value cases default) = Branch
stmt_family (s.Call line callee arguments) = Action
stmt_family (s.Print line form advance items) = Transfer
stmt_family (s.Read line target iostat) = Transfer
stmt_family (s.Stop line error code) = Action
stmt_family (s.Return line) = Action
stmt_family (s.Block line body) = Branch
stmt_family (s.Let line number value) = Room
stmt_family (s.Room line number element len extents) = Room
stmt_family (s.Count line number bound body) = Check
stmt_family (s.Same line left right) = Check
stmt_family (s.Probe line designator) = Check
stmt_family (s.Begin line number) = Output
stmt_family (s.Put line number value) = Output
stmt_family (s.End line) = Output
