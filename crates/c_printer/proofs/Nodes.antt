-- The C of each node of a tree, by its parts.
use Rattle.std.proofs.Common.{◌≡◌, ℕ, ℤ, Bool, List, map, Option, sym, ap, ◌∙◌}
use Rattle.lf_base.specs.Outcome.{Location}
use Rattle.asr_nodes.specs.Reading.{Path}
use Rattle.asr_nodes.specs.declared.tree.ExprTree.{ExprTree, ExprTree-F}
use Rattle.asr_nodes.specs.declared.tree.ExprTree.TheVariants as expr_shape
use Rattle.asr_nodes.specs.declared.tree.PrintItemTree.{PrintItemTree, PrintItemTree-F, fold-PrintItemTree}
use Rattle.asr_nodes.specs.declared.tree.PrintItemTree.TheVariants as print_item_shape
use Rattle.asr_nodes.specs.declared.tree.StmtTree.{StmtTree, StmtTree-F}
use Rattle.asr_nodes.specs.declared.tree.StmtTree.TheVariants as stmt_shape
use Rattle.asr_nodes.specs.declared.tree.SymbolTree.{SymbolTree-F, fold-roll-SymbolTree}
use Rattle.asr_nodes.specs.declared.tree.SymbolTree.TheVariants as symbol_shape
use Rattle.asr_nodes.specs.declared.tree.TypeTree.{TypeTree}
use Rattle.asr_nodes.proofs.TreeFolds as trees
use Rattle.c_printer.specs.declared.scalar.ScalarType.{ScalarType}
use Rattle.c_printer.specs.Lowering.{Drawn}
use Rattle.c_printer.specs.Values.{Expression, Doing, Item, expr_layer}
use Rattle.c_printer.specs.Files.{Variable, variable_of, variable_layer}
use Rattle.c_printer.specs.Scalar as scalar
use Rattle.c_printer.specs.Scalar.{Built}
use Rattle.c_printer.specs.Statements.{nothing, item_layer, stmt_layer, expression, statement}

module _ (types : Path → ScalarType) where
  abbrev pub item_of : PrintItemTree → Item
  item_of = fold-PrintItemTree (Unit {0}) Expression Item (Unit {0}) Doing (Unit {0}) nothing (expr_layer types) item_layer nothing stmt_layer nothing

  pub expr-IntConst : (kind : ℕ) (value : ℤ) → expression types (expr_shape.IntConst kind value) ≡ expr_layer types (ExprTree-F.IntConst kind value)
  expr-IntConst kind value = trees.fold_expr-IntConst (Unit {0}) Expression Item (Unit {0}) Doing (Unit {0}) nothing (expr_layer types) item_layer nothing stmt_layer nothing kind value

  pub expr-LogConst : (value : ℕ) → expression types (expr_shape.LogConst value) ≡ expr_layer types (ExprTree-F.LogConst value)
  expr-LogConst value = trees.fold_expr-LogConst (Unit {0}) Expression Item (Unit {0}) Doing (Unit {0}) nothing (expr_layer types) item_layer nothing stmt_layer nothing value

  pub expr-Var : (symbol : List (List ℕ)) → expression types (expr_shape.Var symbol) ≡ expr_layer types (ExprTree-F.Var symbol)
  expr-Var symbol = trees.fold_expr-Var (Unit {0}) Expression Item (Unit {0}) Doing (Unit {0}) nothing (expr_layer types) item_layer nothing stmt_layer nothing symbol

  pub expr-Unary : (operator : ℕ) (operand : ExprTree) → expression types (expr_shape.Unary operator operand) ≡ expr_layer types (ExprTree-F.Unary operator (expression types operand))
  expr-Unary operator operand = trees.fold_expr-Unary (Unit {0}) Expression Item (Unit {0}) Doing (Unit {0}) nothing (expr_layer types) item_layer nothing stmt_layer nothing operator operand

  pub expr-Binary : (operator : ℕ) (left : ExprTree) (right : ExprTree) → expression types (expr_shape.Binary operator left right) ≡ expr_layer types (ExprTree-F.Binary operator (expression types left) (expression types right))
  expr-Binary operator left right = trees.fold_expr-Binary (Unit {0}) Expression Item (Unit {0}) Doing (Unit {0}) nothing (expr_layer types) item_layer nothing stmt_layer nothing operator left right

  pub expr-Convert : (kind : ℕ) (operand : ExprTree) → expression types (expr_shape.Convert kind operand) ≡ expr_layer types (ExprTree-F.Convert kind (expression types operand))
  expr-Convert kind operand = trees.fold_expr-Convert (Unit {0}) Expression Item (Unit {0}) Doing (Unit {0}) nothing (expr_layer types) item_layer nothing stmt_layer nothing kind operand

  pub expr-Paren : (inner : ExprTree) → expression types (expr_shape.Paren inner) ≡ expr_layer types (ExprTree-F.Paren (expression types inner))
  expr-Paren inner = trees.fold_expr-Paren (Unit {0}) Expression Item (Unit {0}) Doing (Unit {0}) nothing (expr_layer types) item_layer nothing stmt_layer nothing inner

  pub expr-Intrinsic : (code : ℕ) (arguments : List ExprTree) → expression types (expr_shape.Intrinsic code arguments) ≡ expr_layer types (ExprTree-F.Intrinsic code (map (expression types) arguments))
  expr-Intrinsic code arguments = trees.fold_expr-Intrinsic (Unit {0}) Expression Item (Unit {0}) Doing (Unit {0}) nothing (expr_layer types) item_layer nothing stmt_layer nothing code arguments

  pub expr-Temp : (number : ℕ) → expression types (expr_shape.Temp number) ≡ expr_layer types (ExprTree-F.Temp number)
  expr-Temp number = trees.fold_expr-Temp (Unit {0}) Expression Item (Unit {0}) Doing (Unit {0}) nothing (expr_layer types) item_layer nothing stmt_layer nothing number

  pub item-Value : (value : ExprTree) → item_of (print_item_shape.Value value) ≡ item_layer (PrintItemTree-F.«PrintItemTree::Value» (expression types value))
  item-Value value = trees.fold_print_item-Value (Unit {0}) Expression Item (Unit {0}) Doing (Unit {0}) nothing (expr_layer types) item_layer nothing stmt_layer nothing value

  pub stmt-Assign : (line : ℕ) (target : ExprTree) (value : ExprTree) → statement types (stmt_shape.Assign line target value) ≡ stmt_layer (StmtTree-F.Assign line (expression types target) (expression types value))
  stmt-Assign line target value = trees.fold_stmt-Assign (Unit {0}) Expression Item (Unit {0}) Doing (Unit {0}) nothing (expr_layer types) item_layer nothing stmt_layer nothing line target value

  pub stmt-If : (line : ℕ) (condition : ExprTree) (then_block : List StmtTree) (else_block : List StmtTree) → statement types (stmt_shape.If line condition then_block else_block) ≡ stmt_layer (StmtTree-F.If line (expression types condition) (map (statement types) then_block) (map (statement types) else_block))
  stmt-If line condition then_block else_block = trees.fold_stmt-If (Unit {0}) Expression Item (Unit {0}) Doing (Unit {0}) nothing (expr_layer types) item_layer nothing stmt_layer nothing line condition then_block else_block

  pub stmt-Do : (line : ℕ) (id : ℕ) (variable : ExprTree) (lower : ExprTree) (upper : ExprTree) (step : ExprTree) (body : List StmtTree) → statement types (stmt_shape.Do line id variable lower upper step body) ≡ stmt_layer (StmtTree-F.Do line id (expression types variable) (expression types lower) (expression types upper) (expression types step) (map (statement types) body))
  stmt-Do line id variable lower upper step body = trees.fold_stmt-Do (Unit {0}) Expression Item (Unit {0}) Doing (Unit {0}) nothing (expr_layer types) item_layer nothing stmt_layer nothing line id variable lower upper step body

  pub stmt-While : (line : ℕ) (id : ℕ) (condition : ExprTree) (body : List StmtTree) → statement types (stmt_shape.While line id condition body) ≡ stmt_layer (StmtTree-F.While line id (expression types condition) (map (statement types) body))
  stmt-While line id condition body = trees.fold_stmt-While (Unit {0}) Expression Item (Unit {0}) Doing (Unit {0}) nothing (expr_layer types) item_layer nothing stmt_layer nothing line id condition body

  pub stmt-Exit : (line : ℕ) (id : ℕ) → statement types (stmt_shape.Exit line id) ≡ stmt_layer (StmtTree-F.Exit line id)
  stmt-Exit line id = trees.fold_stmt-Exit (Unit {0}) Expression Item (Unit {0}) Doing (Unit {0}) nothing (expr_layer types) item_layer nothing stmt_layer nothing line id

  pub stmt-Cycle : (line : ℕ) (id : ℕ) → statement types (stmt_shape.Cycle line id) ≡ stmt_layer (StmtTree-F.Cycle line id)
  stmt-Cycle line id = trees.fold_stmt-Cycle (Unit {0}) Expression Item (Unit {0}) Doing (Unit {0}) nothing (expr_layer types) item_layer nothing stmt_layer nothing line id

  pub stmt-Print : (line : ℕ) (form : ℕ) (advance : ℕ) (items : List PrintItemTree) → statement types (stmt_shape.Print line form advance items) ≡ stmt_layer (StmtTree-F.Print line form advance (map item_of items))
  stmt-Print line form advance items = trees.fold_stmt-Print (Unit {0}) Expression Item (Unit {0}) Doing (Unit {0}) nothing (expr_layer types) item_layer nothing stmt_layer nothing line form advance items

  pub stmt-Stop : (line : ℕ) (error : ℕ) (code : ExprTree) → statement types (stmt_shape.Stop line error code) ≡ stmt_layer (StmtTree-F.Stop line error (expression types code))
  stmt-Stop line error code = trees.fold_stmt-Stop (Unit {0}) Expression Item (Unit {0}) Doing (Unit {0}) nothing (expr_layer types) item_layer nothing stmt_layer nothing line error code

  pub stmt-Block : (line : ℕ) (stmts : List StmtTree) → statement types (stmt_shape.Block line stmts) ≡ stmt_layer (StmtTree-F.Block line (map (statement types) stmts))
  stmt-Block line stmts = trees.fold_stmt-Block (Unit {0}) Expression Item (Unit {0}) Doing (Unit {0}) nothing (expr_layer types) item_layer nothing stmt_layer nothing line stmts

  pub stmt-Let : (line : ℕ) (number : ℕ) (value : ExprTree) → statement types (stmt_shape.Let line number value) ≡ stmt_layer (StmtTree-F.Let line number (expression types value))
  stmt-Let line number value = trees.fold_stmt-Let (Unit {0}) Expression Item (Unit {0}) Doing (Unit {0}) nothing (expr_layer types) item_layer nothing stmt_layer nothing line number value

  pub stmt-Begin : (line : ℕ) (number : ℕ) → statement types (stmt_shape.Begin line number) ≡ stmt_layer (StmtTree-F.Begin line number)
  stmt-Begin line number = trees.fold_stmt-Begin (Unit {0}) Expression Item (Unit {0}) Doing (Unit {0}) nothing (expr_layer types) item_layer nothing stmt_layer nothing line number

  pub stmt-Put : (line : ℕ) (number : ℕ) (value : ExprTree) → statement types (stmt_shape.Put line number value) ≡ stmt_layer (StmtTree-F.Put line number (expression types value))
  stmt-Put line number value = trees.fold_stmt-Put (Unit {0}) Expression Item (Unit {0}) Doing (Unit {0}) nothing (expr_layer types) item_layer nothing stmt_layer nothing line number value

  pub stmt-End : (line : ℕ) → statement types (stmt_shape.End line) ≡ stmt_layer (StmtTree-F.End line)
  stmt-End line = trees.fold_stmt-End (Unit {0}) Expression Item (Unit {0}) Doing (Unit {0}) nothing (expr_layer types) item_layer nothing stmt_layer nothing line

  pub value-IntConst : (kind : ℕ) (value : ℤ) → (here : Location) (d : Drawn) → (expression types (expr_shape.IntConst kind value)).value here d ≡ (expr_layer types (ExprTree-F.IntConst kind value)).value here d
  value-IntConst kind value here d = ap (λ m. m.value here d) (expr-IntConst kind value)

  pub constant-IntConst : (kind : ℕ) (value : ℤ) → (expression types (expr_shape.IntConst kind value)).constant ≡ (expr_layer types (ExprTree-F.IntConst kind value)).constant
  constant-IntConst kind value = ap (λ m. m.constant) (expr-IntConst kind value)

  pub value-LogConst : (value : ℕ) → (here : Location) (d : Drawn) → (expression types (expr_shape.LogConst value)).value here d ≡ (expr_layer types (ExprTree-F.LogConst value)).value here d
  value-LogConst value here d = ap (λ m. m.value here d) (expr-LogConst value)

  pub value-Var : (symbol : List (List ℕ)) → (here : Location) (d : Drawn) → (expression types (expr_shape.Var symbol)).value here d ≡ (expr_layer types (ExprTree-F.Var symbol)).value here d
  value-Var symbol here d = ap (λ m. m.value here d) (expr-Var symbol)

  pub place-Var : (symbol : List (List ℕ)) → (here : Location) (d : Drawn) → (expression types (expr_shape.Var symbol)).place here d ≡ (expr_layer types (ExprTree-F.Var symbol)).place here d
  place-Var symbol here d = ap (λ m. m.place here d) (expr-Var symbol)

  pub value-Unary : (operator : ℕ) (operand : ExprTree) → (here : Location) (d : Drawn) → (expression types (expr_shape.Unary operator operand)).value here d ≡ (expr_layer types (ExprTree-F.Unary operator (expression types operand))).value here d
  value-Unary operator operand here d = ap (λ m. m.value here d) (expr-Unary operator operand)

  pub value-Binary : (operator : ℕ) (left : ExprTree) (right : ExprTree) → (here : Location) (d : Drawn) → (expression types (expr_shape.Binary operator left right)).value here d ≡ (expr_layer types (ExprTree-F.Binary operator (expression types left) (expression types right))).value here d
  value-Binary operator left right here d = ap (λ m. m.value here d) (expr-Binary operator left right)

  pub value-Convert : (kind : ℕ) (operand : ExprTree) → (here : Location) (d : Drawn) → (expression types (expr_shape.Convert kind operand)).value here d ≡ (expr_layer types (ExprTree-F.Convert kind (expression types operand))).value here d
  value-Convert kind operand here d = ap (λ m. m.value here d) (expr-Convert kind operand)

  pub value-Paren : (inner : ExprTree) → (here : Location) (d : Drawn) → (expression types (expr_shape.Paren inner)).value here d ≡ (expr_layer types (ExprTree-F.Paren (expression types inner))).value here d
  value-Paren inner here d = ap (λ m. m.value here d) (expr-Paren inner)

  pub value-Intrinsic : (code : ℕ) (arguments : List ExprTree) → (here : Location) (d : Drawn) → (expression types (expr_shape.Intrinsic code arguments)).value here d ≡ (expr_layer types (ExprTree-F.Intrinsic code (map (expression types) arguments))).value here d
  value-Intrinsic code arguments here d = ap (λ m. m.value here d) (expr-Intrinsic code arguments)

  pub value-Temp : (number : ℕ) → (here : Location) (d : Drawn) → (expression types (expr_shape.Temp number)).value here d ≡ (expr_layer types (ExprTree-F.Temp number)).value here d
  value-Temp number here d = ap (λ m. m.value here d) (expr-Temp number)

  pub place-Temp : (number : ℕ) → (here : Location) (d : Drawn) → (expression types (expr_shape.Temp number)).place here d ≡ (expr_layer types (ExprTree-F.Temp number)).place here d
  place-Temp number here d = ap (λ m. m.place here d) (expr-Temp number)

  pub lines-Assign : (line : ℕ) (target : ExprTree) (value : ExprTree) → (source : List ℕ) (d : Drawn) → statement types (stmt_shape.Assign line target value) source d ≡ stmt_layer (StmtTree-F.Assign line (expression types target) (expression types value)) source d
  lines-Assign line target value source d = ap (λ f. f source d) (stmt-Assign line target value)

  pub lines-If : (line : ℕ) (condition : ExprTree) (then_block : List StmtTree) (else_block : List StmtTree) → (source : List ℕ) (d : Drawn) → statement types (stmt_shape.If line condition then_block else_block) source d ≡ stmt_layer (StmtTree-F.If line (expression types condition) (map (statement types) then_block) (map (statement types) else_block)) source d
  lines-If line condition then_block else_block source d = ap (λ f. f source d) (stmt-If line condition then_block else_block)

  pub lines-Do : (line : ℕ) (id : ℕ) (variable : ExprTree) (lower : ExprTree) (upper : ExprTree) (step : ExprTree) (body : List StmtTree) → (source : List ℕ) (d : Drawn) → statement types (stmt_shape.Do line id variable lower upper step body) source d ≡ stmt_layer (StmtTree-F.Do line id (expression types variable) (expression types lower) (expression types upper) (expression types step) (map (statement types) body)) source d
  lines-Do line id variable lower upper step body source d = ap (λ f. f source d) (stmt-Do line id variable lower upper step body)

  pub lines-While : (line : ℕ) (id : ℕ) (condition : ExprTree) (body : List StmtTree) → (source : List ℕ) (d : Drawn) → statement types (stmt_shape.While line id condition body) source d ≡ stmt_layer (StmtTree-F.While line id (expression types condition) (map (statement types) body)) source d
  lines-While line id condition body source d = ap (λ f. f source d) (stmt-While line id condition body)

  pub lines-Exit : (line : ℕ) (id : ℕ) → (source : List ℕ) (d : Drawn) → statement types (stmt_shape.Exit line id) source d ≡ stmt_layer (StmtTree-F.Exit line id) source d
  lines-Exit line id source d = ap (λ f. f source d) (stmt-Exit line id)

  pub lines-Cycle : (line : ℕ) (id : ℕ) → (source : List ℕ) (d : Drawn) → statement types (stmt_shape.Cycle line id) source d ≡ stmt_layer (StmtTree-F.Cycle line id) source d
  lines-Cycle line id source d = ap (λ f. f source d) (stmt-Cycle line id)

  pub lines-Print : (line : ℕ) (form : ℕ) (advance : ℕ) (items : List PrintItemTree) → (source : List ℕ) (d : Drawn) → statement types (stmt_shape.Print line form advance items) source d ≡ stmt_layer (StmtTree-F.Print line form advance (map item_of items)) source d
  lines-Print line form advance items source d = ap (λ f. f source d) (stmt-Print line form advance items)

  pub lines-Stop : (line : ℕ) (error : ℕ) (code : ExprTree) → (source : List ℕ) (d : Drawn) → statement types (stmt_shape.Stop line error code) source d ≡ stmt_layer (StmtTree-F.Stop line error (expression types code)) source d
  lines-Stop line error code source d = ap (λ f. f source d) (stmt-Stop line error code)

  pub lines-Block : (line : ℕ) (stmts : List StmtTree) → (source : List ℕ) (d : Drawn) → statement types (stmt_shape.Block line stmts) source d ≡ stmt_layer (StmtTree-F.Block line (map (statement types) stmts)) source d
  lines-Block line stmts source d = ap (λ f. f source d) (stmt-Block line stmts)

  pub lines-Let : (line : ℕ) (number : ℕ) (value : ExprTree) → (source : List ℕ) (d : Drawn) → statement types (stmt_shape.Let line number value) source d ≡ stmt_layer (StmtTree-F.Let line number (expression types value)) source d
  lines-Let line number value source d = ap (λ f. f source d) (stmt-Let line number value)

  pub lines-Begin : (line : ℕ) (number : ℕ) → (source : List ℕ) (d : Drawn) → statement types (stmt_shape.Begin line number) source d ≡ stmt_layer (StmtTree-F.Begin line number) source d
  lines-Begin line number source d = ap (λ f. f source d) (stmt-Begin line number)

  pub lines-Put : (line : ℕ) (number : ℕ) (value : ExprTree) → (source : List ℕ) (d : Drawn) → statement types (stmt_shape.Put line number value) source d ≡ stmt_layer (StmtTree-F.Put line number (expression types value)) source d
  lines-Put line number value source d = ap (λ f. f source d) (stmt-Put line number value)

  pub lines-End : (line : ℕ) → (source : List ℕ) (d : Drawn) → statement types (stmt_shape.End line) source d ≡ stmt_layer (StmtTree-F.End line) source d
  lines-End line source d = ap (λ f. f source d) (stmt-End line)

  pub ruleset nodes = (value-IntConst, constant-IntConst, value-LogConst, value-Var, place-Var, value-Unary, value-Binary, value-Convert, value-Paren, value-Intrinsic, value-Temp, place-Temp, item-Value, lines-Assign, lines-If, lines-Do, lines-While, lines-Exit, lines-Cycle, lines-Print, lines-Stop, lines-Block, lines-Let, lines-Begin, lines-Put, lines-End)

-- Whether each node has lines, by its parts.
abbrev pub scalar_item : PrintItemTree → Option Built
scalar_item = fold-PrintItemTree (Unit {0}) Built (Option Built) (Unit {0}) Bool (Unit {0}) nothing scalar.expr_layer scalar.item_layer nothing scalar.stmt_layer nothing

pub scalar_expr-IntConst : (kind : ℕ) (value : ℤ) → scalar.is_value (expr_shape.IntConst kind value) ≡ scalar.expr_layer (ExprTree-F.IntConst kind value)
scalar_expr-IntConst kind value = trees.fold_expr-IntConst (Unit {0}) Built (Option Built) (Unit {0}) Bool (Unit {0}) nothing scalar.expr_layer scalar.item_layer nothing scalar.stmt_layer nothing kind value

pub scalar_expr-LogConst : (value : ℕ) → scalar.is_value (expr_shape.LogConst value) ≡ scalar.expr_layer (ExprTree-F.LogConst value)
scalar_expr-LogConst value = trees.fold_expr-LogConst (Unit {0}) Built (Option Built) (Unit {0}) Bool (Unit {0}) nothing scalar.expr_layer scalar.item_layer nothing scalar.stmt_layer nothing value

pub scalar_expr-Var : (symbol : List (List ℕ)) → scalar.is_value (expr_shape.Var symbol) ≡ scalar.expr_layer (ExprTree-F.Var symbol)
scalar_expr-Var symbol = trees.fold_expr-Var (Unit {0}) Built (Option Built) (Unit {0}) Bool (Unit {0}) nothing scalar.expr_layer scalar.item_layer nothing scalar.stmt_layer nothing symbol

pub scalar_expr-Unary : (operator : ℕ) (operand : ExprTree) → scalar.is_value (expr_shape.Unary operator operand) ≡ scalar.expr_layer (ExprTree-F.Unary operator (scalar.is_value operand))
scalar_expr-Unary operator operand = trees.fold_expr-Unary (Unit {0}) Built (Option Built) (Unit {0}) Bool (Unit {0}) nothing scalar.expr_layer scalar.item_layer nothing scalar.stmt_layer nothing operator operand

pub scalar_expr-Binary : (operator : ℕ) (left : ExprTree) (right : ExprTree) → scalar.is_value (expr_shape.Binary operator left right) ≡ scalar.expr_layer (ExprTree-F.Binary operator (scalar.is_value left) (scalar.is_value right))
scalar_expr-Binary operator left right = trees.fold_expr-Binary (Unit {0}) Built (Option Built) (Unit {0}) Bool (Unit {0}) nothing scalar.expr_layer scalar.item_layer nothing scalar.stmt_layer nothing operator left right

pub scalar_expr-Convert : (kind : ℕ) (operand : ExprTree) → scalar.is_value (expr_shape.Convert kind operand) ≡ scalar.expr_layer (ExprTree-F.Convert kind (scalar.is_value operand))
scalar_expr-Convert kind operand = trees.fold_expr-Convert (Unit {0}) Built (Option Built) (Unit {0}) Bool (Unit {0}) nothing scalar.expr_layer scalar.item_layer nothing scalar.stmt_layer nothing kind operand

pub scalar_expr-Paren : (inner : ExprTree) → scalar.is_value (expr_shape.Paren inner) ≡ scalar.expr_layer (ExprTree-F.Paren (scalar.is_value inner))
scalar_expr-Paren inner = trees.fold_expr-Paren (Unit {0}) Built (Option Built) (Unit {0}) Bool (Unit {0}) nothing scalar.expr_layer scalar.item_layer nothing scalar.stmt_layer nothing inner

pub scalar_expr-Intrinsic : (code : ℕ) (arguments : List ExprTree) → scalar.is_value (expr_shape.Intrinsic code arguments) ≡ scalar.expr_layer (ExprTree-F.Intrinsic code (map (scalar.is_value) arguments))
scalar_expr-Intrinsic code arguments = trees.fold_expr-Intrinsic (Unit {0}) Built (Option Built) (Unit {0}) Bool (Unit {0}) nothing scalar.expr_layer scalar.item_layer nothing scalar.stmt_layer nothing code arguments

pub scalar_expr-Temp : (number : ℕ) → scalar.is_value (expr_shape.Temp number) ≡ scalar.expr_layer (ExprTree-F.Temp number)
scalar_expr-Temp number = trees.fold_expr-Temp (Unit {0}) Built (Option Built) (Unit {0}) Bool (Unit {0}) nothing scalar.expr_layer scalar.item_layer nothing scalar.stmt_layer nothing number

pub scalar_item-Value : (value : ExprTree) → scalar_item (print_item_shape.Value value) ≡ scalar.item_layer (PrintItemTree-F.«PrintItemTree::Value» (scalar.is_value value))
scalar_item-Value value = trees.fold_print_item-Value (Unit {0}) Built (Option Built) (Unit {0}) Bool (Unit {0}) nothing scalar.expr_layer scalar.item_layer nothing scalar.stmt_layer nothing value

pub scalar_stmt-Assign : (line : ℕ) (target : ExprTree) (value : ExprTree) → scalar.has_lines (stmt_shape.Assign line target value) ≡ scalar.stmt_layer (StmtTree-F.Assign line (scalar.is_value target) (scalar.is_value value))
scalar_stmt-Assign line target value = trees.fold_stmt-Assign (Unit {0}) Built (Option Built) (Unit {0}) Bool (Unit {0}) nothing scalar.expr_layer scalar.item_layer nothing scalar.stmt_layer nothing line target value

pub scalar_stmt-If : (line : ℕ) (condition : ExprTree) (then_block : List StmtTree) (else_block : List StmtTree) → scalar.has_lines (stmt_shape.If line condition then_block else_block) ≡ scalar.stmt_layer (StmtTree-F.If line (scalar.is_value condition) (map (scalar.has_lines) then_block) (map (scalar.has_lines) else_block))
scalar_stmt-If line condition then_block else_block = trees.fold_stmt-If (Unit {0}) Built (Option Built) (Unit {0}) Bool (Unit {0}) nothing scalar.expr_layer scalar.item_layer nothing scalar.stmt_layer nothing line condition then_block else_block

pub scalar_stmt-Do : (line : ℕ) (id : ℕ) (variable : ExprTree) (lower : ExprTree) (upper : ExprTree) (step : ExprTree) (body : List StmtTree) → scalar.has_lines (stmt_shape.Do line id variable lower upper step body) ≡ scalar.stmt_layer (StmtTree-F.Do line id (scalar.is_value variable) (scalar.is_value lower) (scalar.is_value upper) (scalar.is_value step) (map (scalar.has_lines) body))
scalar_stmt-Do line id variable lower upper step body = trees.fold_stmt-Do (Unit {0}) Built (Option Built) (Unit {0}) Bool (Unit {0}) nothing scalar.expr_layer scalar.item_layer nothing scalar.stmt_layer nothing line id variable lower upper step body

pub scalar_stmt-While : (line : ℕ) (id : ℕ) (condition : ExprTree) (body : List StmtTree) → scalar.has_lines (stmt_shape.While line id condition body) ≡ scalar.stmt_layer (StmtTree-F.While line id (scalar.is_value condition) (map (scalar.has_lines) body))
scalar_stmt-While line id condition body = trees.fold_stmt-While (Unit {0}) Built (Option Built) (Unit {0}) Bool (Unit {0}) nothing scalar.expr_layer scalar.item_layer nothing scalar.stmt_layer nothing line id condition body

pub scalar_stmt-Exit : (line : ℕ) (id : ℕ) → scalar.has_lines (stmt_shape.Exit line id) ≡ scalar.stmt_layer (StmtTree-F.Exit line id)
scalar_stmt-Exit line id = trees.fold_stmt-Exit (Unit {0}) Built (Option Built) (Unit {0}) Bool (Unit {0}) nothing scalar.expr_layer scalar.item_layer nothing scalar.stmt_layer nothing line id

pub scalar_stmt-Cycle : (line : ℕ) (id : ℕ) → scalar.has_lines (stmt_shape.Cycle line id) ≡ scalar.stmt_layer (StmtTree-F.Cycle line id)
scalar_stmt-Cycle line id = trees.fold_stmt-Cycle (Unit {0}) Built (Option Built) (Unit {0}) Bool (Unit {0}) nothing scalar.expr_layer scalar.item_layer nothing scalar.stmt_layer nothing line id

pub scalar_stmt-Print : (line : ℕ) (form : ℕ) (advance : ℕ) (items : List PrintItemTree) → scalar.has_lines (stmt_shape.Print line form advance items) ≡ scalar.stmt_layer (StmtTree-F.Print line form advance (map scalar_item items))
scalar_stmt-Print line form advance items = trees.fold_stmt-Print (Unit {0}) Built (Option Built) (Unit {0}) Bool (Unit {0}) nothing scalar.expr_layer scalar.item_layer nothing scalar.stmt_layer nothing line form advance items

pub scalar_stmt-Stop : (line : ℕ) (error : ℕ) (code : ExprTree) → scalar.has_lines (stmt_shape.Stop line error code) ≡ scalar.stmt_layer (StmtTree-F.Stop line error (scalar.is_value code))
scalar_stmt-Stop line error code = trees.fold_stmt-Stop (Unit {0}) Built (Option Built) (Unit {0}) Bool (Unit {0}) nothing scalar.expr_layer scalar.item_layer nothing scalar.stmt_layer nothing line error code

pub scalar_stmt-Block : (line : ℕ) (stmts : List StmtTree) → scalar.has_lines (stmt_shape.Block line stmts) ≡ scalar.stmt_layer (StmtTree-F.Block line (map (scalar.has_lines) stmts))
scalar_stmt-Block line stmts = trees.fold_stmt-Block (Unit {0}) Built (Option Built) (Unit {0}) Bool (Unit {0}) nothing scalar.expr_layer scalar.item_layer nothing scalar.stmt_layer nothing line stmts

pub scalar_stmt-Let : (line : ℕ) (number : ℕ) (value : ExprTree) → scalar.has_lines (stmt_shape.Let line number value) ≡ scalar.stmt_layer (StmtTree-F.Let line number (scalar.is_value value))
scalar_stmt-Let line number value = trees.fold_stmt-Let (Unit {0}) Built (Option Built) (Unit {0}) Bool (Unit {0}) nothing scalar.expr_layer scalar.item_layer nothing scalar.stmt_layer nothing line number value

pub scalar_stmt-Begin : (line : ℕ) (number : ℕ) → scalar.has_lines (stmt_shape.Begin line number) ≡ scalar.stmt_layer (StmtTree-F.Begin line number)
scalar_stmt-Begin line number = trees.fold_stmt-Begin (Unit {0}) Built (Option Built) (Unit {0}) Bool (Unit {0}) nothing scalar.expr_layer scalar.item_layer nothing scalar.stmt_layer nothing line number

pub scalar_stmt-Put : (line : ℕ) (number : ℕ) (value : ExprTree) → scalar.has_lines (stmt_shape.Put line number value) ≡ scalar.stmt_layer (StmtTree-F.Put line number (scalar.is_value value))
scalar_stmt-Put line number value = trees.fold_stmt-Put (Unit {0}) Built (Option Built) (Unit {0}) Bool (Unit {0}) nothing scalar.expr_layer scalar.item_layer nothing scalar.stmt_layer nothing line number value

pub scalar_stmt-End : (line : ℕ) → scalar.has_lines (stmt_shape.End line) ≡ scalar.stmt_layer (StmtTree-F.End line)
scalar_stmt-End line = trees.fold_stmt-End (Unit {0}) Built (Option Built) (Unit {0}) Bool (Unit {0}) nothing scalar.expr_layer scalar.item_layer nothing scalar.stmt_layer nothing line

pub ruleset scalars = (scalar_expr-IntConst, scalar_expr-LogConst, scalar_expr-Var, scalar_expr-Unary, scalar_expr-Binary, scalar_expr-Convert, scalar_expr-Paren, scalar_expr-Intrinsic, scalar_expr-Temp, scalar_item-Value, scalar_stmt-Assign, scalar_stmt-If, scalar_stmt-Do, scalar_stmt-While, scalar_stmt-Exit, scalar_stmt-Cycle, scalar_stmt-Print, scalar_stmt-Stop, scalar_stmt-Block, scalar_stmt-Let, scalar_stmt-Begin, scalar_stmt-Put, scalar_stmt-End)

-- the same of a variable
pub variable-is : (name : List ℕ) (access : ℕ) (ty : TypeTree) (storage intent : ℕ) (init : List ExprTree) → variable_of (symbol_shape.Variable name access ty storage intent init) ≡ variable_layer (SymbolTree-F.Variable name access ty storage intent init)
variable-is name access ty storage intent init = ap variable_of (sym (symbol_shape.rolls-Variable name access ty storage intent init)) ∙ fold-roll-SymbolTree (Option Variable) variable_layer (SymbolTree-F.Variable name access ty storage intent init)

pub scalar-variable : (name : List ℕ) (access : ℕ) (ty : TypeTree) (storage intent : ℕ) (init : List ExprTree) → scalar.is_scalar_symbol (symbol_shape.Variable name access ty storage intent init) ≡ scalar.symbol_layer (SymbolTree-F.Variable name access ty storage intent init)
scalar-variable name access ty storage intent init = ap scalar.is_scalar_symbol (sym (symbol_shape.rolls-Variable name access ty storage intent init)) ∙ fold-roll-SymbolTree Bool scalar.symbol_layer (SymbolTree-F.Variable name access ty storage intent init)

pub ruleset symbols = (variable-is, scalar-variable)
