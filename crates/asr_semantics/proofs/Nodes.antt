-- What each node means, by its parts.
use Rattle.std.proofs.Common.{◌≡◌, ℕ, ℤ, List, map, Option, Some, None, sym, ap, ◌∙◌}
use Rattle.type_rules.specs.Values.{Scalar, Integer}
use Rattle.asr_nodes.specs.Reading.{Path}
use Rattle.asr_nodes.specs.declared.tree.ExprTree.{ExprTree, ExprTree-F}
use Rattle.asr_nodes.specs.declared.tree.ExprTree.TheVariants as expr_shape
use Rattle.asr_nodes.specs.declared.tree.PrintItemTree.{PrintItemTree, PrintItemTree-F, fold-PrintItemTree}
use Rattle.asr_nodes.specs.declared.tree.PrintItemTree.TheVariants as print_item_shape
use Rattle.asr_nodes.specs.declared.tree.StmtTree.{StmtTree, StmtTree-F}
use Rattle.asr_nodes.specs.declared.tree.StmtTree.TheVariants as stmt_shape
use Rattle.asr_nodes.specs.declared.tree.SymbolTree.{SymbolTree, SymbolTree-F, fold-roll-SymbolTree}
use Rattle.asr_nodes.specs.declared.tree.SymbolTree.TheVariants as symbol_shape
use Rattle.asr_nodes.specs.declared.tree.TypeTree.{TypeTree}
use Rattle.asr_nodes.proofs.TreeFolds.{fold_expr-IntConst, fold_expr-LogConst, fold_expr-Var, fold_expr-Unary, fold_expr-Binary, fold_expr-Convert, fold_expr-Paren, fold_expr-Invoke, fold_expr-Intrinsic, fold_expr-Temp, fold_expr-Seq, fold_expr-At, fold_print_item-Value, fold_stmt-Assign, fold_stmt-If, fold_stmt-Do, fold_stmt-While, fold_stmt-Exit, fold_stmt-Cycle, fold_stmt-Call, fold_stmt-Print, fold_stmt-Stop, fold_stmt-Return, fold_stmt-Block, fold_stmt-Let, fold_stmt-Begin, fold_stmt-Put, fold_stmt-End}
use Rattle.lf_base.specs.Outcome.{Location, Written}
use Rattle.asr_semantics.specs.Machine.{State}
use Rattle.asr_semantics.specs.Entities.{Entities, entity_layer, symbol_entities}
use Rattle.asr_semantics.specs.Meaning.{Meant, Doing, Calls, PrintItem, nothing, expr_layer, item_layer, stmt_layer, expression, statement}
use Rattle.asr_semantics.specs.Program.{constant_of, constant_layer, no_part}

module _ (entities : Entities) (n : ℕ) (deeper : Calls) where
  abbrev pub item : PrintItemTree → PrintItem
  item = fold-PrintItemTree (Unit {0}) Meant PrintItem (Unit {0}) (List ℕ → Doing) (Unit {0}) nothing (expr_layer entities n deeper) item_layer nothing (stmt_layer entities n deeper) nothing

  pub expression-IntConst : (kind : ℕ) (value : ℤ) → expression entities n deeper (expr_shape.IntConst kind value) ≡ expr_layer entities n deeper (ExprTree-F.IntConst kind value)
  expression-IntConst kind value = fold_expr-IntConst (Unit {0}) Meant PrintItem (Unit {0}) (List ℕ → Doing) (Unit {0}) nothing (expr_layer entities n deeper) item_layer nothing (stmt_layer entities n deeper) nothing kind value

  pub expression-LogConst : (value : ℕ) → expression entities n deeper (expr_shape.LogConst value) ≡ expr_layer entities n deeper (ExprTree-F.LogConst value)
  expression-LogConst value = fold_expr-LogConst (Unit {0}) Meant PrintItem (Unit {0}) (List ℕ → Doing) (Unit {0}) nothing (expr_layer entities n deeper) item_layer nothing (stmt_layer entities n deeper) nothing value

  pub expression-Var : (symbol : List (List ℕ)) → expression entities n deeper (expr_shape.Var symbol) ≡ expr_layer entities n deeper (ExprTree-F.Var symbol)
  expression-Var symbol = fold_expr-Var (Unit {0}) Meant PrintItem (Unit {0}) (List ℕ → Doing) (Unit {0}) nothing (expr_layer entities n deeper) item_layer nothing (stmt_layer entities n deeper) nothing symbol

  pub expression-Unary : (operator : ℕ) (operand : ExprTree) → expression entities n deeper (expr_shape.Unary operator operand) ≡ expr_layer entities n deeper (ExprTree-F.Unary operator (expression entities n deeper operand))
  expression-Unary operator operand = fold_expr-Unary (Unit {0}) Meant PrintItem (Unit {0}) (List ℕ → Doing) (Unit {0}) nothing (expr_layer entities n deeper) item_layer nothing (stmt_layer entities n deeper) nothing operator operand

  pub expression-Binary : (operator : ℕ) (left : ExprTree) (right : ExprTree) → expression entities n deeper (expr_shape.Binary operator left right) ≡ expr_layer entities n deeper (ExprTree-F.Binary operator (expression entities n deeper left) (expression entities n deeper right))
  expression-Binary operator left right = fold_expr-Binary (Unit {0}) Meant PrintItem (Unit {0}) (List ℕ → Doing) (Unit {0}) nothing (expr_layer entities n deeper) item_layer nothing (stmt_layer entities n deeper) nothing operator left right

  pub expression-Convert : (kind : ℕ) (operand : ExprTree) → expression entities n deeper (expr_shape.Convert kind operand) ≡ expr_layer entities n deeper (ExprTree-F.Convert kind (expression entities n deeper operand))
  expression-Convert kind operand = fold_expr-Convert (Unit {0}) Meant PrintItem (Unit {0}) (List ℕ → Doing) (Unit {0}) nothing (expr_layer entities n deeper) item_layer nothing (stmt_layer entities n deeper) nothing kind operand

  pub expression-Paren : (inner : ExprTree) → expression entities n deeper (expr_shape.Paren inner) ≡ expr_layer entities n deeper (ExprTree-F.Paren (expression entities n deeper inner))
  expression-Paren inner = fold_expr-Paren (Unit {0}) Meant PrintItem (Unit {0}) (List ℕ → Doing) (Unit {0}) nothing (expr_layer entities n deeper) item_layer nothing (stmt_layer entities n deeper) nothing inner

  pub expression-Invoke : (callee : List (List ℕ)) (arguments : List ExprTree) → expression entities n deeper (expr_shape.Invoke callee arguments) ≡ expr_layer entities n deeper (ExprTree-F.Invoke callee (map (expression entities n deeper) arguments))
  expression-Invoke callee arguments = fold_expr-Invoke (Unit {0}) Meant PrintItem (Unit {0}) (List ℕ → Doing) (Unit {0}) nothing (expr_layer entities n deeper) item_layer nothing (stmt_layer entities n deeper) nothing callee arguments

  pub expression-Intrinsic : (code : ℕ) (arguments : List ExprTree) → expression entities n deeper (expr_shape.Intrinsic code arguments) ≡ expr_layer entities n deeper (ExprTree-F.Intrinsic code (map (expression entities n deeper) arguments))
  expression-Intrinsic code arguments = fold_expr-Intrinsic (Unit {0}) Meant PrintItem (Unit {0}) (List ℕ → Doing) (Unit {0}) nothing (expr_layer entities n deeper) item_layer nothing (stmt_layer entities n deeper) nothing code arguments

  pub expression-Temp : (number : ℕ) → expression entities n deeper (expr_shape.Temp number) ≡ expr_layer entities n deeper (ExprTree-F.Temp number)
  expression-Temp number = fold_expr-Temp (Unit {0}) Meant PrintItem (Unit {0}) (List ℕ → Doing) (Unit {0}) nothing (expr_layer entities n deeper) item_layer nothing (stmt_layer entities n deeper) nothing number

  pub expression-Seq : (stmts : List StmtTree) (value : ExprTree) → expression entities n deeper (expr_shape.Seq stmts value) ≡ expr_layer entities n deeper (ExprTree-F.Seq (map (statement entities n deeper) stmts) (expression entities n deeper value))
  expression-Seq stmts value = fold_expr-Seq (Unit {0}) Meant PrintItem (Unit {0}) (List ℕ → Doing) (Unit {0}) nothing (expr_layer entities n deeper) item_layer nothing (stmt_layer entities n deeper) nothing stmts value

  pub expression-At : (source : List ℕ) (line : ℕ) (value : ExprTree) → expression entities n deeper (expr_shape.At source line value) ≡ expr_layer entities n deeper (ExprTree-F.«ExprTree::At» source line (expression entities n deeper value))
  expression-At source line value = fold_expr-At (Unit {0}) Meant PrintItem (Unit {0}) (List ℕ → Doing) (Unit {0}) nothing (expr_layer entities n deeper) item_layer nothing (stmt_layer entities n deeper) nothing source line value

  pub item-Value : (value : ExprTree) → item (print_item_shape.Value value) ≡ item_layer (PrintItemTree-F.«PrintItemTree::Value» (expression entities n deeper value))
  item-Value value = fold_print_item-Value (Unit {0}) Meant PrintItem (Unit {0}) (List ℕ → Doing) (Unit {0}) nothing (expr_layer entities n deeper) item_layer nothing (stmt_layer entities n deeper) nothing value

  pub statement-Assign : (line : ℕ) (target : ExprTree) (value : ExprTree) → statement entities n deeper (stmt_shape.Assign line target value) ≡ stmt_layer entities n deeper (StmtTree-F.Assign line (expression entities n deeper target) (expression entities n deeper value))
  statement-Assign line target value = fold_stmt-Assign (Unit {0}) Meant PrintItem (Unit {0}) (List ℕ → Doing) (Unit {0}) nothing (expr_layer entities n deeper) item_layer nothing (stmt_layer entities n deeper) nothing line target value

  pub statement-If : (line : ℕ) (condition : ExprTree) (then_block : List StmtTree) (else_block : List StmtTree) → statement entities n deeper (stmt_shape.If line condition then_block else_block) ≡ stmt_layer entities n deeper (StmtTree-F.If line (expression entities n deeper condition) (map (statement entities n deeper) then_block) (map (statement entities n deeper) else_block))
  statement-If line condition then_block else_block = fold_stmt-If (Unit {0}) Meant PrintItem (Unit {0}) (List ℕ → Doing) (Unit {0}) nothing (expr_layer entities n deeper) item_layer nothing (stmt_layer entities n deeper) nothing line condition then_block else_block

  pub statement-Do : (line : ℕ) (id : ℕ) (variable : ExprTree) (lower : ExprTree) (upper : ExprTree) (step : ExprTree) (body : List StmtTree) → statement entities n deeper (stmt_shape.Do line id variable lower upper step body) ≡ stmt_layer entities n deeper (StmtTree-F.Do line id (expression entities n deeper variable) (expression entities n deeper lower) (expression entities n deeper upper) (expression entities n deeper step) (map (statement entities n deeper) body))
  statement-Do line id variable lower upper step body = fold_stmt-Do (Unit {0}) Meant PrintItem (Unit {0}) (List ℕ → Doing) (Unit {0}) nothing (expr_layer entities n deeper) item_layer nothing (stmt_layer entities n deeper) nothing line id variable lower upper step body

  pub statement-While : (line : ℕ) (id : ℕ) (condition : ExprTree) (body : List StmtTree) → statement entities n deeper (stmt_shape.While line id condition body) ≡ stmt_layer entities n deeper (StmtTree-F.While line id (expression entities n deeper condition) (map (statement entities n deeper) body))
  statement-While line id condition body = fold_stmt-While (Unit {0}) Meant PrintItem (Unit {0}) (List ℕ → Doing) (Unit {0}) nothing (expr_layer entities n deeper) item_layer nothing (stmt_layer entities n deeper) nothing line id condition body

  pub statement-Exit : (line : ℕ) (id : ℕ) → statement entities n deeper (stmt_shape.Exit line id) ≡ stmt_layer entities n deeper (StmtTree-F.Exit line id)
  statement-Exit line id = fold_stmt-Exit (Unit {0}) Meant PrintItem (Unit {0}) (List ℕ → Doing) (Unit {0}) nothing (expr_layer entities n deeper) item_layer nothing (stmt_layer entities n deeper) nothing line id

  pub statement-Cycle : (line : ℕ) (id : ℕ) → statement entities n deeper (stmt_shape.Cycle line id) ≡ stmt_layer entities n deeper (StmtTree-F.Cycle line id)
  statement-Cycle line id = fold_stmt-Cycle (Unit {0}) Meant PrintItem (Unit {0}) (List ℕ → Doing) (Unit {0}) nothing (expr_layer entities n deeper) item_layer nothing (stmt_layer entities n deeper) nothing line id

  pub statement-Call : (line : ℕ) (callee : List (List ℕ)) (arguments : List ExprTree) → statement entities n deeper (stmt_shape.Call line callee arguments) ≡ stmt_layer entities n deeper (StmtTree-F.Call line callee (map (expression entities n deeper) arguments))
  statement-Call line callee arguments = fold_stmt-Call (Unit {0}) Meant PrintItem (Unit {0}) (List ℕ → Doing) (Unit {0}) nothing (expr_layer entities n deeper) item_layer nothing (stmt_layer entities n deeper) nothing line callee arguments

  pub statement-Print : (line : ℕ) (form : ℕ) (advance : ℕ) (items : List PrintItemTree) → statement entities n deeper (stmt_shape.Print line form advance items) ≡ stmt_layer entities n deeper (StmtTree-F.Print line form advance (map item items))
  statement-Print line form advance items = fold_stmt-Print (Unit {0}) Meant PrintItem (Unit {0}) (List ℕ → Doing) (Unit {0}) nothing (expr_layer entities n deeper) item_layer nothing (stmt_layer entities n deeper) nothing line form advance items

  pub statement-Stop : (line : ℕ) (error : ℕ) (code : ExprTree) → statement entities n deeper (stmt_shape.Stop line error code) ≡ stmt_layer entities n deeper (StmtTree-F.Stop line error (expression entities n deeper code))
  statement-Stop line error code = fold_stmt-Stop (Unit {0}) Meant PrintItem (Unit {0}) (List ℕ → Doing) (Unit {0}) nothing (expr_layer entities n deeper) item_layer nothing (stmt_layer entities n deeper) nothing line error code

  pub statement-Return : (line : ℕ) → statement entities n deeper (stmt_shape.Return line) ≡ stmt_layer entities n deeper (StmtTree-F.Return line)
  statement-Return line = fold_stmt-Return (Unit {0}) Meant PrintItem (Unit {0}) (List ℕ → Doing) (Unit {0}) nothing (expr_layer entities n deeper) item_layer nothing (stmt_layer entities n deeper) nothing line

  pub statement-Block : (line : ℕ) (stmts : List StmtTree) → statement entities n deeper (stmt_shape.Block line stmts) ≡ stmt_layer entities n deeper (StmtTree-F.Block line (map (statement entities n deeper) stmts))
  statement-Block line stmts = fold_stmt-Block (Unit {0}) Meant PrintItem (Unit {0}) (List ℕ → Doing) (Unit {0}) nothing (expr_layer entities n deeper) item_layer nothing (stmt_layer entities n deeper) nothing line stmts

  pub statement-Let : (line : ℕ) (number : ℕ) (value : ExprTree) → statement entities n deeper (stmt_shape.Let line number value) ≡ stmt_layer entities n deeper (StmtTree-F.Let line number (expression entities n deeper value))
  statement-Let line number value = fold_stmt-Let (Unit {0}) Meant PrintItem (Unit {0}) (List ℕ → Doing) (Unit {0}) nothing (expr_layer entities n deeper) item_layer nothing (stmt_layer entities n deeper) nothing line number value

  pub statement-Begin : (line : ℕ) (number : ℕ) → statement entities n deeper (stmt_shape.Begin line number) ≡ stmt_layer entities n deeper (StmtTree-F.Begin line number)
  statement-Begin line number = fold_stmt-Begin (Unit {0}) Meant PrintItem (Unit {0}) (List ℕ → Doing) (Unit {0}) nothing (expr_layer entities n deeper) item_layer nothing (stmt_layer entities n deeper) nothing line number

  pub statement-Put : (line : ℕ) (number : ℕ) (value : ExprTree) → statement entities n deeper (stmt_shape.Put line number value) ≡ stmt_layer entities n deeper (StmtTree-F.Put line number (expression entities n deeper value))
  statement-Put line number value = fold_stmt-Put (Unit {0}) Meant PrintItem (Unit {0}) (List ℕ → Doing) (Unit {0}) nothing (expr_layer entities n deeper) item_layer nothing (stmt_layer entities n deeper) nothing line number value

  pub statement-End : (line : ℕ) → statement entities n deeper (stmt_shape.End line) ≡ stmt_layer entities n deeper (StmtTree-F.End line)
  statement-End line = fold_stmt-End (Unit {0}) Meant PrintItem (Unit {0}) (List ℕ → Doing) (Unit {0}) nothing (expr_layer entities n deeper) item_layer nothing (stmt_layer entities n deeper) nothing line

  -- where they are applied
  pub value-IntConst : (kind : ℕ) (value : ℤ) → (here : Location) (s : State) (w : Written) → (expression entities n deeper (expr_shape.IntConst kind value)).value here s w ≡ (expr_layer entities n deeper (ExprTree-F.IntConst kind value)).value here s w
  value-IntConst kind value here s w = ap (λ m. m.value here s w) (expression-IntConst kind value)

  pub argument-IntConst : (kind : ℕ) (value : ℤ) → (here : Location) (s : State) (w : Written) → (expression entities n deeper (expr_shape.IntConst kind value)).argument here s w ≡ (expr_layer entities n deeper (ExprTree-F.IntConst kind value)).argument here s w
  argument-IntConst kind value here s w = ap (λ m. m.argument here s w) (expression-IntConst kind value)

  pub value-LogConst : (value : ℕ) → (here : Location) (s : State) (w : Written) → (expression entities n deeper (expr_shape.LogConst value)).value here s w ≡ (expr_layer entities n deeper (ExprTree-F.LogConst value)).value here s w
  value-LogConst value here s w = ap (λ m. m.value here s w) (expression-LogConst value)

  pub argument-LogConst : (value : ℕ) → (here : Location) (s : State) (w : Written) → (expression entities n deeper (expr_shape.LogConst value)).argument here s w ≡ (expr_layer entities n deeper (ExprTree-F.LogConst value)).argument here s w
  argument-LogConst value here s w = ap (λ m. m.argument here s w) (expression-LogConst value)

  pub value-Var : (symbol : List (List ℕ)) → (here : Location) (s : State) (w : Written) → (expression entities n deeper (expr_shape.Var symbol)).value here s w ≡ (expr_layer entities n deeper (ExprTree-F.Var symbol)).value here s w
  value-Var symbol here s w = ap (λ m. m.value here s w) (expression-Var symbol)

  pub argument-Var : (symbol : List (List ℕ)) → (here : Location) (s : State) (w : Written) → (expression entities n deeper (expr_shape.Var symbol)).argument here s w ≡ (expr_layer entities n deeper (ExprTree-F.Var symbol)).argument here s w
  argument-Var symbol here s w = ap (λ m. m.argument here s w) (expression-Var symbol)

  pub place-Var : (symbol : List (List ℕ)) → (here : Location) (s : State) (w : Written) → (expression entities n deeper (expr_shape.Var symbol)).place here s w ≡ (expr_layer entities n deeper (ExprTree-F.Var symbol)).place here s w
  place-Var symbol here s w = ap (λ m. m.place here s w) (expression-Var symbol)

  pub value-Unary : (operator : ℕ) (operand : ExprTree) → (here : Location) (s : State) (w : Written) → (expression entities n deeper (expr_shape.Unary operator operand)).value here s w ≡ (expr_layer entities n deeper (ExprTree-F.Unary operator (expression entities n deeper operand))).value here s w
  value-Unary operator operand here s w = ap (λ m. m.value here s w) (expression-Unary operator operand)

  pub argument-Unary : (operator : ℕ) (operand : ExprTree) → (here : Location) (s : State) (w : Written) → (expression entities n deeper (expr_shape.Unary operator operand)).argument here s w ≡ (expr_layer entities n deeper (ExprTree-F.Unary operator (expression entities n deeper operand))).argument here s w
  argument-Unary operator operand here s w = ap (λ m. m.argument here s w) (expression-Unary operator operand)

  pub value-Binary : (operator : ℕ) (left : ExprTree) (right : ExprTree) → (here : Location) (s : State) (w : Written) → (expression entities n deeper (expr_shape.Binary operator left right)).value here s w ≡ (expr_layer entities n deeper (ExprTree-F.Binary operator (expression entities n deeper left) (expression entities n deeper right))).value here s w
  value-Binary operator left right here s w = ap (λ m. m.value here s w) (expression-Binary operator left right)

  pub argument-Binary : (operator : ℕ) (left : ExprTree) (right : ExprTree) → (here : Location) (s : State) (w : Written) → (expression entities n deeper (expr_shape.Binary operator left right)).argument here s w ≡ (expr_layer entities n deeper (ExprTree-F.Binary operator (expression entities n deeper left) (expression entities n deeper right))).argument here s w
  argument-Binary operator left right here s w = ap (λ m. m.argument here s w) (expression-Binary operator left right)

  pub value-Convert : (kind : ℕ) (operand : ExprTree) → (here : Location) (s : State) (w : Written) → (expression entities n deeper (expr_shape.Convert kind operand)).value here s w ≡ (expr_layer entities n deeper (ExprTree-F.Convert kind (expression entities n deeper operand))).value here s w
  value-Convert kind operand here s w = ap (λ m. m.value here s w) (expression-Convert kind operand)

  pub argument-Convert : (kind : ℕ) (operand : ExprTree) → (here : Location) (s : State) (w : Written) → (expression entities n deeper (expr_shape.Convert kind operand)).argument here s w ≡ (expr_layer entities n deeper (ExprTree-F.Convert kind (expression entities n deeper operand))).argument here s w
  argument-Convert kind operand here s w = ap (λ m. m.argument here s w) (expression-Convert kind operand)

  pub value-Paren : (inner : ExprTree) → (here : Location) (s : State) (w : Written) → (expression entities n deeper (expr_shape.Paren inner)).value here s w ≡ (expr_layer entities n deeper (ExprTree-F.Paren (expression entities n deeper inner))).value here s w
  value-Paren inner here s w = ap (λ m. m.value here s w) (expression-Paren inner)

  pub argument-Paren : (inner : ExprTree) → (here : Location) (s : State) (w : Written) → (expression entities n deeper (expr_shape.Paren inner)).argument here s w ≡ (expr_layer entities n deeper (ExprTree-F.Paren (expression entities n deeper inner))).argument here s w
  argument-Paren inner here s w = ap (λ m. m.argument here s w) (expression-Paren inner)

  pub value-Invoke : (callee : List (List ℕ)) (arguments : List ExprTree) → (here : Location) (s : State) (w : Written) → (expression entities n deeper (expr_shape.Invoke callee arguments)).value here s w ≡ (expr_layer entities n deeper (ExprTree-F.Invoke callee (map (expression entities n deeper) arguments))).value here s w
  value-Invoke callee arguments here s w = ap (λ m. m.value here s w) (expression-Invoke callee arguments)

  pub argument-Invoke : (callee : List (List ℕ)) (arguments : List ExprTree) → (here : Location) (s : State) (w : Written) → (expression entities n deeper (expr_shape.Invoke callee arguments)).argument here s w ≡ (expr_layer entities n deeper (ExprTree-F.Invoke callee (map (expression entities n deeper) arguments))).argument here s w
  argument-Invoke callee arguments here s w = ap (λ m. m.argument here s w) (expression-Invoke callee arguments)

  pub value-Intrinsic : (code : ℕ) (arguments : List ExprTree) → (here : Location) (s : State) (w : Written) → (expression entities n deeper (expr_shape.Intrinsic code arguments)).value here s w ≡ (expr_layer entities n deeper (ExprTree-F.Intrinsic code (map (expression entities n deeper) arguments))).value here s w
  value-Intrinsic code arguments here s w = ap (λ m. m.value here s w) (expression-Intrinsic code arguments)

  pub argument-Intrinsic : (code : ℕ) (arguments : List ExprTree) → (here : Location) (s : State) (w : Written) → (expression entities n deeper (expr_shape.Intrinsic code arguments)).argument here s w ≡ (expr_layer entities n deeper (ExprTree-F.Intrinsic code (map (expression entities n deeper) arguments))).argument here s w
  argument-Intrinsic code arguments here s w = ap (λ m. m.argument here s w) (expression-Intrinsic code arguments)

  pub value-Temp : (number : ℕ) → (here : Location) (s : State) (w : Written) → (expression entities n deeper (expr_shape.Temp number)).value here s w ≡ (expr_layer entities n deeper (ExprTree-F.Temp number)).value here s w
  value-Temp number here s w = ap (λ m. m.value here s w) (expression-Temp number)

  pub argument-Temp : (number : ℕ) → (here : Location) (s : State) (w : Written) → (expression entities n deeper (expr_shape.Temp number)).argument here s w ≡ (expr_layer entities n deeper (ExprTree-F.Temp number)).argument here s w
  argument-Temp number here s w = ap (λ m. m.argument here s w) (expression-Temp number)

  pub value-Seq : (stmts : List StmtTree) (value : ExprTree) → (here : Location) (s : State) (w : Written) → (expression entities n deeper (expr_shape.Seq stmts value)).value here s w ≡ (expr_layer entities n deeper (ExprTree-F.Seq (map (statement entities n deeper) stmts) (expression entities n deeper value))).value here s w
  value-Seq stmts value here s w = ap (λ m. m.value here s w) (expression-Seq stmts value)

  pub argument-Seq : (stmts : List StmtTree) (value : ExprTree) → (here : Location) (s : State) (w : Written) → (expression entities n deeper (expr_shape.Seq stmts value)).argument here s w ≡ (expr_layer entities n deeper (ExprTree-F.Seq (map (statement entities n deeper) stmts) (expression entities n deeper value))).argument here s w
  argument-Seq stmts value here s w = ap (λ m. m.argument here s w) (expression-Seq stmts value)

  pub value-At : (source : List ℕ) (line : ℕ) (value : ExprTree) → (here : Location) (s : State) (w : Written) → (expression entities n deeper (expr_shape.At source line value)).value here s w ≡ (expr_layer entities n deeper (ExprTree-F.«ExprTree::At» source line (expression entities n deeper value))).value here s w
  value-At source line value here s w = ap (λ m. m.value here s w) (expression-At source line value)

  pub argument-At : (source : List ℕ) (line : ℕ) (value : ExprTree) → (here : Location) (s : State) (w : Written) → (expression entities n deeper (expr_shape.At source line value)).argument here s w ≡ (expr_layer entities n deeper (ExprTree-F.«ExprTree::At» source line (expression entities n deeper value))).argument here s w
  argument-At source line value here s w = ap (λ m. m.argument here s w) (expression-At source line value)

  pub runs-Assign : (line : ℕ) (target : ExprTree) (value : ExprTree) → (source : List ℕ) (s : State) (w : Written) → statement entities n deeper (stmt_shape.Assign line target value) source s w ≡ stmt_layer entities n deeper (StmtTree-F.Assign line (expression entities n deeper target) (expression entities n deeper value)) source s w
  runs-Assign line target value source s w = ap (λ f. f source s w) (statement-Assign line target value)

  pub runs-If : (line : ℕ) (condition : ExprTree) (then_block : List StmtTree) (else_block : List StmtTree) → (source : List ℕ) (s : State) (w : Written) → statement entities n deeper (stmt_shape.If line condition then_block else_block) source s w ≡ stmt_layer entities n deeper (StmtTree-F.If line (expression entities n deeper condition) (map (statement entities n deeper) then_block) (map (statement entities n deeper) else_block)) source s w
  runs-If line condition then_block else_block source s w = ap (λ f. f source s w) (statement-If line condition then_block else_block)

  pub runs-Do : (line : ℕ) (id : ℕ) (variable : ExprTree) (lower : ExprTree) (upper : ExprTree) (step : ExprTree) (body : List StmtTree) → (source : List ℕ) (s : State) (w : Written) → statement entities n deeper (stmt_shape.Do line id variable lower upper step body) source s w ≡ stmt_layer entities n deeper (StmtTree-F.Do line id (expression entities n deeper variable) (expression entities n deeper lower) (expression entities n deeper upper) (expression entities n deeper step) (map (statement entities n deeper) body)) source s w
  runs-Do line id variable lower upper step body source s w = ap (λ f. f source s w) (statement-Do line id variable lower upper step body)

  pub runs-While : (line : ℕ) (id : ℕ) (condition : ExprTree) (body : List StmtTree) → (source : List ℕ) (s : State) (w : Written) → statement entities n deeper (stmt_shape.While line id condition body) source s w ≡ stmt_layer entities n deeper (StmtTree-F.While line id (expression entities n deeper condition) (map (statement entities n deeper) body)) source s w
  runs-While line id condition body source s w = ap (λ f. f source s w) (statement-While line id condition body)

  pub runs-Exit : (line : ℕ) (id : ℕ) → (source : List ℕ) (s : State) (w : Written) → statement entities n deeper (stmt_shape.Exit line id) source s w ≡ stmt_layer entities n deeper (StmtTree-F.Exit line id) source s w
  runs-Exit line id source s w = ap (λ f. f source s w) (statement-Exit line id)

  pub runs-Cycle : (line : ℕ) (id : ℕ) → (source : List ℕ) (s : State) (w : Written) → statement entities n deeper (stmt_shape.Cycle line id) source s w ≡ stmt_layer entities n deeper (StmtTree-F.Cycle line id) source s w
  runs-Cycle line id source s w = ap (λ f. f source s w) (statement-Cycle line id)

  pub runs-Call : (line : ℕ) (callee : List (List ℕ)) (arguments : List ExprTree) → (source : List ℕ) (s : State) (w : Written) → statement entities n deeper (stmt_shape.Call line callee arguments) source s w ≡ stmt_layer entities n deeper (StmtTree-F.Call line callee (map (expression entities n deeper) arguments)) source s w
  runs-Call line callee arguments source s w = ap (λ f. f source s w) (statement-Call line callee arguments)

  pub runs-Print : (line : ℕ) (form : ℕ) (advance : ℕ) (items : List PrintItemTree) → (source : List ℕ) (s : State) (w : Written) → statement entities n deeper (stmt_shape.Print line form advance items) source s w ≡ stmt_layer entities n deeper (StmtTree-F.Print line form advance (map item items)) source s w
  runs-Print line form advance items source s w = ap (λ f. f source s w) (statement-Print line form advance items)

  pub runs-Stop : (line : ℕ) (error : ℕ) (code : ExprTree) → (source : List ℕ) (s : State) (w : Written) → statement entities n deeper (stmt_shape.Stop line error code) source s w ≡ stmt_layer entities n deeper (StmtTree-F.Stop line error (expression entities n deeper code)) source s w
  runs-Stop line error code source s w = ap (λ f. f source s w) (statement-Stop line error code)

  pub runs-Return : (line : ℕ) → (source : List ℕ) (s : State) (w : Written) → statement entities n deeper (stmt_shape.Return line) source s w ≡ stmt_layer entities n deeper (StmtTree-F.Return line) source s w
  runs-Return line source s w = ap (λ f. f source s w) (statement-Return line)

  pub runs-Block : (line : ℕ) (stmts : List StmtTree) → (source : List ℕ) (s : State) (w : Written) → statement entities n deeper (stmt_shape.Block line stmts) source s w ≡ stmt_layer entities n deeper (StmtTree-F.Block line (map (statement entities n deeper) stmts)) source s w
  runs-Block line stmts source s w = ap (λ f. f source s w) (statement-Block line stmts)

  pub runs-Let : (line : ℕ) (number : ℕ) (value : ExprTree) → (source : List ℕ) (s : State) (w : Written) → statement entities n deeper (stmt_shape.Let line number value) source s w ≡ stmt_layer entities n deeper (StmtTree-F.Let line number (expression entities n deeper value)) source s w
  runs-Let line number value source s w = ap (λ f. f source s w) (statement-Let line number value)

  pub runs-Begin : (line : ℕ) (number : ℕ) → (source : List ℕ) (s : State) (w : Written) → statement entities n deeper (stmt_shape.Begin line number) source s w ≡ stmt_layer entities n deeper (StmtTree-F.Begin line number) source s w
  runs-Begin line number source s w = ap (λ f. f source s w) (statement-Begin line number)

  pub runs-Put : (line : ℕ) (number : ℕ) (value : ExprTree) → (source : List ℕ) (s : State) (w : Written) → statement entities n deeper (stmt_shape.Put line number value) source s w ≡ stmt_layer entities n deeper (StmtTree-F.Put line number (expression entities n deeper value)) source s w
  runs-Put line number value source s w = ap (λ f. f source s w) (statement-Put line number value)

  pub runs-End : (line : ℕ) → (source : List ℕ) (s : State) (w : Written) → statement entities n deeper (stmt_shape.End line) source s w ≡ stmt_layer entities n deeper (StmtTree-F.End line) source s w
  runs-End line source s w = ap (λ f. f source s w) (statement-End line)

  pub ruleset nodes = (item-Value, value-IntConst, argument-IntConst, value-LogConst, argument-LogConst, value-Var, argument-Var, place-Var, value-Unary, argument-Unary, value-Binary, argument-Binary, value-Convert, argument-Convert, value-Paren, argument-Paren, value-Invoke, argument-Invoke, value-Intrinsic, argument-Intrinsic, value-Temp, argument-Temp, value-Seq, argument-Seq, value-At, argument-At, runs-Assign, runs-If, runs-Do, runs-While, runs-Exit, runs-Cycle, runs-Call, runs-Print, runs-Stop, runs-Return, runs-Block, runs-Let, runs-Begin, runs-Put, runs-End)

pub entities-Function : (name : List ℕ) (access : ℕ) (dummies : List Path) (result : Option Path) (simple : ℕ) (symbols : List SymbolTree) (body : List StmtTree) → symbol_entities (symbol_shape.Function name access dummies result simple symbols body) ≡ entity_layer (SymbolTree-F.Function name access dummies result simple (map symbol_entities symbols) body)
entities-Function name access dummies None simple symbols body = ap symbol_entities (sym (symbol_shape.rolls-Function name access dummies None simple symbols body)) ∙ fold-roll-SymbolTree Entities entity_layer (SymbolTree-F.Function name access dummies None simple symbols body)
entities-Function name access dummies (Some result) simple symbols body = ap symbol_entities (sym (symbol_shape.rolls-Function name access dummies (Some result) simple symbols body)) ∙ fold-roll-SymbolTree Entities entity_layer (SymbolTree-F.Function name access dummies (Some result) simple symbols body)

pub entities-Variable : (name : List ℕ) (access : ℕ) (ty : TypeTree) (storage intent : ℕ) (init : List ExprTree) → symbol_entities (symbol_shape.Variable name access ty storage intent init) ≡ entity_layer (SymbolTree-F.Variable name access ty storage intent init)
entities-Variable name access ty storage intent init = ap symbol_entities (sym (symbol_shape.rolls-Variable name access ty storage intent init)) ∙ fold-roll-SymbolTree Entities entity_layer (SymbolTree-F.Variable name access ty storage intent init)

pub entities-External : (name : List ℕ) (access : ℕ) (home original : List ℕ) → symbol_entities (symbol_shape.External name access home original) ≡ entity_layer (SymbolTree-F.External name access home original)
entities-External name access home original = ap symbol_entities (sym (symbol_shape.rolls-External name access home original)) ∙ fold-roll-SymbolTree Entities entity_layer (SymbolTree-F.External name access home original)

pub constant-IntConst : (kind : ℕ) (value : ℤ) → constant_of (expr_shape.IntConst kind value) ≡ Some (Integer kind value)
constant-IntConst kind value = fold_expr-IntConst (Unit {0}) (Option Scalar) (Unit {0}) (Unit {0}) (Unit {0}) (Unit {0}) no_part constant_layer no_part no_part no_part no_part kind value

pub ruleset symbols = (entities-Function, entities-Variable, entities-External, constant-IntConst)
