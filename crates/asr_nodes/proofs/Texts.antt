-- The text at each shape of a tree.
use Rattle.std.proofs.Common.{◌≡◌, ℕ, ℤ, List, map, Option, option_map, sym, ap, ◌∙◌}
use Rattle.asr_nodes.specs.declared.tree.ElemTree.{ElemTree}
use Rattle.asr_nodes.specs.declared.tree.TypeTree.{TypeTree}
use Rattle.asr_nodes.specs.declared.tree.ArrayItemTree.{ArrayItemTree, ArrayItemTree-F}
use Rattle.asr_nodes.specs.declared.tree.ArrayItemTree.TheVariants as array_item_shape
use Rattle.asr_nodes.specs.declared.tree.CaseTree.{CaseTree}
use Rattle.asr_nodes.specs.declared.tree.ExprTree.{ExprTree, ExprTree-F}
use Rattle.asr_nodes.specs.declared.tree.ExprTree.TheVariants as expr_shape
use Rattle.asr_nodes.specs.declared.tree.PrintItemTree.{PrintItemTree, PrintItemTree-F}
use Rattle.asr_nodes.specs.declared.tree.PrintItemTree.TheVariants as print_item_shape
use Rattle.asr_nodes.specs.declared.tree.SectionPartTree.{SectionPartTree, SectionPartTree-F}
use Rattle.asr_nodes.specs.declared.tree.SectionPartTree.TheVariants as section_part_shape
use Rattle.asr_nodes.specs.declared.tree.StmtTree.{StmtTree, StmtTree-F}
use Rattle.asr_nodes.specs.declared.tree.StmtTree.TheVariants as stmt_shape
use Rattle.asr_nodes.specs.declared.tree.SymbolTree.{SymbolTree, SymbolTree-F, fold-roll-SymbolTree}
use Rattle.asr_nodes.specs.declared.tree.SymbolTree.TheVariants as symbol_shape
use Rattle.asr_nodes.specs.Text.{Text, array_item_layer, expr_layer, print_item_layer, section_part_layer, stmt_layer, case_layer, array_item_text, case_text, expr_text, print_item_text, section_part_text, stmt_text, symbol_layer, symbol_text}
use Rattle.asr_nodes.proofs.TreeFolds as folds

pub array_item_text-Value : (value : ExprTree) → array_item_text (array_item_shape.Value value) ≡ array_item_layer (ArrayItemTree-F.«ArrayItemTree::Value» (expr_text value))
array_item_text-Value = folds.fold_array_item-Value Text Text Text Text Text Text array_item_layer expr_layer print_item_layer section_part_layer stmt_layer case_layer

pub array_item_text-Loop : (number : ℕ) (lower : ℤ) (upper : ℤ) (step : ℤ) (items : List ArrayItemTree) → array_item_text (array_item_shape.Loop number lower upper step items) ≡ array_item_layer (ArrayItemTree-F.«ArrayItemTree::Loop» number lower upper step (map array_item_text items))
array_item_text-Loop = folds.fold_array_item-Loop Text Text Text Text Text Text array_item_layer expr_layer print_item_layer section_part_layer stmt_layer case_layer

pub expr_text-IntConst : (kind : ℕ) (value : ℤ) → expr_text (expr_shape.IntConst kind value) ≡ expr_layer (ExprTree-F.IntConst kind value)
expr_text-IntConst = folds.fold_expr-IntConst Text Text Text Text Text Text array_item_layer expr_layer print_item_layer section_part_layer stmt_layer case_layer

pub expr_text-LogConst : (value : ℕ) → expr_text (expr_shape.LogConst value) ≡ expr_layer (ExprTree-F.LogConst value)
expr_text-LogConst = folds.fold_expr-LogConst Text Text Text Text Text Text array_item_layer expr_layer print_item_layer section_part_layer stmt_layer case_layer

pub expr_text-CharConst : (bytes : List ℕ) → expr_text (expr_shape.CharConst bytes) ≡ expr_layer (ExprTree-F.CharConst bytes)
expr_text-CharConst = folds.fold_expr-CharConst Text Text Text Text Text Text array_item_layer expr_layer print_item_layer section_part_layer stmt_layer case_layer

pub expr_text-Var : (symbol : List (List ℕ)) → expr_text (expr_shape.Var symbol) ≡ expr_layer (ExprTree-F.Var symbol)
expr_text-Var = folds.fold_expr-Var Text Text Text Text Text Text array_item_layer expr_layer print_item_layer section_part_layer stmt_layer case_layer

pub expr_text-Item : (base : ExprTree) (subscripts : List ExprTree) → expr_text (expr_shape.Item base subscripts) ≡ expr_layer (ExprTree-F.Item (expr_text base) (map expr_text subscripts))
expr_text-Item = folds.fold_expr-Item Text Text Text Text Text Text array_item_layer expr_layer print_item_layer section_part_layer stmt_layer case_layer

pub expr_text-Section : (base : ExprTree) (parts : List SectionPartTree) → expr_text (expr_shape.Section base parts) ≡ expr_layer (ExprTree-F.Section (expr_text base) (map section_part_text parts))
expr_text-Section = folds.fold_expr-Section Text Text Text Text Text Text array_item_layer expr_layer print_item_layer section_part_layer stmt_layer case_layer

pub expr_text-Field : (base : ExprTree) (component : List ℕ) → expr_text (expr_shape.Field base component) ≡ expr_layer (ExprTree-F.Field (expr_text base) component)
expr_text-Field = folds.fold_expr-Field Text Text Text Text Text Text array_item_layer expr_layer print_item_layer section_part_layer stmt_layer case_layer

pub expr_text-Substring : (base : ExprTree) (lower : Option ExprTree) (upper : Option ExprTree) → expr_text (expr_shape.Substring base lower upper) ≡ expr_layer (ExprTree-F.Substring (expr_text base) (option_map expr_text lower) (option_map expr_text upper))
expr_text-Substring = folds.fold_expr-Substring Text Text Text Text Text Text array_item_layer expr_layer print_item_layer section_part_layer stmt_layer case_layer

pub expr_text-Unary : (operator : ℕ) (operand : ExprTree) → expr_text (expr_shape.Unary operator operand) ≡ expr_layer (ExprTree-F.Unary operator (expr_text operand))
expr_text-Unary = folds.fold_expr-Unary Text Text Text Text Text Text array_item_layer expr_layer print_item_layer section_part_layer stmt_layer case_layer

pub expr_text-Binary : (operator : ℕ) (left : ExprTree) (right : ExprTree) → expr_text (expr_shape.Binary operator left right) ≡ expr_layer (ExprTree-F.Binary operator (expr_text left) (expr_text right))
expr_text-Binary = folds.fold_expr-Binary Text Text Text Text Text Text array_item_layer expr_layer print_item_layer section_part_layer stmt_layer case_layer

pub expr_text-Convert : (kind : ℕ) (operand : ExprTree) → expr_text (expr_shape.Convert kind operand) ≡ expr_layer (ExprTree-F.Convert kind (expr_text operand))
expr_text-Convert = folds.fold_expr-Convert Text Text Text Text Text Text array_item_layer expr_layer print_item_layer section_part_layer stmt_layer case_layer

pub expr_text-Paren : (inner : ExprTree) → expr_text (expr_shape.Paren inner) ≡ expr_layer (ExprTree-F.Paren (expr_text inner))
expr_text-Paren = folds.fold_expr-Paren Text Text Text Text Text Text array_item_layer expr_layer print_item_layer section_part_layer stmt_layer case_layer

pub expr_text-Invoke : (callee : List (List ℕ)) (arguments : List ExprTree) → expr_text (expr_shape.Invoke callee arguments) ≡ expr_layer (ExprTree-F.Invoke callee (map expr_text arguments))
expr_text-Invoke = folds.fold_expr-Invoke Text Text Text Text Text Text array_item_layer expr_layer print_item_layer section_part_layer stmt_layer case_layer

pub expr_text-Intrinsic : (code : ℕ) (arguments : List ExprTree) → expr_text (expr_shape.Intrinsic code arguments) ≡ expr_layer (ExprTree-F.Intrinsic code (map expr_text arguments))
expr_text-Intrinsic = folds.fold_expr-Intrinsic Text Text Text Text Text Text array_item_layer expr_layer print_item_layer section_part_layer stmt_layer case_layer

pub expr_text-Construct : (definition : List (List ℕ)) (arguments : List ExprTree) → expr_text (expr_shape.Construct definition arguments) ≡ expr_layer (ExprTree-F.Construct definition (map expr_text arguments))
expr_text-Construct = folds.fold_expr-Construct Text Text Text Text Text Text array_item_layer expr_layer print_item_layer section_part_layer stmt_layer case_layer

pub expr_text-Array : (items : List ArrayItemTree) → expr_text (expr_shape.Array items) ≡ expr_layer (ExprTree-F.Array (map array_item_text items))
expr_text-Array = folds.fold_expr-Array Text Text Text Text Text Text array_item_layer expr_layer print_item_layer section_part_layer stmt_layer case_layer

pub expr_text-Temp : (number : ℕ) → expr_text (expr_shape.Temp number) ≡ expr_layer (ExprTree-F.Temp number)
expr_text-Temp = folds.fold_expr-Temp Text Text Text Text Text Text array_item_layer expr_layer print_item_layer section_part_layer stmt_layer case_layer

pub expr_text-Extent : (symbol : List (List ℕ)) (dimension : ℕ) → expr_text (expr_shape.Extent symbol dimension) ≡ expr_layer (ExprTree-F.Extent symbol dimension)
expr_text-Extent = folds.fold_expr-Extent Text Text Text Text Text Text array_item_layer expr_layer print_item_layer section_part_layer stmt_layer case_layer

pub expr_text-Seq : (stmts : List StmtTree) (value : ExprTree) → expr_text (expr_shape.Seq stmts value) ≡ expr_layer (ExprTree-F.Seq (map stmt_text stmts) (expr_text value))
expr_text-Seq = folds.fold_expr-Seq Text Text Text Text Text Text array_item_layer expr_layer print_item_layer section_part_layer stmt_layer case_layer

pub expr_text-TempAt : (number : ℕ) (place : ExprTree) → expr_text (expr_shape.TempAt number place) ≡ expr_layer (ExprTree-F.TempAt number (expr_text place))
expr_text-TempAt = folds.fold_expr-TempAt Text Text Text Text Text Text array_item_layer expr_layer print_item_layer section_part_layer stmt_layer case_layer

pub expr_text-SecLen : (lower : ExprTree) (upper : ExprTree) (step : ExprTree) (low : ExprTree) (high : ExprTree) → expr_text (expr_shape.SecLen lower upper step low high) ≡ expr_layer (ExprTree-F.SecLen (expr_text lower) (expr_text upper) (expr_text step) (expr_text low) (expr_text high))
expr_text-SecLen = folds.fold_expr-SecLen Text Text Text Text Text Text array_item_layer expr_layer print_item_layer section_part_layer stmt_layer case_layer

pub expr_text-Arr : (number : ℕ) (element : ElemTree) (extents : List ExprTree) → expr_text (expr_shape.Arr number element extents) ≡ expr_layer (ExprTree-F.Arr number element (map expr_text extents))
expr_text-Arr = folds.fold_expr-Arr Text Text Text Text Text Text array_item_layer expr_layer print_item_layer section_part_layer stmt_layer case_layer

pub expr_text-At : (source : List ℕ) (line : ℕ) (value : ExprTree) → expr_text (expr_shape.At source line value) ≡ expr_layer (ExprTree-F.«ExprTree::At» source line (expr_text value))
expr_text-At = folds.fold_expr-At Text Text Text Text Text Text array_item_layer expr_layer print_item_layer section_part_layer stmt_layer case_layer

pub print_item_text-Value : (value : ExprTree) → print_item_text (print_item_shape.Value value) ≡ print_item_layer (PrintItemTree-F.«PrintItemTree::Value» (expr_text value))
print_item_text-Value = folds.fold_print_item-Value Text Text Text Text Text Text array_item_layer expr_layer print_item_layer section_part_layer stmt_layer case_layer

pub print_item_text-Loop : (variable : ExprTree) (lower : ExprTree) (upper : ExprTree) (step : ExprTree) (items : List PrintItemTree) → print_item_text (print_item_shape.Loop variable lower upper step items) ≡ print_item_layer (PrintItemTree-F.«PrintItemTree::Loop» (expr_text variable) (expr_text lower) (expr_text upper) (expr_text step) (map print_item_text items))
print_item_text-Loop = folds.fold_print_item-Loop Text Text Text Text Text Text array_item_layer expr_layer print_item_layer section_part_layer stmt_layer case_layer

pub section_part_text-At : (index : ExprTree) → section_part_text (section_part_shape.At index) ≡ section_part_layer (SectionPartTree-F.«SectionPartTree::At» (expr_text index))
section_part_text-At = folds.fold_section_part-At Text Text Text Text Text Text array_item_layer expr_layer print_item_layer section_part_layer stmt_layer case_layer

pub section_part_text-Triple : (lower : Option ExprTree) (upper : Option ExprTree) (step : Option ExprTree) → section_part_text (section_part_shape.Triple lower upper step) ≡ section_part_layer (SectionPartTree-F.Triple (option_map expr_text lower) (option_map expr_text upper) (option_map expr_text step))
section_part_text-Triple = folds.fold_section_part-Triple Text Text Text Text Text Text array_item_layer expr_layer print_item_layer section_part_layer stmt_layer case_layer

pub stmt_text-Assign : (line : ℕ) (target : ExprTree) (value : ExprTree) → stmt_text (stmt_shape.Assign line target value) ≡ stmt_layer (StmtTree-F.Assign line (expr_text target) (expr_text value))
stmt_text-Assign = folds.fold_stmt-Assign Text Text Text Text Text Text array_item_layer expr_layer print_item_layer section_part_layer stmt_layer case_layer

pub stmt_text-If : (line : ℕ) (condition : ExprTree) (then_block : List StmtTree) (else_block : List StmtTree) → stmt_text (stmt_shape.If line condition then_block else_block) ≡ stmt_layer (StmtTree-F.If line (expr_text condition) (map stmt_text then_block) (map stmt_text else_block))
stmt_text-If = folds.fold_stmt-If Text Text Text Text Text Text array_item_layer expr_layer print_item_layer section_part_layer stmt_layer case_layer

pub stmt_text-Do : (line : ℕ) (id : ℕ) (variable : ExprTree) (lower : ExprTree) (upper : ExprTree) (step : ExprTree) (body : List StmtTree) → stmt_text (stmt_shape.Do line id variable lower upper step body) ≡ stmt_layer (StmtTree-F.Do line id (expr_text variable) (expr_text lower) (expr_text upper) (expr_text step) (map stmt_text body))
stmt_text-Do = folds.fold_stmt-Do Text Text Text Text Text Text array_item_layer expr_layer print_item_layer section_part_layer stmt_layer case_layer

pub stmt_text-While : (line : ℕ) (id : ℕ) (condition : ExprTree) (body : List StmtTree) → stmt_text (stmt_shape.While line id condition body) ≡ stmt_layer (StmtTree-F.While line id (expr_text condition) (map stmt_text body))
stmt_text-While = folds.fold_stmt-While Text Text Text Text Text Text array_item_layer expr_layer print_item_layer section_part_layer stmt_layer case_layer

pub stmt_text-Exit : (line : ℕ) (id : ℕ) → stmt_text (stmt_shape.Exit line id) ≡ stmt_layer (StmtTree-F.Exit line id)
stmt_text-Exit = folds.fold_stmt-Exit Text Text Text Text Text Text array_item_layer expr_layer print_item_layer section_part_layer stmt_layer case_layer

pub stmt_text-Cycle : (line : ℕ) (id : ℕ) → stmt_text (stmt_shape.Cycle line id) ≡ stmt_layer (StmtTree-F.Cycle line id)
stmt_text-Cycle = folds.fold_stmt-Cycle Text Text Text Text Text Text array_item_layer expr_layer print_item_layer section_part_layer stmt_layer case_layer

pub stmt_text-Select : (line : ℕ) (value : ExprTree) (cases : List CaseTree) (default : List StmtTree) → stmt_text (stmt_shape.Select line value cases default) ≡ stmt_layer (StmtTree-F.Select line (expr_text value) (map case_text cases) (map stmt_text default))
stmt_text-Select = folds.fold_stmt-Select Text Text Text Text Text Text array_item_layer expr_layer print_item_layer section_part_layer stmt_layer case_layer

pub stmt_text-Call : (line : ℕ) (callee : List (List ℕ)) (arguments : List ExprTree) → stmt_text (stmt_shape.Call line callee arguments) ≡ stmt_layer (StmtTree-F.Call line callee (map expr_text arguments))
stmt_text-Call = folds.fold_stmt-Call Text Text Text Text Text Text array_item_layer expr_layer print_item_layer section_part_layer stmt_layer case_layer

pub stmt_text-Print : (line : ℕ) (form : ℕ) (advance : ℕ) (items : List PrintItemTree) → stmt_text (stmt_shape.Print line form advance items) ≡ stmt_layer (StmtTree-F.Print line form advance (map print_item_text items))
stmt_text-Print = folds.fold_stmt-Print Text Text Text Text Text Text array_item_layer expr_layer print_item_layer section_part_layer stmt_layer case_layer

pub stmt_text-Read : (line : ℕ) (target : ExprTree) (iostat : Option ExprTree) → stmt_text (stmt_shape.Read line target iostat) ≡ stmt_layer (StmtTree-F.Read line (expr_text target) (option_map expr_text iostat))
stmt_text-Read = folds.fold_stmt-Read Text Text Text Text Text Text array_item_layer expr_layer print_item_layer section_part_layer stmt_layer case_layer

pub stmt_text-Stop : (line : ℕ) (error : ℕ) (code : ExprTree) → stmt_text (stmt_shape.Stop line error code) ≡ stmt_layer (StmtTree-F.Stop line error (expr_text code))
stmt_text-Stop = folds.fold_stmt-Stop Text Text Text Text Text Text array_item_layer expr_layer print_item_layer section_part_layer stmt_layer case_layer

pub stmt_text-Return : (line : ℕ) → stmt_text (stmt_shape.Return line) ≡ stmt_layer (StmtTree-F.Return line)
stmt_text-Return = folds.fold_stmt-Return Text Text Text Text Text Text array_item_layer expr_layer print_item_layer section_part_layer stmt_layer case_layer

pub stmt_text-Block : (line : ℕ) (stmts : List StmtTree) → stmt_text (stmt_shape.Block line stmts) ≡ stmt_layer (StmtTree-F.Block line (map stmt_text stmts))
stmt_text-Block = folds.fold_stmt-Block Text Text Text Text Text Text array_item_layer expr_layer print_item_layer section_part_layer stmt_layer case_layer

pub stmt_text-Let : (line : ℕ) (number : ℕ) (value : ExprTree) → stmt_text (stmt_shape.Let line number value) ≡ stmt_layer (StmtTree-F.Let line number (expr_text value))
stmt_text-Let = folds.fold_stmt-Let Text Text Text Text Text Text array_item_layer expr_layer print_item_layer section_part_layer stmt_layer case_layer

pub stmt_text-Room : (line : ℕ) (number : ℕ) (element : ElemTree) (len : Option ExprTree) (extents : List ExprTree) → stmt_text (stmt_shape.Room line number element len extents) ≡ stmt_layer (StmtTree-F.Room line number element (option_map expr_text len) (map expr_text extents))
stmt_text-Room = folds.fold_stmt-Room Text Text Text Text Text Text array_item_layer expr_layer print_item_layer section_part_layer stmt_layer case_layer

pub stmt_text-Count : (line : ℕ) (number : ℕ) (bound : ExprTree) (body : List StmtTree) → stmt_text (stmt_shape.Count line number bound body) ≡ stmt_layer (StmtTree-F.Count line number (expr_text bound) (map stmt_text body))
stmt_text-Count = folds.fold_stmt-Count Text Text Text Text Text Text array_item_layer expr_layer print_item_layer section_part_layer stmt_layer case_layer

pub stmt_text-Same : (line : ℕ) (left : ExprTree) (right : ExprTree) → stmt_text (stmt_shape.Same line left right) ≡ stmt_layer (StmtTree-F.Same line (expr_text left) (expr_text right))
stmt_text-Same = folds.fold_stmt-Same Text Text Text Text Text Text array_item_layer expr_layer print_item_layer section_part_layer stmt_layer case_layer

pub stmt_text-Probe : (line : ℕ) (designator : ExprTree) → stmt_text (stmt_shape.Probe line designator) ≡ stmt_layer (StmtTree-F.Probe line (expr_text designator))
stmt_text-Probe = folds.fold_stmt-Probe Text Text Text Text Text Text array_item_layer expr_layer print_item_layer section_part_layer stmt_layer case_layer

pub stmt_text-Begin : (line : ℕ) (number : ℕ) → stmt_text (stmt_shape.Begin line number) ≡ stmt_layer (StmtTree-F.Begin line number)
stmt_text-Begin = folds.fold_stmt-Begin Text Text Text Text Text Text array_item_layer expr_layer print_item_layer section_part_layer stmt_layer case_layer

pub stmt_text-Put : (line : ℕ) (number : ℕ) (value : ExprTree) → stmt_text (stmt_shape.Put line number value) ≡ stmt_layer (StmtTree-F.Put line number (expr_text value))
stmt_text-Put = folds.fold_stmt-Put Text Text Text Text Text Text array_item_layer expr_layer print_item_layer section_part_layer stmt_layer case_layer

pub stmt_text-End : (line : ℕ) → stmt_text (stmt_shape.End line) ≡ stmt_layer (StmtTree-F.End line)
stmt_text-End = folds.fold_stmt-End Text Text Text Text Text Text array_item_layer expr_layer print_item_layer section_part_layer stmt_layer case_layer

pub case_text-block : (block : CaseTree) → case_text block ≡ case_layer (record { ranges = block.ranges; body = map stmt_text block.body })
case_text-block = folds.fold_case Text Text Text Text Text Text array_item_layer expr_layer print_item_layer section_part_layer stmt_layer case_layer

pub symbol_text-Function : (name : List ℕ) (access : ℕ) (dummies : List (List (List ℕ))) (result : Option (List (List ℕ))) (simple : ℕ) (symbols : List SymbolTree) (body : List StmtTree) → symbol_text (symbol_shape.Function name access dummies result simple symbols body) ≡ symbol_layer (SymbolTree-F.Function name access dummies result simple (map symbol_text symbols) body)
symbol_text-Function name access dummies result simple symbols body = ap symbol_text (sym (symbol_shape.rolls-Function name access dummies result simple symbols body)) ∙ fold-roll-SymbolTree Text symbol_layer (SymbolTree-F.Function name access dummies result simple symbols body)

pub symbol_text-Variable : (name : List ℕ) (access : ℕ) (ty : TypeTree) (storage : ℕ) (intent : ℕ) (init : List ExprTree) → symbol_text (symbol_shape.Variable name access ty storage intent init) ≡ symbol_layer (SymbolTree-F.Variable name access ty storage intent init)
symbol_text-Variable name access ty storage intent init = ap symbol_text (sym (symbol_shape.rolls-Variable name access ty storage intent init)) ∙ fold-roll-SymbolTree Text symbol_layer (SymbolTree-F.Variable name access ty storage intent init)

pub symbol_text-Struct : (name : List ℕ) (access : ℕ) (symbols : List SymbolTree) → symbol_text (symbol_shape.Struct name access symbols) ≡ symbol_layer (SymbolTree-F.Struct name access (map symbol_text symbols))
symbol_text-Struct name access symbols = ap symbol_text (sym (symbol_shape.rolls-Struct name access symbols)) ∙ fold-roll-SymbolTree Text symbol_layer (SymbolTree-F.Struct name access symbols)

pub symbol_text-Generic : (name : List ℕ) (access : ℕ) (specifics : List (List (List ℕ))) → symbol_text (symbol_shape.Generic name access specifics) ≡ symbol_layer (SymbolTree-F.Generic name access specifics)
symbol_text-Generic name access specifics = ap symbol_text (sym (symbol_shape.rolls-Generic name access specifics)) ∙ fold-roll-SymbolTree Text symbol_layer (SymbolTree-F.Generic name access specifics)

pub symbol_text-External : (name : List ℕ) (access : ℕ) (home : List ℕ) (original : List ℕ) → symbol_text (symbol_shape.External name access home original) ≡ symbol_layer (SymbolTree-F.External name access home original)
symbol_text-External name access home original = ap symbol_text (sym (symbol_shape.rolls-External name access home original)) ∙ fold-roll-SymbolTree Text symbol_layer (SymbolTree-F.External name access home original)
