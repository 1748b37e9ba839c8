-- A fold over trees at each of their shapes.
use Rattle.std.proofs.Common.{◌≡◌, ℕ, ℤ, List, map, Option, Some, None, refl, sym, ap, ◌∙◌, option_map}
use Rattle.asr_nodes.specs.declared.tree.ElemTree.{ElemTree}
use Rattle.asr_nodes.specs.declared.tree.ArrayItemTree.{ArrayItemTree, ArrayItemTree-F, fold-ArrayItemTree, fold-roll-ArrayItemTree}
use Rattle.asr_nodes.specs.declared.tree.ArrayItemTree.TheVariants as array_item_shape
use Rattle.asr_nodes.specs.declared.tree.CaseTree.{CaseTree, CaseTree-F, fold-CaseTree, fold-roll-CaseTree}
use Rattle.asr_nodes.specs.declared.tree.ExprTree.{ExprTree, ExprTree-F, map-ExprTree, fold-ExprTree, fold-roll-ExprTree}
use Rattle.asr_nodes.specs.declared.tree.ExprTree.TheVariants as expr_shape
use Rattle.asr_nodes.specs.declared.tree.PrintItemTree.{PrintItemTree, PrintItemTree-F, fold-PrintItemTree, fold-roll-PrintItemTree}
use Rattle.asr_nodes.specs.declared.tree.PrintItemTree.TheVariants as print_item_shape
use Rattle.asr_nodes.specs.declared.tree.SectionPartTree.{SectionPartTree, SectionPartTree-F, map-SectionPartTree, fold-SectionPartTree, fold-roll-SectionPartTree}
use Rattle.asr_nodes.specs.declared.tree.SectionPartTree.TheVariants as section_part_shape
use Rattle.asr_nodes.specs.declared.tree.StmtTree.{StmtTree, StmtTree-F, map-StmtTree, fold-StmtTree, fold-roll-StmtTree}
use Rattle.asr_nodes.specs.declared.tree.StmtTree.TheVariants as stmt_shape

module _ (A B C D E F : Type 0) (array_item : ArrayItemTree-F A B C D E F → A) (expr : ExprTree-F A B C D E F → B) (print_item : PrintItemTree-F A B C D E F → C) (section_part : SectionPartTree-F A B C D E F → D) (stmt : StmtTree-F A B C D E F → E) (case : CaseTree-F A B C D E F → F) where
  abbrev pub a : ArrayItemTree → A
  a = fold-ArrayItemTree A B C D E F array_item expr print_item section_part stmt case

  abbrev pub e : ExprTree → B
  e = fold-ExprTree A B C D E F array_item expr print_item section_part stmt case

  abbrev pub p : PrintItemTree → C
  p = fold-PrintItemTree A B C D E F array_item expr print_item section_part stmt case

  abbrev pub q : SectionPartTree → D
  q = fold-SectionPartTree A B C D E F array_item expr print_item section_part stmt case

  abbrev pub s : StmtTree → E
  s = fold-StmtTree A B C D E F array_item expr print_item section_part stmt case

  abbrev pub c : CaseTree → F
  c = fold-CaseTree A B C D E F array_item expr print_item section_part stmt case

  pub fold_array_item-Value : (value : ExprTree) → a (array_item_shape.Value value) ≡ array_item (ArrayItemTree-F.«ArrayItemTree::Value» (e value))
  fold_array_item-Value value = ap a (sym (array_item_shape.rolls-Value value)) ∙ fold-roll-ArrayItemTree A B C D E F array_item expr print_item section_part stmt case (ArrayItemTree-F.«ArrayItemTree::Value» value)

  pub fold_array_item-Loop : (number : ℕ) (lower : ℤ) (upper : ℤ) (step : ℤ) (items : List ArrayItemTree) → a (array_item_shape.Loop number lower upper step items) ≡ array_item (ArrayItemTree-F.«ArrayItemTree::Loop» number lower upper step (map a items))
  fold_array_item-Loop number lower upper step items = ap a (sym (array_item_shape.rolls-Loop number lower upper step items)) ∙ fold-roll-ArrayItemTree A B C D E F array_item expr print_item section_part stmt case (ArrayItemTree-F.«ArrayItemTree::Loop» number lower upper step items)

  pub fold_expr-IntConst : (kind : ℕ) (value : ℤ) → e (expr_shape.IntConst kind value) ≡ expr (ExprTree-F.IntConst kind value)
  fold_expr-IntConst kind value = ap e (sym (expr_shape.rolls-IntConst kind value)) ∙ fold-roll-ExprTree A B C D E F array_item expr print_item section_part stmt case (ExprTree-F.IntConst kind value)

  pub fold_expr-LogConst : (value : ℕ) → e (expr_shape.LogConst value) ≡ expr (ExprTree-F.LogConst value)
  fold_expr-LogConst value = ap e (sym (expr_shape.rolls-LogConst value)) ∙ fold-roll-ExprTree A B C D E F array_item expr print_item section_part stmt case (ExprTree-F.LogConst value)

  pub fold_expr-CharConst : (bytes : List ℕ) → e (expr_shape.CharConst bytes) ≡ expr (ExprTree-F.CharConst bytes)
  fold_expr-CharConst bytes = ap e (sym (expr_shape.rolls-CharConst bytes)) ∙ fold-roll-ExprTree A B C D E F array_item expr print_item section_part stmt case (ExprTree-F.CharConst bytes)

  pub fold_expr-Var : (symbol : List (List ℕ)) → e (expr_shape.Var symbol) ≡ expr (ExprTree-F.Var symbol)
  fold_expr-Var symbol = ap e (sym (expr_shape.rolls-Var symbol)) ∙ fold-roll-ExprTree A B C D E F array_item expr print_item section_part stmt case (ExprTree-F.Var symbol)

  pub fold_expr-Item : (base : ExprTree) (subscripts : List ExprTree) → e (expr_shape.Item base subscripts) ≡ expr (ExprTree-F.Item (e base) (map e subscripts))
  fold_expr-Item base subscripts = ap e (sym (expr_shape.rolls-Item base subscripts)) ∙ fold-roll-ExprTree A B C D E F array_item expr print_item section_part stmt case (ExprTree-F.Item base subscripts)

  pub fold_expr-Section : (base : ExprTree) (parts : List SectionPartTree) → e (expr_shape.Section base parts) ≡ expr (ExprTree-F.Section (e base) (map q parts))
  fold_expr-Section base parts = ap e (sym (expr_shape.rolls-Section base parts)) ∙ fold-roll-ExprTree A B C D E F array_item expr print_item section_part stmt case (ExprTree-F.Section base parts)

  pub fold_expr-Field : (base : ExprTree) (component : List ℕ) → e (expr_shape.Field base component) ≡ expr (ExprTree-F.Field (e base) component)
  fold_expr-Field base component = ap e (sym (expr_shape.rolls-Field base component)) ∙ fold-roll-ExprTree A B C D E F array_item expr print_item section_part stmt case (ExprTree-F.Field base component)

  mapped_expr-Substring : (base : ExprTree) (lower : Option ExprTree) (upper : Option ExprTree) → map-ExprTree ArrayItemTree ExprTree PrintItemTree SectionPartTree StmtTree CaseTree A B C D E F a e p q s c (ExprTree-F.Substring base lower upper) ≡ ExprTree-F.Substring (e base) (option_map e lower) (option_map e upper)
  mapped_expr-Substring base None None = refl
  mapped_expr-Substring base None (Some upper) = refl
  mapped_expr-Substring base (Some lower) None = refl
  mapped_expr-Substring base (Some lower) (Some upper) = refl

  pub fold_expr-Substring : (base : ExprTree) (lower : Option ExprTree) (upper : Option ExprTree) → e (expr_shape.Substring base lower upper) ≡ expr (ExprTree-F.Substring (e base) (option_map e lower) (option_map e upper))
  fold_expr-Substring base lower upper = ap e (sym (expr_shape.rolls-Substring base lower upper)) ∙ fold-roll-ExprTree A B C D E F array_item expr print_item section_part stmt case (ExprTree-F.Substring base lower upper) ∙ ap expr (mapped_expr-Substring base lower upper)

  pub fold_expr-Unary : (operator : ℕ) (operand : ExprTree) → e (expr_shape.Unary operator operand) ≡ expr (ExprTree-F.Unary operator (e operand))
  fold_expr-Unary operator operand = ap e (sym (expr_shape.rolls-Unary operator operand)) ∙ fold-roll-ExprTree A B C D E F array_item expr print_item section_part stmt case (ExprTree-F.Unary operator operand)

  pub fold_expr-Binary : (operator : ℕ) (left : ExprTree) (right : ExprTree) → e (expr_shape.Binary operator left right) ≡ expr (ExprTree-F.Binary operator (e left) (e right))
  fold_expr-Binary operator left right = ap e (sym (expr_shape.rolls-Binary operator left right)) ∙ fold-roll-ExprTree A B C D E F array_item expr print_item section_part stmt case (ExprTree-F.Binary operator left right)

  pub fold_expr-Convert : (kind : ℕ) (operand : ExprTree) → e (expr_shape.Convert kind operand) ≡ expr (ExprTree-F.Convert kind (e operand))
  fold_expr-Convert kind operand = ap e (sym (expr_shape.rolls-Convert kind operand)) ∙ fold-roll-ExprTree A B C D E F array_item expr print_item section_part stmt case (ExprTree-F.Convert kind operand)

  pub fold_expr-Paren : (inner : ExprTree) → e (expr_shape.Paren inner) ≡ expr (ExprTree-F.Paren (e inner))
  fold_expr-Paren inner = ap e (sym (expr_shape.rolls-Paren inner)) ∙ fold-roll-ExprTree A B C D E F array_item expr print_item section_part stmt case (ExprTree-F.Paren inner)

  pub fold_expr-Invoke : (callee : List (List ℕ)) (arguments : List ExprTree) → e (expr_shape.Invoke callee arguments) ≡ expr (ExprTree-F.Invoke callee (map e arguments))
  fold_expr-Invoke callee arguments = ap e (sym (expr_shape.rolls-Invoke callee arguments)) ∙ fold-roll-ExprTree A B C D E F array_item expr print_item section_part stmt case (ExprTree-F.Invoke callee arguments)

  pub fold_expr-Intrinsic : (code : ℕ) (arguments : List ExprTree) → e (expr_shape.Intrinsic code arguments) ≡ expr (ExprTree-F.Intrinsic code (map e arguments))
  fold_expr-Intrinsic code arguments = ap e (sym (expr_shape.rolls-Intrinsic code arguments)) ∙ fold-roll-ExprTree A B C D E F array_item expr print_item section_part stmt case (ExprTree-F.Intrinsic code arguments)

  pub fold_expr-Construct : (definition : List (List ℕ)) (arguments : List ExprTree) → e (expr_shape.Construct definition arguments) ≡ expr (ExprTree-F.Construct definition (map e arguments))
  fold_expr-Construct definition arguments = ap e (sym (expr_shape.rolls-Construct definition arguments)) ∙ fold-roll-ExprTree A B C D E F array_item expr print_item section_part stmt case (ExprTree-F.Construct definition arguments)

  pub fold_expr-Array : (items : List ArrayItemTree) → e (expr_shape.Array items) ≡ expr (ExprTree-F.Array (map a items))
  fold_expr-Array items = ap e (sym (expr_shape.rolls-Array items)) ∙ fold-roll-ExprTree A B C D E F array_item expr print_item section_part stmt case (ExprTree-F.Array items)

  pub fold_expr-Temp : (number : ℕ) → e (expr_shape.Temp number) ≡ expr (ExprTree-F.Temp number)
  fold_expr-Temp number = ap e (sym (expr_shape.rolls-Temp number)) ∙ fold-roll-ExprTree A B C D E F array_item expr print_item section_part stmt case (ExprTree-F.Temp number)

  pub fold_expr-Extent : (symbol : List (List ℕ)) (dimension : ℕ) → e (expr_shape.Extent symbol dimension) ≡ expr (ExprTree-F.Extent symbol dimension)
  fold_expr-Extent symbol dimension = ap e (sym (expr_shape.rolls-Extent symbol dimension)) ∙ fold-roll-ExprTree A B C D E F array_item expr print_item section_part stmt case (ExprTree-F.Extent symbol dimension)

  pub fold_expr-Seq : (stmts : List StmtTree) (value : ExprTree) → e (expr_shape.Seq stmts value) ≡ expr (ExprTree-F.Seq (map s stmts) (e value))
  fold_expr-Seq stmts value = ap e (sym (expr_shape.rolls-Seq stmts value)) ∙ fold-roll-ExprTree A B C D E F array_item expr print_item section_part stmt case (ExprTree-F.Seq stmts value)

  pub fold_expr-TempAt : (number : ℕ) (place : ExprTree) → e (expr_shape.TempAt number place) ≡ expr (ExprTree-F.TempAt number (e place))
  fold_expr-TempAt number place = ap e (sym (expr_shape.rolls-TempAt number place)) ∙ fold-roll-ExprTree A B C D E F array_item expr print_item section_part stmt case (ExprTree-F.TempAt number place)

  pub fold_expr-SecLen : (lower : ExprTree) (upper : ExprTree) (step : ExprTree) (low : ExprTree) (high : ExprTree) → e (expr_shape.SecLen lower upper step low high) ≡ expr (ExprTree-F.SecLen (e lower) (e upper) (e step) (e low) (e high))
  fold_expr-SecLen lower upper step low high = ap e (sym (expr_shape.rolls-SecLen lower upper step low high)) ∙ fold-roll-ExprTree A B C D E F array_item expr print_item section_part stmt case (ExprTree-F.SecLen lower upper step low high)

  pub fold_expr-Arr : (number : ℕ) (element : ElemTree) (extents : List ExprTree) → e (expr_shape.Arr number element extents) ≡ expr (ExprTree-F.Arr number element (map e extents))
  fold_expr-Arr number element extents = ap e (sym (expr_shape.rolls-Arr number element extents)) ∙ fold-roll-ExprTree A B C D E F array_item expr print_item section_part stmt case (ExprTree-F.Arr number element extents)

  pub fold_expr-At : (source : List ℕ) (line : ℕ) (value : ExprTree) → e (expr_shape.At source line value) ≡ expr (ExprTree-F.«ExprTree::At» source line (e value))
  fold_expr-At source line value = ap e (sym (expr_shape.rolls-At source line value)) ∙ fold-roll-ExprTree A B C D E F array_item expr print_item section_part stmt case (ExprTree-F.«ExprTree::At» source line value)

  pub fold_print_item-Value : (value : ExprTree) → p (print_item_shape.Value value) ≡ print_item (PrintItemTree-F.«PrintItemTree::Value» (e value))
  fold_print_item-Value value = ap p (sym (print_item_shape.rolls-Value value)) ∙ fold-roll-PrintItemTree A B C D E F array_item expr print_item section_part stmt case (PrintItemTree-F.«PrintItemTree::Value» value)

  pub fold_print_item-Loop : (variable : ExprTree) (lower : ExprTree) (upper : ExprTree) (step : ExprTree) (items : List PrintItemTree) → p (print_item_shape.Loop variable lower upper step items) ≡ print_item (PrintItemTree-F.«PrintItemTree::Loop» (e variable) (e lower) (e upper) (e step) (map p items))
  fold_print_item-Loop variable lower upper step items = ap p (sym (print_item_shape.rolls-Loop variable lower upper step items)) ∙ fold-roll-PrintItemTree A B C D E F array_item expr print_item section_part stmt case (PrintItemTree-F.«PrintItemTree::Loop» variable lower upper step items)

  pub fold_section_part-At : (index : ExprTree) → q (section_part_shape.At index) ≡ section_part (SectionPartTree-F.«SectionPartTree::At» (e index))
  fold_section_part-At index = ap q (sym (section_part_shape.rolls-At index)) ∙ fold-roll-SectionPartTree A B C D E F array_item expr print_item section_part stmt case (SectionPartTree-F.«SectionPartTree::At» index)

  mapped_section_part-Triple : (lower : Option ExprTree) (upper : Option ExprTree) (step : Option ExprTree) → map-SectionPartTree ArrayItemTree ExprTree PrintItemTree SectionPartTree StmtTree CaseTree A B C D E F a e p q s c (SectionPartTree-F.Triple lower upper step) ≡ SectionPartTree-F.Triple (option_map e lower) (option_map e upper) (option_map e step)
  mapped_section_part-Triple None None None = refl
  mapped_section_part-Triple None None (Some step) = refl
  mapped_section_part-Triple None (Some upper) None = refl
  mapped_section_part-Triple None (Some upper) (Some step) = refl
  mapped_section_part-Triple (Some lower) None None = refl
  mapped_section_part-Triple (Some lower) None (Some step) = refl
  mapped_section_part-Triple (Some lower) (Some upper) None = refl
  mapped_section_part-Triple (Some lower) (Some upper) (Some step) = refl

  pub fold_section_part-Triple : (lower : Option ExprTree) (upper : Option ExprTree) (step : Option ExprTree) → q (section_part_shape.Triple lower upper step) ≡ section_part (SectionPartTree-F.Triple (option_map e lower) (option_map e upper) (option_map e step))
  fold_section_part-Triple lower upper step = ap q (sym (section_part_shape.rolls-Triple lower upper step)) ∙ fold-roll-SectionPartTree A B C D E F array_item expr print_item section_part stmt case (SectionPartTree-F.Triple lower upper step) ∙ ap section_part (mapped_section_part-Triple lower upper step)

  pub fold_stmt-Assign : (line : ℕ) (target : ExprTree) (value : ExprTree) → s (stmt_shape.Assign line target value) ≡ stmt (StmtTree-F.Assign line (e target) (e value))
  fold_stmt-Assign line target value = ap s (sym (stmt_shape.rolls-Assign line target value)) ∙ fold-roll-StmtTree A B C D E F array_item expr print_item section_part stmt case (StmtTree-F.Assign line target value)

  pub fold_stmt-If : (line : ℕ) (condition : ExprTree) (then_block : List StmtTree) (else_block : List StmtTree) → s (stmt_shape.If line condition then_block else_block) ≡ stmt (StmtTree-F.If line (e condition) (map s then_block) (map s else_block))
  fold_stmt-If line condition then_block else_block = ap s (sym (stmt_shape.rolls-If line condition then_block else_block)) ∙ fold-roll-StmtTree A B C D E F array_item expr print_item section_part stmt case (StmtTree-F.If line condition then_block else_block)

  pub fold_stmt-Do : (line : ℕ) (id : ℕ) (variable : ExprTree) (lower : ExprTree) (upper : ExprTree) (step : ExprTree) (body : List StmtTree) → s (stmt_shape.Do line id variable lower upper step body) ≡ stmt (StmtTree-F.Do line id (e variable) (e lower) (e upper) (e step) (map s body))
  fold_stmt-Do line id variable lower upper step body = ap s (sym (stmt_shape.rolls-Do line id variable lower upper step body)) ∙ fold-roll-StmtTree A B C D E F array_item expr print_item section_part stmt case (StmtTree-F.Do line id variable lower upper step body)

  pub fold_stmt-While : (line : ℕ) (id : ℕ) (condition : ExprTree) (body : List StmtTree) → s (stmt_shape.While line id condition body) ≡ stmt (StmtTree-F.While line id (e condition) (map s body))
  fold_stmt-While line id condition body = ap s (sym (stmt_shape.rolls-While line id condition body)) ∙ fold-roll-StmtTree A B C D E F array_item expr print_item section_part stmt case (StmtTree-F.While line id condition body)

  pub fold_stmt-Exit : (line : ℕ) (id : ℕ) → s (stmt_shape.Exit line id) ≡ stmt (StmtTree-F.Exit line id)
  fold_stmt-Exit line id = ap s (sym (stmt_shape.rolls-Exit line id)) ∙ fold-roll-StmtTree A B C D E F array_item expr print_item section_part stmt case (StmtTree-F.Exit line id)

  pub fold_stmt-Cycle : (line : ℕ) (id : ℕ) → s (stmt_shape.Cycle line id) ≡ stmt (StmtTree-F.Cycle line id)
  fold_stmt-Cycle line id = ap s (sym (stmt_shape.rolls-Cycle line id)) ∙ fold-roll-StmtTree A B C D E F array_item expr print_item section_part stmt case (StmtTree-F.Cycle line id)

  pub fold_stmt-Select : (line : ℕ) (value : ExprTree) (cases : List CaseTree) (default : List StmtTree) → s (stmt_shape.Select line value cases default) ≡ stmt (StmtTree-F.Select line (e value) (map c cases) (map s default))
  fold_stmt-Select line value cases default = ap s (sym (stmt_shape.rolls-Select line value cases default)) ∙ fold-roll-StmtTree A B C D E F array_item expr print_item section_part stmt case (StmtTree-F.Select line value cases default)

  pub fold_stmt-Call : (line : ℕ) (callee : List (List ℕ)) (arguments : List ExprTree) → s (stmt_shape.Call line callee arguments) ≡ stmt (StmtTree-F.Call line callee (map e arguments))
  fold_stmt-Call line callee arguments = ap s (sym (stmt_shape.rolls-Call line callee arguments)) ∙ fold-roll-StmtTree A B C D E F array_item expr print_item section_part stmt case (StmtTree-F.Call line callee arguments)

  pub fold_stmt-Print : (line : ℕ) (form : ℕ) (advance : ℕ) (items : List PrintItemTree) → s (stmt_shape.Print line form advance items) ≡ stmt (StmtTree-F.Print line form advance (map p items))
  fold_stmt-Print line form advance items = ap s (sym (stmt_shape.rolls-Print line form advance items)) ∙ fold-roll-StmtTree A B C D E F array_item expr print_item section_part stmt case (StmtTree-F.Print line form advance items)

  mapped_stmt-Read : (line : ℕ) (target : ExprTree) (iostat : Option ExprTree) → map-StmtTree ArrayItemTree ExprTree PrintItemTree SectionPartTree StmtTree CaseTree A B C D E F a e p q s c (StmtTree-F.Read line target iostat) ≡ StmtTree-F.Read line (e target) (option_map e iostat)
  mapped_stmt-Read line target None = refl
  mapped_stmt-Read line target (Some iostat) = refl

  pub fold_stmt-Read : (line : ℕ) (target : ExprTree) (iostat : Option ExprTree) → s (stmt_shape.Read line target iostat) ≡ stmt (StmtTree-F.Read line (e target) (option_map e iostat))
  fold_stmt-Read line target iostat = ap s (sym (stmt_shape.rolls-Read line target iostat)) ∙ fold-roll-StmtTree A B C D E F array_item expr print_item section_part stmt case (StmtTree-F.Read line target iostat) ∙ ap stmt (mapped_stmt-Read line target iostat)

  pub fold_stmt-Stop : (line : ℕ) (error : ℕ) (code : ExprTree) → s (stmt_shape.Stop line error code) ≡ stmt (StmtTree-F.Stop line error (e code))
  fold_stmt-Stop line error code = ap s (sym (stmt_shape.rolls-Stop line error code)) ∙ fold-roll-StmtTree A B C D E F array_item expr print_item section_part stmt case (StmtTree-F.Stop line error code)

  pub fold_stmt-Return : (line : ℕ) → s (stmt_shape.Return line) ≡ stmt (StmtTree-F.Return line)
  fold_stmt-Return line = ap s (sym (stmt_shape.rolls-Return line)) ∙ fold-roll-StmtTree A B C D E F array_item expr print_item section_part stmt case (StmtTree-F.Return line)

  pub fold_stmt-Block : (line : ℕ) (stmts : List StmtTree) → s (stmt_shape.Block line stmts) ≡ stmt (StmtTree-F.Block line (map s stmts))
  fold_stmt-Block line stmts = ap s (sym (stmt_shape.rolls-Block line stmts)) ∙ fold-roll-StmtTree A B C D E F array_item expr print_item section_part stmt case (StmtTree-F.Block line stmts)

  pub fold_stmt-Let : (line : ℕ) (number : ℕ) (value : ExprTree) → s (stmt_shape.Let line number value) ≡ stmt (StmtTree-F.Let line number (e value))
  fold_stmt-Let line number value = ap s (sym (stmt_shape.rolls-Let line number value)) ∙ fold-roll-StmtTree A B C D E F array_item expr print_item section_part stmt case (StmtTree-F.Let line number value)

  mapped_stmt-Room : (line : ℕ) (number : ℕ) (element : ElemTree) (len : Option ExprTree) (extents : List ExprTree) → map-StmtTree ArrayItemTree ExprTree PrintItemTree SectionPartTree StmtTree CaseTree A B C D E F a e p q s c (StmtTree-F.Room line number element len extents) ≡ StmtTree-F.Room line number element (option_map e len) (map e extents)
  mapped_stmt-Room line number element None extents = refl
  mapped_stmt-Room line number element (Some len) extents = refl

  pub fold_stmt-Room : (line : ℕ) (number : ℕ) (element : ElemTree) (len : Option ExprTree) (extents : List ExprTree) → s (stmt_shape.Room line number element len extents) ≡ stmt (StmtTree-F.Room line number element (option_map e len) (map e extents))
  fold_stmt-Room line number element len extents = ap s (sym (stmt_shape.rolls-Room line number element len extents)) ∙ fold-roll-StmtTree A B C D E F array_item expr print_item section_part stmt case (StmtTree-F.Room line number element len extents) ∙ ap stmt (mapped_stmt-Room line number element len extents)

  pub fold_stmt-Count : (line : ℕ) (number : ℕ) (bound : ExprTree) (body : List StmtTree) → s (stmt_shape.Count line number bound body) ≡ stmt (StmtTree-F.Count line number (e bound) (map s body))
  fold_stmt-Count line number bound body = ap s (sym (stmt_shape.rolls-Count line number bound body)) ∙ fold-roll-StmtTree A B C D E F array_item expr print_item section_part stmt case (StmtTree-F.Count line number bound body)

  pub fold_stmt-Same : (line : ℕ) (left : ExprTree) (right : ExprTree) → s (stmt_shape.Same line left right) ≡ stmt (StmtTree-F.Same line (e left) (e right))
  fold_stmt-Same line left right = ap s (sym (stmt_shape.rolls-Same line left right)) ∙ fold-roll-StmtTree A B C D E F array_item expr print_item section_part stmt case (StmtTree-F.Same line left right)

  pub fold_stmt-Probe : (line : ℕ) (designator : ExprTree) → s (stmt_shape.Probe line designator) ≡ stmt (StmtTree-F.Probe line (e designator))
  fold_stmt-Probe line designator = ap s (sym (stmt_shape.rolls-Probe line designator)) ∙ fold-roll-StmtTree A B C D E F array_item expr print_item section_part stmt case (StmtTree-F.Probe line designator)

  pub fold_stmt-Begin : (line : ℕ) (number : ℕ) → s (stmt_shape.Begin line number) ≡ stmt (StmtTree-F.Begin line number)
  fold_stmt-Begin line number = ap s (sym (stmt_shape.rolls-Begin line number)) ∙ fold-roll-StmtTree A B C D E F array_item expr print_item section_part stmt case (StmtTree-F.Begin line number)

  pub fold_stmt-Put : (line : ℕ) (number : ℕ) (value : ExprTree) → s (stmt_shape.Put line number value) ≡ stmt (StmtTree-F.Put line number (e value))
  fold_stmt-Put line number value = ap s (sym (stmt_shape.rolls-Put line number value)) ∙ fold-roll-StmtTree A B C D E F array_item expr print_item section_part stmt case (StmtTree-F.Put line number value)

  pub fold_stmt-End : (line : ℕ) → s (stmt_shape.End line) ≡ stmt (StmtTree-F.End line)
  fold_stmt-End line = ap s (sym (stmt_shape.rolls-End line)) ∙ fold-roll-StmtTree A B C D E F array_item expr print_item section_part stmt case (StmtTree-F.End line)

  pub fold_case : (block : CaseTree) → c block ≡ case (record { ranges = block.ranges; body = map s block.body })
  fold_case block = fold-roll-CaseTree A B C D E F array_item expr print_item section_part stmt case (record { ranges = block.ranges; body = block.body })
