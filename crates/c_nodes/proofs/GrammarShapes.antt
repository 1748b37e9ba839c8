-- What each shape is in the grammar, by what its parts are.
use Rattle.std.proofs.Common.{◌≡◌, ℕ, Bool, true, ◌&&◌, nat_lt, List, map}
use Rattle.std.specs.List.{list_all}
use Rattle.lf_base.specs.declared.name.Name.{Name}
use Rattle.c_nodes.specs.declared.tree.CBinary.{CBinary}
use Rattle.c_nodes.specs.declared.tree.CType.{CType}
use Rattle.c_nodes.specs.declared.tree.CExpr.{CExpr}
use Rattle.c_nodes.specs.declared.tree.CExpr.TheVariants.{Variable, Index, Member, Constant, Greatest, Least, Paren, Negate, Not, Binary, Cast, ToInt, Address, Literal}
use Rattle.c_nodes.specs.declared.tree.CStmt.{CStmt}
use Rattle.c_nodes.specs.declared.tree.CStmt.TheVariants.{Declare, DeclareArray, DeclareValue, DeclarePointer, DeclareCall, Assign, AssignCall, Call, Return, ReturnValue, ReturnCall, Goto, Label, Block, While, If, IfElse}
use Rattle.c_nodes.specs.Grammar.{is_name, is_type, is_constant, Standing, Lvalue, Operand, Whole, is_lvalue, is_operand, is_whole, standing_if, standing_layer, standing_of, is_expr, is_target, is_call, is_block, stmt_layer, is_stmt, Mark, IsLabel, IsOther, other_if, are_last, mark_layer, mark_of}
use Rattle.c_nodes.proofs.ExprInduction as expressions
use Rattle.c_nodes.proofs.StmtInduction as statements

pub standing_of-Variable : (name : Name) → standing_of (Variable name) ≡ standing_if (is_name name) Lvalue
standing_of-Variable name = expressions.fold-Variable Standing standing_layer name

pub standing_of-Index : (base : CExpr) (subscript : CExpr) → standing_of (Index base subscript) ≡ standing_if (is_lvalue (standing_of base) && is_whole (standing_of subscript)) Lvalue
standing_of-Index base subscript = expressions.fold-Index Standing standing_layer base subscript

pub standing_of-Member : (base : CExpr) (name : Name) → standing_of (Member base name) ≡ standing_if (is_lvalue (standing_of base) && is_name name) Lvalue
standing_of-Member base name = expressions.fold-Member Standing standing_layer base name

pub standing_of-Constant : (value : ℕ) → standing_of (Constant value) ≡ standing_if (is_constant value) Operand
standing_of-Constant value = expressions.fold-Constant Standing standing_layer value

pub standing_of-Greatest : standing_of Greatest ≡ Operand
standing_of-Greatest = expressions.fold-Greatest Standing standing_layer

pub standing_of-Least : standing_of Least ≡ Operand
standing_of-Least = expressions.fold-Least Standing standing_layer

pub standing_of-Paren : (inner : CExpr) → standing_of (Paren inner) ≡ standing_if (is_whole (standing_of inner)) Operand
standing_of-Paren inner = expressions.fold-Paren Standing standing_layer inner

pub standing_of-Negate : (operand : CExpr) → standing_of (Negate operand) ≡ standing_if (is_operand (standing_of operand)) Whole
standing_of-Negate operand = expressions.fold-Negate Standing standing_layer operand

pub standing_of-Not : (operand : CExpr) → standing_of (Not operand) ≡ standing_if (is_operand (standing_of operand)) Whole
standing_of-Not operand = expressions.fold-Not Standing standing_layer operand

pub standing_of-Binary : (operator : CBinary) (left : CExpr) (right : CExpr) → standing_of (Binary operator left right) ≡ standing_if (is_operand (standing_of left) && is_operand (standing_of right)) Whole
standing_of-Binary operator left right = expressions.fold-Binary Standing standing_layer operator left right

pub standing_of-Cast : (kind : CType) (operand : CExpr) → standing_of (Cast kind operand) ≡ standing_if (is_type kind && is_operand (standing_of operand)) Whole
standing_of-Cast kind operand = expressions.fold-Cast Standing standing_layer kind operand

pub standing_of-ToInt : (operand : CExpr) → standing_of (ToInt operand) ≡ standing_if (is_operand (standing_of operand)) Whole
standing_of-ToInt operand = expressions.fold-ToInt Standing standing_layer operand

pub standing_of-Address : (place : CExpr) → standing_of (Address place) ≡ standing_if (is_lvalue (standing_of place)) Whole
standing_of-Address place = expressions.fold-Address Standing standing_layer place

pub standing_of-Literal : (bytes : List ℕ) → standing_of (Literal bytes) ≡ standing_if (list_all (λ byte. nat_lt byte 256) bytes) Whole
standing_of-Literal bytes = expressions.fold-Literal Standing standing_layer bytes

pub is_stmt-Declare : (kind : CType) (name : Name) → is_stmt (Declare kind name) ≡ is_type kind && is_name name
is_stmt-Declare kind name = statements.fold-Declare Bool stmt_layer kind name

pub is_stmt-DeclareArray : (kind : CType) (name : Name) (size : CExpr) → is_stmt (DeclareArray kind name size) ≡ is_type kind && is_name name && is_expr size
is_stmt-DeclareArray kind name size = statements.fold-DeclareArray Bool stmt_layer kind name size

pub is_stmt-DeclareValue : (kind : CType) (name : Name) (value : CExpr) → is_stmt (DeclareValue kind name value) ≡ is_type kind && is_name name && is_expr value
is_stmt-DeclareValue kind name value = statements.fold-DeclareValue Bool stmt_layer kind name value

pub is_stmt-DeclarePointer : (kind : CType) (name : Name) (value : CExpr) → is_stmt (DeclarePointer kind name value) ≡ is_type kind && is_name name && is_expr value
is_stmt-DeclarePointer kind name value = statements.fold-DeclarePointer Bool stmt_layer kind name value

pub is_stmt-DeclareCall : (kind : CType) (name : Name) (callee : Name) (arguments : List CExpr) → is_stmt (DeclareCall kind name callee arguments) ≡ is_type kind && is_name name && is_call callee arguments
is_stmt-DeclareCall kind name callee arguments = statements.fold-DeclareCall Bool stmt_layer kind name callee arguments

pub is_stmt-Assign : (target : CExpr) (value : CExpr) → is_stmt (Assign target value) ≡ is_target target && is_expr value
is_stmt-Assign target value = statements.fold-Assign Bool stmt_layer target value

pub is_stmt-AssignCall : (target : CExpr) (callee : Name) (arguments : List CExpr) → is_stmt (AssignCall target callee arguments) ≡ is_target target && is_call callee arguments
is_stmt-AssignCall target callee arguments = statements.fold-AssignCall Bool stmt_layer target callee arguments

pub is_stmt-Call : (callee : Name) (arguments : List CExpr) → is_stmt (Call callee arguments) ≡ is_call callee arguments
is_stmt-Call callee arguments = statements.fold-Call Bool stmt_layer callee arguments

pub is_stmt-Return : is_stmt Return ≡ true
is_stmt-Return = statements.fold-Return Bool stmt_layer

pub is_stmt-ReturnValue : (value : CExpr) → is_stmt (ReturnValue value) ≡ is_expr value
is_stmt-ReturnValue value = statements.fold-ReturnValue Bool stmt_layer value

pub is_stmt-ReturnCall : (callee : Name) (arguments : List CExpr) → is_stmt (ReturnCall callee arguments) ≡ is_call callee arguments
is_stmt-ReturnCall callee arguments = statements.fold-ReturnCall Bool stmt_layer callee arguments

pub is_stmt-Goto : (label : Name) → is_stmt (Goto label) ≡ is_name label
is_stmt-Goto label = statements.fold-Goto Bool stmt_layer label

pub is_stmt-Label : (name : Name) → is_stmt (Label name) ≡ is_name name
is_stmt-Label name = statements.fold-Label Bool stmt_layer name

pub is_stmt-Block : (body : List CStmt) → is_stmt (Block body) ≡ is_block (map is_stmt body)
is_stmt-Block body = statements.fold-Block Bool stmt_layer body

pub is_stmt-While : (test : CExpr) (body : List CStmt) → is_stmt (While test body) ≡ is_expr test && is_block (map is_stmt body)
is_stmt-While test body = statements.fold-While Bool stmt_layer test body

pub is_stmt-If : (test : CExpr) (then_body : List CStmt) → is_stmt (If test then_body) ≡ is_expr test && is_block (map is_stmt then_body)
is_stmt-If test then_body = statements.fold-If Bool stmt_layer test then_body

pub is_stmt-IfElse : (test : CExpr) (then_body : List CStmt) (else_body : List CStmt) → is_stmt (IfElse test then_body else_body) ≡ is_expr test && is_block (map is_stmt then_body) && is_block (map is_stmt else_body)
is_stmt-IfElse test then_body else_body = statements.fold-IfElse Bool stmt_layer test then_body else_body

pub mark_of-Declare : (kind : CType) (name : Name) → mark_of (Declare kind name) ≡ IsOther
mark_of-Declare kind name = statements.fold-Declare Mark mark_layer kind name

pub mark_of-DeclareArray : (kind : CType) (name : Name) (size : CExpr) → mark_of (DeclareArray kind name size) ≡ IsOther
mark_of-DeclareArray kind name size = statements.fold-DeclareArray Mark mark_layer kind name size

pub mark_of-DeclareValue : (kind : CType) (name : Name) (value : CExpr) → mark_of (DeclareValue kind name value) ≡ IsOther
mark_of-DeclareValue kind name value = statements.fold-DeclareValue Mark mark_layer kind name value

pub mark_of-DeclarePointer : (kind : CType) (name : Name) (value : CExpr) → mark_of (DeclarePointer kind name value) ≡ IsOther
mark_of-DeclarePointer kind name value = statements.fold-DeclarePointer Mark mark_layer kind name value

pub mark_of-DeclareCall : (kind : CType) (name : Name) (callee : Name) (arguments : List CExpr) → mark_of (DeclareCall kind name callee arguments) ≡ IsOther
mark_of-DeclareCall kind name callee arguments = statements.fold-DeclareCall Mark mark_layer kind name callee arguments

pub mark_of-Assign : (target : CExpr) (value : CExpr) → mark_of (Assign target value) ≡ IsOther
mark_of-Assign target value = statements.fold-Assign Mark mark_layer target value

pub mark_of-AssignCall : (target : CExpr) (callee : Name) (arguments : List CExpr) → mark_of (AssignCall target callee arguments) ≡ IsOther
mark_of-AssignCall target callee arguments = statements.fold-AssignCall Mark mark_layer target callee arguments

pub mark_of-Call : (callee : Name) (arguments : List CExpr) → mark_of (Call callee arguments) ≡ IsOther
mark_of-Call callee arguments = statements.fold-Call Mark mark_layer callee arguments

pub mark_of-Return : mark_of Return ≡ IsOther
mark_of-Return = statements.fold-Return Mark mark_layer

pub mark_of-ReturnValue : (value : CExpr) → mark_of (ReturnValue value) ≡ IsOther
mark_of-ReturnValue value = statements.fold-ReturnValue Mark mark_layer value

pub mark_of-ReturnCall : (callee : Name) (arguments : List CExpr) → mark_of (ReturnCall callee arguments) ≡ IsOther
mark_of-ReturnCall callee arguments = statements.fold-ReturnCall Mark mark_layer callee arguments

pub mark_of-Goto : (label : Name) → mark_of (Goto label) ≡ IsOther
mark_of-Goto label = statements.fold-Goto Mark mark_layer label

pub mark_of-Label : (name : Name) → mark_of (Label name) ≡ IsLabel
mark_of-Label name = statements.fold-Label Mark mark_layer name

pub mark_of-Block : (body : List CStmt) → mark_of (Block body) ≡ other_if (are_last (map mark_of body))
mark_of-Block body = statements.fold-Block Mark mark_layer body

pub mark_of-While : (test : CExpr) (body : List CStmt) → mark_of (While test body) ≡ other_if (are_last (map mark_of body))
mark_of-While test body = statements.fold-While Mark mark_layer test body

pub mark_of-If : (test : CExpr) (then_body : List CStmt) → mark_of (If test then_body) ≡ other_if (are_last (map mark_of then_body))
mark_of-If test then_body = statements.fold-If Mark mark_layer test then_body

pub mark_of-IfElse : (test : CExpr) (then_body : List CStmt) (else_body : List CStmt) → mark_of (IfElse test then_body else_body) ≡ other_if (are_last (map mark_of then_body) && are_last (map mark_of else_body))
mark_of-IfElse test then_body else_body = statements.fold-IfElse Mark mark_layer test then_body else_body

pub ruleset marks = (mark_of-Declare, mark_of-DeclareArray, mark_of-DeclareValue, mark_of-DeclarePointer, mark_of-DeclareCall, mark_of-Assign, mark_of-AssignCall, mark_of-Call, mark_of-Return, mark_of-ReturnValue, mark_of-ReturnCall, mark_of-Goto, mark_of-Label, mark_of-Block, mark_of-While, mark_of-If, mark_of-IfElse)

pub ruleset standings = (standing_of-Variable, standing_of-Index, standing_of-Member, standing_of-Constant, standing_of-Greatest, standing_of-Least, standing_of-Paren, standing_of-Negate, standing_of-Not, standing_of-Binary, standing_of-Cast, standing_of-ToInt, standing_of-Address, standing_of-Literal, is_stmt-Declare, is_stmt-DeclareArray, is_stmt-DeclareValue, is_stmt-DeclarePointer, is_stmt-DeclareCall, is_stmt-Assign, is_stmt-AssignCall, is_stmt-Call, is_stmt-Return, is_stmt-ReturnValue, is_stmt-ReturnCall, is_stmt-Goto, is_stmt-Label, is_stmt-Block, is_stmt-While, is_stmt-If, is_stmt-IfElse)
