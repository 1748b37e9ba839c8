-- The text of each shape, and what the printing functions cite.
use Rattle.std.proofs.Common.{◌≡◌, ℕ, List, [], ◌∷◌, codes}
use Rattle.std.proofs.lemmas.Grind.{common_steps}
use Rattle.std.proofs.lemmas.List.{nil_from_length}
use Rattle.lf_base.proofs.Chains.{chains, looping}
use Rattle.lf_base.specs.Contents.{joined}
use Rattle.lf_base.specs.declared.name.Name.{Name}
use Rattle.c_nodes.specs.declared.tree.CBinary.{CBinary}
use Rattle.c_nodes.specs.declared.tree.CType.{CType}
use Rattle.c_nodes.specs.declared.tree.CExpr.{CExpr}
use Rattle.c_nodes.specs.declared.tree.CExpr.TheVariants.{Variable, Index, Member, Constant, Greatest, Least, Paren, Negate, Not, Binary, Cast, ToInt, Address, Literal}
use Rattle.c_nodes.specs.declared.tree.CStmt.{CStmt}
use Rattle.c_nodes.specs.declared.tree.CStmt.TheVariants.{Declare, DeclareArray, DeclareValue, DeclarePointer, DeclareCall, Assign, AssignCall, Call, Return, ReturnValue, ReturnCall, Goto, Label, Block, While, If, IfElse}
use Rattle.c_nodes.specs.Text.{operator_text, constant_text, literal_text, subscript_text, member_text, cast_text, expr_layer, expr_text, array_text, returned_text, returned_call_text, plain_text, initialized_text, initialized_pointer_text, initialized_by_text, assigned_text, assigned_by_text, called_text, goto_text, label_text, opened_text, closed_text, guarded_text, else_text, stmt_layer, stmt_text, stmt_texts}
use Rattle.c_nodes.proofs.ExprInduction as expressions
use Rattle.c_nodes.proofs.StmtInduction as statements

pub expr_text-Variable : (name : Name) → expr_text (Variable name) ≡ name
expr_text-Variable name = expressions.fold-Variable (List ℕ) expr_layer name

pub expr_text-Index : (base : CExpr) (subscript : CExpr) → expr_text (Index base subscript) ≡ joined (expr_text base ∷ subscript_text (expr_text subscript) ∷ [])
expr_text-Index base subscript = expressions.fold-Index (List ℕ) expr_layer base subscript

pub expr_text-Member : (base : CExpr) (name : Name) → expr_text (Member base name) ≡ joined (expr_text base ∷ member_text name ∷ [])
expr_text-Member base name = expressions.fold-Member (List ℕ) expr_layer base name

pub expr_text-Constant : (value : ℕ) → expr_text (Constant value) ≡ constant_text value
expr_text-Constant value = expressions.fold-Constant (List ℕ) expr_layer value

pub expr_text-Greatest : expr_text Greatest ≡ codes "INT64_MAX"
expr_text-Greatest = expressions.fold-Greatest (List ℕ) expr_layer

pub expr_text-Least : expr_text Least ≡ codes "INT64_MIN"
expr_text-Least = expressions.fold-Least (List ℕ) expr_layer

pub expr_text-Paren : (inner : CExpr) → expr_text (Paren inner) ≡ joined (joined (codes "(" ∷ expr_text inner ∷ []) ∷ codes ")" ∷ [])
expr_text-Paren inner = expressions.fold-Paren (List ℕ) expr_layer inner

pub expr_text-Negate : (operand : CExpr) → expr_text (Negate operand) ≡ joined (codes "-" ∷ expr_text operand ∷ [])
expr_text-Negate operand = expressions.fold-Negate (List ℕ) expr_layer operand

pub expr_text-Not : (operand : CExpr) → expr_text (Not operand) ≡ joined (codes "!" ∷ expr_text operand ∷ [])
expr_text-Not operand = expressions.fold-Not (List ℕ) expr_layer operand

pub expr_text-Binary : (operator : CBinary) (left : CExpr) (right : CExpr) → expr_text (Binary operator left right) ≡ joined (expr_text left ∷ operator_text operator ∷ expr_text right ∷ [])
expr_text-Binary operator left right = expressions.fold-Binary (List ℕ) expr_layer operator left right

pub expr_text-Cast : (kind : CType) (operand : CExpr) → expr_text (Cast kind operand) ≡ cast_text kind (expr_text operand)
expr_text-Cast kind operand = expressions.fold-Cast (List ℕ) expr_layer kind operand

pub expr_text-ToInt : (operand : CExpr) → expr_text (ToInt operand) ≡ joined (codes "(int)" ∷ expr_text operand ∷ [])
expr_text-ToInt operand = expressions.fold-ToInt (List ℕ) expr_layer operand

pub expr_text-Address : (place : CExpr) → expr_text (Address place) ≡ joined (codes "&" ∷ expr_text place ∷ [])
expr_text-Address place = expressions.fold-Address (List ℕ) expr_layer place

pub expr_text-Literal : (bytes : List ℕ) → expr_text (Literal bytes) ≡ literal_text bytes
expr_text-Literal bytes = expressions.fold-Literal (List ℕ) expr_layer bytes

pub stmt_text-Declare : (kind : CType) (name : Name) → stmt_text (Declare kind name) ≡ plain_text kind name
stmt_text-Declare kind name = statements.fold-Declare (List ℕ) stmt_layer kind name

pub stmt_text-DeclareArray : (kind : CType) (name : Name) (size : CExpr) → stmt_text (DeclareArray kind name size) ≡ array_text kind name size
stmt_text-DeclareArray kind name size = statements.fold-DeclareArray (List ℕ) stmt_layer kind name size

pub stmt_text-DeclareValue : (kind : CType) (name : Name) (value : CExpr) → stmt_text (DeclareValue kind name value) ≡ initialized_text kind name value
stmt_text-DeclareValue kind name value = statements.fold-DeclareValue (List ℕ) stmt_layer kind name value

pub stmt_text-DeclarePointer : (kind : CType) (name : Name) (value : CExpr) → stmt_text (DeclarePointer kind name value) ≡ initialized_pointer_text kind name value
stmt_text-DeclarePointer kind name value = statements.fold-DeclarePointer (List ℕ) stmt_layer kind name value

pub stmt_text-DeclareCall : (kind : CType) (name : Name) (callee : Name) (arguments : List CExpr) → stmt_text (DeclareCall kind name callee arguments) ≡ initialized_by_text kind name callee arguments
stmt_text-DeclareCall kind name callee arguments = statements.fold-DeclareCall (List ℕ) stmt_layer kind name callee arguments

pub stmt_text-Assign : (target : CExpr) (value : CExpr) → stmt_text (Assign target value) ≡ assigned_text target value
stmt_text-Assign target value = statements.fold-Assign (List ℕ) stmt_layer target value

pub stmt_text-AssignCall : (target : CExpr) (callee : Name) (arguments : List CExpr) → stmt_text (AssignCall target callee arguments) ≡ assigned_by_text target callee arguments
stmt_text-AssignCall target callee arguments = statements.fold-AssignCall (List ℕ) stmt_layer target callee arguments

pub stmt_text-Call : (callee : Name) (arguments : List CExpr) → stmt_text (Call callee arguments) ≡ called_text callee arguments
stmt_text-Call callee arguments = statements.fold-Call (List ℕ) stmt_layer callee arguments

pub stmt_text-Return : stmt_text Return ≡ codes "return;\n"
stmt_text-Return = statements.fold-Return (List ℕ) stmt_layer

pub stmt_text-ReturnValue : (value : CExpr) → stmt_text (ReturnValue value) ≡ returned_text value
stmt_text-ReturnValue value = statements.fold-ReturnValue (List ℕ) stmt_layer value

pub stmt_text-ReturnCall : (callee : Name) (arguments : List CExpr) → stmt_text (ReturnCall callee arguments) ≡ returned_call_text callee arguments
stmt_text-ReturnCall callee arguments = statements.fold-ReturnCall (List ℕ) stmt_layer callee arguments

pub stmt_text-Goto : (label : Name) → stmt_text (Goto label) ≡ goto_text label
stmt_text-Goto label = statements.fold-Goto (List ℕ) stmt_layer label

pub stmt_text-Label : (name : Name) → stmt_text (Label name) ≡ label_text name
stmt_text-Label name = statements.fold-Label (List ℕ) stmt_layer name

pub stmt_text-Block : (body : List CStmt) → stmt_text (Block body) ≡ joined (codes "{\n" ∷ closed_text (stmt_texts body) ∷ [])
stmt_text-Block body = statements.fold-Block (List ℕ) stmt_layer body

pub stmt_text-While : (test : CExpr) (body : List CStmt) → stmt_text (While test body) ≡ guarded_text (codes "while (") test (stmt_texts body)
stmt_text-While test body = statements.fold-While (List ℕ) stmt_layer test body

pub stmt_text-If : (test : CExpr) (then_body : List CStmt) → stmt_text (If test then_body) ≡ guarded_text (codes "if (") test (stmt_texts then_body)
stmt_text-If test then_body = statements.fold-If (List ℕ) stmt_layer test then_body

pub stmt_text-IfElse : (test : CExpr) (then_body : List CStmt) (else_body : List CStmt) → stmt_text (IfElse test then_body else_body) ≡ joined (opened_text (codes "if (") test ∷ joined (stmt_texts then_body) ∷ else_text (stmt_texts else_body) ∷ [])
stmt_text-IfElse test then_body else_body = statements.fold-IfElse (List ℕ) stmt_layer test then_body else_body

pub ruleset shapes = (expr_text-Variable, expr_text-Index, expr_text-Member, expr_text-Constant, expr_text-Greatest, expr_text-Least, expr_text-Paren, expr_text-Negate, expr_text-Not, expr_text-Binary, expr_text-Cast, expr_text-ToInt, expr_text-Address, expr_text-Literal, stmt_text-Declare, stmt_text-DeclareArray, stmt_text-DeclareValue, stmt_text-DeclarePointer, stmt_text-DeclareCall, stmt_text-Assign, stmt_text-AssignCall, stmt_text-Call, stmt_text-Return, stmt_text-ReturnValue, stmt_text-ReturnCall, stmt_text-Goto, stmt_text-Label, stmt_text-Block, stmt_text-While, stmt_text-If, stmt_text-IfElse)

pub ruleset texts = (chains, shapes)

pub ruleset listing = (chains, nil_from_length)

pub ruleset loops = (common_steps, looping)
