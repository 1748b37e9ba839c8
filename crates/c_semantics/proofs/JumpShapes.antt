-- The labels and jumps of each shape of a statement, by those of its parts, and of statements that have none.
use Rattle.std.proofs.Common.{◌≡◌, Bool, true, false, ◌&&◌, List, [], ◌∷◌, ◌++◌, map}
use Rattle.std.specs.Prelude.{ℕ, not}
use Rattle.std.specs.List.{list_any}
use Rattle.std.specs.Str.{bytes_eq}
use Rattle.lf_base.specs.declared.name.Name.{Name}
use Rattle.c_nodes.specs.declared.tree.CType.{CType}
use Rattle.c_nodes.specs.declared.tree.CExpr.{CExpr}
use Rattle.c_nodes.specs.declared.tree.CExpr.TheVariants.{Variable, Constant}
use Rattle.c_nodes.specs.declared.tree.CStmt.{CStmt}
use Rattle.c_nodes.specs.declared.tree.CStmt.TheVariants.{Declare, DeclareArray, DeclareValue, DeclarePointer, DeclareCall, Assign, AssignCall, Call, Return, ReturnValue, ReturnCall, Goto, Label, Block, While, If, IfElse}
use Rattle.c_semantics.specs.Program.{Jumps, no_jump, inner_jumps, lead_in, constant_layer, is_constant, jumps_layer, jumps, all_labels, labels_layer, labels}
use Rattle.c_nodes.proofs.ExprInduction as expressions
use Rattle.c_nodes.proofs.StmtInduction as statements

pub is_constant-Constant : (value : ℕ) → is_constant (Constant value) ≡ true
is_constant-Constant value = expressions.fold-Constant Bool constant_layer value

pub is_constant-Variable : (name : Name) → is_constant (Variable name) ≡ false
is_constant-Variable name = expressions.fold-Variable Bool constant_layer name

pub jumps-Declare : (kind : CType) (name : Name) → jumps (Declare kind name) ≡ no_jump false
jumps-Declare kind name = statements.fold-Declare Jumps jumps_layer kind name

pub jumps-DeclareArray : (kind : CType) (name : Name) (size : CExpr) → jumps (DeclareArray kind name size) ≡ no_jump (not (is_constant size))
jumps-DeclareArray kind name size = statements.fold-DeclareArray Jumps jumps_layer kind name size

pub jumps-DeclareValue : (kind : CType) (name : Name) (value : CExpr) → jumps (DeclareValue kind name value) ≡ no_jump false
jumps-DeclareValue kind name value = statements.fold-DeclareValue Jumps jumps_layer kind name value

pub jumps-DeclarePointer : (kind : CType) (name : Name) (value : CExpr) → jumps (DeclarePointer kind name value) ≡ no_jump false
jumps-DeclarePointer kind name value = statements.fold-DeclarePointer Jumps jumps_layer kind name value

pub jumps-DeclareCall : (kind : CType) (name : Name) (callee : Name) (arguments : List CExpr) → jumps (DeclareCall kind name callee arguments) ≡ no_jump false
jumps-DeclareCall kind name callee arguments = statements.fold-DeclareCall Jumps jumps_layer kind name callee arguments

pub jumps-Assign : (target : CExpr) (value : CExpr) → jumps (Assign target value) ≡ no_jump false
jumps-Assign target value = statements.fold-Assign Jumps jumps_layer target value

pub jumps-AssignCall : (target : CExpr) (callee : Name) (arguments : List CExpr) → jumps (AssignCall target callee arguments) ≡ no_jump false
jumps-AssignCall target callee arguments = statements.fold-AssignCall Jumps jumps_layer target callee arguments

pub jumps-Call : (callee : Name) (arguments : List CExpr) → jumps (Call callee arguments) ≡ no_jump false
jumps-Call callee arguments = statements.fold-Call Jumps jumps_layer callee arguments

pub jumps-Return : jumps Return ≡ no_jump false
jumps-Return = statements.fold-Return Jumps jumps_layer

pub jumps-ReturnValue : (value : CExpr) → jumps (ReturnValue value) ≡ no_jump false
jumps-ReturnValue value = statements.fold-ReturnValue Jumps jumps_layer value

pub jumps-ReturnCall : (callee : Name) (arguments : List CExpr) → jumps (ReturnCall callee arguments) ≡ no_jump false
jumps-ReturnCall callee arguments = statements.fold-ReturnCall Jumps jumps_layer callee arguments

pub jumps-Goto : (label : Name) → jumps (Goto label) ≡ inner_jumps (λ outer. list_any (bytes_eq label) outer)
jumps-Goto label = statements.fold-Goto Jumps jumps_layer label

pub jumps-Label : (name : Name) → jumps (Label name) ≡ record { label = name ∷ []; is_variable = false; lead = λ outer. true }
jumps-Label name = statements.fold-Label Jumps jumps_layer name

pub jumps-Block : (body : List CStmt) → jumps (Block body) ≡ inner_jumps (lead_in (map jumps body))
jumps-Block body = statements.fold-Block Jumps jumps_layer body

pub jumps-While : (test : CExpr) (body : List CStmt) → jumps (While test body) ≡ inner_jumps (lead_in (map jumps body))
jumps-While test body = statements.fold-While Jumps jumps_layer test body

pub jumps-If : (test : CExpr) (then_body : List CStmt) → jumps (If test then_body) ≡ inner_jumps (lead_in (map jumps then_body))
jumps-If test then_body = statements.fold-If Jumps jumps_layer test then_body

pub jumps-IfElse : (test : CExpr) (then_body : List CStmt) (else_body : List CStmt) → jumps (IfElse test then_body else_body) ≡ inner_jumps (λ outer. lead_in (map jumps then_body) outer && lead_in (map jumps else_body) outer)
jumps-IfElse test then_body else_body = statements.fold-IfElse Jumps jumps_layer test then_body else_body

pub labels-Declare : (kind : CType) (name : Name) → labels (Declare kind name) ≡ []
labels-Declare kind name = statements.fold-Declare (List (List ℕ)) labels_layer kind name

pub labels-DeclareArray : (kind : CType) (name : Name) (size : CExpr) → labels (DeclareArray kind name size) ≡ []
labels-DeclareArray kind name size = statements.fold-DeclareArray (List (List ℕ)) labels_layer kind name size

pub labels-DeclareValue : (kind : CType) (name : Name) (value : CExpr) → labels (DeclareValue kind name value) ≡ []
labels-DeclareValue kind name value = statements.fold-DeclareValue (List (List ℕ)) labels_layer kind name value

pub labels-DeclarePointer : (kind : CType) (name : Name) (value : CExpr) → labels (DeclarePointer kind name value) ≡ []
labels-DeclarePointer kind name value = statements.fold-DeclarePointer (List (List ℕ)) labels_layer kind name value

pub labels-DeclareCall : (kind : CType) (name : Name) (callee : Name) (arguments : List CExpr) → labels (DeclareCall kind name callee arguments) ≡ []
labels-DeclareCall kind name callee arguments = statements.fold-DeclareCall (List (List ℕ)) labels_layer kind name callee arguments

pub labels-Assign : (target : CExpr) (value : CExpr) → labels (Assign target value) ≡ []
labels-Assign target value = statements.fold-Assign (List (List ℕ)) labels_layer target value

pub labels-AssignCall : (target : CExpr) (callee : Name) (arguments : List CExpr) → labels (AssignCall target callee arguments) ≡ []
labels-AssignCall target callee arguments = statements.fold-AssignCall (List (List ℕ)) labels_layer target callee arguments

pub labels-Call : (callee : Name) (arguments : List CExpr) → labels (Call callee arguments) ≡ []
labels-Call callee arguments = statements.fold-Call (List (List ℕ)) labels_layer callee arguments

pub labels-Return : labels Return ≡ []
labels-Return = statements.fold-Return (List (List ℕ)) labels_layer

pub labels-ReturnValue : (value : CExpr) → labels (ReturnValue value) ≡ []
labels-ReturnValue value = statements.fold-ReturnValue (List (List ℕ)) labels_layer value

pub labels-ReturnCall : (callee : Name) (arguments : List CExpr) → labels (ReturnCall callee arguments) ≡ []
labels-ReturnCall callee arguments = statements.fold-ReturnCall (List (List ℕ)) labels_layer callee arguments

pub labels-Goto : (label : Name) → labels (Goto label) ≡ []
labels-Goto label = statements.fold-Goto (List (List ℕ)) labels_layer label

pub labels-Label : (name : Name) → labels (Label name) ≡ name ∷ []
labels-Label name = statements.fold-Label (List (List ℕ)) labels_layer name

pub labels-Block : (body : List CStmt) → labels (Block body) ≡ all_labels (map labels body)
labels-Block body = statements.fold-Block (List (List ℕ)) labels_layer body

pub labels-While : (test : CExpr) (body : List CStmt) → labels (While test body) ≡ all_labels (map labels body)
labels-While test body = statements.fold-While (List (List ℕ)) labels_layer test body

pub labels-If : (test : CExpr) (then_body : List CStmt) → labels (If test then_body) ≡ all_labels (map labels then_body)
labels-If test then_body = statements.fold-If (List (List ℕ)) labels_layer test then_body

pub labels-IfElse : (test : CExpr) (then_body : List CStmt) (else_body : List CStmt) → labels (IfElse test then_body else_body) ≡ all_labels (map labels then_body) ++ all_labels (map labels else_body)
labels-IfElse test then_body else_body = statements.fold-IfElse (List (List ℕ)) labels_layer test then_body else_body

pub ruleset jumping = (is_constant-Constant, is_constant-Variable, jumps-Declare, jumps-DeclareArray, jumps-DeclareValue, jumps-DeclarePointer, jumps-DeclareCall, jumps-Assign, jumps-AssignCall, jumps-Call, jumps-Return, jumps-ReturnValue, jumps-ReturnCall, jumps-Goto, jumps-Label, jumps-Block, jumps-While, jumps-If, jumps-IfElse, labels-Declare, labels-DeclareArray, labels-DeclareValue, labels-DeclarePointer, labels-DeclareCall, labels-Assign, labels-AssignCall, labels-Call, labels-Return, labels-ReturnValue, labels-ReturnCall, labels-Goto, labels-Label, labels-Block, labels-While, labels-If, labels-IfElse)
