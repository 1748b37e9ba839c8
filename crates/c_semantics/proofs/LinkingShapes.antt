-- What each shape is in a scope, by what its parts are.
use Rattle.std.proofs.Common.{◌≡◌, ℕ, Bool, true, false, ◌&&◌, List, map}
use Rattle.std.specs.Prelude.{not, ◌==◌, if◌then◌else◌, Some, None}
use Rattle.lf_base.specs.declared.name.Name.{Name}
use Rattle.c_nodes.specs.declared.tree.CBinary.{CBinary}
use Rattle.c_nodes.specs.declared.tree.CType.{CType}
use Rattle.c_nodes.specs.declared.tree.CType.TheVariants.{Byte}
use Rattle.c_nodes.specs.declared.tree.CResult.{CResult}
use Rattle.c_nodes.specs.declared.tree.CExpr.{CExpr}
use Rattle.c_nodes.specs.declared.tree.CExpr.TheVariants.{Variable, Index, Member, Constant, Greatest, Least, Paren, Negate, Not, Binary, Cast, ToInt, Address, Literal}
use Rattle.c_nodes.specs.declared.tree.CStmt.{CStmt}
use Rattle.c_nodes.specs.declared.tree.CStmt.TheVariants.{Declare, DeclareArray, DeclareValue, DeclarePointer, DeclareCall, Assign, AssignCall, Call, Return, ReturnValue, ReturnCall, Goto, Label, Block, While, If, IfElse}
use Rattle.c_semantics.specs.Reserved.{is_reserved}
use Rattle.c_semantics.specs.Linking.{variable_layer, is_variable, zero_layer, is_zero, is_size, Typed, Object, Number, Array, Leads, is_scalar, is_number, takes_value, leads_to, number_if, element_if, address_of, member_of, typed_layer, Scope, type_of_name, type_of, Signature, call_gives, is_void, is_call, is_value, may_assign, Scoping, kept_if, declared_as, initialized, is_block, scoping_layer, scoping}
use Rattle.c_semantics.specs.Program.{all_do, calls_layer, calls_only}
use Rattle.c_nodes.proofs.ExprInduction as expressions
use Rattle.c_nodes.proofs.StmtInduction as statements

pub type_of-Variable : (s : Scope) (name : Name) → type_of s (Variable name) ≡ type_of_name s name
type_of-Variable s name = expressions.fold-Variable Typed (typed_layer s.structures (type_of_name s)) name

pub type_of-Index : (s : Scope) (base subscript : CExpr) → type_of s (Index base subscript) ≡ element_if (is_number (type_of s subscript)) (type_of s base)
type_of-Index s base subscript = expressions.fold-Index Typed (typed_layer s.structures (type_of_name s)) base subscript

pub type_of-Member : (s : Scope) (base : CExpr) (name : Name) → type_of s (Member base name) ≡ member_of s.structures name (type_of s base)
type_of-Member s base name = expressions.fold-Member Typed (typed_layer s.structures (type_of_name s)) base name

pub type_of-Constant : (s : Scope) (value : ℕ) → type_of s (Constant value) ≡ Number
type_of-Constant s value = expressions.fold-Constant Typed (typed_layer s.structures (type_of_name s)) value

pub type_of-Greatest : (s : Scope) → type_of s Greatest ≡ Number
type_of-Greatest s = expressions.fold-Greatest Typed (typed_layer s.structures (type_of_name s))

pub type_of-Least : (s : Scope) → type_of s Least ≡ Number
type_of-Least s = expressions.fold-Least Typed (typed_layer s.structures (type_of_name s))

pub type_of-Paren : (s : Scope) (inner : CExpr) → type_of s (Paren inner) ≡ type_of s inner
type_of-Paren s inner = expressions.fold-Paren Typed (typed_layer s.structures (type_of_name s)) inner

pub type_of-Negate : (s : Scope) (operand : CExpr) → type_of s (Negate operand) ≡ number_if (is_number (type_of s operand))
type_of-Negate s operand = expressions.fold-Negate Typed (typed_layer s.structures (type_of_name s)) operand

pub type_of-Not : (s : Scope) (operand : CExpr) → type_of s (Not operand) ≡ number_if (is_number (type_of s operand))
type_of-Not s operand = expressions.fold-Not Typed (typed_layer s.structures (type_of_name s)) operand

pub type_of-Binary : (s : Scope) (operator : CBinary) (left right : CExpr) → type_of s (Binary operator left right) ≡ number_if (is_number (type_of s left) && is_number (type_of s right))
type_of-Binary s operator left right = expressions.fold-Binary Typed (typed_layer s.structures (type_of_name s)) operator left right

pub type_of-Cast : (s : Scope) (kind : CType) (operand : CExpr) → type_of s (Cast kind operand) ≡ number_if (is_scalar kind && is_number (type_of s operand))
type_of-Cast s kind operand = expressions.fold-Cast Typed (typed_layer s.structures (type_of_name s)) kind operand

pub type_of-ToInt : (s : Scope) (operand : CExpr) → type_of s (ToInt operand) ≡ number_if (is_number (type_of s operand))
type_of-ToInt s operand = expressions.fold-ToInt Typed (typed_layer s.structures (type_of_name s)) operand

pub type_of-Address : (s : Scope) (place : CExpr) → type_of s (Address place) ≡ address_of (type_of s place)
type_of-Address s place = expressions.fold-Address Typed (typed_layer s.structures (type_of_name s)) place

pub type_of-Literal : (s : Scope) (bytes : List ℕ) → type_of s (Literal bytes) ≡ Leads Byte
type_of-Literal s bytes = expressions.fold-Literal Typed (typed_layer s.structures (type_of_name s)) bytes

pub is_variable-Variable : (name : Name) → is_variable (Variable name) ≡ true
is_variable-Variable name = expressions.fold-Variable Bool variable_layer name

pub is_variable-Index : (base subscript : CExpr) → is_variable (Index base subscript) ≡ false
is_variable-Index base subscript = expressions.fold-Index Bool variable_layer base subscript

pub is_variable-Member : (base : CExpr) (name : Name) → is_variable (Member base name) ≡ false
is_variable-Member base name = expressions.fold-Member Bool variable_layer base name

pub is_variable-Constant : (value : ℕ) → is_variable (Constant value) ≡ false
is_variable-Constant value = expressions.fold-Constant Bool variable_layer value

pub is_variable-Greatest : is_variable Greatest ≡ false
is_variable-Greatest = expressions.fold-Greatest Bool variable_layer

pub is_variable-Least : is_variable Least ≡ false
is_variable-Least = expressions.fold-Least Bool variable_layer

pub is_variable-Paren : (inner : CExpr) → is_variable (Paren inner) ≡ false
is_variable-Paren inner = expressions.fold-Paren Bool variable_layer inner

pub is_variable-Negate : (operand : CExpr) → is_variable (Negate operand) ≡ false
is_variable-Negate operand = expressions.fold-Negate Bool variable_layer operand

pub is_variable-Not : (operand : CExpr) → is_variable (Not operand) ≡ false
is_variable-Not operand = expressions.fold-Not Bool variable_layer operand

pub is_variable-Binary : (operator : CBinary) (left right : CExpr) → is_variable (Binary operator left right) ≡ false
is_variable-Binary operator left right = expressions.fold-Binary Bool variable_layer operator left right

pub is_variable-Cast : (kind : CType) (operand : CExpr) → is_variable (Cast kind operand) ≡ false
is_variable-Cast kind operand = expressions.fold-Cast Bool variable_layer kind operand

pub is_variable-ToInt : (operand : CExpr) → is_variable (ToInt operand) ≡ false
is_variable-ToInt operand = expressions.fold-ToInt Bool variable_layer operand

pub is_variable-Address : (place : CExpr) → is_variable (Address place) ≡ false
is_variable-Address place = expressions.fold-Address Bool variable_layer place

pub is_variable-Literal : (bytes : List ℕ) → is_variable (Literal bytes) ≡ false
is_variable-Literal bytes = expressions.fold-Literal Bool variable_layer bytes

pub is_zero-Variable : (name : Name) → is_zero (Variable name) ≡ false
is_zero-Variable name = expressions.fold-Variable Bool zero_layer name

pub is_zero-Index : (base subscript : CExpr) → is_zero (Index base subscript) ≡ false
is_zero-Index base subscript = expressions.fold-Index Bool zero_layer base subscript

pub is_zero-Member : (base : CExpr) (name : Name) → is_zero (Member base name) ≡ false
is_zero-Member base name = expressions.fold-Member Bool zero_layer base name

pub is_zero-Constant : (value : ℕ) → is_zero (Constant value) ≡ (value == 0)
is_zero-Constant value = expressions.fold-Constant Bool zero_layer value

pub is_zero-Greatest : is_zero Greatest ≡ false
is_zero-Greatest = expressions.fold-Greatest Bool zero_layer

pub is_zero-Least : is_zero Least ≡ false
is_zero-Least = expressions.fold-Least Bool zero_layer

pub is_zero-Paren : (inner : CExpr) → is_zero (Paren inner) ≡ false
is_zero-Paren inner = expressions.fold-Paren Bool zero_layer inner

pub is_zero-Negate : (operand : CExpr) → is_zero (Negate operand) ≡ false
is_zero-Negate operand = expressions.fold-Negate Bool zero_layer operand

pub is_zero-Not : (operand : CExpr) → is_zero (Not operand) ≡ false
is_zero-Not operand = expressions.fold-Not Bool zero_layer operand

pub is_zero-Binary : (operator : CBinary) (left right : CExpr) → is_zero (Binary operator left right) ≡ false
is_zero-Binary operator left right = expressions.fold-Binary Bool zero_layer operator left right

pub is_zero-Cast : (kind : CType) (operand : CExpr) → is_zero (Cast kind operand) ≡ false
is_zero-Cast kind operand = expressions.fold-Cast Bool zero_layer kind operand

pub is_zero-ToInt : (operand : CExpr) → is_zero (ToInt operand) ≡ false
is_zero-ToInt operand = expressions.fold-ToInt Bool zero_layer operand

pub is_zero-Address : (place : CExpr) → is_zero (Address place) ≡ false
is_zero-Address place = expressions.fold-Address Bool zero_layer place

pub is_zero-Literal : (bytes : List ℕ) → is_zero (Literal bytes) ≡ false
is_zero-Literal bytes = expressions.fold-Literal Bool zero_layer bytes

pub scoping-Declare : (known : List Signature) (gives : CResult) (kind : CType) (name : Name) → scoping known gives (Declare kind name) ≡ record { behind = λ s. declared_as kind name (Object kind) s }
scoping-Declare known gives kind name = statements.fold-Declare Scoping (scoping_layer known gives) kind name

pub scoping-DeclareArray : (known : List Signature) (gives : CResult) (kind : CType) (name : Name) (size : CExpr) → scoping known gives (DeclareArray kind name size) ≡ record { behind = λ s. if is_size s size then declared_as kind name (Array kind) s else None }
scoping-DeclareArray known gives kind name size = statements.fold-DeclareArray Scoping (scoping_layer known gives) kind name size

pub scoping-DeclareValue : (known : List Signature) (gives : CResult) (kind : CType) (name : Name) (value : CExpr) → scoping known gives (DeclareValue kind name value) ≡ record { behind = λ s. initialized (declared_as kind name (Object kind) s) (λ i. takes_value kind (type_of i value)) }
scoping-DeclareValue known gives kind name value = statements.fold-DeclareValue Scoping (scoping_layer known gives) kind name value

pub scoping-DeclarePointer : (known : List Signature) (gives : CResult) (kind : CType) (name : Name) (value : CExpr) → scoping known gives (DeclarePointer kind name value) ≡ record { behind = λ s. initialized (declared_as kind name (Leads kind) s) (λ i. leads_to kind (type_of i value)) }
scoping-DeclarePointer known gives kind name value = statements.fold-DeclarePointer Scoping (scoping_layer known gives) kind name value

pub scoping-DeclareCall : (known : List Signature) (gives : CResult) (kind : CType) (name callee : Name) (arguments : List CExpr) → scoping known gives (DeclareCall kind name callee arguments) ≡ record { behind = λ s. initialized (declared_as kind name (Object kind) s) (λ i. takes_value kind Number && is_value (call_gives known i callee arguments)) }
scoping-DeclareCall known gives kind name callee arguments = statements.fold-DeclareCall Scoping (scoping_layer known gives) kind name callee arguments

pub scoping-Assign : (known : List Signature) (gives : CResult) (target value : CExpr) → scoping known gives (Assign target value) ≡ record { behind = λ s. kept_if (may_assign (type_of s target) (type_of s value)) s }
scoping-Assign known gives target value = statements.fold-Assign Scoping (scoping_layer known gives) target value

pub scoping-AssignCall : (known : List Signature) (gives : CResult) (target : CExpr) (callee : Name) (arguments : List CExpr) → scoping known gives (AssignCall target callee arguments) ≡ record { behind = λ s. kept_if (is_variable target && may_assign (type_of s target) Number && is_value (call_gives known s callee arguments)) s }
scoping-AssignCall known gives target callee arguments = statements.fold-AssignCall Scoping (scoping_layer known gives) target callee arguments

pub scoping-Call : (known : List Signature) (gives : CResult) (callee : Name) (arguments : List CExpr) → scoping known gives (Call callee arguments) ≡ record { behind = λ s. kept_if (is_call (call_gives known s callee arguments)) s }
scoping-Call known gives callee arguments = statements.fold-Call Scoping (scoping_layer known gives) callee arguments

pub scoping-Return : (known : List Signature) (gives : CResult) → scoping known gives Return ≡ record { behind = λ s. kept_if (is_void gives) s }
scoping-Return known gives = statements.fold-Return Scoping (scoping_layer known gives)

pub scoping-ReturnValue : (known : List Signature) (gives : CResult) (value : CExpr) → scoping known gives (ReturnValue value) ≡ record { behind = λ s. kept_if (not (is_void gives) && is_number (type_of s value)) s }
scoping-ReturnValue known gives value = statements.fold-ReturnValue Scoping (scoping_layer known gives) value

pub scoping-ReturnCall : (known : List Signature) (gives : CResult) (callee : Name) (arguments : List CExpr) → scoping known gives (ReturnCall callee arguments) ≡ record { behind = λ s. kept_if (not (is_void gives) && is_value (call_gives known s callee arguments)) s }
scoping-ReturnCall known gives callee arguments = statements.fold-ReturnCall Scoping (scoping_layer known gives) callee arguments

pub scoping-Goto : (known : List Signature) (gives : CResult) (label : Name) → scoping known gives (Goto label) ≡ record { behind = Some }
scoping-Goto known gives label = statements.fold-Goto Scoping (scoping_layer known gives) label

pub scoping-Label : (known : List Signature) (gives : CResult) (name : Name) → scoping known gives (Label name) ≡ record { behind = kept_if (not (is_reserved name)) }
scoping-Label known gives name = statements.fold-Label Scoping (scoping_layer known gives) name

pub scoping-Block : (known : List Signature) (gives : CResult) (body : List CStmt) → scoping known gives (Block body) ≡ record { behind = λ s. kept_if (is_block (map (scoping known gives) body) s) s }
scoping-Block known gives body = statements.fold-Block Scoping (scoping_layer known gives) body

pub scoping-While : (known : List Signature) (gives : CResult) (test : CExpr) (body : List CStmt) → scoping known gives (While test body) ≡ record { behind = λ s. kept_if (is_number (type_of s test) && is_block (map (scoping known gives) body) s) s }
scoping-While known gives test body = statements.fold-While Scoping (scoping_layer known gives) test body

pub scoping-If : (known : List Signature) (gives : CResult) (test : CExpr) (then_body : List CStmt) → scoping known gives (If test then_body) ≡ record { behind = λ s. kept_if (is_number (type_of s test) && is_block (map (scoping known gives) then_body) s) s }
scoping-If known gives test then_body = statements.fold-If Scoping (scoping_layer known gives) test then_body

pub scoping-IfElse : (known : List Signature) (gives : CResult) (test : CExpr) (then_body else_body : List CStmt) → scoping known gives (IfElse test then_body else_body) ≡ record { behind = λ s. kept_if (is_number (type_of s test) && is_block (map (scoping known gives) then_body) s && is_block (map (scoping known gives) else_body) s) s }
scoping-IfElse known gives test then_body else_body = statements.fold-IfElse Scoping (scoping_layer known gives) test then_body else_body

pub ruleset links = (is_variable-Variable, is_variable-Index, is_variable-Member, is_variable-Constant, is_variable-Greatest, is_variable-Least, is_variable-Paren, is_variable-Negate, is_variable-Not, is_variable-Binary, is_variable-Cast, is_variable-ToInt, is_variable-Address, is_variable-Literal, is_zero-Variable, is_zero-Index, is_zero-Member, is_zero-Constant, is_zero-Greatest, is_zero-Least, is_zero-Paren, is_zero-Negate, is_zero-Not, is_zero-Binary, is_zero-Cast, is_zero-ToInt, is_zero-Address, is_zero-Literal, type_of-Variable, type_of-Index, type_of-Member, type_of-Constant, type_of-Greatest, type_of-Least, type_of-Paren, type_of-Negate, type_of-Not, type_of-Binary, type_of-Cast, type_of-ToInt, type_of-Address, type_of-Literal, scoping-Declare, scoping-DeclareArray, scoping-DeclareValue, scoping-DeclarePointer, scoping-DeclareCall, scoping-Assign, scoping-AssignCall, scoping-Call, scoping-Return, scoping-ReturnValue, scoping-ReturnCall, scoping-Goto, scoping-Label, scoping-Block, scoping-While, scoping-If, scoping-IfElse)

pub calls_only-Declare : (test : List ℕ → Bool) (kind : CType) (name : Name) → calls_only test (Declare kind name) ≡ true
calls_only-Declare test kind name = statements.fold-Declare Bool (calls_layer test) kind name

pub calls_only-DeclareArray : (test : List ℕ → Bool) (kind : CType) (name : Name) (size : CExpr) → calls_only test (DeclareArray kind name size) ≡ true
calls_only-DeclareArray test kind name size = statements.fold-DeclareArray Bool (calls_layer test) kind name size

pub calls_only-DeclareValue : (test : List ℕ → Bool) (kind : CType) (name : Name) (value : CExpr) → calls_only test (DeclareValue kind name value) ≡ true
calls_only-DeclareValue test kind name value = statements.fold-DeclareValue Bool (calls_layer test) kind name value

pub calls_only-DeclarePointer : (test : List ℕ → Bool) (kind : CType) (name : Name) (value : CExpr) → calls_only test (DeclarePointer kind name value) ≡ true
calls_only-DeclarePointer test kind name value = statements.fold-DeclarePointer Bool (calls_layer test) kind name value

pub calls_only-DeclareCall : (test : List ℕ → Bool) (kind : CType) (name callee : Name) (arguments : List CExpr) → calls_only test (DeclareCall kind name callee arguments) ≡ test callee
calls_only-DeclareCall test kind name callee arguments = statements.fold-DeclareCall Bool (calls_layer test) kind name callee arguments

pub calls_only-Assign : (test : List ℕ → Bool) (target value : CExpr) → calls_only test (Assign target value) ≡ true
calls_only-Assign test target value = statements.fold-Assign Bool (calls_layer test) target value

pub calls_only-AssignCall : (test : List ℕ → Bool) (target : CExpr) (callee : Name) (arguments : List CExpr) → calls_only test (AssignCall target callee arguments) ≡ test callee
calls_only-AssignCall test target callee arguments = statements.fold-AssignCall Bool (calls_layer test) target callee arguments

pub calls_only-Call : (test : List ℕ → Bool) (callee : Name) (arguments : List CExpr) → calls_only test (Call callee arguments) ≡ test callee
calls_only-Call test callee arguments = statements.fold-Call Bool (calls_layer test) callee arguments

pub calls_only-Return : (test : List ℕ → Bool) → calls_only test Return ≡ true
calls_only-Return test = statements.fold-Return Bool (calls_layer test)

pub calls_only-ReturnValue : (test : List ℕ → Bool) (value : CExpr) → calls_only test (ReturnValue value) ≡ true
calls_only-ReturnValue test value = statements.fold-ReturnValue Bool (calls_layer test) value

pub calls_only-ReturnCall : (test : List ℕ → Bool) (callee : Name) (arguments : List CExpr) → calls_only test (ReturnCall callee arguments) ≡ test callee
calls_only-ReturnCall test callee arguments = statements.fold-ReturnCall Bool (calls_layer test) callee arguments

pub calls_only-Goto : (test : List ℕ → Bool) (label : Name) → calls_only test (Goto label) ≡ true
calls_only-Goto test label = statements.fold-Goto Bool (calls_layer test) label

pub calls_only-Label : (test : List ℕ → Bool) (name : Name) → calls_only test (Label name) ≡ true
calls_only-Label test name = statements.fold-Label Bool (calls_layer test) name

pub calls_only-Block : (test : List ℕ → Bool) (body : List CStmt) → calls_only test (Block body) ≡ all_do (map (calls_only test) body)
calls_only-Block test body = statements.fold-Block Bool (calls_layer test) body

pub calls_only-While : (test : List ℕ → Bool) (condition : CExpr) (body : List CStmt) → calls_only test (While condition body) ≡ all_do (map (calls_only test) body)
calls_only-While test condition body = statements.fold-While Bool (calls_layer test) condition body

pub calls_only-If : (test : List ℕ → Bool) (condition : CExpr) (then_body : List CStmt) → calls_only test (If condition then_body) ≡ all_do (map (calls_only test) then_body)
calls_only-If test condition then_body = statements.fold-If Bool (calls_layer test) condition then_body

pub calls_only-IfElse : (test : List ℕ → Bool) (condition : CExpr) (then_body else_body : List CStmt) → calls_only test (IfElse condition then_body else_body) ≡ all_do (map (calls_only test) then_body) && all_do (map (calls_only test) else_body)
calls_only-IfElse test condition then_body else_body = statements.fold-IfElse Bool (calls_layer test) condition then_body else_body

pub ruleset callings = (calls_only-Declare, calls_only-DeclareArray, calls_only-DeclareValue, calls_only-DeclarePointer, calls_only-DeclareCall, calls_only-Assign, calls_only-AssignCall, calls_only-Call, calls_only-Return, calls_only-ReturnValue, calls_only-ReturnCall, calls_only-Goto, calls_only-Label, calls_only-Block, calls_only-While, calls_only-If, calls_only-IfElse)
