-- Which C files are right by themselves (ISO/IEC 9899:1999): a name is declared before it is used (6.2.1) and once in a scope
-- (6.7, 3), operands have types that their operators take (6.5), a member is one of its structure (6.5.2.3, 1),
-- structures are copied from their own type alone (6.5.16.1, 1), an array of constant size has an element (6.7.5.2, 1),
-- calls have the declared arguments (6.5.2.2, 2), a return fits its function (6.8.6.4, 1), declarations of one name
-- agree (6.2.7, 6.7, 4), a structure is declared once in a file (6.7.2.3, 1), and no name is one that the standard
-- reserves (6.4.1, 7.1.3). Pointers are handed on and indexed: no operator takes one, and structures are handed on by
-- pointers alone. What a call gives is assigned to a variable alone, since the standard does not say whether the place or
-- the call comes first (6.5.16, 4).
use Rattle.std.specs.Prelude.{ℕ, Bool, true, false, ◌&&◌, ◌||◌, ◌==◌, nat_lt, not, if◌then◌else◌, List, [], ◌∷◌, ◌++◌, map, codes, Option, Some, None}
use Rattle.std.specs.List.{list_all, list_any}
use Rattle.std.specs.Str.{bytes_eq}
use Rattle.c_nodes.specs.declared.tree.CType.{CType}
use Rattle.c_nodes.specs.declared.tree.CType.TheVariants.{Int64, Int32, Byte}
use Rattle.c_nodes.specs.declared.tree.CType.TheVariants as type
use Rattle.c_nodes.specs.declared.tree.CObject.{CObject}
use Rattle.c_nodes.specs.declared.tree.CObject.TheVariants as object
use Rattle.c_nodes.specs.declared.tree.CResult.{CResult}
use Rattle.c_nodes.specs.declared.tree.CResult.TheVariants as result
use Rattle.c_nodes.specs.declared.tree.CParameter.{CParameter}
use Rattle.c_nodes.specs.declared.tree.CParameter.TheVariants as parameter
use Rattle.c_nodes.specs.declared.tree.CExpr.{CExpr, CExpr-F, fold-CExpr}
use Rattle.c_nodes.specs.declared.tree.CStmt.{CStmt, CStmt-F, fold-CStmt}
use Rattle.c_nodes.specs.declared.tree.CItem.{CItem}
use Rattle.c_nodes.specs.declared.tree.CItem.TheVariants.{Prototype, Function}
use Rattle.c_nodes.specs.declared.tree.CItem.TheVariants as item
use Rattle.c_nodes.specs.declared.tree.CFile.{CFile}
use Rattle.c_semantics.specs.Reserved.{is_reserved}

abbrev pub same_type : CType → CType → Bool
same_type Int64 Int64 = true
same_type Int32 Int32 = true
same_type Byte Byte = true
same_type (type.Struct a) (type.Struct b) = bytes_eq a b
same_type a b = false

abbrev pub is_structure : CType → Bool
is_structure (type.Struct tag) = true
is_structure kind = false

-- whether objects of the type hold numbers
abbrev pub is_scalar : CType → Bool
is_scalar kind = not (is_structure kind)

-- the type of a name or of an expression
pub data Typed : Type 0 where
  -- an object that holds a number, or a structure
  Object : (kind : CType) → Typed
  -- a number
  Number : Typed
  -- an array with elements of this type
  Array : (kind : CType) → Typed
  -- a pointer to such elements
  Leads : (kind : CType) → Typed
  -- the library's `stderr`
  Errors : Typed
  -- none
  Ill : Typed

abbrev pub is_number : Typed → Bool
is_number (Object kind) = is_scalar kind
is_number Number = true
is_number t = false

-- an object that holds a structure of this type
abbrev pub holds_structure : List ℕ → Typed → Bool
holds_structure tag (Object kind) = same_type (type.Struct tag) kind
holds_structure tag t = false

-- what an object of the type may be set to (6.5.16.1, 1)
abbrev pub takes_value : CType → Typed → Bool
takes_value (type.Struct tag) t = holds_structure tag t
takes_value kind t = is_number t

-- an array stands for a pointer to its first element (6.3.2.1, 3)
abbrev pub leads_to : CType → Typed → Bool
leads_to kind (Array other) = same_type kind other
leads_to kind (Leads other) = same_type kind other
leads_to kind t = false

abbrev pub is_errors : Typed → Bool
is_errors Errors = true
is_errors t = false

abbrev pub number_if : Bool → Typed
number_if right = if right then Number else Ill

abbrev pub element_if : Bool → Typed → Typed
element_if true (Array kind) = Object kind
element_if true (Leads kind) = Object kind
element_if right t = Ill

abbrev pub address_of : Typed → Typed
address_of (Object kind) = Leads kind
address_of t = Ill

-- a structure as it is declared
pub record Structure : Type 0 where
  pub tag : List ℕ
  pub members : List CObject

abbrev pub members_of : List ℕ → List Structure → List CObject
members_of tag [] = []
members_of tag (s ∷ ss) = if bytes_eq tag s.tag then s.members else members_of tag ss

abbrev pub object_name : CObject → List ℕ
object_name (object.Single kind name) = name
object_name (object.Array kind name size) = name

abbrev pub object_kind : CObject → CType
object_kind (object.Single kind name) = kind
object_kind (object.Array kind name size) = kind

abbrev pub typed_as : CObject → Typed
typed_as (object.Single kind name) = Object kind
typed_as (object.Array kind name size) = Array kind

abbrev pub type_among : List ℕ → List CObject → Typed
type_among name [] = Ill
type_among name (o ∷ os) = if bytes_eq name (object_name o) then typed_as o else type_among name os

abbrev pub member_of : List Structure → List ℕ → Typed → Typed
member_of structures name (Object (type.Struct tag)) = type_among name (members_of tag structures)
member_of structures name t = Ill

-- one shape of an expression, with the types of its parts, where names have these types and these structures are
-- declared (6.5)
abbrev pub typed_layer : List Structure → (List ℕ → Typed) → CExpr-F Typed → Typed
typed_layer structures names (CExpr-F.Variable name) = names name
typed_layer structures names (CExpr-F.Index base subscript) = element_if (is_number subscript) base
typed_layer structures names (CExpr-F.Member base name) = member_of structures name base
typed_layer structures names (CExpr-F.Constant value) = Number
typed_layer structures names CExpr-F.Greatest = Number
typed_layer structures names CExpr-F.Least = Number
typed_layer structures names (CExpr-F.Paren inner) = inner
typed_layer structures names (CExpr-F.Negate operand) = number_if (is_number operand)
typed_layer structures names (CExpr-F.Not operand) = number_if (is_number operand)
typed_layer structures names (CExpr-F.Binary operator left right) = number_if (is_number left && is_number right)
typed_layer structures names (CExpr-F.Cast kind operand) = number_if (is_scalar kind && is_number operand)
typed_layer structures names (CExpr-F.ToInt operand) = number_if (is_number operand)
typed_layer structures names (CExpr-F.Address place) = address_of place
typed_layer structures names (CExpr-F.Literal bytes) = Leads Byte

-- a declared name
abbrev pub Entry : Type 0
Entry = List ℕ × Typed

-- the names of the innermost block, those around it, and the structures
pub record Scope : Type 0 where
  pub here : List Entry
  pub around : List Entry
  pub structures : List Structure

-- the first of a name, or another type
abbrev pub first_or : Typed → List ℕ → List Entry → Typed
first_or other name [] = other
first_or other name (entry ∷ entries) = if bytes_eq name entry.0 then entry.1 else first_or other name entries

abbrev pub is_declared : List ℕ → List Entry → Bool
is_declared name entries = list_any (λ entry. bytes_eq name entry.0) entries

abbrev pub library_object : List ℕ → Typed
library_object name = if bytes_eq name (codes "stderr") then Errors else Ill

abbrev pub type_of_name : Scope → List ℕ → Typed
type_of_name scope name = first_or (first_or (library_object name) name scope.around) name scope.here

abbrev pub type_of : Scope → CExpr → Typed
type_of scope = fold-CExpr Typed (typed_layer scope.structures (type_of_name scope))

-- what a parameter takes; `int` and `int32_t` are one type
pub data Taken : Type 0 where
  ANumber : (kind : CType) → Taken
  APointer : (kind : CType) → Taken
  AStream : Taken

abbrev pub same_taken : Taken → Taken → Bool
same_taken (ANumber a) (ANumber b) = same_type a b
same_taken (APointer a) (APointer b) = same_type a b
same_taken AStream AStream = true
same_taken a b = false

abbrev pub same_parameters : List Taken → List Taken → Bool
same_parameters [] [] = true
same_parameters (p ∷ ps) (q ∷ qs) = same_taken p q && same_parameters ps qs
same_parameters ps qs = false

abbrev pub same_result : CResult → CResult → Bool
same_result result.Void result.Void = true
same_result result.Int64 result.Int64 = true
same_result result.Int result.Int = true
same_result a b = false

-- a function as it is declared
pub record Signature : Type 0 where
  pub name : List ℕ
  pub gives : CResult
  pub takes : List Taken

abbrev pub same_signature : Signature → Signature → Bool
same_signature a b = bytes_eq a.name b.name && same_result a.gives b.gives && same_parameters a.takes b.takes

-- the library's functions that are called (7.19.7, 7.20.4.3)
abbrev pub library : List Signature
library = record { name = codes "putchar"; gives = result.Int; takes = ANumber Int32 ∷ [] } ∷ record { name = codes "getchar"; gives = result.Int; takes = [] } ∷ record { name = codes "fputc"; gives = result.Int; takes = ANumber Int32 ∷ AStream ∷ [] } ∷ record { name = codes "exit"; gives = result.Void; takes = ANumber Int32 ∷ [] } ∷ []

abbrev pub takes_argument : Taken → Typed → Bool
takes_argument (ANumber kind) t = is_number t
takes_argument (APointer kind) t = leads_to kind t
takes_argument AStream t = is_errors t

abbrev pub takes_arguments : List Taken → List Typed → Bool
takes_arguments [] [] = true
takes_arguments (p ∷ ps) (t ∷ ts) = takes_argument p t && takes_arguments ps ts
takes_arguments ps ts = false

abbrev pub signature_of : List ℕ → List Signature → Option Signature
signature_of name [] = None
signature_of name (s ∷ ss) = if bytes_eq name s.name then Some s else signature_of name ss

-- what a call of the function gives, if it takes the arguments
abbrev pub given_by : Option Signature → List Typed → Option CResult
given_by None arguments = None
given_by (Some s) arguments = if takes_arguments s.takes arguments then Some s.gives else None

-- what a call gives; a name that an object has calls nothing
abbrev pub call_gives : List Signature → Scope → List ℕ → List CExpr → Option CResult
call_gives known scope callee arguments =
    if is_declared callee scope.here || is_declared callee scope.around then None else given_by (signature_of callee known) (map (type_of scope) arguments)

abbrev pub is_void : CResult → Bool
is_void result.Void = true
is_void r = false

abbrev pub is_call : Option CResult → Bool
is_call None = false
is_call (Some r) = true

abbrev pub is_value : Option CResult → Bool
is_value None = false
is_value (Some r) = not (is_void r)

-- a number or a structure may be assigned to an object, and a pointer to a pointer (6.5.16.1)
abbrev pub may_assign : Typed → Typed → Bool
may_assign (Object kind) t = takes_value kind t
may_assign (Leads kind) t = leads_to kind t
may_assign place t = false

-- The scope behind a statement, if the statement is right in the scope before it.
pub record Scoping : Type 0 where
  pub behind : Scope → Option Scope

abbrev pub kept_if : Bool → Scope → Option Scope
kept_if right scope = if right then Some scope else None

-- a name once in a block, and none that is reserved
abbrev pub declared : List ℕ → Typed → Scope → Option Scope
declared name t scope = if is_reserved name then None else if is_declared name scope.here then None else Some (record { here = (name, t) ∷ scope.here; around = scope.around; structures = scope.structures })

abbrev pub has_structure : List ℕ → List Structure → Bool
has_structure tag structures = list_any (λ s. bytes_eq tag s.tag) structures

-- whether the type is declared, with its members (6.7, 7)
abbrev pub is_known : List Structure → CType → Bool
is_known structures (type.Struct tag) = has_structure tag structures
is_known structures kind = true

-- a name of an object, an array or a pointer with this type or elements of it
abbrev pub declared_as : CType → List ℕ → Typed → Scope → Option Scope
declared_as kind name t scope = if is_known scope.structures kind then declared name t scope else None

-- the name is in scope in its own initializer (6.2.1, 7)
abbrev pub initialized : Option Scope → (Scope → Bool) → Option Scope
initialized None test = None
initialized (Some scope) test = kept_if (test scope) scope

abbrev pub is_right : Option Scope → Bool
is_right None = false
is_right (Some scope) = true

abbrev pub on_scope : Option Scope → (Scope → Option Scope) → Option Scope
on_scope None go = None
on_scope (Some scope) go = go scope

abbrev pub in_turn : List Scoping → Scope → Option Scope
in_turn [] scope = Some scope
in_turn (scoping ∷ scopings) scope = on_scope (scoping.behind scope) (in_turn scopings)

-- a block is a scope of its own (6.8.2)
abbrev pub inside : Scope → Scope
inside scope = record { here = []; around = scope.here ++ scope.around; structures = scope.structures }

abbrev pub is_block : List Scoping → Scope → Bool
is_block scopings scope = is_right (in_turn scopings (inside scope))

abbrev pub variable_layer : CExpr-F Bool → Bool
variable_layer (CExpr-F.Variable name) = true
variable_layer e = false

abbrev pub is_variable : CExpr → Bool
is_variable = fold-CExpr Bool variable_layer

abbrev pub zero_layer : CExpr-F Bool → Bool
zero_layer (CExpr-F.Constant value) = value == 0
zero_layer e = false

-- the constant 0
abbrev pub is_zero : CExpr → Bool
is_zero = fold-CExpr Bool zero_layer

-- an array has an element (6.7.5.2, 1)
abbrev pub is_size : Scope → CExpr → Bool
is_size scope size = is_number (type_of scope size) && not (is_zero size)

-- one shape of a statement in a function that gives this, where these functions are declared (6.7, 6.8)
abbrev pub scoping_layer : List Signature → CResult → CStmt-F Scoping → Scoping
scoping_layer known gives (CStmt-F.Declare kind name) = record { behind = λ scope. declared_as kind name (Object kind) scope }
scoping_layer known gives (CStmt-F.DeclareArray kind name size) = record { behind = λ scope. if is_size scope size then declared_as kind name (Array kind) scope else None }
scoping_layer known gives (CStmt-F.DeclareValue kind name value) = record { behind = λ scope. initialized (declared_as kind name (Object kind) scope) (λ s. takes_value kind (type_of s value)) }
scoping_layer known gives (CStmt-F.DeclarePointer kind name value) = record { behind = λ scope. initialized (declared_as kind name (Leads kind) scope) (λ s. leads_to kind (type_of s value)) }
scoping_layer known gives (CStmt-F.DeclareCall kind name callee arguments) = record { behind = λ scope. initialized (declared_as kind name (Object kind) scope) (λ s. takes_value kind Number && is_value (call_gives known s callee arguments)) }
scoping_layer known gives (CStmt-F.Assign target value) = record { behind = λ scope. kept_if (may_assign (type_of scope target) (type_of scope value)) scope }
scoping_layer known gives (CStmt-F.AssignCall target callee arguments) = record { behind = λ scope. kept_if (is_variable target && may_assign (type_of scope target) Number && is_value (call_gives known scope callee arguments)) scope }
scoping_layer known gives (CStmt-F.Call callee arguments) = record { behind = λ scope. kept_if (is_call (call_gives known scope callee arguments)) scope }
scoping_layer known gives CStmt-F.Return = record { behind = λ scope. kept_if (is_void gives) scope }
scoping_layer known gives (CStmt-F.ReturnValue value) = record { behind = λ scope. kept_if (not (is_void gives) && is_number (type_of scope value)) scope }
scoping_layer known gives (CStmt-F.ReturnCall callee arguments) = record { behind = λ scope. kept_if (not (is_void gives) && is_value (call_gives known scope callee arguments)) scope }
scoping_layer known gives (CStmt-F.Goto label) = record { behind = Some }
scoping_layer known gives (CStmt-F.Label name) = record { behind = kept_if (not (is_reserved name)) }
scoping_layer known gives (CStmt-F.Block body) = record { behind = λ scope. kept_if (is_block body scope) scope }
scoping_layer known gives (CStmt-F.While test body) = record { behind = λ scope. kept_if (is_number (type_of scope test) && is_block body scope) scope }
scoping_layer known gives (CStmt-F.If test then_body) = record { behind = λ scope. kept_if (is_number (type_of scope test) && is_block then_body scope) scope }
scoping_layer known gives (CStmt-F.IfElse test then_body else_body) = record { behind = λ scope. kept_if (is_number (type_of scope test) && is_block then_body scope && is_block else_body scope) scope }

abbrev pub scoping : List Signature → CResult → CStmt → Scoping
scoping known gives = fold-CStmt Scoping (scoping_layer known gives)

abbrev pub taken_by : CParameter → Taken
taken_by (parameter.Value kind name) = ANumber kind
taken_by (parameter.Pointer kind name) = APointer kind

abbrev pub signature : CResult → List ℕ → List CParameter → Signature
signature gives name parameters = record { name = name; gives = gives; takes = map taken_by parameters }

-- A parameter is an object of the outermost block (6.2.1, 4), and no structure is handed on by value.
abbrev pub parameter_scoping : CParameter → Scoping
parameter_scoping (parameter.Value kind name) = record { behind = λ scope. if is_scalar kind then declared name (Object kind) scope else None }
parameter_scoping (parameter.Pointer kind name) = record { behind = declared_as kind name (Leads kind) }

-- what a file has declared: functions, objects that files share, static ones, and structures
pub record Known : Type 0 where
  pub functions : List Signature
  pub objects : List CObject
  pub statics : List Entry
  pub structures : List Structure

-- the library's headers are in front
abbrev pub at_start : Known
at_start = record { functions = library; objects = []; statics = []; structures = [] }

abbrev pub entry_of : CObject → Entry
entry_of o = (object_name o, typed_as o)

-- the names around a function
abbrev pub outermost : Known → Scope
outermost known = record { here = []; around = known.statics ++ map entry_of known.objects; structures = known.structures }

abbrev pub are_right_parameters : Known → List CParameter → Bool
are_right_parameters known parameters = is_right (in_turn (map parameter_scoping parameters) (outermost known))

abbrev pub is_right_body : Known → CResult → List CParameter → List CStmt → Bool
is_right_body known gives parameters body = is_right (on_scope (in_turn (map parameter_scoping parameters) (outermost known)) (in_turn (map (scoping known.functions gives) body)))

-- no two names are the same
abbrev pub are_different : List (List ℕ) → Bool
are_different [] = true
are_different (name ∷ names) = not (list_any (bytes_eq name) names) && are_different names

-- an array of constant size has an element (6.7.5.2, 1)
abbrev pub has_element : CObject → Bool
has_element (object.Single kind name) = true
has_element (object.Array kind name size) = nat_lt 0 size

abbrev pub is_right_object : List Structure → CObject → Bool
is_right_object structures o = is_known structures (object_kind o) && has_element o && not (is_reserved (object_name o))

-- objects and members of one name are the same (6.2.7)
abbrev pub same_object : CObject → CObject → Bool
same_object (object.Single kind name) (object.Single other name') = same_type kind other && bytes_eq name name'
same_object (object.Array kind name size) (object.Array other name' size') = same_type kind other && bytes_eq name name' && size == size'
same_object a b = false

abbrev pub same_objects : List CObject → List CObject → Bool
same_objects [] [] = true
same_objects (x ∷ xs) (y ∷ ys) = same_object x y && same_objects xs ys
same_objects xs ys = false

abbrev pub has_object : List ℕ → List CObject → Bool
has_object name objects = list_any (λ o. bytes_eq name (object_name o)) objects

abbrev pub has_name : List ℕ → List Signature → Bool
has_name name ss = list_any (λ s. bytes_eq name s.name) ss

-- Declarations of one name agree with the one before, and none makes `static` what was declared before (6.2.2, 7).
abbrev pub agrees_with : Option Signature → Bool → Signature → Bool
agrees_with None is_static s = true
agrees_with (Some other) true s = false
agrees_with (Some other) false s = same_signature s other

-- A function has no name of an object, and none that is reserved.
abbrev pub is_right_function : Known → Bool → Signature → Bool
is_right_function known is_static s = agrees_with (signature_of s.name known.functions) is_static s && not (has_object s.name known.objects) && not (is_declared s.name known.statics) && not (is_reserved s.name)

-- a static object has a name that nothing else has
abbrev pub is_right_static : Known → CType → List ℕ → Bool
is_right_static known kind name = is_known known.structures kind && not (has_name name known.functions) && not (has_object name known.objects) && not (is_declared name known.statics) && not (is_reserved name)

abbrev pub with_static : List ℕ → Typed → Known → Known
with_static name t known = record { functions = known.functions; objects = known.objects; statics = (name, t) ∷ known.statics; structures = known.structures }

-- what a file has declared behind an item
abbrev pub with_item : CItem → Known → Known
with_item (item.Struct tag members) known = record { functions = known.functions; objects = known.objects; statics = known.statics; structures = record { tag = tag; members = members } ∷ known.structures }
with_item (item.Object is_extern o) known = record { functions = known.functions; objects = o ∷ known.objects; statics = known.statics; structures = known.structures }
with_item (item.StaticObject kind name) known = with_static name (Object kind) known
with_item (item.StaticPointer kind name) known = with_static name (Leads kind) known
with_item (Prototype gives name parameters) known = record { functions = signature gives name parameters ∷ known.functions; objects = known.objects; statics = known.statics; structures = known.structures }
with_item (Function is_static gives name parameters body) known = record { functions = signature gives name parameters ∷ known.functions; objects = known.objects; statics = known.statics; structures = known.structures }

-- An item behind those that declare what is known. A function may call itself, so its body knows it.
abbrev pub is_right_item : CItem → Known → Bool
is_right_item (item.Struct tag members) known = not (has_structure tag known.structures) && not (is_reserved tag) && are_different (map object_name members) && list_all (is_right_object known.structures) members
is_right_item (item.Object is_extern o) known = is_right_object known.structures o && not (has_name (object_name o) known.functions) && not (is_declared (object_name o) known.statics) && list_all (λ other. not (bytes_eq (object_name o) (object_name other)) || same_object o other) known.objects
is_right_item (item.StaticObject kind name) known = is_right_static known kind name
is_right_item (item.StaticPointer kind name) known = is_right_static known kind name
is_right_item (Prototype gives name parameters) known = is_right_function known false (signature gives name parameters) && are_right_parameters known parameters
is_right_item (Function is_static gives name parameters body) known = is_right_function known is_static (signature gives name parameters) && is_right_body (with_item (Function is_static gives name parameters body) known) gives parameters body

-- items behind those that declare what is known
abbrev pub are_right : List CItem → Known → Bool
are_right [] known = true
are_right (item ∷ items) known = is_right_item item known && are_right items (with_item item known)

-- what is declared behind items
abbrev pub known_behind : List CItem → Known → Known
known_behind [] known = known
known_behind (item ∷ items) known = known_behind items (with_item item known)

-- a file, with the library's headers
abbrev pub is_right_file : CFile → Bool
is_right_file file = are_right file.items at_start
