-- The C file of a main program of scalars (ISO/IEC 9899:1999, 6.9): behind the prelude its variables, which are objects of
-- 32 or 64 bits outside functions, the function that gives them their first values, and `main`.
use Rattle.std.specs.Prelude.{ℕ, ◌==◌, Bool, true, false, if◌then◌else◌, List, [], ◌∷◌, ◌++◌, map, codes, Option, Some, None}
use Rattle.std.specs.Str.{bytes_eq}
use Rattle.lf_base.specs.Outcome.{Location}
use Rattle.c_nodes.specs.declared.tree.CType.{CType}
use Rattle.c_nodes.specs.declared.tree.CType.TheVariants.{Int32, Int64}
use Rattle.c_nodes.specs.declared.tree.CObject.TheVariants.{Single}
use Rattle.c_nodes.specs.declared.tree.CResult.TheVariants.{Void, Int}
use Rattle.c_nodes.specs.declared.tree.CExpr.TheVariants.{Constant}
use Rattle.c_nodes.specs.declared.tree.CStmt.TheVariants.{Assign, Call, Return, ReturnValue}
use Rattle.c_nodes.specs.declared.tree.CItem.{CItem}
use Rattle.c_nodes.specs.declared.tree.CItem.TheVariants.{Object, Prototype, Function}
use Rattle.c_nodes.specs.declared.tree.CFile.{CFile}
use Rattle.c_prelude.specs.Prelude.{prelude_file}
use Rattle.asr_nodes.specs.Reading.{Path}
use Rattle.asr_nodes.specs.declared.code.TheConstants.{SAVED}
use Rattle.asr_nodes.specs.declared.tree.ElemTree.{ElemTree}
use Rattle.asr_nodes.specs.declared.tree.ElemTree.TheVariants as elem
use Rattle.asr_nodes.specs.declared.tree.ExprTree.{ExprTree}
use Rattle.asr_nodes.specs.declared.tree.StmtTree.{StmtTree}
use Rattle.asr_nodes.specs.declared.tree.SymbolTree.{SymbolTree, SymbolTree-F, fold-SymbolTree}
use Rattle.asr_nodes.specs.declared.tree.UnitTree.{UnitTree}
use Rattle.asr_nodes.specs.declared.tree.UnitTree.TheVariants as unit
use Rattle.c_printer.specs.declared.scalar.ScalarType.{ScalarType}
use Rattle.c_printer.specs.declared.scalar.ScalarType.TheVariants.{Integer4, Integer8, Logical}
use Rattle.c_printer.specs.Manners.{kind_type}
use Rattle.c_printer.specs.Names.{entity_name, init_name}
use Rattle.c_printer.specs.Lowering.{Lowering, lines_of, nothing_drawn, give, bind, line}
use Rattle.c_printer.specs.Values.{Expression, Place, entity_place, stored}
use Rattle.c_printer.specs.Statements.{expression, statement, statements, at}

-- A variable: its name, its type, how it is stored, and its initial value, if it has one.
pub record Variable : Type 0 where
  pub name : List ℕ
  pub ty : ScalarType
  pub storage : ℕ
  pub init : List ExprTree

abbrev pub element_type : ElemTree → ScalarType
element_type (elem.Integer kind) = kind_type kind
element_type elem.Logical = Logical
element_type (elem.Character len) = Integer4
element_type (elem.Derived symbol) = Integer4

abbrev pub variable_layer : SymbolTree-F (Option Variable) → Option Variable
variable_layer (SymbolTree-F.Variable name access ty storage intent init) = Some (record { name = name; ty = element_type ty.elem; storage = storage; init = init })
variable_layer (SymbolTree-F.Function name access dummies result simple symbols body) = None
variable_layer (SymbolTree-F.Struct name access symbols) = None
variable_layer (SymbolTree-F.Generic name access specifics) = None
variable_layer (SymbolTree-F.External name access home original) = None

abbrev pub variable_of : SymbolTree → Option Variable
variable_of = fold-SymbolTree (Option Variable) variable_layer

-- the type of a variable of the unit by its name
abbrev pub type_in : List (Option Variable) → List ℕ → ScalarType
type_in [] name = Integer4
type_in (None ∷ vs) name = type_in vs name
type_in (Some v ∷ vs) name = if bytes_eq v.name name then v.ty else type_in vs name

abbrev pub type_at : List ℕ → List (Option Variable) → Path → ScalarType
type_at name vs (home ∷ own ∷ []) = if bytes_eq home name then type_in vs own else Integer4
type_at name vs _ = Integer4

-- the saved variables, in the order of their declaration
abbrev pub saved_where : Bool → Variable → List Variable → List Variable
saved_where true v vs = v ∷ vs
saved_where false v vs = vs

abbrev pub saved : List (Option Variable) → List Variable
saved [] = []
saved (None ∷ vs) = saved vs
saved (Some v ∷ vs) = saved_where (v.storage == SAVED) v (saved vs)

abbrev pub object_type : ScalarType → CType
object_type Integer4 = Int32
object_type Integer8 = Int64
object_type Logical = Int32

abbrev pub variable_item : List ℕ → Variable → CItem
variable_item home v = Object false (Single (object_type v.ty) (entity_name (home ∷ v.name ∷ [])))

abbrev pub variable_place : List ℕ → Variable → Place
variable_place home v = entity_place (home ∷ v.name ∷ []) v.ty

-- A variable begins with its initial value, and else as 0 or false. A constant cannot trap, so no line is told.
abbrev pub first_value : Location → Place → List Expression → Lowering (Unit {0})
first_value here p [] = line (Assign p.object (Constant 0))
first_value here p (e ∷ es) = bind (e.value here) (λ v. line (stored p v.number))

module _ (name source : List ℕ) (types : Path → ScalarType) where
  abbrev pub first_values : List Variable → Lowering (Unit {0})
  first_values [] = give tt
  first_values (v ∷ vs) = bind (first_value (at source 0) (variable_place name v) (map (expression types) v.init)) (λ u. first_values vs)

  abbrev pub init_prototype : CItem
  init_prototype = Prototype Void (init_name name) []

  abbrev pub init_function : List Variable → CItem
  init_function vs = Function false Void (init_name name) [] (lines_of (first_values vs nothing_drawn) ++ Return ∷ [])

  abbrev pub main_function : List StmtTree → CItem
  main_function body =
      Function false Int (codes "main") [] (Call (init_name name) [] ∷ lines_of (statements source (map (statement types) body) nothing_drawn) ++ ReturnValue (Constant 0) ∷ [])

abbrev pub program_items : List ℕ → List ℕ → List (Option Variable) → List StmtTree → List CItem
program_items name source vs body =
    map (variable_item name) (saved vs)
    ++ init_prototype name source (type_at name vs) ∷ init_function name source (type_at name vs) (saved vs) ∷ main_function name source (type_at name vs) body ∷ []

-- the items of the units of a file behind those of the prelude; only a main program alone has any yet
abbrev pub unit_items : List UnitTree → List CItem
unit_items (unit.Program name source deps symbols body ∷ []) = program_items name source (map variable_of symbols) body
unit_items _ = []

abbrev pub c_file : List UnitTree → CFile
c_file units = record { items = prelude_file.items ++ unit_items units }
