-- What lowering knows of the unit that is lowered: its symbol, which stands in the root table, its name and its table.
use Rattle.std.specs.Prelude.{◌≡◌, ℕ, List, map, Option, Some, None}
use Rattle.std.specs.Option.{option_and_then}
use Rattle.lf_base.specs.declared.id.SymId.{SymId}
use Rattle.lf_base.specs.declared.id.TableId.{TableId}
use Rattle.symtab_arena.specs.Names.{Names}
use Rattle.symtab_arena.specs.Scopes.{table_id, symbol_at, table_of, name_of, owned_by}
use Rattle.asr_nodes.specs.Nodes.{Nodes, expr_tree}
use Rattle.asr_nodes.specs.Reading.{Path, elem_node}
use Rattle.asr_nodes.specs.Units.{path, symbol_trees}
use Rattle.asr_nodes.specs.declared.node.Symbol.{Symbol}
use Rattle.asr_nodes.specs.declared.node.Symbol.TheVariants as symbol
use Rattle.c_printer.specs.declared.scalar.ScalarType.{ScalarType}
use Rattle.c_printer.specs.declared.scalar.ScalarType.TheVariants.{Integer4}
use Rattle.c_printer.specs.Files.{Variable, element_type, variable_of, type_at, saved}

pub record UnitScope : Type 0 where
  pub asr : Nodes
  pub id : SymId
  pub unit : List ℕ
  pub table : TableId

pub record IsUnitScope (u : UnitScope) : Type 0 where
  pub name_is : name_of u.asr.scopes u.id ≡ Some u.unit
  pub table_is : owned_by u.asr.scopes u.id ≡ Some u.table
  pub root : table_of u.asr.scopes u.id ≡ Some (table_id 0)

-- the variables among the symbols of a table
abbrev pub variables_in : Nodes → TableId → List (Option Variable)
variables_in a table = map variable_of (symbol_trees a table)

-- the types of entities where a unit is lowered
abbrev pub types_of : UnitScope → Path → ScalarType
types_of u = type_at u.unit (variables_in u.asr u.table)

-- a symbol's type, where it is a variable
abbrev pub symbol_type : (SymId → Path) → Symbol → ScalarType
symbol_type path (symbol.Program source deps table body) = Integer4
symbol_type path (symbol.Module source deps table) = Integer4
symbol_type path (symbol.Function access dummies result simple table body) = Integer4
symbol_type path (symbol.Variable access ty storage intent init) = element_type (elem_node path ty.elem)
symbol_type path (symbol.Struct access table) = Integer4
symbol_type path (symbol.Generic access specifics) = Integer4
symbol_type path (symbol.External access home original) = Integer4

-- the variable that a symbol is, by its name
abbrev pub symbol_variable : Nodes → List ℕ → Symbol → Option Variable
symbol_variable a name (symbol.Program source deps table body) = None
symbol_variable a name (symbol.Module source deps table) = None
symbol_variable a name (symbol.Function access dummies result simple table body) = None
symbol_variable a name (symbol.Variable access ty storage intent init) =
    Some (record { name = name; ty = element_type (elem_node (path a) ty.elem); storage = storage; init = map (expr_tree a (path a)) init })
symbol_variable a name (symbol.Struct access table) = None
symbol_variable a name (symbol.Generic access specifics) = None
symbol_variable a name (symbol.External access home original) = None

abbrev pub variable_at : Nodes → SymId → Option Variable
variable_at a id = option_and_then (λ y. symbol_variable a y.name y.what) (symbol_at a.scopes id)

-- the saved variables among symbols by their names
abbrev pub saved_names : Nodes → Names → List Variable
saved_names a names = saved (map (λ e. variable_at a e.1) names)
