-- What a symbol's node names.
use Rattle.std.specs.Prelude.{◌≡◌, ℕ, Bool, true, false, ◌==◌, if◌then◌else◌, List, [], length, Option, Some, None, is_some}
use Rattle.lf_base.specs.declared.id.SymId.{SymId}
use Rattle.lf_base.specs.declared.id.TableId.{TableId}
use Rattle.symtab_arena.specs.Changes.{declared_in, owner_declared_in}
use Rattle.symtab_arena.specs.Paths.{path_of}
use Rattle.symtab_arena.specs.Scopes.{Scopes, symbol_at, next_table, names_in}
use Rattle.symtab_arena.specs.declared.table.Symbol.{Symbol as Entry}
use Rattle.asr_nodes.specs.Keys.{Key, exprs, stmts}
use Rattle.asr_nodes.specs.declared.node.Symbol.{Symbol}
use Rattle.asr_nodes.specs.declared.node.Symbol.TheVariants.{Program, Module, Function, Variable, Struct, Generic, External}

-- its own table
abbrev pub table_in : Symbol → Option TableId
table_in (Program source deps table body) = Some table
table_in (Module source deps table) = Some table
table_in (Function access dummies result simple table body) = Some table
table_in (Variable access ty storage intent init) = None
table_in (Struct access table) = Some table
table_in (Generic access specifics) = None
table_in (External access home original) = None

-- the same with another table, where it has one
abbrev pub with_table : TableId → Symbol → Symbol
with_table t (Program source deps table body) = Program source deps t body
with_table t (Module source deps table) = Module source deps t
with_table t (Function access dummies result simple table body) = Function access dummies result simple t body
with_table t (Variable access ty storage intent init) = Variable access ty storage intent init
with_table t (Struct access table) = Struct access t
with_table t (Generic access specifics) = Generic access specifics
with_table t (External access home original) = External access home original

-- the keys of the expressions and statements that it names
abbrev pub symbol_parts : Symbol → List Key
symbol_parts (Program source deps table body) = stmts body
symbol_parts (Module source deps table) = []
symbol_parts (Function access dummies result simple table body) = stmts body
symbol_parts (Variable access ty storage intent init) = exprs init
symbol_parts (Struct access table) = []
symbol_parts (Generic access specifics) = []
symbol_parts (External access home original) = []

-- whether a table is the root
abbrev pub is_root : TableId → Bool
is_root t = t.0 == 0

-- whether it is a main program or a module
abbrev pub is_unit : Symbol → Bool
is_unit (Program source deps table body) = true
is_unit (Module source deps table) = true
is_unit (Function access dummies result simple table body) = false
is_unit (Variable access ty storage intent init) = false
is_unit (Struct access table) = false
is_unit (Generic access specifics) = false
is_unit (External access home original) = false

-- The symbols with one more, last in its table. A symbol that names a table gets a new empty one, and names that.
abbrev pub with_symbol : Scopes Symbol → TableId → List ℕ → Symbol → Scopes Symbol
with_symbol a t name x =
    if is_some (table_in x)
    then owner_declared_in a t (length (names_in a t)) name (with_table (next_table a) x)
    else declared_in a t (length (names_in a t)) name x

-- It may stand in the place of another: it names the same table, and either both are units or neither is.
pub record IsLike (old new : Symbol) : Type 0 where
  pub table : table_in new ≡ table_in old
  pub unit : is_unit new ≡ is_unit old

-- every live symbol keeps its path
abbrev pub KeepsPaths : Scopes Symbol → Scopes Symbol → Type 0
KeepsPaths old new = (id : SymId) (it : Entry Symbol) → symbol_at old id ≡ Some it → path_of new id ≡ path_of old id
