-- The units whose C is made, and the saved variables of a unit as they are found by their symbols.
use Rattle.std.specs.Prelude.{ℕ, List, [], ◌∷◌, map, Option, Some, None}
use Rattle.std.specs.Option.{option_map_or}
use Rattle.lf_base.specs.declared.id.StmtId.{StmtId}
use Rattle.lf_base.specs.declared.id.SymId.{SymId}
use Rattle.symtab_arena.specs.Scopes.{names_in}
use Rattle.asr_nodes.specs.Nodes.{Nodes, expr_tree, stmt_tree}
use Rattle.asr_nodes.specs.Units.{path, unit_tree}
use Rattle.asr_nodes.specs.declared.code.TheConstants.{SAVED}
use Rattle.asr_nodes.specs.declared.tree.StmtTree.{StmtTree}
use Rattle.asr_nodes.specs.declared.tree.UnitTree.{UnitTree}
use Rattle.c_nodes.specs.declared.tree.CItem.{CItem}
use Rattle.c_nodes.specs.declared.tree.CItem.TheVariants.{Prototype}
use Rattle.c_nodes.specs.declared.tree.CResult.TheVariants.{Void}
use Rattle.c_printer.specs.declared.saved.SavedVariable.{SavedVariable}
use Rattle.c_printer.specs.Files.{Variable, init_function, main_function}
use Rattle.c_printer.specs.Names.{init_name}
use Rattle.c_printer.specs.Units.{UnitScope, saved_names, types_of}
use Rattle.c_printer.specs.Values.{Place, entity_place}

-- the trees of those symbols that stand for units
abbrev pub unit_trees : Nodes → List SymId → List UnitTree
unit_trees a [] = []
unit_trees a (id ∷ ids) = option_map_or (λ u. u ∷ unit_trees a ids) (unit_tree a id) (unit_trees a ids)

-- the saved variables of a unit, in the order of their declaration
abbrev pub saved_of : UnitScope → List Variable
saved_of u = saved_names u.asr (names_in u.asr.scopes u.table)

-- the variable that was found, and the list of it or of none
abbrev pub variable_found : Nodes → SavedVariable → Variable
variable_found a v = record { name = v.name.now; ty = v.ty; storage = SAVED; init = map (expr_tree a (path a)) v.init.now }

abbrev pub found : Nodes → Option SavedVariable → List Variable
found a None = []
found a (Some v) = variable_found a v ∷ []

-- its object in C
abbrev pub place_of_variable : List ℕ → SavedVariable → Place
place_of_variable unit v = entity_place (unit ∷ v.name.now ∷ []) v.ty

-- the trees of statements of a unit
abbrev pub statement_trees : UnitScope → List StmtId → List StmtTree
statement_trees u = map (stmt_tree u.asr (path u.asr))

-- the functions of a main program
abbrev pub function_items : UnitScope → List ℕ → List StmtId → List CItem
function_items u source body =
    Prototype Void (init_name u.unit) [] ∷ init_function u.unit source (types_of u) (saved_of u) ∷ main_function u.unit source (types_of u) (statement_trees u body) ∷ []
