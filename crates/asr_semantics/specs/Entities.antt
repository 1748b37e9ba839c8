-- The entities of a program by their paths (ISO/IEC 1539-1:2018, 19.2 and 19.3): each symbol of its units with all that
-- stands in it, in the order of the declarations.
use Rattle.std.specs.Prelude.{ℕ, zero, suc, ◌==◌, Bool, true, false, ◌||◌, ◌&&◌, if◌then◌else◌, List, [], ◌∷◌, ◌++◌, map, length, Option, Some, None}
use Rattle.std.specs.List.{flat_map}
use Rattle.std.specs.Str.{bytes_eq}
use Rattle.asr_nodes.specs.Reading.{Path}
use Rattle.asr_nodes.specs.declared.code.TheConstants.{SAVED, LOCAL, RESULT}
use Rattle.asr_nodes.specs.declared.tree.ExprTree.{ExprTree}
use Rattle.asr_nodes.specs.declared.tree.StmtTree.{StmtTree}
use Rattle.asr_nodes.specs.declared.tree.SymbolTree.{SymbolTree, SymbolTree-F, fold-SymbolTree}
use Rattle.asr_nodes.specs.declared.tree.TypeTree.{TypeTree}
use Rattle.asr_nodes.specs.declared.tree.UnitTree.{UnitTree}
use Rattle.asr_nodes.specs.declared.tree.UnitTree.TheVariants as unit
use Rattle.asr_semantics.specs.Machine.{same_path}

-- a procedure, a variable, an entity of another unit under a name of this one, or what has no meaning of its own
pub data Entity : Type 0 where
  Procedure : (dummies : List Path) (result : Option Path) (simple : ℕ) (body : List StmtTree) → Entity
  Variable : (ty : TypeTree) (storage : ℕ) (init : List ExprTree) → Entity
  External : (home original : List ℕ) → Entity
  Other : Entity

abbrev pub Entities : Type 0
Entities = List (Path × Entity)

-- what stands in a scope of this name, with the paths from outside
abbrev pub inside : List ℕ → Entities → Entities
inside name = map (λ e. (name ∷ e.0, e.1))

abbrev pub named : List ℕ → Entity → List Entities → Entities
named name entity scope = (name ∷ [], entity) ∷ inside name (flat_map (λ es. es) scope)

abbrev pub entity_layer : SymbolTree-F Entities → Entities
entity_layer (SymbolTree-F.Function name access dummies result simple symbols body) = named name (Procedure dummies result simple body) symbols
entity_layer (SymbolTree-F.Variable name access ty storage intent init) = named name (Variable ty storage init) []
entity_layer (SymbolTree-F.Struct name access symbols) = named name Other symbols
entity_layer (SymbolTree-F.Generic name access specifics) = named name Other []
entity_layer (SymbolTree-F.External name access home original) = named name (External home original) []

abbrev pub symbol_entities : SymbolTree → Entities
symbol_entities = fold-SymbolTree Entities entity_layer

abbrev pub in_unit : List ℕ → List SymbolTree → Entities
in_unit name symbols = inside name (flat_map symbol_entities symbols)

abbrev pub unit_entities : UnitTree → Entities
unit_entities (unit.Program name source deps symbols body) = in_unit name symbols
unit_entities (unit.Module name source deps symbols) = in_unit name symbols

abbrev pub entities_of : List UnitTree → Entities
entities_of = flat_map unit_entities

abbrev pub entity_in : Entities → Path → Option Entity
entity_in [] path = None
entity_in (e ∷ es) path = if same_path e.0 path then Some e.1 else entity_in es path

-- what a symbol leads to: the entity of the other unit, where it is an external
abbrev pub led_to : Path → Option Entity → Path
led_to path (Some (External home original)) = home ∷ original ∷ []
led_to path _ = path

abbrev pub target : Entities → Path → Path
target es path = led_to path (entity_in es path)

abbrev pub unit_name : UnitTree → List ℕ
unit_name (unit.Program name source deps symbols body) = name
unit_name (unit.Module name source deps symbols) = name

abbrev pub unit_source : UnitTree → List ℕ
unit_source (unit.Program name source deps symbols body) = source
unit_source (unit.Module name source deps symbols) = source

abbrev pub unit_deps : UnitTree → List (List ℕ)
unit_deps (unit.Program name source deps symbols body) = deps
unit_deps (unit.Module name source deps symbols) = deps

abbrev pub unit_named : List UnitTree → List ℕ → Option UnitTree
unit_named [] name = None
unit_named (u ∷ us) name = if bytes_eq (unit_name u) name then Some u else unit_named us name

-- the first name of a path is that of its unit
abbrev pub head_is : List ℕ → Path → Bool
head_is name [] = false
head_is name (n ∷ path) = bytes_eq n name

abbrev pub source_in : List UnitTree → Path → Option (List ℕ)
source_in [] path = None
source_in (u ∷ us) path = if head_is (unit_name u) path then Some (unit_source u) else source_in us path

-- The static variables of a unit: its own, and the saved ones of its procedures at the place of the procedure (8.5.16).
abbrev pub is_static_in : List ℕ → Path → Entity → Bool
is_static_in name path (Variable ty storage init) = head_is name path && (storage == SAVED)
is_static_in name path _ = false

-- The path stands in the scope of the other one.
abbrev pub stands_in : Path → Path → Bool
stands_in [] (name ∷ []) = true
stands_in (a ∷ p) (b ∷ q) = bytes_eq a b && stands_in p q
stands_in _ _ = false

-- The variables of a procedure that each execution of it has anew, its dummies aside.
abbrev pub is_own_in : Path → Path → Entity → Bool
is_own_in scope path (Variable ty storage init) = stands_in scope path && ((storage == LOCAL) || (storage == RESULT))
is_own_in scope path _ = false

abbrev pub chosen : (Path → Entity → Bool) → Entities → Entities
chosen choose [] = []
chosen choose (e ∷ es) = if choose e.0 e.1 then e ∷ chosen choose es else chosen choose es

abbrev pub is_among : List ℕ → List (List ℕ) → Bool
is_among name [] = false
is_among name (n ∷ names) = bytes_eq n name || is_among name names

-- The modules that a unit reaches, a dependency before its user and each once, in the order of the use statements,
-- behind those that stand already. No way of dependencies is longer than there are units.
abbrev pub with_each : (List ℕ → List (List ℕ) → List (List ℕ)) → List (List ℕ) → List (List ℕ) → List (List ℕ)
with_each visit [] before = before
with_each visit (name ∷ names) before = with_each visit names (visit name before)

abbrev pub with_deps : (List ℕ → List (List ℕ) → List (List ℕ)) → Option UnitTree → List ℕ → List (List ℕ) → List (List ℕ)
with_deps visit None name before = before
with_deps visit (Some u) name before = with_each visit (unit_deps u) before ++ name ∷ []

abbrev pub with_unit : List UnitTree → ℕ → List ℕ → List (List ℕ) → List (List ℕ)
with_unit us zero name before = before
with_unit us (suc n) name before = if is_among name before then before else with_deps (with_unit us n) (unit_named us name) name before

-- the modules that a unit reaches, and the unit last
abbrev pub reached : List UnitTree → List ℕ → List (List ℕ)
reached us name = with_unit us (suc (length us)) name []
