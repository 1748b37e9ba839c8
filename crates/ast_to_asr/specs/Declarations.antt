-- Declarations of scalars by their rules (ISO/IEC 1539-1:2018, 8.2, 8.5 and 10.1.12): the symbols of a main program, or of the
-- rules that they break the first, and what its names stand for. A constant is asked of names that an earlier statement
-- declares.
use Rattle.std.specs.Prelude.{ℕ, suc, ◌==◌, ◌+◌, nat_le, Bool, true, false, ◌||◌, ◌&&◌, if◌then◌else◌, List, [], ◌∷◌, ◌++◌, length, Option, Some, None, is_some, Ok, Err}
use Rattle.lf_base.specs.declared.rule.Rule.TheVariants.{E202, E303, E414, E416}
use Rattle.ast_nodes.specs.declared.declaration.Attribute.{Attribute}
use Rattle.ast_nodes.specs.declared.declaration.Attribute.TheVariants as attribute
use Rattle.ast_nodes.specs.declared.declaration.Decl.{Decl}
use Rattle.ast_nodes.specs.declared.declaration.Decl.TheVariants as decl
use Rattle.ast_nodes.specs.declared.declaration.Entity.{Entity as Declaration}
use Rattle.ast_nodes.specs.declared.declaration.Vars.{Vars}
use Rattle.ast_nodes.specs.declared.expression.Expr.{Expr}
use Rattle.type_rules.specs.Values.{Scalar, Evaluation, NoRule, is_kind}
use Rattle.symtab_arena.specs.Scopes.{symbol_numbers}
use Rattle.asr_nodes.specs.declared.code.TheConstants.{PUBLIC, SAVED, PARAMETER, INTENT_NOT_SAID}
use Rattle.asr_nodes.specs.declared.tree.ElemTree.TheVariants as elem
use Rattle.asr_nodes.specs.declared.tree.ExprTree.{ExprTree}
use Rattle.asr_nodes.specs.declared.tree.SymbolTree.{SymbolTree}
use Rattle.asr_nodes.specs.declared.tree.SymbolTree.TheVariants as symbol
use Rattle.asr_nodes.specs.declared.tree.TypeTree.{TypeTree}
use Rattle.fortran_semantics.specs.Declared.{ScalarType, IntegerType, LogicalType, scalar_type}
use Rattle.ast_to_asr.specs.Judged.{Judged, both, map_right, Placed, at_line, both_placed, map_placed}
use Rattle.ast_to_asr.specs.Scope.{Entity, Variable, NamedConstant, Scope, entity_of, added}
use Rattle.ast_to_asr.specs.Expressions.{constant_tree}
use Rattle.ast_to_asr.specs.Demanded.{initial_value}

-- the symbols, each initial value a constant of its variable's type
abbrev pub type_tree : ScalarType → TypeTree
type_tree (IntegerType kind) = record { elem = elem.Integer kind; dims = [] }
type_tree LogicalType = record { elem = elem.Logical; dims = [] }

abbrev pub storage_of : Bool → ℕ
storage_of true = PARAMETER
storage_of false = SAVED

abbrev pub init_trees : ScalarType → Option (Evaluation Scalar) → List ExprTree
init_trees ty None = []
init_trees ty (Some v) = constant_tree ty v ∷ []

abbrev pub variable_symbol : List ℕ → ScalarType → Bool → Option (Evaluation Scalar) → SymbolTree
variable_symbol name ty is_named v = symbol.Variable name PUBLIC (type_tree ty) (storage_of is_named) INTENT_NOT_SAID (init_trees ty v)

-- The attributes of a declaration: how often `parameter` and `save` are given, and whether there are others.
pub record Attributes : Type 0 where
  pub parameters : ℕ
  pub saves : ℕ
  pub others : ℕ

abbrev pub counted : Attribute → Attributes → Attributes
counted attribute.Parameter a = record { parameters = suc a.parameters; saves = a.saves; others = a.others }
counted attribute.Save a = record { parameters = a.parameters; saves = suc a.saves; others = a.others }
counted attribute.Private a = record { parameters = a.parameters; saves = a.saves; others = suc a.others }
counted attribute.Public a = record { parameters = a.parameters; saves = a.saves; others = suc a.others }
counted (attribute.Dimension bounds) a = record { parameters = a.parameters; saves = a.saves; others = suc a.others }
counted (attribute.Intent code) a = record { parameters = a.parameters; saves = a.saves; others = suc a.others }

abbrev pub attributes_of : List Attribute → Attributes
attributes_of [] = record { parameters = 0; saves = 0; others = 0 }
attributes_of (a ∷ more) = counted a (attributes_of more)

abbrev pub is_named_constant : Attributes → Bool
is_named_constant a = nat_le 1 a.parameters

-- An attribute is given once, `parameter` goes without `save`, and with a value.
abbrev pub agree : Attributes → Bool → Bool
agree a has_value = nat_le (a.parameters + a.saves) 1 && (has_value || (a.parameters == 0))

abbrev pub attributes_judged : Attributes → Bool → Judged (Unit {0})
attributes_judged a has_value = if agree a has_value then Ok tt else Err E414

-- A name is declared once, and while there are numbers for symbols. The unit itself takes one.
abbrev pub name_judged : ℕ → Scope → Option Entity → Judged (Unit {0})
name_judged given scope (Some first) = Err E303
name_judged given scope None = if nat_le symbol_numbers (given + suc (length scope)) then Err E416 else Ok tt

-- a value that is demanded, where one is written
abbrev pub init_judged : Option (Judged (Evaluation Scalar)) → Judged (Option (Evaluation Scalar))
init_judged None = Ok None
init_judged (Some x) = map_right Some x

abbrev pub known_value : Judged (Option (Evaluation Scalar)) → Evaluation Scalar
known_value (Ok (Some v)) = v
known_value (Ok None) = NoRule
known_value (Err rule) = NoRule

abbrev pub declared_entity : ScalarType → Bool → Judged (Option (Evaluation Scalar)) → Entity
declared_entity ty true init = NamedConstant ty (known_value init)
declared_entity ty false init = Variable ty

-- An entity: what its name stands for, and its symbol.
pub record Judgement : Type 0 where
  pub entity : Entity
  pub symbol : Judged SymbolTree

abbrev pub symbol_judged : List ℕ → ScalarType → Attributes → Judged (Unit {0}) → Judged (Option (Evaluation Scalar)) → Bool → Judged SymbolTree
symbol_judged name ty a named init has_value =
    map_right (λ p. variable_symbol name ty (is_named_constant a) p.1.1) (both named (both (attributes_judged a has_value) init))

abbrev pub judged_as : List ℕ → ScalarType → Attributes → Judged (Unit {0}) → Judged (Option (Evaluation Scalar)) → Bool → Judgement
judged_as name ty a named init has_value = record { entity = declared_entity ty (is_named_constant a) init; symbol = symbol_judged name ty a named init has_value }

-- Symbols in order, or the first broken rule, and what names stand for behind them.
pub record Declarations : Type 0 where
  pub symbols : Placed (List SymbolTree)
  pub scope : Scope

abbrev pub symbol_in_front : SymbolTree × List SymbolTree → List SymbolTree
symbol_in_front p = p.0 ∷ p.1

abbrev pub before_others : Placed SymbolTree → Declarations → Declarations
before_others symbol others = record { symbols = map_placed symbol_in_front (both_placed symbol others.symbols); scope = others.scope }

-- `given` is how many symbols stand before this unit.
module _ (unit_name : List ℕ) (given : ℕ) where
  abbrev pub maybe_initial : Scope → ScalarType → Option Expr → Option (Judged (Evaluation Scalar))
  maybe_initial before ty None = None
  maybe_initial before ty (Some x) = Some (initial_value unit_name before ty x)

  abbrev pub declaration_judged : Scope → Scope → ScalarType → Attributes → Declaration → Judgement
  declaration_judged before now ty a d =
      judged_as d.name ty a (name_judged given now (entity_of now d.name)) (init_judged (maybe_initial before ty d.init)) (is_some d.init)

  -- one statement: the names that it declares are not asked in it
  abbrev pub entities_judged : ℕ → Scope → Scope → ScalarType → Attributes → List Declaration → Declarations
  entities_judged line before now ty a [] = record { symbols = Ok []; scope = now }
  entities_judged line before now ty a (d ∷ ds) =
      before_others (at_line line (declaration_judged before now ty a d).symbol)
      (entities_judged line before (added now d.name (declaration_judged before now ty a d).entity) ty a ds)

  abbrev pub unbuilt_at : ℕ → Scope → Declarations
  unbuilt_at line scope = record { symbols = Err (record { line = line; rule = E202 }); scope = scope }

  -- an integer has kind 4 or 8
  abbrev pub built_type : Option ScalarType → Option ScalarType
  built_type None = None
  built_type (Some (IntegerType kind)) = if is_kind kind then Some (IntegerType kind) else None
  built_type (Some LogicalType) = Some LogicalType

  abbrev pub variables_judged : Scope → Vars → Option ScalarType → Declarations
  variables_judged scope vars None = unbuilt_at vars.line scope
  variables_judged scope vars (Some ty) = entities_judged vars.line scope scope ty (attributes_of vars.attributes) vars.entities

  abbrev pub decl_judged : Scope → Decl → Declarations
  decl_judged scope (decl.Variables vars) = variables_judged scope vars (built_type (scalar_type vars.type_spec))
  decl_judged scope (decl.ImplicitNone line) = record { symbols = Ok []; scope = scope }
  decl_judged scope (decl.Use used) = unbuilt_at used.line scope
  decl_judged scope (decl.Access line is_private names) = unbuilt_at line scope
  decl_judged scope (decl.TypeDef line name access components) = unbuilt_at line scope
  decl_judged scope (decl.Interface line name names) = unbuilt_at line scope

  abbrev pub behind : Placed (List SymbolTree) → Declarations → Declarations
  behind symbols others = record { symbols = map_placed (λ p. p.0 ++ p.1) (both_placed symbols others.symbols); scope = others.scope }

  abbrev pub decls_judged : Scope → List Decl → Declarations
  decls_judged scope [] = record { symbols = Ok []; scope = scope }
  decls_judged scope (d ∷ ds) = behind (decl_judged scope d).symbols (decls_judged (decl_judged scope d).scope ds)
