-- What names stand for in a main program (ISO/IEC 1539-1:2018, 19.3): its variables and its named constants, in the order of
-- their declarations. A name that is declared twice keeps its first entity.
use Rattle.std.specs.Prelude.{ℕ, if◌then◌else◌, List, [], ◌∷◌, ◌++◌, Option, Some, None}
use Rattle.std.specs.Str.{bytes_eq}
use Rattle.type_rules.specs.Values.{Scalar, Evaluation, NoRule}
use Rattle.fortran_semantics.specs.Constants.{Constant, constant_of, kind_of}
use Rattle.fortran_semantics.specs.Declared.{ScalarType}

-- A variable, or a named constant with its value, which is not known where its declaration breaks a rule.
pub data Entity : Type 0 where
  Variable : (ty : ScalarType) → Entity
  NamedConstant : (ty : ScalarType) (value : Evaluation Scalar) → Entity

abbrev pub Scope : Type 0
Scope = List (List ℕ × Entity)

abbrev pub entity_of : Scope → List ℕ → Option Entity
entity_of [] name = None
entity_of (entry ∷ scope) name = if bytes_eq entry.0 name then Some entry.1 else entity_of scope name

abbrev pub added_new : Scope → List ℕ → Entity → Option Entity → Scope
added_new scope name entity None = scope ++ (name, entity) ∷ []
added_new scope name entity (Some first) = scope

abbrev pub added : Scope → List ℕ → Entity → Scope
added scope name entity = added_new scope name entity (entity_of scope name)

-- what constant expressions ask of a name
abbrev pub constant_entity : Entity → Constant
constant_entity (Variable ty) = constant_of NoRule (kind_of ty)
constant_entity (NamedConstant ty value) = constant_of value (kind_of ty)

abbrev pub constant_in : Scope → List ℕ → Option Constant
constant_in [] name = None
constant_in (entry ∷ scope) name = if bytes_eq entry.0 name then Some (constant_entity entry.1) else constant_in scope name
