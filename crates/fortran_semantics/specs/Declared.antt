-- What a main program declares (ISO/IEC 1539-1:2018, 8.2 and 8.5): its scalar variables and its named constants, in
-- order, each with the path under which it is known.
use Rattle.std.specs.Prelude.{ℕ, Bool, true, false, ◌||◌, if◌then◌else◌, List, [], ◌∷◌, Option, Some, None}
use Rattle.std.specs.List.{flat_map}
use Rattle.std.specs.Str.{bytes_eq}
use Rattle.ast_nodes.specs.declared.declaration.Attribute.{Attribute}
use Rattle.ast_nodes.specs.declared.declaration.Attribute.TheVariants as attribute
use Rattle.ast_nodes.specs.declared.declaration.Decl.{Decl}
use Rattle.ast_nodes.specs.declared.declaration.Decl.TheVariants as decl
use Rattle.ast_nodes.specs.declared.declaration.Entity.{Entity}
use Rattle.ast_nodes.specs.declared.declaration.TypeSpec.{TypeSpec}
use Rattle.ast_nodes.specs.declared.declaration.TypeSpec.TheVariants as spec
use Rattle.ast_nodes.specs.declared.declaration.Vars.{Vars}
use Rattle.ast_nodes.specs.declared.expression.Expr.{Expr}

-- the type of a scalar
pub data ScalarType : Type 0 where
  IntegerType : (kind : ℕ) → ScalarType
  LogicalType : ScalarType

-- A variable with its initial value, a named constant with its value, or an entity that has no rule yet.
pub data Declaration : Type 0 where
  Variable : (ty : ScalarType) (init : Option Expr) → Declaration
  Parameter : (ty : ScalarType) (value : Expr) → Declaration
  Other : Declaration

pub record Declared : Type 0 where
  pub name : List ℕ
  pub is : Declaration

abbrev pub is_parameter : List Attribute → Bool
is_parameter [] = false
is_parameter (attribute.Parameter ∷ more) = true
is_parameter (a ∷ more) = is_parameter more

-- a type of scalars, where the attributes give no shape
abbrev pub has_shape : List Attribute → Bool
has_shape [] = false
has_shape (attribute.Dimension bounds ∷ more) = true
has_shape (a ∷ more) = has_shape more

abbrev pub scalar_type : TypeSpec → Option ScalarType
scalar_type (spec.Integer kind) = Some (IntegerType kind)
scalar_type spec.Logical = Some LogicalType
scalar_type (spec.Character len) = None
scalar_type (spec.Derived name) = None

abbrev pub parameter_of : ScalarType → Option Expr → Declaration
parameter_of ty None = Other
parameter_of ty (Some value) = Parameter ty value

abbrev pub declaration_of : Option ScalarType → Bool → Bool → Option Expr → Declaration
declaration_of None shaped constant init = Other
declaration_of (Some ty) true constant init = Other
declaration_of (Some ty) false true init = parameter_of ty init
declaration_of (Some ty) false false init = Variable ty init

abbrev pub is_any : {X : Type 0} → List X → Bool
is_any [] = false
is_any (x ∷ xs) = true

abbrev pub is_shaped : List Attribute → Entity → Bool
is_shaped attributes entity = has_shape attributes || is_any entity.bounds

abbrev pub entity_declared : Vars → Entity → Declared
entity_declared vars entity = record {
  name = entity.name;
  is = declaration_of (scalar_type vars.type_spec) (is_shaped vars.attributes entity) (is_parameter vars.attributes) entity.init;
}

abbrev pub each_declared : Vars → List Entity → List Declared
each_declared vars [] = []
each_declared vars (entity ∷ entities) = entity_declared vars entity ∷ each_declared vars entities

abbrev pub decl_declared : Decl → List Declared
decl_declared (decl.Variables vars) = each_declared vars vars.entities
decl_declared (decl.Use used) = []
decl_declared (decl.ImplicitNone line) = []
decl_declared (decl.Access line is_private names) = []
decl_declared (decl.TypeDef line name access components) = record { name = name; is = Other } ∷ []
decl_declared (decl.Interface line name names) = record { name = name; is = Other } ∷ []

abbrev pub all_declared : List Decl → List Declared
all_declared = flat_map decl_declared

abbrev pub declared_as : List Declared → List ℕ → Option Declaration
declared_as [] name = None
declared_as (d ∷ ds) name = if bytes_eq d.name name then Some d.is else declared_as ds name
