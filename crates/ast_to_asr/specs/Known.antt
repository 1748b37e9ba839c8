-- What the names of a unit are known for while its source is read: the code's own types, and the scope that they stand for.
use Rattle.std.specs.Prelude.{ℕ, List, [], ◌∷◌, ◌++◌, map, Option, Some, None}
use Rattle.std.specs.Map.{lookup}
use Rattle.std.specs.Str.{bytes_eq}
use Rattle.type_rules.specs.Values.{Scalar, Evaluation, Gives, NoRule}
use Rattle.type_rules.specs.Values.{Integer as IntegerValue, Logical as LogicalValue}
use Rattle.fortran_semantics.specs.Declared as declared
use Rattle.ast_to_asr.specs.Scope.{Scope, Entity, Variable, NamedConstant}
use Rattle.ast_to_asr.specs.declared.names.ScalarType.{ScalarType}
use Rattle.ast_to_asr.specs.declared.names.ScalarType.TheVariants.{Integer, Logical}
use Rattle.ast_to_asr.specs.declared.names.Constant.{Constant}
use Rattle.ast_to_asr.specs.declared.names.Constant.TheVariants as constant
use Rattle.ast_to_asr.specs.declared.names.Known.{Known}
use Rattle.ast_to_asr.specs.declared.names.Known.TheVariants as known

abbrev pub type_of : ScalarType → declared.ScalarType
type_of (Integer kind) = declared.IntegerType kind
type_of Logical = declared.LogicalType

abbrev pub scalar_of : Constant → Scalar
scalar_of (constant.Integer kind value) = IntegerValue kind value
scalar_of (constant.Logical value) = LogicalValue value

-- a value that is known, or none
abbrev pub evaluation_of : Option Constant → Evaluation Scalar
evaluation_of None = NoRule
evaluation_of (Some c) = Gives (scalar_of c)

abbrev pub entity_known : Known → Entity
entity_known (known.Variable symbol ty) = Variable (type_of ty)
entity_known (known.NamedConstant ty value) = NamedConstant (type_of ty) (evaluation_of value)

-- names with what they are known for, in the order of their declarations
abbrev pub Entries : Type 0
Entries = List (List ℕ × Known)

abbrev pub known_in : Entries → List ℕ → Option Known
known_in entries name = lookup (bytes_eq name) entries

abbrev pub scope_of : Entries → Scope
scope_of = map (λ e. (e.0, entity_known e.1))

abbrev pub with_new : Entries → List ℕ → Known → Option Known → Entries
with_new entries name is None = entries ++ (name, is) ∷ []
with_new entries name is (Some first) = entries

-- a name that is declared, where it was not declared before
abbrev pub with_name : Entries → List ℕ → Known → Entries
with_name entries name is = with_new entries name is (known_in entries name)
