-- The states in which each variable of a main program holds a value of its declared type, which all states that follow do.
use Rattle.std.specs.Prelude.{◌≡◌, ℕ, true, List, [], ◌∷◌, Option, Some}
use Rattle.type_rules.specs.Values.{Scalar, Integer, Logical, is_in_kind, is_kind}
use Rattle.type_rules.specs.Store.{Value, Single, Array, Record, Store, held}
use Rattle.type_rules.specs.Bindings.{Binding}
use Rattle.asr_semantics.specs.Machine.{State, bound_in, whole}
use Rattle.fortran_semantics.specs.Declared.{ScalarType, IntegerType, LogicalType, Declared, Variable, declared_as}
use Rattle.ast_nodes.specs.declared.expression.Expr.{Expr}

-- The range belongs to the type.
abbrev pub IsTyped : ScalarType → Scalar → Type 0
IsTyped (IntegerType kind) (Integer k z) = (k ≡ kind) × (is_kind kind ≡ true) × (is_in_kind kind z ≡ true)
IsTyped LogicalType (Logical truth) = Unit {0}
IsTyped _ _ = ⊥

abbrev pub HasType : ScalarType → Value → Type 0
HasType ty (Single scalar) = IsTyped ty scalar
HasType ty (Array element extents elements) = ⊥
HasType ty (Record components) = ⊥

-- an instance that holds a value of this type
pub record Cell (store : Store) (instance : ℕ) (ty : ScalarType) : Type 0 where
  pub value : Value
  pub is : held store instance ≡ Some value
  pub typed : HasType ty value

pub record IsBound (ty : ScalarType) (b : Binding) (s : State) : Type 0 where
  pub instance : ℕ
  pub is : b ≡ whole instance
  pub cell : Cell s.store instance ty

module _ (unit_name : List ℕ) (declared : List Declared) where
  pub record Bound (s : State) (name : List ℕ) (ty : ScalarType) : Type 0 where
    pub binding : Binding
    pub is : bound_in s.statics (unit_name ∷ name ∷ []) ≡ Some binding
    pub bound : IsBound ty binding s

  pub record Typed (s : State) : Type 0 where
    pub frame : s.frame ≡ []
    pub variables : (name : List ℕ) (ty : ScalarType) (init : Option Expr) → declared_as declared name ≡ Some (Variable ty init) → Bound s name ty

-- No variable is bound anew, and each instance keeps the type of its value.
pub record Later (s t : State) : Type 0 where
  pub frame : t.frame ≡ s.frame
  pub statics : t.statics ≡ s.statics
  pub cells : (instance : ℕ) (ty : ScalarType) → Cell s.store instance ty → Cell t.store instance ty
