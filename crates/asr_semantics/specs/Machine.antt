-- The state of a program that runs, for the meaning of Fortran and of the tree alike (ISO/IEC 1539-1:2018, 5.3.4 and
-- 19.6): a variable is named by its path and bound to a place in the store.
use Rattle.std.specs.Prelude.{ℕ, suc, ◌==◌, Bool, true, false, ◌&&◌, if◌then◌else◌, List, [], ◌∷◌, Option, Some, None}
use Rattle.std.specs.Option.{option_or}
use Rattle.std.specs.Str.{bytes_eq}
use Rattle.lf_base.specs.Outcome.{Location, Stuck}
use Rattle.lf_base.specs.Acts.{Act, bind, give, look, change, wrong, given, trap_at}
use Rattle.type_rules.specs.Values.{Evaluation, Gives, Traps, NoRule, Scalar, Integer, Logical}
use Rattle.type_rules.specs.Store.{Value, Single, Place, Store, read, write}
use Rattle.type_rules.specs.Bindings.{ToPlace, ToCopy, Binding, place_of}
use Rattle.asr_nodes.specs.Reading.{Path}

-- What has been written of a record (13.7.1): nothing behind the leading blank, or last an item that is no characters,
-- or last characters.
pub data Last : Type 0 where
  Nothing : Last
  Plain : Last
  Characters : Last

-- A temporary of a pass holds a value, or where an output record stands.
pub data Temporary : Type 0 where
  Holding : (value : Value) → Temporary
  Recording : (last : Last) → Temporary

abbrev pub Names : Type 0
Names = List (Path × Binding)

-- The number of an instance is given once. The variables of main programs and of modules and the saved ones are static
-- and live as long as the program; the others of a procedure, its dummies and its temporaries belong to one execution
-- of it.
pub record State : Type 0 where
  -- what each instance of a variable holds
  pub store : Store
  -- the number of the next instance
  pub next : ℕ
  pub statics : Names
  -- the names of the procedure that is being executed
  pub frame : Names
  -- its temporaries
  pub temporaries : List (ℕ × Temporary)
  -- what is left of the input
  pub input : List ℕ

abbrev pub M : Type 0 → Type 0
M A = Act State A

abbrev pub same_path : Path → Path → Bool
same_path [] [] = true
same_path (a ∷ p) (b ∷ q) = bytes_eq a b && same_path p q
same_path _ _ = false

abbrev pub bound_in : Names → Path → Option Binding
bound_in [] path = None
bound_in (entry ∷ names) path = if same_path entry.0 path then Some entry.1 else bound_in names path

-- what a variable is bound to: one of the procedure that is being executed, else a static one
abbrev pub binding_of : Path → State → Option Binding
binding_of path s = option_or (bound_in s.frame path) (bound_in s.statics path)

-- the whole of an instance, and the whole of a copy
abbrev pub whole : ℕ → Binding
whole instance = record { target = ToPlace (record { instance = instance; path = [] }); bounds = []; length_of = None }

abbrev pub copy : ℕ → Binding
copy instance = record { target = ToCopy instance; bounds = []; length_of = None }

-- A dummy that is bound to a scalar variable is the variable's place.
abbrev pub by_reference : Binding → Binding
by_reference b = record { target = ToPlace (place_of b); bounds = []; length_of = None }

-- one more instance, with its value
abbrev pub create : Value → State → State
create value s = record { store = (s.next, value) ∷ s.store; next = suc s.next; statics = s.statics; frame = s.frame; temporaries = s.temporaries; input = s.input }

abbrev pub declare : Path → Binding → State → State
declare path b s = record { store = s.store; next = s.next; statics = s.statics; frame = (path, b) ∷ s.frame; temporaries = s.temporaries; input = s.input }

abbrev pub declare_static : Path → Binding → State → State
declare_static path b s = record { store = s.store; next = s.next; statics = (path, b) ∷ s.statics; frame = s.frame; temporaries = s.temporaries; input = s.input }

abbrev pub with_store : Store → State → State
with_store store s = record { store = store; next = s.next; statics = s.statics; frame = s.frame; temporaries = s.temporaries; input = s.input }

-- a temporary is set; what it held before is no longer seen
abbrev pub set : ℕ → Temporary → State → State
set number temporary s = record { store = s.store; next = s.next; statics = s.statics; frame = s.frame; temporaries = (number, temporary) ∷ s.temporaries; input = s.input }

-- a procedure begins with these names alone, and its caller goes on with its own
abbrev pub enter : Names → State → State
enter names s = record { store = s.store; next = s.next; statics = s.statics; frame = names; temporaries = []; input = s.input }

abbrev pub leave : State → State → State
leave caller s = record { store = s.store; next = s.next; statics = s.statics; frame = caller.frame; temporaries = caller.temporaries; input = s.input }

abbrev pub temporary_in : List (ℕ × Temporary) → ℕ → Option Temporary
temporary_in [] number = None
temporary_in (entry ∷ more) number = if entry.0 == number then Some entry.1 else temporary_in more number

-- what an operation gives, or its trap at the statement that is being executed
abbrev pub result : {A : Type 0} → Location → Evaluation A → M A
result here (Gives value) = give value
result here (Traps cause) = trap_at cause here
result here NoRule = wrong Stuck

abbrev pub stuck : {A : Type 0} → Option A → M A
stuck = given Stuck

-- what a variable is bound to, and its value
abbrev pub variable : Path → M Binding
variable path = bind (look (binding_of path)) stuck

abbrev pub fetch : Binding → M Value
fetch b = bind (look (λ s. read s.store (place_of b))) stuck

-- a copy of a value, in an instance of its own
abbrev pub make_copy : Value → M Binding
make_copy value = bind (look (λ s. s.next)) (λ instance. bind (change (create value)) (λ u. give (copy instance)))

-- A scalar is stored where the old value has its type and kind. Other values have no rule yet.
abbrev pub is_like_scalar : Scalar → Scalar → Bool
is_like_scalar (Integer j old) (Integer k new) = j == k
is_like_scalar (Logical old) (Logical new) = true
is_like_scalar _ _ = false

abbrev pub is_like : Value → Value → Bool
is_like (Single old) (Single new) = is_like_scalar old new
is_like _ _ = false

abbrev pub replaced : Store → Place → Value → Option Value → Option Store
replaced store place new None = None
replaced store place new (Some old) = if is_like old new then write store place new else None

abbrev pub stored : Binding → Value → State → Option Store
stored b new s = replaced s.store (place_of b) new (read s.store (place_of b))

abbrev pub become : Option Store → M (Unit {0})
become None = wrong Stuck
become (Some store) = change (with_store store)

abbrev pub assign : Binding → Value → M (Unit {0})
assign b value = bind (look (stored b value)) become

-- the value of a temporary, and where its record stands
abbrev pub held_value : Option Temporary → Option Value
held_value None = None
held_value (Some (Holding value)) = Some value
held_value (Some (Recording last)) = None

abbrev pub held_last : Option Temporary → Option Last
held_last None = None
held_last (Some (Holding value)) = None
held_last (Some (Recording last)) = Some last

abbrev pub temporary_value : ℕ → M Value
temporary_value number = bind (look (λ s. held_value (temporary_in s.temporaries number))) stuck

abbrev pub temporary_last : ℕ → M Last
temporary_last number = bind (look (λ s. held_last (temporary_in s.temporaries number))) stuck
