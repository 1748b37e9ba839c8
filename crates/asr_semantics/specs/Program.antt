-- A whole program: what its variables begin with (ISO/IEC 1539-1:2018, 8.4), what a call does (15.5.3 and 15.6.2), and
-- how the main program runs (5.3.4).
use Rattle.std.specs.Prelude.{ℕ, pos, ◌==◌, Bool, true, false, not, ◌&&◌, if◌then◌else◌, List, [], ◌∷◌, Option, Some, None, option_map}
use Rattle.std.specs.List.{flat_map}
use Rattle.std.specs.Option.{option_and_then}
use Rattle.lf_base.specs.Outcome.{Stuck, Meaning, written}
use Rattle.lf_base.specs.Acts.{bind, give, look, change, wrong, away, within, outcome_of}
use Rattle.lf_base.specs.Depth.{Callee, calls}
use Rattle.type_rules.specs.Values.{Scalar, Integer, Logical, is_kind}
use Rattle.type_rules.specs.Store.{Value, Single}
use Rattle.type_rules.specs.Bindings.{Binding}
use Rattle.type_rules.specs.Shapes.{is_scalar}
use Rattle.asr_nodes.specs.Reading.{Path}
use Rattle.asr_nodes.specs.declared.code.TheConstants.{TRUE}
use Rattle.asr_nodes.specs.declared.tree.ElemTree.{ElemTree}
use Rattle.asr_nodes.specs.declared.tree.ElemTree.TheVariants as elem
use Rattle.asr_nodes.specs.declared.tree.ExprTree.{ExprTree, ExprTree-F, fold-ExprTree}
use Rattle.asr_nodes.specs.declared.tree.StmtTree.{StmtTree}
use Rattle.asr_nodes.specs.declared.tree.TypeTree.{TypeTree}
use Rattle.asr_nodes.specs.declared.tree.UnitTree.{UnitTree}
use Rattle.asr_nodes.specs.declared.tree.UnitTree.TheVariants as unit
use Rattle.asr_semantics.specs.Machine.{State, Names, M, stuck, is_like, variable, fetch, create, declare, declare_static, whole, enter, leave}
use Rattle.asr_semantics.specs.Entities.{Entities, Entity, Procedure, Variable, entities_of, entity_in, source_in, is_static_in, is_own_in, chosen, is_among, reached}
use Rattle.asr_semantics.specs.Meaning.{Signal, Exits, Cycles, Returns, Calls, logical, block}

-- the value of a constant
abbrev pub constant_layer : ExprTree-F (Unit {0}) (Option Scalar) (Unit {0}) (Unit {0}) (Unit {0}) (Unit {0}) → Option Scalar
constant_layer (ExprTree-F.IntConst kind value) = Some (Integer kind value)
constant_layer (ExprTree-F.LogConst value) = Some (Logical (logical value))
constant_layer _ = None

abbrev pub no_part : {X : Type 0} → X → Unit {0}
no_part x = tt

abbrev pub constant_of : ExprTree → Option Scalar
constant_of = fold-ExprTree (Unit {0}) (Option Scalar) (Unit {0}) (Unit {0}) (Unit {0}) (Unit {0}) no_part constant_layer no_part no_part no_part no_part

-- A variable without an initial value begins as 0 or false. Other types have no rule yet.
abbrev pub plain_value : ElemTree → Option Value
plain_value (elem.Integer kind) = if is_kind kind then Some (Single (Integer kind (pos 0))) else None
plain_value elem.Logical = Some (Single (Logical false))
plain_value (elem.Character len) = None
plain_value (elem.Derived symbol) = None

abbrev pub plain_beginning : TypeTree → Option Value
plain_beginning ty = if is_scalar ty.dims then plain_value ty.elem else None

-- an initial value has the type and kind of its variable
abbrev pub initial_like : Value → Scalar → Option Value
initial_like plain scalar = if is_like plain (Single scalar) then Some (Single scalar) else None

abbrev pub initial_value : List ExprTree → Value → Option Value
initial_value [] plain = Some plain
initial_value (e ∷ []) plain = option_and_then (initial_like plain) (constant_of e)
initial_value (e ∷ f ∷ es) plain = None

abbrev pub beginning : Entity → Option Value
beginning (Variable ty storage init) = option_and_then (initial_value init) (plain_beginning ty)
beginning _ = None

-- variables that begin, each in an instance of its own, in order
abbrev pub begin_each : (Path → Binding → State → State) → Entities → M (Unit {0})
begin_each bound [] = give tt
begin_each bound (e ∷ es) =
    bind (stuck (beginning e.1)) (λ value. bind (look (λ s. s.next)) (λ instance.
    bind (change (create value)) (λ u. bind (change (bound e.0 (whole instance))) (λ w. begin_each bound es))))

-- the dummies of a procedure by their order, each bound to its actual argument
abbrev pub names_of : List Path → List Binding → Option Names
names_of [] [] = Some []
names_of (path ∷ paths) (b ∷ bs) = option_map (λ names. (path, b) ∷ names) (names_of paths bs)
names_of _ _ = None

-- A procedure is left by `return` or behind its last statement.
abbrev pub ended : Option Signal → M (Unit {0})
ended None = give tt
ended (Some Returns) = give tt
ended (Some (Exits id)) = wrong Stuck
ended (Some (Cycles id)) = wrong Stuck

-- the value of a function is that of its result variable
abbrev pub result_value : Option Path → M (Option Value)
result_value None = give None
result_value (Some path) = bind (variable path) (λ b. bind (fetch b) (λ v. give (Some v)))

-- whether a procedure's body is not there: one of a module whose trees were loaded, but for a simple function
abbrev pub is_elsewhere : List (List ℕ) → Path → ℕ → Bool
is_elsewhere loaded [] simple = false
is_elsewhere loaded (name ∷ path) simple = is_among name loaded && not (simple == TRUE)

-- `units` are the main program and its modules, of which those in `loaded` were loaded; `n` bounds turns.
module _ (units : List UnitTree) (loaded : List (List ℕ)) (n : ℕ) where
  abbrev pub entities : Entities
  entities = entities_of units

  abbrev pub execute : Calls → Path → List ℕ → Option Path → List StmtTree → M (Option Value)
  execute inner path source result body =
      bind (begin_each declare (chosen (is_own_in path) entities)) (λ u.
      bind (block entities n inner source body) (λ signal. bind (ended signal) (λ w. result_value result)))

  -- a procedure in a frame of its own, in which its dummies are bound
  abbrev pub framed : Calls → Path → List Path → Option Path → List StmtTree → List Binding → M (Option Value)
  framed inner path dummies result body arguments =
      bind (stuck (names_of dummies arguments)) (λ names. bind (stuck (source_in units path)) (λ source.
      within (enter names) leave (execute inner path source result body)))

  abbrev pub here_or_away : Bool → M (Option Value) → M (Option Value)
  here_or_away true act = away
  here_or_away false act = act

  abbrev pub run_entity : Calls → Path → List Binding → Option Entity → M (Option Value)
  run_entity inner path arguments (Some (Procedure dummies result simple body)) =
      here_or_away (is_elsewhere loaded path simple) (framed inner path dummies result body arguments)
  run_entity inner path arguments _ = wrong Stuck

  abbrev pub callee : Callee State (Option Value) (Path × List Binding)
  callee inner call = run_entity inner call.0 call.1 (entity_in entities call.0)

  -- the static variables of the modules that the main program reaches, a dependency before its user, then its own
  abbrev pub statics_of : List ℕ → Entities
  statics_of name = flat_map (λ unit. chosen (is_static_in unit) entities) (reached units name)

  abbrev pub main_ended : Option Signal → M ℕ
  main_ended None = give 0
  main_ended (Some signal) = wrong Stuck

  -- the main program, at depth 0
  abbrev pub run_unit : ℕ → UnitTree → M ℕ
  run_unit d (unit.Program name source deps symbols body) =
      bind (begin_each declare_static (statics_of name)) (λ u. bind (block entities n (calls callee d) source body) main_ended)
  run_unit d (unit.Module name source deps symbols) = wrong Stuck

  abbrev pub is_program : UnitTree → Bool
  is_program (unit.Program name source deps symbols body) = true
  is_program (unit.Module name source deps symbols) = false

  abbrev pub programs : List UnitTree → List UnitTree
  programs [] = []
  programs (u ∷ us) = if is_program u then u ∷ programs us else programs us

  -- There is exactly one main program.
  abbrev pub run_main : ℕ → List UnitTree → M ℕ
  run_main d (u ∷ []) = run_unit d u
  run_main d _ = wrong Stuck

  abbrev pub initial : List ℕ → State
  initial input = record { store = []; next = 0; statics = []; frame = []; temporaries = []; input = input }

-- What a program of these units does with an input; a call of a procedure whose body is not there is Away.
abbrev pub tree_meaning : List UnitTree → List (List ℕ) → Meaning
tree_meaning units loaded input n d = outcome_of (run_main units loaded n d (programs units loaded n units) (initial units loaded n input) (written [] []))
