-- When an expression of a source and its tree do the same, in every state in which each variable holds a value of its type.
use Rattle.std.specs.Prelude.{◌≡◌, ℕ, true, List, [], ◌∷◌, Option, Some, None, Ok, Err}
use Rattle.lf_base.specs.Outcome.{Location, Written, Ended, Cut, Wrong}
use Rattle.lf_base.specs.Acts.{Stretch, Going, Stopped}
use Rattle.ast_nodes.specs.declared.expression.Designator.{Designator}
use Rattle.ast_nodes.specs.declared.expression.Expr.{Expr}
use Rattle.type_rules.specs.Store.{Value}
use Rattle.asr_semantics.specs.Machine.{State, M}
use Rattle.asr_nodes.specs.declared.tree.StmtTree.{StmtTree}
use Rattle.asr_semantics.specs.Meaning.{Signal, Doing, Calls, then_next, at, expression, statement}
use Rattle.type_rules.specs.Values.{Scalar, Evaluation, Gives, Traps, NoRule, is_kind}
use Rattle.asr_semantics.specs.Entities.{Entities, target}
use Rattle.fortran_semantics.specs.Constants.{Constant, constant_of, kind_of}
use Rattle.fortran_semantics.specs.Declared.{ScalarType, IntegerType, LogicalType, Declared, Declaration, Variable, Parameter, Other, declared_as}
use Rattle.fortran_semantics.specs.Meaning.{Meant, Known, known_in, assigns, designated, expression as meant}
use Rattle.ast_to_asr.specs.Scope as names
use Rattle.ast_to_asr.specs.Scope.{Scope, entity_of}
use Rattle.ast_to_asr.specs.Judged.{Judged}
use Rattle.ast_to_asr.specs.Expressions.{Elab, elab_expr, elab_designator}
use Rattle.ast_to_asr.specs.Statements.{assign_tree}
use Rattle.fortran_link.specs.Typed.{IsTyped, HasType, Typed, Later}

abbrev pub IsKinded : ScalarType → Type 0
IsKinded (IntegerType kind) = is_kind kind ≡ true
IsKinded LogicalType = Unit {0}

-- the kind of an integer; nothing asks for that of a logical
abbrev pub KindIs : ScalarType → Option ℕ → Type 0
KindIs (IntegerType kind) k = k ≡ Some kind
KindIs LogicalType k = Unit {0}

abbrev pub IsKnown : ScalarType → Evaluation Scalar → Type 0
IsKnown ty (Gives scalar) = IsTyped ty scalar
IsKnown ty (Traps cause) = ⊥
IsKnown ty NoRule = ⊥

-- What a name stands for, by the scope, by the declarations and by the constants that are known: a variable of one type,
-- whose path leads to itself, or a constant of one value.
abbrev pub AgreeAt : Entities → List ℕ → List ℕ → Option names.Entity → Option Declaration → Option Constant → Type 0
AgreeAt es unit_name name None None k = Unit {0}
AgreeAt es unit_name name (Some (names.Variable ty)) (Some (Variable ty' init)) k = (ty' ≡ ty) × IsKinded ty × (target es (unit_name ∷ name ∷ []) ≡ unit_name ∷ name ∷ [])
AgreeAt es unit_name name (Some (names.NamedConstant ty v)) (Some (Parameter ty' value)) (Some c) = (c ≡ constant_of v (kind_of ty)) × IsKinded ty × IsKnown ty v
AgreeAt es unit_name name _ _ _ = ⊥

abbrev pub Agree : Entities → List ℕ → Scope → List Declared → Known → Type 0
Agree es unit_name scope declared known = (name : List ℕ) → AgreeAt es unit_name name (entity_of scope name) (declared_as declared name) (known_in known name)

-- What an expression of a source does from a state, and that its tree does the same: it goes on in a later state, in which each
-- variable keeps its type, with a value of the expression's type, or the program ends, or its bound is reached; nothing is stuck.
abbrev pub GoesOn : State → ScalarType → Stretch State Value → Type 0
GoesOn s ty (Going value t sofar) = Later s t × HasType ty value
GoesOn s ty (Stopped (Ended sofar status location)) = Unit {0}
GoesOn s ty (Stopped (Cut sofar)) = Unit {0}
GoesOn s ty (Stopped (Wrong fault)) = ⊥

abbrev pub DoTheSame : List ℕ → List Declared → ScalarType → M Value → M Value → Type 0
DoTheSame unit_name declared ty act act' = (s : State) → Typed unit_name declared s → (sofar : Written) → GoesOn s ty (act s sofar) × (act' s sofar ≡ act s sofar)

-- an expression that breaks no rule, and its tree, wherever it is evaluated
abbrev pub Alike : List ℕ → List Declared → Entities → ℕ → Calls → Elab → Meant → Type 0
Alike unit_name declared es n inner (Ok a) m = (here : Location) → DoTheSame unit_name declared a.ty (m.value here) ((expression es n inner a.tree).value here)
Alike unit_name declared es n inner (Err rule) m = Unit {0}

-- each expression of a source, where its names stand for the same
abbrev pub ExpressionsAgree : Type 0
ExpressionsAgree =
    (unit_name : List ℕ) (scope : Scope) (declared : List Declared) (known : Known) (es : Entities) → Agree es unit_name scope declared known → (n : ℕ) (inner : Calls) (x : Expr) → Alike unit_name declared es n inner (elab_expr unit_name scope x) (meant unit_name declared known x)

-- The same of a statement: it goes on in a later state, leaves what is around it, or ends.
abbrev pub Continues : State → Stretch State (Option Signal) → Type 0
Continues s (Going signal t sofar) = Later s t
Continues s (Stopped (Ended sofar status location)) = Unit {0}
Continues s (Stopped (Cut sofar)) = Unit {0}
Continues s (Stopped (Wrong fault)) = ⊥

abbrev pub ExecuteTheSame : List ℕ → List Declared → Doing → Doing → Type 0
ExecuteTheSame unit_name declared act act' = (s : State) → Typed unit_name declared s → (sofar : Written) → Continues s (act s sofar) × (act' s sofar ≡ act s sofar)

abbrev pub StatementAlike : List ℕ → List Declared → Entities → ℕ → Calls → Judged StmtTree → (List ℕ → Doing) → Type 0
StatementAlike unit_name declared es n inner (Ok tree) does = (source : List ℕ) → ExecuteTheSame unit_name declared (does source) (statement es n inner tree source)
StatementAlike unit_name declared es n inner (Err rule) does = Unit {0}

-- each assignment at a line, where loops around it step these variables
abbrev pub AssignmentsAgree : Type 0
AssignmentsAgree =
    (unit_name : List ℕ) (scope : Scope) (declared : List Declared) (known : Known) (es : Entities) → Agree es unit_name scope declared known → (n : ℕ) (inner : Calls) (line : ℕ) (active : List (List ℕ)) (target : Designator) (x : Expr)
    → StatementAlike unit_name declared es n inner (assign_tree line active (elab_designator unit_name scope target) (elab_expr unit_name scope x)) (λ source. then_next (assigns (at source line) (designated unit_name declared known target) (meant unit_name declared known x)))
