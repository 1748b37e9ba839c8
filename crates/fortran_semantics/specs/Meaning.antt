-- What a main program does (ISO/IEC 1539-1:2018, clauses 10 and 11), by the tree of its source: scalars and control.
-- Names are looked up as they are met, and types are those of the values at hand. `n` bounds the turns of one execution
-- of a loop. Forms that have no rule yet are stuck.
use Rattle.std.specs.Prelude.{ℕ, suc, ◌+◌, ◌==◌, ℤ, pos, Bool, true, false, if◌then◌else◌, List, [], ◌∷◌, map, Option, Some, None}
use Rattle.std.specs.Str.{bytes_eq}
use Rattle.lf_base.specs.Outcome.{Location, Stuck, Meaning, written}
use Rattle.lf_base.specs.Acts.{bind, give, look, change, stop, wrong, next_or, outcome_of}
use Rattle.lf_base.specs.Operators.{operator_of}
use Rattle.ast_nodes.specs.declared.expression.Designator.{Designator}
use Rattle.ast_nodes.specs.declared.expression.Expr.{Expr}
use Rattle.ast_nodes.specs.declared.expression.Expr.TheOpen.{Expr-F, RefPart-F, Designator-F}
use Rattle.ast_nodes.specs.declared.expression.Expr.TheFolds.{fold-Expr, fold-Designator}
use Rattle.ast_nodes.specs.declared.file.File.{File}
use Rattle.ast_nodes.specs.declared.file.Unit.{Unit as ProgramUnit}
use Rattle.ast_nodes.specs.declared.file.Unit.TheVariants as unit
use Rattle.ast_nodes.specs.declared.statement.Statement.{Statement}
use Rattle.ast_nodes.specs.declared.statement.Statement.TheOpen.{Statement-F, Arm-F, Case-F}
use Rattle.ast_nodes.specs.declared.statement.Statement.TheFolds.{fold-Statement}
use Rattle.type_rules.specs.Values.{Scalar, Integer, Logical, Evaluation, Gives, NoRule, and_then}
use Rattle.type_rules.specs.Store.{Value, Single}
use Rattle.type_rules.specs.Bindings.{Binding}
use Rattle.type_rules.specs.Arrays.{single}
use Rattle.type_rules.specs.Counts.{turns}
use Rattle.type_rules.specs.declared.constant.Op.TheVariants.{Unary, Binary, Intrinsic, Convert}
use Rattle.asr_nodes.specs.Reading.{Path}
use Rattle.asr_nodes.specs.declared.code.TheConstants.{TRUE}
use Rattle.asr_semantics.specs.Machine.{State, M, result, stuck, variable, fetch, assign, create, declare_static, whole}
use Rattle.asr_semantics.specs.Meaning.{Signal, Exits, Cycles, Doing, operate, integer4_of, integer_of, decides, needed, tested, choose, then_next, do_turns, while_turns, status_of, at, print_items}
use Rattle.asr_semantics.specs.Records.{digits}
use Rattle.fortran_semantics.specs.Constants.{Part, Named, Grouped, Constant, literal_kind, literal_value, kind_written, intrinsic_named, is_int, is_huge, huge_of, joined_kind, kind_of, of_type, constant_of, constant_meaning}
use Rattle.fortran_semantics.specs.Declared.{ScalarType, IntegerType, LogicalType, Declared, Declaration, Variable, Parameter, Other, all_declared, declared_as}

-- A statement is left, if not for the next one, by `exit` or `cycle` of a loop (11.1.12, 11.1.7.4.4), which is told by its
-- number: the loops of a program are numbered from 1 in the order of the source.
abbrev pub Loops : Type 0
Loops = List (ℕ × Option (List ℕ))

-- the loops that a statement stands in, the innermost first: the innermost one, or the one of this construct name
abbrev pub has_name : Option (List ℕ) → List ℕ → Bool
has_name None name = false
has_name (Some own) name = bytes_eq own name

abbrev pub loop_of_name : Loops → List ℕ → Option ℕ
loop_of_name [] name = None
loop_of_name (loop ∷ loops) name = if has_name loop.1 name then Some loop.0 else loop_of_name loops name

abbrev pub innermost : Loops → Option ℕ
innermost [] = None
innermost (loop ∷ loops) = Some loop.0

abbrev pub loop_of : Loops → Option (List ℕ) → Option ℕ
loop_of loops None = innermost loops
loop_of loops (Some name) = loop_of_name loops name

-- An expression: its value, the variable that it designates, what a value becomes that is assigned to it, its kind where it
-- is an integer, which needs no value, and the kind that it writes as a literal.
pub record Meant : Type 0 where
  pub value : Location → M Value
  pub place : M Binding
  pub becomes : Value → Evaluation Value
  pub kind : Option ℕ
  pub writes : Option ℕ

abbrev pub no_becoming : Value → Evaluation Value
no_becoming value = NoRule

abbrev pub only_value : (Location → M Value) → Option ℕ → Meant
only_value value kind = record { value = value; place = wrong Stuck; becomes = no_becoming; kind = kind; writes = None }

abbrev pub no_rule : Meant
no_rule = only_value (λ here. wrong Stuck) None

abbrev pub given_scalar : Evaluation Scalar → Location → M Value
given_scalar scalar here = result here (single scalar)

abbrev pub unary_value : ℕ → Meant → Location → M Value
unary_value code e here = bind (e.value here) (λ v. operate here (Unary code) (v ∷ []))

abbrev pub binary_value : ℕ → Meant → Meant → Location → M Value
binary_value code a b here = bind (a.value here) (λ l. needed (decides (operator_of code)) l (bind (b.value here) (λ r. operate here (Binary code) (l ∷ r ∷ []))))

-- the values of all, from the left
abbrev pub each_value : Location → List Meant → M (List Value)
each_value here [] = give []
each_value here (e ∷ es) = bind (e.value here) (λ v. bind (each_value here es) (λ vs. give (v ∷ vs)))

abbrev pub all_kinds : List Meant → Option ℕ
all_kinds [] = None
all_kinds (e ∷ []) = e.kind
all_kinds (e ∷ f ∷ es) = joined_kind e.kind (all_kinds (f ∷ es))

abbrev pub converted : ℕ → Meant → Location → M Value
converted kind e here = bind (e.value here) (λ v. operate here (Convert kind) (v ∷ []))

-- `int` gives kind 4 where no kind is written.
abbrev pub int_to : Meant → Option ℕ → Meant
int_to e None = no_rule
int_to e (Some kind) = only_value (converted kind e) (Some kind)

abbrev pub int_of : List Meant → Meant
int_of (e ∷ []) = only_value (converted 4 e) (Some 4)
int_of (e ∷ k ∷ []) = int_to e k.writes
int_of _ = no_rule

-- The argument of `huge` is not evaluated.
abbrev pub huge_one : List Meant → Meant
huge_one (e ∷ []) = only_value (given_scalar (huge_of e.kind)) e.kind
huge_one _ = no_rule

abbrev pub function_meant : List ℕ → List Meant → Option ℕ → Meant
function_meant name arguments (Some code) = only_value (λ here. bind (each_value here arguments) (operate here (Intrinsic code))) (all_kinds arguments)
function_meant name arguments None = if is_int name then int_of arguments else if is_huge name then huge_one arguments else no_rule

-- a value that is assigned to a variable of this type
abbrev pub becoming : ScalarType → Value → Evaluation Value
becoming ty (Single scalar) = single (of_type ty scalar)
becoming ty _ = NoRule

-- constants and kinds by name
abbrev pub Known : Type 0
Known = List (List ℕ × Constant)

abbrev pub known_in : Known → List ℕ → Option Constant
known_in [] name = None
known_in (entry ∷ known) name = if bytes_eq entry.0 name then Some entry.1 else known_in known name

abbrev pub entry_of : Known → Declaration → Constant
entry_of known (Parameter ty value) = constant_of (and_then (constant_meaning (known_in known) value).value (of_type ty)) (kind_of ty)
entry_of known (Variable ty init) = constant_of NoRule (kind_of ty)
entry_of known Other = constant_of NoRule None

-- what is known behind these declarations, in order
abbrev pub known_behind : List Declared → Known → Known
known_behind [] known = known
known_behind (d ∷ ds) known = known_behind ds ((d.name, entry_of known d.is) ∷ known)

-- a bound or a step, which is converted to kind 4 when it has been evaluated
abbrev pub bound_value : Meant → Location → M ℤ
bound_value e here = bind (converted 4 e here) (λ v. stuck (integer4_of v))

abbrev pub step_value : Option Meant → Location → M ℤ
step_value None here = give (pos 1)
step_value (Some e) here = bound_value e here

abbrev pub condition_value : Option Meant → Location → M Bool
condition_value None here = give true
condition_value (Some e) here = tested e.value here

abbrev pub assigns : Location → Meant → Meant → M (Unit {0})
assigns here target value = bind (value.value here) (λ v. bind (result here (target.becomes v)) (λ w. bind target.place (λ b. assign b w)))

-- `stop` ends with 0, and `error stop` with 1, where no code is written
abbrev pub plain_status : ℕ → ℕ
plain_status is_error = if is_error == TRUE then 1 else 0

abbrev pub stops : Location → ℕ → Option Meant → Doing
stops here is_error None = stop (plain_status is_error)
stops here is_error (Some code) = bind (code.value here) (λ v. bind (stuck (integer_of v)) (λ z. stop (status_of z)))

-- A statement: how many loops stand in it, and what it does, by the loops around it, the number of its first loop, and the
-- source's name.
pub record Deed : Type 0 where
  pub count : ℕ
  pub does : Loops → ℕ → List ℕ → Doing

abbrev pub count_all : List Deed → ℕ
count_all [] = 0
count_all (deed ∷ deeds) = deed.count + count_all deeds

abbrev pub statements : Loops → ℕ → List ℕ → List Deed → Doing
statements loops first source [] = give None
statements loops first source (deed ∷ deeds) = bind (deed.does loops first source) (next_or (statements loops (first + deed.count) source deeds))

-- a part of an `if`
pub record Branch : Type 0 where
  pub line : ℕ
  pub condition : Option Meant
  pub body : List Deed

abbrev pub count_branches : List Branch → ℕ
count_branches [] = 0
count_branches (b ∷ bs) = count_all b.body + count_branches bs

-- The first part whose condition holds. Each condition is evaluated at its own line.
abbrev pub branches : Loops → ℕ → List ℕ → List Branch → Doing
branches loops first source [] = give None
branches loops first source (b ∷ bs) =
    bind (condition_value b.condition (at source b.line)) (choose (statements loops first source b.body) (branches loops (first + count_all b.body) source bs))

-- A loop is numbered in front of those that stand in it.
abbrev pub within_loop : Option (List ℕ) → Loops → ℕ → Loops
within_loop construct loops first = (first, construct) ∷ loops

abbrev pub signals : Option ℕ → (ℕ → Signal) → Doing
signals loop signal = bind (stuck loop) (λ id. give (Some (signal id)))

abbrev pub plain_deed : (List ℕ → Doing) → Deed
plain_deed act = record { count = 0; does = λ loops first source. act source }

-- The declarations of a program of this name, and what is known of its constants.
module _ (unit_name : List ℕ) (declared : List Declared) (known : Known) where
  abbrev pub path_to : List ℕ → Path
  path_to name = unit_name ∷ name ∷ []

  abbrev pub variable_meant : List ℕ → ScalarType → Meant
  variable_meant name ty = record {
    value = λ here. bind (variable (path_to name)) fetch;
    place = variable (path_to name);
    becomes = becoming ty;
    kind = kind_of ty;
    writes = None;
  }

  abbrev pub constant_meant : Option Constant → Meant
  constant_meant None = no_rule
  constant_meant (Some c) = only_value (given_scalar c.value) c.kind

  abbrev pub name_meant : List ℕ → Option Declaration → Meant
  name_meant name None = no_rule
  name_meant name (Some Other) = no_rule
  name_meant name (Some (Variable ty init)) = variable_meant name ty
  name_meant name (Some (Parameter ty value)) = constant_meant (known_in known name)

  -- intrinsic names are seen last
  abbrev pub call_meant : List ℕ → List Meant → Option Declaration → Meant
  call_meant name arguments None = function_meant name arguments (intrinsic_named name)
  call_meant name arguments (Some d) = no_rule

  abbrev pub parts_meant : List (Part Meant) → Meant
  parts_meant (Named name ∷ []) = name_meant name (declared_as declared name)
  parts_meant (Named name ∷ Grouped arguments ∷ []) = call_meant name arguments (declared_as declared name)
  parts_meant _ = no_rule

  abbrev pub expr_layer : Expr-F Meant (Part Meant) Meant → Meant
  expr_layer (Expr-F.Int digits suffix) = record { value = given_scalar (literal_value digits suffix); place = wrong Stuck; becomes = no_becoming; kind = Some (literal_kind suffix); writes = kind_written digits suffix }
  expr_layer (Expr-F.Log value) = only_value (given_scalar (Gives (Logical (value == TRUE)))) None
  expr_layer (Expr-F.Ref designator) = designator
  expr_layer (Expr-F.Unary operator operand) = only_value (unary_value operator operand) operand.kind
  expr_layer (Expr-F.Binary operator left right) = only_value (binary_value operator left right) (joined_kind left.kind right.kind)
  expr_layer (Expr-F.Paren inner) = only_value (λ here. inner.value here) inner.kind
  expr_layer (Expr-F.Char bytes) = no_rule
  expr_layer (Expr-F.Triple lower upper step) = no_rule
  expr_layer (Expr-F.Array items) = no_rule
  expr_layer (Expr-F.Loop variable lower upper step items) = no_rule

  abbrev pub part_layer : RefPart-F Meant (Part Meant) Meant → Part Meant
  part_layer (RefPart-F.Part name) = Named name
  part_layer (RefPart-F.Group arguments) = Grouped arguments

  abbrev pub designator_layer : Designator-F Meant (Part Meant) Meant → Meant
  designator_layer designator = parts_meant designator.parts

  abbrev pub expression : Expr → Meant
  expression = fold-Expr Meant (Part Meant) Meant expr_layer part_layer designator_layer

  abbrev pub designated : Designator → Meant
  designated = fold-Designator Meant (Part Meant) Meant expr_layer part_layer designator_layer

  abbrev pub maybe : Option Expr → Option Meant
  maybe None = None
  maybe (Some e) = Some (expression e)

  abbrev pub print_item : Expr → Option (Location → M Value)
  print_item e = Some (expression e).value

  -- what a variable begins with (8.4): its initial value, else 0 or false
  abbrev pub plain : ScalarType → Evaluation Scalar
  plain (IntegerType kind) = of_type (IntegerType kind) (Integer kind (pos 0))
  plain LogicalType = Gives (Logical false)

  abbrev pub beginning : Known → ScalarType → Option Expr → Evaluation Scalar
  beginning before ty None = plain ty
  beginning before ty (Some init) = and_then (constant_meaning (known_in before) init).value (of_type ty)

  abbrev pub begin_with : List ℕ → Evaluation Scalar → M (Unit {0})
  begin_with name (Gives scalar) =
      bind (look (λ s. s.next)) (λ instance. bind (change (create (Single scalar))) (λ u. change (declare_static (path_to name) (whole instance))))
  begin_with name _ = wrong Stuck

  abbrev pub begin_one : Known → Declared → Declaration → M (Unit {0})
  begin_one before d (Variable ty init) = begin_with d.name (beginning before ty init)
  begin_one before d (Parameter ty value) = give tt
  begin_one before d Other = give tt

  -- the variables in order, each in an instance of its own
  abbrev pub begin_all : List Declared → Known → M (Unit {0})
  begin_all [] before = give tt
  begin_all (d ∷ ds) before = bind (begin_one before d d.is) (λ u. begin_all ds ((d.name, entry_of before d.is) ∷ before))

  -- where one execution of a loop makes at most n turns
  module _ (n : ℕ) where
    abbrev pub do_loop : Location → ℕ → M Binding → Meant → Meant → Option Meant → Doing → Doing
    do_loop here id variable lower upper step body =
        bind (bound_value lower here) (λ first. bind (bound_value upper here) (λ last. bind (step_value step here) (λ by.
        bind (result here (turns first last by)) (λ count. bind variable (λ b. do_turns n here id body b first by count)))))

    abbrev pub while_loop : Location → ℕ → Option Meant → Doing → Doing
    while_loop here id condition body = while_turns n id (condition_value condition here) body

    abbrev pub stmt_layer : Statement-F Deed Branch (Unit {0}) → Deed
    stmt_layer (Statement-F.Assign line target value) = plain_deed (λ source. then_next (assigns (at source line) (designated target) (expression value)))
    stmt_layer (Statement-F.If line construct arms) = record { count = count_branches arms; does = λ loops first source. branches loops first source arms }
    stmt_layer (Statement-F.Do line construct variable lower upper step body) = record {
      count = suc (count_all body);
      does = λ loops first source.
          do_loop (at source line) first (name_meant variable (declared_as declared variable)).place (expression lower) (expression upper) (maybe step)
          (statements (within_loop construct loops first) (suc first) source body);
    }
    stmt_layer (Statement-F.While line construct condition body) = record {
      count = suc (count_all body);
      does = λ loops first source. while_loop (at source line) first (maybe condition) (statements (within_loop construct loops first) (suc first) source body);
    }
    stmt_layer (Statement-F.Print line form advance items) = plain_deed (λ source. then_next (print_items (at source line) form advance (map print_item items)))
    stmt_layer (Statement-F.Stop line is_error code) = plain_deed (λ source. stops (at source line) is_error (maybe code))
    stmt_layer (Statement-F.Exit line construct) = record { count = 0; does = λ loops first source. signals (loop_of loops construct) Exits }
    stmt_layer (Statement-F.Cycle line construct) = record { count = 0; does = λ loops first source. signals (loop_of loops construct) Cycles }
    stmt_layer (Statement-F.Continue line) = plain_deed (λ source. give None)
    stmt_layer (Statement-F.Select line construct value cases) = plain_deed (λ source. wrong Stuck)
    stmt_layer (Statement-F.Call line name arguments) = plain_deed (λ source. wrong Stuck)
    stmt_layer (Statement-F.Read line target iostat) = plain_deed (λ source. wrong Stuck)
    stmt_layer (Statement-F.Return line) = plain_deed (λ source. wrong Stuck)

    abbrev pub arm_layer : Arm-F Deed Branch (Unit {0}) → Branch
    arm_layer arm = record { line = arm.line; condition = maybe arm.condition; body = arm.body }

    abbrev pub case_layer : Case-F Deed Branch (Unit {0}) → Unit {0}
    case_layer case = tt

    abbrev pub statement : Statement → Deed
    statement = fold-Statement Deed Branch (Unit {0}) stmt_layer arm_layer case_layer

    abbrev pub block : List ℕ → List Statement → Doing
    block source body = statements [] 1 source (map statement body)

abbrev pub ended : Option Signal → M ℕ
ended None = give 0
ended (Some signal) = wrong Stuck

abbrev pub run_program : List ℕ → List ℕ → List Declared → List Statement → ℕ → M ℕ
run_program source name declared body n =
    bind (begin_all name declared (known_behind declared []) declared []) (λ u. bind (block name declared (known_behind declared []) n source body) ended)

abbrev pub run_unit : List ℕ → ℕ → List ProgramUnit → M ℕ
run_unit source n (unit.Program line name decls body procs ∷ []) = run_program source name (all_declared decls) body n
run_unit source n _ = wrong Stuck

abbrev pub initial : List ℕ → State
initial input = record { store = []; next = 0; statics = []; frame = []; temporaries = []; input = input }

-- What the program of a file of this name does with an input. It calls nothing, so no depth counts.
abbrev pub fortran_meaning : List ℕ → File → Meaning
fortran_meaning source file input n d = outcome_of (run_unit source n file.units (initial input) (written [] []))
