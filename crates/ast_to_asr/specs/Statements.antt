-- Statements by their rules (ISO/IEC 1539-1:2018, 10.2, 11.1, 11.4 and 12.6): the trees of each, or of the rules that it and
-- what stands in it break the first, by line and then by number.
use Rattle.std.specs.Prelude.{ℕ, suc, ◌+◌, ◌==◌, pos, Bool, true, false, ◌&&◌, if◌then◌else◌, List, [], ◌∷◌, ◌++◌, map, Option, Some, None, Ok, Err}
use Rattle.std.specs.List.{list_any}
use Rattle.std.specs.Str.{bytes_eq}
use Rattle.lf_base.specs.declared.rule.Rule.TheVariants.{E202, E401, E402, E409, E410, E417}
use Rattle.ast_nodes.specs.declared.code.TheConstants.{FORMAT_LIST, FORMAT_INTEGER}
use Rattle.ast_nodes.specs.declared.expression.Expr.{Expr}
use Rattle.ast_nodes.specs.declared.statement.Statement.{Statement}
use Rattle.ast_nodes.specs.declared.statement.Statement.TheOpen.{Statement-F, Arm-F, Case-F}
use Rattle.ast_nodes.specs.declared.statement.Statement.TheFolds.{fold-Statement}
use Rattle.asr_nodes.specs.declared.code.TheConstants.{TRUE}
use Rattle.asr_nodes.specs.declared.tree.ExprTree.{ExprTree}
use Rattle.asr_nodes.specs.declared.tree.ExprTree.TheVariants as e
use Rattle.asr_nodes.specs.declared.tree.PrintItemTree.TheVariants as item
use Rattle.asr_nodes.specs.declared.tree.StmtTree.{StmtTree}
use Rattle.asr_nodes.specs.declared.tree.StmtTree.TheVariants as s
use Rattle.fortran_semantics.specs.Declared.{ScalarType, IntegerType, LogicalType}
use Rattle.fortran_semantics.specs.Meaning.{Loops, loop_of, within_loop}
use Rattle.ast_to_asr.specs.Judged.{Judged, right, both, and_then, map_right, all, Placed, at_line, both_placed, map_placed}
use Rattle.ast_to_asr.specs.Scope.{Scope, entity_of}
use Rattle.ast_to_asr.specs.Expressions.{Elaborated, Elab, in_kind, constant_tree, name_tree, elab_expr, elab_designator}
use Rattle.ast_to_asr.specs.Demanded.{is_integer, stop_value}

-- A value in the type of what it is assigned to.
abbrev pub assigned_tree : ScalarType → ScalarType → ExprTree → Option ExprTree
assigned_tree (IntegerType kind) (IntegerType k) x = Some (in_kind kind k x)
assigned_tree LogicalType LogicalType x = Some x
assigned_tree _ _ x = None

-- a condition is a logical, and a bound an integer, converted to kind 4
abbrev pub condition_of : Elab → Judged ExprTree
condition_of x = and_then x (λ a. right E402 (assigned_tree LogicalType a.ty a.tree))

abbrev pub bound_of : Elab → Judged ExprTree
bound_of x = and_then x (λ a. right E401 (assigned_tree (IntegerType 4) a.ty a.tree))

abbrev pub step_of : Option Elab → Judged ExprTree
step_of None = Ok (e.IntConst 4 (pos 1))
step_of (Some x) = bound_of x

-- Where a statement stands: the loops around it, and the variables that they step.
pub record Around : Type 0 where
  pub loops : Loops
  pub active : List (List ℕ)

abbrev pub outside : Around
outside = record { loops = []; active = [] }

abbrev pub in_while : Option (List ℕ) → ℕ → Around → Around
in_while construct id around = record { loops = within_loop construct around.loops id; active = around.active }

abbrev pub in_do : Option (List ℕ) → ℕ → List ℕ → Around → Around
in_do construct id variable around = record { loops = within_loop construct around.loops id; active = variable ∷ around.active }

-- What is changed is a variable, and none that a loop around steps (11.1.7.4.3).
abbrev pub changed_name : List (List ℕ) → Elaborated → Option (List ℕ) → Elab
changed_name active a None = Err E409
changed_name active a (Some name) = if list_any (bytes_eq name) active then Err E410 else Ok a

abbrev pub changed : List (List ℕ) → Elab → Elab
changed active x = and_then x (λ a. changed_name active a a.variable)

abbrev pub assigned_value : Elab → Elab → Judged ExprTree
assigned_value target v = and_then (both target v) (λ p. right E401 (assigned_tree p.0.ty p.1.ty p.1.tree))

abbrev pub assign_tree : ℕ → List (List ℕ) → Elab → Elab → Judged StmtTree
assign_tree line active target v = map_right (λ p. s.Assign line p.0.tree p.1) (both (changed active target) (assigned_value target v))

-- The variable of a loop is an integer of kind 4.
abbrev pub is_counter : ScalarType → Bool
is_counter (IntegerType kind) = kind == 4
is_counter LogicalType = false

abbrev pub counter_type : Elab → Elab
counter_type x = and_then x (λ a. if is_counter a.ty then Ok a else Err E401)

abbrev pub counter_of : List (List ℕ) → Elab → Elab
counter_of active x = map_right (λ p. p.0) (both (changed active x) (counter_type x))

-- the variable, the bounds and the step of a loop
pub record Control : Type 0 where
  pub variable : ExprTree
  pub lower : ExprTree
  pub upper : ExprTree
  pub step : ExprTree

abbrev pub control_of : Elab → Judged ExprTree → Judged ExprTree → Judged ExprTree → Judged Control
control_of variable lower upper step =
    map_right (λ p. record { variable = p.0.tree; lower = p.1.0; upper = p.1.1.0; step = p.1.1.1 }) (both variable (both lower (both upper step)))

-- A statement: how many loops stand in it, and its trees by what is around it and the number of its first loop.
pub record Formed : Type 0 where
  pub count : ℕ
  pub trees : Around → ℕ → Placed (List StmtTree)

abbrev pub count_all : List Formed → ℕ
count_all [] = 0
count_all (f ∷ fs) = f.count + count_all fs

abbrev pub then_trees : Placed (List StmtTree) → Placed (List StmtTree) → Placed (List StmtTree)
then_trees a b = map_placed (λ p. p.0 ++ p.1) (both_placed a b)

abbrev pub block : Around → ℕ → List Formed → Placed (List StmtTree)
block around first [] = Ok []
block around first (f ∷ fs) = then_trees (f.trees around first) (block around (first + f.count) fs)

pub record Branch : Type 0 where
  pub line : ℕ
  pub condition : Option Elab
  pub body : List Formed

abbrev pub count_branches : List Branch → ℕ
count_branches [] = 0
count_branches (b ∷ bs) = count_all b.body + count_branches bs

abbrev pub one : StmtTree → List StmtTree
one x = x ∷ []

abbrev pub if_tree : ℕ → ExprTree × (List StmtTree × List StmtTree) → List StmtTree
if_tree line p = one (s.If line p.0 p.1.0 p.1.1)

-- Each `else if` is an If of its own line alone in the else part.
abbrev pub branch_tree : ℕ → Option Elab → Placed (List StmtTree) → Placed (List StmtTree) → Placed (List StmtTree)
branch_tree line None body rest = then_trees body rest
branch_tree line (Some c) body rest = map_placed (if_tree line) (both_placed (at_line line (condition_of c)) (both_placed body rest))

abbrev pub branches : Around → ℕ → List Branch → Placed (List StmtTree)
branches around first [] = Ok []
branches around first (b ∷ bs) = branch_tree b.line b.condition (block around first b.body) (branches around (first + count_all b.body) bs)

abbrev pub do_tree : ℕ → ℕ → Control × List StmtTree → List StmtTree
do_tree line id p = one (s.Do line id p.0.variable p.0.lower p.0.upper p.0.step p.1)

abbrev pub while_tree : ℕ → ℕ → ExprTree × List StmtTree → List StmtTree
while_tree line id p = one (s.While line id p.0 p.1)

abbrev pub while_condition : Option Elab → Judged ExprTree
while_condition None = Ok (e.LogConst TRUE)
while_condition (Some x) = condition_of x

-- The format `*` takes scalars, and `'(I0)'` one integer.
abbrev pub fits_form : ℕ → List Elaborated → Bool
fits_form form xs = if form == FORMAT_LIST then true else (form == FORMAT_INTEGER) && one_integer xs
  where
    one_integer : List Elaborated → Bool
    one_integer (x ∷ []) = is_integer x.ty
    one_integer _ = false

abbrev pub print_of : ℕ → ℕ → ℕ → List Elaborated → Judged StmtTree
print_of line form advance xs = if fits_form form xs then Ok (s.Print line form advance (map (λ x. item.Value x.tree) xs)) else Err E401

abbrev pub print_tree : ℕ → ℕ → ℕ → List Elab → Judged StmtTree
print_tree line form advance xs = and_then (all xs) (print_of line form advance)

-- `stop` ends with 0, and `error stop` with 1, where no code is written; a code stands for its value
abbrev pub plain_code : ℕ → ExprTree
plain_code is_error = e.IntConst 4 (if is_error == TRUE then pos 1 else pos 0)

-- A statement that is no construct is judged at its line.
abbrev pub plain : ℕ → Judged StmtTree → Formed
plain line x = record { count = 0; trees = λ around first. map_placed one (at_line line x) }

abbrev pub jump : ℕ → (ℕ → StmtTree) → Option (List ℕ) → Formed
jump line make construct = record { count = 0; trees = λ around first. map_placed one (at_line line (map_right make (right E417 (loop_of around.loops construct)))) }

module _ (unit_name : List ℕ) (scope : Scope) where
  abbrev pub maybe : Option Expr → Option Elab
  maybe None = None
  maybe (Some x) = Some (elab_expr unit_name scope x)

  abbrev pub stop_code : ℕ → Option Expr → Judged ExprTree
  stop_code is_error None = Ok (plain_code is_error)
  stop_code is_error (Some x) = map_right (λ p. constant_tree p.0 p.1) (stop_value unit_name scope x)

  abbrev pub counter : List (List ℕ) → List ℕ → Elab
  counter active variable = counter_of active (name_tree unit_name scope variable (entity_of scope variable))

  abbrev pub control : List (List ℕ) → List ℕ → Expr → Expr → Option Expr → Judged Control
  control active variable lower upper step =
      control_of (counter active variable) (bound_of (elab_expr unit_name scope lower)) (bound_of (elab_expr unit_name scope upper)) (step_of (maybe step))

  abbrev pub stmt_layer : Statement-F Formed Branch (Unit {0}) → Formed
  stmt_layer (Statement-F.Assign line target v) = record {
    count = 0;
    trees = λ around first. map_placed one (at_line line (assign_tree line around.active (elab_designator unit_name scope target) (elab_expr unit_name scope v)));
  }
  stmt_layer (Statement-F.If line construct arms) = record { count = count_branches arms; trees = λ around first. branches around first arms }
  stmt_layer (Statement-F.Do line construct variable lower upper step body) = record {
    count = suc (count_all body);
    trees = λ around first.
        map_placed (do_tree line first)
        (both_placed (at_line line (control around.active variable lower upper step)) (block (in_do construct first variable around) (suc first) body));
  }
  stmt_layer (Statement-F.While line construct condition body) = record {
    count = suc (count_all body);
    trees = λ around first.
        map_placed (while_tree line first) (both_placed (at_line line (while_condition (maybe condition))) (block (in_while construct first around) (suc first) body));
  }
  stmt_layer (Statement-F.Print line form advance items) = plain line (print_tree line form advance (map (elab_expr unit_name scope) items))
  stmt_layer (Statement-F.Stop line is_error code) = plain line (map_right (s.Stop line is_error) (stop_code is_error code))
  stmt_layer (Statement-F.Exit line construct) = jump line (s.Exit line) construct
  stmt_layer (Statement-F.Cycle line construct) = jump line (s.Cycle line) construct
  stmt_layer (Statement-F.Continue line) = record { count = 0; trees = λ around first. Ok [] }
  stmt_layer (Statement-F.Select line construct v cases) = plain line (Err E202)
  stmt_layer (Statement-F.Call line name arguments) = plain line (Err E202)
  stmt_layer (Statement-F.Read line target iostat) = plain line (Err E202)
  stmt_layer (Statement-F.Return line) = plain line (Err E202)

  abbrev pub arm_layer : Arm-F Formed Branch (Unit {0}) → Branch
  arm_layer arm = record { line = arm.line; condition = maybe arm.condition; body = arm.body }

  abbrev pub case_layer : Case-F Formed Branch (Unit {0}) → Unit {0}
  case_layer case = tt

  abbrev pub elab_stmt : Statement → Formed
  elab_stmt = fold-Statement Formed Branch (Unit {0}) stmt_layer arm_layer case_layer

  abbrev pub elab_body : List Statement → Placed (List StmtTree)
  elab_body body = block outside 1 (map elab_stmt body)
