-- Statements of C whose parts are known: what each does in a state.
use Rattle.std.proofs.Common.{◌≡◌, ℕ, ◌-◌, Bool, true, false, List, [], ◌∷◌, length, drop, map, Option, Some, None, refl, ap, ◌∙◌, arith}
use Rattle.lf_base.specs.declared.name.Name.{Name}
use Rattle.lf_base.specs.Outcome.{Written, Outcome, Undefined}
use Rattle.lf_base.specs.Acts.{Going, Stopped, Act, then_do, bind, give, change, given, in_order, within, iterate}
use Rattle.lf_base.proofs.Runs.{bind_going, bind_stopped, within_going, within_stopped}
use Rattle.c_nodes.specs.declared.tree.CType.{CType}
use Rattle.c_nodes.specs.declared.tree.CExpr.{CExpr}
use Rattle.c_nodes.specs.declared.tree.CStmt.{CStmt}
use Rattle.c_nodes.specs.declared.tree.CStmt.TheVariants.{DeclareArray, DeclareValue, DeclarePointer, DeclareCall, Assign, Call, ReturnValue, While, If, IfElse}
use Rattle.c_semantics.specs.CValues.{CValue}
use Rattle.c_semantics.specs.CState.{Slot, Leads, State, declare, closed}
use Rattle.c_semantics.specs.CMeaning.{reading, Designated, value_of, place_of, all_given, arguments_of, stored_in, store, Flow, Returned, Doing, Calls, then_next, newest, initialize, room, begin_object, begin_array, answer, answered, tested, holds, choose, landed, last_label, block, clause, statement, statements}
use Rattle.c_semantics.proofs.CStmts.{does-DeclareArray, does-DeclareValue, does-DeclarePointer, does-DeclareCall, does-Assign, does-Call, does-ReturnValue, does-While, does-If, does-IfElse}

-- the value of an expression, and what it designates
pub run_value : (e : CExpr) (s : State) (w : Written) (v : CValue) → (reading e).value s ≡ Some v → value_of e s w ≡ Going v s w
run_value e s w v h = ap (λ o. given Undefined o s w) h

pub run_place : (e : CExpr) (s : State) (w : Written) (p : Designated) → (reading e).place s ≡ Some p → place_of e s w ≡ Going p s w
run_place e s w p h = ap (λ o. given Undefined o s w) h

pub run_arguments : (es : List CExpr) (s : State) (w : Written) (vs : List CValue) → all_given (map (λ e. (reading e).value s) es) ≡ Some vs → arguments_of es s w ≡ Going vs s w
run_arguments es s w vs h = ap (λ o. given Undefined o s w) h

pub run_store : (p : Designated) (v : CValue) (s t : State) (w : Written) → stored_in p v s ≡ Some t → store p v s w ≡ Going tt t w
run_store p v s t w h = ap (λ o. then_do (given Undefined o s w) (λ x. change (λ _. x))) h

pub run_initialize : (v : CValue) (p : Designated) (s t : State) (w : Written) → newest s ≡ Some p → stored_in p v s ≡ Some t → initialize v s w ≡ Going tt t w
run_initialize v p s t w h k = ap (λ o. then_do (given Undefined o s w) (λ q. store q v)) h ∙ run_store p v s t w k

run_next : (act : Act State (Unit {0})) (s t : State) (w v : Written) → act s w ≡ Going tt t v → then_next act s w ≡ Going None t v
run_next act s t w v h = bind_going act (λ u. give None) s w tt t v h

pub run_tested : (e : CExpr) (s : State) (w : Written) (v : CValue) (b : Bool) → (reading e).value s ≡ Some v → holds v ≡ Some b → tested e s w ≡ Going b s w
run_tested e s w v b h k = bind_going (value_of e) (λ x. given Undefined (holds x)) s w v s w (run_value e s w v h) ∙ ap (λ o. given Undefined o s w) k

-- a call that goes on
pub run_answer : (calls : Calls) (callee : Name) (arguments : List CExpr) (vs : List CValue) (r : Option CValue) (s t : State) (w v : Written) → all_given (map (λ e. (reading e).value s) arguments) ≡ Some vs → calls callee vs s w ≡ Going r t v → answer calls callee arguments s w ≡ Going r t v
run_answer calls callee arguments vs r s t w v h k = bind_going (arguments_of arguments) (calls callee) s w vs s w (run_arguments arguments s w vs h) ∙ k

pub stop_answer : (calls : Calls) (callee : Name) (arguments : List CExpr) (vs : List CValue) (o : Outcome) (s : State) (w : Written) → all_given (map (λ e. (reading e).value s) arguments) ≡ Some vs → calls callee vs s w ≡ Stopped o → answer calls callee arguments s w ≡ Stopped o
stop_answer calls callee arguments vs o s w h k = bind_going (arguments_of arguments) (calls callee) s w vs s w (run_arguments arguments s w vs h) ∙ k

pub run_answered : (calls : Calls) (callee : Name) (arguments : List CExpr) (vs : List CValue) (r : CValue) (s t : State) (w v : Written) → all_given (map (λ e. (reading e).value s) arguments) ≡ Some vs → calls callee vs s w ≡ Going (Some r) t v → answered calls callee arguments s w ≡ Going r t v
run_answered calls callee arguments vs r s t w v h k = bind_going (answer calls callee arguments) (given Undefined) s w (Some r) t v (run_answer calls callee arguments vs (Some r) s t w v h k)

-- nothing was declared since, so nothing ends
pub closed_same : (s t : State) → s.here ≡ t.here → length s.memory ≡ length t.memory → closed s t ≡ t
closed_same s t e k =
    let none : length t.memory - length s.memory ≡ 0 = omega arith in
    ap (λ f. record { here = f; next = t.next; memory = drop (length t.memory - length s.memory) t.memory; around = t.around }) e
    ∙ ap (λ j. record { here = t.here; next = t.next; memory = drop j t.memory; around = t.around }) none

module _ (n : ℕ) (calls : Calls) where
  pub run_declare_value : (kind : CType) (name : Name) (e : CExpr) (v : CValue) (p : Designated) (s t : State) (w : Written) → (reading e).value (begin_object kind name s) ≡ Some v → newest (begin_object kind name s) ≡ Some p → stored_in p v (begin_object kind name s) ≡ Some t → statement n calls (DeclareValue kind name e) s w ≡ Going None t w
  run_declare_value kind name e v p s t w h k l =
      ap (λ f. f s w) (does-DeclareValue n calls kind name e)
      ∙ run_next (bind (change (begin_object kind name)) (λ u. bind (value_of e) initialize)) s t w w (bind_going (value_of e) initialize (begin_object kind name s) w v (begin_object kind name s) w (run_value e (begin_object kind name s) w v h) ∙ run_initialize v p (begin_object kind name s) t w k l)

  pub run_declare_pointer : (kind : CType) (name : Name) (e : CExpr) (v : CValue) (p : Designated) (s t : State) (w : Written) → (reading e).value (declare name (Leads None) s) ≡ Some v → newest (declare name (Leads None) s) ≡ Some p → stored_in p v (declare name (Leads None) s) ≡ Some t → statement n calls (DeclarePointer kind name e) s w ≡ Going None t w
  run_declare_pointer kind name e v p s t w h k l =
      ap (λ f. f s w) (does-DeclarePointer n calls kind name e)
      ∙ run_next (bind (change (declare name (Leads None))) (λ u. bind (value_of e) initialize)) s t w w (bind_going (value_of e) initialize (declare name (Leads None) s) w v (declare name (Leads None) s) w (run_value e (declare name (Leads None) s) w v h) ∙ run_initialize v p (declare name (Leads None) s) t w k l)

  pub run_declare_call : (kind : CType) (name callee : Name) (arguments : List CExpr) (vs : List CValue) (v : CValue) (p : Designated) (s t u : State) (w x : Written) → all_given (map (λ e. (reading e).value (begin_object kind name s)) arguments) ≡ Some vs → calls callee vs (begin_object kind name s) w ≡ Going (Some v) t x → newest t ≡ Some p → stored_in p v t ≡ Some u → statement n calls (DeclareCall kind name callee arguments) s w ≡ Going None u x
  run_declare_call kind name callee arguments vs v p s t u w x h k l m =
      ap (λ f. f s w) (does-DeclareCall n calls kind name callee arguments)
      ∙ run_next (bind (change (begin_object kind name)) (λ u. bind (answered calls callee arguments) initialize)) s u w x (bind_going (answered calls callee arguments) initialize (begin_object kind name s) w v t x (run_answered calls callee arguments vs v (begin_object kind name s) t w x h k) ∙ run_initialize v p t u x l m)

  pub run_declare_array : (kind : CType) (name : Name) (e : CExpr) (v : CValue) (slot : Slot) (s : State) (w : Written) → (reading e).value s ≡ Some v → room kind v s ≡ Some slot → statement n calls (DeclareArray kind name e) s w ≡ Going None (declare name slot s) w
  run_declare_array kind name e v slot s w h k =
      ap (λ f. f s w) (does-DeclareArray n calls kind name e)
      ∙ run_next (bind (value_of e) (begin_array kind name)) s (declare name slot s) w w (bind_going (value_of e) (begin_array kind name) s w v s w (run_value e s w v h) ∙ ap (λ o. then_do (given Undefined o s w) (λ y. change (declare name y))) k)

  pub run_assign : (target e : CExpr) (v : CValue) (p : Designated) (s t : State) (w : Written) → (reading e).value s ≡ Some v → (reading target).place s ≡ Some p → stored_in p v s ≡ Some t → statement n calls (Assign target e) s w ≡ Going None t w
  run_assign target e v p s t w h k l =
      ap (λ f. f s w) (does-Assign n calls target e)
      ∙ run_next (bind (value_of e) (λ x. bind (place_of target) (λ q. store q x))) s t w w
      (bind_going (value_of e) (λ x. bind (place_of target) (λ q. store q x)) s w v s w (run_value e s w v h)
      ∙ bind_going (place_of target) (λ q. store q v) s w p s w (run_place target s w p k)
      ∙ run_store p v s t w l)

  pub run_call : (callee : Name) (arguments : List CExpr) (vs : List CValue) (r : Option CValue) (s t : State) (w x : Written) → all_given (map (λ e. (reading e).value s) arguments) ≡ Some vs → calls callee vs s w ≡ Going r t x → statement n calls (Call callee arguments) s w ≡ Going None t x
  run_call callee arguments vs r s t w x h k =
      ap (λ f. f s w) (does-Call n calls callee arguments)
      ∙ bind_going (answer calls callee arguments) (λ v. give None) s w r t x (run_answer calls callee arguments vs r s t w x h k)

  pub stop_call : (callee : Name) (arguments : List CExpr) (vs : List CValue) (o : Outcome) (s : State) (w : Written) → all_given (map (λ e. (reading e).value s) arguments) ≡ Some vs → calls callee vs s w ≡ Stopped o → statement n calls (Call callee arguments) s w ≡ Stopped o
  stop_call callee arguments vs o s w h k =
      ap (λ f. f s w) (does-Call n calls callee arguments)
      ∙ bind_stopped (answer calls callee arguments) (λ v. give None) s w o (stop_answer calls callee arguments vs o s w h k)

  pub run_return : (e : CExpr) (v : CValue) (s : State) (w : Written) → (reading e).value s ≡ Some v → statement n calls (ReturnValue e) s w ≡ Going (Some (Returned (Some v))) s w
  run_return e v s w h =
      ap (λ f. f s w) (does-ReturnValue n calls e)
      ∙ bind_going (value_of e) (λ x. give (Some (Returned (Some x)))) s w v s w (run_value e s w v h)

  -- what the clauses of a block do, one behind another
  pub all_do : (body : List CStmt) → map (λ c. c.does) (map (clause n calls) body) ≡ map (statement n calls) body
  all_do [] = refl
  all_do (s ∷ body) = ap (λ l. statement n calls s ∷ l) (all_do body)

  abbrev within_block : List CStmt → Doing
  within_block body = within (λ z. z) closed (in_order (map (λ c. c.does) (map (clause n calls) body)))

  -- a block, as its statements end
  pub run_block : (body : List CStmt) (r : Option Flow) (s t : State) (w x : Written) → statements n calls body s w ≡ Going r t x → block (map (clause n calls) body) s w ≡ Going (landed (last_label (map (clause n calls) body)) r) (closed s t) x
  run_block body r s t w x h =
      bind_going (within_block body) (λ flow. give (landed (last_label (map (clause n calls) body)) flow)) s w r (closed s t) x
      (within_going (λ z. z) closed (in_order (map (λ c. c.does) (map (clause n calls) body))) s w r t x (ap (λ l. in_order l s w) (all_do body) ∙ h))

  -- a block that declares nothing
  pub run_plain_block : (body : List CStmt) (r : Option Flow) (s t : State) (w x : Written) → statements n calls body s w ≡ Going r t x → s.here ≡ t.here → length s.memory ≡ length t.memory → block (map (clause n calls) body) s w ≡ Going (landed (last_label (map (clause n calls) body)) r) t x
  run_plain_block body r s t w x h e k = run_block body r s t w x h ∙ ap (λ u. Going (landed (last_label (map (clause n calls) body)) r) u x) (closed_same s t e k)

  pub stop_block : (body : List CStmt) (o : Outcome) (s : State) (w : Written) → statements n calls body s w ≡ Stopped o → block (map (clause n calls) body) s w ≡ Stopped o
  stop_block body o s w h =
      bind_stopped (within_block body) (λ flow. give (landed (last_label (map (clause n calls) body)) flow)) s w o
      (within_stopped (λ z. z) closed (in_order (map (λ c. c.does) (map (clause n calls) body))) s w o (ap (λ l. in_order l s w) (all_do body) ∙ h))

  pub run_if_not : (test : CExpr) (body : List CStmt) (v : CValue) (s : State) (w : Written) → (reading test).value s ≡ Some v → holds v ≡ Some false → statement n calls (If test body) s w ≡ Going None s w
  run_if_not test body v s w h k =
      ap (λ f. f s w) (does-If n calls test body)
      ∙ bind_going (tested test) (choose (block (map (clause n calls) body)) (give None)) s w false s w (run_tested test s w v false h k)

  pub if_so : (test : CExpr) (body : List CStmt) (v : CValue) (s : State) (w : Written) → (reading test).value s ≡ Some v → holds v ≡ Some true → statement n calls (If test body) s w ≡ block (map (clause n calls) body) s w
  if_so test body v s w h k =
      ap (λ f. f s w) (does-If n calls test body)
      ∙ bind_going (tested test) (choose (block (map (clause n calls) body)) (give None)) s w true s w (run_tested test s w v true h k)

  pub if_then : (test : CExpr) (body other : List CStmt) (v : CValue) (s : State) (w : Written) → (reading test).value s ≡ Some v → holds v ≡ Some true → statement n calls (IfElse test body other) s w ≡ block (map (clause n calls) body) s w
  if_then test body other v s w h k =
      ap (λ f. f s w) (does-IfElse n calls test body other)
      ∙ bind_going (tested test) (choose (block (map (clause n calls) body)) (block (map (clause n calls) other))) s w true s w (run_tested test s w v true h k)

  pub if_else : (test : CExpr) (body other : List CStmt) (v : CValue) (s : State) (w : Written) → (reading test).value s ≡ Some v → holds v ≡ Some false → statement n calls (IfElse test body other) s w ≡ block (map (clause n calls) other) s w
  if_else test body other v s w h k =
      ap (λ f. f s w) (does-IfElse n calls test body other)
      ∙ bind_going (tested test) (choose (block (map (clause n calls) body)) (block (map (clause n calls) other))) s w false s w (run_tested test s w v false h k)

  pub while_is : (test : CExpr) (body : List CStmt) → statement n calls (While test body) ≡ iterate n (tested test) (block (map (clause n calls) body))
  while_is test body = does-While n calls test body
