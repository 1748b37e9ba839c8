-- Larger bounds keep the end of a C program, and never shorten what it writes.
use Rattle.std.proofs.Common.{◌≡◌, ℕ, zero, suc, ◌≤◌, Bool, true, false, List, [], ◌∷◌, map, Option, Some, None, codes, cond, refl, sym, subst, ap, ◌∙◌, arith}
use Rattle.std.specs.Str.{bytes_eq}
use Rattle.std.specs.List.{AllByRecursion}
use Rattle.std.proofs.Math.IntN.{ℤ}
use Rattle.lf_base.specs.declared.name.Name.{Name}
use Rattle.lf_base.specs.Outcome.{Undefined, written}
use Rattle.lf_base.specs.Acts.{Act, bind, give, look, change, print, complain, stop, cut, wrong, given, in_order, within}
use Rattle.lf_base.specs.Order.{Grows}
use Rattle.lf_base.specs.Near.{IsMonotone}
use Rattle.lf_base.specs.Monotone.{NoShorter}
use Rattle.lf_base.proofs.Stretches.{grows_bind, grows_give, grows_look, grows_change, grows_print, grows_complain, grows_stop, grows_cut, grows_wrong, grows_given, grows_order, grows_within, grows_iterate}
use Rattle.lf_base.proofs.Monotone.{same_self, bind_no_shorter, iterate_no_shorter, order_no_shorter, within_no_shorter, outcomes_monotone}
use Rattle.c_nodes.specs.declared.tree.CType.{CType}
use Rattle.c_nodes.specs.declared.tree.CExpr.{CExpr}
use Rattle.c_nodes.specs.declared.tree.CStmt.{CStmt}
use Rattle.c_nodes.specs.declared.tree.CFile.{CFile}
use Rattle.c_semantics.specs.CValues.{CValue, Number, Pointer, Errors, Structure, to_int}
use Rattle.c_semantics.specs.CState.{Leads, State, declare, closed}
use Rattle.c_semantics.specs.CMeaning.{reading, Designated, value_of, place_of, all_given, arguments_of, stored_in, store, become, Flow, Returned, Jumped, Doing, Clause, Calls, then_next, newest, initialize, room, begin_object, begin_array, answer, answered, tested, holds, choose, landed, last_label, block, clause, statement, statements, Procedure, called, call, entering, returned, on_int, put_out, put_error, get_byte, leave, library_or, on_procedure, calls_of, function_of, run_main, main_of, main_file, begin, CMeaning, status_of, byte_of, written_byte, next_byte, without_first}
use Rattle.c_nodes.proofs.StmtInduction.{by_cases}
use Rattle.c_semantics.proofs.CRuns.{all_do}
use Rattle.c_semantics.proofs.CStmts.{does-Declare, does-DeclareArray, does-DeclareValue, does-DeclarePointer, does-DeclareCall, does-Assign, does-AssignCall, does-Call, does-Return, does-ReturnValue, does-ReturnCall, does-Goto, does-Label, does-Block, does-While, does-If, does-IfElse, clause-Declare, clause-DeclareArray, clause-DeclareValue, clause-DeclarePointer, clause-DeclareCall, clause-Assign, clause-AssignCall, clause-Call, clause-Return, clause-ReturnValue, clause-ReturnCall, clause-Goto, clause-Label, clause-Block, clause-While, clause-If, clause-IfElse}

abbrev G : {A : Type 0} → Act State A → Type 0
G act = Grows act

given_grows : {A : Type 0} (o : Option A) → G (given {S = State} Undefined o)
given_grows o = grows_given State Undefined (λ w. tt) o

value_grows : (e : CExpr) → G (value_of e)
value_grows e = grows_bind (look (λ s. (reading e).value s)) (given Undefined) (grows_look (λ s. (reading e).value s)) given_grows

place_grows : (e : CExpr) → G (place_of e)
place_grows e = grows_bind (look (λ s. (reading e).place s)) (given Undefined) (grows_look (λ s. (reading e).place s)) given_grows

become_grows : (o : Option State) → G (become o)
become_grows o = grows_bind (given Undefined o) (λ s. change (λ _. s)) (given_grows o) (λ s. grows_change (λ _. s))

store_grows : (p : Designated) (v : CValue) → G (store p v)
store_grows p v = grows_bind (look (stored_in p v)) become (grows_look (stored_in p v)) become_grows

initialize_grows : (v : CValue) → G (initialize v)
initialize_grows v = grows_bind (bind (look newest) (given Undefined)) (λ p. store p v) (grows_bind (look newest) (given Undefined) (grows_look newest) given_grows) (λ p. store_grows p v)

next_grows : (act : Act State (Unit {0})) → G act → G (then_next act)
next_grows act h = grows_bind act (λ u. give None) h (λ u. grows_give {A = Option Flow} None)

tested_grows : (e : CExpr) → G (tested e)
tested_grows e = grows_bind (value_of e) (λ v. given Undefined (holds v)) (value_grows e) (λ v. given_grows (holds v))

abbrev CallsGrow : Calls → Type 0
CallsGrow calls = (name : List ℕ) (vs : List CValue) → G (calls name vs)

answer_grows : (calls : Calls) → CallsGrow calls → (callee : Name) (es : List CExpr) → G (answer calls callee es)
answer_grows calls g callee es = grows_bind (arguments_of es) (calls callee) (grows_bind (look (λ s. all_given (map (λ e. (reading e).value s) es))) (given Undefined) (grows_look (λ s. all_given (map (λ e. (reading e).value s) es))) given_grows) (g callee)

answered_grows : (calls : Calls) → CallsGrow calls → (callee : Name) (es : List CExpr) → G (answered calls callee es)
answered_grows calls g callee es = grows_bind (answer calls callee es) (given Undefined) (answer_grows calls g callee es) given_grows

choose_grows : (a b : Doing) → G a → G b → (t : Bool) → G (choose a b t)
choose_grows a b g h true = g
choose_grows a b g h false = h

all_map : {A B : Type 0} (P : B → Type 0) (f : A → B) (body : List A) → AllByRecursion (λ s. P (f s)) body → AllByRecursion P (map f body)
all_map P f [] h = tt
all_map P f (s ∷ body) h = (h.0, all_map P f body h.1)

block_grows : (body : List Clause) → AllByRecursion (λ c. G c.does) body → G (block body)
block_grows body h =
    grows_bind (within (λ s. s) closed (in_order (map (λ c. c.does) body))) (λ flow. give (landed (last_label body) flow))
    (grows_within (λ s. s) closed (in_order (map (λ c. c.does) body)) (grows_order (map (λ c. c.does) body) (all_map G (λ c. c.does) body h)))
    (λ flow. grows_give (landed (last_label body) flow))

-- a declaration, and then its value
declared_grows : (begins : State → State) (act : Act State CValue) → G act → G (then_next (bind (change begins) (λ u. bind act initialize)))
declared_grows begins act h = next_grows (bind (change begins) (λ u. bind act initialize)) (grows_bind (change begins) (λ u. bind act initialize) (grows_change begins) (λ u. grows_bind act initialize h initialize_grows))

array_grows : (kind : CType) (name : Name) (v : CValue) → G (begin_array kind name v)
array_grows kind name v =
    grows_bind (bind (look (room kind v)) (given Undefined)) (λ slot. change (declare name slot))
    (grows_bind (look (room kind v)) (given Undefined) (grows_look (room kind v)) given_grows)
    (λ slot. grows_change (declare name slot))

assigned_grows : (target : CExpr) (act : Act State CValue) → G act → G (then_next (bind act (λ v. bind (place_of target) (λ p. store p v))))
assigned_grows target act h = next_grows (bind act (λ v. bind (place_of target) (λ p. store p v))) (grows_bind act (λ v. bind (place_of target) (λ p. store p v)) h (λ v. grows_bind (place_of target) (λ p. store p v) (place_grows target) (λ p. store_grows p v)))

module _ (n : ℕ) (calls : Calls) (g : CallsGrow calls) where
  pub statement_grows : (s : CStmt) → G (statement n calls s)
  statement_grows = by_cases (λ s. G (statement n calls s)) (record {
    declare = λ kind name. subst G (sym (does-Declare n calls kind name)) (next_grows (change (begin_object kind name)) (grows_change (begin_object kind name)));
    declare_array = λ kind name size. subst G (sym (does-DeclareArray n calls kind name size)) (next_grows (bind (value_of size) (begin_array kind name)) (grows_bind (value_of size) (begin_array kind name) (value_grows size) (array_grows kind name)));
    declare_value = λ kind name value. subst G (sym (does-DeclareValue n calls kind name value)) (declared_grows (begin_object kind name) (value_of value) (value_grows value));
    declare_pointer = λ kind name value. subst G (sym (does-DeclarePointer n calls kind name value)) (declared_grows (declare name (Leads None)) (value_of value) (value_grows value));
    declare_call = λ kind name callee es. subst G (sym (does-DeclareCall n calls kind name callee es)) (declared_grows (begin_object kind name) (answered calls callee es) (answered_grows calls g callee es));
    assign = λ target value. subst G (sym (does-Assign n calls target value)) (assigned_grows target (value_of value) (value_grows value));
    assign_call = λ target callee es. subst G (sym (does-AssignCall n calls target callee es)) (assigned_grows target (answered calls callee es) (answered_grows calls g callee es));
    call = λ callee es. subst G (sym (does-Call n calls callee es)) (grows_bind (answer calls callee es) (λ v. give None) (answer_grows calls g callee es) (λ v. grows_give {A = Option Flow} None));
    return = subst G (sym (does-Return n calls)) (grows_give {A = Option Flow} (Some (Returned None)));
    return_value = λ value. subst G (sym (does-ReturnValue n calls value)) (grows_bind (value_of value) (λ v. give (Some (Returned (Some v)))) (value_grows value) (λ v. grows_give {A = Option Flow} (Some (Returned (Some v)))));
    return_call = λ callee es. subst G (sym (does-ReturnCall n calls callee es)) (grows_bind (answered calls callee es) (λ v. give (Some (Returned (Some v)))) (answered_grows calls g callee es) (λ v. grows_give {A = Option Flow} (Some (Returned (Some v)))));
    goto = λ label. subst G (sym (does-Goto n calls label)) (grows_give {A = Option Flow} (Some (Jumped label)));
    label = λ name. subst G (sym (does-Label n calls name)) (grows_give {A = Option Flow} None);
    block = λ body h. subst G (sym (does-Block n calls body)) (block_grows (map (clause n calls) body) (all_map (λ c. G c.does) (clause n calls) body h));
    while = λ test body h. subst G (sym (does-While n calls test body)) (grows_iterate n (tested test) (block (map (clause n calls) body)) (tested_grows test) (block_grows (map (clause n calls) body) (all_map (λ c. G c.does) (clause n calls) body h)));
    «if» = λ test body h. subst G (sym (does-If n calls test body)) (grows_bind (tested test) (choose (block (map (clause n calls) body)) (give None)) (tested_grows test) (choose_grows (block (map (clause n calls) body)) (give None) (block_grows (map (clause n calls) body) (all_map (λ c. G c.does) (clause n calls) body h)) (grows_give {A = Option Flow} None)));
    if_else = λ test body other h k. subst G (sym (does-IfElse n calls test body other)) (grows_bind (tested test) (choose (block (map (clause n calls) body)) (block (map (clause n calls) other))) (tested_grows test) (choose_grows (block (map (clause n calls) body)) (block (map (clause n calls) other)) (block_grows (map (clause n calls) body) (all_map (λ c. G c.does) (clause n calls) body h)) (block_grows (map (clause n calls) other) (all_map (λ c. G c.does) (clause n calls) other k))));
  })

  all_grow : (body : List CStmt) → AllByRecursion (λ s. G (statement n calls s)) body
  all_grow [] = tt
  all_grow (s ∷ body) = (statement_grows s, all_grow body)

  pub statements_grow : (body : List CStmt) → G (statements n calls body)
  statements_grow body = grows_order (map (statement n calls) body) (all_map G (statement n calls) body (all_grow body))

  pub called_grows : (p : Procedure) (inner : State) → G (called n calls p inner)
  called_grows p inner = grows_within (λ s. inner) closed (bind (statements n calls p.body) (λ flow. give (returned p.result flow))) (grows_bind (statements n calls p.body) (λ flow. give (returned p.result flow)) (statements_grow p.body) (λ flow. grows_give (returned p.result flow)))

  pub call_grows : (p : Procedure) (vs : List CValue) → G (call n calls p vs)
  call_grows p vs =
      grows_bind (bind (look (entering p vs)) (given Undefined)) (called n calls p)
      (grows_bind (look (entering p vs)) (given Undefined) (grows_look (entering p vs)) given_grows)
      (called_grows p)

on_int_grows : (o : Option CValue) (go : ℤ → Act State (Option CValue)) → ((z : ℤ) → G (go z)) → G (on_int o go)
on_int_grows None go h = grows_wrong State (Option CValue) Undefined (λ w. tt)
on_int_grows (Some (Number w z)) go h = h z
on_int_grows (Some v) go h = grows_wrong State (Option CValue) Undefined (λ w. tt)

pub procedure_grows : (o : Option Procedure) (go : Procedure → Act State (Option CValue)) → ((p : Procedure) → G (go p)) → G (on_procedure o go)
procedure_grows None go h = grows_wrong State (Option CValue) Undefined (λ w. tt)
procedure_grows (Some p) go h = h p

-- the library's functions
put_out_grows : (vs : List CValue) → G (put_out vs)
put_out_grows [] = grows_wrong State (Option CValue) Undefined (λ w. tt)
put_out_grows (v ∷ []) = on_int_grows (to_int (Some v)) (λ z. bind (print (byte_of z ∷ [])) (λ u. give (written_byte z))) (λ z. grows_bind (print (byte_of z ∷ [])) (λ u. give (written_byte z)) (grows_print (byte_of z ∷ [])) (λ u. grows_give (written_byte z)))
put_out_grows (v ∷ x ∷ vs) = grows_wrong State (Option CValue) Undefined (λ w. tt)

put_error_grows : (vs : List CValue) → G (put_error vs)
put_error_grows [] = grows_wrong State (Option CValue) Undefined (λ w. tt)
put_error_grows (v ∷ []) = grows_wrong State (Option CValue) Undefined (λ w. tt)
put_error_grows (v ∷ Errors ∷ []) = on_int_grows (to_int (Some v)) (λ z. bind (complain (byte_of z ∷ [])) (λ u. give (written_byte z))) (λ z. grows_bind (complain (byte_of z ∷ [])) (λ u. give (written_byte z)) (grows_complain (byte_of z ∷ [])) (λ u. grows_give (written_byte z)))
put_error_grows (v ∷ Errors ∷ x ∷ vs) = grows_wrong State (Option CValue) Undefined (λ w. tt)
put_error_grows (v ∷ Number w z ∷ vs) = grows_wrong State (Option CValue) Undefined (λ w. tt)
put_error_grows (v ∷ Pointer b o ∷ vs) = grows_wrong State (Option CValue) Undefined (λ w. tt)
put_error_grows (v ∷ Structure tag cells ∷ vs) = grows_wrong State (Option CValue) Undefined (λ w. tt)

get_byte_grows : (vs : List CValue) → G (get_byte vs)
get_byte_grows [] = grows_bind (look (λ s. next_byte s.around.input)) (λ v. bind (change without_first) (λ u. give v)) (grows_look (λ s. next_byte s.around.input)) (λ v. grows_bind (change without_first) (λ u. give v) (grows_change without_first) (λ u. grows_give v))
get_byte_grows (v ∷ vs) = grows_wrong State (Option CValue) Undefined (λ w. tt)

leave_grows : (vs : List CValue) → G (leave vs)
leave_grows [] = grows_wrong State (Option CValue) Undefined (λ w. tt)
leave_grows (v ∷ []) = on_int_grows (to_int (Some v)) (λ z. stop (byte_of z)) (λ z. grows_stop State (Option CValue) (byte_of z))
leave_grows (v ∷ x ∷ vs) = grows_wrong State (Option CValue) Undefined (λ w. tt)

if_grows : (t : Bool) (a b : Act State (Option CValue)) → G a → G b → G (cond t a b)
if_grows true a b g h = g
if_grows false a b g h = h

library_grows : (more : Calls) → CallsGrow more → CallsGrow (library_or more)
library_grows more g name vs = if_grows (bytes_eq name (codes "putchar")) (put_out vs) _ (put_out_grows vs) (if_grows (bytes_eq name (codes "fputc")) (put_error vs) _ (put_error_grows vs) (if_grows (bytes_eq name (codes "getchar")) (get_byte vs) _ (get_byte_grows vs) (if_grows (bytes_eq name (codes "exit")) (leave vs) (more name vs) (leave_grows vs) (g name vs))))

pub calls_grow : (files : List CFile) (n d file : ℕ) → CallsGrow (calls_of files n d file)
calls_grow files n zero file = library_grows (λ name vs. cut) (λ name vs. grows_cut State (Option CValue))
calls_grow files n (suc d) file = library_grows (λ name vs. on_procedure (function_of files file name) (λ p. call n (calls_of files n d p.file) p vs)) (λ name vs. procedure_grows (function_of files file name) (λ p. call n (calls_of files n d p.file) p vs) (λ p. call_grows n (calls_of files n d p.file) (calls_grow files n d p.file) p vs))

-- larger bounds
abbrev M : {A : Type 0} → Act State A → Act State A → Type 0
M act act' = NoShorter act act'

abbrev CallsLonger : Calls → Calls → Type 0
CallsLonger calls calls' = (name : List ℕ) (vs : List CValue) → M (calls name vs) (calls' name vs)

answer_longer : (calls calls' : Calls) → CallsLonger calls calls' → CallsGrow calls' → (callee : Name) (es : List CExpr) → M (answer calls callee es) (answer calls' callee es)
answer_longer calls calls' h g callee es = bind_no_shorter (arguments_of es) (arguments_of es) (calls callee) (calls' callee) (same_self (arguments_of es)) (h callee) (g callee)

answered_longer : (calls calls' : Calls) → CallsLonger calls calls' → CallsGrow calls' → (callee : Name) (es : List CExpr) → M (answered calls callee es) (answered calls' callee es)
answered_longer calls calls' h g callee es = bind_no_shorter (answer calls callee es) (answer calls' callee es) (given Undefined) (given Undefined) (answer_longer calls calls' h g callee es) (λ o. same_self (given Undefined o)) given_grows

choose_longer : (a b a' b' : Doing) → M a a' → M b b' → (t : Bool) → M (choose a b t) (choose a' b' t)
choose_longer a b a' b' g h true = g
choose_longer a b a' b' g h false = h

-- what follows is the same act, over acts of which the second is longer
after_longer : {A B : Type 0} (act act' : Act State A) (go : A → Act State B) → M act act' → ((a : A) → G (go a)) → M (bind act go) (bind act' go)
after_longer act act' go h g = bind_no_shorter act act' go go h (λ a. same_self (go a)) g

declared_longer : (begins : State → State) (act act' : Act State CValue) → M act act' → G act' → M (then_next (bind (change begins) (λ u. bind act initialize))) (then_next (bind (change begins) (λ u. bind act' initialize)))
declared_longer begins act act' h g =
    after_longer (bind (change begins) (λ u. bind act initialize)) (bind (change begins) (λ u. bind act' initialize)) (λ u. give None)
    (bind_no_shorter (change begins) (change begins) (λ u. bind act initialize) (λ u. bind act' initialize) (same_self (change begins)) (λ u. after_longer act act' initialize h initialize_grows) (λ u. grows_bind act' initialize g initialize_grows))
    (λ u. grows_give {A = Option Flow} None)

assigned_longer : (target : CExpr) (act act' : Act State CValue) → M act act' → M (then_next (bind act (λ v. bind (place_of target) (λ p. store p v)))) (then_next (bind act' (λ v. bind (place_of target) (λ p. store p v))))
assigned_longer target act act' h =
    after_longer (bind act (λ v. bind (place_of target) (λ p. store p v))) (bind act' (λ v. bind (place_of target) (λ p. store p v))) (λ u. give None)
    (after_longer act act' (λ v. bind (place_of target) (λ p. store p v)) h (λ v. grows_bind (place_of target) (λ p. store p v) (place_grows target) (λ p. store_grows p v)))
    (λ u. grows_give {A = Option Flow} None)

module _ (n n' : ℕ) (le : n ≤ n') (calls calls' : Calls) (longer : CallsLonger calls calls') (g : CallsGrow calls') where
  abbrev Holds : CStmt → Type 0
  Holds s = M (statement n calls s) (statement n' calls' s)

  at_kind : (a a' b b' : Doing) → a ≡ b → a' ≡ b' → M b b' → M a a'
  at_kind a a' b b' e e' h = subst (λ x. M x a') (sym e) (subst (λ y. M b y) (sym e') h)

  both : (body : List CStmt) → AllByRecursion Holds body → AllByRecursion (λ s. M (statement n calls s) (statement n' calls' s) × G (statement n' calls' s)) body
  both [] h = tt
  both (s ∷ body) h = ((h.0, statement_grows n' calls' g s), both body h.1)

  -- a label is one at any bounds
  label_same : (s : CStmt) → (clause n calls s).label ≡ (clause n' calls' s).label
  label_same = by_cases (λ s. (clause n calls s).label ≡ (clause n' calls' s).label) (record {
    declare = λ kind name. ap (λ c. c.label) (clause-Declare n calls kind name) ∙ sym (ap (λ c. c.label) (clause-Declare n' calls' kind name));
    declare_array = λ kind name size. ap (λ c. c.label) (clause-DeclareArray n calls kind name size) ∙ sym (ap (λ c. c.label) (clause-DeclareArray n' calls' kind name size));
    declare_value = λ kind name value. ap (λ c. c.label) (clause-DeclareValue n calls kind name value) ∙ sym (ap (λ c. c.label) (clause-DeclareValue n' calls' kind name value));
    declare_pointer = λ kind name value. ap (λ c. c.label) (clause-DeclarePointer n calls kind name value) ∙ sym (ap (λ c. c.label) (clause-DeclarePointer n' calls' kind name value));
    declare_call = λ kind name callee arguments. ap (λ c. c.label) (clause-DeclareCall n calls kind name callee arguments) ∙ sym (ap (λ c. c.label) (clause-DeclareCall n' calls' kind name callee arguments));
    assign = λ target value. ap (λ c. c.label) (clause-Assign n calls target value) ∙ sym (ap (λ c. c.label) (clause-Assign n' calls' target value));
    assign_call = λ target callee arguments. ap (λ c. c.label) (clause-AssignCall n calls target callee arguments) ∙ sym (ap (λ c. c.label) (clause-AssignCall n' calls' target callee arguments));
    call = λ callee arguments. ap (λ c. c.label) (clause-Call n calls callee arguments) ∙ sym (ap (λ c. c.label) (clause-Call n' calls' callee arguments));
    return = ap (λ c. c.label) (clause-Return n calls) ∙ sym (ap (λ c. c.label) (clause-Return n' calls'));
    return_value = λ value. ap (λ c. c.label) (clause-ReturnValue n calls value) ∙ sym (ap (λ c. c.label) (clause-ReturnValue n' calls' value));
    return_call = λ callee arguments. ap (λ c. c.label) (clause-ReturnCall n calls callee arguments) ∙ sym (ap (λ c. c.label) (clause-ReturnCall n' calls' callee arguments));
    goto = λ label. ap (λ c. c.label) (clause-Goto n calls label) ∙ sym (ap (λ c. c.label) (clause-Goto n' calls' label));
    label = λ name. ap (λ c. c.label) (clause-Label n calls name) ∙ sym (ap (λ c. c.label) (clause-Label n' calls' name));
    block = λ body h. ap (λ c. c.label) (clause-Block n calls body) ∙ sym (ap (λ c. c.label) (clause-Block n' calls' body));
    while = λ test body h. ap (λ c. c.label) (clause-While n calls test body) ∙ sym (ap (λ c. c.label) (clause-While n' calls' test body));
    «if» = λ test body h. ap (λ c. c.label) (clause-If n calls test body) ∙ sym (ap (λ c. c.label) (clause-If n' calls' test body));
    if_else = λ test body other h k. ap (λ c. c.label) (clause-IfElse n calls test body other) ∙ sym (ap (λ c. c.label) (clause-IfElse n' calls' test body other));
  })

  labels_same : (body : List CStmt) → last_label (map (clause n calls) body) ≡ last_label (map (clause n' calls') body)
  labels_same [] = refl
  labels_same (s ∷ []) = label_same s
  labels_same (s ∷ t ∷ body) = labels_same (t ∷ body)

  abbrev ended : Option (List ℕ) → List Doing → Doing
  ended label acts = bind (within (λ s. s) closed (in_order acts)) (λ flow. give (landed label flow))

  blocks : (body : List CStmt) → AllByRecursion Holds body → M (block (map (clause n calls) body)) (block (map (clause n' calls') body))
  blocks body h =
      let label : Option (List ℕ) = last_label (map (clause n' calls') body) in
      at_kind _ _ (ended label (map (statement n calls) body)) (ended label (map (statement n' calls') body))
      (ap (λ l. ended (last_label (map (clause n calls) body)) l) (all_do n calls body) ∙ ap (λ o. ended o (map (statement n calls) body)) (labels_same body))
      (ap (λ l. ended label l) (all_do n' calls' body))
      (after_longer (within (λ s. s) closed (in_order (map (statement n calls) body))) (within (λ s. s) closed (in_order (map (statement n' calls') body))) (λ flow. give (landed label flow)) (within_no_shorter (λ s. s) closed (in_order (map (statement n calls) body)) (in_order (map (statement n' calls') body)) (order_no_shorter (statement n calls) (statement n' calls') body (both body h))) (λ flow. grows_give (landed label flow)))

  blocks_grow : (body : List CStmt) → G (block (map (clause n' calls') body))
  blocks_grow body = block_grows (map (clause n' calls') body) (all_map (λ c. G c.does) (clause n' calls') body (all_grow n' calls' g body))

  abbrev lower : CStmt → Doing
  lower = statement n calls

  same_kind : (s : CStmt) (b : Doing) → statement n calls s ≡ b → statement n' calls' s ≡ b → Holds s
  same_kind s b e e' = at_kind (statement n calls s) (statement n' calls' s) b b e e' (same_self b)

  pub statement_longer : (s : CStmt) → Holds s
  statement_longer = by_cases Holds (record {
    declare = λ kind name. same_kind _ _ (does-Declare n calls kind name) (does-Declare n' calls' kind name);
    declare_array = λ kind name size. same_kind _ _ (does-DeclareArray n calls kind name size) (does-DeclareArray n' calls' kind name size);
    declare_value = λ kind name value. same_kind _ _ (does-DeclareValue n calls kind name value) (does-DeclareValue n' calls' kind name value);
    declare_pointer = λ kind name value. same_kind _ _ (does-DeclarePointer n calls kind name value) (does-DeclarePointer n' calls' kind name value);
    declare_call = λ kind name callee es. at_kind _ _ _ _ (does-DeclareCall n calls kind name callee es) (does-DeclareCall n' calls' kind name callee es) (declared_longer (begin_object kind name) (answered calls callee es) (answered calls' callee es) (answered_longer calls calls' longer g callee es) (answered_grows calls' g callee es));
    assign = λ target value. same_kind _ _ (does-Assign n calls target value) (does-Assign n' calls' target value);
    assign_call = λ target callee es. at_kind _ _ _ _ (does-AssignCall n calls target callee es) (does-AssignCall n' calls' target callee es) (assigned_longer target (answered calls callee es) (answered calls' callee es) (answered_longer calls calls' longer g callee es));
    call = λ callee es. at_kind _ _ _ _ (does-Call n calls callee es) (does-Call n' calls' callee es) (after_longer (answer calls callee es) (answer calls' callee es) (λ v. give None) (answer_longer calls calls' longer g callee es) (λ v. grows_give {A = Option Flow} None));
    return = same_kind _ _ (does-Return n calls) (does-Return n' calls');
    return_value = λ value. same_kind _ _ (does-ReturnValue n calls value) (does-ReturnValue n' calls' value);
    return_call = λ callee es. at_kind _ _ _ _ (does-ReturnCall n calls callee es) (does-ReturnCall n' calls' callee es) (after_longer (answered calls callee es) (answered calls' callee es) (λ v. give (Some (Returned (Some v)))) (answered_longer calls calls' longer g callee es) (λ v. grows_give {A = Option Flow} (Some (Returned (Some v)))));
    goto = λ label. same_kind _ _ (does-Goto n calls label) (does-Goto n' calls' label);
    label = λ name. same_kind _ _ (does-Label n calls name) (does-Label n' calls' name);
    block = λ body h. at_kind _ _ _ _ (does-Block n calls body) (does-Block n' calls' body) (blocks body h);
    while = λ test body h. at_kind _ _ _ _ (does-While n calls test body) (does-While n' calls' test body) (iterate_no_shorter n n' le (tested test) (tested test) (block (map (clause n calls) body)) (block (map (clause n' calls') body)) (same_self (tested test)) (blocks body h) (tested_grows test) (blocks_grow body));
    «if» = λ test body h. at_kind _ _ _ _ (does-If n calls test body) (does-If n' calls' test body) (bind_no_shorter (tested test) (tested test) (choose (block (map (clause n calls) body)) (give None)) (choose (block (map (clause n' calls') body)) (give None)) (same_self (tested test)) (choose_longer (block (map (clause n calls) body)) (give None) (block (map (clause n' calls') body)) (give None) (blocks body h) (same_self (give None))) (choose_grows (block (map (clause n' calls') body)) (give None) (blocks_grow body) (grows_give {A = Option Flow} None)));
    if_else = λ test body other h k. at_kind _ _ _ _ (does-IfElse n calls test body other) (does-IfElse n' calls' test body other) (bind_no_shorter (tested test) (tested test) (choose (block (map (clause n calls) body)) (block (map (clause n calls) other))) (choose (block (map (clause n' calls') body)) (block (map (clause n' calls') other))) (same_self (tested test)) (choose_longer (block (map (clause n calls) body)) (block (map (clause n calls) other)) (block (map (clause n' calls') body)) (block (map (clause n' calls') other)) (blocks body h) (blocks other k)) (choose_grows (block (map (clause n' calls') body)) (block (map (clause n' calls') other)) (blocks_grow body) (blocks_grow other)));
  })

  all_longer : (body : List CStmt) → AllByRecursion Holds body
  all_longer [] = tt
  all_longer (s ∷ body) = (statement_longer s, all_longer body)

  pub statements_longer : (body : List CStmt) → M (statements n calls body) (statements n' calls' body)
  statements_longer body = order_no_shorter (statement n calls) (statement n' calls') body (both body (all_longer body))

  pub called_longer : (p : Procedure) (inner : State) → M (called n calls p inner) (called n' calls' p inner)
  called_longer p inner = within_no_shorter (λ s. inner) closed (bind (statements n calls p.body) (λ flow. give (returned p.result flow))) (bind (statements n' calls' p.body) (λ flow. give (returned p.result flow))) (after_longer (statements n calls p.body) (statements n' calls' p.body) (λ flow. give (returned p.result flow)) (statements_longer p.body) (λ flow. grows_give (returned p.result flow)))

  pub call_longer : (p : Procedure) (vs : List CValue) → M (call n calls p vs) (call n' calls' p vs)
  call_longer p vs =
      bind_no_shorter (bind (look (entering p vs)) (given Undefined)) (bind (look (entering p vs)) (given Undefined)) (called n calls p) (called n' calls' p)
      (same_self (bind (look (entering p vs)) (given Undefined)))
      (called_longer p)
      (called_grows n' calls' g p)

if_longer : (t : Bool) (a b b' : Act State (Option CValue)) → M b b' → M (cond t a b) (cond t a b')
if_longer true a b b' h = same_self a
if_longer false a b b' h = h

library_longer : (more more' : Calls) → CallsLonger more more' → CallsLonger (library_or more) (library_or more')
library_longer more more' h name vs = if_longer (bytes_eq name (codes "putchar")) (put_out vs) _ _ (if_longer (bytes_eq name (codes "fputc")) (put_error vs) _ _ (if_longer (bytes_eq name (codes "getchar")) (get_byte vs) _ _ (if_longer (bytes_eq name (codes "exit")) (leave vs) (more name vs) (more' name vs) (h name vs))))

procedure_longer : (o : Option Procedure) (go go' : Procedure → Act State (Option CValue)) → ((p : Procedure) → M (go p) (go' p)) → M (on_procedure o go) (on_procedure o go')
procedure_longer None go go' h = same_self {A = Option CValue} (wrong Undefined)
procedure_longer (Some p) go go' h = h p

pub calls_longer : (files : List CFile) (n n' d d' file : ℕ) → n ≤ n' → d ≤ d' → CallsLonger (calls_of files n d file) (calls_of files n' d' file)
calls_longer files n n' zero zero file ln ld = library_longer (λ name vs. cut) (λ name vs. cut) (λ name vs. same_self {A = Option CValue} cut)
calls_longer files n n' zero (suc d') file ln ld =
    library_longer (λ name vs. cut) (λ name vs. on_procedure (function_of files file name) (λ p. call n' (calls_of files n' d' p.file) p vs))
    (λ name vs s w. procedure_grows (function_of files file name) (λ p. call n' (calls_of files n' d' p.file) p vs) (λ p. call_grows n' (calls_of files n' d' p.file) (calls_grow files n' d' p.file) p vs) s w)
calls_longer files n n' (suc d) zero file ln ld = absurd (omega arith)
calls_longer files n n' (suc d) (suc d') file ln ld =
    library_longer (λ name vs. on_procedure (function_of files file name) (λ p. call n (calls_of files n d p.file) p vs)) (λ name vs. on_procedure (function_of files file name) (λ p. call n' (calls_of files n' d' p.file) p vs))
    (λ name vs. procedure_longer (function_of files file name) (λ p. call n (calls_of files n d p.file) p vs) (λ p. call n' (calls_of files n' d' p.file) p vs) (λ p. call_longer n n' ln (calls_of files n d p.file) (calls_of files n' d' p.file) (calls_longer files n n' d d' p.file ln (omega arith)) (calls_grow files n' d' p.file) p vs))

main_longer : (files : List CFile) (n n' d d' : ℕ) → n ≤ n' → d ≤ d' → (o : Option Procedure) → M (run_main files n d o) (run_main files n' d' o)
main_longer files n n' d d' ln ld None = same_self {A = ℕ} (wrong Undefined)
main_longer files n n' d d' ln ld (Some p) = after_longer (statements n (calls_of files n d p.file) p.body) (statements n' (calls_of files n' d' p.file) p.body) (λ flow. given Undefined (status_of flow)) (statements_longer n n' ln (calls_of files n d p.file) (calls_of files n' d' p.file) (calls_longer files n n' d d' p.file ln ld) (calls_grow files n' d' p.file) p.body) (λ flow. given_grows (status_of flow))

main_grows : (files : List CFile) (n d : ℕ) (o : Option Procedure) → G (run_main files n d o)
main_grows files n d None = grows_wrong State ℕ Undefined (λ w. tt)
main_grows files n d (Some p) = grows_bind (statements n (calls_of files n d p.file) p.body) (λ flow. given Undefined (status_of flow)) (statements_grow n (calls_of files n d p.file) (calls_grow files n d p.file) p.body) (λ flow. given_grows (status_of flow))

-- the law for whole programs
pub meaning_monotone : (files : List CFile) (input : List ℕ) → IsMonotone (CMeaning files input)
meaning_monotone files input = outcomes_monotone (λ n d. run_main files n d (main_of files)) (begin files input (main_file (main_of files))) (written [] []) (λ n n' d d' ln ld. main_longer files n n' d d' ln ld (main_of files)) (λ n d. main_grows files n d (main_of files))
