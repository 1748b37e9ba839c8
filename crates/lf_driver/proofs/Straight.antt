-- Statements of C one behind another, in a straight line.
use Rattle.std.proofs.Common.{◌≡◌, ℕ, List, [], ◌∷◌, ◌++◌, map, Option, Some, None, refl, ap, ◌∙◌}
use Rattle.lf_base.specs.declared.name.Name.{Name}
use Rattle.lf_base.specs.Outcome.{Written, Outcome, Undefined}
use Rattle.lf_base.specs.Acts.{Stretch, Going, Stopped, then_do, next_or, bind, change, give, given}
use Rattle.lf_base.proofs.Runs.{bind_stopped}
use Rattle.c_nodes.specs.declared.tree.CStmt.{CStmt}
use Rattle.c_nodes.specs.declared.tree.CStmt.TheVariants.{DeclareCall}
use Rattle.c_nodes.specs.declared.tree.CType.{CType}
use Rattle.c_nodes.specs.declared.tree.CExpr.{CExpr}
use Rattle.c_semantics.specs.CValues.{CValue}
use Rattle.c_semantics.specs.CState.{State}
use Rattle.c_semantics.specs.CMeaning.{reading, begin_object, all_given, answer, answered, initialize, Flow, Calls, statement, statements}
use Rattle.c_semantics.proofs.CRuns.{stop_answer}
use Rattle.c_semantics.proofs.CStmts.{does-DeclareCall}

-- the statements of two lists, one behind the other
pub statements_append : (n : ℕ) (calls : Calls) (xs ys : List CStmt) (s : State) (w : Written) → statements n calls (xs ++ ys) s w ≡ then_do (statements n calls xs s w) (next_or (statements n calls ys))
statements_append n calls [] ys s w = refl
statements_append n calls (x ∷ xs) ys s w = behind (λ t v. statements_append n calls xs ys t v) (statement n calls x s w)
  where
    behind : ((t : State) (v : Written) → statements n calls (xs ++ ys) t v ≡ then_do (statements n calls xs t v) (next_or (statements n calls ys))) → (o : Stretch State (Option Flow)) → then_do o (next_or (statements n calls (xs ++ ys))) ≡ then_do (then_do o (next_or (statements n calls xs))) (next_or (statements n calls ys))
    behind k (Going None t v) = k t v
    behind k (Going (Some b) t v) = refl
    behind k (Stopped o) = refl

pub append_going : (n : ℕ) (calls : Calls) (xs ys : List CStmt) (s t : State) (w v : Written) → statements n calls xs s w ≡ Going None t v → statements n calls (xs ++ ys) s w ≡ statements n calls ys t v
append_going n calls xs ys s t w v h = statements_append n calls xs ys s w ∙ ap (λ o. then_do o (next_or (statements n calls ys))) h

pub append_stopped : (n : ℕ) (calls : Calls) (xs ys : List CStmt) (s : State) (w : Written) (o : Outcome) → statements n calls xs s w ≡ Stopped o → statements n calls (xs ++ ys) s w ≡ Stopped o
append_stopped n calls xs ys s w o h = statements_append n calls xs ys s w ∙ ap (λ o. then_do o (next_or (statements n calls ys))) h

-- a declaration whose call ends the program
pub stop_declare_call : (n : ℕ) (calls : Calls) (kind : CType) (name callee : Name) (arguments : List CExpr) (vs : List CValue) (o : Outcome) (s : State) (w : Written) → all_given (map (λ e. (reading e).value (begin_object kind name s)) arguments) ≡ Some vs → calls callee vs (begin_object kind name s) w ≡ Stopped o → statement n calls (DeclareCall kind name callee arguments) s w ≡ Stopped o
stop_declare_call n calls kind name callee arguments vs o s w h k =
    let t = begin_object kind name s in
    ap (λ f. f s w) (does-DeclareCall n calls kind name callee arguments)
    ∙ bind_stopped (bind (change (begin_object kind name)) (λ u. bind (answered calls callee arguments) initialize)) (λ u. give None) s w o
    (bind_stopped (answered calls callee arguments) initialize t w o (bind_stopped (answer calls callee arguments) (given Undefined) t w o (stop_answer calls callee arguments vs o t w h k)))
