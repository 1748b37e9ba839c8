-- Statements, in the words of the laws.
use Rattle.std.proofs.Common.{◌≡◌, ℕ, Bool, true, false, if◌then◌else◌, List, Option, Some, None, Ok, Err, refl, sym, subst}
use Rattle.std.specs.List.{list_any}
use Rattle.std.specs.Str.{bytes_eq}
use Rattle.lf_base.specs.Outcome.{Ended, Cut, Wrong}
use Rattle.lf_base.specs.Acts.{Stretch, Going, Stopped, bind, give}
use Rattle.lf_base.specs.Equal.{World, Sound, Equal, Always, Anyhow}
use Rattle.lf_base.proofs.Equals.{step_equal, give_equal}
use Rattle.lf_base.specs.declared.rule.Rule.{Rule}
use Rattle.lf_base.specs.declared.rule.Rule.TheVariants.{E401, E409, E410}
use Rattle.asr_nodes.specs.declared.tree.ExprTree.{ExprTree}
use Rattle.asr_nodes.specs.declared.tree.StmtTree.{StmtTree}
use Rattle.asr_nodes.specs.declared.tree.StmtTree.TheVariants as s
use Rattle.asr_semantics.specs.Machine.{State, M}
use Rattle.asr_semantics.specs.Entities.{Entities}
use Rattle.asr_semantics.specs.Meaning.{Signal, Doing, Calls, then_next, at, expression, statement}
use Rattle.asr_semantics.specs.Meaning as t
use Rattle.asr_semantics.proofs.Nodes.{statement-Assign}
use Rattle.fortran_semantics.specs.Declared.{Declared}
use Rattle.fortran_semantics.specs.Meaning as f
use Rattle.fortran_semantics.specs.Meaning.{Meant}
use Rattle.ast_to_asr.specs.Judged.{Judged, both, right, map_right}
use Rattle.ast_to_asr.specs.Expressions.{Elaborated, Elab}
use Rattle.ast_to_asr.specs.Statements.{assigned_tree, changed, changed_name, assigned_value, assign_tree}
use Rattle.fortran_link.specs.Claims.{Continues, StatementAlike, AssignmentsAgree}
use Rattle.fortran_link.proofs.States.{W}
use Rattle.fortran_link.proofs.Claims.{Claim, ClaimOf}
use Rattle.fortran_link.proofs.Agreement.{expression_agrees, designator_agrees}
use Rattle.fortran_link.proofs.Assignments.{Assigned, assignment_by}

continues : (unit_name : List ℕ) (declared : List Declared) (s : State) (x : Stretch State (Option Signal)) → Sound (W unit_name declared) s Anyhow x → Continues s x
continues unit_name declared s (Going signal t sofar) h = h.0
continues unit_name declared s (Stopped (Ended sofar status location)) h = tt
continues unit_name declared s (Stopped (Cut sofar)) h = tt
continues unit_name declared s (Stopped (Wrong fault)) h = h

module _ (unit_name : List ℕ) (declared : List Declared) (es : Entities) (n : ℕ) (inner : Calls) where
  abbrev V : World State
  V = W unit_name declared

  executes : (act act' : Doing) → Equal V Always Anyhow act act' → (s : State) → V.holds s → (w : Rattle.lf_base.specs.Outcome.Written) → Continues s (act s w) × (act' s w ≡ act s w)
  executes act act' h s i w = let r = h s i tt w in (continues unit_name declared s (act s w) r.0, r.1)

  abbrev Does : Judged StmtTree → (List ℕ → Doing) → Type 0
  Does (Ok tree) does = (source : List ℕ) → Equal V Always Anyhow (does source) (statement es n inner tree source)
  Does (Err rule) does = Unit {0}

  then_goes : (act act' : M (Unit {0})) → Equal V Always Anyhow act act' → Equal V Always Anyhow (then_next act) (then_next act')
  then_goes act act' h = step_equal V act act' (λ u. give None) (λ u. give None) h (λ u. give_equal V Always {A = Option Signal} Anyhow None (λ s i p. tt))

  assigned_does : (line : ℕ) (a : Elaborated) (y : ExprTree) (m v : Meant) → ((here : Rattle.lf_base.specs.Outcome.Location) → Equal V Always Anyhow (f.assigns here m v) (t.assigns here (expression es n inner a.tree) (expression es n inner y))) → Does (Ok (s.Assign line a.tree y)) (λ source. then_next (f.assigns (at source line) m v))
  assigned_does line a y m v h source =
      subst (λ d. Equal V Always Anyhow (then_next (f.assigns (at source line) m v)) (d source)) (sym (statement-Assign es n inner line a.tree y))
      (then_goes (f.assigns (at source line) m v) (t.assigns (at source line) (expression es n inner a.tree) (expression es n inner y)) (h (at source line)))

  assign_by : (line : ℕ) (active : List (List ℕ)) (a b : Elaborated) (m v : Meant) → Claim unit_name declared es n inner a m → Claim unit_name declared es n inner b v → (o : Option (List ℕ)) → a.variable ≡ o → (p : Option ExprTree) → assigned_tree a.ty b.ty b.tree ≡ p → Does (map_right (λ q. s.Assign line q.0.tree q.1) (both (changed_name active a o) (right E401 p))) (λ source. then_next (f.assigns (at source line) m v))
  assign_by line active a b m v h g None q None r = tt
  assign_by line active a b m v h g None q (Some y) r = tt
  assign_by line active a b m v h g (Some name) q None r = either (list_any (bytes_eq name) active)
    where
      either : (u : Bool) → Does (map_right (λ q. s.Assign line q.0.tree q.1) (both (if u then Err E410 else Ok a) (Err E401))) (λ source. then_next (f.assigns (at source line) m v))
      either true = tt
      either false = tt
  assign_by line active a b m v h g (Some name) q (Some y) r = either (list_any (bytes_eq name) active) refl
    where
      either : (u : Bool) → list_any (bytes_eq name) active ≡ u → Does (map_right (λ q. s.Assign line q.0.tree q.1) (both (if u then Err E410 else Ok a) (Ok y))) (λ source. then_next (f.assigns (at source line) m v))
      either true e = tt
      either false e =
          assigned_does line a y m v
          (λ here. subst (λ u. Assigned unit_name declared es n inner here (if u then Err E410 else Ok a) (Some y) a m v) e (assignment_by unit_name declared es n inner here active a b m v h g (Some name) q (Some y) r))

  assign_claim : (line : ℕ) (active : List (List ℕ)) (a b : Elab) (m v : Meant) → ClaimOf unit_name declared es n inner a m → ClaimOf unit_name declared es n inner b v → Does (assign_tree line active a b) (λ source. then_next (f.assigns (at source line) m v))
  assign_claim line active (Ok a) (Ok b) m v h g = assign_by line active a b m v h g a.variable refl (assigned_tree a.ty b.ty b.tree) refl
  assign_claim line active (Ok a) (Err r) m v h g = bad (changed_name active a a.variable)
    where
      bad : (o : Elab) → Does (map_right (λ q. s.Assign line q.0.tree q.1) (both o (Err r))) (λ source. then_next (f.assigns (at source line) m v))
      bad (Ok x) = tt
      bad (Err q) = tt
  assign_claim line active (Err r) (Ok b) m v h g = tt
  assign_claim line active (Err r) (Err q) m v h g = tt

  pub alike : (x : Judged StmtTree) (does : List ℕ → Doing) → Does x does → StatementAlike unit_name declared es n inner x does
  alike (Ok tree) does h = λ source s i w. executes (does source) (statement es n inner tree source) (h source) s i w
  alike (Err rule) does h = tt

pub assignments_agree : AssignmentsAgree
assignments_agree unit_name scope declared known es agree n inner line active target x =
    alike unit_name declared es n inner
    (assign_tree line active (Rattle.ast_to_asr.specs.Expressions.elab_designator unit_name scope target) (Rattle.ast_to_asr.specs.Expressions.elab_expr unit_name scope x))
    (λ source. then_next (f.assigns (at source line) (f.designated unit_name declared known target) (f.expression unit_name declared known x)))
    (assign_claim unit_name declared es n inner line active (Rattle.ast_to_asr.specs.Expressions.elab_designator unit_name scope target) (Rattle.ast_to_asr.specs.Expressions.elab_expr unit_name scope x)
    (f.designated unit_name declared known target) (f.expression unit_name declared known x)
    (designator_agrees unit_name declared es n inner scope known agree target) (expression_agrees unit_name declared es n inner scope known agree x))
