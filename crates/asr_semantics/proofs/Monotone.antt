-- Larger bounds keep the end of a program, and never shorten what it writes.
use Rattle.std.proofs.Common.{ℕ, ◌≤◌, Bool, true, false, List, [], ◌∷◌, Option, Some, None, le_refl}
use Rattle.lf_base.specs.Outcome.{written}
use Rattle.lf_base.specs.Acts.{look, change}
use Rattle.lf_base.specs.Depth.{calls}
use Rattle.lf_base.specs.Order.{Grows}
use Rattle.lf_base.specs.Near.{IsMonotone}
use Rattle.lf_base.proofs.Depths.{calls_grow, calls_no_shorter}
use Rattle.lf_base.proofs.Monotone.{outcomes_monotone}
use Rattle.type_rules.specs.Store.{Value}
use Rattle.type_rules.specs.Bindings.{Binding}
use Rattle.asr_nodes.specs.Reading.{Path}
use Rattle.asr_nodes.specs.declared.tree.StmtTree.{StmtTree}
use Rattle.asr_nodes.specs.declared.tree.UnitTree.{UnitTree}
use Rattle.asr_nodes.specs.declared.tree.UnitTree.TheVariants as unit
use Rattle.asr_semantics.specs.Machine.{State, Names, M, stuck, variable, fetch, create, declare, declare_static, whole, enter, leave}
use Rattle.asr_semantics.specs.Entities.{Entities, Entity, Procedure, Variable, External, Other, entity_in, source_in, is_own_in, chosen}
use Rattle.asr_semantics.specs.Meaning.{Signal, Exits, Cycles, Returns, Calls}
use Rattle.asr_semantics.specs.Program.{beginning, begin_each, names_of, ended, result_value, is_elsewhere, entities, execute, framed, here_or_away, run_entity, callee, statics_of, main_ended, run_unit, programs, run_main, initial, tree_meaning}
use Rattle.asr_semantics.proofs.Longer.{Longer, same_longer, bind_longer, give_longer, look_longer, change_longer, wrong_longer, away_longer, stuck_longer, within_longer, variable_longer, fetch_longer}
use Rattle.asr_semantics.proofs.Larger.{block_longer}

begin_longer : (bound : Path → Binding → State → State) (es : Entities) → Longer (Unit {0}) (begin_each bound es) (begin_each bound es)
begin_longer bound [] = give_longer (Unit {0}) tt
begin_longer bound (e ∷ es) =
    bind_longer Value (Unit {0}) (stuck (beginning e.1)) (stuck (beginning e.1)) _ _ (stuck_longer Value (beginning e.1)) (λ value.
    bind_longer ℕ (Unit {0}) (look (λ s. s.next)) (look (λ s. s.next)) _ _ (look_longer ℕ (λ s. s.next)) (λ instance.
    bind_longer (Unit {0}) (Unit {0}) (change (create value)) (change (create value)) _ _ (change_longer (create value)) (λ u.
    bind_longer (Unit {0}) (Unit {0}) (change (bound e.0 (whole instance))) (change (bound e.0 (whole instance))) _ _ (change_longer (bound e.0 (whole instance))) (λ w. begin_longer bound es))))

ended_longer : (o : Option Signal) → Longer (Unit {0}) (ended o) (ended o)
ended_longer None = give_longer (Unit {0}) tt
ended_longer (Some Returns) = give_longer (Unit {0}) tt
ended_longer (Some (Exits id)) = wrong_longer (Unit {0})
ended_longer (Some (Cycles id)) = wrong_longer (Unit {0})

result_longer : (o : Option Path) → Longer (Option Value) (result_value o) (result_value o)
result_longer None = give_longer (Option Value) None
result_longer (Some path) =
    bind_longer Binding (Option Value) (variable path) (variable path) _ _ (variable_longer path) (λ b.
    bind_longer Value (Option Value) (fetch b) (fetch b) _ _ (fetch_longer b) (λ v. give_longer (Option Value) (Some v)))

abbrev CallsLonger : Calls → Calls → Type 0
CallsLonger inner inner' = (call : Path × List Binding) → Longer (Option Value) (inner call) (inner' call)

module _ (units : List UnitTree) (loaded : List (List ℕ)) (n n' : ℕ) (le : n ≤ n') where
  executes_longer : (inner inner' : Calls) → CallsLonger inner inner' → (path : Path) (source : List ℕ) (result : Option Path) (body : List StmtTree) → Longer (Option Value) (execute units loaded n inner path source result body) (execute units loaded n' inner' path source result body)
  executes_longer inner inner' h path source result body =
      bind_longer (Unit {0}) (Option Value) _ _ _ _ (begin_longer declare (chosen (is_own_in path) (entities units loaded n))) (λ u.
      bind_longer (Option Signal) (Option Value) _ _ _ _ (block_longer (entities units loaded n) n n' le inner inner' h source body) (λ signal.
      bind_longer (Unit {0}) (Option Value) (ended signal) (ended signal) _ _ (ended_longer signal) (λ w. result_longer result)))

  framed_longer : (inner inner' : Calls) → CallsLonger inner inner' → (path : Path) (dummies : List Path) (result : Option Path) (body : List StmtTree) (arguments : List Binding) → Longer (Option Value) (framed units loaded n inner path dummies result body arguments) (framed units loaded n' inner' path dummies result body arguments)
  framed_longer inner inner' h path dummies result body arguments =
      bind_longer Names (Option Value) (stuck (names_of dummies arguments)) (stuck (names_of dummies arguments)) _ _ (stuck_longer Names (names_of dummies arguments)) (λ names.
      bind_longer (List ℕ) (Option Value) (stuck (source_in units path)) (stuck (source_in units path)) _ _ (stuck_longer (List ℕ) (source_in units path)) (λ source.
      within_longer (Option Value) (enter names) leave _ _ (executes_longer inner inner' h path source result body)))

  here_longer : (t : Bool) (act act' : M (Option Value)) → Longer (Option Value) act act' → Longer (Option Value) (here_or_away units loaded n t act) (here_or_away units loaded n' t act')
  here_longer true act act' h = away_longer (Option Value)
  here_longer false act act' h = h

  entity_longer : (inner inner' : Calls) → CallsLonger inner inner' → (path : Path) (arguments : List Binding) (o : Option Entity) → Longer (Option Value) (run_entity units loaded n inner path arguments o) (run_entity units loaded n' inner' path arguments o)
  entity_longer inner inner' h path arguments None = wrong_longer (Option Value)
  entity_longer inner inner' h path arguments (Some (Procedure dummies result simple body)) =
      here_longer (is_elsewhere loaded path simple) _ _ (framed_longer inner inner' h path dummies result body arguments)
  entity_longer inner inner' h path arguments (Some (Variable ty storage init)) = wrong_longer (Option Value)
  entity_longer inner inner' h path arguments (Some (External home original)) = wrong_longer (Option Value)
  entity_longer inner inner' h path arguments (Some Other) = wrong_longer (Option Value)

  callee_longer : (inner inner' : Calls) → CallsLonger inner inner' → CallsLonger (callee units loaded n inner) (callee units loaded n' inner')
  callee_longer inner inner' h call = entity_longer inner inner' h call.0 call.1 (entity_in (entities units loaded n) call.0)

  grows : (inner' : Calls) → ((call : Path × List Binding) → Grows (inner' call)) → (call : Path × List Binding) → Grows (callee units loaded n' inner' call)
  grows inner' g call = (callee_longer inner' inner' (λ c. same_longer (Option Value) (inner' c) (g c)) call).grows

  all_longer : (d d' : ℕ) → d ≤ d' → CallsLonger (calls (callee units loaded n) d) (calls (callee units loaded n') d')
  all_longer d d' ld call = record {
    no_shorter =
        calls_no_shorter (callee units loaded n) (callee units loaded n')
        (λ inner inner' h g c. (callee_longer inner inner' (λ x. record { no_shorter = h x; grows = g x }) c).no_shorter) grows d d' ld call;
    grows = calls_grow (callee units loaded n') grows d' call;
  }

  main_longer : (o : Option Signal) → Longer ℕ (main_ended units loaded n o) (main_ended units loaded n' o)
  main_longer None = give_longer ℕ 0
  main_longer (Some signal) = wrong_longer ℕ

  unit_longer : (d d' : ℕ) → d ≤ d' → (u : UnitTree) → Longer ℕ (run_unit units loaded n d u) (run_unit units loaded n' d' u)
  unit_longer d d' ld (unit.Program name source deps symbols body) =
      bind_longer (Unit {0}) ℕ _ _ _ _ (begin_longer declare_static (statics_of units loaded n name)) (λ u.
      bind_longer (Option Signal) ℕ _ _ _ _ (block_longer (entities units loaded n) n n' le _ _ (all_longer d d' ld) source body) main_longer)
  unit_longer d d' ld (unit.Module name source deps symbols) = wrong_longer ℕ

  pub run_longer : (d d' : ℕ) → d ≤ d' → (us : List UnitTree) → Longer ℕ (run_main units loaded n d us) (run_main units loaded n' d' us)
  run_longer d d' ld [] = wrong_longer ℕ
  run_longer d d' ld (u ∷ []) = unit_longer d d' ld u
  run_longer d d' ld (u ∷ v ∷ us) = wrong_longer ℕ

pub meaning_monotone : (units : List UnitTree) (loaded : List (List ℕ)) (input : List ℕ) → IsMonotone (tree_meaning units loaded input)
meaning_monotone units loaded input =
    outcomes_monotone (λ n d. run_main units loaded n d (programs units loaded 0 units)) (initial units loaded 0 input) (written [] [])
    (λ n n' d d' le ld. (run_longer units loaded n n' le d d' ld (programs units loaded 0 units)).no_shorter)
    (λ n d. (run_longer units loaded n n (le_refl n) d d (le_refl d) (programs units loaded 0 units)).grows)
