-- Calls of the library and of functions of the program.
use Rattle.std.proofs.Common.{◌≡◌, ℕ, zero, suc, ◌<◌, true, false, List, [], ◌∷◌, ◌++◌, Option, Some, None, codes, cond, refl, ap, arith}
use Rattle.std.proofs.Math.IntN.{ℤ, pos}
use Rattle.lf_base.specs.Outcome.{Written, Outcome, Ended}
use Rattle.lf_base.specs.Acts.{Act, Going, Stopped, bind, give}
use Rattle.lf_base.proofs.Runs.{bind_going, bind_stopped, within_going, within_stopped}
use Rattle.c_nodes.specs.declared.tree.CType.TheVariants.{Int64}
use Rattle.c_nodes.specs.declared.tree.CParameter.{CParameter}
use Rattle.c_nodes.specs.declared.tree.CParameter.TheVariants as parameter
use Rattle.c_nodes.specs.declared.tree.CFile.{CFile}
use Rattle.c_semantics.specs.CValues.{Width, W32, W64, CValue, Number, Errors, fits}
use Rattle.c_semantics.specs.CState.{Cells, State, declare, closed}
use Rattle.c_semantics.specs.CMeaning.{Calls, Procedure, Flow, calls_of, entering, call, put_out, put_error, leave, written_byte, statements, returned, bound, bound_all, holding}
use Rattle.c_semantics.proofs.CNumbers.{byte_small, fits32_nat}

module _ (files : List CFile) (n file : ℕ) where
  pub calls_putchar : (d : ℕ) (vs : List CValue) → calls_of files n d file (codes "putchar") vs ≡ put_out vs
  calls_putchar zero vs = refl
  calls_putchar (suc d) vs = refl

  pub calls_fputc : (d : ℕ) (vs : List CValue) → calls_of files n d file (codes "fputc") vs ≡ put_error vs
  calls_fputc zero vs = refl
  calls_fputc (suc d) vs = refl

  pub calls_exit : (d : ℕ) (vs : List CValue) → calls_of files n d file (codes "exit") vs ≡ leave vs
  calls_exit zero vs = refl
  calls_exit (suc d) vs = refl

-- a byte is written to the error output, or to the output
module _ (b : ℕ) (small : b < 256) (s : State) (w : Written) where
  pub complains : put_error (Number W32 (pos b) ∷ Errors ∷ []) s w ≡ Going (written_byte (pos b)) s (record { out = w.out; err = w.err ++ b ∷ [] })
  complains = rw (fits32_nat b (omega arith)) (rw (byte_small b small) refl)

  pub prints : put_out (Number W32 (pos b) ∷ []) s w ≡ Going (written_byte (pos b)) s (record { out = w.out ++ b ∷ []; err = w.err })
  prints = rw (fits32_nat b (omega arith)) (rw (byte_small b small) refl)

-- a function of the program is called and answers, or ends the program
module _ (n : ℕ) (calls : Calls) (p : Procedure) (vs : List CValue) (s inner : State) (w : Written) (enters : entering p vs s ≡ Some inner) where
  abbrev runs : Act State (Option CValue)
  runs = bind (statements n calls p.body) (λ flow. give (returned p.result flow))

  pub call_going : (r : Option Flow) (t : State) (v : Written) → statements n calls p.body inner w ≡ Going r t v → call n calls p vs s w ≡ Going (returned p.result r) (closed s t) v
  call_going r t v h = rw enters (within_going (λ z. inner) closed runs s w (returned p.result r) t v (bind_going (statements n calls p.body) (λ flow. give (returned p.result flow)) inner w r t v h))

  pub call_stopped : (o : Outcome) → statements n calls p.body inner w ≡ Stopped o → call n calls p vs s w ≡ Stopped o
  call_stopped o h = rw enters (within_stopped (λ z. inner) closed runs s w o (bind_stopped (statements n calls p.body) (λ flow. give (returned p.result flow)) inner w o h))

-- the program ends
pub exits : (k : ℕ) → k < 256 → (s : State) (w : Written) → leave (Number W32 (pos k) ∷ []) s w ≡ Stopped (Ended w k None)
exits k small s w = rw (fits32_nat k (omega arith)) (rw (byte_small k small) (ap (λ x. Stopped (Ended w x None)) (omega arith)))

-- an argument of 64 bits is bound to its parameter
pub binds64 : (name : List ℕ) (ps : List CParameter) (width : Width) (z : ℤ) (vs : List CValue) (s : State) → fits W64 z ≡ true → bound_all (parameter.Value Int64 name ∷ ps) (Number width z ∷ vs) (Some s) ≡ bound_all ps vs (Some (declare name (Cells Int64 false (Some z ∷ [])) s))
binds64 name ps width z vs s h = ap (λ b. bound_all ps vs (bound name (holding Int64 (cond b (Some z) None)) s)) h
