-- Functions of the prelude in a file that begins with it: how one is found, what its call leaves, and what its call
-- does at fewer turns and depths.
use Rattle.std.proofs.Common.{◌≡◌, ℕ, zero, suc, ◌+◌, ◌-◌, ◌≤◌, true, List, ◌++◌, Option, Some, ap, subst, ◌∙◌, arith}
use Rattle.lf_base.specs.Outcome.{Written}
use Rattle.lf_base.specs.Acts.{Stretch}
use Rattle.c_nodes.specs.declared.tree.CItem.{CItem}
use Rattle.c_nodes.specs.declared.tree.CFile.{CFile}
use Rattle.c_semantics.specs.CValues.{CValue}
use Rattle.c_semantics.specs.CState.{Stored, Frame, State, closed}
use Rattle.c_semantics.specs.CMeaning.{Procedure, function_of, first_of, external_in, function_in, calls_of}
use Rattle.c_semantics.proofs.CMonotone.{calls_longer}
use Rattle.c_semantics.proofs.Numbers.{dropped}
use Rattle.c_prelude.specs.PreludeLaws.{HasPrelude, Reaches, Does}
use Rattle.c_prelude.specs.Prelude.{prelude_items}

-- a function of the prelude is found under its name
module _ (files : List CFile) (file : ℕ) (h : HasPrelude files file) where
  pub found : (name : List ℕ) (p : Procedure) → ((rest : List CItem) → function_in name true file (prelude_items ++ rest) ≡ Some p) → function_of files file name ≡ Some p
  found name p k = ap (λ items. first_of (function_in name true file items) (external_in name 0 files)) h.is ∙ ap (λ o. first_of o (external_in name 0 files)) (k h.rest)

-- the objects of a call end with it, and the caller goes on with its own
pub ended : (here : Frame) (next : ℕ) (front : List Stored) (s : State) → closed s (record { here = here; next = next; memory = front ++ s.memory; around = s.around }) ≡ record { here = s.here; next = next; memory = s.memory; around = s.around }
ended here next front s = ap (λ m. record { here = s.here; next = next; memory = m; around = s.around }) (dropped front s.memory)

-- so many calls deeper
abbrev pub deeper : ℕ → ℕ → ℕ
deeper zero d = d
deeper (suc e) d = suc (deeper e d)

deeper_is : (e d : ℕ) → deeper e d ≡ d + e
deeper_is zero d = omega arith
deeper_is (suc e) d = ap suc (deeper_is e d) ∙ omega arith

-- what holds from some turns and depths on tells what happens at all of them
pub does : (files : List CFile) (file turns depth : ℕ) (name : List ℕ) (vs : List CValue) (s : State) (w : Written) (this : Stretch State (Option CValue)) → ((n d : ℕ) → turns ≤ n → calls_of files n (deeper depth d) file name vs s w ≡ this) → Does files file turns depth name vs s w this
does files file turns depth name vs s w this h = record {
  enough = λ n d le ld. subst (λ e. calls_of files n e file name vs s w ≡ this) (deeper_is depth (d - depth) ∙ omega arith) (h n (d - depth) le);
  every = λ n d. subst (Reaches (calls_of files n d file name vs s w)) (h (n + turns) d (omega arith)) (calls_longer files n (n + turns) d (deeper depth d) file (omega arith) (omega (arith, deeper_is depth d)) name vs s w);
}
