-- What one call does to the file of a name.
use Rattle.std.proofs.Common.{◌≡◌, ℕ, true, false, List, Some, None, refl, sym, ap, subst, cond, ◌∙◌}
use Rattle.std.specs.Ordering.{eq_by_cmp, nat_cmp}
use Rattle.std.specs.Cmp.Lexicographic.{slice_cmp, nat_list_cmp_total}
use Rattle.std.specs.FinMap.{get, insert, remove, get-insert, get-remove}
use Rattle.lf_base.specs.Files.{Files}
use Rattle.lf_outside.proofs.Users.{one_name, get_put, get_taken}

apart : (q k : List ℕ) → (k ≡ q → ⊥) → eq_by_cmp (slice_cmp nat_cmp) q k ≡ false
apart q k diff = elim (eq_by_cmp (slice_cmp nat_cmp) q k) as (λ b. eq_by_cmp (slice_cmp nat_cmp) q k ≡ b → b ≡ false) [ true ↦ λ e. absurd (diff (sym (one_name q k e))) | false ↦ λ e. refl ] refl

pub put_here : (m : Files) (k v q : List ℕ) → k ≡ q → get (insert m k v) q ≡ Some v
put_here m k v q e = subst (λ n. get (insert m k v) n ≡ Some v) e (get_put m k v)

pub put_there : (m : Files) (k v q : List ℕ) → (k ≡ q → ⊥) → get (insert m k v) q ≡ get m q
put_there m k v q diff = get-insert nat_list_cmp_total m k v q ∙ ap (λ b. cond b (Some v) (get m q)) (apart q k diff)

pub taken_here : (m : Files) (k q : List ℕ) → k ≡ q → get (remove m k) q ≡ None
taken_here m k q e = subst (λ n. get (remove m k) n ≡ None) e (get_taken m k)

pub taken_there : (m : Files) (k q : List ℕ) → (k ≡ q → ⊥) → get (remove m k) q ≡ get m q
taken_there m k q diff = get-remove nat_list_cmp_total m k q ∙ ap (λ b. cond b None (get m q)) (apart q k diff)

pub moved_there : (m : Files) (from to v q : List ℕ) → (to ≡ q → ⊥) → (from ≡ q → ⊥) → get (insert (remove m from) to v) q ≡ get m q
moved_there m from to v q diff none = put_there (remove m from) to v q diff ∙ taken_there m from q none

pub moved_away : (m : Files) (from to v q : List ℕ) → (to ≡ q → ⊥) → from ≡ q → get (insert (remove m from) to v) q ≡ None
moved_away m from to v q diff is = put_there (remove m from) to v q diff ∙ taken_here m from q is

pub ruleset effects = (put_here, put_there, taken_here, taken_there, moved_there, moved_away)
