-- The files of a map whose names are not a store's own.
use Rattle.std.proofs.Common.{◌≡◌, ℕ, Bool, true, false, not, cond, List, Option, Some, None, refl, sym, ap, subst, ◌∙◌}
use Rattle.std.specs.Ordering.{nat_cmp, eq_by_cmp, is_eq}
use Rattle.std.specs.Cmp.{eq_by_cmp_equiv}
use Rattle.std.specs.Cmp.Lexicographic.{slice_cmp, nat_list_cmp_total}
use Rattle.std.specs.FinMap.{get, insert, remove, get-retain_keys, get-insert, get-remove, same_map, slice_cmp-IsAntisymmetric, nat_cmp-IsAntisymmetric}
use Rattle.std.specs.declared.cmp.Ordering.{Ordering}
use Rattle.std.specs.declared.cmp.Ordering.TheVariants.{Less, Equal, Greater}
use Rattle.lf_base.specs.Files.{Files}
use Rattle.lf_outside.specs.Names.{is_own}
use Rattle.lf_outside.specs.Disk.{users}

abbrev order : List ℕ → List ℕ → Ordering
order = slice_cmp nat_cmp

ties : (o : Ordering) → is_eq o ≡ true → o ≡ Equal
ties Less h = absurd (cc)
ties Equal h = refl
ties Greater h = absurd (cc)

same_name : (q k : List ℕ) → order q k ≡ Equal → q ≡ k
same_name q k e = slice_cmp-IsAntisymmetric nat_cmp-IsAntisymmetric q k e

pub one_name : (q k : List ℕ) → eq_by_cmp order q k ≡ true → q ≡ k
one_name q k e = same_name q k (ties (order q k) e)

pub itself : (k : List ℕ) → eq_by_cmp order k k ≡ true
itself k = (eq_by_cmp_equiv nat_list_cmp_total).refl k

get_user : (m : Files) (q : List ℕ) → get (users m) q ≡ cond (not (is_own q)) (get m q) None
get_user m q = get-retain_keys m (λ name. not (is_own name)) q (λ x e. ap (λ n. not (is_own n)) (sym (same_name q x e)))

pub get_plain : (m : Files) (q : List ℕ) → is_own q ≡ false → get (users m) q ≡ get m q
get_plain m q h = get_user m q ∙ ap (λ b. cond (not b) (get m q) None) h

pub get_own : (m : Files) (q : List ℕ) → is_own q ≡ true → get (users m) q ≡ None
get_own m q h = get_user m q ∙ ap (λ b. cond (not b) (get m q) None) h

pub get_put : (m : Files) (k v : List ℕ) → get (insert m k v) k ≡ Some v
get_put m k v = get-insert nat_list_cmp_total m k v k ∙ ap (λ b. cond b (Some v) (get m k)) (itself k)

pub get_taken : (m : Files) (k : List ℕ) → get (remove m k) k ≡ None
get_taken m k = get-remove nat_list_cmp_total m k k ∙ ap (λ b. cond b None (get m k)) (itself k)

hidden : (a b : Bool) (x y : Option (List ℕ)) → (b ≡ true → a ≡ true) → cond (not a) (cond b x y) None ≡ cond (not a) y None
hidden true b x y h = refl
hidden false true x y h = let no = h refl in absurd (cc)
hidden false false x y h = refl

shown : (a b : Bool) (x y : Option (List ℕ)) → (b ≡ true → a ≡ false) → cond (not a) (cond b x y) None ≡ cond b x (cond (not a) y None)
shown true true x y h = let no = h refl in absurd (cc)
shown true false x y h = refl
shown false true x y h = refl
shown false false x y h = refl

-- what happens under a store's own name shows in none of its files
pub insert_own : (m : Files) (k v : List ℕ) → is_own k ≡ true → users (insert m k v) ≡ users m
insert_own m k v h = same_map nat_list_cmp_total (slice_cmp-IsAntisymmetric nat_cmp-IsAntisymmetric) (users (insert m k v)) (users m) (λ q.
    get_user (insert m k v) q
    ∙ ap (λ t. cond (not (is_own q)) t None) (get-insert nat_list_cmp_total m k v q)
    ∙ hidden (is_own q) (eq_by_cmp order q k) (Some v) (get m q) (λ e. subst (λ n. is_own n ≡ true) (sym (one_name q k e)) h)
    ∙ sym (get_user m q))

pub remove_own : (m : Files) (k : List ℕ) → is_own k ≡ true → users (remove m k) ≡ users m
remove_own m k h = same_map nat_list_cmp_total (slice_cmp-IsAntisymmetric nat_cmp-IsAntisymmetric) (users (remove m k)) (users m) (λ q.
    get_user (remove m k) q
    ∙ ap (λ t. cond (not (is_own q)) t None) (get-remove nat_list_cmp_total m k q)
    ∙ hidden (is_own q) (eq_by_cmp order q k) None (get m q) (λ e. subst (λ n. is_own n ≡ true) (sym (one_name q k e)) h)
    ∙ sym (get_user m q))

pub insert_plain : (m : Files) (k v : List ℕ) → is_own k ≡ false → users (insert m k v) ≡ insert (users m) k v
insert_plain m k v h = same_map nat_list_cmp_total (slice_cmp-IsAntisymmetric nat_cmp-IsAntisymmetric) (users (insert m k v)) (insert (users m) k v) (λ q.
    get_user (insert m k v) q
    ∙ ap (λ t. cond (not (is_own q)) t None) (get-insert nat_list_cmp_total m k v q)
    ∙ shown (is_own q) (eq_by_cmp order q k) (Some v) (get m q) (λ e. subst (λ n. is_own n ≡ false) (sym (one_name q k e)) h)
    ∙ ap (cond (eq_by_cmp order q k) (Some v)) (sym (get_user m q))
    ∙ sym (get-insert nat_list_cmp_total (users m) k v q))
