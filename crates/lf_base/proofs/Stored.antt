-- What a look-up finds at the first file.
use Rattle.std.proofs.Common.{◌≡◌, ℕ, Bool, true, List, ◌∷◌, Some, refl, sym, ap, subst, cond}
use Rattle.std.specs.Bool.{Decides}
use Rattle.std.specs.Ordering.{nat_cmp, eq_by_cmp, is_eq}
use Rattle.std.specs.Cmp.{eq_by_cmp_equiv}
use Rattle.std.specs.Cmp.Lexicographic.{slice_cmp, nat_list_cmp_total}
use Rattle.std.specs.FinMap.{find, get, from_entries, get-from_entries, slice_cmp-IsAntisymmetric, nat_cmp-IsAntisymmetric}
use Rattle.std.specs.declared.cmp.Ordering.{Ordering}
use Rattle.std.specs.declared.cmp.Ordering.TheVariants.{Less, Equal, Greater}
use Rattle.std.proofs.lemmas.Bool.Decides.{same_from_decides}
use Rattle.lf_base.specs.declared.sure_store.StoredFile.{StoredFile}
use Rattle.lf_base.specs.SureStore.{entry}

equal_names : (o : Ordering) → is_eq o ≡ true → o ≡ Equal
equal_names Less h = absurd (cc)
equal_names Equal h = refl
equal_names Greater h = absurd (cc)

names_decide : (q k : List ℕ) → Decides (eq_by_cmp (slice_cmp nat_cmp) q k) (k ≡ q)
names_decide q k = (
  λ h. sym (slice_cmp-IsAntisymmetric nat_cmp-IsAntisymmetric q k (equal_names (slice_cmp nat_cmp q k) h)),
  λ e. subst (λ n. eq_by_cmp (slice_cmp nat_cmp) q n ≡ true) (sym e) ((eq_by_cmp_equiv nat_list_cmp_total).refl q),
)

pub find_step : (q : List ℕ) (f : StoredFile) (es : List (List ℕ × List ℕ)) (r : Bool) → Decides r (f.name.items ≡ q) → find (slice_cmp nat_cmp) q (entry f ∷ es) ≡ cond r (Some f.bytes.items) (find (slice_cmp nat_cmp) q es)
find_step q f es r h = ap (λ b. cond b (Some f.bytes.items) (find (slice_cmp nat_cmp) q es)) (same_from_decides (eq_by_cmp (slice_cmp nat_cmp) q f.name.items) r (names_decide q f.name.items) h)

pub get_stored : (es : List (List ℕ × List ℕ)) (q : List ℕ) → get (from_entries {R = slice_cmp nat_cmp} es) q ≡ find (slice_cmp nat_cmp) q es
get_stored es q = get-from_entries nat_list_cmp_total es q
