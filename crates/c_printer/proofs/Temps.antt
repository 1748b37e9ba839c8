-- The types of temporaries: one is looked up by its number, and one is put under a number.
use Rattle.std.proofs.Common.{◌≡◌, ℕ, ◌==◌, Bool, true, false, cond, List, [], ◌∷◌, Option, Some, None, refl, sym, ap, ◌∙◌, arith}
use Rattle.std.proofs.lemmas.Bool.Decides.{nat_tests}
use Rattle.std.specs.BTreeMap.{is_at}
use Rattle.std.specs.Map.{lookup}
use Rattle.std.specs.Ordering.{is_eq, nat_cmp}
use Rattle.std.specs.Cmp.{unsigned_tied}
use Rattle.c_printer.specs.declared.scalar.ScalarType.{ScalarType}
use Rattle.c_printer.specs.declared.scalar.ScalarType.TheVariants.{Integer4}
use Rattle.c_printer.specs.Writing.{temp_type}

abbrev Temps : Type 0
Temps = List (ℕ × ScalarType)

abbrev found : Option ScalarType → ScalarType
found None = Integer4
found (Some ty) = ty

found_cond : (b : Bool) (ty : ScalarType) (more : Option ScalarType) → found (cond b (Some ty) more) ≡ cond b ty (found more)
found_cond true ty more = refl
found_cond false ty more = refl

type_is : (n : ℕ) (temps : Temps) → temp_type temps n ≡ found (lookup (is_at (nat_cmp n)) temps)
type_is n [] = refl
type_is n (e ∷ es) =
    (λ i. cond (sym (unsigned_tied n e.0) i) e.1 (type_is n es i))
    ∙ sym (found_cond (is_eq (nat_cmp n e.0)) e.1 (lookup (is_at (nat_cmp n)) es))

pub type_found : (n : ℕ) (temps : Temps) (o : Option ScalarType) → o ≡ lookup (is_at (nat_cmp n)) temps → found o ≡ temp_type temps n
type_found n temps o e = ap found e ∙ sym (type_is n temps)

swapped : (x y : ℕ) → (x == y) ≡ (y == x)
swapped x y = grind (arith, nat_tests)

pub type_put : (number : ℕ) (ty : ScalarType) (old new : Temps) → ((q : ℕ) → lookup (is_at (nat_cmp q)) new ≡ cond (is_at (nat_cmp number) q) (Some ty) (lookup (is_at (nat_cmp q)) old))
    → (n : ℕ) → temp_type new n ≡ cond (n == number) ty (temp_type old n)
type_put number ty old new has n =
    type_is n new
    ∙ ap found (has n)
    ∙ found_cond (is_at (nat_cmp number) n) ty (lookup (is_at (nat_cmp n)) old)
    ∙ (λ i. cond ((unsigned_tied number n ∙ swapped number n) i) ty (sym (type_is n old) i))
