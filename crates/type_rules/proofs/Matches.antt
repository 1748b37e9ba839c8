-- Two specific procedures that are distinguishable never match the same arguments.
use Rattle.std.proofs.Common.{◌≡◌, ℕ, Bool, true, false, not, ◌&&◌, ◌||◌, refl, arith, List, [], ◌∷◌, length, ◌==◌}
use Rattle.type_rules.specs.Types.{same, same_element}
use Rattle.type_rules.specs.Matching.{matches, are_distinguishable}
use Rattle.type_rules.specs.declared.ty.Ty.{Ty}
use Rattle.type_rules.specs.declared.ty.Elem.{Elem}
use Rattle.type_rules.specs.declared.ty.Elem.TheVariants.{Integer, Logical, Character, Derived}

both_true : (p q : Bool) → (p && q) ≡ true → (p ≡ true) × (q ≡ true)
both_true true true e = (refl, refl)
both_true true false e = cc
both_true false q e = cc

from_both : (p q : Bool) → p ≡ true → q ≡ true → (p && q) ≡ true
from_both p q e f = rw (e, f) refl

numbers : (j k m : ℕ) → (j == m) ≡ true → (k == m) ≡ true → (j == k) ≡ true
numbers j k m e f = by (j == k) refl
  where
    by : (t : Bool) → (j == k) ≡ t → t ≡ true
    by true g = refl
    by false g = absurd (grind arith)

elements : (x a b : Elem) → same_element a x ≡ true → same_element b x ≡ true → same_element a b ≡ true
elements (Integer m) (Integer j) (Integer k) e f = numbers j k m e f
elements (Derived u) (Derived s) (Derived t) e f = numbers s.0 t.0 u.0 e f
elements Logical Logical Logical e f = refl
elements (Character o) (Character m) (Character n) e f = refl
elements x a b e f = cc

types : (a b x : Ty) → same a x ≡ true → same b x ≡ true → same a b ≡ true
types a b x e f =
    let p = both_true (same_element a.elem x.elem) (length a.dims == length x.dims) e in
    let q = both_true (same_element b.elem x.elem) (length b.dims == length x.dims) f in
    from_both (same_element a.elem b.elem) (length a.dims == length b.dims)
    (elements x.elem a.elem b.elem p.0 q.0)
    (numbers (length a.dims) (length b.dims) (length x.dims) p.1 q.1)

later : (t u : Bool) → t ≡ true → (not t || u) ≡ true → u ≡ true
later true u e f = f
later false u e f = cc

pub never_both : (a b args : List Ty) → are_distinguishable a b ≡ true → matches a args ≡ true → matches b args ≡ true → ⊥
never_both [] [] args d e f = cc
never_both [] (y ∷ ys) [] d e f = cc
never_both [] (y ∷ ys) (z ∷ zs) d e f = cc
never_both (x ∷ xs) [] [] d e f = cc
never_both (x ∷ xs) [] (z ∷ zs) d e f = cc
never_both (x ∷ xs) (y ∷ ys) [] d e f = cc
never_both (x ∷ xs) (y ∷ ys) (z ∷ zs) d e f =
    let p = both_true (same x z) (matches xs zs) e in
    let q = both_true (same y z) (matches ys zs) f in
    never_both xs ys zs (later (same x y) (are_distinguishable xs ys) (types x y z p.0 q.0) d) p.1 q.1
