-- The variables in the order of their declaration have objects of their own.
use Rattle.std.proofs.Common.{◌≡◌, ℕ, zero, suc, ◌<◌, length, Bool, true, false, cond, eqb, ◌||◌, List, [], ◌∷◌, refl, sym, ap, ◌∙◌, arith, eqb-true}
use Rattle.link_toy.specs.Source.{Scope, declared, is_among, number_in}
use Rattle.link_toy.specs.Translation.{IsLayout, layout_of}

-- what is among the names behind the first
among_behind : (x y : ℕ) (names : List ℕ) → eqb x y ≡ false → is_among x (y ∷ names) ≡ true → is_among x names ≡ true
among_behind x y names is d = sym (ap (λ b. b || is_among x names) is) ∙ d

number_behind : (x y : ℕ) (names : List ℕ) → eqb x y ≡ false → number_in (y ∷ names) x ≡ suc (number_in names x)
number_behind x y names is = ap (λ b. cond b zero (suc (number_in names x))) is

number_first : (x y : ℕ) (names : List ℕ) → eqb x y ≡ true → number_in (y ∷ names) x ≡ zero
number_first x y names is = ap (λ b. cond b zero (suc (number_in names x))) is

inside : (names : List ℕ) (x : ℕ) → is_among x names ≡ true → number_in names x < length names
inside [] x d = absurd (cc d)
inside (y ∷ names) x d = by_test (eqb x y) refl (inside names x)
  where
    by_test : (b : Bool) → eqb x y ≡ b → (is_among x names ≡ true → number_in names x < length names) → number_in (y ∷ names) x < suc (length names)
    by_test true is behind = let e = number_first x y names is in omega (arith, e)
    by_test false is behind = let e = number_behind x y names is in let l = behind (among_behind x y names is d) in omega (arith, e, l)

apart : (names : List ℕ) (x y : ℕ) → is_among x names ≡ true → is_among y names ≡ true → number_in names x ≡ number_in names y → x ≡ y
apart [] x y dx dy e = absurd (cc dx)
apart (z ∷ names) x y dx dy e = by_tests (eqb x z) (eqb y z) refl refl (apart names x y)
  where
    by_tests : (b c : Bool) → eqb x z ≡ b → eqb y z ≡ c → (is_among x names ≡ true → is_among y names ≡ true → number_in names x ≡ number_in names y → x ≡ y) → x ≡ y
    by_tests true true is is' behind = eqb-true x z is ∙ sym (eqb-true y z is')
    by_tests true false is is' behind = absurd (let f : zero ≡ suc (number_in names y) = sym (number_first x z names is) ∙ e ∙ number_behind y z names is' in omega (arith, f))
    by_tests false true is is' behind = absurd (let f : suc (number_in names x) ≡ zero = sym (number_behind x z names is) ∙ e ∙ number_first y z names is' in omega (arith, f))
    by_tests false false is is' behind = behind (among_behind x z names is dx) (among_behind y z names is' dy) (let f : suc (number_in names x) ≡ suc (number_in names y) = sym (number_behind x z names is) ∙ e ∙ number_behind y z names is' in omega (arith, f))

pub has_layout : (scope : Scope) → IsLayout scope (layout_of scope)
has_layout scope = record { apart = apart (declared scope); inside = inside (declared scope) }
