-- The names of slots: they are kept, and a slot's number finds what its name does.
use Rattle.std.proofs.Common.{◌≡◌, ℕ, zero, suc, Bool, true, false, cond, eqb, ◌||◌, List, [], ◌∷◌, Some, refl, sym, ap, ◌∙◌}
use Rattle.lf_base.specs.Equal.{World}
use Rattle.link_toy.specs.Source.{Scope, is_among, declared, number_in, number_of}
use Rattle.link_toy.specs.Meaning.{slot, Store, find, put, zeros, opened}
use Rattle.link_toy.specs.Numbered.{names_of, find_number, put_number}

pub names_put : (x v : ℕ) (s : Store) → names_of (put x v s) ≡ names_of s
names_put x v [] = refl
names_put x v (s ∷ store) = by_test (eqb x s.name) (names_put x v store)
  where
    by_test : (b : Bool) → names_of (put x v store) ≡ names_of store → names_of (cond b (slot s.name v ∷ store) (s ∷ put x v store)) ≡ s.name ∷ names_of store
    by_test true behind = refl
    by_test false behind = ap (λ names. s.name ∷ names) behind

names_zeros : (names : List ℕ) → names_of (zeros names) ≡ names
names_zeros [] = refl
names_zeros (x ∷ names) = ap (λ rest. x ∷ rest) (names_zeros names)

pub names_opened : (scope : Scope) (v : ℕ) → names_of (opened scope v) ≡ declared scope
names_opened scope v = ap (λ rest. scope.argument ∷ rest) (names_zeros scope.others)

-- a name that stands has a value
found_among : (x : ℕ) (s : Store) → is_among x (names_of s) ≡ true → (v : ℕ) × (find x s ≡ Some v)
found_among x [] d = absurd (cc d)
found_among x (s ∷ store) d = by_test (eqb x s.name) refl (found_among x store)
  where
    by_test : (b : Bool) → eqb x s.name ≡ b → (is_among x (names_of store) ≡ true → (v : ℕ) × (find x store ≡ Some v)) → (v : ℕ) × (cond (eqb x s.name) (Some s.value) (find x store) ≡ Some v)
    by_test true is behind = (s.value, ap (λ b. cond b (Some s.value) (find x store)) is)
    by_test false is behind = let y = behind (sym (ap (λ b. b || is_among x (names_of store)) is) ∙ d) in (y.0, ap (λ b. cond b (Some s.value) (find x store)) is ∙ y.1)

pub found : (scope : Scope) (x : ℕ) (s : Store) → names_of s ≡ declared scope → is_among x (declared scope) ≡ true → (v : ℕ) × (find x s ≡ Some v)
found scope x s h d = found_among x s (ap (is_among x) h ∙ d)

find_in : (x : ℕ) (s : Store) → find_number (number_in (names_of s) x) s ≡ find x s
find_in x [] = refl
find_in x (s ∷ store) = by_test (eqb x s.name) (find_in x store)
  where
    by_test : (b : Bool) → find_number (number_in (names_of store) x) store ≡ find x store → find_number (cond b zero (suc (number_in (names_of store) x))) (s ∷ store) ≡ cond b (Some s.value) (find x store)
    by_test true behind = refl
    by_test false behind = behind

put_in : (x v : ℕ) (s : Store) → put_number (number_in (names_of s) x) v s ≡ put x v s
put_in x v [] = refl
put_in x v (s ∷ store) = by_test (eqb x s.name) (put_in x v store)
  where
    by_test : (b : Bool) → put_number (number_in (names_of store) x) v store ≡ put x v store → put_number (cond b zero (suc (number_in (names_of store) x))) v (s ∷ store) ≡ cond b (slot s.name v ∷ store) (s ∷ put x v store)
    by_test true behind = refl
    by_test false behind = ap (λ rest. s ∷ rest) behind

pub find_by_number : (scope : Scope) (x : ℕ) (s : Store) → names_of s ≡ declared scope → find_number (number_of scope x) s ≡ find x s
find_by_number scope x s h = ap (λ names. find_number (number_in names x) s) (sym h) ∙ find_in x s

pub put_by_number : (scope : Scope) (x v : ℕ) (s : Store) → names_of s ≡ declared scope → put_number (number_of scope x) v s ≡ put x v s
put_by_number scope x v s h = ap (λ names. put_number (number_in names x) v s) (sym h) ∙ put_in x v s

-- the slots have the declared names, and keep them
abbrev pub Declares : Scope → World Store
Declares scope = record {
  holds = λ s. names_of s ≡ declared scope;
  later = λ s t. names_of t ≡ names_of s;
  same = λ s. refl;
  more = λ a b c h k. k ∙ h;
  keeps = λ a b i l. l ∙ i;
}
