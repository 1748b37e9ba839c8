-- The numbers of modules.
use Rattle.std.proofs.Common.{◌≡◌, ◌≢◌, ◌<◌, ◌≤◌, ◌+◌, ◌⊎◌, inl, inr, ⊎_elim, ℕ, zero, suc, Bool, true, false, cond, Option, Some, None, Bor, List, [], ◌∷◌, ◌++◌, length, get_or, take, map, sym, ◌∙◌, ap, subst, refl, arith}
use Rattle.std.specs.BTreeMap.{UpdatesBy, btree_map_len, get_by}
use Rattle.std.specs.Cmp.Lexicographic.{slice_cmp}
use Rattle.std.specs.List.{Contains}
use Rattle.std.specs.Option.{is_some, option_to_list}
use Rattle.std.specs.Ordering.{nat_cmp}
use Rattle.std.specs.Str.{bytes_eq}
use Rattle.std.proofs.lemmas.Bool.{cases_eq, cases_lt, cases_Bool}
use Rattle.std.proofs.lemmas.List.{get_or-map, length-map, flat_map_more, get_or_past, take_more, take_all}
use Rattle.std.proofs.lemmas.List.Concat.{flat_map-cons}
use Rattle.std.proofs.lemmas.List.Elements.{Contains-append_left, Contains-append_right, Contains-append_cases, Contains-push_cases}
use Rattle.std.proofs.lemmas.Map.Text.{btree_map_updates_str}
use Rattle.std.proofs.lemmas.Slice.Eq.{bytes_eq-Decides}
use Rattle.ast_nodes.specs.declared.file.File.{File}
use Rattle.file_order.specs.Modules.{names_of, at_place}
use Rattle.file_order.specs.Numbers.{Numbers, number_of, numbers_in, HasNumber, HaveNumbers, IsGrown}
use Rattle.file_order.specs.Search.{row_at, IsListed}

differ : (xs ys : List ℕ) → ys ≢ xs → bytes_eq xs ys ≡ false
differ xs ys apart =
    ⊎_elim
    (λ (same : bytes_eq xs ys ≡ true). absurd (apart (sym ((bytes_eq-Decides xs ys).0 same))))
    (λ (other : bytes_eq xs ys ≡ false). other)
    (cases_Bool (bytes_eq xs ys))

-- what is noted under one name leaves the others
other_kept : (name other : List ℕ) (old new : Numbers) (number : Option ℕ) → UpdatesBy (λ x y. slice_cmp nat_cmp x.now y.now) (λ key. slice_cmp nat_cmp name key.now) old new number → other ≢ name → number_of new other ≡ number_of old other
other_kept name other old new number updates apart =
    btree_map_updates_str name old new number updates other ∙ ap (λ (b : Bool). cond b number (get_by (λ (key : Bor (List ℕ)). slice_cmp nat_cmp other key.now) old)) (differ name other apart)

-- names are equal or not
pub same_name : (xs ys : List ℕ) → (xs ≡ ys) ⊎ (xs ≢ ys)
same_name xs ys =
    ⊎_elim
    (λ (same : bytes_eq xs ys ≡ true). inl ((bytes_eq-Decides xs ys).0 same))
    (λ (other : bytes_eq xs ys ≡ false). inr (λ e. let t = (bytes_eq-Decides xs ys).1 e in cc))
    (cases_Bool (bytes_eq xs ys))

pub none_in : (x : List ℕ) → Contains [] x → ⊥
none_in x h = absurd (omega (arith, h.1))

pub grown_more : (old mid new : Numbers) → IsGrown old mid → IsGrown mid new → IsGrown old new
grown_more old mid new s t = record { kept = λ name m h. t.kept name m (s.kept name m h); numbering = λ h. t.numbering (s.numbering h) }

-- the next number for a name that has none
pub grown_one : (name : List ℕ) (old new : Numbers) (k : ℕ) → k ≡ btree_map_len old → number_of old name ≡ None → UpdatesBy (λ x y. slice_cmp nat_cmp x.now y.now) (λ key. slice_cmp nat_cmp name key.now) old new (Some k) → btree_map_len new ≡ btree_map_len old + 1 → IsGrown old new
grown_one name old new k next none updates count =
    let fresh : (other : List ℕ) (m : ℕ) → number_of old other ≡ Some m → other ≢ name = λ other m h same. let never : None ≡ Some m = sym none ∙ ap (number_of old) (sym same) ∙ h in cc in
    let is_next : (other : List ℕ) (m : ℕ) → other ≡ name → number_of new other ≡ Some m → m ≡ k = λ other m same h. let both : Some m ≡ Some k = sym h ∙ ap (number_of new) same ∙ updates.1 in cc in
    let was : (other : List ℕ) (m : ℕ) → other ≢ name → number_of new other ≡ Some m → number_of old other ≡ Some m = λ other m apart h. sym (other_kept name other old new (Some k) updates apart) ∙ h in
    record {
      kept = λ other m h. other_kept name other old new (Some k) updates (fresh other m h) ∙ h;
      numbering = λ n.
          record {
            below = λ other m h.
                ⊎_elim
                (λ (same : other ≡ name). omega (arith, is_next other m same h, next, count))
                (λ (apart : other ≢ name). omega (arith, n.below other m (was other m apart h), count))
                (same_name other name);
            one = λ a b m h k'.
                ⊎_elim
                (λ (a_is : a ≡ name).
                ⊎_elim
                (λ (b_is : b ≡ name). a_is ∙ sym b_is)
                (λ (b_apart : b ≢ name). absurd (omega (arith, is_next a m a_is h, next, n.below b m (was b m b_apart k'))))
                (same_name b name))
                (λ (a_apart : a ≢ name).
                ⊎_elim
                (λ (b_is : b ≡ name). absurd (omega (arith, is_next b m b_is k', next, n.below a m (was a m a_apart h))))
                (λ (b_apart : b ≢ name). n.one a b m (was a m a_apart h) (was b m b_apart k'))
                (same_name b name))
                (same_name a name);
          };
    }

pub has_number : (numbers : Numbers) (name : List ℕ) (o : Option ℕ) → number_of numbers name ≡ o → is_some o ≡ true → HasNumber numbers name
has_number numbers name None e h = let never : false ≡ true = h in absurd cc
has_number numbers name (Some m) e h = (m, e)

pub no_number : (o : Option ℕ) → is_some o ≡ false → o ≡ None
no_number None h = refl
no_number (Some m) h = let never : true ≡ false = h in absurd cc

-- one more of a list of names
pub numbers_more : (old new : Numbers) (names : List (List ℕ)) (more : List ℕ) → IsGrown old new → HaveNumbers old names → HasNumber new more → HaveNumbers new (names ++ more ∷ [])
numbers_more old new names more grown have has name h =
    ⊎_elim
    (λ (was : Contains names name). let old_one = have name was in (old_one.0, grown.kept name old_one.0 old_one.1))
    (λ (is : more ≡ name). subst (HasNumber new) is has)
    (Contains-push_cases names more name h)

pub numbers_kept : (old new : Numbers) (names : List (List ℕ)) → IsGrown old new → HaveNumbers old names → HaveNumbers new names
numbers_kept old new names grown have name h = let old_one = have name h in (old_one.0, grown.kept name old_one.0 old_one.1)

-- the names of the file in a place
pub at_is : (names : File → List (List ℕ)) (files : List File) (place : ℕ) (file : File) → place < length files → file ≡ get_or files place file → at_place names files place ≡ names file
at_is names files place file within is = get_or-map names files place file [] within ∙ ap names (sym is)

pub at_within : (names : File → List (List ℕ)) (files : List File) (place : ℕ) (name : List ℕ) → Contains (at_place names files place) name → place < length files
at_within names files place name h =
    ⊎_elim
    (λ (less : place < length files). less)
    (λ (more : length files ≤ place).
    absurd (none_in name (subst (λ (xs : List (List ℕ)). Contains xs name) (get_or_past (map names files) place [] (omega (arith, length-map files names))) h)))
    (cases_lt place (length files))

-- the files below a place have numbers for what they hold
abbrev pub HaveNumbersBelow : (File → List (List ℕ)) → List File → ℕ → Numbers → Type 0
HaveNumbersBelow names files n numbers = (p : ℕ) → p < n → HaveNumbers numbers (at_place names files p)

pub below_next : (names : File → List (List ℕ)) (files : List File) (n : ℕ) (file : File) (old new : Numbers) → HaveNumbersBelow names files n old → n < length files → file ≡ get_or files n file → IsGrown old new → HaveNumbers new (names file) → HaveNumbersBelow names files (n + 1) new
below_next names files n file old new below within is grown have p less =
    ⊎_elim
    (λ (here : p ≡ n). subst (HaveNumbers new) (sym (at_is names files n file within is) ∙ ap (at_place names files) (sym here)) have)
    (λ (other : p ≢ n). numbers_kept old new (at_place names files p) grown (below p (omega (arith, less, other))))
    (cases_eq p n)

pub below_all : (names : File → List (List ℕ)) (files : List File) (n : ℕ) (numbers : Numbers) → HaveNumbersBelow names files n numbers → length files ≤ n → (p : ℕ) → HaveNumbers numbers (at_place names files p)
below_all names files n numbers below whole p name h = below p (omega (arith, at_within names files p name h)) name h

-- the numbers of names are the numbers that stand under one of them
pub in_numbers : (numbers : Numbers) (names : List (List ℕ)) (m : ℕ) → Contains (numbers_in numbers names) m → (name : List ℕ) × Contains names name × (number_of numbers name ≡ Some m)
in_numbers numbers [] m h = absurd (omega (arith, h.1))
in_numbers numbers (x ∷ xs) m h =
    ⊎_elim
    (λ (here : Contains (option_to_list (number_of numbers x)) m). (x, (0, omega arith, refl), one (number_of numbers x) m here))
    (λ (there : Contains (numbers_in numbers xs) m).
    let found = in_numbers numbers xs m there in
    (found.0, Contains-append_right (x ∷ []) xs found.0 found.1, found.2))
    (Contains-append_cases (option_to_list (number_of numbers x)) (numbers_in numbers xs) m (subst (λ (row : List ℕ). Contains row m) (flat_map-cons (λ name. option_to_list (number_of numbers name)) x xs) h))
  where
    one : (o : Option ℕ) (m : ℕ) → Contains (option_to_list o) m → o ≡ Some m
    one None m h = absurd (omega (arith, h.1))
    one (Some y) m (zero, less, here) = ap Some here
    one (Some y) m (suc k, less, here) = absurd (omega (arith, less))

pub numbers_have : (numbers : Numbers) (names : List (List ℕ)) (m : ℕ) (name : List ℕ) → Contains names name → number_of numbers name ≡ Some m → Contains (numbers_in numbers names) m
numbers_have numbers [] m name h e = absurd (none_in name h)
numbers_have numbers (x ∷ xs) m name h e =
    subst (λ (row : List ℕ). Contains row m) (sym (flat_map-cons (λ name. option_to_list (number_of numbers name)) x xs))
    (⊎_elim
    (λ (here : x ≡ name). Contains-append_left (option_to_list (number_of numbers x)) (numbers_in numbers xs) m (subst (λ (o : Option ℕ). Contains (option_to_list o) m) (sym (ap (number_of numbers) here ∙ e)) (0, omega arith, refl)))
    (λ (there : Contains xs name). Contains-append_right (option_to_list (number_of numbers x)) (numbers_in numbers xs) m (numbers_have numbers xs m name there e))
    (rest x xs name h))
  where
    rest : (x : List ℕ) (xs : List (List ℕ)) (y : List ℕ) → Contains (x ∷ xs) y → (x ≡ y) ⊎ Contains xs y
    rest x xs y (zero, less, here) = inl here
    rest x xs y (suc k, less, here) = inr (k, omega (arith, less), here)

-- the row of a place
pub mapped_row : (numbers : Numbers) (names : File → List (List ℕ)) (files : List File) (p : ℕ) → row_at (map (λ file. numbers_in numbers (names file)) files) p ≡ numbers_in numbers (at_place names files p)
mapped_row numbers names [] p = refl
mapped_row numbers names (file ∷ files) zero = refl
mapped_row numbers names (file ∷ files) (suc p) = mapped_row numbers names files p

pub listed_is : (numbers : Numbers) (names : File → List (List ℕ)) (files : List File) (rows : List (List ℕ)) (m p : ℕ) → rows ≡ map (λ file. numbers_in numbers (names file)) files → IsListed rows m p → (name : List ℕ) × Contains (at_place names files p) name × (number_of numbers name ≡ Some m)
listed_is numbers names files rows m p e h =
    in_numbers numbers (at_place names files p) m (subst (λ (row : List ℕ). Contains row m) (ap (λ (x : List (List ℕ)). row_at x p) e ∙ mapped_row numbers names files p) h)

pub is_listed : (numbers : Numbers) (names : File → List (List ℕ)) (files : List File) (rows : List (List ℕ)) (m p : ℕ) (name : List ℕ) → rows ≡ map (λ file. numbers_in numbers (names file)) files → Contains (at_place names files p) name → number_of numbers name ≡ Some m → IsListed rows m p
is_listed numbers names files rows m p name e h is =
    subst (λ (row : List ℕ). Contains row m) (sym (ap (λ (x : List (List ℕ)). row_at x p) e ∙ mapped_row numbers names files p)) (numbers_have numbers (at_place names files p) m name h is)

-- one more of the names that are lent
pub names_more : (names : List (Bor (List ℕ))) (i : ℕ) (d : Bor (List ℕ)) → i < length names → take (i + 1) (names_of names) ≡ take i (names_of names) ++ (get_or names i d).now ∷ []
names_more names i d within =
    let less : i < length (names_of names) = omega (arith, length-map names (λ (n : Bor (List ℕ)). n.now), within) in
    take_more (names_of names) i [] less ∙ ap (λ (x : List ℕ). take i (names_of names) ++ x ∷ []) (get_or-map (λ (n : Bor (List ℕ)). n.now) names i d [] within)

pub names_all : (names : List (Bor (List ℕ))) (i : ℕ) → length names ≤ i → take i (names_of names) ≡ names_of names
names_all names i whole = take_all i (names_of names) (omega (arith, length-map names (λ (n : Bor (List ℕ)). n.now), whole))

pub numbers_push : (numbers : Numbers) (names : List (List ℕ)) (name : List ℕ) → numbers_in numbers (names ++ name ∷ []) ≡ numbers_in numbers names ++ option_to_list (number_of numbers name)
numbers_push numbers names name = sym (flat_map_more (λ name. option_to_list (number_of numbers name)) [] names name)

-- the row grows by the number of one more name, if it has one
pub row_more : (numbers : Numbers) (names : List (Bor (List ℕ))) (i : ℕ) (d : Bor (List ℕ)) (row row' : List ℕ) (o : Option ℕ) → i < length names → row ≡ numbers_in numbers (take i (names_of names)) → o ≡ number_of numbers (get_or names i d).now → row' ≡ row ++ option_to_list o → row' ≡ numbers_in numbers (take (i + 1) (names_of names))
row_more numbers names i d row row' o within old number new =
    new ∙ ap (λ (xs : List ℕ). xs ++ option_to_list o) old ∙ ap (λ (x : Option ℕ). numbers_in numbers (take i (names_of names)) ++ option_to_list x) number
    ∙ sym (numbers_push numbers (take i (names_of names)) (get_or names i d).now) ∙ ap (numbers_in numbers) (sym (names_more names i d within))
