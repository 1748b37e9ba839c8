-- The entries of a map by owned bytes, read as pairs of a name and what it stands for.
use Rattle.std.proofs.Common.{◌≡◌, ℕ, Bool, true, false, cond, filter, List, [], ◌∷◌, ◌++◌, length, map, take, drop, insert, remove, slice_get, Option, Some, None, refl, sym, ap, ◌∙◌, suc}
use Rattle.std.proofs.lemmas.List.{map-append, take-map, drop-map}
use Rattle.std.proofs.lemmas.Option.{slice_get-map}
use Rattle.std.specs.Map.{lookup, remove_entry}
use Rattle.std.specs.Option.{option_map, option_map_or}
use Rattle.indexmap.specs.IndexMap.{move_index}

-- the last of a list
last_of : {X : Type 0} (xs : List X) (x : X) → slice_get (xs ++ x ∷ []) (length xs) ≡ Some x
last_of [] x = refl
last_of (y ∷ xs) x = last_of xs x

-- moving the last one to a place is inserting it there
pub move_index-last : {X : Type 0} (xs : List X) (x : X) (to : ℕ) → move_index (xs ++ x ∷ []) (length xs) to ≡ insert xs to x
move_index-last {X} xs x to =
    ap (λ o. option_map_or (λ y. insert (remove (xs ++ x ∷ []) (length xs)) to y) o (xs ++ x ∷ [])) (last_of xs x)
    ∙ ap (λ ys. insert ys to x) (rest xs)
  where
    rest : (ys : List X) → remove (ys ++ x ∷ []) (length ys) ≡ ys
    rest [] = refl
    rest (y ∷ ys) = ap (λ zs. y ∷ zs) (rest ys)

module _ {X Y : Type 0} (f : X → Y) where
  pub map-insert : (xs : List X) (i : ℕ) (x : X) → map f (insert xs i x) ≡ insert (map f xs) i (f x)
  map-insert xs i x =
      map-append f (take i xs) (x ∷ drop i xs)
      ∙ ap (λ ys. ys ++ f x ∷ map f (drop i xs)) (sym (take-map f i xs))
      ∙ ap (λ ys. take i (map f xs) ++ f x ∷ ys) (sym (drop-map f i xs))

  pub map-remove : (xs : List X) (i : ℕ) → map f (remove xs i) ≡ remove (map f xs) i
  map-remove xs i =
      map-append f (take i xs) (drop (suc i) xs)
      ∙ ap (λ ys. ys ++ map f (drop (suc i) xs)) (sym (take-map f i xs))
      ∙ ap (λ ys. take i (map f xs) ++ ys) (sym (drop-map f (suc i) xs))

  pub map-move_index : (xs : List X) (from to : ℕ) → map f (move_index xs from to) ≡ move_index (map f xs) from to
  map-move_index xs from to = by (slice_get xs from) refl
    where
      by : (o : Option X) → slice_get xs from ≡ o → map f (move_index xs from to) ≡ move_index (map f xs) from to
      by None e =
          ap (λ o. map f (option_map_or (λ x. insert (remove xs from) to x) o xs)) e
          ∙ sym (ap (λ o. option_map_or (λ x. insert (remove (map f xs) from) to x) o (map f xs)) (slice_get-map f xs from ∙ ap (option_map f) e))
      by (Some x) e =
          ap (λ o. map f (option_map_or (λ x. insert (remove xs from) to x) o xs)) e
          ∙ map-insert (remove xs from) to x
          ∙ ap (λ ys. insert ys to (f x)) (map-remove xs from)
          ∙ sym (ap (λ o. option_map_or (λ x. insert (remove (map f xs) from) to x) o (map f xs)) (slice_get-map f xs from ∙ ap (option_map f) e))

module _ {V X : Type 0} (key : V → List ℕ) where
  abbrev pub seen : List (V × X) → List (List ℕ × X)
  seen es = map (λ e. (key e.0, e.1)) es

  module _ (test : List ℕ → Bool) where
    pub lookup-seen : (es : List (V × X)) → lookup (λ k. test (key k)) es ≡ lookup test (seen es)
    lookup-seen [] = refl
    lookup-seen (e ∷ es) = ap (λ r. cond (test (key e.0)) (Some e.1) r) (lookup-seen es)

    remove-step : (e : V × X) (es : List (V × X)) (b : Bool) → seen (remove_entry (λ k. test (key k)) es) ≡ remove_entry test (seen es)
        → seen (cond b es (e ∷ remove_entry (λ k. test (key k)) es)) ≡ cond b (seen es) ((key e.0, e.1) ∷ remove_entry test (seen es))
    remove-step e es true h = refl
    remove-step e es false h = ap (λ ys. (key e.0, e.1) ∷ ys) h

    pub remove-seen : (es : List (V × X)) → seen (remove_entry (λ k. test (key k)) es) ≡ remove_entry test (seen es)
    remove-seen [] = refl
    remove-seen (e ∷ es) = remove-step e es (test (key e.0)) (remove-seen es)

  filter-step : (e : V × X) (es : List (V × X)) (test : X → Bool) (b : Bool) → seen (filter (λ d. test d.1) es) ≡ filter (λ d. test d.1) (seen es)
      → seen (cond b (e ∷ filter (λ d. test d.1) es) (filter (λ d. test d.1) es))
      ≡ cond b ((key e.0, e.1) ∷ filter (λ d. test d.1) (seen es)) (filter (λ d. test d.1) (seen es))
  filter-step e es test true h = ap (λ ys. (key e.0, e.1) ∷ ys) h
  filter-step e es test false h = h

  pub filter-seen : (test : X → Bool) (es : List (V × X)) → seen (filter (λ d. test d.1) es) ≡ filter (λ d. test d.1) (seen es)
  filter-seen test [] = refl
  filter-seen test (e ∷ es) = filter-step e es test (test e.1) (filter-seen test es)
