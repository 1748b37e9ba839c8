-- A row that is changed, by the vectors that hold the rows.
use Rattle.std.proofs.Common.{◌≡◌, ◌<◌, ℕ, List, [], length, get_or, set, map, sym, ◌∙◌, ap, refl, arith}
use Rattle.std.proofs.lemmas.List.{get_or-map, map-set, length-map, get_or-set_same}
use Rattle.file_order.specs.Search.{row_at}

module _ {X : Type 0} (f : X → List ℕ) where
  pub row_is : (rows : List X) (now : List (List ℕ)) (place : ℕ) (v : X) → map f rows ≡ now → place < length now → v ≡ get_or rows place v → f v ≡ row_at now place
  row_is rows now place v is within e =
      let less : place < length rows = omega (arith, length-map rows f, ap length is, within) in
      ap f e ∙ sym (get_or-map f rows place v [] less) ∙ ap (λ (x : List (List ℕ)). row_at x place) is

  pub row_set : (rows : List X) (now : List (List ℕ)) (place : ℕ) (v' : X) (ys : List ℕ) → map f rows ≡ now → f v' ≡ ys → map f (set rows place v') ≡ set now place ys
  row_set rows now place v' ys is e = map-set f rows place v' ∙ ap (λ (x : List (List ℕ)). set x place (f v')) is ∙ ap (set now place) e

  pub row_new : (rows : List X) (now : List (List ℕ)) (place : ℕ) (v' : X) → map f rows ≡ now → place < length now → row_at (map f (set rows place v')) place ≡ f v'
  row_new rows now place v' is within =
      ap (λ (x : List (List ℕ)). row_at x place) (row_set rows now place v' (f v') is refl) ∙ get_or-set_same now place (f v') [] within
