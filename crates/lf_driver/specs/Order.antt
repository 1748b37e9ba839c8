-- What is told of an order of files.
use Rattle.std.specs.Prelude.{ℕ, List, [], codes, map}
use Rattle.std.specs.List.{slice_index_or}
use Rattle.lf_driver.specs.Refusal.{listed}

-- the names in these places of a list of names
abbrev pub names_at : List (List ℕ) → List ℕ → List (List ℕ)
names_at names places = map (λ place. slice_index_or names place []) places

-- the names in an order of their places, one on a line
abbrev pub order_text : List (List ℕ) → List ℕ → List ℕ
order_text names order = listed [] (codes "\n") (names_at names order)
