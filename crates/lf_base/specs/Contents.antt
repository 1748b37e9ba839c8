-- What a call does with the bytes of a sink or a source, where the object tells them.
use Rattle.std.specs.Prelude.{◌≡◌, ℕ, ◌≤◌, ◌<◌, List, [], ◌∷◌, ◌++◌, length, take, Option, Some}

-- The sink gained the whole text.
pub record Appends (old new : Option (List ℕ)) (text : List ℕ) : Type 0 where
  pub bytes : (held : List ℕ) → old ≡ Some held → new ≡ Some (held ++ text)

-- The sink gained a front of the text.
pub record AppendsPart (old new : Option (List ℕ)) (text : List ℕ) : Type 0 where
  pub bytes : (held : List ℕ) → old ≡ Some held → (front : List ℕ) × (rest : List ℕ) × (text ≡ front ++ rest) × (new ≡ Some (held ++ front))

-- one piece behind another
unfoldable pub joined : List (List ℕ) → List ℕ
joined [] = []
joined (piece ∷ pieces) = piece ++ joined pieces

-- From a first moment all pieces are to be put, and now the rest is left.
pub record Awaits (first now : Option (List ℕ)) (all rest : List (List ℕ)) : Type 0 where
  pub whole : (new : Option (List ℕ)) → Appends now new (joined rest) → Appends first new (joined all)
  pub part : (new : Option (List ℕ)) → AppendsPart now new (joined rest) → AppendsPart first new (joined all)

-- The first n bytes of the buffer are the first that were left, and they are all only at the end.
pub record HandsOver (old new : Option (List ℕ)) (buffer : List ℕ) (n : ℕ) : Type 0 where
  pub within : n ≤ length buffer
  pub bytes : (left : List ℕ) → old ≡ Some left → (rest : List ℕ) × (left ≡ take n buffer ++ rest) × (new ≡ Some rest)
  pub end : (left : List ℕ) → old ≡ Some left → n ≡ 0 → 0 < length buffer → left ≡ []
