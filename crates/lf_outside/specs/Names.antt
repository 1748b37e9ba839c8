-- Names of files: the folder in front, and the names that a store takes for itself.
use Rattle.std.specs.Prelude.{◌≡◌, ℕ, ◌+◌, ◌≤◌, Bool, false, ◌||◌, ◌==◌, if◌then◌else◌, List, [], ◌∷◌, ◌++◌, length, drop, codes}
use Rattle.std.specs.List.{ends_with}
use Rattle.std.specs.Fmt.{decimal}
use Rattle.lf_base.specs.Contents.{joined}

abbrev pub slash : ℕ
slash = 47

abbrev pub has_slash : List ℕ → Bool
has_slash [] = false
has_slash (b ∷ bs) = (b == slash) || has_slash bs

-- The folder of a name: its bytes up to the last slash. A name without a slash has an empty one.
abbrev pub folder_of : List ℕ → List ℕ
folder_of [] = []
folder_of (b ∷ bs) = if has_slash (b ∷ bs) then b ∷ folder_of bs else []

-- what stands behind the folder
abbrev pub last_of : List ℕ → List ℕ
last_of name = drop (length (folder_of name)) name

-- The names of a store's own are those that end so.
abbrev pub own_ending : List ℕ
own_ending = codes ".tmp"

abbrev pub is_own : List ℕ → Bool
is_own name = ends_with (◌==◌) name own_ending

-- the most bytes of a front of a last part
abbrev pub longest_front : ℕ
longest_front = 232

-- a front of a text that fits a temporary name: all of the text where that fits
pub record IsFront (text front : List ℕ) : Type 0 where
  pub rest : List ℕ
  pub cut : text ≡ front ++ rest
  pub short : length front ≤ longest_front
  pub whole : length text ≤ longest_front → front ≡ text

-- a temporary name of a file: in its folder a dot, a front of its last part, and an ending with a number
pub record IsTemporary (name : List ℕ) (number : ℕ) (temporary : List ℕ) : Type 0 where
  pub front : List ℕ
  pub cut : IsFront (last_of name) front
  pub is : temporary ≡ joined (folder_of name ∷ codes "." ∷ front ∷ codes ".lf-" ∷ decimal number ∷ own_ending ∷ [])
  -- its last part fits the longest name that a folder has room for
  pub fits : length temporary ≤ length (folder_of name) + 255
