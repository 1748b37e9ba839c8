-- The numbers of modules, as a map from names to numbers has them.
use Rattle.std.specs.Prelude.{◌≡◌, ◌<◌, ℕ, List, Option, Some, option_to_list}
use Rattle.std.specs.Borrow.{Bor}
use Rattle.std.specs.BTreeMap.{BTreeMap, btree_map_len, get_by}
use Rattle.std.specs.Cmp.Lexicographic.{slice_cmp}
use Rattle.std.specs.List.{Contains, flat_map}
use Rattle.std.specs.Ordering.{nat_cmp}

abbrev pub Numbers : Type 0
Numbers = BTreeMap (Bor (List ℕ)) ℕ

-- the number that stands under a name
abbrev pub number_of : Numbers → List ℕ → Option ℕ
number_of numbers name = get_by (λ key. slice_cmp nat_cmp name key.now) numbers

-- the numbers of those names that have one
abbrev pub numbers_in : Numbers → List (List ℕ) → List ℕ
numbers_in numbers = flat_map (λ name. option_to_list (number_of numbers name))

abbrev pub HasNumber : Numbers → List ℕ → Type 0
HasNumber numbers name = (m : ℕ) × (number_of numbers name ≡ Some m)

abbrev pub HaveNumbers : Numbers → List (List ℕ) → Type 0
HaveNumbers numbers names = (name : List ℕ) → Contains names name → HasNumber numbers name

-- The numbers are below their count, and no two names have the same.
pub record IsNumbering (numbers : Numbers) : Type 0 where
  pub below : (name : List ℕ) (m : ℕ) → number_of numbers name ≡ Some m → m < btree_map_len numbers
  pub one : (name name' : List ℕ) (m : ℕ) → number_of numbers name ≡ Some m → number_of numbers name' ≡ Some m → name ≡ name'

-- more names have numbers, and what had one keeps it
pub record IsGrown (old new : Numbers) : Type 0 where
  pub kept : (name : List ℕ) (m : ℕ) → number_of old name ≡ Some m → number_of new name ≡ Some m
  pub numbering : IsNumbering old → IsNumbering new
