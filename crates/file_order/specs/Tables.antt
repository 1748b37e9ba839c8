-- Which places hold and use the modules of files.
use Rattle.std.specs.Prelude.{◌≡◌, ◌↔◌, ◌⊎◌, ◌≤◌, ℕ, List, length}
use Rattle.ast_nodes.specs.declared.file.File.{File}
use Rattle.file_order.specs.declared.modules.Modules.{Modules}
use Rattle.file_order.specs.Modules.{MustPrecede}
use Rattle.file_order.specs.Search.{IsListed, AreFalling, IsBefore, IsTable}

-- the rows list places from this one on, each once and the least last
pub record IsDownTo (place : ℕ) (rows : List (List ℕ)) : Type 0 where
  pub falling : AreFalling rows
  pub least : (p m : ℕ) → IsListed rows p m → place ≤ p

-- A place has come to the rows of which P holds.
pub record IsNoted (place : ℕ) (P : ℕ → Type 0) (old new : List (List ℕ)) : Type 0 where
  pub count : length new ≡ length old
  pub listed : (p m : ℕ) → IsListed new p m ↔ (IsListed old p m ⊎ ((p ≡ place) × P m))
  pub down : IsDownTo place old → IsDownTo place new

-- The rows of the modules list the places in whose rows the modules are listed.
pub record IsInverse (held : List (List ℕ)) (count : ℕ) (holders : List (List ℕ)) : Type 0 where
  pub count_is : length holders ≡ count
  pub falling : AreFalling holders
  pub listed : (p m : ℕ) → IsListed holders p m ↔ IsListed held m p

-- the modules of files
pub record IsTableOf (files : List File) (t : Modules) : Type 0 where
  pub table : IsTable t
  pub count : length t.uses ≡ length files
  pub before : (a b : ℕ) → IsBefore t.holders t.uses a b ↔ MustPrecede files a b
