-- The names of one scope in declaration order, each with its symbol. Within a scope a name identifies one entity of
-- its class (ISO/IEC 1539-1:2018, 19.3.1).
use Rattle.std.specs.Prelude.{◌≡◌, ℕ, ◌+◌, ◌-◌, ◌<◌, ◌≤◌, List, [], ◌∷◌, ◌++◌, length, take, drop, filter, slice_index_or, Option, None, is_some}
use Rattle.std.specs.Map.{lookup, remove_entry}
use Rattle.std.specs.Str.{bytes_eq}
use Rattle.lf_base.specs.declared.id.SymId.{SymId}
use Rattle.symtab_arena.specs.Entries.{entry_at}

abbrev pub Names : Type 0
Names = List (List ℕ × SymId)

-- the symbol of a name, if it is there
abbrev pub named : List ℕ → Names → Option SymId
named name names = lookup (bytes_eq name) names

-- without a name
abbrev pub without : List ℕ → Names → Names
without name names = remove_entry (bytes_eq name) names

-- no name stands twice
abbrev pub AreDistinct : Names → Type 0
AreDistinct [] = Unit {0}
AreDistinct (e ∷ es) = (named e.0 es ≡ None) × AreDistinct es

-- those at whose symbol's number something stands, in their order
abbrev pub those_there : {X : Type 0} → List (Option X) → Names → Names
those_there xs names = filter (λ e. is_some (entry_at xs e.1.0)) names

-- those from one place on, moved before those that stand between an earlier place and it
abbrev pub moved_before : ℕ → ℕ → Names → Names
moved_before from to names = take to names ++ (drop from names ++ drop to (take from names))

-- The names from one place up to another stand in the other order, and all others where they stood.
pub record IsTurned (old new : Names) (start end : ℕ) : Type 0 where
  pub same_length : length new ≡ length old
  pub below : (n : ℕ) (d : List ℕ × SymId) → n < start → slice_index_or new n d ≡ slice_index_or old n d
  pub inside : (n : ℕ) (d : List ℕ × SymId) → start ≤ n → n < end → slice_index_or new n d ≡ slice_index_or old (start + end - 1 - n) d
  pub above : (n : ℕ) (d : List ℕ × SymId) → end ≤ n → slice_index_or new n d ≡ slice_index_or old n d
