-- The ambiguous names of tables.
use Rattle.std.specs.Prelude.{◌≡◌, ℕ, Bool, ◌&&◌, ◌||◌, ◌==◌, if◌then◌else◌, List, [], ◌∷◌}
use Rattle.std.specs.List.{list_any}
use Rattle.std.specs.Str.{bytes_eq}
use Rattle.lf_base.specs.declared.id.TableId.{TableId}

-- the numbers of tables, each with the names that were noted in it
abbrev pub Noted : Type 0
Noted = List (ℕ × List (List ℕ))

-- whether a name is one of several
abbrev pub is_among : List ℕ → List (List ℕ) → Bool
is_among name = list_any (bytes_eq name)

-- Exactly this name is among them besides those that were.
pub record Adds (name : List ℕ) (old new : List (List ℕ)) : Type 0 where
  pub among : (n : List ℕ) → is_among n new ≡ (bytes_eq n name || is_among n old)

abbrev pub names_noted : ℕ → Noted → List (List ℕ)
names_noted t [] = []
names_noted t (e ∷ es) = if t == e.0 then e.1 else names_noted t es

-- whether a name was noted in a table
abbrev pub is_noted : TableId → List ℕ → Noted → Bool
is_noted t name noted = is_among name (names_noted t.0 noted)

-- Exactly this name in this table is noted besides what was.
pub record Notes (t : TableId) (name : List ℕ) (old new : Noted) : Type 0 where
  pub noted : (u : TableId) (n : List ℕ) → is_noted u n new ≡ (((t.0 == u.0) && bytes_eq n name) || is_noted u n old)
