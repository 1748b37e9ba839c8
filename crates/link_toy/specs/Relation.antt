-- What holds between the variables of the source and the memory of the target: these objects hold these variables, and
-- all else is kept.
use Rattle.std.specs.Prelude.{◌≡◌, ℕ, suc, ◌+◌, ◌≤◌, ◌<◌, cond, eqb, true, Option, Some, None}
use Rattle.lf_base.specs.Order.{Link}
use Rattle.link_toy.specs.Source.{Scope, is_declared}
use Rattle.link_toy.specs.Meaning.{Store, find, Signal}
use Rattle.link_toy.specs.Target.{Memory, cell}
use Rattle.link_toy.specs.Translation.{Layout}

-- each declared variable has a value, which stands in its object
abbrev pub ObjectsHold : Scope → Layout → Store → Memory → Type 0
ObjectsHold scope layout s m = (x : ℕ) → is_declared scope x ≡ true → (v : ℕ) × (find x s ≡ Some v) × (cell (layout.object x) m ≡ Some v)

-- What a statement keeps: the frame with the cells below it as they were at the call, and the counts of the loops
-- around it, which are the temporaries from `base` up to `top`.
pub record Kept : Type 0 where
  pub before : ℕ → Option ℕ
  pub frame : ℕ
  pub top : ℕ
  pub counts : ℕ → Option ℕ

-- the cells below the frame are those at the call
abbrev pub CellsKept : Kept → Memory → Type 0
CellsKept kept m = (a : ℕ) → a < kept.frame → m.cells a ≡ kept.before a

abbrev pub Counts : Layout → Kept → Memory → Type 0
Counts layout kept m = (t : ℕ) → layout.base ≤ t → t < kept.top → cell t m ≡ kept.counts t

abbrev pub Stands : Scope → Layout → Kept → Store → Memory → Type 0
Stands scope layout kept s m = ObjectsHold scope layout s m × (m.frame ≡ kept.frame) × CellsKept kept m × Counts layout kept m

-- in a loop more, which has this count
abbrev pub with_count : Kept → ℕ → Kept
with_count kept count = record { before = kept.before; frame = kept.frame; top = suc kept.top; counts = λ t. cond (eqb t kept.top) (Some count) (kept.counts t) }

-- in a procedure that was called with these cells below its frame
abbrev pub in_procedure : Layout → (ℕ → Option ℕ) → ℕ → Kept
in_procedure layout before frame = record { before = before; frame = frame; top = layout.base; counts = λ t. None }

-- the frame of a call begins behind the temporaries that are in use
abbrev pub in_call : Layout → Kept → (ℕ → Option ℕ) → Kept
in_call layout kept before = in_procedure layout before (kept.frame + kept.top)

-- all cells below temporary t are as they were
abbrev pub Unchanged : ℕ → Memory → Memory → Type 0
Unchanged t m m' = (m'.frame ≡ m.frame) × ((a : ℕ) → a < m.frame + t → m'.cells a ≡ m.cells a)

-- a value of the source stands in temporary t, the variables are the same, and all else is kept
abbrev pub Valued : ℕ → Store → Memory → Link Store ℕ Memory (Option ℕ)
Valued t s m v s' o m' = (o ≡ None) × (cell t m' ≡ Some v) × (s' ≡ s) × Unchanged t m m'

-- besides, temporary t has this value
abbrev pub Besides : ℕ → ℕ → (Store → Memory → Type 0) → Store → Memory → Type 0
Besides t v Q s m = (cell t m ≡ Some v) × Q s m

-- a value of the source was stored in temporary t
abbrev pub InTemporary : ℕ → (Store → Memory → Type 0) → Link Store ℕ Memory (Option ℕ)
InTemporary t Q v s o m = (o ≡ None) × Besides t v Q s m

-- an exit of the source is a jump to the label
abbrev pub ExitJumps : (Store → Memory → Type 0) → ℕ → Link Store Signal Memory ℕ
ExitJumps Q label b s j m = (j ≡ label) × Q s m
