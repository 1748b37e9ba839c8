-- What has been written of the lines of C: the block that is open, how many values have been computed, and the types of the
-- tree's temporaries. An act writes its lines behind those that stand.
use Rattle.std.specs.Prelude.{◌≡◌, ℕ, ◌+◌, ◌==◌, Bool, if◌then◌else◌, List, [], ◌∷◌, Result, Ok, Err}
use Rattle.lf_base.specs.Outcome.{Location}
use Rattle.lf_base.specs.declared.fault.Memory.{Memory}
use Rattle.c_nodes.specs.declared.tree.CStmt.{CStmt}
use Rattle.c_printer.specs.declared.located.Located.{Located}
use Rattle.c_printer.specs.declared.scalar.ScalarType.{ScalarType}
use Rattle.c_printer.specs.declared.scalar.ScalarType.TheVariants.{Integer4}
use Rattle.c_printer.specs.declared.scalar.Helper.{Helper}
use Rattle.c_nodes.specs.declared.tree.CExpr.{CExpr}
use Rattle.c_nodes.specs.declared.tree.CType.TheVariants.{Int64}
use Rattle.c_nodes.specs.declared.tree.CStmt.TheVariants.{DeclareCall}
use Rattle.c_printer.specs.Helpers.{helper_name}
use Rattle.c_printer.specs.Names.{value_name}
use Rattle.c_printer.specs.Values.{located_where}
use Rattle.c_printer.specs.Lowering.{Drawn, Lines, Wrote, Lowering, behind, one_more}

pub record Written : Type 0 where
  pub lines : List CStmt
  pub values : ℕ
  pub temps : List (ℕ × ScalarType)

-- the type of a temporary, which is an integer of kind 4 where none is known
abbrev pub temp_type : List (ℕ × ScalarType) → ℕ → ScalarType
temp_type [] number = Integer4
temp_type (e ∷ es) number = if number == e.0 then e.1 else temp_type es number

abbrev pub drawn_by : Written → Drawn
drawn_by w = record { values = w.values; temps = temp_type w.temps }

-- the lines of an act behind those that stand, and what it gives
abbrev pub from : {A : Type 0} → Written → Lowering A → Lines A
from w act = behind w.lines (act (drawn_by w))

abbrev pub wrote : {A : Type 0} → Written → A → Lines A
wrote w x = Wrote w.lines x (drawn_by w)

-- The act has been done, and has given what was answered. Nothing is said of what was written before memory ran out.
abbrev pub Writes : {A : Type 0} → Written → Written → Result A Memory → Lowering A → Type 0
Writes before after (Ok x) act = from before act ≡ wrote after x
Writes before after (Err fault) act = Unit {0}

-- the same block with other lines
abbrev pub with_lines : Written → List CStmt → Written
with_lines w lines = record { lines = lines; values = w.values; temps = w.temps }

abbrev pub nothing_written : Written
nothing_written = record { lines = []; values = 0; temps = [] }

-- the lines in front of a call that may trap, and the call
abbrev pub locating : Bool → Location → Lowering (Unit {0})
locating traps here d = Wrote (located_where traps here []) tt d

abbrev pub calling : Helper → List CExpr → Lowering ℕ
calling h arguments d = Wrote (DeclareCall Int64 (value_name (d.values + 1)) (helper_name h) arguments ∷ []) (d.values + 1) (one_more d)

-- another value is drawn, and nothing else changes
abbrev pub Draws : Written → Written → Result ℕ Memory → Type 0
Draws old new (Ok number) = (number ≡ old.values + 1) × (new ≡ record { lines = old.lines; values = old.values + 1; temps = old.temps })
Draws old new (Err fault) = Unit {0}

-- a temporary has this type, and every other the one that it had
abbrev pub Types : ℕ → ScalarType → Written → Written → Result (Unit {0}) Memory → Type 0
Types number ty old new (Ok u) = (new.lines ≡ old.lines) × (new.values ≡ old.values) × ((n : ℕ) → temp_type new.temps n ≡ (if n == number then ty else temp_type old.temps n))
Types number ty old new (Err fault) = Unit {0}

-- where a statement stands
abbrev pub location : Located → Location
location here = record { source = here.source.now; line = here.line }
