-- What a call knows of the files that it has compiled, and which units are refused by it: of one name there is one unit
-- in a program (ISO/IEC 1539-1:2018, 19.2), and there is one main program (5.2.2).
use Rattle.std.specs.Prelude.{ℕ, Bool, true, false, List, [], ◌∷◌, Option, Some, None, if◌then◌else◌, ◌||◌, bytes_eq}
use Rattle.std.specs.List.{list_any}
use Rattle.ast_nodes.specs.declared.file.Unit as program_unit
use Rattle.ast_nodes.specs.declared.file.Unit.TheVariants.{Program, Module}
use Rattle.lf_driver.specs.OnePrint.Built.{unit_line}

pub record Known : Type 0 where
  -- the names of all units
  pub units : List (List ℕ)
  -- the names of the programs among them
  pub programs : List (List ℕ)

-- before the first file
abbrev pub nothing : Known
nothing = record { units = []; programs = [] }

abbrev pub is_some : List (List ℕ) → Bool
is_some [] = false
is_some (name ∷ names) = true

abbrev pub is_among : List ℕ → List (List ℕ) → Bool
is_among name names = list_any (bytes_eq name) names

-- a second unit of one name, or a second program
abbrev pub is_second : Known → program_unit.Unit → Bool
is_second known (Program line name decls stmts procs) = is_among name known.units || is_some known.programs
is_second known (Module line name decls procs) = is_among name known.units

abbrev pub with_unit : Known → program_unit.Unit → Known
with_unit known (Program line name decls stmts procs) = record { units = name ∷ known.units; programs = name ∷ known.programs }
with_unit known (Module line name decls procs) = record { units = name ∷ known.units; programs = known.programs }

-- what is known behind a file of these units
abbrev pub with_units : Known → List program_unit.Unit → Known
with_units known [] = known
with_units known (u ∷ units) = with_units (with_unit known u) units

-- the line of the first unit that is a second one
abbrev pub second_line : Known → List program_unit.Unit → Option ℕ
second_line known [] = None
second_line known (u ∷ units) = if is_second known u then Some (unit_line u) else second_line (with_unit known u) units
