-- What sources mean of which programs are built: they have the meaning of their one main program (ISO/IEC 1539-1:2018,
-- 5.2.2), and where there is none or a second one, none.
use Rattle.std.specs.Prelude.{ℕ, List, [], ◌∷◌}
use Rattle.lf_base.specs.Outcome.{Meaning, Wrong, Stuck}
use Rattle.lf_driver.specs.OnePrint.Fortran.{FortranMeaning}
use Rattle.lf_driver.specs.OnePrint.Source.{Source, location_of}

abbrev pub no_program : Meaning
no_program input n d = Wrong Stuck

abbrev pub meaning_of : List (List ℕ × Source) → Meaning
meaning_of [] = no_program
meaning_of (program ∷ []) = FortranMeaning (location_of program.0 program.1) program.1
meaning_of (program ∷ other ∷ programs) = no_program
