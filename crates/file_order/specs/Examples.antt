-- Small projects, to read the definitions by.
use Rattle.std.specs.Prelude.{ℕ, List, [], ◌∷◌, codes}
use Rattle.ast_nodes.specs.declared.declaration.Decl.{Decl}
use Rattle.ast_nodes.specs.declared.declaration.Decl.TheVariants as decl
use Rattle.ast_nodes.specs.declared.file.File.{File}
use Rattle.ast_nodes.specs.declared.file.Unit.TheVariants.{Program, Module}

-- use NAME
abbrev pub uses : List ℕ → Decl
uses name = decl.Use (record { line = 2; «module» = name; only = 0; renames = [] })

-- program p, use m, end program; and module m, end module
abbrev pub user_first : List File
user_first = record { units = Program 1 (codes "p") (uses (codes "m") ∷ []) [] [] ∷ [] } ∷ record { units = Module 1 (codes "m") [] [] ∷ [] } ∷ []

-- module x, use y, end module; and module y, use x, end module
abbrev pub circle : List File
circle = record { units = Module 1 (codes "x") (uses (codes "y") ∷ []) [] ∷ [] } ∷ record { units = Module 1 (codes "y") (uses (codes "x") ∷ []) [] ∷ [] } ∷ []
