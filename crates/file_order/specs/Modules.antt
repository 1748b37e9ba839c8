-- Which modules a file holds and which it uses (ISO/IEC 1539-1:2018, 14.2.1 and 14.2.2), and which file must stand before which.
use Rattle.std.specs.Prelude.{◌≢◌, ℕ, List, [], ◌∷◌, ◌++◌, map}
use Rattle.std.specs.Borrow.{Bor}
use Rattle.std.specs.List.{Contains, flat_map, slice_index_or}
use Rattle.ast_nodes.specs.declared.declaration.Decl.{Decl}
use Rattle.ast_nodes.specs.declared.declaration.Decl.TheVariants as decl
use Rattle.ast_nodes.specs.declared.file.File.{File}
use Rattle.ast_nodes.specs.declared.file.Procedure.{Procedure}
use Rattle.ast_nodes.specs.declared.file.Unit.{Unit}
use Rattle.ast_nodes.specs.declared.file.Unit.TheVariants.{Program, Module}

-- the bytes of names that are lent
abbrev pub names_of : List (Bor (List ℕ)) → List (List ℕ)
names_of = map (λ name. name.now)

-- the module that a unit is
abbrev pub held_by_unit : Unit → List (List ℕ)
held_by_unit (Program line name decls stmts procs) = []
held_by_unit (Module line name decls procs) = name ∷ []

-- the modules that a file holds
abbrev pub held_by : File → List (List ℕ)
held_by file = flat_map held_by_unit file.units

-- the module that a declaration names, where it is a `use`
abbrev pub used_by_decl : Decl → List (List ℕ)
used_by_decl (decl.Use used) = used.module ∷ []
used_by_decl (decl.ImplicitNone line) = []
used_by_decl (decl.Access line is_private names) = []
used_by_decl (decl.Variables vars) = []
used_by_decl (decl.TypeDef line name access components) = []
used_by_decl (decl.Interface line name names) = []

abbrev pub used_by_decls : List Decl → List (List ℕ)
used_by_decls = flat_map used_by_decl

abbrev pub used_by_procedure : Procedure → List (List ℕ)
used_by_procedure procedure = used_by_decls procedure.decls

abbrev pub used_by_procedures : List Procedure → List (List ℕ)
used_by_procedures = flat_map used_by_procedure

-- the modules that a unit and the procedures in it use
abbrev pub used_by_unit : Unit → List (List ℕ)
used_by_unit (Program line name decls stmts procs) = used_by_decls decls ++ used_by_procedures procs
used_by_unit (Module line name decls procs) = used_by_decls decls ++ used_by_procedures procs

-- the modules that a file uses
abbrev pub used_by : File → List (List ℕ)
used_by file = flat_map used_by_unit file.units

-- what the file in a place has; the places are 0 to the number of files less 1, and in others nothing stands
abbrev pub at_place : (File → List (List ℕ)) → List File → ℕ → List (List ℕ)
at_place names files place = slice_index_or (map names files) place []

-- the file in place a must stand before the one in place b: they are two, a holds a module, and b uses it
abbrev pub MustPrecede : List File → ℕ → ℕ → Type 0
MustPrecede files a b = (a ≢ b) × ((name : List ℕ) × Contains (at_place held_by files a) name × Contains (at_place used_by files b) name)
