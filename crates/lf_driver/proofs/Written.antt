-- A source that is compiled writes its C file: nothing that is built holds a second unit of one name.
use Rattle.std.proofs.Common.{◌≡◌, ℕ, Bool, true, false, List, [], ◌∷◌, Option, Some, None, Ok, Err, refl, sym, ap, ◌∙◌}
use Rattle.std.specs.Prelude.{if◌then◌else◌, ◌&&◌}
use Rattle.std.specs.FinMap.{get}
use Rattle.std.specs.List.{list_all, list_any}
use Rattle.lf_base.specs.Files.{Files}
use Rattle.ast_nodes.specs.declared.declaration.Decl.{Decl}
use Rattle.ast_nodes.specs.declared.file.Procedure.{Procedure}
use Rattle.ast_nodes.specs.declared.file.Unit as program_unit
use Rattle.ast_nodes.specs.declared.file.Unit.TheVariants.{Program, Module}
use Rattle.ast_nodes.specs.declared.statement.Statement.{Statement}
use Rattle.lf_driver.specs.Compile.{Compiles}
use Rattle.lf_driver.specs.Known.{nothing, with_units, second_line}
use Rattle.lf_driver.specs.OnePrint.Built.{Building, is_name_byte, is_print, seen, line_seen, value_seen, line_behind, ended, printing, body_in, declared_in, unit_in, units_in}
use Rattle.lf_driver.specs.OnePrint.Built as built
use Rattle.lf_driver.specs.OnePrint.Source.{Tree, Source}
use Rattle.lf_driver.specs.Verdict.{Writes, c_name, unless_second, step_of_built, step_of_tree, step, then_more, left_by, AreWritten}

-- Nothing is built of a file with a unit behind its first one.
abbrev Fails : Building → Type 0
Fails there = (source : Option Source) → there ≡ Ok source → ⊥

line_fails : (line : ℕ) → Fails (Err line)
line_fails line source e = cc

something_behind : (statements : List Statement) (procedures : List Procedure) (u : program_unit.Unit) (units : List program_unit.Unit) → (line : ℕ) × (line_behind statements procedures (u ∷ units) ≡ Some line)
something_behind [] [] u units = (built.unit_line u, refl)
something_behind [] (procedure ∷ procedures) u units = (procedure.line, refl)
something_behind (statement ∷ statements) procedures u units = (line_seen (seen statement), refl)

printing_fails : (name : List ℕ) (line : ℕ) (value : Option Tree) (behind : Option ℕ) (next : ℕ) → behind ≡ Some next → Fails (printing name line value behind)
printing_fails name line None behind next e source h = line_fails line source h
printing_fails name line (Some value) behind next e source h = line_fails next source (ap (ended (record { name = name; line = line; value = value })) (sym e) ∙ h)

body_fails : (line : ℕ) (name : List ℕ) (statements : List Statement) (procedures : List Procedure) (u : program_unit.Unit) (units : List program_unit.Unit) → Fails (body_in line name statements procedures (u ∷ units))
body_fails line name [] procedures u units = line_fails line
body_fails line name (statement ∷ statements) procedures u units =
    let more = something_behind statements procedures u units in
    printing_fails name (line_seen (seen statement)) (value_seen (seen statement)) (line_behind statements procedures (u ∷ units)) more.0 more.1

declared_fails : (line : ℕ) (name : List ℕ) (decls : List Decl) (statements : List Statement) (procedures : List Procedure) (u : program_unit.Unit) (units : List program_unit.Unit) → Fails (declared_in line name decls statements procedures (u ∷ units))
declared_fails line name [] statements procedures u units = body_fails line name statements procedures u units
declared_fails line name (declaration ∷ decls) statements procedures u units = line_fails (built.declaration_line declaration)

choice_fails : (t : Bool) (there : Building) (line : ℕ) → Fails there → Fails (if t then there else Err line)
choice_fails true there line h = h
choice_fails false there line h = line_fails line

unit_fails : (first u : program_unit.Unit) (units : List program_unit.Unit) → Fails (unit_in first (u ∷ units))
unit_fails (Program line name decls stmts procs) u units = choice_fails (list_all is_name_byte name && list_any (λ statement. is_print (seen statement)) stmts) (declared_in line name decls stmts procs (u ∷ units)) line (declared_fails line name decls stmts procs u units)
unit_fails (Module line name decls procs) u units = line_fails line

alone : (u : program_unit.Unit) → second_line nothing (u ∷ []) ≡ None
alone (Program line name decls stmts procs) = refl
alone (Module line name decls procs) = refl

none_second : (units : List program_unit.Unit) (source : Option Source) → units_in units ≡ Ok source → second_line nothing units ≡ None
none_second [] source h = refl
none_second (u ∷ []) source h = alone u
none_second (first ∷ u ∷ units) source h = absurd (unit_fails first u units source h)

pub step_writes : (file : List ℕ) (files : Files) (new : Option Files) (k : Compiles file files new) → step nothing file (get files file) ≡ Writes ((c_name file, k.bytes) ∷ []) (with_units nothing k.compiled.tree.units)
step_writes file files new k =
    let d = k.compiled in
    ap (step nothing file) k.there
    ∙ ap (step_of_tree nothing file) d.parsed
    ∙ ap (λ b. step_of_built nothing file d.tree (built.judged b)) d.built
    ∙ ap (unless_second file (with_units nothing d.tree.units) d.source) (none_second d.tree.units d.source d.built)
    ∙ ap (λ b. Writes ((c_name file, b) ∷ []) (with_units nothing d.tree.units)) (sym d.is)

pub written_one : (file : List ℕ) (files : Files) (new : Option Files) → Compiles file files new → AreWritten (file ∷ []) new files
written_one file files new k =
    let e = step_writes file files new k in
    (ap (λ t. (then_more t nothing files (λ known' files'. left_by known' files' [])).stopped) e, k.written ∙ sym (ap (λ t. Some (then_more t nothing files (λ known' files'. left_by known' files' [])).files) e))
