-- The typed tree of a source by the tree of its text (ISO/IEC 1539-1:2018, clauses 7 to 11): a file without units has none,
-- and a main program of scalars and control has one. A source that breaks rules has none: of its declarations the first broken
-- rule is told, by line and then by number, and where they break none, of its statements.
use Rattle.std.specs.Prelude.{ℕ, nat_le, if◌then◌else◌, List, [], ◌∷◌, Ok, Err}
use Rattle.lf_base.specs.declared.rule.Rule.TheVariants.{E202, E416}
use Rattle.symtab_arena.specs.Scopes.{symbol_numbers}
use Rattle.ast_nodes.specs.declared.file.File.{File}
use Rattle.ast_nodes.specs.declared.file.Unit.{Unit as ProgramUnit}
use Rattle.ast_nodes.specs.declared.file.Unit.TheVariants as unit
use Rattle.ast_nodes.specs.declared.statement.Statement.{Statement}
use Rattle.asr_nodes.specs.declared.tree.StmtTree.{StmtTree}
use Rattle.asr_nodes.specs.declared.tree.SymbolTree.{SymbolTree}
use Rattle.asr_nodes.specs.declared.tree.UnitTree.{UnitTree}
use Rattle.asr_nodes.specs.declared.tree.UnitTree.TheVariants as tree
use Rattle.ast_to_asr.specs.Built.{unit_line}
use Rattle.ast_to_asr.specs.Judged.{Judged, Placed, at_line, both_placed, map_placed, then_placed}
use Rattle.ast_to_asr.specs.Statements.{elab_body}
use Rattle.ast_to_asr.specs.Declarations.{Declarations, decls_judged}

-- the unit itself is a symbol too
abbrev pub unit_judged : ℕ → Judged (Unit {0})
unit_judged given = if nat_le symbol_numbers given then Err E416 else Ok tt

abbrev pub symbols_behind : ℕ → ℕ → Declarations → Placed (List SymbolTree)
symbols_behind line given declarations = map_placed (λ p. p.1) (both_placed (at_line line (unit_judged given)) declarations.symbols)

abbrev pub with_body : List ℕ → List ℕ → Placed (List StmtTree) → List SymbolTree → Placed (List UnitTree)
with_body source name body symbols = map_placed (λ trees. tree.Program name source [] symbols trees ∷ []) body

-- the declarations come before all statements
abbrev pub elab_program : List ℕ → List ℕ → ℕ → ℕ → Declarations → List Statement → Placed (List UnitTree)
elab_program source name line given declarations body =
    then_placed (symbols_behind line given declarations) (with_body source name (elab_body name declarations.scope body))

abbrev pub elab_units : List ℕ → ℕ → List ProgramUnit → Placed (List UnitTree)
elab_units source given [] = Ok []
elab_units source given (unit.Program line name decls body [] ∷ []) = elab_program source name line given (decls_judged name given [] decls) body
elab_units source given (u ∷ units) = Err (record { line = unit_line u; rule = E202 })

-- The trees of the units in a file of this name, behind so many symbols.
abbrev pub elab_file : List ℕ → ℕ → File → Placed (List UnitTree)
elab_file source given file = elab_units source given file.units
