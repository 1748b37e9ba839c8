-- The statements of a unit itself (ISO/IEC 1539-1:2018, R1401), without those of its procedures, and what becomes of the unit.
use Rattle.std.specs.Prelude.{ℕ, List, []}
use Rattle.std.specs.Option.{option_map_or}
use Rattle.lf_base.specs.declared.id.StmtId.{StmtId}
use Rattle.lf_base.specs.declared.id.SymId.{SymId}
use Rattle.symtab_arena.specs.Scopes.{symbol_at}
use Rattle.asr_nodes.specs.Nodes.{Nodes}
use Rattle.asr_nodes.specs.declared.node.Symbol.{Symbol}
use Rattle.asr_nodes.specs.declared.node.Symbol.TheVariants as symbol
use Rattle.asr_nodes.specs.declared.tree.UnitTree.{UnitTree}
use Rattle.asr_nodes.specs.declared.tree.UnitTree.TheVariants as unit
use Rattle.pass_array_op.specs.Lowering.{lowered_body}

abbrev pub own_body : Symbol → List StmtId
own_body (symbol.Program source deps table body) = body
own_body _ = []

-- those of a main program; a module has none
abbrev pub body_of : Nodes → SymId → List StmtId
body_of a id = option_map_or (λ y. own_body y.what) (symbol_at a.scopes id) []

-- The statements of a main program are lowered, with this number as the first one; the rest of a unit stays.
abbrev pub lowered_unit : ℕ → UnitTree → UnitTree
lowered_unit number (unit.Program name source deps symbols body) = unit.Program name source deps symbols ((lowered_body body).from number)
lowered_unit number (unit.Module name source deps symbols) = unit.Module name source deps symbols
