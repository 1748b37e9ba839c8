-- A small program by numbers stands for its tree.
use Rattle.std.proofs.Common.{◌≡◌, [], ◌∷◌, codes, Some}
use Rattle.lf_base.specs.declared.id.SymId.{SymId}
use Rattle.symtab_arena.specs.Paths.{path_of}
use Rattle.symtab_arena.specs.Scopes.{symbol_id}
use Rattle.asr_nodes.specs.Examples.{numbers, program}
use Rattle.asr_nodes.specs.Ids.{expr_id}
use Rattle.asr_nodes.specs.Nodes.{node_at}
use Rattle.asr_nodes.specs.Reading.{Path, Reading, reading, node_tree, no_tree}
use Rattle.asr_nodes.specs.Units.{unit_tree}
use Rattle.asr_nodes.specs.Walks.{tree_within}
use Rattle.asr_nodes.specs.declared.tree.StmtTree.TheVariants.{Print}
use Rattle.asr_nodes.specs.declared.tree.UnitTree.TheVariants.{Program}
use Rattle.asr_nodes.proofs.PrintItems.{node-Value}

abbrev path : SymId → Path
path = path_of numbers.scopes

abbrev below : Reading
below = reading path (tree_within (node_tree path) no_tree (node_at numbers) 5)

pub program_read : unit_tree numbers (symbol_id 0) ≡ Some program
program_read = λ k. Some (Program (codes "p") (codes "p1.f90") [] [] (Print 2 0 0 (node-Value below (expr_id 4) k ∷ []) ∷ []))
