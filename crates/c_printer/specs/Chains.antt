-- A chain of `else if` (ISO/IEC 1539-1:2018, 11.1.8): an `if` in the else part of an `if`, and so on. Its arms are open, one
-- in another, until the last one is written.
use Rattle.std.specs.Prelude.{List, [], ◌∷◌, ◌++◌, map}
use Rattle.asr_nodes.specs.Nodes.{expr_tree, stmt_tree}
use Rattle.asr_nodes.specs.Units.{path}
use Rattle.asr_nodes.specs.declared.tree.StmtTree.{StmtTree}
use Rattle.asr_nodes.specs.declared.tree.StmtTree.TheVariants as tree
use Rattle.c_nodes.specs.declared.tree.CStmt.TheVariants.{Block}
use Rattle.c_printer.specs.declared.statements.chains.Arm.{Arm}
use Rattle.c_printer.specs.declared.statements.chains.Choice.{Choice}
use Rattle.c_printer.specs.Laid.{body_of}
use Rattle.c_printer.specs.Lowering.{Lines, Wrote, value_of}
use Rattle.c_printer.specs.Lowered.{expression_of}
use Rattle.c_printer.specs.Statements.{at, branches, chosen}
use Rattle.c_printer.specs.Units.{UnitScope}
use Rattle.c_printer.specs.Values.{Doing}

module _ (u : UnitScope) where
  -- an `if` by its parts, as a tree and as what it does
  abbrev pub choice_tree : Choice → StmtTree
  choice_tree c = tree.If c.line (expr_tree u.asr (path u.asr) c.condition) (map (stmt_tree u.asr (path u.asr)) c.then_block.now) (map (stmt_tree u.asr (path u.asr)) c.else_block.now)

  abbrev pub chosen_by : Choice → Doing
  chosen_by c source = branches (at source c.line) (expression_of u c.condition) (body_of u c.then_block.now source) (body_of u c.else_block.now source)

-- the lines of an else part, in the block of the arm that is closed behind them, behind what stands in front of that
abbrev pub closed : Arm → Lines (Unit {0}) → Lines (Unit {0})
closed arm (Wrote lines x d) = Wrote (arm.around ++ Block (arm.lines ++ chosen (value_of arm.number) arm.then_body lines ∷ []) ∷ []) tt d

-- the same of several arms, the innermost of which is the last one
abbrev pub all_closed : List Arm → Lines (Unit {0}) → Lines (Unit {0})
all_closed [] lines = lines
all_closed (arm ∷ arms) lines = closed arm (all_closed arms lines)
