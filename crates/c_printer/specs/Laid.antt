-- Statements by the parts of their nodes, and the steps of those that are made of several.
use Rattle.std.specs.Prelude.{ℕ, codes, List, [], ◌∷◌, map, option_map, Option, Some, None}
use Rattle.lf_base.specs.Outcome.{Location}
use Rattle.lf_base.specs.declared.id.ExprId.{ExprId}
use Rattle.lf_base.specs.declared.id.StmtId.{StmtId}
use Rattle.c_nodes.specs.declared.tree.CExpr.TheVariants.{Constant, Address}
use Rattle.c_nodes.specs.declared.tree.CStmt.{CStmt}
use Rattle.c_nodes.specs.declared.tree.CStmt.TheVariants.{Goto, Label, While}
use Rattle.c_nodes.specs.declared.tree.CExpr.{CExpr}
use Rattle.asr_nodes.specs.declared.node.PrintItem.{PrintItem, PrintItem-F, fold-PrintItem}
use Rattle.asr_nodes.specs.declared.node.Stmt.{Stmt}
use Rattle.asr_nodes.specs.declared.node.Stmt.TheVariants as s
use Rattle.c_printer.specs.Lowering.{Lowering, give, bind, line, block, temp_of, value_of}
use Rattle.c_printer.specs.Lowered.{expression_of, statement_of}
use Rattle.c_printer.specs.Names.{cycle_label, exit_label}
use Rattle.c_printer.specs.Statements.{statements, at, assigned, branches, while_loop, counted_loop, printed, stopped, declare_temp, begin_record, put, end_record, called, counted_turns}
use Rattle.c_printer.specs.Units.{UnitScope}
use Rattle.c_printer.specs.Values.{Expression, Doing, Item, helped, stored}
use Rattle.c_printer.specs.declared.scalar.Helper.TheVariants as helper

-- what stands between the values of a list-directed record
abbrev pub gap : ℕ → Lowering (Unit {0})
gap number = called (codes "lf_gap") (Address (temp_of number) ∷ Constant 1 ∷ [])

abbrev pub value_layer : PrintItem-F (Option ExprId) → Option ExprId
value_layer (PrintItem-F.Value value) = Some value
value_layer (PrintItem-F.Loop variable lower upper step items) = None

-- the value of an item of an output list that is no implied do
abbrev pub value_in : PrintItem → Option ExprId
value_in = fold-PrintItem (Option ExprId) value_layer

-- the value of a list of one item
abbrev pub one_value : List PrintItem → Option ExprId
one_value (x ∷ []) = value_in x
one_value _ = None

module _ (u : UnitScope) where
  abbrev pub item_of : PrintItem → Item
  item_of x = option_map (expression_of u) (value_in x)

  -- statements by their numbers
  abbrev pub body_of : List StmtId → Doing
  body_of ids source = statements source (map (statement_of u) ids)

  -- A statement by its node, whose parts are known by their numbers: one that writes,
  abbrev pub output_stmt : Stmt → Doing
  output_stmt (s.Print number form advance items) source = printed (at source number) form advance (map item_of items)
  output_stmt (s.Begin number temp) source = begin_record temp
  output_stmt (s.Put number temp value) source = put (at source number) temp (expression_of u value)
  output_stmt (s.End number) source = end_record
  output_stmt _ source = give tt

  -- one that holds no others,
  abbrev pub plain_stmt : Stmt → Doing
  plain_stmt (s.Assign number target value) source = assigned (at source number) (expression_of u target) (expression_of u value)
  plain_stmt (s.Exit number id) source = line (Goto (exit_label id))
  plain_stmt (s.Cycle number id) source = line (Goto (cycle_label id))
  plain_stmt (s.Stop number error code) source = stopped (expression_of u code).constant
  plain_stmt (s.Let number temp value) source = bind ((expression_of u value).value (at source number)) (declare_temp temp)
  plain_stmt x source = output_stmt x source

  -- and any statement
  abbrev pub laid_stmt : Stmt → Doing
  laid_stmt (s.If number condition then_block else_block) source = branches (at source number) (expression_of u condition) (body_of then_block source) (body_of else_block source)
  laid_stmt (s.Do number id variable lower upper step body) source =
      counted_loop (at source number) id (expression_of u variable) (expression_of u lower) (expression_of u upper) (expression_of u step) (body_of body source)
  laid_stmt (s.While number id condition body) source = while_loop (at source number) id (expression_of u condition) (body_of body source)
  laid_stmt (s.Block number stmts) source = block (body_of stmts source)
  laid_stmt x source = plain_stmt x source

-- a counted loop in its block
abbrev pub counting : Location → ℕ → Expression → Expression → Expression → Expression → Lowering (Unit {0}) → Lowering (Unit {0})
counting here id variable lower upper step body =
    bind (lower.value here) (λ l. bind (upper.value here) (λ u. bind (step.value here) (λ s.
    bind (helped here helper.Count (value_of l.number ∷ value_of u.number ∷ value_of s.number ∷ [])) (λ count.
    bind (variable.place here) (λ p. bind (line (stored p l.number)) (λ begun. counted_turns here id p s.number count body))))))

-- the end of the turns of a loop, by the lines of one
abbrev pub turns_end : ℕ → CExpr → List CStmt → Lowering (Unit {0})
turns_end id test lines = bind (line (While test lines)) (λ u. line (Label (exit_label id)))
