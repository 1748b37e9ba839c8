-- The statements of a tree by their nodes.
use Rattle.std.proofs.Common.{◌≡◌, ℕ, ◌+◌, ◌<◌, get_or, drop, List, [], ◌∷◌, map, option_map, length, Result, Option, Some, None, refl, sym, ap, subst, ◌∙◌, append-nil}
use Rattle.std.proofs.lemmas.Option.{slice_get-get_or}
use Rattle.lf_base.specs.declared.id.ExprId.{ExprId}
use Rattle.lf_base.specs.declared.id.StmtId.{StmtId}
use Rattle.lf_base.specs.declared.id.SymId.{SymId}
use Rattle.lf_base.specs.declared.fault.Memory.{Memory}
use Rattle.asr_nodes.specs.Nodes.{Nodes, stmt_tree, reads}
use Rattle.asr_nodes.specs.Reading.{Path, print_item_node, stmt_node}
use Rattle.asr_nodes.specs.Units.{path}
use Rattle.asr_nodes.specs.declared.node.PrintItem.{PrintItem, PrintItem-F, fold-roll-PrintItem}
use Rattle.asr_nodes.specs.declared.node.PrintItem.TheVariants as pi
use Rattle.asr_nodes.specs.declared.node.Stmt.{Stmt}
use Rattle.asr_nodes.specs.declared.node.Stmt.TheVariants as s
use Rattle.asr_nodes.proofs.Missing.{drop_next, no_stmt_there}
use Rattle.asr_nodes.proofs.PrintItems as print_items
use Rattle.asr_nodes.proofs.TreeFolds as trees
use Rattle.c_printer.specs.declared.statements.chains.Choice.{Choice}
use Rattle.c_printer.specs.Chains.{choice_tree, chosen_by}
use Rattle.c_printer.specs.Laid.{value_in, value_layer, item_of, body_of, laid_stmt}
use Rattle.c_printer.specs.Lowering.{Lines, Wrote, behind, go_on, give, bind, block}
use Rattle.c_printer.specs.Lowered.{expression_of, statement_of, statement_at, reading_of}
use Rattle.c_printer.specs.Statements.{nothing, item_layer, stmt_layer, statement, statements, at, branches, while_loop, counted_loop, printed, end_record}
use Rattle.c_printer.specs.Units.{UnitScope, types_of}
use Rattle.c_printer.specs.Values.{Expression, Doing, Item, expr_layer}
use Rattle.c_printer.specs.Writing.{Written, Writes, from, wrote, drawn_by}
use Rattle.c_printer.proofs.Nodes as nodes
use Rattle.c_printer.proofs.Writes.{writes_bind}

map_twice : {A B C : Type 0} (f : B → C) (g : A → B) (xs : List A) → map f (map g xs) ≡ map (λ x. f (g x)) xs
map_twice f g [] = refl
map_twice f g (x ∷ xs) = ap (λ ys. f (g x) ∷ ys) (map_twice f g xs)

map_same : {A B : Type 0} (f g : A → B) → ((x : A) → f x ≡ g x) → (xs : List A) → map f xs ≡ map g xs
map_same f g h [] = refl
map_same f g h (x ∷ xs) = λ i. h x i ∷ map_same f g h xs i

value-Value : (value : ExprId) → value_in (pi.Value value) ≡ Some value
value-Value value = ap value_in (sym (pi.rolls-Value value)) ∙ fold-roll-PrintItem (Option ExprId) value_layer (PrintItem-F.Value value)

value-Loop : (variable lower upper step : ExprId) (items : List PrintItem) → value_in (pi.Loop variable lower upper step items) ≡ None
value-Loop variable lower upper step items = ap value_in (sym (pi.rolls-Loop variable lower upper step items)) ∙ fold-roll-PrintItem (Option ExprId) value_layer (PrintItem-F.Loop variable lower upper step items)

module _ (u : UnitScope) where
  twice : (ids : List StmtId) → map (statement (types_of u)) (map (stmt_tree u.asr (path u.asr)) ids) ≡ map (statement_of u) ids
  twice ids = map_twice (statement (types_of u)) (stmt_tree u.asr (path u.asr)) ids

  item_is : (x : PrintItem) → nodes.item_of (types_of u) (print_item_node (reading_of u) x) ≡ item_of u x
  item_is = print_items.by_cases (λ x. nodes.item_of (types_of u) (print_item_node (reading_of u) x) ≡ item_of u x) (record {
    value = λ value.
        ap (nodes.item_of (types_of u)) (print_items.node-Value (reading_of u) value)
        ∙ trees.fold_print_item-Value (Unit {0}) Expression Item (Unit {0}) Doing (Unit {0}) nothing (expr_layer (types_of u)) item_layer nothing stmt_layer nothing _
        ∙ sym (ap (option_map (expression_of u)) (value-Value value));
    loop = λ variable lower upper step items h.
        ap (nodes.item_of (types_of u)) (print_items.node-Loop (reading_of u) variable lower upper step items)
        ∙ trees.fold_print_item-Loop (Unit {0}) Expression Item (Unit {0}) Doing (Unit {0}) nothing (expr_layer (types_of u)) item_layer nothing stmt_layer nothing _ _ _ _ _
        ∙ sym (ap (option_map (expression_of u)) (value-Loop variable lower upper step items));
  })

  items_are : (xs : List PrintItem) → map (nodes.item_of (types_of u)) (map (print_item_node (reading_of u)) xs) ≡ map (item_of u) xs
  items_are xs = map_twice (nodes.item_of (types_of u)) (print_item_node (reading_of u)) xs ∙ map_same (λ x. nodes.item_of (types_of u) (print_item_node (reading_of u) x)) (item_of u) item_is xs

  -- each node is laid by its parts
  pub laid_is : (node : Stmt) (source : List ℕ) → statement_at u node source ≡ laid_stmt u node source
  laid_is (s.Assign a b c) source = ap (λ (f : Doing). f source) (trees.fold_stmt-Assign (Unit {0}) Expression Item (Unit {0}) Doing (Unit {0}) nothing (expr_layer (types_of u)) item_layer nothing stmt_layer nothing _ _ _)
  laid_is (s.If a b c d) source =
      ap (λ (f : Doing). f source) (trees.fold_stmt-If (Unit {0}) Expression Item (Unit {0}) Doing (Unit {0}) nothing (expr_layer (types_of u)) item_layer nothing stmt_layer nothing _ _ _ _)
      ∙ (λ i. branches (at source a) (expression_of u b) (statements source (twice c i)) (statements source (twice d i)))
  laid_is (s.Do a b c d e f g) source =
      ap (λ (f : Doing). f source) (trees.fold_stmt-Do (Unit {0}) Expression Item (Unit {0}) Doing (Unit {0}) nothing (expr_layer (types_of u)) item_layer nothing stmt_layer nothing _ _ _ _ _ _ _)
      ∙ ap (λ ss. counted_loop (at source a) b (expression_of u c) (expression_of u d) (expression_of u e) (expression_of u f) (statements source ss)) (twice g)
  laid_is (s.While a b c d) source =
      ap (λ (f : Doing). f source) (trees.fold_stmt-While (Unit {0}) Expression Item (Unit {0}) Doing (Unit {0}) nothing (expr_layer (types_of u)) item_layer nothing stmt_layer nothing _ _ _ _)
      ∙ ap (λ ss. while_loop (at source a) b (expression_of u c) (statements source ss)) (twice d)
  laid_is (s.Exit a b) source = ap (λ (f : Doing). f source) (trees.fold_stmt-Exit (Unit {0}) Expression Item (Unit {0}) Doing (Unit {0}) nothing (expr_layer (types_of u)) item_layer nothing stmt_layer nothing _ _)
  laid_is (s.Cycle a b) source = ap (λ (f : Doing). f source) (trees.fold_stmt-Cycle (Unit {0}) Expression Item (Unit {0}) Doing (Unit {0}) nothing (expr_layer (types_of u)) item_layer nothing stmt_layer nothing _ _)
  laid_is (s.Print a b c d) source =
      ap (λ (f : Doing). f source) (trees.fold_stmt-Print (Unit {0}) Expression Item (Unit {0}) Doing (Unit {0}) nothing (expr_layer (types_of u)) item_layer nothing stmt_layer nothing _ _ _ _)
      ∙ ap (printed (at source a) b c) (items_are d)
  laid_is (s.Stop a b c) source = ap (λ (f : Doing). f source) (trees.fold_stmt-Stop (Unit {0}) Expression Item (Unit {0}) Doing (Unit {0}) nothing (expr_layer (types_of u)) item_layer nothing stmt_layer nothing _ _ _)
  laid_is (s.Block a b) source =
      ap (λ (f : Doing). f source) (trees.fold_stmt-Block (Unit {0}) Expression Item (Unit {0}) Doing (Unit {0}) nothing (expr_layer (types_of u)) item_layer nothing stmt_layer nothing _ _)
      ∙ ap (λ ss. block (statements source ss)) (twice b)
  laid_is (s.Let a b c) source = ap (λ (f : Doing). f source) (trees.fold_stmt-Let (Unit {0}) Expression Item (Unit {0}) Doing (Unit {0}) nothing (expr_layer (types_of u)) item_layer nothing stmt_layer nothing _ _ _)
  laid_is (s.Begin a b) source = ap (λ (f : Doing). f source) (trees.fold_stmt-Begin (Unit {0}) Expression Item (Unit {0}) Doing (Unit {0}) nothing (expr_layer (types_of u)) item_layer nothing stmt_layer nothing _ _)
  laid_is (s.Put a b c) source = ap (λ (f : Doing). f source) (trees.fold_stmt-Put (Unit {0}) Expression Item (Unit {0}) Doing (Unit {0}) nothing (expr_layer (types_of u)) item_layer nothing stmt_layer nothing _ _ _)
  laid_is (s.End a) source = ap (λ (f : Doing). f source) (trees.fold_stmt-End (Unit {0}) Expression Item (Unit {0}) Doing (Unit {0}) nothing (expr_layer (types_of u)) item_layer nothing stmt_layer nothing _)
  laid_is (s.Select a b c d) source = ap (λ (f : Doing). f source) (trees.fold_stmt-Select (Unit {0}) Expression Item (Unit {0}) Doing (Unit {0}) nothing (expr_layer (types_of u)) item_layer nothing stmt_layer nothing _ _ _ _)
  laid_is (s.Call a b c) source = ap (λ (f : Doing). f source) (trees.fold_stmt-Call (Unit {0}) Expression Item (Unit {0}) Doing (Unit {0}) nothing (expr_layer (types_of u)) item_layer nothing stmt_layer nothing _ _ _)
  laid_is (s.Read a b c) source = ap (λ (f : Doing). f source) (trees.fold_stmt-Read (Unit {0}) Expression Item (Unit {0}) Doing (Unit {0}) nothing (expr_layer (types_of u)) item_layer nothing stmt_layer nothing _ _ _)
  laid_is (s.Return a) source = ap (λ (f : Doing). f source) (trees.fold_stmt-Return (Unit {0}) Expression Item (Unit {0}) Doing (Unit {0}) nothing (expr_layer (types_of u)) item_layer nothing stmt_layer nothing _)
  laid_is (s.Room a b c d e) source = ap (λ (f : Doing). f source) (trees.fold_stmt-Room (Unit {0}) Expression Item (Unit {0}) Doing (Unit {0}) nothing (expr_layer (types_of u)) item_layer nothing stmt_layer nothing _ _ _ _ _)
  laid_is (s.Count a b c d) source = ap (λ (f : Doing). f source) (trees.fold_stmt-Count (Unit {0}) Expression Item (Unit {0}) Doing (Unit {0}) nothing (expr_layer (types_of u)) item_layer nothing stmt_layer nothing _ _ _ _)
  laid_is (s.Same a b c) source = ap (λ (f : Doing). f source) (trees.fold_stmt-Same (Unit {0}) Expression Item (Unit {0}) Doing (Unit {0}) nothing (expr_layer (types_of u)) item_layer nothing stmt_layer nothing _ _ _)
  laid_is (s.Probe a b) source = ap (λ (f : Doing). f source) (trees.fold_stmt-Probe (Unit {0}) Expression Item (Unit {0}) Doing (Unit {0}) nothing (expr_layer (types_of u)) item_layer nothing stmt_layer nothing _ _)

  pub stmt_found : (a : Nodes) (id : StmtId) (node : Stmt) (source : List ℕ) (w v : Written) (r : Result (Unit {0}) Memory) → a ≡ u.asr → ((path : SymId → Path) → stmt_tree a path id ≡ stmt_node (reads a path) node)
      → Writes w v r (laid_stmt u node source) → Writes w v r (statement_of u id source)
  stmt_found a id node source w v r e h k =
      subst (Writes w v r)
      (sym (ap (λ t. statement (types_of u) t source) (subst (λ b. (path : SymId → Path) → stmt_tree b path id ≡ stmt_node (reads b path) node) e h (path u.asr)) ∙ laid_is node source)) k

  pub stmt_missing : (a : Nodes) (id : StmtId) (source : List ℕ) (w v : Written) (r : Result (Unit {0}) Memory) → a ≡ u.asr → (id.0 < length a.stmts → ⊥) → Writes w v r end_record → Writes w v r (statement_of u id source)
  stmt_missing a id source w v r e h k =
      subst (Writes w v r)
      (sym (ap (λ t. statement (types_of u) t source) (no_stmt_there u.asr (path u.asr) id (subst (λ (b : Nodes). id.0 < length b.stmts → ⊥) e h))
      ∙ ap (λ (f : Doing). f source) (trees.fold_stmt-End (Unit {0}) Expression Item (Unit {0}) Doing (Unit {0}) nothing (expr_layer (types_of u)) item_layer nothing stmt_layer nothing 0))) k

  -- a block that is one `if`
  pub lone_body : (ids : List StmtId) (c : Choice) → map (stmt_tree u.asr (path u.asr)) ids ≡ choice_tree u c ∷ [] → (source : List ℕ) (w : Written) → from w (body_of u ids source) ≡ from w (chosen_by u c source)
  lone_body ids c is source w =
      ap (λ ss. from w (statements source ss)) (sym (twice ids) ∙ ap (map (statement (types_of u))) is)
      ∙ ap (λ act. from w (bind act (λ z. give tt))) one
      ∙ ap (behind w.lines) (nothing_behind (chosen_by u c source (drawn_by w)))
    where
      one : statement (types_of u) (choice_tree u c) source ≡ chosen_by u c source
      one = ap (λ (f : Doing). f source) (trees.fold_stmt-If (Unit {0}) Expression Item (Unit {0}) Doing (Unit {0}) nothing (expr_layer (types_of u)) item_layer nothing stmt_layer nothing _ _ _ _) ∙ (λ i. branches (at source c.line) (expression_of u c.condition) (statements source (twice c.then_block.now i)) (statements source (twice c.else_block.now i)))

      nothing_behind : (m : Lines (Unit {0})) → go_on m (λ z. give tt) ≡ m
      nothing_behind (Wrote lines x d) = ap (λ ls. Wrote ls tt d) (append-nil lines)

  -- one more statement was written
  pub body_next : (ids : List StmtId) (i : ℕ) (d : StmtId) → i < length ids → (source : List ℕ) (w v : Written) → from w (statement_of u (get_or ids i d) source) ≡ wrote v tt
      → from w (body_of u (drop i ids) source) ≡ from v (body_of u (drop (i + 1) ids) source)
  body_next ids i d within source w v h =
      ap (λ xs. from w (body_of u xs source)) (drop_next ids i (get_or ids i d) (slice_get-get_or ids i d within))
      ∙ writes_bind w v (statement_of u (get_or ids i d) source) tt (λ z. body_of u (drop (i + 1) ids) source) h
