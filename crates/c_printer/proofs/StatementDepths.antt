-- How deep statements are whose parts are lowered.
use Rattle.std.proofs.Common.{◌≡◌, ℕ, ◌+◌, ◌<◌, ◌≤◌, length, get_or, List, [], ◌∷◌, map, refl, sym, ap, subst, ◌∙◌, arith}
use Rattle.std.proofs.lemmas.Option.{slice_get-get_or}
use Rattle.lf_base.specs.declared.id.ExprId.{ExprId}
use Rattle.lf_base.specs.declared.id.StmtId.{StmtId}
use Rattle.lf_base.specs.declared.id.SymId.{SymId}
use Rattle.asr_nodes.specs.Nodes.{Nodes, stmt_tree, reads}
use Rattle.asr_nodes.specs.Reading.{Path, stmt_node}
use Rattle.asr_nodes.specs.Units.{path}
use Rattle.asr_nodes.specs.declared.node.Stmt.{Stmt}
use Rattle.asr_nodes.specs.declared.node.Stmt.TheVariants as s
use Rattle.asr_nodes.specs.declared.tree.StmtTree.{StmtTree, StmtTree-F, fold-StmtTree}
use Rattle.asr_nodes.proofs.TreeFolds as trees
use Rattle.c_printer.specs.declared.statements.chains.Choice.{Choice}
use Rattle.c_printer.specs.Chains.{choice_tree}
use Rattle.c_printer.specs.Statements.{nothing}
use Rattle.c_printer.specs.Units.{UnitScope}
use Rattle.c_printer.specs.Lowered.{reading_of}
use Rattle.c_printer.proofs.Depths.{total, one_of}

abbrev U : Type 0
U = Unit {0}

abbrev layer : StmtTree-F U U U U ℕ U → ℕ
layer (StmtTree-F.If line condition then_block else_block) = total then_block + total else_block + 1
layer (StmtTree-F.Do line id variable lower upper step body) = total body + 1
layer (StmtTree-F.While line id condition body) = total body + 1
layer (StmtTree-F.Block line stmts) = total stmts + 1
layer _ = 0

abbrev pub depth : StmtTree → ℕ
depth = fold-StmtTree U U U U ℕ U nothing nothing nothing nothing layer nothing

map_twice : {A B C : Type 0} (f : B → C) (g : A → B) (xs : List A) → map f (map g xs) ≡ map (λ x. f (g x)) xs
map_twice f g [] = refl
map_twice f g (x ∷ xs) = ap (λ ys. f (g x) ∷ ys) (map_twice f g xs)

module _ (u : UnitScope) where
  abbrev pub depth_of : StmtId → ℕ
  depth_of id = depth (stmt_tree u.asr (path u.asr) id)

  -- of several together
  abbrev pub depths_of : List StmtId → ℕ
  depths_of ids = total (map depth_of ids)

  -- of a node
  abbrev pub depth_at : Stmt → ℕ
  depth_at node = depth (stmt_node (reading_of u) node)

  pub found_depth : (a : Nodes) (id : StmtId) (node : Stmt) → a ≡ u.asr → ((path : SymId → Path) → stmt_tree a path id ≡ stmt_node (reads a path) node) → depth_of id ≡ depth_at node
  found_depth a id node e h = ap depth (subst (λ b. (path : SymId → Path) → stmt_tree b path id ≡ stmt_node (reads b path) node) e h (path u.asr))

  together : (ids : List StmtId) → total (map depth (map (stmt_tree u.asr (path u.asr)) ids)) ≡ depths_of ids
  together ids = ap total (map_twice depth (stmt_tree u.asr (path u.asr)) ids)

  pub depth-Block : (node : Stmt) (line : ℕ) (ids : List StmtId) → node ≡ s.Block line ids → depth_at node ≡ depths_of ids + 1
  depth-Block node line ids is = ap depth_at is ∙ trees.fold_stmt-Block U U U U ℕ U nothing nothing nothing nothing layer nothing _ _ ∙ ap (λ n. n + 1) (together ids)

  pub depth-While : (node : Stmt) (line id : ℕ) (condition : ExprId) (body : List StmtId) → node ≡ s.While line id condition body → depth_at node ≡ depths_of body + 1
  depth-While node line id condition body is = ap depth_at is ∙ trees.fold_stmt-While U U U U ℕ U nothing nothing nothing nothing layer nothing _ _ _ _ ∙ ap (λ n. n + 1) (together body)

  pub depth-Do : (node : Stmt) (line id : ℕ) (variable lower upper step : ExprId) (body : List StmtId) → node ≡ s.Do line id variable lower upper step body → depth_at node ≡ depths_of body + 1
  depth-Do node line id variable lower upper step body is = ap depth_at is ∙ trees.fold_stmt-Do U U U U ℕ U nothing nothing nothing nothing layer nothing _ _ _ _ _ _ _ ∙ ap (λ n. n + 1) (together body)

  pub depth-If : (node : Stmt) (line : ℕ) (condition : ExprId) (then_block else_block : List StmtId) → node ≡ s.If line condition then_block else_block → depth_at node ≡ depths_of then_block + depths_of else_block + 1
  depth-If node line condition then_block else_block is =
      ap depth_at is
      ∙ trees.fold_stmt-If U U U U ℕ U nothing nothing nothing nothing layer nothing _ _ _ _
      ∙ (λ i. together then_block i + together else_block i + 1)

  -- a block that is one `if`
  pub depth_lone : (ids : List StmtId) (c : Choice) → map (stmt_tree u.asr (path u.asr)) ids ≡ choice_tree u c ∷ [] → depths_of ids ≡ depths_of c.then_block.now + depths_of c.else_block.now + 1
  depth_lone ids c is =
      sym (together ids)
      ∙ ap (λ ts. total (map depth ts)) is
      ∙ ap (λ n. n + 0) (trees.fold_stmt-If U U U U ℕ U nothing nothing nothing nothing layer nothing _ _ _ _ ∙ (λ i. together c.then_block.now i + together c.else_block.now i + 1))
      ∙ no_more (depths_of c.then_block.now + depths_of c.else_block.now + 1)
    where
      no_more : (n : ℕ) → n + 0 ≡ n
      no_more n = omega arith

  -- one of several is no deeper than all together
  pub one_deep : (ids : List StmtId) (i : ℕ) (d : StmtId) → i < length ids → depth_of (get_or ids i d) ≤ depths_of ids
  one_deep ids i d within = one_of depth_of ids i (get_or ids i d) (slice_get-get_or ids i d within)
