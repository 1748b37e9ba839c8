-- The items of a file: those of its one unit, behind the prelude.
use Rattle.std.proofs.Common.{◌≡◌, ℕ, List, [], ◌∷◌, ◌++◌, map, Option, Some, None, refl, sym, ap, ◌∙◌}
use Rattle.std.proofs.lemmas.Simd.{map-map}
use Rattle.std.specs.Option.{option_map, option_map_or}
use Rattle.lf_base.specs.declared.id.StmtId.{StmtId}
use Rattle.lf_base.specs.declared.id.SymId.{SymId}
use Rattle.lf_base.specs.declared.id.TableId.{TableId}
use Rattle.symtab_arena.specs.Links.{Linked}
use Rattle.symtab_arena.specs.Scopes.{symbol_at, name_of, what_of}
use Rattle.symtab_arena.specs.declared.table.Symbol.{Symbol as Entry}
use Rattle.symtab_arena.proofs.EntryLemmas.{none_some}
use Rattle.symtab_arena.proofs.LinkLemmas.{some_is}
use Rattle.asr_nodes.specs.Nodes.{Nodes, Sound, stmt_tree}
use Rattle.asr_nodes.specs.Units.{path, unit_node, unit_tree}
use Rattle.asr_nodes.specs.declared.node.Symbol.{Symbol}
use Rattle.asr_nodes.specs.declared.node.Symbol.TheVariants as y
use Rattle.asr_nodes.specs.declared.tree.UnitTree.{UnitTree}
use Rattle.c_nodes.specs.declared.tree.CItem.TheVariants.{Prototype}
use Rattle.c_nodes.specs.declared.tree.CResult.TheVariants.{Void}
use Rattle.c_nodes.specs.declared.tree.CStmt.{CStmt}
use Rattle.c_printer.specs.Files.{init_function, main_function, unit_items, variable_item}
use Rattle.c_printer.specs.Lowered.{statement_of}
use Rattle.c_printer.specs.Lowering.{Lines, Wrote, Lowering, lines_of, nothing_drawn, behind, bind, line}
use Rattle.c_printer.specs.Names.{init_name}
use Rattle.c_printer.specs.Statements.{statement, statements}
use Rattle.c_printer.specs.Units.{UnitScope, types_of}
use Rattle.c_printer.specs.UnitTrees.{function_items, saved_of, statement_trees, unit_trees}
use Rattle.c_printer.specs.Writing.{Written, from, wrote, nothing_written}
use Rattle.c_printer.proofs.FirstValues.{lines_written}
use Rattle.c_printer.proofs.Variables.{saved_are}
use Rattle.c_printer.proofs.Writes.{writes_bind}

lines_behind : {A : Type 0} (before : List CStmt) (m : Lines A) → lines_of (behind before m) ≡ before ++ lines_of m
lines_behind before (Wrote lines x d) = refl

-- one line, and the lines of an act behind it
pub line_first : (s : CStmt) (act : Lowering (Unit {0})) (v w : Written) → from nothing_written (line s) ≡ wrote v tt → from v act ≡ wrote w tt → s ∷ lines_of (act nothing_drawn) ≡ w.lines
line_first s act v w h k =
    sym (lines_behind (s ∷ []) (act nothing_drawn))
    ∙ lines_written w (bind (line s) (λ u. act)) (writes_bind nothing_written v (line s) tt (λ u. act) h ∙ k)

-- the lines of the statements of a body, which end by giving 0
module _ (u : UnitScope) (source : List ℕ) (body : List StmtId) where
  pub statements_are : statements source (map (statement_of u) body) ≡ statements source (map (statement (types_of u)) (statement_trees u body))
  statements_are = ap (statements source) (sym (map-map (statement (types_of u)) (stmt_tree u.asr (path u.asr)) body))

module _ (a : Nodes) where
  -- the tree of a unit, by its name and what it stands for
  tree_is : (id : SymId) (name : List ℕ) (x : Symbol) → name_of a.scopes id ≡ Some name → what_of a.scopes id ≡ Some x → unit_tree a id ≡ unit_node a name x
  tree_is id name x e k = by (symbol_at a.scopes id) e k
    where
      by : (o : Option (Entry Symbol)) → option_map (λ (y : Entry Symbol). y.name) o ≡ Some name → option_map (λ (y : Entry Symbol). y.what) o ≡ Some x
          → option_map_or (λ (y : Entry Symbol). unit_node a y.name y.what) o None ≡ unit_node a name x
      by None e k = absurd (none_some name e)
      by (Some y) e k = λ i. unit_node a (some_is y.name name e i) (some_is y.what x k i)

  abbrev alone : Option UnitTree → List UnitTree
  alone o = option_map_or (λ u. u ∷ []) o []

  -- the items of a main program
  pub program_items_are : (u : UnitScope) (id : SymId) (x : Symbol) (source : List ℕ) (deps : List (List ℕ)) (table : TableId) (body : List StmtId) → Linked a.scopes → Sound a
      → u.asr ≡ a → u.id ≡ id → u.table ≡ table → name_of a.scopes id ≡ Some u.unit → what_of a.scopes id ≡ Some x → x ≡ y.Program source deps table body
      → unit_items (unit_trees a (id ∷ [])) ≡ map (variable_item u.unit) (saved_of u) ++ function_items u source body
  program_items_are u id x source deps table body links h asr same owns called means is =
      let v : UnitScope = record { asr = a; id = id; unit = u.unit; table = table } in
      let whole : v ≡ u = λ i. record { asr = sym asr i; id = sym same i; unit = u.unit; table = sym owns i } in
      ap (λ o. unit_items (alone o)) (tree_is id u.unit x called means ∙ ap (unit_node a u.unit) is)
      ∙ ap (λ vs. map (variable_item u.unit) vs ++ Prototype Void (init_name u.unit) [] ∷ init_function u.unit source (types_of v) vs ∷ main_function u.unit source (types_of v) (statement_trees v body) ∷ []) (saved_are a links h table)
      ∙ ap (λ (s : UnitScope). map (variable_item s.unit) (saved_of s) ++ function_items s source body) whole

  -- the unit that was found, in front of what is left
  abbrev pub trees_left : Option SymId → List SymId → List UnitTree
  trees_left None ids = unit_trees a ids
  trees_left (Some id) ids = unit_trees a (id ∷ ids)
