-- The tree of a unit whose own statements are lowered: those of its symbols stay.
use Rattle.std.proofs.Common.{◌≡◌, ℕ, zero, suc, ◌+◌, ◌<◌, true, List, [], ◌∷◌, ◌++◌, map, length, Option, Some, None, OnOk, Result, Ok, Err, refl, sym, ap, subst, ◌∙◌, arith}
use Rattle.std.specs.List.{AllByRecursion}
use Rattle.std.specs.Option.{option_map, option_map_or}
use Rattle.std.proofs.lemmas.Bool.{and_parts}
use Rattle.lf_base.specs.declared.fault.Memory.{Memory}
use Rattle.lf_base.specs.declared.id.StmtId.{StmtId}
use Rattle.lf_base.specs.declared.id.SymId.{SymId}
use Rattle.lf_base.specs.declared.id.TableId.{TableId}
use Rattle.symtab_arena.specs.Names.{Names}
use Rattle.symtab_arena.specs.Paths.{path_of}
use Rattle.symtab_arena.specs.Scopes.{symbol_at, names_in}
use Rattle.symtab_arena.specs.declared.table.Symbol.{Symbol as Entry}
use Rattle.asr_nodes.specs.Keys.{Key, stmt, stmts, chained}
use Rattle.asr_nodes.specs.Nodes.{Nodes, Sound, tree_at, expr_tree, stmt_tree, there}
use Rattle.asr_nodes.specs.OnePlace.{places_at, places, UnitStandsAlone, entry_roots, roots_within, unit_roots}
use Rattle.asr_nodes.specs.Reading.{type_node}
use Rattle.asr_nodes.specs.Symbols.{symbol_parts, table_in}
use Rattle.asr_nodes.specs.Units.{path, symbol_node, each_entry, symbols_within, symbol_trees, unit_node, unit_tree}
use Rattle.asr_nodes.specs.Visits.{visits}
use Rattle.asr_nodes.specs.declared.node.Symbol.{Symbol}
use Rattle.asr_nodes.specs.declared.node.Symbol.TheVariants as y
use Rattle.asr_nodes.specs.declared.tree.SymbolTree.{SymbolTree}
use Rattle.asr_nodes.specs.declared.tree.SymbolTree.TheVariants as t
use Rattle.asr_nodes.specs.declared.tree.UnitTree.TheVariants as u
use Rattle.asr_nodes.proofs.Alike.{Alike, first, last, exprs_same, stmts_same}
use Rattle.asr_nodes.proofs.OnePlace.{total_append}
use Rattle.pass_array_op.specs.Bodies.{LowersBody, LowersOr}
use Rattle.pass_array_op.specs.Lowering.{lowered_body}
use Rattle.pass_array_op.specs.Prints.{prints}
use Rattle.pass_array_op.specs.Units.{own_body, body_of, lowered_unit}
use Rattle.pass_array_op.proofs.Places.{body_placed}
use Rattle.pass_array_op.proofs.UnitBodies.{unit_there}

module _ (a b : Nodes) (e : b.scopes ≡ a.scopes) where
  abbrev pub Kept : List Key → Type 0
  Kept keys = Alike (tree_at b (path a)) (tree_at a (path a)) keys

  same_path : path b ≡ path a
  same_path = λ i. path_of (e i)

  node_kept : (f g : TableId → List SymbolTree) (name : List ℕ) (x : Symbol) → Kept (symbol_parts x) → ((u : TableId) → table_in x ≡ Some u → f u ≡ g u) → symbol_node b f name x ≡ symbol_node a g name x
  node_kept f g name (y.Program source deps table body) h k = refl
  node_kept f g name (y.Module source deps table) h k = refl
  node_kept f g name (y.Function access dummies result simple table body) h k =
      (λ i. Some (t.Function name access (map (same_path i) dummies) (option_map (same_path i) result) simple (f table) (map (stmt_tree b (same_path i)) body)))
      ∙ (λ i. Some (t.Function name access (map (path a) dummies) (option_map (path a) result) simple (k table refl i) (stmts_same (tree_at b (path a)) (tree_at a (path a)) body h i)))
  node_kept f g name (y.Variable access ty storage intent init) h k =
      (λ i. Some (t.Variable name access (type_node (same_path i) ty) storage intent (map (expr_tree b (same_path i)) init)))
      ∙ (λ i. Some (t.Variable name access (type_node (path a) ty) storage intent (exprs_same (tree_at b (path a)) (tree_at a (path a)) init h i)))
  node_kept f g name (y.Struct access table) h k = ap (λ s. Some (t.Struct name access s)) (k table refl)
  node_kept f g name (y.Generic access specifics) h k = λ i. Some (t.Generic name access (map (same_path i) specifics))
  node_kept f g name (y.External access home original) h k = refl

  module _ (inside : TableId → List Key) (f g : TableId → List SymbolTree) (k : (u : TableId) → Kept (inside u) → f u ≡ g u) where
    entry_kept : (it : Entry Symbol) → Kept (entry_roots a inside (Some it)) → symbol_node b f it.name it.what ≡ symbol_node a g it.name it.what
    entry_kept it h =
        let rest = last (tree_at b (path a)) (tree_at a (path a)) (symbol_parts it.what) (option_map_or inside (table_in it.what) []) h in
        node_kept f g it.name it.what (first (tree_at b (path a)) (tree_at a (path a)) (symbol_parts it.what) (option_map_or inside (table_in it.what) []) h)
        (λ u q. k u (subst (λ o. Kept (option_map_or inside o [])) q rest))

    one_kept : (o : Option (Entry Symbol)) (xs ys : List SymbolTree) → Kept (entry_roots a inside o) → xs ≡ ys
        → option_map_or (λ (it : Entry Symbol). option_map_or (λ s. s ∷ xs) (symbol_node b f it.name it.what) xs) o xs ≡ option_map_or (λ (it : Entry Symbol). option_map_or (λ s. s ∷ ys) (symbol_node a g it.name it.what) ys) o ys
    one_kept None xs ys h q = q
    one_kept (Some it) xs ys h q = λ i. option_map_or (λ s. s ∷ q i) (entry_kept it h i) (q i)

    each_kept : (names : Names) → Kept (chained (map (entry_roots a inside) (map (λ x. symbol_at a.scopes x.1) names)))
        → each_entry b (λ it. symbol_node b f it.name it.what) (map (λ x. symbol_at a.scopes x.1) names) ≡ each_entry a (λ it. symbol_node a g it.name it.what) (map (λ x. symbol_at a.scopes x.1) names)
    each_kept [] h = refl
    each_kept (x ∷ xs) h =
        one_kept (symbol_at a.scopes x.1) _ _ (first (tree_at b (path a)) (tree_at a (path a)) (entry_roots a inside (symbol_at a.scopes x.1)) (chained (map (entry_roots a inside) (map (λ x. symbol_at a.scopes x.1) xs))) h)
        (each_kept xs (last (tree_at b (path a)) (tree_at a (path a)) (entry_roots a inside (symbol_at a.scopes x.1)) (chained (map (entry_roots a inside) (map (λ x. symbol_at a.scopes x.1) xs))) h))

  within_kept : (n : ℕ) (table : TableId) → Kept (roots_within a n table) → symbols_within b n table ≡ symbols_within a n table
  within_kept zero table h = refl
  within_kept (suc n) table h =
      (λ i. each_entry b (λ it. symbol_node b (symbols_within b n) it.name it.what) (map (λ x. symbol_at (e i) x.1) (names_in (e i) table)))
      ∙ each_kept (roots_within a n) (symbols_within b n) (symbols_within a n) (within_kept n) (names_in a.scopes table) h

  pub table_kept : (table : TableId) → Kept (roots_within a (length a.scopes.tables) table) → symbol_trees b table ≡ symbol_trees a table
  table_kept table h = (λ i. symbols_within b (length (e i).tables) table) ∙ within_kept (length a.scopes.tables) table h

pub each_weaker : (P Q : StmtId → Type 0) → ((id : StmtId) → P id → Q id) → (ids : List StmtId) → AllByRecursion P ids → AllByRecursion Q ids
each_weaker P Q h [] a = tt
each_weaker P Q h (id ∷ ids) a = (h id a.0, each_weaker P Q h ids a.1)

module _ (a b : Nodes) (h : Sound a) (unit : SymId) (number : ℕ) (l : LowersBody a b (body_of a unit) number) (s : UnitStandsAlone a unit) where
  abbrev inside : TableId → List Key
  inside = roots_within a (length a.scopes.tables)

  -- below the symbols of its table none of the statements stands that are lowered
  none_placed : (rest : List Key) → ((key : Key) → places a key (unit_roots a unit) ≡ places a key (stmts (body_of a unit)) + places a key rest)
      → AllByRecursion (λ id. places a (stmt id) rest ≡ 0) (prints a (visits a (stmts (body_of a unit))))
  none_placed rest parted =
      each_weaker (λ id. 0 < places a (stmt id) (stmts (body_of a unit))) (λ id. places a (stmt id) rest ≡ 0)
      (λ id p. let q = parted (stmt id) in let o = s.once (stmt id) (omega (arith, p, q)) in omega (arith, p, q, o))
      (prints a (visits a (stmts (body_of a unit)))) (body_placed a (body_of a unit) (stmts (body_of a unit)) (λ key. omega arith))

  both : (xs ys : List Key) → there a (xs ++ ys) ≡ true → there a ys ≡ true
  both [] ys e = e
  both (x ∷ xs) ys e = both xs ys (and_parts _ _ e).1

  by_symbol : (it : Entry Symbol) → symbol_at a.scopes unit ≡ Some it → unit_node b it.name it.what ≡ option_map (lowered_unit number) (unit_node a it.name it.what)
  by_symbol it q = go it.what refl
    where
      roots : unit_roots a unit ≡ entry_roots a inside (Some it)
      roots = ap (entry_roots a inside) q

      own : (x : Symbol) → it.what ≡ x → body_of a unit ≡ own_body x
      own x w = ap (λ o. option_map_or (λ (z : Entry Symbol). own_body z.what) o []) q ∙ ap own_body w

      kept : (x : Symbol) (table : TableId) → it.what ≡ x → symbol_parts x ≡ stmts (own_body x) → table_in x ≡ Some table → symbol_trees b table ≡ symbol_trees a table
      kept x table w parts owns =
          let all : unit_roots a unit ≡ stmts (own_body x) ++ inside table =
          roots ∙ ap (λ (z : Symbol). symbol_parts z ++ option_map_or inside (table_in z) []) w ∙ (λ i. parts i ++ option_map_or inside (owns i) [])
          in
          table_kept a b l.scopes table
          (l.trees (inside table) (both (stmts (own_body x)) (inside table) (sym (ap (there a) all) ∙ unit_there a h unit))
          (none_placed (inside table) (λ key. ap (places a key) all ∙ total_append (places_at a key) (stmts (own_body x)) (inside table) ∙ ap (λ body. places a key (stmts body) + places a key (inside table)) (sym (own x w))))
          (path a))

      go : (x : Symbol) → it.what ≡ x → unit_node b it.name x ≡ option_map (lowered_unit number) (unit_node a it.name x)
      go (y.Program source deps table body) w =
          (λ i. Some (u.Program it.name source deps (kept (y.Program source deps table body) table w refl refl i) (map (stmt_tree b (path_of (l.scopes i))) body)))
          ∙ ap (λ ts. Some (u.Program it.name source deps (symbol_trees a table) ts)) (subst (λ ids. map (stmt_tree b (path a)) ids ≡ (lowered_body (map (stmt_tree a (path a)) ids)).from number) (own (y.Program source deps table body) w) (l.tree (path a)))
      go (y.Module source deps table) w = λ i. Some (u.Module it.name source deps (kept (y.Module source deps table) table w refl refl i))
      go (y.Function access dummies result simple table body) w = refl
      go (y.Variable access ty storage intent init) w = refl
      go (y.Struct access table) w = refl
      go (y.Generic access specifics) w = refl
      go (y.External access home original) w = refl

  becomes : unit_tree b unit ≡ option_map (lowered_unit number) (unit_tree a unit)
  becomes = ap (λ sc. option_map_or (λ (it : Entry Symbol). unit_node b it.name it.what) (symbol_at sc unit) None) l.scopes ∙ by (symbol_at a.scopes unit) refl
    where
      by : (o : Option (Entry Symbol)) → symbol_at a.scopes unit ≡ o
          → option_map_or (λ (it : Entry Symbol). unit_node b it.name it.what) o None ≡ option_map (lowered_unit number) (option_map_or (λ (it : Entry Symbol). unit_node a it.name it.what) o None)
      by None q = refl
      by (Some it) q = by_symbol it q

pub unit_becomes_or : (old new : Nodes) → Sound old → (unit : SymId) (ids : List StmtId) (number first : ℕ) (r : Result (Unit {0}) Memory) → ids ≡ body_of old unit → number ≡ first → LowersOr old new ids number r
    → UnitStandsAlone old unit → OnOk r (unit_tree new unit ≡ option_map (lowered_unit first) (unit_tree old unit))
unit_becomes_or old new h unit ids number first (Ok z) e f l s = subst (λ n. unit_tree new unit ≡ option_map (lowered_unit n) (unit_tree old unit)) f (becomes old new h unit number (subst (λ body. LowersBody old new body number) e l) s)
unit_becomes_or old new h unit ids number first (Err fault) e f l s = tt
