-- The texts of symbols and tables, and the text of a unit.
use Rattle.std.proofs.Common.{◌≡◌, ℕ, zero, suc, true, false, List, [], ◌∷◌, codes, map, slice_get, Option, Some, None, is_some, IfSome, refl, sym, ap, ◌∙◌, true≢false}
use Rattle.std.specs.Option.{option_map, option_map_or, option_and_then}
use Rattle.std.proofs.lemmas.Bool.{ne_eqb}
use Rattle.std.specs.Fmt.{decimal}
use Rattle.lf_base.specs.declared.id.StmtId.{StmtId}
use Rattle.lf_base.specs.declared.id.SymId.{SymId}
use Rattle.lf_base.specs.declared.id.TableId.{TableId}
use Rattle.lf_base.specs.Contents.{joined}
use Rattle.ast_nodes.specs.Node.{node, listed, optional}
use Rattle.symtab_arena.specs.Links.{Linked}
use Rattle.symtab_arena.specs.Names.{Names}
use Rattle.symtab_arena.specs.Scopes.{table_id, symbol_at, names_in, owner_of, owned_by, name_of, what_of}
use Rattle.symtab_arena.specs.declared.table.Symbol.{Symbol as Entry}
use Rattle.symtab_arena.proofs.CountLemmas.{in_place_stands}
use Rattle.symtab_arena.proofs.EntryLemmas.{none_some}
use Rattle.symtab_arena.proofs.LinkLemmas.{some_is}
use Rattle.asr_nodes.specs.Nodes.{Nodes, Sound, stmt_tree}
use Rattle.asr_nodes.specs.Shapes.{entity_text, entity_texts, entity_lines}
use Rattle.asr_nodes.specs.Symbols.{is_root, is_unit}
use Rattle.asr_nodes.specs.Text.{Text, path_text, paths_text, stmt_text, symbol_text, symbol_layer, symbol_line, unit_text}
use Rattle.asr_nodes.specs.Units.{path, symbol_node, each_entry, symbol_trees, unit_node, unit_tree, text_of_unit}
use Rattle.asr_nodes.specs.declared.node.Symbol.{Symbol}
use Rattle.asr_nodes.specs.declared.node.Symbol.TheVariants as y
use Rattle.asr_nodes.specs.declared.tree.StmtTree.TheVariants as stmt
use Rattle.asr_nodes.specs.declared.tree.SymbolTree.{SymbolTree, SymbolTree-F}
use Rattle.asr_nodes.proofs.Nested.{symbols_are}
use Rattle.asr_nodes.proofs.PathTexts.{seen}
use Rattle.asr_nodes.proofs.Texts.{symbol_text-Function, symbol_text-Struct}

module _ (a : Nodes) where
  abbrev tree : List ℕ → Symbol → Option SymbolTree
  tree = symbol_node a (symbol_trees a)

  abbrev text : Option SymbolTree → Text
  text s = option_map_or symbol_text s (stmt_text (stmt.End 0))

  -- a live symbol, by its name and what it stands for
  pub entity_is : (id : SymId) (name : List ℕ) (x : Symbol) → name_of a.scopes id ≡ Some name → what_of a.scopes id ≡ Some x → entity_text a id ≡ text (tree name x)
  entity_is id name x e k = by (symbol_at a.scopes id) e k
    where
      by : (o : Option (Entry Symbol)) → option_map (λ (y : Entry Symbol). y.name) o ≡ Some name → option_map (λ (y : Entry Symbol). y.what) o ≡ Some x
          → option_map_or (λ (y : Entry Symbol). text (tree y.name y.what)) o (stmt_text (stmt.End 0)) ≡ text (tree name x)
      by None e k = absurd (none_some name e)
      by (Some y) e k = λ i. text (tree (some_is y.name name e i) (some_is y.what x k i))

  pub no_entity : (id : SymId) → is_some (symbol_at a.scopes id) ≡ false → entity_text a id ≡ stmt_text (stmt.End 0)
  no_entity id e = by (symbol_at a.scopes id) e
    where
      by : (o : Option (Entry Symbol)) → is_some o ≡ false → option_map_or (λ (y : Entry Symbol). text (tree y.name y.what)) o (stmt_text (stmt.End 0)) ≡ stmt_text (stmt.End 0)
      by None e = refl
      by (Some y) e = absurd (true≢false e)

  unit_is : (id : SymId) (name : List ℕ) (x : Symbol) → name_of a.scopes id ≡ Some name → what_of a.scopes id ≡ Some x → unit_tree a id ≡ unit_node a name x
  unit_is id name x e k = by (symbol_at a.scopes id) e k
    where
      by : (o : Option (Entry Symbol)) → option_map (λ (y : Entry Symbol). y.name) o ≡ Some name → option_map (λ (y : Entry Symbol). y.what) o ≡ Some x
          → option_map_or (λ (y : Entry Symbol). unit_node a y.name y.what) o None ≡ unit_node a name x
      by None e k = absurd (none_some name e)
      by (Some y) e k = λ i. unit_node a (some_is y.name name e i) (some_is y.what x k i)

  pub unit_text_is : (id : SymId) (name : List ℕ) (x y : Symbol) → name_of a.scopes id ≡ Some name → what_of a.scopes id ≡ Some x → x ≡ y → text_of_unit a id ≡ option_map_or unit_text (unit_node a name y) []
  unit_text_is id name x y e k s = ap (λ o. option_map_or unit_text o []) (unit_is id name x e k ∙ ap (unit_node a name) s)

  -- a table that a symbol owns is not the root
  pub not_root : Linked a.scopes → (id : SymId) (o : Option TableId) → owned_by a.scopes id ≡ o → IfSome o (λ table. is_root table ≡ false)
  not_root links id None e = tt
  not_root links id (Some table) e = ne_eqb table.0 0 (λ z. none_some id (sym links.root_owner ∙ ap (owner_of a.scopes) (ap table_id (sym z)) ∙ owner (symbol_at a.scopes id) refl e))
    where
      owner : (o : Option (Entry Symbol)) → symbol_at a.scopes id ≡ o → owned_by a.scopes id ≡ Some table → owner_of a.scopes table ≡ Some id
      owner None q k = absurd (none_some table (sym (ap (option_and_then (λ (y : Entry Symbol). y.owned)) q) ∙ k))
      owner (Some y) q k = links.owned id y table q (sym (ap (option_and_then (λ (y : Entry Symbol). y.owned)) q) ∙ k)

  -- what is no unit has a tree
  no_unit : (name : List ℕ) (x : Symbol) → is_unit x ≡ false → (s : SymbolTree) × (tree name x ≡ Some s)
  no_unit name (y.Program source deps table body) e = absurd (true≢false e)
  no_unit name (y.Module source deps table) e = absurd (true≢false e)
  no_unit name (y.Function access dummies result simple table body) e = (_, refl)
  no_unit name (y.Variable access ty storage intent init) e = (_, refl)
  no_unit name (y.Struct access table) e = (_, refl)
  no_unit name (y.Generic access specifics) e = (_, refl)
  no_unit name (y.External access home original) e = (_, refl)

  abbrev here : Entry Symbol → Option SymbolTree
  here e = tree e.name e.what

  one_text : (o : Option (Entry Symbol)) (xs : List SymbolTree) (ys : List Text) (e : Entry Symbol) (s : SymbolTree) → o ≡ Some e → here e ≡ Some s → map symbol_text xs ≡ ys
      → map symbol_text (option_map_or (λ e. option_map_or (λ s. s ∷ xs) (here e) xs) o xs) ≡ option_map_or (λ e. text (here e)) o (stmt_text (stmt.End 0)) ∷ ys
  one_text o xs ys e s q r h =
      ap (λ o. map symbol_text (option_map_or (λ e. option_map_or (λ s. s ∷ xs) (here e) xs) o xs)) q
      ∙ ap (λ z. map symbol_text (option_map_or (λ s. s ∷ xs) z xs)) r
      ∙ ap (λ t. symbol_text s ∷ t) h
      ∙ sym (ap (λ z. text z ∷ ys) r)
      ∙ sym (ap (λ o. option_map_or (λ e. text (here e)) o (stmt_text (stmt.End 0)) ∷ ys) q)

  each_text : (names : Names) → ((i : ℕ) (n : List ℕ × SymId) → slice_get names i ≡ Some n → (e : Entry Symbol) × (s : SymbolTree) × (symbol_at a.scopes n.1 ≡ Some e) × (here e ≡ Some s))
      → map symbol_text (each_entry a here (map (λ e. symbol_at a.scopes e.1) names)) ≡ map (λ e. entity_text a e.1) names
  each_text [] k = refl
  each_text (n ∷ names) k = let h = k zero n refl in one_text (symbol_at a.scopes n.1) _ _ h.0 h.1 h.2 h.3 (each_text names (λ i. k (suc i)))

  -- the texts of a table's symbols are those of their trees
  pub entities_are : Linked a.scopes → Sound a → (table : TableId) → is_root table ≡ false → map symbol_text (symbol_trees a table) ≡ entity_texts a table
  entities_are links h table r =
      ap (map symbol_text) (symbols_are a links h table)
      ∙ each_text (names_in a.scopes table)
      (λ i n q.
      let it = seen a.scopes links n.1 table (in_place_stands a.scopes links table i n.1 (ap (option_map (λ (z : List ℕ × SymId). z.1)) q)) in
      let s = no_unit it.entry.name it.entry.what (h.units n.1 it.entry it.live ∙ ap is_root it.table ∙ r) in
      (it.entry, s.0, it.live, s.1))

  pub function_text : Linked a.scopes → Sound a → (name : List ℕ) (access : ℕ) (dummies : List SymId) (result : Option SymId) (simple : ℕ) (table : TableId) (body : List StmtId) → is_root table ≡ false
      → text (tree name (y.Function access dummies result simple table body))
      ≡ node (codes "Function") (name ∷ decimal access ∷ paths_text (map (path a) dummies) ∷ optional (option_map path_text (option_map (path a) result)) ∷ decimal simple ∷ listed (entity_texts a table) ∷ listed (map stmt_text (map (stmt_tree a (path a)) body)) ∷ [])
  function_text links h name access dummies result simple table body r =
      symbol_text-Function name access (map (path a) dummies) (option_map (path a) result) simple (symbol_trees a table) (map (stmt_tree a (path a)) body)
      ∙ ap (λ ts. symbol_layer (SymbolTree-F.Function name access (map (path a) dummies) (option_map (path a) result) simple ts (map (stmt_tree a (path a)) body))) (entities_are links h table r)

  pub struct_text : Linked a.scopes → Sound a → (name : List ℕ) (access : ℕ) (table : TableId) → is_root table ≡ false
      → text (tree name (y.Struct access table)) ≡ node (codes "Struct") (name ∷ decimal access ∷ listed (entity_texts a table) ∷ [])
  struct_text links h name access table r =
      symbol_text-Struct name access (symbol_trees a table) ∙ ap (λ ts. symbol_layer (SymbolTree-F.Struct name access ts)) (entities_are links h table r)

  -- a unit is no symbol of a unit
  pub unit_text_none : (name : List ℕ) (x : Symbol) → is_unit x ≡ true → text (tree name x) ≡ stmt_text (stmt.End 0)
  unit_text_none name (y.Program source deps table body) e = refl
  unit_text_none name (y.Module source deps table) e = refl
  unit_text_none name (y.Function access dummies result simple table body) e = absurd (true≢false (sym e))
  unit_text_none name (y.Variable access ty storage intent init) e = absurd (true≢false (sym e))
  unit_text_none name (y.Struct access table) e = absurd (true≢false (sym e))
  unit_text_none name (y.Generic access specifics) e = absurd (true≢false (sym e))
  unit_text_none name (y.External access home original) e = absurd (true≢false (sym e))

  map_twice : {A B C : Type 0} (f : B → C) (g : A → B) (xs : List A) → map f (map g xs) ≡ map (λ x. f (g x)) xs
  map_twice f g [] = refl
  map_twice f g (x ∷ xs) = ap (λ t. f (g x) ∷ t) (map_twice f g xs)

  abbrev on_line : Text → Text
  on_line s = joined (s ∷ codes "\n" ∷ [])

  pub lines_are : Linked a.scopes → Sound a → (table : TableId) → is_root table ≡ false → map symbol_line (symbol_trees a table) ≡ entity_lines a table
  lines_are links h table r =
      sym (map_twice on_line symbol_text (symbol_trees a table))
      ∙ ap (map on_line) (entities_are links h table r)
      ∙ map_twice on_line (λ e. entity_text a e.1) (names_in a.scopes table)

-- what stands at a place, by a part of what is listed there
pub listed_at : {A B C : Type 0} (f : B → C) (g : A → B) (xs : List A) (i : ℕ) (y : B) → option_map g (slice_get xs i) ≡ Some y → slice_get (map (λ x. f (g x)) xs) i ≡ Some (f y)
listed_at f g [] i y e = absurd (none_some y e)
listed_at f g (x ∷ xs) zero y e = ap (option_map f) e
listed_at f g (x ∷ xs) (suc i) y e = listed_at f g xs i y e
