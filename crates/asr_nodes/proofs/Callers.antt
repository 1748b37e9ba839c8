-- For callers: what is there stays there, and which keys avoid a place, as the edits ask. `Asr::sound` gives `Sound`.
use Rattle.std.proofs.Common.{◌≡◌, ◌≢◌, ℕ, zero, suc, ◌<◌, Bool, true, List, [], ◌∷◌, length, slice_get, Some, is_some, refl, sym, ap, subst, ◌∙◌, arith, true≢false}
use Rattle.std.specs.List.{list_all}
use Rattle.std.proofs.lemmas.Bool.{and_parts, and_from}
use Rattle.lf_base.specs.declared.id.TableId.{TableId}
use Rattle.symtab_arena.specs.Links.{Linked}
use Rattle.symtab_arena.specs.Scopes.{Scopes, HasTable, symbol_at, owner_of}
use Rattle.symtab_arena.specs.declared.table.Symbol.{Symbol as Entry}
use Rattle.asr_nodes.specs.Symbols.{table_in}
use Rattle.asr_nodes.specs.declared.node.Symbol.{Symbol}
use Rattle.asr_nodes.specs.Keys.{Key, expr, stmt, Node, is_other}
use Rattle.asr_nodes.specs.Nodes.{Nodes, Sound, Extends, Replaces, HasExpr, HasStmt, node_at, node_count, tree_at, expr_tree, stmt_tree, there, avoid}
use Rattle.asr_nodes.specs.Parts.{parts}
use Rattle.asr_nodes.specs.Reading.{Path, node_tree}
use Rattle.lf_base.specs.declared.id.ExprId.{ExprId}
use Rattle.lf_base.specs.declared.id.StmtId.{StmtId}
use Rattle.lf_base.specs.declared.id.SymId.{SymId}
use Rattle.asr_nodes.specs.Walks.{passes, ends}
use Rattle.asr_nodes.proofs.Avoids as walks
use Rattle.asr_nodes.proofs.Counts.{short}
use Rattle.asr_nodes.proofs.Grows.{some_is}
use Rattle.asr_nodes.proofs.Places.{keys_of, keys_counted, keys_cover, this_or_other}
use Rattle.asr_nodes.proofs.Same.{same}
use Rattle.asr_nodes.proofs.Walks.{all_weaker, all_each, seen, ends_kept}

-- a walk that ends within any number of steps ends within the number of nodes
steps : (a : Nodes) (free : Key → Bool) (n : ℕ) (key : Key) → ends parts free (node_at a) n key ≡ true → ends parts free (node_at a) (node_count a) key ≡ true
steps a free n key e = subst (λ i. ends parts free (node_at a) i key ≡ true) (keys_counted a) (short parts free (node_at a) (keys_of a) (keys_cover a) n key e)

got : {A : Type 0} (xs : List A) (i : ℕ) → i < length xs → (x : A) × (slice_get xs i ≡ Some x)
got [] i l = absurd (omega arith)
got (y ∷ ys) zero l = (y, refl)
got (y ∷ ys) (suc i) l = got ys i (omega arith)

-- After `build_symbol` and `replace_symbol`, which say that other fields are as they were.
pub scopes_extend : (a : Nodes) (scopes : Scopes Symbol) → Extends a (record a { scopes = scopes })
scopes_extend a scopes = record { nodes = λ key x e. e; trees = λ key x e path. refl }

-- After `build_expr` and `build_stmt`.
module _ (old new : Nodes) (more : Extends old new) where
  -- what was there is there,
  pub there_still : (keys : List Key) → there old keys ≡ true → there new keys ≡ true
  there_still keys =
      all_weaker (λ key. is_some (node_at old key)) (λ key. is_some (node_at new key))
      (λ key e. let x = some_is (node_at old key) e in ap is_some (more.nodes key x.0 x.1)) keys

  -- has the tree that it had,
  pub expr_kept : (id : ExprId) → HasExpr old id → (path : SymId → Path) → expr_tree new path id ≡ expr_tree old path id
  expr_kept id l path = let x = got old.exprs id.0 l in more.trees (expr id) x.0 x.1 path

  pub stmt_kept : (id : StmtId) → HasStmt old id → (path : SymId → Path) → stmt_tree new path id ≡ stmt_tree old path id
  stmt_kept id l path = let x = got old.stmts id.0 l in more.trees (stmt id) x.0 x.1 path

  -- and what avoided a place avoids it.
  pub avoid_still : (at : Key) (keys : List Key) → avoid old at keys ≡ true → avoid new at keys ≡ true
  avoid_still at keys =
      all_weaker (ends parts (is_other at) (node_at old) (node_count old)) (ends parts (is_other at) (node_at new) (node_count new))
      (λ key e.
      steps new (is_other at) (node_count old) key
      (ends_kept parts (is_other at) (is_other at) (node_at old) (node_at new) (λ k y _ d. more.nodes k y d) (λ _ t. t) (node_count old) (node_count old) key (omega arith) e))
      keys

module _ (a : Nodes) (at : Key) where
  -- The parts of the node that stands at a place avoid it,
  pub own_parts_avoid : Sound a → (x : Node at) → node_at a at ≡ Some x → avoid a at (parts at x) ≡ true
  own_parts_avoid h x e = walks.own_parts_avoid parts (node_at a) at (is_other at) (this_or_other at) (node_count a) h.founded x e

  -- a node that stands elsewhere avoids it where its parts do,
  pub node_avoids : (key : Key) (x : Node key) → node_at a key ≡ Some x → is_other at key ≡ true → avoid a at (parts key x) ≡ true → avoid a at (key ∷ []) ≡ true
  node_avoids key x e t h =
      and_from _ _
      (steps a (is_other at) (suc (node_count a)) key
      (and_from _ _ t (subst (λ o. passes (λ y. list_all (ends parts (is_other at) (node_at a) (node_count a)) (parts key y)) o ≡ true) (sym e) h)))
      refl

  -- and what avoids a place is there.
  pub avoids_there : (keys : List Key) → avoid a at keys ≡ true → there a keys ≡ true
  avoids_there keys = all_weaker (ends parts (is_other at) (node_at a) (node_count a)) (λ key. is_some (node_at a key)) (by (node_count a)) keys
    where
      by : (n : ℕ) (key : Key) → ends parts (is_other at) (node_at a) n key ≡ true → is_some (node_at a key) ≡ true
      by zero key e = absurd (true≢false (sym e))
      by (suc n) key e = let z = seen (λ x. list_all (ends parts (is_other at) (node_at a) n) (parts key x)) (node_at a key) (and_parts _ _ e).1 in ap is_some z.1

-- After `replace` and `replace_expr`.
module _ (old new : Nodes) (at : Key) (x : Node at) (edit : Replaces old new at x) where
  holds_apart : (key : Key) (y : Node key) → is_other at key ≡ true → node_at old key ≡ Some y → node_at new key ≡ Some y
  holds_apart key y t e = (edit.others key y t e).node

  avoids_one : (n : ℕ) (key : Key) → ends parts (is_other at) (node_at old) n key ≡ true → is_some (node_at new key) ≡ true
  avoids_one zero key e = absurd (true≢false (sym e))
  avoids_one (suc n) key e =
      let b = and_parts _ _ e in
      let z = seen (λ x. list_all (ends parts (is_other at) (node_at old) n) (parts key x)) (node_at old key) b.1 in
      ap is_some (holds_apart key z.0 b.0 z.1)

  -- What avoided the place is there,
  pub apart_there : (keys : List Key) → avoid old at keys ≡ true → there new keys ≡ true
  apart_there keys = all_weaker (ends parts (is_other at) (node_at old) (node_count old)) (λ key. is_some (node_at new key)) (avoids_one (node_count old)) keys

  -- avoids it,
  pub apart_still : (keys : List Key) → avoid old at keys ≡ true → avoid new at keys ≡ true
  apart_still keys =
      all_weaker (ends parts (is_other at) (node_at old) (node_count old)) (ends parts (is_other at) (node_at new) (node_count new))
      (λ key e.
      steps new (is_other at) (node_count old) key
      (ends_kept parts (is_other at) (is_other at) (node_at old) (node_at new) holds_apart (λ _ t. t) (node_count old) (node_count old) key (omega arith) e))
      keys

  -- and a node whose parts avoided it stands for what it stood for.
  pub apart_node : (path : SymId → Path) (key : Key) (y : Node key) → avoid old at (parts key y) ≡ true → node_tree path (tree_at new path) key y ≡ node_tree path (tree_at old path) key y
  apart_node path key y e =
      same path (tree_at new path) (tree_at old path) key y
      (all_each (ends parts (is_other at) (node_at old) (node_count old)) (λ j. tree_at new path j ≡ tree_at old path j) (λ j t. edit.apart j (and_from _ _ t refl) path) (parts key y) e)

-- The tables of units, functions, subroutines and types: each table but the root is owned by the symbol that names it.
module _ (a : Nodes) (h : Sound a) (links : Linked a.scopes) where
  pub named_is_owned : (id : SymId) (it : Entry Symbol) (t : TableId) → symbol_at a.scopes id ≡ Some it → table_in it.what ≡ Some t → owner_of a.scopes t ≡ Some id
  named_is_owned id it t live e = links.owned id it t live (h.owned id it live ∙ e)

  pub owner_names : (t : TableId) → HasTable a.scopes t → t.0 ≢ 0 → (id : SymId) × (it : Entry Symbol) × (owner_of a.scopes t ≡ Some id) × (symbol_at a.scopes id ≡ Some it) × (table_in it.what ≡ Some t)
  owner_names t here other = let o = links.owners t here other in (o.owner, o.symbol, o.owner_is, o.live, sym (h.owned o.owner o.symbol o.live) ∙ o.owns)
