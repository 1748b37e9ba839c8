-- The trees of other units stay, where a unit stands alone.
use Rattle.std.proofs.Common.{◌≡◌, ◌≢◌, ℕ, ◌<◌, ◌≤◌, ◌==◌, if◌then◌else◌, true, false, List, [], ◌∷◌, ◌++◌, map, length, Option, Some, None, OnOk, Result, Ok, Err, refl, sym, ap, subst, ◌∙◌, inl, inr, arith, true≢false}
use Rattle.std.specs.List.{AllByRecursion}
use Rattle.std.specs.Option.{option_map_or}
use Rattle.std.proofs.lemmas.Bool.{ne_eqb}
use Rattle.lf_base.specs.declared.fault.Memory.{Memory}
use Rattle.lf_base.specs.declared.id.StmtId.{StmtId}
use Rattle.lf_base.specs.declared.id.SymId.{SymId}
use Rattle.lf_base.specs.declared.id.TableId.{TableId}
use Rattle.symtab_arena.specs.Links.{Linked}
use Rattle.symtab_arena.specs.Names.{Names, named}
use Rattle.symtab_arena.specs.Paths.{path_of}
use Rattle.symtab_arena.specs.Scopes.{symbol_at, symbol_in, names_in, table_id}
use Rattle.symtab_arena.specs.declared.table.Symbol.{Symbol as Entry}
use Rattle.symtab_arena.proofs.EntryLemmas.{same_or, none_some}
use Rattle.symtab_arena.proofs.LinkLemmas.{some_is}
use Rattle.symtab_arena.proofs.NameLemmas.{same_name_or, named_at, named_past}
use Rattle.asr_nodes.specs.Keys.{Key, stmt, stmts, chained}
use Rattle.asr_nodes.specs.Nodes.{Nodes, Sound, tree_at, stmt_tree}
use Rattle.asr_nodes.specs.OnePlace.{places_at, places, UnitStandsAlone, roots_within, unit_roots, other_roots}
use Rattle.asr_nodes.specs.Symbols.{symbol_parts, table_in, is_unit}
use Rattle.asr_nodes.specs.Units.{path, symbol_trees, unit_node, unit_tree}
use Rattle.asr_nodes.specs.Visits.{visits}
use Rattle.asr_nodes.specs.declared.node.Symbol.{Symbol}
use Rattle.asr_nodes.specs.declared.node.Symbol.TheVariants as y
use Rattle.asr_nodes.specs.declared.tree.UnitTree.TheVariants as u
use Rattle.asr_nodes.proofs.Alike.{first, last, stmts_same}
use Rattle.asr_nodes.proofs.OnePlace.{total_append}
use Rattle.pass_array_op.specs.Bodies.{LowersBody, LowersOr}
use Rattle.pass_array_op.specs.Prints.{prints}
use Rattle.pass_array_op.specs.Units.{body_of}
use Rattle.pass_array_op.proofs.Places.{body_placed}
use Rattle.pass_array_op.proofs.UnitBodies.{own_placed, unit_there}
use Rattle.pass_array_op.proofs.UnitTrees.{Kept, table_kept, each_weaker}

-- What a unit names in the root table is among what the other units name.
module _ (a : Nodes) (unit id : SymId) (other : (id.0 == unit.0) ≡ false) (key : Key) where
  abbrev roots : List ℕ × SymId → List Key
  roots e = if e.1.0 == unit.0 then [] else unit_roots a e.1

  here : (e : List ℕ × SymId) → e.1 ≡ id → roots e ≡ unit_roots a id
  here e same = ap (λ (s : SymId). if s.0 == unit.0 then [] else unit_roots a s) same ∙ ap (λ b. if b then [] else unit_roots a id) other

  among : (name : List ℕ) (names : Names) → named name names ≡ Some id → places a key (unit_roots a id) ≤ places a key (chained (map roots names))
  among name [] called = absurd (none_some id called)
  among name (e ∷ es) called =
      let t = total_append (places_at a key) (roots e) (chained (map roots es)) in
      elim (same_name_or name e.0) [
        | inl p ↦ let s = ap (places a key) (here e (some_is e.1 id (sym (named_at name e es p.1) ∙ called))) in omega (arith, t, s)
        | inr p ↦ let r = among name es (sym (named_past name e es p.1) ∙ called) in omega (arith, t, r)
      ]

module _ (a b : Nodes) (h : Sound a) (links : Linked a.scopes) (unit : SymId) (number : ℕ) (l : LowersBody a b (body_of a unit) number) (s : UnitStandsAlone a unit) where
  abbrev inside : TableId → List Key
  inside = roots_within a (length a.scopes.tables)

  none_elsewhere : (rest : List Key) → ((key : Key) → places a key rest ≤ places a key (other_roots a unit)) → AllByRecursion (λ id. places a (stmt id) rest ≡ 0) (prints a (visits a (stmts (body_of a unit))))
  none_elsewhere rest within =
      each_weaker (λ id. 0 < places a (stmt id) (unit_roots a unit)) (λ id. places a (stmt id) rest ≡ 0)
      (λ id p. let w = within (stmt id) in let o = s.once (stmt id) p in omega (arith, p, w, o))
      (prints a (visits a (stmts (body_of a unit)))) (body_placed a (body_of a unit) (unit_roots a unit) (own_placed a unit))

  two : (name : List ℕ) (x : Symbol) → (is_unit x ≡ true → Kept a b l.scopes (symbol_parts x ++ option_map_or inside (table_in x) [])) → unit_node b name x ≡ unit_node a name x
  two name (y.Program source deps table body) k =
      (λ i. Some (u.Program name source deps (table_kept a b l.scopes table (last (tree_at b (path a)) (tree_at a (path a)) (stmts body) (inside table) (k refl)) i) (map (stmt_tree b (path_of (l.scopes i))) body)))
      ∙ (λ i. Some (u.Program name source deps (symbol_trees a table) (stmts_same (tree_at b (path a)) (tree_at a (path a)) body (first (tree_at b (path a)) (tree_at a (path a)) (stmts body) (inside table) (k refl)) i)))
  two name (y.Module source deps table) k = λ i. Some (u.Module name source deps (table_kept a b l.scopes table (k refl) i))
  two name (y.Function access dummies result simple table body) k = refl
  two name (y.Variable access ty storage intent init) k = refl
  two name (y.Struct access table) k = refl
  two name (y.Generic access specifics) k = refl
  two name (y.External access home original) k = refl

  root : (id : SymId) (it : Entry Symbol) → symbol_at a.scopes id ≡ Some it → is_unit it.what ≡ true → it.table ≡ table_id 0
  root id it q is =
      elim (same_or it.table.0 0) [
        | inl z ↦ ap table_id z
        | inr d ↦ absurd (true≢false (sym is ∙ h.units id it q ∙ ne_eqb it.table.0 0 d))
      ]

  kept_roots : (id : SymId) → id.0 ≢ unit.0 → (it : Entry Symbol) → symbol_at a.scopes id ≡ Some it → is_unit it.what ≡ true → Kept a b l.scopes (unit_roots a id)
  kept_roots id d it q is =
      let called = ap (λ t. symbol_in a.scopes t it.name) (sym (root id it q is)) ∙ links.stands id it q in
      l.trees (unit_roots a id) (unit_there a h id) (none_elsewhere (unit_roots a id) (λ key. among a unit id (ne_eqb id.0 unit.0 d) key it.name (names_in a.scopes (table_id 0)) called)) (path a)

  others_stay : (id : SymId) → id.0 ≢ unit.0 → unit_tree b id ≡ unit_tree a id
  others_stay id d = ap (λ sc. option_map_or (λ (it : Entry Symbol). unit_node b it.name it.what) (symbol_at sc id) None) l.scopes ∙ by (symbol_at a.scopes id) refl
    where
      by : (o : Option (Entry Symbol)) → symbol_at a.scopes id ≡ o → option_map_or (λ (it : Entry Symbol). unit_node b it.name it.what) o None ≡ option_map_or (λ (it : Entry Symbol). unit_node a it.name it.what) o None
      by None q = refl
      by (Some it) q =
          two it.name it.what
          (λ is. subst (λ o. Kept a b l.scopes (option_map_or (λ (z : Entry Symbol). symbol_parts z.what ++ option_map_or inside (table_in z.what) []) o [])) q (kept_roots id d it q is))

pub others_stay_or : (old new : Nodes) → Sound old → Linked old.scopes → (unit : SymId) (ids : List StmtId) (number : ℕ) (r : Result (Unit {0}) Memory) → ids ≡ body_of old unit → LowersOr old new ids number r → UnitStandsAlone old unit
    → OnOk r ((id : SymId) → id.0 ≢ unit.0 → unit_tree new id ≡ unit_tree old id)
others_stay_or old new h links unit ids number (Ok z) e l s = others_stay old new h links unit number (subst (λ body. LowersBody old new body number) e l) s
others_stay_or old new h links unit ids number (Err fault) e l s = tt
