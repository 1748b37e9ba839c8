-- The statements of a unit itself stand in its trees, and what the units name is there.
use Rattle.std.proofs.Common.{◌≡◌, ℕ, zero, suc, ◌≤◌, ◌==◌, if◌then◌else◌, Bool, true, false, List, [], ◌∷◌, ◌++◌, map, length, Option, Some, None, is_some, OnOk, Result, Ok, Err, refl, sym, subst, ◌∙◌, arith}
use Rattle.std.proofs.lemmas.Bool.{and_parts, and_from}
use Rattle.std.specs.Option.{option_map_or}
use Rattle.lf_base.specs.declared.fault.Memory.{Memory}
use Rattle.lf_base.specs.declared.id.StmtId.{StmtId}
use Rattle.lf_base.specs.declared.id.SymId.{SymId}
use Rattle.lf_base.specs.declared.id.TableId.{TableId}
use Rattle.symtab_arena.specs.Names.{Names}
use Rattle.symtab_arena.specs.Scopes.{symbol_at, names_in, table_id}
use Rattle.symtab_arena.specs.declared.table.Symbol.{Symbol as Entry}
use Rattle.asr_nodes.specs.Keys.{Key, stmts, chained}
use Rattle.asr_nodes.specs.Nodes.{Nodes, Sound, node_at, there}
use Rattle.asr_nodes.specs.OnePlace.{places_at, places, StandAlone, UnitStandsAlone, entry_roots, roots_within, unit_roots, other_roots}
use Rattle.asr_nodes.specs.Symbols.{symbol_parts, table_in}
use Rattle.asr_nodes.specs.declared.node.Symbol.{Symbol}
use Rattle.asr_nodes.specs.declared.node.Symbol.TheVariants as y
use Rattle.asr_nodes.proofs.OnePlace.{total_append}
use Rattle.pass_array_op.specs.Bodies.{LowersBody, LowersOr}
use Rattle.pass_array_op.specs.Units.{own_body, body_of}

module _ (a : Nodes) (inside : TableId → List Key) (key : Key) where
  body_placed : (x : Symbol) → places a key (stmts (own_body x)) ≤ places a key (symbol_parts x ++ option_map_or inside (table_in x) [])
  body_placed (y.Program source deps table body) = let t = total_append (places_at a key) (stmts body) (inside table) in omega (arith, t)
  body_placed (y.Module source deps table) = omega arith
  body_placed (y.Function access dummies result simple table body) = omega arith
  body_placed (y.Variable access ty storage intent init) = omega arith
  body_placed (y.Struct access table) = omega arith
  body_placed (y.Generic access specifics) = omega arith
  body_placed (y.External access home original) = omega arith

  entry_placed : (o : Option (Entry Symbol)) → places a key (stmts (option_map_or (λ (e : Entry Symbol). own_body e.what) o [])) ≤ places a key (entry_roots a inside o)
  entry_placed None = omega arith
  entry_placed (Some e) = body_placed e.what

module _ (a : Nodes) (unit : SymId) where
  pub own_placed : (key : Key) → places a key (stmts (body_of a unit)) ≤ places a key (unit_roots a unit)
  own_placed key = entry_placed a (roots_within a (length a.scopes.tables)) key (symbol_at a.scopes unit)

  pub own_once : UnitStandsAlone a unit → (key : Key) → places a key (stmts (body_of a unit)) ≤ 1
  own_once h key = by (places a key (unit_roots a unit)) refl (own_placed key)
    where
      by : (n : ℕ) → places a key (unit_roots a unit) ≡ n → places a key (stmts (body_of a unit)) ≤ places a key (unit_roots a unit) → places a key (stmts (body_of a unit)) ≤ 1
      by zero e l = omega (arith, e, l)
      by (suc n) e l = let o = h.once key (omega (arith, e)) in omega (arith, o, l)

-- what the symbols name is there
module _ (a : Nodes) (h : Sound a) where
  both_there : (xs ys : List Key) → there a xs ≡ true → there a ys ≡ true → there a (xs ++ ys) ≡ true
  both_there [] ys e f = f
  both_there (x ∷ xs) ys e f = let p = and_parts (is_some (node_at a x)) (there a xs) e in and_from (is_some (node_at a x)) (there a (xs ++ ys)) p.0 (both_there xs ys p.1 f)

  maybe_there : (inside : TableId → List Key) → ((t : TableId) → there a (inside t) ≡ true) → (o : Option TableId) → there a (option_map_or inside o []) ≡ true
  maybe_there inside k None = refl
  maybe_there inside k (Some t) = k t

  entry_there : (inside : TableId → List Key) → ((t : TableId) → there a (inside t) ≡ true) → (id : SymId) (o : Option (Entry Symbol)) → symbol_at a.scopes id ≡ o → there a (entry_roots a inside o) ≡ true
  entry_there inside k id None q = refl
  entry_there inside k id (Some e) q = both_there (symbol_parts e.what) (option_map_or inside (table_in e.what) []) (h.named id e q) (maybe_there inside k (table_in e.what))

  within_there : (n : ℕ) (t : TableId) → there a (roots_within a n t) ≡ true
  within_there zero t = refl
  within_there (suc n) t = each (within_there n) (names_in a.scopes t)
    where
      each : ((u : TableId) → there a (roots_within a n u) ≡ true) → (names : Names) → there a (chained (map (entry_roots a (roots_within a n)) (map (λ e. symbol_at a.scopes e.1) names))) ≡ true
      each k [] = refl
      each k (x ∷ xs) =
          both_there (entry_roots a (roots_within a n) (symbol_at a.scopes x.1)) (chained (map (entry_roots a (roots_within a n)) (map (λ e. symbol_at a.scopes e.1) xs)))
          (entry_there (roots_within a n) k x.1 (symbol_at a.scopes x.1) refl) (each k xs)

  pub unit_there : (id : SymId) → there a (unit_roots a id) ≡ true
  unit_there id = entry_there (roots_within a (length a.scopes.tables)) (within_there (length a.scopes.tables)) id (symbol_at a.scopes id) refl

  pub others_there : (unit : SymId) → there a (other_roots a unit) ≡ true
  others_there unit = each (names_in a.scopes (table_id 0))
    where
      one : (b : Bool) (id : SymId) → there a (if b then [] else unit_roots a id) ≡ true
      one true id = refl
      one false id = unit_there id

      each : (names : Names) → there a (chained (map (λ e. if e.1.0 == unit.0 then [] else unit_roots a e.1) names)) ≡ true
      each [] = refl
      each (x ∷ xs) =
          both_there (if x.1.0 == unit.0 then [] else unit_roots a x.1) (chained (map (λ e. if e.1.0 == unit.0 then [] else unit_roots a e.1) xs))
          (one (x.1.0 == unit.0) x.1) (each xs)

-- with the same symbols, units name the same
module _ (a b : Nodes) (e : b.scopes ≡ a.scopes) where
  roots_same : (n : ℕ) (t : TableId) → roots_within b n t ≡ roots_within a n t
  roots_same zero t = refl
  roots_same (suc n) t = λ i. chained (map (entry_roots a (λ u. roots_same n u i)) (map (λ x. symbol_at (e i) x.1) (names_in (e i) t)))

  unit_same : (id : SymId) → unit_roots b id ≡ unit_roots a id
  unit_same id =
      (λ i. entry_roots a (λ u. roots_within b (length (e i).tables) u) (symbol_at (e i) id))
      ∙ (λ i. entry_roots a (λ u. roots_same (length a.scopes.tables) u i) (symbol_at a.scopes id))

  others_same : (unit : SymId) → other_roots b unit ≡ other_roots a unit
  others_same unit = λ i. chained (map (λ x. if x.1.0 == unit.0 then [] else unit_same x.1 i) (names_in (e i) (table_id 0)))

  pub still_alone : (unit : SymId) → StandAlone b (unit_roots a unit) (other_roots a unit) → UnitStandsAlone b unit
  still_alone unit s = subst (λ xs. StandAlone b xs (other_roots b unit)) (sym (unit_same unit)) (subst (λ xs. StandAlone b (unit_roots a unit) xs) (sym (others_same unit)) s)

pub unit_stays_alone : (old new : Nodes) → Sound old → (unit : SymId) (number : ℕ) → LowersBody old new (body_of old unit) number → UnitStandsAlone old unit → UnitStandsAlone new unit
unit_stays_alone old new h unit number l s =
    still_alone old new l.scopes unit (l.alone (unit_roots old unit) (other_roots old unit) (unit_there old h unit) (others_there old h unit) (own_placed old unit) s)

pub unit_alone_or : (old new : Nodes) → Sound old → (unit : SymId) (ids : List StmtId) (number : ℕ) (r : Result (Unit {0}) Memory) → ids ≡ body_of old unit → LowersOr old new ids number r → UnitStandsAlone old unit
    → OnOk r (UnitStandsAlone new unit)
unit_alone_or old new h unit ids number (Ok u) e l s = unit_stays_alone old new h unit number (subst (λ body. LowersBody old new body number) e l) s
unit_alone_or old new h unit ids number (Err fault) e l s = tt
