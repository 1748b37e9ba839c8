-- Units stand in the root table.
use Rattle.std.proofs.Common.{◌≡◌, ℕ, true, List, Option, Some, None, is_some, refl, sym, ap, ◌∙◌, inl, inr, true≢false}
use Rattle.std.specs.Option.{option_map, option_map_or}
use Rattle.std.proofs.lemmas.Bool.{ne_eqb}
use Rattle.lf_base.specs.declared.id.SymId.{SymId}
use Rattle.symtab_arena.specs.Scopes.{table_id, symbol_at, table_of}
use Rattle.symtab_arena.specs.declared.table.Symbol.{Symbol as Entry}
use Rattle.symtab_arena.proofs.EntryLemmas.{same_or}
use Rattle.asr_nodes.specs.Nodes.{Nodes, Sound}
use Rattle.asr_nodes.specs.Symbols.{is_unit}
use Rattle.asr_nodes.specs.Units.{IsUnit, unit_node}
use Rattle.asr_nodes.specs.declared.node.Symbol.{Symbol}
use Rattle.asr_nodes.specs.declared.node.Symbol.TheVariants as y

module _ (a : Nodes) (h : Sound a) where
  a_unit : (name : List ℕ) (x : Symbol) → is_some (unit_node a name x) ≡ true → is_unit x ≡ true
  a_unit name (y.Program source deps table body) e = refl
  a_unit name (y.Module source deps table) e = refl
  a_unit name (y.Function access dummies result simple table body) e = e
  a_unit name (y.Variable access ty storage intent init) e = e
  a_unit name (y.Struct access table) e = e
  a_unit name (y.Generic access specifics) e = e
  a_unit name (y.External access home original) e = e

  pub unit_root : (id : SymId) → IsUnit a id → table_of a.scopes id ≡ Some (table_id 0)
  unit_root id e = by (symbol_at a.scopes id) refl e
    where
      by : (o : Option (Entry Symbol)) → symbol_at a.scopes id ≡ o → is_some (option_map_or (λ (it : Entry Symbol). unit_node a it.name it.what) o None) ≡ true
          → option_map (λ (it : Entry Symbol). it.table) o ≡ Some (table_id 0)
      by None q k = absurd (true≢false (sym k))
      by (Some it) q k =
          elim (same_or it.table.0 0) [
            | inl z ↦ ap (λ n. Some (table_id n)) z
            | inr d ↦ absurd (true≢false (sym (a_unit it.name it.what k) ∙ h.units id it q ∙ ne_eqb it.table.0 0 d))
          ]
