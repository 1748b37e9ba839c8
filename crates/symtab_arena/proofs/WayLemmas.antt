-- The way from a table to the root.
use Rattle.std.proofs.Common.{◌≡◌, ℕ, zero, suc, ◌<◌, true, List, [], length, Option, Some, None, is_some, refl, sym, ap, ◌∙◌, inl, inr, arith}
use Rattle.std.specs.Option.{option_map_or, option_and_then, option_or}
use Rattle.lf_base.specs.declared.id.SymId.{SymId}
use Rattle.lf_base.specs.declared.id.TableId.{TableId}
use Rattle.symtab_arena.specs.Links.{Linked}
use Rattle.symtab_arena.specs.Names.{named}
use Rattle.symtab_arena.specs.Scopes.{Scopes, table_id, table_at, HasTable, symbol_in, symbol_within, symbol_seen, parent_of}
use Rattle.symtab_arena.specs.declared.table.Table.{Table}
use Rattle.symtab_arena.proofs.EntryLemmas.{same_or, none_some, there_within}
use Rattle.symtab_arena.proofs.LinkLemmas.{some_is}

module _ {K : Type 0} (a : Scopes K) (links : Linked a) where
  -- only a table that is there has a parent
  pub has_parent : (t p : TableId) → parent_of a t ≡ Some p → HasTable a t
  has_parent t p e = by (table_at a t) e
    where
      by : (o : Option Table) → option_and_then (λ (x : Table). x.parent) o ≡ Some p → is_some o ≡ true
      by None h = absurd (none_some p h)
      by (Some x) h = refl

  -- the numbers fall on the way
  pub parent_falls : (t p : TableId) → parent_of a t ≡ Some p → p.0 < t.0
  parent_falls t p e =
      elim (same_or t.0 0) [
        | inl z ↦ absurd (none_some p (sym links.root_parent ∙ ap (parent_of a) (ap table_id (sym z)) ∙ e))
        | inr d ↦
            let o = links.owners t (has_parent t p e) d in
            let number = ap (λ (x : TableId). x.0) (some_is p o.symbol.table (sym e ∙ o.parent_is)) in
            let falls = o.falls in
            omega arith
      ]

  module _ (name : List ℕ) where
    on_way : (n m : ℕ) (t : TableId) → ((p : TableId) → parent_of a t ≡ Some p → symbol_within a n p name ≡ symbol_within a m p name)
        → (o : Option TableId) → parent_of a t ≡ o → option_and_then (λ p. symbol_within a n p name) o ≡ option_and_then (λ p. symbol_within a m p name) o
    on_way n m t h None e = refl
    on_way n m t h (Some p) e = h p e

    -- more steps than the number of the table change nothing
    pub enough : (n m : ℕ) (t : TableId) → t.0 < n → t.0 < m → symbol_within a n t name ≡ symbol_within a m t name
    enough zero m t h k = absurd (omega arith)
    enough (suc n) zero t h k = absurd (omega arith)
    enough (suc n) (suc m) t h k =
        ap (option_or (symbol_in a t name))
        (on_way n m t (λ p e. enough n m p (let f = parent_falls t p e in omega arith) (let f = parent_falls t p e in omega arith)) (parent_of a t) refl)

    nothing : (n : ℕ) (t : TableId) → table_at a t ≡ None → symbol_within a n t name ≡ None
    nothing zero t e = refl
    nothing (suc n) t e =
        ap (λ o. option_or (named name (option_map_or (λ (x : Table). x.names) o [])) (option_and_then (λ p. symbol_within a n p name) (option_and_then (λ (x : Table). x.parent) o))) e

    -- what a name means is its symbol in the table, else what it means in the parent
    pub symbol_seen_is : (t : TableId) → symbol_seen a t name ≡ option_or (symbol_in a t name) (option_and_then (λ p. symbol_seen a p name) (parent_of a t))
    symbol_seen_is t = by (table_at a t) refl
      where
        by : (o : Option Table) → table_at a t ≡ o → symbol_seen a t name ≡ option_or (symbol_in a t name) (option_and_then (λ p. symbol_seen a p name) (parent_of a t))
        by None e =
            nothing (length a.tables) t e
            ∙ sym (ap (λ o. option_or (named name (option_map_or (λ (x : Table). x.names) o [])) (option_and_then (λ p. symbol_seen a p name) (option_and_then (λ (x : Table). x.parent) o))) e)
        by (Some x) e =
            let n = there_within a.tables t.0 (ap is_some e) in
            enough (length a.tables) (suc (length a.tables)) t n (omega arith)

    pub symbol_seen_here : (t : TableId) (s : SymId) → symbol_in a t name ≡ Some s → symbol_seen a t name ≡ Some s
    symbol_seen_here t s e = symbol_seen_is t ∙ ap (λ o. option_or o (option_and_then (λ p. symbol_seen a p name) (parent_of a t))) e

    pub symbol_seen_above : (t : TableId) → symbol_in a t name ≡ None → symbol_seen a t name ≡ option_and_then (λ p. symbol_seen a p name) (parent_of a t)
    symbol_seen_above t e = symbol_seen_is t ∙ ap (λ o. option_or o (option_and_then (λ p. symbol_seen a p name) (parent_of a t))) e
