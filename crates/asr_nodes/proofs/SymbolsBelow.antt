-- The symbols of a table, from those of the tables in it: no bound on the depth is left.
use Rattle.std.proofs.Common.{◌≡◌, ℕ, zero, suc, ◌+◌, ◌-◌, ◌<◌, ◌≤◌, List, [], ◌∷◌, ◌++◌, map, length, take, drop, slice_get, Option, Some, None, refl, sym, ap, subst, ◌∙◌, arith, append-nil, append_assoc}
use Rattle.std.specs.Option.{option_map, option_map_or, option_and_then}
use Rattle.lf_base.specs.declared.id.SymId.{SymId}
use Rattle.lf_base.specs.declared.id.TableId.{TableId}
use Rattle.symtab_arena.specs.Links.{Linked}
use Rattle.symtab_arena.specs.Names.{Names}
use Rattle.symtab_arena.specs.Scopes.{symbol_at, symbol_in_place, names_in, owned_by}
use Rattle.symtab_arena.specs.declared.table.Symbol.{Symbol as Entry}
use Rattle.symtab_arena.proofs.CountLemmas.{in_place_stands}
use Rattle.symtab_arena.proofs.EntryLemmas.{none_some}
use Rattle.symtab_arena.proofs.LinkLemmas.{some_is}
use Rattle.asr_nodes.specs.Nodes.{Nodes, Sound}
use Rattle.asr_nodes.specs.Visiting.{own_symbols, symbols_from, turn_list, turn_or_none, turn_symbols, turns_to_come}
use Rattle.asr_nodes.specs.Visits.{symbols_of, symbols_to, symbols_below}
use Rattle.asr_nodes.specs.declared.node.Symbol.{Symbol}
use Rattle.asr_nodes.specs.declared.symbol_visit.Turn.{Turn}
use Rattle.asr_nodes.proofs.Missing.{drop_next}
use Rattle.asr_nodes.proofs.Nested.{no_names, behind}

drop_past : {A : Type 0} (xs : List A) (i : ℕ) → length xs ≤ i → drop i xs ≡ []
drop_past [] zero l = refl
drop_past [] (suc i) l = refl
drop_past (x ∷ xs) zero l = absurd (omega (arith, l))
drop_past (x ∷ xs) (suc i) l = drop_past xs i (omega (arith, l))

module _ (a : Nodes) (links : Linked a.scopes) (h : Sound a) where
  own_same : (f g : TableId → List SymId) (o : Option TableId) → ((u : TableId) → o ≡ Some u → f u ≡ g u) → option_map_or f o [] ≡ option_map_or g o []
  own_same f g None k = refl
  own_same f g (Some u) k = k u refl

  each_same : (f g : TableId → List SymId) (names : Names) → ((i : ℕ) (n : List ℕ × SymId) → slice_get names i ≡ Some n → (u : TableId) → owned_by a.scopes n.1 ≡ Some u → f u ≡ g u) → symbols_of a f names ≡ symbols_of a g names
  each_same f g [] k = refl
  each_same f g (n ∷ names) k = λ i. n.1 ∷ (own_same f g (owned_by a.scopes n.1) (k zero n refl) i ++ each_same f g names (λ j. k (suc j)) i)

  nothing_to : (n : ℕ) (t : TableId) → length a.scopes.tables ≤ t.0 → symbols_to a n t ≡ []
  nothing_to zero t l = refl
  nothing_to (suc n) t l = ap (symbols_of a (symbols_to a n)) (no_names a links h t l)

  -- the table that a listed symbol owns comes behind the one in which the symbol stands
  deeper : (t u : TableId) (i : ℕ) (n : List ℕ × SymId) → slice_get (names_in a.scopes t) i ≡ Some n → owned_by a.scopes n.1 ≡ Some u → t.0 < u.0
  deeper t u i n listed owns = by (symbol_at a.scopes n.1) refl
    where
      none_owns : (u : TableId) → None ≡ Some u → ⊥
      none_owns u e = cc

      by : (o : Option (Entry Symbol)) → symbol_at a.scopes n.1 ≡ o → t.0 < u.0
      by None e = absurd (none_some u (sym (ap (option_and_then (λ (y : Entry Symbol). y.owned)) e) ∙ owns))
      by (Some y) e =
          behind a links h t u n.1 y
          (in_place_stands a.scopes links t i n.1 (ap (option_map (λ (z : List ℕ × SymId). z.1)) listed))
          e
          (sym (h.owned n.1 y e) ∙ sym (ap (option_and_then (λ (z : Entry Symbol). z.owned)) e) ∙ owns)

  -- more depth than there are tables behind this one changes nothing
  enough : (n m : ℕ) (t : TableId) → length a.scopes.tables ≤ n + t.0 → length a.scopes.tables ≤ m + t.0 → symbols_to a n t ≡ symbols_to a m t
  enough zero m t k l = sym (nothing_to m t (omega (arith, k)))
  enough (suc n) zero t k l = nothing_to (suc n) t (omega (arith, l))
  enough (suc n) (suc m) t k l =
      each_same (symbols_to a n) (symbols_to a m) (names_in a.scopes t)
      (λ i p q u owns. let b = deeper t u i p q owns in enough n m u (omega (arith, b, k)) (omega (arith, b, l)))

  pub symbols_are : (t : TableId) → symbols_below a t ≡ symbols_of a (symbols_below a) (names_in a.scopes t)
  symbols_are t = enough (length a.scopes.tables) (suc (length a.scopes.tables)) t (omega arith) (omega arith)

-- One step over symbols, as the stack makes it.
module _ (a : Nodes) where
  come_append : (ts us : List Turn) → turns_to_come a (ts ++ us) ≡ turns_to_come a us ++ turns_to_come a ts
  come_append [] us = sym (append-nil (turns_to_come a us))
  come_append (t ∷ ts) us = ap (λ l. l ++ turn_symbols a t) (come_append ts us) ∙ append_assoc (turns_to_come a us) (turns_to_come a ts) (turn_symbols a t)

  pub come_list : (o : Option Turn) → turns_to_come a (turn_list o) ≡ turn_or_none a o
  come_list None = refl
  come_list (Some t) = refl

  pub symbol_taken : (s : List Turn) (top : Turn) (more own : Option Turn) → turn_or_none a more ≡ symbols_from a top.table top.place → turn_or_none a own ≡ own_symbols a top.symbol
      → turns_to_come a (s ++ top ∷ []) ≡ top.symbol ∷ turns_to_come a (s ++ (turn_list more ++ turn_list own))
  symbol_taken s top more own m o =
      come_append s (top ∷ [])
      ∙ ap (λ l. top.symbol ∷ l) (sym (come_append s (turn_list more ++ turn_list own) ∙ ap (λ l. l ++ turns_to_come a s) (come_append (turn_list more) (turn_list own) ∙ (λ i. come_list own i ++ come_list more i) ∙ (λ i. o i ++ m i))))

  pub symbol_stepped : (slice stack cleared listed all new : List Turn) (top : Turn) (more own : Option Turn) → slice ≡ stack → slice ≡ take (length slice - 1) slice ++ top ∷ [] → cleared ≡ [] → listed ≡ cleared ++ turn_list more → all ≡ listed ++ turn_list own
      → new ≡ take (length stack - 1) stack ++ all → turn_or_none a more ≡ symbols_from a top.table top.place → turn_or_none a own ≡ own_symbols a top.symbol → turns_to_come a stack ≡ top.symbol ∷ turns_to_come a new
  symbol_stepped slice stack cleared listed all new top more own same split none first second put m o =
      let s = take (length stack - 1) stack in
      let was : stack ≡ s ++ top ∷ [] = subst (λ xs. xs ≡ take (length xs - 1) xs ++ top ∷ []) same split in
      let whole : all ≡ turn_list more ++ turn_list own = second ∙ ap (λ l. l ++ turn_list own) (first ∙ ap (λ l. l ++ turn_list more) none) in
      ap (turns_to_come a) was ∙ symbol_taken s top more own m o ∙ ap (λ l. top.symbol ∷ turns_to_come a l) (sym (put ∙ ap (λ l. s ++ l) whole))

  -- the first symbol of a table from a place on
  from_name : (names : Names) (place : ℕ) (id : SymId) → option_map (λ (e : List ℕ × SymId). e.1) (slice_get names place) ≡ Some id → symbols_of a (symbols_below a) (drop place names) ≡ id ∷ (own_symbols a id ++ symbols_of a (symbols_below a) (drop (place + 1) names))
  from_name names place id e = by (slice_get names place) refl e
    where
      by : (o : Option (List ℕ × SymId)) → slice_get names place ≡ o → option_map (λ (e : List ℕ × SymId). e.1) o ≡ Some id → symbols_of a (symbols_below a) (drop place names) ≡ id ∷ (own_symbols a id ++ symbols_of a (symbols_below a) (drop (place + 1) names))
      by None is k = absurd (none_some id k)
      by (Some n) is k = ap (symbols_of a (symbols_below a)) (drop_next names place n is) ∙ ap (λ i. i ∷ (own_symbols a i ++ symbols_of a (symbols_below a) (drop (place + 1) names))) (some_is n.1 id k)

  pub from_place : (t : TableId) (place : ℕ) (id : SymId) → symbol_in_place a.scopes t place ≡ Some id → turn_or_none a (Some (record { symbol = id; table = t; place = place + 1 })) ≡ symbols_from a t place
  from_place t place id e = sym (from_name (names_in a.scopes t) place id e)

  pub from_past : (t : TableId) (place : ℕ) → length (names_in a.scopes t) ≤ place → symbols_from a t place ≡ []
  from_past t place l = ap (symbols_of a (symbols_below a)) (drop_past (names_in a.scopes t) place l)

  module _ (links : Linked a.scopes) (h : Sound a) where
    pub from_first : (t : TableId) → symbols_from a t 0 ≡ symbols_below a t
    from_first t = sym (symbols_are a links h t)

    pub own_some : (id : SymId) (t : TableId) → owned_by a.scopes id ≡ Some t → symbols_from a t 0 ≡ own_symbols a id
    own_some id t e = from_first t ∙ ap (λ o. option_map_or (symbols_below a) o []) (sym e)

  pub own_none : (id : SymId) → owned_by a.scopes id ≡ None → [] ≡ own_symbols a id
  own_none id e = ap (λ o. option_map_or (symbols_below a) o []) (sym e)
