-- Declarations from a place on, made of declarations at the end and one move.
use Rattle.std.proofs.Common.{◌≡◌, ℕ, suc, ◌+◌, ◌-◌, ◌≤◌, List, [], ◌∷◌, length, insert, Some, Ok, Err, is_some, refl, sym, ap, subst, ◌∙◌, inl, inr, arith}
use Rattle.std.proofs.lemmas.List.Edits.{length-insert}
use Rattle.std.specs.Option.{option_map_or}
use Rattle.std.specs.declared.result.Result.{Result}
use Rattle.lf_base.specs.declared.id.TableId.{TableId}
use Rattle.symtab_arena.specs.Answers.{MayDeclare, IsRefusal, DeclaresEach, DeclaresEachAt}
use Rattle.symtab_arena.specs.Changes.{declared_in, declared_last, moved_in}
use Rattle.symtab_arena.specs.Links.{Linked}
use Rattle.symtab_arena.specs.Names.{Names, moved_before}
use Rattle.symtab_arena.specs.Scopes.{Scopes, next_symbol, table_at, HasTable, names_in, symbol_in}
use Rattle.symtab_arena.specs.declared.fault.ArenaFault.{ArenaFault}
use Rattle.symtab_arena.specs.declared.fault.ArenaFault.TheVariants.{Twice, Full, Memory}
use Rattle.symtab_arena.specs.declared.table.Table.{Table}
use Rattle.symtab_arena.proofs.BulkLemmas.{with_names-same, with_names-twice}
use Rattle.symtab_arena.proofs.ChangeLemmas.{adds, Linked-declared, entry_at-with_names_same, with_names-keeps}
use Rattle.symtab_arena.proofs.EachLemmas.{table_stays}
use Rattle.symtab_arena.proofs.EntryLemmas.{some_from}
use Rattle.symtab_arena.proofs.NameLemmas.{same_name_or}
use Rattle.symtab_arena.proofs.TurnLemmas.{moved-insert, moved-none}

module _ {K : Type 0} (t : TableId) (from to : ℕ) (order : to ≤ from) where
  abbrev moved : Scopes K → Scopes K
  moved c = moved_in c t from to

  -- A state whose symbols of the table may be moved.
  pub record IsMovable (c : Scopes K) : Type 0 where
    pub linked : Linked c
    pub there : HasTable c t
    pub links : Linked (moved c)
    pub same : (n : List ℕ) → symbol_in (moved c) t n ≡ symbol_in c t n
    pub within : from ≤ length (names_in c t)

  pub moves_none : (a : Scopes K) → Linked a → HasTable a t → from ≡ length (names_in a t) → (moved a ≡ a) × IsMovable a
  moves_none a linked there all =
      let x = some_from (table_at a t) there in
      let names : names_in a t ≡ x.0.names = ap (λ o. option_map_or (λ (v : Table). v.names) o []) x.1 in
      let stays : moved_before from to x.0.names ≡ x.0.names =
      ap (λ n. moved_before n to x.0.names) (all ∙ ap length names) ∙ moved-none x.0.names to in
      let is : moved a ≡ a = λ i. record { tables = with_names-same a.tables t x.0 x.1 (moved_before from to) stays i; symbols = a.symbols } in (
        is,
        record {
          linked = linked;
          there = there;
          links = subst (λ (c : Scopes K). Linked c) (sym is) linked;
          same = λ n. ap (λ (c : Scopes K). symbol_in c t n) is;
          within = omega arith;
        },
      )

  module _ (c : Scopes K) (movable : IsMovable c) where
    -- a refusal is one of the moved too
    refused : (name : List ℕ) (fault : ArenaFault) → IsRefusal c t name fault → IsRefusal (moved c) t name fault
    refused name (Twice s) h = movable.same name ∙ h
    refused name Full h = (movable.same name ∙ h.0, h.1)
    refused name Memory h = record { new_name = movable.same name ∙ h.new_name; number_left = h.number_left }

    module _ (name : List ℕ) (what : K) (may : MayDeclare c t name) where
      abbrev place : ℕ
      place = to + (length (names_in c t) - from)

      abbrev last : Scopes K
      last = declared_last c t name what

      abbrev at : Scopes K
      at = declared_in (moved c) t place name what

      x : (x : Table) × (table_at c t ≡ Some x)
      x = some_from (table_at c t) movable.there

      abbrev put : ℕ → Names → Names
      put n names = insert names n (name, next_symbol c)

      there_moved : HasTable (moved c) t
      there_moved = with_names-keeps c.tables t (moved_before from to) x.0 x.1 is_some refl t.0 ∙ movable.there

      may_moved : MayDeclare (moved c) t name
      may_moved = record { new_name = movable.same name ∙ may.new_name; number_left = may.number_left }

      names_same : moved_before from to (put (length (names_in c t)) x.0.names) ≡ put place (moved_before from to x.0.names)
      names_same =
          subst (λ names. moved_before from to (put (length (names_in c t)) names) ≡ put place (moved_before from to names))
          (ap (λ o. option_map_or (λ (v : Table). v.names) o []) x.1)
          (moved-insert (names_in c t) from to order movable.within (name, next_symbol c))

      tables_same : (moved last).tables ≡ at.tables
      tables_same =
          with_names-twice c.tables t x.0 x.1 (put (length (names_in c t))) (moved_before from to) (λ names. put place (moved_before from to names)) names_same
          ∙ sym (with_names-twice c.tables t x.0 x.1 (moved_before from to) (put place) (λ names. put place (moved_before from to names)) refl)

      -- to declare last and to move is to move and to declare at the place behind those that moved
      moves : moved last ≡ at
      moves = λ i. record { tables = tables_same i; symbols = last.symbols }

      names_last : names_in last t ≡ put (length (names_in c t)) (names_in c t)
      names_last =
          ap (λ o. option_map_or (λ (v : Table). v.names) o []) (entry_at-with_names_same c.tables t (put (length (names_in c t))) x.0 x.1)
          ∙ sym (ap (λ o. put (length (names_in c t)) (option_map_or (λ (v : Table). v.names) o [])) x.1)

      one_longer : length (names_in last t) ≡ length (names_in c t) + 1
      one_longer = ap length names_last ∙ length-insert (names_in c t) (length (names_in c t)) (name, next_symbol c) (omega arith)

      movable_more : IsMovable last
      movable_more =
          let more = adds c t (length (names_in c t)) name what movable.linked movable.there may in
          let more_moved = adds (moved c) t place name what movable.links there_moved may_moved in
          record {
            linked = Linked-declared c t (length (names_in c t)) name what movable.linked movable.there may;
            there = table_stays c t (length (names_in c t)) name what movable.there;
            links = subst (λ (d : Scopes K). Linked d) (sym moves) (Linked-declared (moved c) t place name what movable.links there_moved may_moved);
            same = λ n.
                ap (λ (d : Scopes K). symbol_in d t n) moves
                ∙ elim (same_name_or n name) [
                  | inl p ↦ ap (symbol_in at t) p.1 ∙ more_moved.named_now ∙ sym (ap (symbol_in last t) p.1 ∙ more.named_now)
                  | inr p ↦ more_moved.named_others t n (λ _ q. p.1 q) ∙ movable.same n ∙ sym (more.named_others t n (λ _ q. p.1 q))
                ];
            within = let a = one_longer in let b = movable.within in omega arith;
          }

      onward : (es : List (List ℕ × K)) (new : Scopes K) (r : Result (Unit {0}) ArenaFault)
          → DeclaresEachAt (moved last) t (to + (length (names_in last t) - from)) es new r → DeclaresEachAt at t (suc place) es new r
      onward es new r h =
          let behind : to + (length (names_in last t) - from) ≡ suc place = let a = one_longer in let b = movable.within in omega arith in
          subst (λ (d : Scopes K × ℕ). DeclaresEachAt d.0 t d.1 es new r) (λ i. (moves i, behind i)) h

  pub each_moved : (es : List (List ℕ × K)) (c new : Scopes K) (r : Result (Unit {0}) ArenaFault) → IsMovable c → DeclaresEach c t es new r
      → DeclaresEachAt (moved c) t (to + (length (names_in c t) - from)) es (moved new) r × IsMovable new
  each_moved [] c new r movable h = ((h.0, ap moved h.1), subst (λ (d : Scopes K). IsMovable d) (sym h.1) movable)
  each_moved (e ∷ es) c new (Ok v) movable h =
      let rest = each_moved es (declared_last c t e.0 e.1) new (Ok v) (movable_more c movable e.0 e.1 h.0) h.1 in
      ((may_moved c movable e.0 e.1 h.0, onward c movable e.0 e.1 h.0 es (moved new) (Ok v) rest.0), rest.1)
  each_moved (e ∷ es) c new (Err fault) movable (inl h) =
      let rest = each_moved es (declared_last c t e.0 e.1) new (Err fault) (movable_more c movable e.0 e.1 h.0) h.1 in
      (inl (may_moved c movable e.0 e.1 h.0, onward c movable e.0 e.1 h.0 es (moved new) (Err fault) rest.0), rest.1)
  each_moved (e ∷ es) c new (Err fault) movable (inr h) =
      (inr (refused c movable e.0 fault h.0, ap moved h.1), subst (λ (d : Scopes K). IsMovable d) (sym h.1) movable)

  pub declares_from : (a : Scopes K) → Linked a → HasTable a t → from ≡ length (names_in a t)
      → (es : List (List ℕ × K)) (new : Scopes K) (r : Result (Unit {0}) ArenaFault) → DeclaresEach a t es new r
      → DeclaresEachAt a t to es (moved new) r × IsMovable new
  declares_from a linked there all es new r h =
      let none = moves_none a linked there all in
      let both = each_moved es a new r none.1 h in
      let start : to + (length (names_in a t) - from) ≡ to = omega arith in
      (subst (λ (d : Scopes K × ℕ). DeclaresEachAt d.0 t d.1 es (moved new) r) (λ i. (none.0 i, start i)) both.0, both.1)
