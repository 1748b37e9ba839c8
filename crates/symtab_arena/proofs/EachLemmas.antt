-- Declarations one behind another.
use Rattle.std.proofs.Common.{◌≡◌, ℕ, List, [], ◌∷◌, length, insert, Ok, Err, is_some, refl, sym, subst, ◌∙◌, inl, inr, arith}
use Rattle.std.specs.declared.result.Result.{Result}
use Rattle.lf_base.specs.declared.id.TableId.{TableId}
use Rattle.symtab_arena.specs.Answers.{MayDeclare, IsRefusal, DeclaresEach}
use Rattle.symtab_arena.specs.Changes.{declared_in, declared_last}
use Rattle.symtab_arena.specs.Scopes.{Scopes, table_at, HasTable, names_in, next_symbol}
use Rattle.symtab_arena.specs.declared.fault.ArenaFault.{ArenaFault}
use Rattle.symtab_arena.proofs.ChangeLemmas.{with_names-keeps}
use Rattle.symtab_arena.proofs.EntryLemmas.{some_from}

module _ {K : Type 0} (a : Scopes K) (t : TableId) where
  -- a table that is there stays
  pub table_stays : (place : ℕ) (name : List ℕ) (what : K) → HasTable a t → HasTable (declared_in a t place name what) t
  table_stays place name what there =
      let x = some_from (table_at a t) there in
      with_names-keeps a.tables t (λ names. insert names place (name, next_symbol a)) x.0 x.1 is_some refl t.0 ∙ there

  pub table_stays_last : (b : Scopes K) (name : List ℕ) (what : K) → b ≡ declared_last a t name what → HasTable a t → HasTable b t
  table_stays_last b name what same there = subst (λ (c : Scopes K). HasTable c t) (sym same) (table_stays (length (names_in a t)) name what there)

  -- after one that was declared the others are
  pub each_more : (b new : Scopes K) (e : List ℕ × K) (es : List (List ℕ × K)) (r : Result (Unit {0}) ArenaFault)
      → MayDeclare a t e.0 → b ≡ declared_last a t e.0 e.1 → DeclaresEach b t es new r → DeclaresEach a t (e ∷ es) new r
  each_more b new e es (Ok v) may same h = (may, subst (λ (c : Scopes K). DeclaresEach c t es new (Ok v)) same h)
  each_more b new e es (Err fault) may same h = inl (may, subst (λ (c : Scopes K). DeclaresEach c t es new (Err fault)) same h)

  -- at one that is refused it ends
  pub each_ends : (new : Scopes K) (e : List ℕ × K) (es : List (List ℕ × K)) (fault : ArenaFault)
      → IsRefusal a t e.0 fault → new ≡ a → DeclaresEach a t (e ∷ es) new (Err fault)
  each_ends new e es fault refused same = inr (refused, same)

  -- with none left all are declared
  pub each_done : (es : List (List ℕ × K)) → length es ≡ 0 → DeclaresEach a t es a (Ok tt)
  each_done [] none = (refl, refl)
  each_done (e ∷ es) none = absurd (omega arith)
