use Rattle.std.proofs.Common.{◌≡◌, ℕ, List, length, Some, is_some, sym, ap, subst, ◌∙◌}
use Rattle.lf_base.specs.declared.id.SymId.{SymId}
use Rattle.lf_base.specs.declared.id.TableId.{TableId}
use Rattle.symtab_arena.specs.Answers.{MayDeclare}
use Rattle.symtab_arena.specs.Changes.{declared_in, owner_declared_in, OwnsNoOwner}
use Rattle.symtab_arena.specs.Links.{Linked}
use Rattle.symtab_arena.specs.Scopes.{Scopes, table_id, next_symbol, next_table, HasTable, IsLive, names_in}
use Rattle.symtab_arena.proofs.ChangeLemmas.{opens, childless-declared, childless-owner_declared}
use Rattle.lf_examples_middle.proofs.arena.declare_and_remove.Goals as goal

-- a new scope with one symbol in it has no owner of a table
new_scope : (a b d : Scopes ℕ) (t table : TableId) (owner : SymId) (scope inner : List ℕ) (place later v w : ℕ)
    → Linked a → Linked b → HasTable a t → MayDeclare a t scope → MayDeclare b table inner
    → owner ≡ next_symbol a → table ≡ next_table a → b ≡ owner_declared_in a t place scope v → d ≡ declared_in b table later inner w
    → OwnsNoOwner d owner
new_scope a b d t table owner scope inner place later v w links links_now there may may_now owner_is table_is b_is d_is =
    let open_now = opens a t place scope v links there may in
    let empty : OwnsNoOwner b owner =
    subst (λ (e : Scopes ℕ). OwnsNoOwner e owner) (sym b_is)
    (subst (λ s. OwnsNoOwner (owner_declared_in a t place scope v) s) (sym owner_is) (childless-owner_declared a t place scope v links there may)) in
    let live : IsLive b owner =
    subst (λ (e : Scopes ℕ). IsLive e owner) (sym b_is)
    (subst (λ s. IsLive (owner_declared_in a t place scope v) s) (sym owner_is) (ap is_some open_now.now)) in
    let there_now : HasTable b table =
    subst (λ (e : Scopes ℕ). HasTable e table) (sym b_is)
    (subst (λ u. HasTable (owner_declared_in a t place scope v) u) (sym table_is) open_now.there) in
    subst (λ (e : Scopes ℕ). OwnsNoOwner e owner) (sym d_is) (childless-declared b table later inner w links_now there_now may_now owner live empty)

pub remove_owned-requires-clause-childless : goal.remove_owned-requires-clause-childless
remove_owned-requires-clause-childless c =
    let first = c.in_ok-owner.ensures in
    let second = c.in_ok-declare.ensures in
    new_scope c.args.arena.now c.declare_owner.new.self c.declare.new.self
    (table_id 0) c.in_ok-owner.table c.in_ok-owner.owner c.args.scope.now c.args.inner.now
    (length (names_in c.args.arena.now (table_id 0))) (length (names_in c.declare_owner.new.self c.in_ok-owner.table)) 7 8
    c.linked.ensures c.linked-2.ensures c.linked.ensures.root first.0 second.0
    (ap (λ p. p.0) first.1) (ap (λ p. p.1) first.1) first.2 second.2
