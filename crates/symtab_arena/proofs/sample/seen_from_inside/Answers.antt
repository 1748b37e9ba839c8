use Rattle.std.proofs.Common.{ap, ◌∙◌, length, is_some}
use Rattle.symtab_arena.specs.Scopes.{table_id, table_at, names_in, symbol_seen}
use Rattle.symtab_arena.proofs.Callers.{declared_seen_other, owner_declared_scope, owner_declared_seen, owner_declared_seen_inside}
use Rattle.symtab_arena.proofs.sample.seen_from_inside.Goals as goal

pub returns : goal.returns
returns c =
    let opened = c.in_ok-scope.ensures in
    let declared = c.in_ok-declare.ensures in
    let scope = ap (λ p. p.1) opened.1 in
    let there = ap is_some ((λ i. table_at (opened.2 i) (scope i)) ∙ owner_declared_scope _ _ (length (names_in c.args.arena.now (table_id 0))) c.args.outer.now 0 c.linked.ensures c.linked.ensures.root opened.0) in
    c.lookup_up.ensures ∙ ap (λ a. symbol_seen a c.in_ok-scope.scope c.args.outer.now) declared.2
    ∙ declared_seen_other c.declare_owner.new.self c.in_ok-scope.scope (length (names_in c.declare_owner.new.self c.in_ok-scope.scope)) c.args.inner.now 1 c.linked-2.ensures there declared.0 c.in_ok-scope.scope c.args.outer.now c.requires
    ∙ (λ i. symbol_seen (opened.2 i) (scope i) c.args.outer.now)
    ∙ owner_declared_seen_inside c.args.arena.now (table_id 0) _ c.args.outer.now 0 c.linked.ensures c.linked.ensures.root opened.0 c.args.outer.now
    ∙ owner_declared_seen c.args.arena.now (table_id 0) _ c.args.outer.now 0 c.linked.ensures c.linked.ensures.root opened.0
