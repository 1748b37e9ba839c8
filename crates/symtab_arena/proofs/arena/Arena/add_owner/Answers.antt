use Rattle.std.proofs.Common.{sym, ap, subst, ◌∙◌, length, insert, arith, Some, [], ◌∷◌, ◌++◌}
use Rattle.symtab_arena.specs.Answers.{MayDeclare}
use Rattle.symtab_arena.specs.Changes.{with_names}
use Rattle.symtab_arena.specs.Scopes.{HasTable, symbol_id, table_id}
use Rattle.symtab_arena.proofs.ChangeLemmas.{owner_declared_keeps}
use Rattle.symtab_arena.proofs.arena.Arena.add_owner.Goals as goal

pub invariant_of-self-2 : goal.invariant_of-self-2
invariant_of-self-2 g c =
    owner_declared_keeps (record { tables = c.self.inside.tables.items; symbols = c.self.inside.symbols.items })
    c.args.table c.args.place c.args.name.now c.args.what
    c.self.invariant.0
    (subst (λ a. HasTable a c.args.table) (sym c.self.view_is) c.requires.there)
    (subst (λ a. MayDeclare a c.args.table c.args.name.now) (sym c.self.view_is) c.requires.may)
    c.push_reserved.new.self.items c.push_reserved-2.new.self.items c.self.inside.live c.len.result
    c.in_ok-key.key.items c.in_ok-own.own
    c.self.invariant.1
    (omega (arith, c.reserve.new.entries.ok.0, ap length c.reserve.ensures.same))
    c.in_ok-key.ensures
    (c.in_ok-own.ensures ∙ c.bytes.ensures)
    c.len-2.result
    (omega (arith, c.reserve-2.new.entries.ok.0, ap length c.reserve-2.ensures.same))
    (c.push_reserved.ensures.items
    ∙ ap (λ names. c.insert_name.new.tables.items ++ Some (record { parent = Some c.args.table; owner = Some (symbol_id c.len.result); names = names }) ∷ []) c.new-2.ensures
    ∙ ap (λ xs. xs ++ Some (record { parent = Some c.args.table; owner = Some (symbol_id c.len.result); names = [] }) ∷ [])
    (c.in_ok-insert_name.ensures.ok ∙ ap (λ xs. with_names xs c.args.table (λ names. insert names c.args.place (c.in_ok-key.key.items, symbol_id c.len.result))) c.reserve-2.ensures.same))
    (c.push_reserved-2.ensures.items
    ∙ ap (λ xs. xs ++ Some (record { name = c.in_ok-own.own; table = c.args.table; owned = Some (table_id c.len-2.result); what = c.args.what }) ∷ []) c.reserve.ensures.same)
