use Rattle.std.proofs.Common.{sym, ap, subst, ◌∙◌, length, arith, Some, None, [], ◌∷◌, ◌++◌}
use Rattle.symtab_arena.specs.Answers.{MayDeclare}
use Rattle.symtab_arena.specs.Scopes.{HasTable}
use Rattle.symtab_arena.proofs.ChangeLemmas.{declared_keeps}
use Rattle.symtab_arena.proofs.arena.Arena.add.Goals as goal

pub invariant_of-self-2 : goal.invariant_of-self-2
invariant_of-self-2 g c =
    declared_keeps (record { tables = c.self.inside.tables.items; symbols = c.self.inside.symbols.items })
    c.args.table c.args.place c.args.name.now c.args.what
    c.self.invariant.0
    (subst (λ a. HasTable a c.args.table) (sym c.self.view_is) c.requires.there)
    (subst (λ a. MayDeclare a c.args.table c.args.name.now) (sym c.self.view_is) c.requires.may)
    c.insert_name.new.tables.items c.push_reserved.new.self.items c.self.inside.live c.len.result
    c.in_ok-key.key.items c.in_ok-own.own
    c.self.invariant.1
    (omega (arith, c.reserve.new.entries.ok.0, ap length c.reserve.ensures.same))
    c.in_ok-key.ensures
    (c.in_ok-own.ensures ∙ c.bytes.ensures)
    c.in_ok-insert_name.ensures.ok
    (c.push_reserved.ensures.items ∙ ap (λ xs. xs ++ Some (record { name = c.in_ok-own.own; table = c.args.table; owned = None; what = c.args.what }) ∷ []) c.reserve.ensures.same)
