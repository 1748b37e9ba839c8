use Rattle.std.proofs.Common.{◌≡◌, Some, sym, subst, ◌∙◌}
use Rattle.symtab_arena.specs.Links.{Linked}
use Rattle.symtab_arena.specs.Scopes.{what_of}
use Rattle.asr_nodes.specs.Nodes.{Sound}
use Rattle.asr_nodes.specs.Units.{path}
use Rattle.c_printer.specs.Units.{UnitScope, IsUnitScope}
use Rattle.c_printer.proofs.Typing.{found_type, other_type}
use Rattle.c_printer.proofs.scope.Scope.type_of.Goals as goal

pub returns-then-has : goal.returns-then-has
returns-then-has c =
    c.symbol_type.ensures (path c.args.self.now.asr)
    ∙ sym
    (found_type c.args.self.now (subst (λ (u : UnitScope). IsUnitScope u) c.self.view_is c.self.invariant)
    (subst (λ (u : UnitScope). Linked u.asr.scopes) c.self.view_is (subst (λ s. Linked s) c.arena.ensures c.linked.ensures))
    (subst (λ (u : UnitScope). Sound u.asr) c.self.view_is c.sound.ensures)
    c.args.symbol c.symbol.result.now
    (c.has.ensures.own.0 c.if-has.true)
    (subst (λ (u : UnitScope). what_of u.asr.scopes c.args.symbol ≡ Some c.symbol.result.now) c.self.view_is c.symbol.ensures.node))

pub returns-else-has : goal.returns-else-has
returns-else-has c =
    sym
    (other_type c.args.self.now (subst (λ (u : UnitScope). IsUnitScope u) c.self.view_is c.self.invariant)
    (subst (λ (u : UnitScope). Linked u.asr.scopes) c.self.view_is (subst (λ s. Linked s) c.arena.ensures c.linked.ensures))
    c.args.symbol (λ e. absurd (cc (c.if-has.false, c.has.ensures.own.1 e))))
