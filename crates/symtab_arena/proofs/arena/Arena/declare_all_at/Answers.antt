use Rattle.std.proofs.Common.{sym, subst, arith}
use Rattle.symtab_arena.specs.Answers.{DeclaresEachAt}
use Rattle.symtab_arena.specs.Scopes.{Scopes}
use Rattle.symtab_arena.proofs.MovedLemmas.{declares_from}
use Rattle.symtab_arena.proofs.arena.Arena.declare_all_at.Goals as goal

pub move_before-requires-clause-there : goal.move_before-requires-clause-there
move_before-requires-clause-there g c =
    let from = c.size-from.ensures in
    let within = c.requires.within in
    let both = declares_from c.args.table c.size-from.result c.args.place (omega arith) c.args.self.now c.linked.ensures c.requires.there from
    c.args.names.items c.declare_all-declared.new.self c.declare_all-declared.result c.declare_all-declared.ensures in
    both.1.there

pub move_before-requires-clause-within : goal.move_before-requires-clause-within
move_before-requires-clause-within g c =
    let from = c.size-from.ensures in
    let within = c.requires.within in
    let both = declares_from c.args.table c.size-from.result c.args.place (omega arith) c.args.self.now c.linked.ensures c.requires.there from
    c.args.names.items c.declare_all-declared.new.self c.declare_all-declared.result c.declare_all-declared.ensures in
    both.1.within

pub move_before-requires-clause-links : goal.move_before-requires-clause-links
move_before-requires-clause-links g c =
    let from = c.size-from.ensures in
    let within = c.requires.within in
    let both = declares_from c.args.table c.size-from.result c.args.place (omega arith) c.args.self.now c.linked.ensures c.requires.there from
    c.args.names.items c.declare_all-declared.new.self c.declare_all-declared.result c.declare_all-declared.ensures in
    both.1.links

pub returns : goal.returns
returns g c =
    let from = c.size-from.ensures in
    let within = c.requires.within in
    let both = declares_from c.args.table c.size-from.result c.args.place (omega arith) c.args.self.now c.linked.ensures c.requires.there from
    c.args.names.items c.declare_all-declared.new.self c.declare_all-declared.result c.declare_all-declared.ensures in
    subst (λ (b : Scopes g.row.K.Denot). DeclaresEachAt c.args.self.now c.args.table c.args.place c.args.names.items b c.declare_all-declared.result) (sym c.move_before.ensures) both.0
