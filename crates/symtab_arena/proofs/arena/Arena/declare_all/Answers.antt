use Rattle.std.proofs.Common.{Ok, Err, sym, subst, ◌∙◌}
use Rattle.symtab_arena.specs.Answers.{DeclaresEach}
use Rattle.symtab_arena.proofs.EachLemmas.{table_stays_last, each_more, each_ends, each_done}
use Rattle.symtab_arena.proofs.arena.Arena.declare_all.Goals as goal

pub loop-name-init : goal.loop-name-init
loop-name-init g c = record {
  there = c.requires;
  onward = λ new r h. subst (λ es. DeclaresEach c.args.self.now c.args.table es new r) c.into_iter-name-iterator.ensures.into_iter_gives.0 h;
}

pub declare-requires : goal.declare-requires
declare-requires g c = c.loop-name.invariant.there

pub loop-name-preserved : goal.loop-name-preserved
loop-name-preserved g c =
    let declared = c.in-Ok.ensures in record {
      there = table_stays_last c.loop-name.self c.args.table c.declare.new.self c.in-Some.name c.in-Some.what declared.2 c.loop-name.invariant.there;
      onward = λ new r h.
          c.loop-name.invariant.onward new r
          (subst (λ es. DeclaresEach c.loop-name.self c.args.table es new r) (sym c.in-Some.ensures.steps.0)
          (each_more c.loop-name.self c.args.table c.declare.new.self new (c.in-Some.name, c.in-Some.what) c.next.new.self.rest.items r declared.0 declared.2 h));
    }

pub returns-in-Err : goal.returns-in-Err
returns-in-Err g c =
    let refused = c.in-Err.ensures in
    c.loop-name.invariant.onward c.declare.new.self (Err c.in-Err.fault)
    (subst (λ es. DeclaresEach c.loop-name.self c.args.table es c.declare.new.self (Err c.in-Err.fault)) (sym c.in-Some.ensures.steps.0)
    (each_ends c.loop-name.self c.args.table c.declare.new.self (c.in-Some.name, c.in-Some.what) c.next.new.self.rest.items c.in-Err.fault refused.0 refused.1))

pub returns : goal.returns
returns g c =
    c.loop-name.invariant.onward c.loop-name.self (Ok tt)
    (each_done c.loop-name.self c.args.table c.loop-name.name-iterator.rest.items (sym c.loop-name.name-iterator.rest.ok.0 ∙ c.in-None.ensures.steps.0))
