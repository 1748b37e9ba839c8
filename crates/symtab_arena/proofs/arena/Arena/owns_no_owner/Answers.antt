use Rattle.std.proofs.Common.{sym, arith, refl, ◌∙◌}
use Rattle.symtab_arena.proofs.Callers.{walk_tells_childless}
use Rattle.symtab_arena.proofs.arena.Arena.owns_no_owner.Goals as goal

pub returns : goal.returns
returns g c = (
  λ _.
      walk_tells_childless c.args.self.now c.linked.ensures c.args.symbol c.in-Some.table (sym c.owned.ensures ∙ c.in-Some.is)
      (λ n u within at.
      let end = c.table_len-place-end.ensures.len in
      let past = c.loop-place-test.false in
      c.loop-place.invariant n u (omega arith) at),
  λ _. refl,
)
