use Rattle.std.proofs.Common.{subst}
use Rattle.symtab_arena.specs.Names.{IsTurned}
use Rattle.symtab_arena.proofs.TurnLemmas.{moved_by_turns}
use Rattle.symtab_arena.proofs.names.Names.move_before.Goals as goal

pub returns : goal.returns
returns c =
    moved_by_turns c.args.self.now c.args.from c.args.to c.requires.order c.requires.within c.turn.new.self c.turn-2.new.self c.turn-3.new.self c.turn.ensures
    (subst (λ n. IsTurned c.turn.new.self c.turn-2.new.self c.args.from n) c.len-end.ensures c.turn-2.ensures)
    (subst (λ n. IsTurned c.turn-2.new.self c.turn-3.new.self c.args.to n) c.len-end.ensures c.turn-3.ensures)
