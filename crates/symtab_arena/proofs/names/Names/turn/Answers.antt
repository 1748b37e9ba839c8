use Rattle.std.proofs.Common.{◌-◌, arith}
use Rattle.symtab_arena.proofs.TurnLemmas.{turn_begins, turn_more, turn_ends}
use Rattle.symtab_arena.proofs.names.Names.turn.Goals as goal

pub loop-high-init : goal.loop-high-init
loop-high-init c = turn_begins c.args.self.now c.args.start c.args.end c.requires.order

pub loop-high-preserved : goal.loop-high-preserved
loop-high-preserved c =
    let before = c.loop-high.invariant in
    let apart = c.loop-high-test.true in
    let ends = before.ends in
    let long = before.same_length in
    let within = c.requires.within in
    turn_more c.args.self.now c.loop-high.self c.args.start c.args.end c.loop-high.low c.loop-high.high before
    (c.loop-high.high - 1) c.exchange.new.self (omega arith) (omega arith) (omega arith) c.exchange.ensures

pub returns : goal.returns
returns c =
    let met = c.loop-high-test.false in
    turn_ends c.args.self.now c.loop-high.self c.args.start c.args.end c.loop-high.low c.loop-high.high c.loop-high.invariant (omega arith)
