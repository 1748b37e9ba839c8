use Rattle.std.proofs.Common.{sym, ap, ◌∙◌, arith}
use Rattle.asr_nodes.proofs.Missing.{refuted}
use Rattle.c_printer.specs.Chains.{all_closed}
use Rattle.c_printer.specs.Laid.{body_of}
use Rattle.c_printer.specs.Places.{place_of}
use Rattle.c_printer.specs.Writing.{from, location}
use Rattle.c_printer.proofs.Branches.{closed_last, writes_counted}
use Rattle.c_printer.proofs.LaidStatements.{body_next, lone_body, stmt_found, stmt_missing}
use Rattle.c_printer.proofs.StatementDepths.{depths_of, one_deep, found_depth, depth_lone, depth-If, depth-Do, depth-While, depth-Block}
use Rattle.c_printer.proofs.statements.+statements.Goals as goal

pub chain-open_arm-requires-in-Some : goal.chain-open_arm-requires-in-Some
chain-open_arm-requires-in-Some t c =
    let e = depth_lone c.args.scope.now c.loop-inner.rest.now c.in-Some.inner c.in-Some.ensures in
    let w = c.loop-inner.invariant.1 in
    omega (arith, c.decreases)

pub chain-loop-inner-smaller : goal.chain-loop-inner-smaller
chain-loop-inner-smaller t c = let e = depth_lone c.args.scope.now c.loop-inner.rest.now c.in-Some.inner c.in-Some.ensures in omega arith

pub chain-loop-inner-preserved : goal.chain-loop-inner-preserved
chain-loop-inner-preserved t c =
    let u = c.args.scope.now in
    let arms = c.loop-inner.arms in
    let inner = c.in-Some.inner in
    let arm = c.in_ok-open_arm-2.field-0 in
    let left = from c.open_arm-in-Some.new.writer (body_of u inner.else_block.now c.args.source.now) in
    let e = depth_lone u c.loop-inner.rest.now inner c.in-Some.ensures in
    let w = c.loop-inner.invariant.1 in (
      c.loop-inner.invariant.0
          ∙ ap (all_closed arms) (lone_body u c.loop-inner.rest.now inner c.in-Some.ensures c.args.source.now c.loop-inner.writer ∙ c.in_ok-open_arm-2.ensures)
          ∙ sym (closed_last arms arm left)
          ∙ ap (λ all. all_closed all left) (sym c.in_ok-push-2.ensures.ok),
      omega arith,
    )

pub counted_turns-returns : goal.counted_turns-returns
counted_turns-returns t c =
    writes_counted c.args.writer.now c.open-before.new.self c.turn.new.writer c.stepped.new.writer c.end_turns.new.writer c.end_turns.result _ (location c.args.here) c.args.counter.id (place_of c.args.scope.now c.args.begun.spot)
    c.args.begun.step c.args.begun.count (body_of c.args.scope.now c.args.body.now c.args.here.source.now) c.in_ok-test.test c.open-before.ensures.rest c.open-before.ensures.lines c.in_ok-test.ensures c.in_ok-turn.ensures
    c.in_ok-stepped.ensures c.end_turns.ensures

pub node-chain-requires : goal.node-chain-requires
node-chain-requires t c =
    let e = depth-If c.args.scope.now c.args.node.now c.in-If.line c.in-If.condition c.in-If.then_block c.in-If.else_block c.in-If.is in
    let first = ap (depths_of c.args.scope.now) c.as_slice.ensures in
    let second = ap (depths_of c.args.scope.now) c.as_slice-in-If.ensures in
    omega (arith, c.decreases)

pub node-counted_loop-requires : goal.node-counted_loop-requires
node-counted_loop-requires t c =
    let e = depth-Do c.args.scope.now c.args.node.now c.in-Do.line c.in-Do.id c.in-Do.variable c.in-Do.lower c.in-Do.upper c.in-Do.step c.in-Do.body c.in-Do.is in
    let same = ap (depths_of c.args.scope.now) c.as_slice-in-Do.ensures in
    omega (arith, c.decreases)

pub node-while_loop-requires : goal.node-while_loop-requires
node-while_loop-requires t c =
    let e = depth-While c.args.scope.now c.args.node.now c.in-While.line c.in-While.id c.in-While.condition c.in-While.body c.in-While.is in
    let same = ap (depths_of c.args.scope.now) c.as_slice-in-While.ensures in
    omega (arith, c.decreases)

pub node-in_block-requires : goal.node-in_block-requires
node-in_block-requires t c =
    let e = depth-Block c.args.scope.now c.args.node.now c.in-Block.line c.in-Block.stmts c.in-Block.is in
    let same = ap (depths_of c.args.scope.now) c.as_slice-in-Block.ensures in
    omega (arith, c.decreases)

pub node-returns-in-Do : goal.node-returns-in-Do
node-returns-in-Do t c = rw c.in-Do.is (rw c.as_slice-in-Do.ensures at c.counted_loop.ensures)

pub node-returns-in-While : goal.node-returns-in-While
node-returns-in-While t c = rw c.in-While.is (rw c.as_slice-in-While.ensures at c.while_loop.ensures)

pub statement-node-requires : goal.statement-node-requires
statement-node-requires t c = let e = found_depth c.args.scope.now c.asr-tree.result.now c.args.id c.stmt.result.now c.asr-tree.ensures c.stmt.ensures.tree in omega (arith, c.decreases)

pub statement-returns-then-has_stmt : goal.statement-returns-then-has_stmt
statement-returns-then-has_stmt t c =
    stmt_found c.args.scope.now c.asr-tree.result.now c.args.id c.stmt.result.now c.args.source.now c.args.writer.now c.node.new.writer c.node.result c.asr-tree.ensures c.stmt.ensures.tree c.node.ensures

pub statement-returns-else-has_stmt : goal.statement-returns-else-has_stmt
statement-returns-else-has_stmt t c =
    stmt_missing c.args.scope.now c.asr-tree.result.now c.args.id c.args.source.now c.args.writer.now c.end_record.new.writer c.end_record.result c.asr-tree.ensures (refuted _ c.has_stmt.ensures c.if-has_stmt.false) c.end_record.ensures

pub statements-statement-requires : goal.statements-statement-requires
statements-statement-requires t c = let e = one_deep c.args.scope.now c.args.ids.now c.loop-id.id-index (record { 0 = 0 }) c.loop-id-test.true in omega (arith, c.decreases)

pub statements-loop-id-preserved : goal.statements-loop-id-preserved
statements-loop-id-preserved t c =
    c.loop-id.invariant
    ∙ body_next c.args.scope.now c.args.ids.now c.loop-id.id-index (record { 0 = 0 }) c.loop-id-test.true c.args.source.now c.loop-id.writer c.statement.new.writer c.in_ok-statement.ensures
