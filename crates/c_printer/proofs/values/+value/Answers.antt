use Rattle.std.proofs.Common.{◌+◌, drop, map, sym, ap, ◌∙◌, arith}
use Rattle.asr_nodes.proofs.Missing.{refuted, drop_next}
use Rattle.c_printer.specs.Lowered.{expression_of}
use Rattle.c_printer.specs.Values.{each_value}
use Rattle.c_printer.specs.Writing.{from, location}
use Rattle.c_printer.proofs.Depths.{depth_of, one_of, found_depth, depth-Unary, depth-Binary, depth-Convert, depth-Paren, depth-Intrinsic}
use Rattle.c_printer.proofs.Laid.{value_found, value_missing}
use Rattle.c_printer.proofs.Writes.{behind_values, values_next}
use Rattle.c_printer.proofs.values.+value.Goals as goal

pub each_value-value-requires : goal.each_value-value-requires
each_value-value-requires t c = let e = one_of (depth_of c.args.scope.now) c.args.arguments.now c.loop-place.place c.at.result c.at.ensures in omega (arith, c.decreases)

pub each_value-loop-place-preserved : goal.each_value-loop-place-preserved
each_value-loop-place-preserved t c =
    let f = expression_of c.args.scope.now in
    let here = location c.args.here in
    let w = c.loop-place.writer in
    let rest = map f (drop (c.loop-place.place + 1) c.args.arguments.now) in
    let next = ap (λ ids. behind_values c.loop-place.values (from w (each_value here (map f ids)))) (drop_next c.args.arguments.now c.loop-place.place c.at.result c.at.ensures) in
    values_next (from c.args.writer.now (each_value here (map f c.args.arguments.now))) c.loop-place.values here (f c.at.result) rest w c.value.new.writer c.in_ok-argument.argument (c.loop-place.invariant ∙ next) c.in_ok-argument.ensures
    ∙ ap (λ vs. behind_values vs (from c.value.new.writer (each_value here rest))) (sym c.in_ok-push.ensures.ok)

pub node_value-unary-requires : goal.node_value-unary-requires
node_value-unary-requires t c = let e = depth-Unary c.args.scope.now c.args.node.now c.in-Unary.operator c.in-Unary.operand c.in-Unary.is in omega (arith, c.decreases)

pub node_value-binary-requires : goal.node_value-binary-requires
node_value-binary-requires t c = let e = depth-Binary c.args.scope.now c.args.node.now c.in-Binary.operator c.in-Binary.left c.in-Binary.right c.in-Binary.is in omega (arith, c.decreases)

pub node_value-converted-requires : goal.node_value-converted-requires
node_value-converted-requires t c = let e = depth-Convert c.args.scope.now c.args.node.now c.in-Convert.kind c.in-Convert.operand c.in-Convert.is in omega (arith, c.decreases)

pub node_value-value-requires : goal.node_value-value-requires
node_value-value-requires t c = let e = depth-Paren c.args.scope.now c.args.node.now c.in-Paren.inner c.in-Paren.is in omega (arith, c.decreases)

pub node_value-intrinsic-requires : goal.node_value-intrinsic-requires
node_value-intrinsic-requires t c = let e = depth-Intrinsic c.args.scope.now c.args.node.now c.in-Intrinsic.code c.in-Intrinsic.arguments c.in-Intrinsic.is in omega (arith, c.decreases)

pub node_value-returns-in-Var : goal.node_value-returns-in-Var
node_value-returns-in-Var t c = rw c.in-Var.is (c.entity.ensures (location c.args.here))

pub node_value-returns-in-Binary : goal.node_value-returns-in-Binary
node_value-returns-in-Binary t c = rw c.in-Binary.is (rw c.manner_of.ensures at c.binary.ensures)

pub value-node_value-requires : goal.value-node_value-requires
value-node_value-requires t c = let e = found_depth c.args.scope.now c.asr-tree.result.now c.args.id c.expr.result.now c.asr-tree.ensures c.expr.ensures.tree in omega (arith, c.decreases)

pub value-returns-then-has_expr : goal.value-returns-then-has_expr
value-returns-then-has_expr t c =
    value_found c.args.scope.now c.asr-tree.result.now c.args.id c.expr.result.now c.args.writer.now c.node_value.new.writer c.node_value.result (location c.args.here) c.asr-tree.ensures c.expr.ensures.tree c.node_value.ensures

pub value-returns-else-has_expr : goal.value-returns-else-has_expr
value-returns-else-has_expr t c =
    value_missing c.args.scope.now c.asr-tree.result.now c.args.id c.args.writer.now c.logical.new.writer c.logical.result (location c.args.here) c.asr-tree.ensures (refuted _ c.has_expr.ensures c.if-has_expr.false) c.logical.ensures
