use Rattle.std.proofs.Common.{arith}
use Rattle.std.proofs.Math.Facts.{sfits_to_z}
use Rattle.std.proofs.lemmas.Int.{ints, to_z-of_z}
use Rattle.type_rules.proofs.Powers.{beyond_at_end, few}
use Rattle.type_rules.proofs.integer.greater_product.Goals as goal

pub returns-in-None-clause-held : goal.returns-in-None-clause-held
returns-in-None-clause-held c =
    let f = c.ranges.factor in
    let inv = simp to_z-of_z at c.loop-i.invariant in
    let ens = simp to_z-of_z at c.in-None.ensures in
    beyond_at_end c.args.factor _ c.loop-i.i c.args.count c.requires (omega arith) inv ens

pub returns-in-None-clause-short : goal.returns-in-None-clause-short
returns-in-None-clause-short c =
    let f = c.ranges.factor in
    let inv = simp to_z-of_z at c.loop-i.invariant in
    let range = sfits_to_z c.loop-i.auto.so_far in
    let most = few c.args.factor _ c.loop-i.i c.requires inv (omega (arith, ints, range)) in
    omega arith

pub returns-clause-short : goal.returns-clause-short
returns-clause-short c =
    let f = c.ranges.factor in
    let inv = simp to_z-of_z at c.loop-i.invariant in
    let range = sfits_to_z c.loop-i.auto.so_far in
    let most = few c.args.factor _ c.loop-i.i c.requires inv (omega (arith, ints, range)) in
    let last = c.loop-i-test.false in
    omega arith
