use Rattle.std.proofs.Common.{◌-◌, subst, List, ℕ, arith}
use Rattle.std.specs.List.{Contains}
use Rattle.file_order.specs.Tables.{IsNoted}
use Rattle.file_order.proofs.TableLemmas.{inverse_none, inverse_more, inverse_all}
use Rattle.file_order.proofs.modules.holders_of.Goals as goal

pub loop-place-init : goal.loop-place-init
loop-place-init c = inverse_none c.args.held.now c.args.count c.len-place.result c.in_ok-holders.holders (omega arith) c.in_ok-holders.ensures

pub note_all-requires : goal.note_all-requires
note_all-requires c = λ m h.
    let less = c.requires m (c.loop-place.place - 1) (subst (λ (xs : List ℕ). Contains xs m) c.row.ensures h) in
    omega (arith, less, c.loop-place.invariant.count_is)

pub loop-place-preserved : goal.loop-place-preserved
loop-place-preserved c =
    let l = c.loop-place in
    let place = l.place - 1 in
    inverse_more c.args.held.now c.args.count l.place place l.holders c.note_all.new.holders (omega arith) l.invariant
    (subst (λ (ms : List ℕ). IsNoted place (Contains ms) l.holders c.note_all.new.holders) c.row.ensures c.in_ok-note_all.ensures)

pub returns : goal.returns
returns c = inverse_all c.args.held.now c.args.count c.loop-place.place c.loop-place.holders (omega arith) c.loop-place.invariant
