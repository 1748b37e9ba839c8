use Rattle.std.proofs.Common.{◌<◌, sym, subst, ℕ}
use Rattle.file_order.specs.declared.modules.Modules.{Modules}
use Rattle.file_order.specs.Modules.{held_by}
use Rattle.file_order.specs.Tables.{IsInverse}
use Rattle.file_order.proofs.TableLemmas.{row_below, table_of}
use Rattle.file_order.proofs.modules.modules_of.Goals as goal

pub holders_of-requires : goal.holders_of-requires
holders_of-requires c = λ m p h.
    subst (λ (k : ℕ). m < k) (sym c.len.ensures.len)
    (row_below c.in_ok-numbers.numbers held_by c.args.files.now c.in_ok-held.held c.in_ok-numbers.ensures.numbering c.in_ok-held.ensures m p h)

pub returns : goal.returns
returns c =
    let held = c.in_ok-held.held in
    let holders = c.in_ok-holders.holders in
    let t : Modules = record { holders = holders; held = held; uses = c.in_ok-uses.uses } in
    let n = c.in_ok-numbers in
    table_of c.args.files.now n.numbers t n.ensures.numbering n.ensures.named c.in_ok-held.ensures c.in_ok-uses.ensures
    (subst (λ (k : ℕ). IsInverse held k holders) c.len.ensures.len c.in_ok-holders.ensures)
