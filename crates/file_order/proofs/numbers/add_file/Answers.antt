use Rattle.std.proofs.Common.{◌∙◌, sym, ap, subst, List, ℕ, [], Bor, take}
use Rattle.file_order.specs.Modules.{names_of}
use Rattle.file_order.specs.Numbers.{HaveNumbers}
use Rattle.file_order.proofs.NumberLemmas.{grown_more, numbers_more, names_more, names_all}
use Rattle.file_order.proofs.numbers.add_file.Goals as goal

pub loop-name-preserved : goal.loop-name-preserved
loop-name-preserved c =
    let names = c.deref-name-items.result.now in
    let l = c.loop-name in
    let i = l.name-index in
    let d : Bor (List ℕ) = record { ref_ptr = (0, 0); now = [] } in
    let e = c.in_ok-add.ensures in
    record {
      grown = grown_more c.args.numbers.now l.numbers c.add.new.numbers l.invariant.grown e.grown;
      have = subst (λ (ns : List (List ℕ)). HaveNumbers c.add.new.numbers ns) (sym (names_more names i d c.loop-name-test.true))
          (numbers_more l.numbers c.add.new.numbers (take i (names_of names)) _ e.grown l.invariant.have e.named);
    }

pub returns-clause-named : goal.returns-clause-named
returns-clause-named c =
    let names = c.deref-name-items.result.now in
    let l = c.loop-name in
    subst (λ (ns : List (List ℕ)). HaveNumbers l.numbers ns)
    (names_all names l.name-index c.loop-name-test.false ∙ ap names_of c.deref-name-items.ensures.value ∙ c.in_ok-names.ensures)
    l.invariant.have
