use Rattle.std.proofs.Common.{◌∙◌, ◌+◌, if◌then◌else◌, sym, ap, refl, ℕ, Option}
use Rattle.std.specs.BTreeMap.{btree_map_len}
use Rattle.std.specs.Option.{is_some}
use Rattle.file_order.specs.Numbers.{number_of}
use Rattle.file_order.proofs.NumberLemmas.{grown_one, has_number, no_number}
use Rattle.file_order.proofs.numbers.add.Goals as goal

pub returns-then-contains_key-clause-named : goal.returns-then-contains_key-clause-named
returns-then-contains_key-clause-named c = has_number c.args.numbers.now c.args.name.now (number_of c.args.numbers.now c.args.name.now) refl (sym c.contains_key.ensures ∙ c.if-contains_key.true)

pub returns-clause-grown : goal.returns-clause-grown
returns-clause-grown c =
    let old = c.args.numbers.now in
    let none = no_number (number_of old c.args.name.now) (sym c.contains_key.ensures ∙ c.if-contains_key.false) in
    let e = c.in_ok-insert.ensures in
    grown_one c.args.name.now old c.insert.new.self c.len-next.result c.len-next.ensures.len none e.updates
    (e.len ∙ ap (λ (o : Option ℕ). btree_map_len old + (if is_some o then 0 else 1)) (e.old ∙ none))
