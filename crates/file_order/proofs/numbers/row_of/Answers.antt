use Rattle.std.proofs.Common.{◌∙◌, ◌++◌, sym, ap, List, ℕ, [], Bor, Option, Vec, Global}
use Rattle.std.proofs.lemmas.List.{append-nil}
use Rattle.std.specs.Option.{option_copied, option_to_list}
use Rattle.file_order.proofs.NumberLemmas.{row_more}
use Rattle.file_order.proofs.numbers.row_of.Goals as goal
use Rattle.file_order.proofs.numbers.row_of.Goals.{in-Some+in_ok-push, in_default}

pub loop-name-preserved : goal.loop-name-preserved
loop-name-preserved c =
    let names = c.args.names.now in
    let i = c.loop-name.name-index in
    let d : Bor (List ℕ) = record { ref_ptr = (0, 0); now = [] } in
    let numbers = c.args.numbers.now in
    let row = c.loop-name.row.items in
    row_more numbers names i d row c.match-get.row.items (option_copied c.get.result) c.loop-name-test.true c.loop-name.invariant c.get.ensures.value
    (elim c.match-get.branch [
      | in-Some+in_ok-push w ↦ ap (λ (v : Vec ℕ Global). v.items) w.row-is ∙ w.in_ok-push.ensures.items ∙ ap (λ (o : Option (Bor ℕ)). row ++ option_to_list (option_copied o)) (sym w.in-Some.is)
      | in_default w ↦ ap (λ (v : Vec ℕ Global). v.items) w.row-is ∙ sym (append-nil row) ∙ ap (λ (o : Option (Bor ℕ)). row ++ option_to_list (option_copied o)) (sym w.in_default.is)
    ])
