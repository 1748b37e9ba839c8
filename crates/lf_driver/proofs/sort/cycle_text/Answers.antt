use Rattle.std.proofs.Common.{◌∙◌, sym, ap, ◌++◌, [], codes, map, string_bytes}
use Rattle.lf_driver.specs.Order.{names_at}
use Rattle.lf_driver.specs.Refusal.{listed}
use Rattle.lf_driver.proofs.Sorting.{three_pieces}
use Rattle.lf_driver.proofs.sort.cycle_text.Goals as goal

pub returns : goal.returns
returns c =
    let cycle = listed (codes " ") [] (names_at (map string_bytes c.args.names.now) c.args.places.now) in
    c.in_ok-append-2.ensures
    ∙ ap (λ text. text ++ codes "\n") (c.in_ok-add_names.ensures ∙ ap (λ text. text ++ cycle) (c.in_ok-append.ensures ∙ ap (λ text. text ++ codes "lf: cycle") c.new-text.ensures.items))
    ∙ sym (three_pieces (codes "lf: cycle") cycle (codes "\n"))
