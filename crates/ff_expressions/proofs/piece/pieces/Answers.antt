use Rattle.std.proofs.Common.{◌≡◌, [], ◌∷◌, ◌++◌, ◌∙◌, false, sym, ap}
use Rattle.std.specs.List.{list_any}
use Rattle.ff_expressions.specs.Pieces.{is_mark}
use Rattle.ff_expressions.proofs.Undivided.{undivided}
use Rattle.ff_expressions.proofs.piece.pieces.Goals as goal

pub returns : goal.returns
returns c =
    let none : list_any (is_mark c.args.mark) c.args.items ≡ false = cc in
    let one : c.push.new.self ≡ c.args.items ∷ [] = c.in_ok-push.ensures ∙ ap (λ before. before ++ c.args.items ∷ []) c.in_ok-done.ensures in
    one ∙ sym (undivided c.args.mark c.args.items none)
