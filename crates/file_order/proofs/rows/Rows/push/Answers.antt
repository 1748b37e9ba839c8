use Rattle.std.proofs.Common.{◌∙◌, ap, ◌++◌, ◌∷◌, [], List, ℕ}
use Rattle.file_order.proofs.RowLemmas.{row_is, row_set}
use Rattle.file_order.proofs.rows.Rows.push.Goals as goal

pub returns : goal.returns
returns c = row_set (λ v. v.items) c.self.inside.rows.items c.args.self.now c.args.index c.push.new.self _ c.self.view_is
    (c.in_ok-push.ensures.items ∙ ap (λ (xs : List ℕ). xs ++ c.args.last ∷ []) (row_is (λ v. v.items) c.self.inside.rows.items c.args.self.now c.args.index c.index_mut.result.now c.self.view_is c.requires c.index_mut.ensures.value))
