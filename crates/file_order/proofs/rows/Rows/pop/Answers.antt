use Rattle.std.proofs.Common.{◌≡◌, ◌∙◌, ap, sym, ◌++◌, [], List, ℕ, Option, Some, None, IfNone, length, ◌<◌, ◌≤◌, ⊎_elim, arith}
use Rattle.std.specs.Option.{IsSome}
use Rattle.std.proofs.lemmas.Bool.{cases_lt}
use Rattle.std.proofs.lemmas.List.{nil_from_length}
use Rattle.std.specs.Option.{option_to_list}
use Rattle.file_order.proofs.RowLemmas.{row_is, row_set, row_new}
use Rattle.file_order.proofs.rows.Rows.pop.Goals as goal

pub returns-clause-row : goal.returns-clause-row
returns-clause-row c =
    sym (row_is (λ v. v.items) c.self.inside.rows.items c.args.self.now c.args.index c.index_mut.result.now c.self.view_is c.requires c.index_mut.ensures.value)
    ∙ c.pop.ensures.items
    ∙ ap (λ (xs : List ℕ). xs ++ option_to_list c.pop.result) (sym (row_new (λ v. v.items) c.self.inside.rows.items c.args.self.now c.args.index c.pop.new.self c.self.view_is c.requires))

pub returns-clause-others : goal.returns-clause-others
returns-clause-others c = row_set (λ v. v.items) c.self.inside.rows.items c.args.self.now c.args.index c.pop.new.self _ c.self.view_is
    (sym (row_new (λ v. v.items) c.self.inside.rows.items c.args.self.now c.args.index c.pop.new.self c.self.view_is c.requires))

none_left : (len : ℕ) (xs ys : List ℕ) (taken : Option ℕ) → (0 < len → IsSome taken) → len ≡ length xs → xs ≡ ys → IfNone taken (ys ≡ [])
none_left len xs ys None some e f =
    ⊎_elim
    (λ (more : 0 < len). let never : IsSome {T = ℕ} None = some more in cc)
    (λ (none : len ≤ 0). sym f ∙ nil_from_length xs (omega (arith, e)))
    (cases_lt 0 len)
none_left len xs ys (Some x) some e f = tt

pub returns-clause-none : goal.returns-clause-none
returns-clause-none c = none_left c.index_mut.result.now.len c.index_mut.result.now.items _ c.pop.result c.pop.ensures.variant.1 c.index_mut.result.now.ok.0 (row_is (λ v. v.items) c.self.inside.rows.items c.args.self.now c.args.index c.index_mut.result.now c.self.view_is c.requires c.index_mut.ensures.value)
