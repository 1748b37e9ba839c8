use Rattle.std.proofs.Common.{◌≡◌, ◌<◌, ◌≤◌, List, [], ◌∷◌, length, get_or, sym, ◌∙◌, ap, arith}
use Rattle.type_rules.specs.declared.ty.Ty.{Ty}
use Rattle.type_rules.proofs.Dims.{of_two}
use Rattle.type_rules.proofs.typing.type_of.Goals as goal

these_two : (xs : List Ty) (a b : Ty) → 2 ≤ length xs → length xs < 3 → a ≡ get_or xs 0 a → b ≡ get_or xs 1 b → xs ≡ a ∷ b ∷ []
these_two [] a b h g e f = absurd (omega arith)
these_two (x ∷ []) a b h g e f = absurd (omega arith)
these_two (x ∷ y ∷ []) a b h g e f = ap (λ z. z ∷ y ∷ []) (sym e) ∙ ap (λ z. a ∷ z ∷ []) (sym f)
these_two (x ∷ y ∷ z ∷ more) a b h g e f = absurd (omega arith)

pub returns-in-Binary-len2 : goal.returns-in-Binary-len2
returns-in-Binary-len2 c =
    let args = these_two c.args.args.now c.a-item.result c.b-item.result c.in-Binary-len2.len_at_least c.in-Binary-len2.len_below c.a-item.is c.b-item.is in
    let op = c.in-Binary-len2.is-0 in
    rw args (rw op (rw (← of_two c.in-Binary-len2.field-0-0 c.a-item.result c.b-item.result) (rw op at c.unify.ensures)))
