-- A list without an operator of a level is one operand.
use Rattle.std.proofs.Common.{◌≡◌, ℕ, Bool, false, ◌||◌, List, [], ◌∷◌, Option, Some, None, refl, ap}
use Rattle.std.specs.List.{list_any}
use Rattle.std.specs.Option.{is_some}
use Rattle.ff_expressions.specs.declared.item.Item.{Item}
use Rattle.ff_expressions.specs.declared.level.Level.{Level}
use Rattle.ff_expressions.specs.Expressions.{operator_at, is_at, first_by, first_operand, others_by, other_operands}

first_none : (o : Option ℕ) (one : Item) (items first : List Item) (any : Bool) → (is_some o || any) ≡ false → (any ≡ false → first ≡ items) → first_by o one first ≡ one ∷ items
first_none None one items first any h same = ap (λ t. one ∷ t) (same h)
first_none (Some code) one items first any h same = cc

pub none_first : (level : Level) (items : List Item) → list_any (is_at level) items ≡ false → first_operand level items ≡ items
none_first level [] h = refl
none_first level (one ∷ items) h =
    first_none (operator_at level one) one items (first_operand level items) (list_any (is_at level) items) h (none_first level items)

others_none : (o : Option ℕ) (first : List Item) (others : List (ℕ × List Item)) (any : Bool) → (is_some o || any) ≡ false → (any ≡ false → others ≡ []) → others_by o first others ≡ []
others_none None first others any h same = same h
others_none (Some code) first others any h same = cc

pub none_others : (level : Level) (items : List Item) → list_any (is_at level) items ≡ false → other_operands level items ≡ []
none_others level [] h = refl
none_others level (one ∷ items) h =
    others_none (operator_at level one) (first_operand level items) (other_operands level items) (list_any (is_at level) items) h (none_others level items)
