-- What is seen of a designator chain, one item after another.
use Rattle.std.proofs.Common.{◌≡◌, ℕ, zero, suc, ◌<◌, List, [], ◌∷◌, length, drop, slice_get, refl, add-one, arith}
use Rattle.ff_expressions.specs.declared.item.Item.{Item}
use Rattle.ff_forms.specs.declared.chain.Seen.{Seen}
use Rattle.ff_forms.specs.Actions.{seen_in, seen_at}

pub steps : (seen : Seen) (items : List Item) (at : ℕ) → at < length items → seen_in (seen_at seen (slice_get items at)) (drop (suc at) items) ≡ seen_in seen (drop at items)
unfolding seen_at
steps seen [] at h = absurd (omega arith)
steps seen (item ∷ items) zero h = refl
steps seen (item ∷ items) (suc at) h = steps seen items at (omega arith)

pub ends : (seen : Seen) (items : List Item) → seen_in seen (drop (length items) items) ≡ seen
ends seen [] = refl
ends seen (item ∷ items) = ends seen items

pub ruleset chains = (steps, ends, add-one)
