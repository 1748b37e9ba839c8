-- Induction over the items of array constructors, and items whose parts have the same trees.
use Rattle.std.proofs.Common.{◌≡◌, ℕ, ℤ, List, [], ◌∷◌, map, refl, sym, ap, subst, ◌∙◌}
use Rattle.std.specs.List.{AllByRecursion}
use Rattle.lf_base.specs.declared.id.ExprId.{ExprId}
use Rattle.lf_base.specs.declared.id.SymId.{SymId}
use Rattle.asr_nodes.specs.Keys.{Key, expr, Tree, chained}
use Rattle.asr_nodes.specs.Parts.{array_item_parts}
use Rattle.asr_nodes.specs.Parts as parts
use Rattle.asr_nodes.specs.Reading.{Path, Reading, reading, array_item_node}
use Rattle.asr_nodes.specs.Reading as reading_of
use Rattle.asr_nodes.specs.declared.node.ArrayItem.{ArrayItem, ArrayItem-F, map-ArrayItem, roll-ArrayItem, ind-ArrayItem, fold-roll-ArrayItem}
use Rattle.asr_nodes.specs.declared.node.ArrayItem.TheVariants as ai
use Rattle.asr_nodes.specs.declared.tree.ArrayItemTree.{ArrayItemTree}
use Rattle.asr_nodes.specs.declared.tree.ArrayItemTree.TheVariants as ait
use Rattle.asr_nodes.proofs.Alike.{Alike, first, last}

pub record Cases (P : ArrayItem → Type 0) : Type 0 where
  pub value : (value : ExprId) → P (ai.Value value)
  pub loop : (number : ℕ) (lower : ℤ) (upper : ℤ) (step : ℤ) (items : List ArrayItem) → AllByRecursion P items → P (ai.Loop number lower upper step items)

abbrev Shown : (ArrayItem → Type 0) → Type 0
Shown P = (x : ArrayItem) × P x

abbrev bare : (P : ArrayItem → Type 0) → Shown P → ArrayItem
bare P x = x.0

each : (P : ArrayItem → Type 0) (all : List (Shown P)) → AllByRecursion P (map (bare P) all)
each P [] = tt
each P (x ∷ xs) = (x.1, each P xs)

layer : (P : ArrayItem → Type 0) → Cases P → (y : ArrayItem-F (Shown P)) → P (roll-ArrayItem (map-ArrayItem (Shown P) ArrayItem (bare P) y))
layer P c (ArrayItem-F.Value value) = subst P (sym (ai.rolls-Value value)) (c.value value)
layer P c (ArrayItem-F.Loop number lower upper step items) = subst P (sym (ai.rolls-Loop number lower upper step (map (bare P) items))) (c.loop number lower upper step (map (bare P) items) (each P items))

pub by_cases : (P : ArrayItem → Type 0) → Cases P → (x : ArrayItem) → P x
by_cases P c = ind-ArrayItem P (λ x y e. subst (λ z. P (roll-ArrayItem z)) e (layer P c y))

parts-Value : (value : ExprId) → array_item_parts (ai.Value value) ≡ expr value ∷ []
parts-Value value = ap array_item_parts (sym (ai.rolls-Value value)) ∙ fold-roll-ArrayItem (List Key) parts.array_item_layer (ArrayItem-F.Value value)

parts-Loop : (number : ℕ) (lower : ℤ) (upper : ℤ) (step : ℤ) (items : List ArrayItem) → array_item_parts (ai.Loop number lower upper step items) ≡ chained (map array_item_parts items)
parts-Loop number lower upper step items = ap array_item_parts (sym (ai.rolls-Loop number lower upper step items)) ∙ fold-roll-ArrayItem (List Key) parts.array_item_layer (ArrayItem-F.Loop number lower upper step items)

pub node-Value : (r : Reading) (value : ExprId) → array_item_node r (ai.Value value) ≡ ait.Value (r.expr value)
node-Value r value = ap (array_item_node r) (sym (ai.rolls-Value value)) ∙ fold-roll-ArrayItem ArrayItemTree (reading_of.array_item_layer r) (ArrayItem-F.Value value)

pub node-Loop : (r : Reading) (number : ℕ) (lower : ℤ) (upper : ℤ) (step : ℤ) (items : List ArrayItem) → array_item_node r (ai.Loop number lower upper step items) ≡ ait.Loop number lower upper step (map (array_item_node r) items)
node-Loop r number lower upper step items = ap (array_item_node r) (sym (ai.rolls-Loop number lower upper step items)) ∙ fold-roll-ArrayItem ArrayItemTree (reading_of.array_item_layer r) (ArrayItem-F.Loop number lower upper step items)

module _ (path : SymId → Path) (f g : (key : Key) → Tree key) where
  abbrev Same : ArrayItem → Type 0
  Same x = Alike f g (array_item_parts x) → array_item_node (reading path f) x ≡ array_item_node (reading path g) x

  all_same : (items : List ArrayItem) → AllByRecursion Same items → Alike f g (chained (map array_item_parts items)) → map (array_item_node (reading path f)) items ≡ map (array_item_node (reading path g)) items
  all_same [] h a = refl
  all_same (x ∷ xs) h a = λ k. h.0 (first f g (array_item_parts x) _ a) k ∷ all_same xs h.1 (last f g (array_item_parts x) _ a) k

  value_same : (value : ExprId) → Same (ai.Value value)
  value_same value a =
      let h = subst (Alike f g) (parts-Value value) a in
      node-Value (reading path f) value ∙ ap ait.Value h.0 ∙ sym (node-Value (reading path g) value)

  loop_same : (number : ℕ) (lower : ℤ) (upper : ℤ) (step : ℤ) (items : List ArrayItem) → AllByRecursion Same items → Same (ai.Loop number lower upper step items)
  loop_same number lower upper step items s a =
      let h = subst (Alike f g) (parts-Loop number lower upper step items) a in
      node-Loop (reading path f) number lower upper step items ∙ (λ k. ait.Loop number lower upper step (all_same items s h k)) ∙ sym (node-Loop (reading path g) number lower upper step items)

  pub array_items_same : (x : ArrayItem) → Same x
  array_items_same = by_cases Same (record { value = value_same; loop = loop_same })
