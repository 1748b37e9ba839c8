-- Induction over the items of output lists, and items whose parts have the same trees.
use Rattle.std.proofs.Common.{◌≡◌, List, [], ◌∷◌, map, refl, sym, ap, subst, ◌∙◌}
use Rattle.std.specs.List.{AllByRecursion}
use Rattle.lf_base.specs.declared.id.ExprId.{ExprId}
use Rattle.lf_base.specs.declared.id.SymId.{SymId}
use Rattle.asr_nodes.specs.Keys.{Key, expr, Tree, chained}
use Rattle.asr_nodes.specs.Parts.{print_item_parts}
use Rattle.asr_nodes.specs.Parts as parts
use Rattle.asr_nodes.specs.Reading.{Path, Reading, reading, print_item_node}
use Rattle.asr_nodes.specs.Reading as reading_of
use Rattle.asr_nodes.specs.declared.node.PrintItem.{PrintItem, PrintItem-F, map-PrintItem, roll-PrintItem, ind-PrintItem, fold-roll-PrintItem}
use Rattle.asr_nodes.specs.declared.node.PrintItem.TheVariants as pi
use Rattle.asr_nodes.specs.declared.tree.PrintItemTree.{PrintItemTree}
use Rattle.asr_nodes.specs.declared.tree.PrintItemTree.TheVariants as pit
use Rattle.asr_nodes.proofs.Alike.{Alike, first, last}

pub record Cases (P : PrintItem → Type 0) : Type 0 where
  pub value : (value : ExprId) → P (pi.Value value)
  pub loop : (variable : ExprId) (lower : ExprId) (upper : ExprId) (step : ExprId) (items : List PrintItem) → AllByRecursion P items → P (pi.Loop variable lower upper step items)

abbrev Shown : (PrintItem → Type 0) → Type 0
Shown P = (x : PrintItem) × P x

abbrev bare : (P : PrintItem → Type 0) → Shown P → PrintItem
bare P x = x.0

each : (P : PrintItem → Type 0) (all : List (Shown P)) → AllByRecursion P (map (bare P) all)
each P [] = tt
each P (x ∷ xs) = (x.1, each P xs)

layer : (P : PrintItem → Type 0) → Cases P → (y : PrintItem-F (Shown P)) → P (roll-PrintItem (map-PrintItem (Shown P) PrintItem (bare P) y))
layer P c (PrintItem-F.Value value) = subst P (sym (pi.rolls-Value value)) (c.value value)
layer P c (PrintItem-F.Loop variable lower upper step items) = subst P (sym (pi.rolls-Loop variable lower upper step (map (bare P) items))) (c.loop variable lower upper step (map (bare P) items) (each P items))

pub by_cases : (P : PrintItem → Type 0) → Cases P → (x : PrintItem) → P x
by_cases P c = ind-PrintItem P (λ x y e. subst (λ z. P (roll-PrintItem z)) e (layer P c y))

parts-Value : (value : ExprId) → print_item_parts (pi.Value value) ≡ expr value ∷ []
parts-Value value = ap print_item_parts (sym (pi.rolls-Value value)) ∙ fold-roll-PrintItem (List Key) parts.print_item_layer (PrintItem-F.Value value)

parts-Loop : (variable : ExprId) (lower : ExprId) (upper : ExprId) (step : ExprId) (items : List PrintItem) → print_item_parts (pi.Loop variable lower upper step items) ≡ expr variable ∷ expr lower ∷ expr upper ∷ expr step ∷ chained (map print_item_parts items)
parts-Loop variable lower upper step items = ap print_item_parts (sym (pi.rolls-Loop variable lower upper step items)) ∙ fold-roll-PrintItem (List Key) parts.print_item_layer (PrintItem-F.Loop variable lower upper step items)

pub node-Value : (r : Reading) (value : ExprId) → print_item_node r (pi.Value value) ≡ pit.Value (r.expr value)
node-Value r value = ap (print_item_node r) (sym (pi.rolls-Value value)) ∙ fold-roll-PrintItem PrintItemTree (reading_of.print_item_layer r) (PrintItem-F.Value value)

pub node-Loop : (r : Reading) (variable : ExprId) (lower : ExprId) (upper : ExprId) (step : ExprId) (items : List PrintItem) → print_item_node r (pi.Loop variable lower upper step items) ≡ pit.Loop (r.expr variable) (r.expr lower) (r.expr upper) (r.expr step) (map (print_item_node r) items)
node-Loop r variable lower upper step items = ap (print_item_node r) (sym (pi.rolls-Loop variable lower upper step items)) ∙ fold-roll-PrintItem PrintItemTree (reading_of.print_item_layer r) (PrintItem-F.Loop variable lower upper step items)

module _ (path : SymId → Path) (f g : (key : Key) → Tree key) where
  abbrev Same : PrintItem → Type 0
  Same x = Alike f g (print_item_parts x) → print_item_node (reading path f) x ≡ print_item_node (reading path g) x

  all_same : (items : List PrintItem) → AllByRecursion Same items → Alike f g (chained (map print_item_parts items)) → map (print_item_node (reading path f)) items ≡ map (print_item_node (reading path g)) items
  all_same [] h a = refl
  all_same (x ∷ xs) h a = λ k. h.0 (first f g (print_item_parts x) _ a) k ∷ all_same xs h.1 (last f g (print_item_parts x) _ a) k

  value_same : (value : ExprId) → Same (pi.Value value)
  value_same value a =
      let h = subst (Alike f g) (parts-Value value) a in
      node-Value (reading path f) value ∙ ap pit.Value h.0 ∙ sym (node-Value (reading path g) value)

  loop_same : (variable : ExprId) (lower : ExprId) (upper : ExprId) (step : ExprId) (items : List PrintItem) → AllByRecursion Same items → Same (pi.Loop variable lower upper step items)
  loop_same variable lower upper step items s a =
      let h = subst (Alike f g) (parts-Loop variable lower upper step items) a in
      node-Loop (reading path f) variable lower upper step items ∙ (λ k. pit.Loop (h.0 k) (h.1.0 k) (h.1.1.0 k) (h.1.1.1.0 k) (all_same items s h.1.1.1.1 k)) ∙ sym (node-Loop (reading path g) variable lower upper step items)

  pub print_items_same : (x : PrintItem) → Same x
  print_items_same = by_cases Same (record { value = value_same; loop = loop_same })
