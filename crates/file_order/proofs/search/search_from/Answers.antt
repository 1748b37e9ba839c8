use Rattle.std.proofs.Common.{◌∙◌, ◌↔◌, ◌<◌, ap, subst, refl, List, ℕ, replicate, [], true}
use Rattle.std.specs.List.{Contains}
use Rattle.file_order.proofs.SearchLemmas.{begins_with}
use Rattle.file_order.proofs.search.search_from.Goals as goal

pub run-requires : goal.run-requires
run-requires c =
    let n = c.len-count.ensures in (
      c.args.modules,
      begins_with c.args.modules c.args.modules _ c.in_ok-vec.field-0.items c.in_ok-all_places.field-0 c.new-2.result.items
          c.requires
          (subst (λ (k : ℕ). (p : ℕ) → Contains c.in_ok-all_places.field-0 p ↔ (p < k)) n c.in_ok-all_places.ensures)
          refl
          (c.waiting.view_is ∙ c.in_ok-waiting.ensures ∙ ap (λ (k : ℕ). replicate {A = List ℕ} k []) c.len.ensures)
          (c.in_ok-vec.ensures.items_if_clones_equal (λ y e. e) ∙ ap (λ (k : ℕ). replicate k true) n)
          c.new-2.ensures.items,
    )

pub returns : goal.returns
returns c =
    let n = c.len-count.ensures in
    c.in_ok-run.ensures c.args.modules (begins_with c.args.modules c.args.modules _ c.in_ok-vec.field-0.items c.in_ok-all_places.field-0 c.new-2.result.items
    c.requires
    (subst (λ (k : ℕ). (p : ℕ) → Contains c.in_ok-all_places.field-0 p ↔ (p < k)) n c.in_ok-all_places.ensures)
    refl
    (c.waiting.view_is ∙ c.in_ok-waiting.ensures ∙ ap (λ (k : ℕ). replicate {A = List ℕ} k []) c.len.ensures)
    (c.in_ok-vec.ensures.items_if_clones_equal (λ y e. e) ∙ ap (λ (k : ℕ). replicate k true) n)
    c.new-2.ensures.items)
