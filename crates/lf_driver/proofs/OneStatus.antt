-- A verdict has one status, since files have not both an order and a cycle.
use Rattle.std.proofs.Common.{◌≡◌, ℕ, List, length, inl, inr, sym, ◌∙◌}
use Rattle.ast_nodes.specs.declared.file.File.{File}
use Rattle.file_order.specs.Answers.{IsLeastFileOrder, IsNamedCycle}
use Rattle.file_order.specs.Modules.{MustPrecede}
use Rattle.file_order.proofs.Greedy.{no_order}
use Rattle.lf_driver.specs.Answers.{IsStatusBy}
use Rattle.lf_driver.specs.Verdict.{Verdict, Refuses, Compiled, Shown, Sorts}

not_both : (trees : List File) (order places : List ℕ) → IsLeastFileOrder trees order → IsNamedCycle trees places → ⊥
not_both trees order places h k = no_order (length trees) (MustPrecede trees) order h.valid _ k.walk.first.0

pub one_status : (v : Verdict) (s t : ℕ) → IsStatusBy v s → IsStatusBy v t → s ≡ t
one_status (Compiled files) s t h k = h ∙ sym k
one_status (Shown text) s t h k = h ∙ sym k
one_status (Sorts names trees) s t (inl h) (inl k) = h.0 ∙ sym k.0
one_status (Sorts names trees) s t (inl h) (inr k) = absurd (not_both trees h.1.0 k.1.0 h.1.1 k.1.1)
one_status (Sorts names trees) s t (inr h) (inl k) = absurd (not_both trees k.1.0 h.1.0 k.1.1 h.1.1)
one_status (Sorts names trees) s t (inr h) (inr k) = h.0 ∙ sym k.0
one_status (Refuses refused) s t h k = h ∙ sym k
