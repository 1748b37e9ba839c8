-- A front of the bytes that are left, handed over.
use Rattle.std.proofs.Common.{◌≡◌, ℕ, ◌+◌, ◌-◌, ◌≤◌, ◌<◌, min, List, [], ◌++◌, length, take, drop, Some, refl, sym, ap, subst, ◌∙◌, arith, length-append, length-drop, length-take}
use Rattle.std.proofs.lemmas.List.{take-append-drop, drop-drop, nil_from_length}
use Rattle.std.proofs.Math.Seq.{take-append_seam}
use Rattle.lf_base.specs.Contents.{HandsOver}

module _ (bytes piece rest : List ℕ) (taken n : ℕ) (size : ℕ) (inside : taken ≤ length bytes) (count : n ≡ min (length bytes - taken) size) (copied : piece ≡ take n (drop taken bytes)) (room : length rest ≡ size - n) where
  long : length piece ≡ n
  long = ap length copied ∙ length-take n (drop taken bytes) ∙ omega (arith, length-drop taken bytes)

  front : take n (piece ++ rest) ≡ piece
  front = subst (λ k. take k (piece ++ rest) ≡ piece) long (take-append_seam piece rest)

  seam : drop taken bytes ≡ take n (piece ++ rest) ++ drop (taken + n) bytes
  seam = sym (take-append-drop n (drop taken bytes)) ∙ ap (λ t. t ++ drop n (drop taken bytes)) (sym copied ∙ sym front) ∙ ap (λ t. take n (piece ++ rest) ++ t) (drop-drop n taken bytes)

  all_taken : n ≡ 0 → 0 < length (piece ++ rest) → drop taken bytes ≡ []
  all_taken none some = nil_from_length (drop taken bytes) (omega (arith, length-append piece rest, length-drop taken bytes, long))

  pub hands_over : HandsOver (Some (drop taken bytes)) (Some (drop (taken + n) bytes)) (piece ++ rest) n
  hands_over = record {
    within = omega (arith, length-append piece rest, long);
    bytes = λ left e. let is : drop taken bytes ≡ left = cc in (drop (taken + n) bytes, sym is ∙ seam, refl);
    end = λ left e none some. let is : drop taken bytes ≡ left = cc in sym is ∙ all_taken none some;
  }
