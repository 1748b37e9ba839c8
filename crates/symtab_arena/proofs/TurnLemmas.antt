-- Names that are turned around, and those that are moved before others by three such turns.
use Rattle.std.proofs.Common.{◌≡◌, ℕ, ◌+◌, ◌-◌, ◌<◌, ◌≤◌, List, [], ◌∷◌, ◌++◌, length, take, drop, insert, swap, get_or, slice_index_or, refl, sym, ap, ◌∙◌, ◌⊎◌, inl, inr, arith}
use Rattle.std.proofs.lemmas.Bool.Decides.{leb_tells}
use Rattle.std.proofs.lemmas.List.{append_assoc, length-append, length-take, length-drop, take-append-le, drop-append-le, take_all, drop_all, get_or-take, get_or-drop, get_or_append_left, get_or-append_right, same_lists, take-append-drop}
use Rattle.std.proofs.lemmas.List.Edits.{insert_end, insert-append_right, length-swap, swapped_from_swap}
use Rattle.lf_base.specs.declared.id.SymId.{SymId}
use Rattle.symtab_arena.specs.Names.{Names, moved_before, IsTurned}
use Rattle.symtab_arena.proofs.EntryLemmas.{same_or}

below_or : (n m : ℕ) → (n < m) ⊎ (m ≤ n)
below_or n m = elim (leb_tells m n) [ inl p ↦ inr p.1 | inr p ↦ inl p.1 ]

-- The names before one place and from another on are turned, and those between are not yet.
pub record IsTurnedUpTo (old now : Names) (start end low high : ℕ) : Type 0 where
  pub same_length : length now ≡ length old
  pub starts : start ≤ low
  pub ends : high ≤ end
  pub meets : low ≤ high
  pub mirrors : low + high ≡ start + end
  pub below : (n : ℕ) (d : List ℕ × SymId) → n < start → slice_index_or now n d ≡ slice_index_or old n d
  pub turned_below : (n : ℕ) (d : List ℕ × SymId) → start ≤ n → n < low → slice_index_or now n d ≡ slice_index_or old (start + end - 1 - n) d
  pub between : (n : ℕ) (d : List ℕ × SymId) → low ≤ n → n < high → slice_index_or now n d ≡ slice_index_or old n d
  pub turned_above : (n : ℕ) (d : List ℕ × SymId) → high ≤ n → n < end → slice_index_or now n d ≡ slice_index_or old (start + end - 1 - n) d
  pub above : (n : ℕ) (d : List ℕ × SymId) → end ≤ n → slice_index_or now n d ≡ slice_index_or old n d

pub turn_begins : (old : Names) (start end : ℕ) → start ≤ end → IsTurnedUpTo old old start end start end
turn_begins old start end order = record {
  same_length = refl;
  starts = omega arith;
  ends = omega arith;
  meets = order;
  mirrors = refl;
  below = λ n d h. refl;
  turned_below = λ n d h l. absurd (omega (arith, h, l));
  between = λ n d h l. refl;
  turned_above = λ n d h l. absurd (omega (arith, h, l));
  above = λ n d h. refl;
}

module _ (old now : Names) (start end low high : ℕ) (so_far : IsTurnedUpTo old now start end low high) where
  read : (n m : ℕ) (d : List ℕ × SymId) → n ≡ m → slice_index_or old n d ≡ slice_index_or old m d
  read n m d e = ap (λ k. slice_index_or old k d) e

  pub turn_more : (last : ℕ) (next : Names) → low + 1 < high → last + 1 ≡ high → high ≤ length now → next ≡ swap now low last
      → IsTurnedUpTo old next start end (low + 1) last
  turn_more last next apart at within swapped =
      let starts = so_far.starts in
      let ends = so_far.ends in
      let mirrors = so_far.mirrors in
      let swaps = λ (d : List ℕ × SymId). swapped_from_swap now next low last d (omega arith) (omega arith) swapped in
      record {
        same_length = ap length swapped ∙ length-swap now low last ∙ so_far.same_length;
        starts = omega arith;
        ends = omega arith;
        meets = omega arith;
        mirrors = omega arith;
        below = λ n d h. (swaps d).2 n (λ e. omega (arith, e, h)) (λ e. omega (arith, e, h)) ∙ so_far.below n d h;
        turned_below = λ n d h l.
            elim (same_or n low) [
              | inl e ↦
                  ap (λ k. slice_index_or next k d) e ∙ (swaps d).0 ∙ so_far.between last d (omega arith) (omega arith)
                  ∙ read last (start + end - 1 - n) d (omega arith)
              | inr e ↦
                  let less : n < low = omega (arith, l, e) in
                  (swaps d).2 n e (λ q. omega (arith, q, less)) ∙ so_far.turned_below n d h less
            ];
        between = λ n d h l. (swaps d).2 n (λ e. omega (arith, e, h)) (λ e. omega (arith, e, l)) ∙ so_far.between n d (omega (arith, h)) (omega (arith, l));
        turned_above = λ n d h l.
            elim (same_or n last) [
              | inl e ↦
                  ap (λ k. slice_index_or next k d) e ∙ (swaps d).1 ∙ so_far.between low d (omega arith) (omega arith)
                  ∙ read low (start + end - 1 - n) d (omega arith)
              | inr e ↦
                  let more : high ≤ n = omega (arith, h, e) in
                  (swaps d).2 n (λ q. omega (arith, q, more)) e ∙ so_far.turned_above n d more l
            ];
        above = λ n d h. (swaps d).2 n (λ e. omega (arith, e, h)) (λ e. omega (arith, e, h)) ∙ so_far.above n d h;
      }

  pub turn_ends : high ≤ low + 1 → IsTurned old now start end
  turn_ends met =
      let meets = so_far.meets in
      let mirrors = so_far.mirrors in
      record {
        same_length = so_far.same_length;
        below = so_far.below;
        inside = λ n d h l.
            elim (below_or n low) [
              | inl less ↦ so_far.turned_below n d h less
              | inr past ↦ elim (below_or n high) [
                | inl less ↦ so_far.between n d past less ∙ read n (start + end - 1 - n) d (omega (arith, past, less))
                | inr more ↦ so_far.turned_above n d more l
              ]
            ];
        above = so_far.above;
      }

module _ (names : Names) (from to : ℕ) (order : to ≤ from) (within : from ≤ length names) where
  abbrev first : Names
  first = take to names

  abbrev moved : Names
  moved = drop from names

  abbrev rest : Names
  rest = drop to (take from names)

  length_first : length first ≡ to
  length_first = let a = length-take to names in omega arith

  length_moved : length moved ≡ length names - from
  length_moved = length-drop from names

  length_rest : length rest ≡ from - to
  length_rest = let a = length-drop to (take from names) in let b = length-take from names in omega arith

  pub length_moved_before : length (moved_before from to names) ≡ length names
  length_moved_before =
      let a = length_first in
      let b = length_moved in
      let c = length_rest in
      let d = length-append first (moved ++ rest) in
      let e = length-append moved rest in
      omega arith

  -- three turns move them
  pub moved_by_turns : (one two new : Names) → IsTurned names one to from → IsTurned one two from (length names) → IsTurned two new to (length names)
      → new ≡ moved_before from to names
  moved_by_turns one two new turn_one turn_two turn_three =
      same_lists new (moved_before from to names)
      (turn_three.same_length ∙ turn_two.same_length ∙ turn_one.same_length ∙ sym length_moved_before)
      (λ k d h.
      let all = length_moved_before in
      let long = turn_three.same_length ∙ turn_two.same_length ∙ turn_one.same_length in
      let less : k < length names = omega (arith, h, long) in
      elim (below_or k to) [
        | inl l ↦ before k d l
        | inr p ↦ elim (below_or k (to + (length names - from))) [ inl l ↦ among k d p l | inr q ↦ behind k d p q less ]
      ])
    where
      before : (k : ℕ) (d : List ℕ × SymId) → k < to → get_or new k d ≡ get_or (moved_before from to names) k d
      before k d l =
          let a = length_first in
          turn_three.below k d l ∙ turn_two.below k d (omega (arith, l)) ∙ turn_one.below k d l
          ∙ sym (get_or_append_left first (moved ++ rest) d k (omega arith) ∙ get_or-take to names k d l)

      among : (k : ℕ) (d : List ℕ × SymId) → to ≤ k → k < to + (length names - from) → get_or new k d ≡ get_or (moved_before from to names) k d
      among k d p l =
          let a = length_first in
          let b = length_moved in
          turn_three.inside k d p (omega arith)
          ∙ turn_two.inside (to + length names - 1 - k) d (omega arith) (omega arith)
          ∙ turn_one.above (from + length names - 1 - (to + length names - 1 - k)) d (omega arith)
          ∙ ap (λ n. get_or names n d) (omega arith)
          ∙ sym
          (get_or-append_right first (moved ++ rest) to k d length_first p
          ∙ get_or_append_left moved rest d (k - to) (omega arith)
          ∙ get_or-drop from names (k - to) d)

      behind : (k : ℕ) (d : List ℕ × SymId) → to ≤ k → to + (length names - from) ≤ k → k < length names → get_or new k d ≡ get_or (moved_before from to names) k d
      behind k d p q less =
          let a = length_first in
          let b = length_moved in
          turn_three.inside k d p less
          ∙ turn_two.below (to + length names - 1 - k) d (omega arith)
          ∙ turn_one.inside (to + length names - 1 - k) d (omega arith) (omega arith)
          ∙ ap (λ n. get_or names n d) (omega arith)
          ∙ sym
          (get_or-append_right first (moved ++ rest) to k d length_first p
          ∙ get_or-append_right moved rest (length names - from) (k - to) d length_moved (omega arith)
          ∙ get_or-drop to (take from names) (k - to - (length names - from)) d
          ∙ get_or-take from names (to + (k - to - (length names - from))) d (omega arith))

  -- one more at the end is one more behind those that are moved
  pub moved-insert : (e : List ℕ × SymId)
      → moved_before from to (insert names (length names) e) ≡ insert (moved_before from to names) (to + (length names - from)) e
  moved-insert e =
      ap (moved_before from to) (insert_end names e)
      ∙ (λ i. take-append-le to names (e ∷ []) (omega arith) i ++ (drop-append-le from names (e ∷ []) within i ++ drop to (take-append-le from names (e ∷ []) within i)))
      ∙ ap (λ es. first ++ es) (append_assoc moved (e ∷ []) rest)
      ∙ sym
      (insert-append_right first (moved ++ rest) to (to + (length names - from)) e length_first (omega arith)
      ∙ ap (λ es. first ++ es)
      (insert-append_right moved rest (length names - from) (to + (length names - from) - to) e length_moved (omega arith)
      ∙ ap (λ n. moved ++ insert rest n e) zero_is))
    where
      zero_is : to + (length names - from) - to - (length names - from) ≡ 0
      zero_is = omega arith

-- with none behind them nothing moves
pub moved-none : (names : Names) (to : ℕ) → moved_before (length names) to names ≡ names
moved-none names to =
    (λ i. take to names ++ (drop_all (length names) names (omega arith) i ++ drop to (take_all (length names) names (omega arith) i)))
    ∙ take-append-drop to names
