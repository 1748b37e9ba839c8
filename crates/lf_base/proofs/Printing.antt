-- Several pieces that are put one behind another.
use Rattle.std.proofs.Common.{ℕ, List, [], ◌∷◌, ◌++◌, Option, Some, sym, ap, ◌∙◌, append_assoc, append-nil}
use Rattle.lf_base.specs.Contents.{Appends, AppendsPart, joined, Awaits}

pub appends_none : (a : Option (List ℕ)) → Appends a a (joined [])
unfolding joined
appends_none a = record { bytes = λ held e. e ∙ ap Some (sym (append-nil held)) }

pub appends_more : (a b c : Option (List ℕ)) (p : List ℕ) (ps : List (List ℕ)) → Appends a b p → Appends b c (joined ps) → Appends a c (joined (p ∷ ps))
unfolding joined
appends_more a b c p ps h k = record { bytes = λ held e. k.bytes (held ++ p) (h.bytes held e) ∙ ap Some (append_assoc held p (joined ps)) }

pub part_first : (a b : Option (List ℕ)) (p : List ℕ) (ps : List (List ℕ)) → AppendsPart a b p → AppendsPart a b (joined (p ∷ ps))
unfolding joined
part_first a b p ps h = record { bytes = λ held e. let x = h.bytes held e in (x.0, x.1 ++ joined ps, ap (λ t. t ++ joined ps) x.2 ∙ append_assoc x.0 x.1 (joined ps), x.3) }

pub part_more : (a b c : Option (List ℕ)) (p : List ℕ) (ps : List (List ℕ)) → Appends a b p → AppendsPart b c (joined ps) → AppendsPart a c (joined (p ∷ ps))
unfolding joined
part_more a b c p ps h k =
    record {
      bytes = λ held e.
          let x = k.bytes (held ++ p) (h.bytes held e) in
          (p ++ x.0, x.1, ap (λ t. p ++ t) x.2 ∙ sym (append_assoc p x.0 x.1), x.3 ∙ ap Some (append_assoc held p x.0));
    }

pub ruleset printing = (appends_none, appends_more, part_first, part_more)

-- a loop over pieces begins
pub awaits_all : (a : Option (List ℕ)) (all : List (List ℕ)) → Awaits a a all all
awaits_all a all = record { whole = λ c h. h; part = λ c h. h }

-- goes on by one piece
pub awaits_rest : (a b c : Option (List ℕ)) (all : List (List ℕ)) (p : List ℕ) (rest : List (List ℕ)) → Awaits a b all (p ∷ rest) → Appends b c p → Awaits a c all rest
awaits_rest a b c all p rest w h = record {
  whole = λ d k. w.whole d (appends_more b c d p rest h k);
  part = λ d k. w.part d (part_more b c d p rest h k);
}

-- ends
pub awaits_none : (a b : Option (List ℕ)) (all : List (List ℕ)) → Awaits a b all [] → Appends a b (joined all)
awaits_none a b all w = w.whole b (appends_none b)

-- or is cut short
pub awaits_part : (a b c : Option (List ℕ)) (all : List (List ℕ)) (p : List ℕ) (rest : List (List ℕ)) → Awaits a b all (p ∷ rest) → AppendsPart b c p → AppendsPart a c (joined all)
awaits_part a b c all p rest w h = w.part c (part_first b c p rest h)

pub ruleset looping = (awaits_all, awaits_rest, awaits_none, awaits_part)
