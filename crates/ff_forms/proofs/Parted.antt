-- Items taken apart at a mark are those that stand round it.
use Rattle.std.proofs.Common.{◌≡◌, ◌+◌, Bool, true, false, List, [], ◌∷◌, ◌++◌, refl, ap, sym, ◌∙◌, subst, append-nil, append_assoc, eqb-true, arith}
use Rattle.std.specs.Prelude.{if◌then◌else◌}
use Rattle.ff_expressions.specs.declared.item.Item.{Item}
use Rattle.ff_expressions.specs.declared.item.Item.TheVariants as item
use Rattle.ff_expressions.specs.declared.item.Mark.{Mark}
use Rattle.ff_expressions.specs.declared.item.Mark.TheVariants as mark
use Rattle.ff_expressions.specs.Pieces.{is_mark, pieces_from, pieces_of}
use Rattle.ff_forms.specs.Cases.{Lacks}
use Rattle.ff_forms.proofs.Readings.{first_piece}

false_is_true : {A : Type 0} → false ≡ true → A
false_is_true e = absurd (apart e)
  where
    apart : false ≡ true → ⊥
    apart e = cc

pub comma_is : (x : Item) → is_mark mark.Comma x ≡ true → x ≡ item.Mark mark.Comma
comma_is (item.Mark mark.Comma) e = refl
comma_is (item.Mark (mark.Operator code)) e = let h : code + 6 ≡ 0 = eqb-true (code + 6) 0 e in absurd (omega arith)
comma_is other e = false_is_true e

pub colons_is : (x : Item) → is_mark mark.DoubleColon x ≡ true → x ≡ item.Mark mark.DoubleColon
colons_is (item.Mark mark.DoubleColon) e = refl
colons_is (item.Mark (mark.Operator code)) e = let h : code + 6 ≡ 2 = eqb-true (code + 6) 2 e in absurd (omega arith)
colons_is other e = false_is_true e

pub equals_is : (x : Item) → is_mark mark.Equals x ≡ true → x ≡ item.Mark mark.Equals
equals_is (item.Mark mark.Equals) e = refl
equals_is (item.Mark (mark.Operator code)) e = let h : code + 6 ≡ 3 = eqb-true (code + 6) 3 e in absurd (omega arith)
equals_is other e = false_is_true e

-- items without the mark are one piece
pub whole_from : (at : Mark) (front items : List Item) → Lacks at items → pieces_from at front items ≡ (front ++ items) ∷ []
whole_from at front [] l = ap (λ piece. piece ∷ []) (sym (append-nil front))
whole_from at front (x ∷ items) l = rw l.0 (whole_from at (front ++ x ∷ []) items l.1 ∙ ap (λ piece. piece ∷ []) (append_assoc front (x ∷ []) items))

pub whole : (at : Mark) (items : List Item) → Lacks at items → pieces_of at items ≡ items ∷ []
whole at items l = whole_from at [] items l

parted_from : (at : Mark) (front a : List Item) (x : Item) (b : List Item) → Lacks at a → is_mark at x ≡ true → pieces_from at front (a ++ x ∷ b) ≡ (front ++ a) ∷ pieces_of at b
parted_from at front [] x b l e = rw e (ap (λ piece. piece ∷ pieces_of at b) (sym (append-nil front)))
parted_from at front (y ∷ a) x b l e = rw l.0 (parted_from at (front ++ y ∷ []) a x b l.1 e ∙ ap (λ piece. piece ∷ pieces_of at b) (append_assoc front (y ∷ []) a))

-- those in front of the first mark are the first piece
pub parted : (at : Mark) (a : List Item) (x : Item) (b : List Item) → Lacks at a → is_mark at x ≡ true → pieces_of at (a ++ x ∷ b) ≡ a ∷ pieces_of at b
parted at a x b l e = parted_from at [] a x b l e

-- and the other way
some_piece : (at : Mark) (front items : List Item) → pieces_from at front items ≡ [] → ⊥
some_piece at front items h = let p = first_piece at front items in apart (front ++ p.0) p.1 (sym p.2 ∙ h)
  where
    apart : (q : List Item) (qs : List (List Item)) → q ∷ qs ≡ [] → ⊥
    apart q qs h = cc

head_same : (a b : List Item) (more others : List (List Item)) → a ∷ more ≡ b ∷ others → a ≡ b
head_same a b more others h = cc

tail_same : (a b : List Item) (more others : List (List Item)) → a ∷ more ≡ b ∷ others → more ≡ others
tail_same a b more others h = cc

not_longer : (b : List Item) (bs : List (List Item)) → [] ≡ b ∷ bs → ⊥
not_longer b bs h = cc

one_from : (at : Mark) (front items piece : List Item) → pieces_from at front items ≡ piece ∷ [] → (piece ≡ front ++ items) × Lacks at items
one_from at front [] piece h = (sym (head_same front piece [] [] h) ∙ sym (append-nil front), tt)
one_from at front (x ∷ items) piece h = by (λ h. one_from at (front ++ x ∷ []) items piece h) (is_mark at x) refl h
  where
    by : (pieces_from at (front ++ x ∷ []) items ≡ piece ∷ [] → (piece ≡ (front ++ x ∷ []) ++ items) × Lacks at items) → (t : Bool) → is_mark at x ≡ t → (if t then front ∷ pieces_from at [] items else pieces_from at (front ++ x ∷ []) items) ≡ piece ∷ [] → (piece ≡ front ++ x ∷ items) × Lacks at (x ∷ items)
    by again true e h = absurd (some_piece at [] items (tail_same front piece (pieces_from at [] items) [] h))
    by again false e h = let p = again h in (p.0 ∙ append_assoc front (x ∷ []) items, (e, p.1))

pub one_piece : (at : Mark) (items piece : List Item) → pieces_of at items ≡ piece ∷ [] → (piece ≡ items) × Lacks at items
one_piece at items piece h = one_from at [] items piece h

more_from : (at : Mark) (front items first second : List Item) (pieces : List (List Item)) → pieces_from at front items ≡ first ∷ second ∷ pieces
    → (a : List Item) × (x : Item) × (b : List Item) × (first ≡ front ++ a) × (items ≡ a ++ x ∷ b) × Lacks at a × (is_mark at x ≡ true) × (pieces_of at b ≡ second ∷ pieces)
more_from at front [] first second pieces h = absurd (not_longer second pieces (tail_same front first [] (second ∷ pieces) h))
more_from at front (y ∷ items) first second pieces h = by (λ h. more_from at (front ++ y ∷ []) items first second pieces h) (is_mark at y) refl h
  where
    by : (pieces_from at (front ++ y ∷ []) items ≡ first ∷ second ∷ pieces
        → (a : List Item) × (x : Item) × (b : List Item) × (first ≡ (front ++ y ∷ []) ++ a) × (items ≡ a ++ x ∷ b) × Lacks at a × (is_mark at x ≡ true) × (pieces_of at b ≡ second ∷ pieces))
        → (t : Bool) → is_mark at y ≡ t → (if t then front ∷ pieces_from at [] items else pieces_from at (front ++ y ∷ []) items) ≡ first ∷ second ∷ pieces
        → (a : List Item) × (x : Item) × (b : List Item) × (first ≡ front ++ a) × (y ∷ items ≡ a ++ x ∷ b) × Lacks at a × (is_mark at x ≡ true) × (pieces_of at b ≡ second ∷ pieces)
    by again true e h = ([], y, items, sym (head_same front first (pieces_from at [] items) (second ∷ pieces) h) ∙ sym (append-nil front), refl, tt, e, tail_same front first (pieces_from at [] items) (second ∷ pieces) h)
    by again false e h = let p = again h in
        (y ∷ p.0, p.1, p.2, p.3 ∙ append_assoc front (y ∷ []) p.0, ap (λ r. y ∷ r) p.4, (e, p.5), p.6, p.7)

pub more_pieces : (at : Mark) (items first second : List Item) (pieces : List (List Item)) → pieces_of at items ≡ first ∷ second ∷ pieces
    → (x : Item) × (b : List Item) × (is_mark at x ≡ true) × (items ≡ first ++ x ∷ b) × Lacks at first × (pieces_of at b ≡ second ∷ pieces)
more_pieces at items first second pieces h = let p = more_from at [] items first second pieces h in
    (p.1, p.2, p.6, subst (λ a. items ≡ a ++ p.1 ∷ p.2) (sym p.3) p.4, subst (λ a. Lacks at a) (sym p.3) p.5, p.7)

pub two_pieces : (at : Mark) (items first second : List Item) → pieces_of at items ≡ first ∷ second ∷ []
    → (x : Item) × (is_mark at x ≡ true) × (items ≡ first ++ x ∷ second) × Lacks at first × Lacks at second
two_pieces at items first second h = let p = more_pieces at items first second [] h in let q = one_piece at p.1 second p.5 in
    (p.0, p.2, subst (λ b. items ≡ first ++ p.0 ∷ b) (sym q.0) p.3, p.4, subst (λ b. Lacks at b) (sym q.0) q.1)
