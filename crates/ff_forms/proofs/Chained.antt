-- A statement is an assignment exactly where a designator chain stands in front of `=`.
use Rattle.std.proofs.Common.{◌≡◌, Bool, true, false, List, [], ◌∷◌, ◌++◌, refl, ap, sym, ◌∙◌, subst, append-nil, append_assoc}
use Rattle.ff_expressions.specs.declared.item.Bracket.TheVariants.{Round}
use Rattle.ff_expressions.specs.declared.item.Item.{Item}
use Rattle.ff_expressions.specs.declared.item.Item.TheVariants.{Word, Group}
use Rattle.ff_expressions.specs.declared.item.Item.TheVariants as item
use Rattle.ff_expressions.specs.declared.item.Mark.TheVariants.{Percent, Equals}
use Rattle.ff_forms.specs.declared.chain.Seen.{Seen}
use Rattle.ff_forms.specs.declared.chain.Seen.TheVariants.{NameWanted, Chain, Assigned, Other}
use Rattle.ff_forms.specs.Actions.{seen_by, seen_in, is_assigned, is_assignment}
use Rattle.ff_forms.specs.Cases.{IsChain, IsAssigned}

one_by_one : (seen : Seen) (a b : List Item) → seen_in seen (a ++ b) ≡ seen_in (seen_in seen a) b
one_by_one seen [] b = refl
one_by_one seen (x ∷ a) b = one_by_one (seen_by seen x) a b

stays_assigned : (items : List Item) → seen_in Assigned items ≡ Assigned
unfolding seen_by
stays_assigned [] = refl
stays_assigned (x ∷ items) = stays_assigned items

stays_other : (items : List Item) → seen_in Other items ≡ Other
unfolding seen_by
stays_other [] = refl
stays_other (x ∷ items) = stays_other items

chain_seen : {items : List Item} → IsChain items → seen_in NameWanted items ≡ Chain
unfolding seen_by
chain_seen IsChain.name = refl
chain_seen (IsChain.listed {front = front} parts c) = one_by_one NameWanted front (Group Round parts ∷ []) ∙ ap (λ seen. seen_in seen (Group Round parts ∷ [])) (chain_seen c)
chain_seen (IsChain.component {front = front} name c) = one_by_one NameWanted front (item.Mark Percent ∷ Word name ∷ []) ∙ ap (λ seen. seen_in seen (item.Mark Percent ∷ Word name ∷ [])) (chain_seen c)

pub assigned_is : (items : List Item) → IsAssigned items → is_assignment items ≡ true
unfolding is_assignment is_assigned seen_by
assigned_is items a = ap is_assignment a.3
    ∙ ap is_assigned (one_by_one NameWanted a.0 (item.Mark Equals ∷ a.1) ∙ ap (λ seen. seen_in seen (item.Mark Equals ∷ a.1)) (chain_seen a.2) ∙ stays_assigned a.1)

-- and the other way
not_chain : Chain ≡ Assigned → ⊥
not_chain h = cc

not_wanted : NameWanted ≡ Assigned → ⊥
not_wanted h = cc

not_other : Other ≡ Assigned → ⊥
not_other h = cc

never_assigned : {A : Type 0} (items : List Item) → seen_in Other items ≡ Assigned → A
never_assigned items h = absurd (not_other (sym (stays_other items) ∙ h))

up_to_equals : (items front : List Item) → IsChain front → seen_in Chain items ≡ Assigned → (a : List Item) × (b : List Item) × (items ≡ a ++ item.Mark Equals ∷ b) × IsChain (front ++ a)
unfolding seen_by
up_to_equals [] front c h = absurd (not_chain h)
up_to_equals (Group Round parts ∷ items) front c h = let p = up_to_equals items (front ++ Group Round parts ∷ []) (IsChain.listed parts c) h in
    (Group Round parts ∷ p.0, p.1, ap (λ r. Group Round parts ∷ r) p.2, subst IsChain (append_assoc front (Group Round parts ∷ []) p.0) p.3)
up_to_equals (item.Mark Equals ∷ items) front c h = ([], items, refl, subst IsChain (sym (append-nil front)) c)
up_to_equals (item.Mark Percent ∷ []) front c h = absurd (not_wanted h)
up_to_equals (item.Mark Percent ∷ Word name ∷ items) front c h = let p = up_to_equals items (front ++ item.Mark Percent ∷ Word name ∷ []) (IsChain.component name c) h in
    (item.Mark Percent ∷ Word name ∷ p.0, p.1, ap (λ r. item.Mark Percent ∷ Word name ∷ r) p.2, subst IsChain (append_assoc front (item.Mark Percent ∷ Word name ∷ []) p.0) p.3)
up_to_equals (item.Mark Percent ∷ other ∷ items) front c h = never_assigned items h
up_to_equals (other ∷ items) front c h = never_assigned items h

ends_assigned : (seen : Seen) → is_assigned seen ≡ true → seen ≡ Assigned
unfolding is_assigned
ends_assigned Assigned e = refl
ends_assigned _ e = absurd (apart e)
  where
    apart : false ≡ true → ⊥
    apart e = cc

pub is_assigned_by_chain : (items : List Item) → is_assignment items ≡ true → IsAssigned items
unfolding is_assignment seen_by
is_assigned_by_chain [] e = absurd (not_wanted (ends_assigned NameWanted e))
is_assigned_by_chain (Word name ∷ items) e = let p = up_to_equals items (Word name ∷ []) IsChain.name (ends_assigned (seen_in Chain items) e) in
    (Word name ∷ p.0, p.1, p.3, ap (λ r. Word name ∷ r) p.2)
is_assigned_by_chain (other ∷ items) e = never_assigned items (ends_assigned (seen_in Other items) e)

-- so what is no assignment has no chain in front of `=`
pub unassigned : (items : List Item) → is_assignment items ≡ false → IsAssigned items → ⊥
unassigned items e a = apart (sym e ∙ assigned_is items a)
  where
    apart : false ≡ true → ⊥
    apart e = cc

pub not_assigned : (items : List Item) → (IsAssigned items → ⊥) → is_assignment items ≡ false
not_assigned items n = by (is_assignment items) refl
  where
    by : (t : Bool) → is_assignment items ≡ t → t ≡ false
    by true e = absurd (n (is_assigned_by_chain items e))
    by false e = refl
