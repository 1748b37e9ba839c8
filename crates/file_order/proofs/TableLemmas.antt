-- Which places hold and use the modules.
use Rattle.std.proofs.Common.{◌≡◌, ◌≢◌, ◌↔◌, ◌<◌, ◌≤◌, ◌+◌, ◌⊎◌, inl, inr, ⊎_elim, ℕ, Option, Some, None, IfSome, IfNone, List, [], ◌∷◌, ◌++◌, length, set, map, replicate, sym, ◌∙◌, ap, subst, refl, arith}
use Rattle.std.specs.List.{Contains}
use Rattle.std.specs.BTreeMap.{btree_map_len}
use Rattle.std.proofs.lemmas.Bool.{cases_eq}
use Rattle.std.proofs.lemmas.List.{length-set, length-map, length-replicate, get_or_past}
use Rattle.std.proofs.lemmas.List.Elements.{Contains-append_left, Contains-push, Contains-push_cases}
use Rattle.ast_nodes.specs.declared.file.File.{File}
use Rattle.file_order.specs.declared.modules.Modules.{Modules}
use Rattle.file_order.specs.Modules.{at_place, held_by, used_by}
use Rattle.file_order.specs.Numbers.{Numbers, numbers_in, HaveNumbers, IsNumbering}
use Rattle.file_order.specs.Search.{row_at, IsListed, IsFalling}
use Rattle.file_order.specs.Tables.{IsDownTo, IsNoted, IsInverse, IsTableOf}
use Rattle.file_order.proofs.Falling.{last_in, row_other, row_same, falling_none, falling_last, falling_push}
use Rattle.file_order.proofs.Lists.{not_in_none}
use Rattle.file_order.proofs.NumberLemmas.{listed_is, is_listed}
use Rattle.file_order.proofs.SearchLemmas.{empty_rows}

pub noted_none : (place : ℕ) (P : ℕ → Type 0) (old : List (List ℕ)) → ((m : ℕ) → P m → IsListed old place m) → IsNoted place P old old
noted_none place P old there = record {
  count = refl;
  listed = λ p m. (
    λ h. inl h,
    λ h. ⊎_elim (λ (was : IsListed old p m). was) (λ (now : (p ≡ place) × P m). subst (λ (x : ℕ). IsListed old x m) (sym now.0) (there m now.1)) h,
  );
  down = λ d. d;
}

pub noted_as : (place : ℕ) (P Q : ℕ → Type 0) (old new : List (List ℕ)) → ((m : ℕ) → P m → Q m) → ((m : ℕ) → Q m → P m) → IsNoted place P old new → IsNoted place Q old new
noted_as place P Q old new to from n = record {
  count = n.count;
  listed = λ p m. (
    λ h. ⊎_elim (λ (was : IsListed old p m). inl was) (λ (now : (p ≡ place) × P m). inr (now.0, to m now.1)) ((n.listed p m).0 h),
    λ h. (n.listed p m).1 (⊎_elim (λ (was : IsListed old p m). inl was) (λ (now : (p ≡ place) × Q m). inr (now.0, from m now.1)) h),
  );
  down = n.down;
}

pub noted_both : (place : ℕ) (P Q : ℕ → Type 0) (old mid new : List (List ℕ)) → IsNoted place P old mid → IsNoted place Q mid new → IsNoted place (λ m. P m ⊎ Q m) old new
noted_both place P Q old mid new s t = record {
  count = t.count ∙ s.count;
  listed = λ p m. (
    λ h. ⊎_elim
        (λ (was : IsListed mid p m).
        ⊎_elim
        (λ (long : IsListed old p m). inl long)
        (λ (lately : (p ≡ place) × P m). inr (lately.0, inl lately.1))
        ((s.listed p m).0 was))
        (λ (now : (p ≡ place) × Q m). inr (now.0, inr now.1))
        ((t.listed p m).0 h),
    λ h. (t.listed p m).1 (⊎_elim
        (λ (long : IsListed old p m). inl ((s.listed p m).1 (inl long)))
        (λ (lately : (p ≡ place) × (P m ⊎ Q m)).
        ⊎_elim
        (λ (first : P m). inl ((s.listed p m).1 (inr (lately.0, first))))
        (λ (second : Q m). inr (lately.0, second))
        lately.1)
        h),
  );
  down = λ d. t.down (s.down d);
}

pub noted_more : (place m : ℕ) (modules : List ℕ) (old mid new : List (List ℕ)) → IsNoted place (Contains modules) old mid → IsNoted place (λ x. x ≡ m) mid new → IsNoted place (Contains (modules ++ m ∷ [])) old new
noted_more place m modules old mid new s t =
    noted_as place (λ x. Contains modules x ⊎ (x ≡ m)) (Contains (modules ++ m ∷ [])) old new
    (λ x h. ⊎_elim
    (λ (was : Contains modules x). Contains-append_left modules (m ∷ []) x was)
    (λ (is : x ≡ m). subst (λ (y : ℕ). Contains (modules ++ m ∷ []) y) (sym is) (Contains-push modules m))
    h)
    (λ x h. ⊎_elim
    (λ (was : Contains modules x). inl was)
    (λ (is : m ≡ x). inr (sym is))
    (Contains-push_cases modules m x h))
    (noted_both place (Contains modules) (λ x. x ≡ m) old mid new s t)

-- the place is the last of the row already
pub noted_again : (place m : ℕ) (old : List (List ℕ)) (o : Option ℕ) → IfSome o (λ x. (front : List ℕ) × (row_at old m ≡ front ++ x ∷ [])) → o ≡ Some place → IsNoted place (λ x. x ≡ m) old old
noted_again place m old None last is = let never : None ≡ Some place = is in absurd cc
noted_again place m old (Some x) last is =
    let same : x ≡ place = cc in
    noted_none place (λ y. y ≡ m) old (λ y e. subst (λ (z : ℕ). IsListed old place z) (sym e) (subst (λ (z : ℕ). IsListed old z m) same (last_in (row_at old m) last.0 x last.1)))

-- the place is not the last of the row, and so in front of none of it
above : (place m : ℕ) (old : List (List ℕ)) (o : Option ℕ) → IfSome o (λ x. (front : List ℕ) × (row_at old m ≡ front ++ x ∷ [])) → IfNone o (row_at old m ≡ []) → (o ≡ Some place → ⊥) → IsDownTo place old → (q : ℕ) → IsListed old q m → place < q
above place m old None last none other d q h = absurd (not_in_none q (subst (λ (xs : List ℕ). Contains xs q) none h))
above place m old (Some x) last none other d q h =
    let apart : x ≢ place = λ e. other (ap Some e) in
    let upto : place ≤ x = d.least x m (last_in (row_at old m) last.0 x last.1) in
    ⊎_elim
    (λ (front : Contains last.0 q). let less = falling_last last.0 x q (subst IsFalling last.1 (d.falling m)) front in omega (arith, less, upto))
    (λ (same : x ≡ q). omega (arith, same, upto, apart))
    (Contains-push_cases last.0 x q (subst (λ (xs : List ℕ). Contains xs q) last.1 h))

pub noted_one : (place m : ℕ) (old new : List (List ℕ)) (o : Option ℕ) → IfSome o (λ x. (front : List ℕ) × (row_at old m ≡ front ++ x ∷ [])) → IfNone o (row_at old m ≡ []) → (o ≡ Some place → ⊥) → m < length old → new ≡ set old m (row_at old m ++ place ∷ []) → IsNoted place (λ x. x ≡ m) old new
noted_one place m old new o last none other within e =
    let here : row_at new m ≡ row_at old m ++ place ∷ [] = row_same old new m (row_at old m ++ place ∷ []) e within in
    let there : (b : ℕ) → b ≢ m → row_at new b ≡ row_at old b = λ b apart. row_other old new m b (row_at old m ++ place ∷ []) e apart in
    let to : (p b : ℕ) → IsListed new p b → IsListed old p b ⊎ ((p ≡ place) × (b ≡ m)) = λ p b h.
    ⊎_elim
    (λ (same : b ≡ m).
    ⊎_elim
    (λ (was : Contains (row_at old m) p). inl (subst (λ (x : ℕ). IsListed old p x) (sym same) was))
    (λ (is : place ≡ p). inr (sym is, same))
    (Contains-push_cases (row_at old m) place p (subst (λ (xs : List ℕ). Contains xs p) (ap (row_at new) same ∙ here) h)))
    (λ (apart : b ≢ m). inl (subst (λ (xs : List ℕ). Contains xs p) (there b apart) h))
    (cases_eq b m) in
    let from : (p b : ℕ) → IsListed old p b ⊎ ((p ≡ place) × (b ≡ m)) → IsListed new p b = λ p b h.
    ⊎_elim
    (λ (same : b ≡ m).
    subst (λ (xs : List ℕ). Contains xs p) (sym here ∙ ap (row_at new) (sym same))
    (⊎_elim
    (λ (was : IsListed old p b). Contains-append_left (row_at old m) (place ∷ []) p (subst (λ (x : ℕ). IsListed old p x) same was))
    (λ (now : (p ≡ place) × (b ≡ m)). subst (λ (y : ℕ). Contains (row_at old m ++ place ∷ []) y) (sym now.0) (Contains-push (row_at old m) place))
    h))
    (λ (apart : b ≢ m).
    ⊎_elim
    (λ (was : IsListed old p b). subst (λ (xs : List ℕ). Contains xs p) (sym (there b apart)) was)
    (λ (now : (p ≡ place) × (b ≡ m)). absurd (apart now.1))
    h)
    (cases_eq b m) in
    record {
      count = ap length e ∙ length-set old m (row_at old m ++ place ∷ []);
      listed = λ p b. (to p b, from p b);
      down = λ d. record {
        falling = λ b.
            ⊎_elim
            (λ (same : b ≡ m). subst IsFalling (sym here ∙ ap (row_at new) (sym same)) (falling_push (row_at old m) place (d.falling m) (above place m old o last none other d)))
            (λ (apart : b ≢ m). subst IsFalling (sym (there b apart)) (d.falling b))
            (cases_eq b m);
        least = λ p b h.
            ⊎_elim
            (λ (was : IsListed old p b). d.least p b was)
            (λ (now : (p ≡ place) × (b ≡ m)). let same = now.0 in omega (arith, same))
            (to p b h);
      };
    }

-- The rows of the modules list the places from one on that have the modules in their rows.
pub record IsInverseFrom (held : List (List ℕ)) (count place : ℕ) (holders : List (List ℕ)) : Type 0 where
  pub count_is : length holders ≡ count
  pub down : IsDownTo place holders
  pub listed : (p m : ℕ) → IsListed holders p m ↔ ((place ≤ p) × IsListed held m p)

past_rows : (held : List (List ℕ)) (m p : ℕ) → length held ≤ p → IsListed held m p → ⊥
past_rows held m p past h = not_in_none m (subst (λ (xs : List ℕ). Contains xs m) (get_or_past held p [] past) h)

pub inverse_none : (held : List (List ℕ)) (count place : ℕ) (holders : List (List ℕ)) → length held ≤ place → holders ≡ replicate count [] → IsInverseFrom held count place holders
inverse_none held count place holders past e =
    let empty : (m : ℕ) → row_at holders m ≡ [] = λ m. ap (λ (x : List (List ℕ)). row_at x m) e ∙ empty_rows count m in
    let never : (p m : ℕ) → IsListed holders p m → ⊥ = λ p m h. not_in_none p (subst (λ (xs : List ℕ). Contains xs p) (empty m) h) in
    record {
      count_is = ap length e ∙ length-replicate {A = List ℕ} count [];
      down = record {
        falling = λ m. subst IsFalling (sym (empty m)) falling_none;
        least = λ p m h. absurd (never p m h);
      };
      listed = λ p m. (λ h. absurd (never p m h), λ h. absurd (past_rows held m p (omega (arith, h.0, past)) h.1));
    }

pub inverse_more : (held : List (List ℕ)) (count from place : ℕ) (old new : List (List ℕ)) → from ≡ place + 1 → IsInverseFrom held count from old → IsNoted place (Contains (row_at held place)) old new → IsInverseFrom held count place new
inverse_more held count from place old new next i n = record {
  count_is = n.count ∙ i.count_is;
  down = n.down (record { falling = i.down.falling; least = λ p m h. let upto = i.down.least p m h in omega (arith, upto, next) });
  listed = λ p m. (
    λ h. ⊎_elim
        (λ (was : IsListed old p m). let both = (i.listed p m).0 was in (omega (arith, both.0, next), both.1))
        (λ (now : (p ≡ place) × Contains (row_at held place) m). (omega (arith, now.0), subst (λ (x : ℕ). IsListed held m x) (sym now.0) now.1))
        ((n.listed p m).0 h),
    λ h. (n.listed p m).1 (⊎_elim
        (λ (same : p ≡ place). inr (same, subst (λ (x : ℕ). IsListed held m x) same h.1))
        (λ (other : p ≢ place). inl ((i.listed p m).1 (omega (arith, h.0, other, next), h.1)))
        (cases_eq p place)),
  );
}

pub inverse_all : (held : List (List ℕ)) (count place : ℕ) (holders : List (List ℕ)) → place ≤ 0 → IsInverseFrom held count place holders → IsInverse held count holders
inverse_all held count place holders none i = record {
  count_is = i.count_is;
  falling = i.down.falling;
  listed = λ p m. (λ h. ((i.listed p m).0 h).1, λ h. (i.listed p m).1 (omega (arith, none), h));
}

-- the numbers of names are below their count
pub row_below : (numbers : Numbers) (names : File → List (List ℕ)) (files : List File) (rows : List (List ℕ)) → IsNumbering numbers → rows ≡ map (λ file. numbers_in numbers (names file)) files → (m p : ℕ) → IsListed rows m p → m < btree_map_len numbers
row_below numbers names files rows n e m p h = let found = listed_is numbers names files rows m p e h in n.below found.0 m found.2

pub table_of : (files : List File) (numbers : Numbers) (t : Modules) → IsNumbering numbers → ((p : ℕ) → HaveNumbers numbers (at_place held_by files p)) → t.held ≡ map (λ file. numbers_in numbers (held_by file)) files → t.uses ≡ map (λ file. numbers_in numbers (used_by file)) files → IsInverse t.held (btree_map_len numbers) t.holders → IsTableOf files t
table_of files numbers t n named held uses i = record {
  table = record {
    falling = i.falling;
    same = ap length held ∙ length-map files (λ (file : File). numbers_in numbers (held_by file)) ∙ sym (length-map files (λ (file : File). numbers_in numbers (used_by file))) ∙ sym (ap length uses);
    noted = λ a m h. (i.listed a m).0 h;
    held_below = λ m a h. let less = row_below numbers held_by files t.held n held m a h in omega (arith, less, i.count_is);
    used_below = λ m b h. let less = row_below numbers used_by files t.uses n uses m b h in omega (arith, less, i.count_is);
  };
  count = ap length uses ∙ length-map files (λ (file : File). numbers_in numbers (used_by file));
  before = λ a b. (
    λ h.
        let x = listed_is numbers held_by files t.held h.1.0 a held ((i.listed a h.1.0).0 h.1.1) in
        let y = listed_is numbers used_by files t.uses h.1.0 b uses h.1.2 in
        (h.0, (x.0, x.1, subst (λ (name : List ℕ). Contains (at_place used_by files b) name) (n.one y.0 x.0 h.1.0 y.2 x.2) y.1)),
    λ h.
        let number = named a h.1.0 h.1.1 in
        (h.0, (number.0, (i.listed a number.0).1 (is_listed numbers held_by files t.held number.0 a h.1.0 held h.1.1 number.1), is_listed numbers used_by files t.uses number.0 b h.1.0 uses h.1.2 number.1)),
  );
}
