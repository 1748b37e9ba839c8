-- Several printing functions, one behind another.
use Rattle.std.proofs.Common.{◌≡◌, ℕ, Bool, List, [], ◌∷◌, ◌++◌, Option, refl, sym, subst, ap, codes, ◌∙◌, append-nil, append_assoc}
use Rattle.std.proofs.lemmas.Grind.{common_steps}
use Rattle.lf_base.specs.Contents.{joined}
use Rattle.lf_base.specs.Puts.{Puts, Causes}
use Rattle.lf_base.proofs.Chains.{puts_none, puts_more, causes_none, causes_more}
use Rattle.ast_nodes.specs.Node.{behind_blank, behind_blanks, opened, node, front, apart, led, listed}
use Rattle.ast_nodes.specs.Prints.{Ended, Prints, Awaits}

listed_behind : (texts : List (List ℕ)) → behind_blank (listed texts) ≡ joined (codes " [" ∷ led [] texts ++ (codes "]" ∷ []))
unfolding joined
listed_behind texts = ap (λ t. 32 ∷ 91 ∷ t) (append-nil _)

two_joined : (p q : List ℕ) (ps : List (List ℕ)) → joined (joined (p ∷ q ∷ []) ∷ ps) ≡ joined (p ∷ q ∷ ps)
unfolding joined
two_joined p q ps = ap (λ x. (p ++ x) ++ joined ps) (append-nil q) ∙ append_assoc p q (joined ps)

joined_append : (xs ys : List (List ℕ)) → joined (xs ++ ys) ≡ joined xs ++ joined ys
unfolding joined
joined_append [] ys = refl
joined_append (x ∷ xs) ys = ap (λ t. x ++ t) (joined_append xs ys) ∙ sym (append_assoc x (joined xs) (joined ys))

pub joined_first : (xs ys : List (List ℕ)) → joined (joined xs ∷ ys) ≡ joined (xs ++ ys)
unfolding joined
joined_first xs ys = sym (joined_append xs ys)

blanks_append : (xs ys : List (List ℕ)) → behind_blanks (xs ++ ys) ≡ behind_blanks xs ++ behind_blanks ys
blanks_append [] ys = refl
blanks_append (x ∷ xs) ys = ap (λ t. behind_blank x ∷ t) (blanks_append xs ys)

-- a node whose last parts are set apart is that node
pub apart_node : (tag : List ℕ) (firsts lasts : List (List ℕ)) → apart tag firsts lasts ≡ node tag (firsts ++ lasts)
apart_node tag firsts lasts =
    joined_first (opened tag ∷ behind_blanks firsts) (behind_blanks lasts ++ (codes ")" ∷ []))
    ∙ ap (λ t. joined (opened tag ∷ t)) (sym (append_assoc (behind_blanks firsts) (behind_blanks lasts) (codes ")" ∷ [])) ∙ ap (λ t. t ++ (codes ")" ∷ [])) (sym (blanks_append firsts lasts)))

led_blank : (texts : List (List ℕ)) → led (codes " ") texts ≡ behind_blanks texts
led_blank [] = refl
led_blank (text ∷ texts) = refl

module _ {S : Type 0} (contents : S → Option (List ℕ)) (faults : S → ℕ) (fails takes : Bool) (keeps : S → S → Type 0) where
  pub gained : (r s : Ended) (a b : S) (text : List ℕ) → Prints contents faults fails takes keeps r s a b text → Puts r s (contents a) (contents b) text
  unfolding Prints
  gained r s a b text h = h.0

  pub counted : (r s : Ended) (a b : S) (text : List ℕ) → Prints contents faults fails takes keeps r s a b text → Causes fails takes r s (faults a) (faults b)
  unfolding Prints
  counted r s a b text h = h.1

  pub kept : (r s : Ended) (a b : S) (text : List ℕ) → Prints contents faults fails takes keeps r s a b text → (first : S) → keeps first a → keeps first b
  unfolding Prints
  kept r s a b text h = h.2

  pub prints_made : (r s : Ended) (a b : S) (text : List ℕ) → Puts r s (contents a) (contents b) text → Causes fails takes r s (faults a) (faults b) → ((first : S) → keeps first a → keeps first b) → Prints contents faults fails takes keeps r s a b text
  unfolding Prints
  prints_made r s a b text h k l = (h, k, l)

  pub prints_none : (r : Ended) (a : S) → Prints contents faults fails takes keeps r r a a (joined [])
  prints_none r a = prints_made r r a a (joined []) (puts_none r (contents a)) (causes_none fails takes r (faults a)) (λ x k. k)

  pub prints_more : (r s t : Ended) (a b c : S) (p : List ℕ) (ps : List (List ℕ)) → Prints contents faults fails takes keeps r s a b p → Prints contents faults fails takes keeps s t b c (joined ps) → Prints contents faults fails takes keeps r t a c (joined (p ∷ ps))
  prints_more r s t a b c p ps h k =
      prints_made r t a c (joined (p ∷ ps))
      (puts_more r s t (contents a) (contents b) (contents c) p ps (gained r s a b p h) (gained s t b c (joined ps) k))
      (causes_more fails takes r s t (faults a) (faults b) (faults c) (counted r s a b p h) (counted s t b c (joined ps) k))
      (λ x m. kept s t b c (joined ps) k x (kept r s a b p h x m))

  -- two pieces that were put at once
  pub prints_two : (r s t : Ended) (a b c : S) (p q : List ℕ) (ps : List (List ℕ)) → Prints contents faults fails takes keeps r s a b (joined (p ∷ q ∷ [])) → Prints contents faults fails takes keeps s t b c (joined ps) → Prints contents faults fails takes keeps r t a c (joined (p ∷ q ∷ ps))
  prints_two r s t a b c p q ps h k = subst (λ x. Prints contents faults fails takes keeps r t a c x) (two_joined p q ps) (prints_more r s t a b c _ ps h k)

  pub prints_closed : (r s t : Ended) (a b c : S) (tag : List ℕ) (parts : List (List ℕ)) → Prints contents faults fails takes keeps r s a b (front tag parts) → Prints contents faults fails takes keeps s t b c (codes ")") → Prints contents faults fails takes keeps r t a c (node tag parts)
  prints_closed r s t a b c tag parts h k = subst (λ x. Prints contents faults fails takes keeps r t a c x) (joined_first (opened tag ∷ behind_blanks parts) (codes ")" ∷ [])) (prints_more r s t a b c _ _ h (prints_more s t t b c c _ _ k (prints_none t c)))

  -- a loop over pieces begins, goes on by one piece, and ends with the last
  pub awaits_all : (r : Ended) (a : S) (all : List (List ℕ)) → Awaits contents faults fails takes keeps r r a a all all
  unfolding Awaits
  awaits_all r a all = λ t c h. h

  pub awaits_rest : (r s t : Ended) (a b c : S) (all : List (List ℕ)) (p : List ℕ) (rest : List (List ℕ)) → Awaits contents faults fails takes keeps r s a b all (p ∷ rest) → Prints contents faults fails takes keeps s t b c p → Awaits contents faults fails takes keeps r t a c all rest
  unfolding Awaits
  awaits_rest r s t a b c all p rest w h = λ u d k. w u d (prints_more s t u b c d p rest h k)

  pub awaits_none : (r s : Ended) (a b : S) (all : List (List ℕ)) → Awaits contents faults fails takes keeps r s a b all [] → Prints contents faults fails takes keeps r s a b (joined all)
  unfolding Awaits
  awaits_none r s a b all w = w s b (prints_none s b)

  pub awaits_last : (r s t : Ended) (a b c : S) (all : List (List ℕ)) (p : List ℕ) → Awaits contents faults fails takes keeps r s a b all (p ∷ []) → Prints contents faults fails takes keeps s t b c p → Prints contents faults fails takes keeps r t a c (joined all)
  awaits_last r s t a b c all p w h = awaits_none r t a c all (awaits_rest r s t a b c all p [] w h)

  -- a list goes on by one text, behind what stands in front of it
  pub awaits_next : (r s t : Ended) (a b c : S) (all : List (List ℕ)) (lead p : List ℕ) (rest tail : List (List ℕ)) → Awaits contents faults fails takes keeps r s a b all (led lead (p ∷ rest) ++ tail) → Prints contents faults fails takes keeps s t b c (joined (lead ∷ p ∷ [])) → Awaits contents faults fails takes keeps r t a c all (led (codes " ") rest ++ tail)
  awaits_next r s t a b c all lead p rest tail w h = subst (λ x. Awaits contents faults fails takes keeps r t a c all (x ++ tail)) (sym (led_blank rest)) (awaits_rest r s t a b c all _ _ w h)

  pub awaits_begun : (r s : Ended) (a b : S) (p : List ℕ) (rest : List (List ℕ)) → Prints contents faults fails takes keeps r s a b p → Awaits contents faults fails takes keeps r s a b (p ∷ rest) rest
  awaits_begun r s a b p rest h = awaits_rest r r s a a b (p ∷ rest) p rest (awaits_all r a (p ∷ rest)) h

  pub awaits_listed : (r s t : Ended) (a b c : S) (texts : List (List ℕ)) → Awaits contents faults fails takes keeps r s a b (codes " [" ∷ led [] texts ++ (codes "]" ∷ [])) (codes "]" ∷ []) → Prints contents faults fails takes keeps s t b c (codes "]") → Prints contents faults fails takes keeps r t a c (behind_blank (listed texts))
  awaits_listed r s t a b c texts w h = subst (λ x. Prints contents faults fails takes keeps r t a c x) (sym (listed_behind texts)) (awaits_last r s t a b c _ _ w h)

  pub prints_put : (r s : Ended) (a b : S) (text : List ℕ) → ((x y z : S) → keeps x y → keeps y z → keeps x z) → Puts r s (contents a) (contents b) text → Causes fails takes r s (faults a) (faults b) → keeps a b → Prints contents faults fails takes keeps r s a b text
  prints_put r s a b text further h k m = prints_made r s a b text h k (λ x n. further x a b n m)

pub ruleset chains = (prints_none, prints_more)

pub ruleset loops = (common_steps, awaits_all, awaits_rest, awaits_none)

pub ruleset lists = (common_steps, awaits_begun, awaits_next, awaits_listed)

pub ruleset fronts = (common_steps, awaits_begun, awaits_rest, awaits_none)

pub ruleset closing = (prints_closed)
