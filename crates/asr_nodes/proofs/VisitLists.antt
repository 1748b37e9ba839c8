-- For callers: what a visit comes by, how often, and which edits leave it as it was.
use Rattle.std.proofs.Common.{◌≡◌, ℕ, zero, suc, ◌+◌, ◌≤◌, Bool, true, List, [], ◌∷◌, ◌++◌, map, Option, Some, None, is_some, refl, sym, ap, ◌∙◌, arith, append_assoc}
use Rattle.std.specs.List.{list_all, AllByRecursion}
use Rattle.std.proofs.lemmas.Bool.{and_parts, and_from}
use Rattle.asr_nodes.specs.Keys.{Key, Node, is_other, chained}
use Rattle.asr_nodes.specs.Nodes.{Nodes, Sound, Replaces, node_at, node_count, there, avoid}
use Rattle.asr_nodes.specs.OnePlace.{one_where, total, places_node, places_at, places, StandAlone}
use Rattle.asr_nodes.specs.Parts.{parts}
use Rattle.asr_nodes.specs.Visits.{visits_node, visits_at, visits, times}
use Rattle.asr_nodes.specs.Walks.{ends, made, tree_within}
use Rattle.asr_nodes.proofs.Grows.{all_end}
use Rattle.asr_nodes.proofs.OnePlace.{total_append, avoids_none, none_avoids}
use Rattle.asr_nodes.proofs.Walks.{all_each, tree_is, tree_kept}

pub chained_more : {A : Type 0} (f : A → List Key) (xs ys : List A) → chained (map f (xs ++ ys)) ≡ chained (map f xs) ++ chained (map f ys)
chained_more f [] ys = refl
chained_more f (x ∷ xs) ys = ap (λ l. f x ++ l) (chained_more f xs ys) ∙ sym (append_assoc (f x) (chained (map f xs)) (chained (map f ys)))

chained_same : {A : Type 0} (f g : A → List Key) (xs : List A) → AllByRecursion (λ x. f x ≡ g x) xs → chained (map f xs) ≡ chained (map g xs)
chained_same f g [] h = refl
chained_same f g (x ∷ xs) h = λ i. h.0 i ++ chained_same f g xs h.1 i

same_visits : (f g : (key : Key) → List Key) (key : Key) (x : Node key) → AllByRecursion (λ j. f j ≡ g j) (parts key x) → visits_node f key x ≡ visits_node g key x
same_visits f g key x h = ap (λ l. key ∷ l) (chained_same f g (parts key x) h)

pub all_append : (p : Key → Bool) (xs ys : List Key) → list_all p xs ≡ true → list_all p ys ≡ true → list_all p (xs ++ ys) ≡ true
all_append p [] ys h k = k
all_append p (x ∷ xs) ys h k = let b = and_parts _ _ h in and_from _ _ b.0 (all_append p xs ys b.1 k)

all_chained : (p : Key → Bool) (f : Key → List Key) → ((key : Key) → list_all p (f key) ≡ true) → (keys : List Key) → list_all p (chained (map f keys)) ≡ true
all_chained p f h [] = refl
all_chained p f h (key ∷ keys) = all_append p (f key) (chained (map f keys)) (h key) (all_chained p f h keys)

each_of : (P : Key → Type 0) → ((key : Key) → P key) → (keys : List Key) → AllByRecursion P keys
each_of P h [] = tt
each_of P h (key ∷ keys) = (h key, each_of P h keys)

total_chained : (f : Key → ℕ) (g : Key → List Key) (h : Key → ℕ) → ((key : Key) → total f (g key) ≡ h key) → (keys : List Key) → total f (chained (map g keys)) ≡ total h keys
total_chained f g h e [] = refl
total_chained f g h e (key ∷ keys) =
    let a = total_append f (g key) (chained (map g keys)) in
    let b = e key in
    let r = total_chained f g h e keys in
    omega (arith, a, b, r)

module _ (a : Nodes) where
  pub visits_more : (xs ys : List Key) → visits a (xs ++ ys) ≡ visits a xs ++ visits a ys
  visits_more = chained_more (visits_at a)

  abbrev within : ℕ → Key → List Key
  within = tree_within visits_node (λ key. []) (node_at a)

  abbrev is_there : Key → Bool
  is_there key = is_some (node_at a key)

  there_within : (n : ℕ) (key : Key) → list_all is_there (within n key) ≡ true
  there_within zero key = refl
  there_within (suc n) key = by (node_at a key) refl (there_within n)
    where
      by : (o : Option (Node key)) → node_at a key ≡ o → ((k : Key) → list_all is_there (within n k) ≡ true) → list_all is_there (made (visits_node (within n) key) [] o) ≡ true
      by None e h = refl
      by (Some x) e h = and_from _ _ (ap is_some e) (all_chained is_there (within n) h (parts key x))

  -- What is visited is there.
  pub visited_there : (keys : List Key) → there a (visits a keys) ≡ true
  visited_there keys = all_chained is_there (visits_at a) (there_within (node_count a)) keys

  abbrev places_to : Key → ℕ → Key → ℕ
  places_to at = tree_within (places_node at) (λ j. 0) (node_at a)

  times_within : (at : Key) (n : ℕ) (key : Key) → times at (within n key) ≡ places_to at n key
  times_within at zero key = refl
  times_within at (suc n) key = by (node_at a key) (times_within at n)
    where
      by : (o : Option (Node key)) → ((k : Key) → times at (within n k) ≡ places_to at n k) → times at (made (visits_node (within n) key) [] o) ≡ made (places_node at (places_to at n) key) 0 o
      by None h = refl
      by (Some x) h = ap (λ m. one_where (is_other at key) + m) (total_chained (λ k. one_where (is_other at k)) (within n) (places_to at n) h (parts key x))

  -- A key is visited as often as it has places in the trees at the keys from which the visit begins:
  pub visited_times : (at : Key) (keys : List Key) → times at (visits a keys) ≡ places a at keys
  visited_times at keys = total_chained (λ k. one_where (is_other at k)) (visits_at a) (places_at a at) (times_within at (node_count a)) keys

  -- never, where all walks from these avoid it,
  pub avoided_never : Sound a → (at : Key) (keys : List Key) → avoid a at keys ≡ true → times at (visits a keys) ≡ 0
  avoided_never h at keys e = visited_times at keys ∙ avoids_none a h at keys e

  -- and only there;
  pub never_avoids : Sound a → (at : Key) (keys : List Key) → there a keys ≡ true → times at (visits a keys) ≡ 0 → avoid a at keys ≡ true
  never_avoids h at keys t e = none_avoids a h at keys t (sym (visited_times at keys) ∙ e)

  -- and at most once, where each has one place alone.
  pub visited_once : (mine others : List Key) → StandAlone a mine others → (at : Key) → times at (visits a mine) ≤ 1
  visited_once mine others s at = by (places a at mine) refl
    where
      by : (n : ℕ) → places a at mine ≡ n → times at (visits a mine) ≤ 1
      by zero e = let v = visited_times at mine in omega (arith, v, e)
      by (suc n) e = let v = visited_times at mine in let r = s.once at (omega (arith, e)) in omega (arith, v, r)

  -- A node comes before what stands below its parts.
  pub visits_are : Sound a → (key : Key) (x : Node key) → node_at a key ≡ Some x → visits_at a key ≡ key ∷ visits a (parts key x)
  visits_are h key x e = tree_is parts visits_node (λ j. []) same_visits (node_at a) (node_count a) h.founded key x e

-- An edit at a key that no walk comes by leaves the visit as it was,
module _ (a b : Nodes) (at : Key) (same : (key : Key) (x : Node key) → is_other at key ≡ true → node_at a key ≡ Some x → node_at b key ≡ Some x) (counted : node_count a ≤ node_count b) where
  pub visits_apart : (keys : List Key) → avoid a at keys ≡ true → visits b keys ≡ visits a keys
  visits_apart keys e =
      chained_same (visits_at b) (visits_at a) keys
      (all_each (ends parts (is_other at) (node_at a) (node_count a)) (λ key. visits_at b key ≡ visits_at a key)
      (λ key t. tree_kept parts visits_node (λ j. []) same_visits (is_other at) (node_at a) (node_at b) same (node_count a) (node_count b) key counted t)
      keys e)

-- as `replace`, `replace_expr` and `splice` do,
pub replaced_visits : (a b : Nodes) (at : Key) (x : Node at) → Sound a → Replaces a b at x → node_count a ≤ node_count b → (keys : List Key) → there a keys ≡ true → times at (visits a keys) ≡ 0 → visits b keys ≡ visits a keys
replaced_visits a b at x h edit counted keys t e =
    visits_apart a b at (λ key y o was. (edit.others key y o was).node) counted keys (never_avoids a h at keys t e)

-- and so do new nodes.
pub visits_still : (a b : Nodes) → Sound a → ((key : Key) (x : Node key) → node_at a key ≡ Some x → node_at b key ≡ Some x) → node_count a ≤ node_count b → (keys : List Key) → there a keys ≡ true → visits b keys ≡ visits a keys
visits_still a b h holds counted keys t =
    chained_same (visits_at b) (visits_at a) keys
    (all_each (ends parts (λ _. true) (node_at a) (node_count a)) (λ key. visits_at b key ≡ visits_at a key)
    (λ key e. tree_kept parts visits_node (λ j. []) same_visits (λ j. true) (node_at a) (node_at b) (λ k x o was. holds k x was) (node_count a) (node_count b) key counted e)
    keys (all_end a h keys t))
