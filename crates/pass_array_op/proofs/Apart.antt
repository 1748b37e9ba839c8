-- Trees in which none of the statements stands that are lowered stay.
use Rattle.std.proofs.Common.{◌≡◌, ℕ, zero, suc, Bool, true, ◌&&◌, List, [], ◌∷◌, refl, sym, ap, ◌∙◌, true≢false, arith}
use Rattle.std.specs.List.{list_all, AllByRecursion}
use Rattle.std.proofs.lemmas.Bool.{and_parts}
use Rattle.lf_base.specs.declared.id.StmtId.{StmtId}
use Rattle.lf_base.specs.declared.id.SymId.{SymId}
use Rattle.asr_nodes.specs.Keys.{Key, stmt, Node, Tree, is_other}
use Rattle.asr_nodes.specs.Nodes.{Nodes, Sound, node_at, node_count, tree_at, there}
use Rattle.asr_nodes.specs.OnePlace.{places}
use Rattle.asr_nodes.specs.Parts.{parts}
use Rattle.asr_nodes.specs.Reading.{Path, node_tree, no_tree}
use Rattle.asr_nodes.specs.Walks.{ends, made, passes, tree_within}
use Rattle.asr_nodes.proofs.Grows.{tree_here, all_end}
use Rattle.asr_nodes.proofs.OnePlace.{none_avoids}
use Rattle.asr_nodes.proofs.Same.{same}
use Rattle.asr_nodes.proofs.Walks.{all_each, seen}
use Rattle.pass_array_op.specs.Bodies.{is_none_of, KeepsBut}

true_both : {p q : Bool} → p ≡ true → q ≡ true → (p && q) ≡ true
true_both e f = λ i. e i && f i

module _ (a : Nodes) (p q : Key → Bool) where
  abbrev walk : (Key → Bool) → ℕ → Key → Bool
  walk free = ends parts free (node_at a)

  abbrev pq : Key → Bool
  pq k = p k && q k

  all_both : (n : ℕ) → ((key : Key) → walk p n key ≡ true → walk q n key ≡ true → walk pq n key ≡ true) → (keys : List Key) → list_all (walk p n) keys ≡ true → list_all (walk q n) keys ≡ true → list_all (walk pq n) keys ≡ true
  all_both n h [] e f = refl
  all_both n h (key ∷ keys) e f =
      let x = and_parts _ _ e in
      let y = and_parts _ _ f in
      true_both (h key x.0 y.0) (all_both n h keys x.1 y.1)

  -- A walk that ends at keys of both kinds ends at such as are of both.
  both : (n : ℕ) (key : Key) → walk p n key ≡ true → walk q n key ≡ true → walk pq n key ≡ true
  both zero key e f = e
  both (suc n) key e f =
      let x = and_parts _ _ e in
      let y = and_parts _ _ f in
      let z = seen (λ x. list_all (walk p n) (parts key x)) (node_at a key) x.1 in
      let w = sym (ap (passes (λ x. list_all (walk q n) (parts key x))) z.1) ∙ y.1 in
      true_both (true_both x.0 y.0) (ap (passes (λ x. list_all (walk pq n) (parts key x))) z.1 ∙ all_both n (both n) (parts key z.0) z.2 w)

module _ (a : Nodes) (h : Sound a) (key : Key) (t : there a (key ∷ []) ≡ true) where
  walks_free : (ids : List StmtId) → AllByRecursion (λ id. places a (stmt id) (key ∷ []) ≡ 0) ids → ends parts (is_none_of ids) (node_at a) (node_count a) key ≡ true
  walks_free [] p = (and_parts _ _ (all_end a h (key ∷ []) t)).0
  walks_free (id ∷ ids) p = both a (is_other (stmt id)) (is_none_of ids) (node_count a) key (and_parts _ _ (none_avoids a h (stmt id) (key ∷ []) t p.0)).0 (walks_free ids p.1)

first_none : (a : Nodes) (key : Key) (keys : List Key) (ids : List StmtId) → AllByRecursion (λ id. places a (stmt id) (key ∷ keys) ≡ 0) ids → AllByRecursion (λ id. places a (stmt id) (key ∷ []) ≡ 0) ids
first_none a key keys [] p = tt
first_none a key keys (id ∷ ids) p = ((let q = p.0 in omega (arith, q)), first_none a key keys ids p.1)

rest_none : (a : Nodes) (key : Key) (keys : List Key) (ids : List StmtId) → AllByRecursion (λ id. places a (stmt id) (key ∷ keys) ≡ 0) ids → AllByRecursion (λ id. places a (stmt id) keys ≡ 0) ids
rest_none a key keys [] p = tt
rest_none a key keys (id ∷ ids) p = ((let q = p.0 in omega (arith, q)), rest_none a key keys ids p.1)

module _ (old new : Nodes) (h : Sound old) (k : Sound new) (ids : List StmtId) (keeps : KeepsBut old new ids) (path : SymId → Path) where
  abbrev told : ℕ → (key : Key) → Tree key
  told n = tree_within (node_tree path) no_tree (node_at old) n

  same_tree : (n : ℕ) (key : Key) → ends parts (is_none_of ids) (node_at old) n key ≡ true → tree_at new path key ≡ told n key
  same_tree zero key e = absurd (true≢false (sym e))
  same_tree (suc n) key e =
      let p = and_parts _ _ e in
      let z = seen (λ x. list_all (ends parts (is_none_of ids) (node_at old) n) (parts key x)) (node_at old key) p.1 in
      let each = all_each (ends parts (is_none_of ids) (node_at old) n) (λ j. tree_at new path j ≡ told n j) (same_tree n) (parts key z.0) z.2 in
      tree_here new k path key z.0 (keeps key z.0 p.0 z.1)
      ∙ same path (tree_at new path) (told n) key z.0 each
      ∙ sym (ap (made (node_tree path (told n) key) (no_tree key)) z.1)

  pub kept_trees : (keys : List Key) → there old keys ≡ true → AllByRecursion (λ id. places old (stmt id) keys ≡ 0) ids → AllByRecursion (λ key. tree_at new path key ≡ tree_at old path key) keys
  kept_trees [] t p = tt
  kept_trees (key ∷ keys) t p =
      let u = and_parts _ _ t in
      (same_tree (node_count old) key (walks_free old h key (true_both u.0 refl) ids (first_none old key keys ids p)), kept_trees keys u.1 (rest_none old key keys ids p))
