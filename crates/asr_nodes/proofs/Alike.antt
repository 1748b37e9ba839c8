-- Two ways to read keys that agree at the keys of a list.
use Rattle.std.proofs.Common.{◌≡◌, List, [], ◌∷◌, ◌++◌, map, Option, Some, None, option_map, refl}
use Rattle.std.specs.List.{AllByRecursion}
use Rattle.lf_base.specs.declared.id.ExprId.{ExprId}
use Rattle.lf_base.specs.declared.id.StmtId.{StmtId}
use Rattle.asr_nodes.specs.Keys.{Key, expr, stmt, Tree, exprs, stmts, perhaps, chained}

module _ (f g : (key : Key) → Tree key) where
  abbrev pub Alike : List Key → Type 0
  Alike keys = AllByRecursion (λ j. f j ≡ g j) keys

  pub first : (keys more : List Key) → Alike (keys ++ more) → Alike keys
  first [] more h = tt
  first (key ∷ keys) more h = (h.0, first keys more h.1)

  pub last : (keys more : List Key) → Alike (keys ++ more) → Alike more
  last [] more h = h
  last (key ∷ keys) more h = last keys more h.1

  pub exprs_same : (ids : List ExprId) → Alike (exprs ids) → map (λ id. f (expr id)) ids ≡ map (λ id. g (expr id)) ids
  exprs_same [] h = refl
  exprs_same (id ∷ ids) h = λ k. h.0 k ∷ exprs_same ids h.1 k

  pub stmts_same : (ids : List StmtId) → Alike (stmts ids) → map (λ id. f (stmt id)) ids ≡ map (λ id. g (stmt id)) ids
  stmts_same [] h = refl
  stmts_same (id ∷ ids) h = λ k. h.0 k ∷ stmts_same ids h.1 k

  pub perhaps_same : (id : Option ExprId) → Alike (perhaps id) → option_map (λ id. f (expr id)) id ≡ option_map (λ id. g (expr id)) id
  perhaps_same None h = refl
  perhaps_same (Some id) h = λ k. Some (h.0 k)

  pub list_same : {A B : Type 0} (keys : A → List Key) (one other : A → B) → ((x : A) → Alike (keys x) → one x ≡ other x) → (xs : List A) → Alike (chained (map keys xs)) → map one xs ≡ map other xs
  list_same keys one other h [] a = refl
  list_same keys one other h (x ∷ xs) a = λ k. h x (first (keys x) _ a) k ∷ list_same keys one other h xs (last (keys x) _ a) k
