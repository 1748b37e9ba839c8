-- What is read where nothing stands, and what stands in a list of texts.
use Rattle.std.proofs.Common.{◌≡◌, ℕ, zero, suc, ◌+◌, ◌<◌, Bool, true, false, List, [], ◌∷◌, ◌++◌, map, length, drop, slice_get, slice_index_or, get_or, Option, Some, None, is_some, IsTrue, ◌↔◌, refl, sym, ap, ◌∙◌, arith, true≢false}
use Rattle.std.proofs.lemmas.Option.{slice_get-get_or}
use Rattle.lf_base.specs.declared.id.ExprId.{ExprId}
use Rattle.lf_base.specs.declared.id.StmtId.{StmtId}
use Rattle.lf_base.specs.declared.id.SymId.{SymId}
use Rattle.lf_base.specs.Contents.{joined}
use Rattle.ast_nodes.proofs.Chains.{joined_first}
use Rattle.asr_nodes.specs.Keys.{Key, expr, stmt}
use Rattle.asr_nodes.specs.Nodes.{Nodes, node_at, node_count, expr_tree, stmt_tree}
use Rattle.asr_nodes.specs.Reading.{Path, node_tree, no_tree}
use Rattle.asr_nodes.specs.Walks.{made, tree_within}

past : {A : Type 0} (xs : List A) (i : ℕ) → (i < length xs → ⊥) → slice_get xs i ≡ None
past [] i h = refl
past (x ∷ xs) zero h = absurd (h (omega arith))
past (x ∷ xs) (suc i) h = past xs i (λ l. h (omega arith))

module _ (a : Nodes) (path : SymId → Path) where
  nothing : (n : ℕ) (key : Key) → node_at a key ≡ None → tree_within (node_tree path) no_tree (node_at a) n key ≡ no_tree key
  nothing zero key e = refl
  nothing (suc n) key e = ap (made (node_tree path (tree_within (node_tree path) no_tree (node_at a) n) key) (no_tree key)) e

  pub no_expr_there : (id : ExprId) → (id.0 < length a.exprs → ⊥) → expr_tree a path id ≡ no_tree (expr id)
  no_expr_there id h = nothing (node_count a) (expr id) (past a.exprs id.0 h)

  pub no_stmt_there : (id : StmtId) → (id.0 < length a.stmts → ⊥) → stmt_tree a path id ≡ no_tree (stmt id)
  no_stmt_there id h = nothing (node_count a) (stmt id) (past a.stmts id.0 h)

pub refuted : {P : Type 0} (b : Bool) → (IsTrue b ↔ P) → b ≡ false → P → ⊥
refuted b h e p = true≢false (sym (h.1 p) ∙ e)

pub is_none : {A : Type 0} (o : Option A) → (is_some o ≡ true → ⊥) → is_some o ≡ false
is_none None h = refl
is_none (Some x) h = absurd (h refl)

got_map : {A B : Type 0} (f : A → B) (xs : List A) (i : ℕ) (x : A) → slice_get xs i ≡ Some x → slice_get (map f xs) i ≡ Some (f x)
got_map f [] i x e = absurd (cc)
got_map f (y ∷ ys) zero x e = cc
got_map f (y ∷ ys) (suc i) x e = got_map f ys i x e

-- the text at a place of a list
pub text_at : {A B C : Type 0} (f : B → C) (g : A → B) (xs : List A) (i : ℕ) (x : A) → slice_get xs i ≡ Some x → slice_get (map f (map g xs)) i ≡ Some (f (g x))
text_at f g xs i x e = got_map f (map g xs) i (g x) (got_map g xs i x e)

pub one_at : {A B : Type 0} (f : A → B) (xs : List A) (i : ℕ) (x : A) → slice_get xs i ≡ Some x → slice_get (map f xs) i ≡ Some (f x)
one_at = got_map

pub there_at : {A : Type 0} (xs ys : List A) (i : ℕ) (d : A) → ys ≡ xs → i < length xs → slice_get xs i ≡ Some (slice_index_or ys i d)
there_at xs ys i d e l = slice_get-get_or xs i d l ∙ ap (λ zs. Some (slice_index_or zs i d)) (sym e)

drop_at : {A : Type 0} (xs : List A) (i : ℕ) (x : A) → slice_get xs i ≡ Some x → drop i xs ≡ x ∷ drop (suc i) xs
drop_at [] i x e = absurd (cc)
drop_at (y ∷ ys) zero x e = cc
drop_at (y ∷ ys) (suc i) x e = drop_at ys i x e

pub stands_at : {A : Type 0} (xs ys : List A) (i : ℕ) (x : A) → ys ≡ xs → i < length xs → x ≡ get_or ys i x → slice_get xs i ≡ Some x
stands_at xs ys i x e l is = slice_get-get_or xs i x l ∙ ap (λ zs. Some (get_or zs i x)) (sym e) ∙ ap Some (sym is)

pub drop_next : {A : Type 0} (xs : List A) (i : ℕ) (x : A) → slice_get xs i ≡ Some x → drop i xs ≡ x ∷ drop (i + 1) xs
drop_next xs i x e = drop_at xs i x e ∙ ap (λ n. x ∷ drop n xs) (next i)
  where
    next : (i : ℕ) → suc i ≡ i + 1
    next i = omega arith

pub node_pieces : (first : List ℕ) (xs ys : List (List ℕ)) → joined (first ∷ xs ++ ys) ≡ joined (first ∷ joined xs ∷ ys)
unfolding joined
node_pieces first xs ys = ap (λ t. first ++ t) (sym (joined_first xs ys))
