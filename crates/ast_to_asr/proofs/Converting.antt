-- Operands that are converted one behind another.
use Rattle.std.proofs.Common.{◌≡◌, ℕ, true, false, ◌&&◌, List, [], ◌∷◌, ◌++◌, map, refl, sym, ap, subst, ◌∙◌}
use Rattle.std.specs.List.{list_all}
use Rattle.std.proofs.lemmas.List.{append_assoc, map-append}
use Rattle.std.proofs.lemmas.List.Folds.{list_all-append}
use Rattle.lf_base.specs.declared.id.ExprId.{ExprId}
use Rattle.asr_nodes.specs.Keys.{Key, expr, exprs}
use Rattle.asr_nodes.specs.Nodes.{Nodes, Extends, there}
use Rattle.asr_nodes.proofs.Callers.{there_still}
use Rattle.ast_to_asr.specs.declared.build.Built.{Built}
use Rattle.ast_to_asr.specs.declared.names.ScalarType.TheVariants.{Integer, Logical}
use Rattle.ast_to_asr.specs.Expressions.{in_kind}
use Rattle.ast_to_asr.specs.Making.{Makes}
use Rattle.ast_to_asr.specs.Building.{Converts, Converted, tree_at, key_of, keys_of, kind_of, as_kind, is_integer, is_integer_type}
use Rattle.ast_to_asr.proofs.Builds.{tree_kept}
use Rattle.ast_to_asr.proofs.Makings.{extends_none, extends_more, there_parts, there_append, makes_swapped}

pub first_part : (a : Nodes) (key : Key) (rest : List Key) → there a (key ∷ rest) ≡ true → there a (key ∷ []) ≡ true
first_part a key rest h = (there_parts a (key ∷ []) rest h).0

pub trees_kept : (a b : Nodes) (ids : List ExprId) → Extends a b → b.scopes ≡ a.scopes → there a (exprs ids) ≡ true → map (tree_at b) ids ≡ map (tree_at a) ids
trees_kept a b [] e s t = refl
trees_kept a b (id ∷ ids) e s t =
    let p = there_parts a (expr id ∷ []) (exprs ids) t in
    ap (λ x. x ∷ map (tree_at b) ids) (tree_kept a b id e s p.0) ∙ ap (λ xs. tree_at a id ∷ xs) (trees_kept a b ids e s p.1)

pub conv_none : (a : Nodes) (kind : ℕ) (bs : List Built) → there a (keys_of bs) ≡ true → Converted a a kind bs [] bs
conv_none a kind bs t = record {
  done = [];
  whole = refl;
  integers = refl;
  trees = refl;
  extends = extends_none a;
  scopes = refl;
  stand = t;
  makes = λ start m. m;
}

-- the keys of a front, of one and of the rest
keys_parts : (done : List Built) (b : Built) (left : List Built) → keys_of (done ++ b ∷ left) ≡ keys_of done ++ (key_of b ∷ keys_of left)
keys_parts done b left = map-append key_of done (b ∷ left)

module _ (old now : Nodes) (kind : ℕ) (bs : List Built) (ids : List ExprId) (b : Built) (left : List Built) (p : Converted old now kind bs ids (b ∷ left)) where
  pub operand_there : there now (key_of b ∷ []) ≡ true
  operand_there = let q = there_parts now (exprs ids) (key_of b ∷ keys_of left) p.stand in first_part now (key_of b) (keys_of left) q.1

  pub conv_wrong : b.ty ≡ Logical → list_all is_integer bs ≡ false
  conv_wrong e =
      ap (list_all is_integer) (sym p.whole)
      ∙ (list_all-append is_integer p.done (b ∷ left)
      ∙ (ap (λ t. list_all is_integer p.done && (t && list_all is_integer left)) (ap is_integer_type e) ∙ ap (λ t. t && false) p.integers))

  module _ (t : there old (keys_of bs) ≡ true) where
    stood : there old (key_of b ∷ []) ≡ true
    stood =
        let k = subst (λ keys. there old keys ≡ true) (ap keys_of (sym p.whole) ∙ keys_parts p.done b left) t in
        let q = there_parts old (keys_of p.done) (key_of b ∷ keys_of left) k in
        first_part old (key_of b) (keys_of left) q.1

    module _ (new : Nodes) (from : ℕ) (i : Built) (e : b.ty ≡ Integer from) (q : Converts now new kind from b i) where
      moved : (start : Nodes) → Makes start now (exprs ids ++ (key_of b ∷ keys_of left)) → Makes start new ((exprs ids ++ key_of i ∷ []) ++ keys_of left)
      moved start m =
          let m1 = makes_swapped start now (exprs ids) (key_of b ∷ keys_of left) m in
          let m2 = q.exchanges.makes start (keys_of left ++ exprs ids) m1 in
          let m3 = makes_swapped start new (key_of i ∷ keys_of left) (exprs ids) m2 in
          subst (λ keys. Makes start new keys) (sym (append_assoc (exprs ids) (key_of i ∷ []) (keys_of left))) m3

      as_was : tree_at new i.id ≡ as_kind old kind b
      as_was =
          q.tree
          ∙ (ap (in_kind kind from) (tree_kept old now b.id p.extends p.scopes stood)
          ∙ ap (λ k. in_kind kind k (tree_at old b.id)) (sym (ap kind_of e)))

      ids_are : exprs (ids ++ i.id ∷ []) ≡ exprs ids ++ key_of i ∷ []
      ids_are = map-append expr ids (i.id ∷ [])

      pub conv_next : Converted old new kind bs (ids ++ i.id ∷ []) left
      conv_next = record {
        done = p.done ++ b ∷ [];
        whole = append_assoc p.done (b ∷ []) left ∙ p.whole;
        integers = list_all-append is_integer p.done (b ∷ []) ∙ (ap (λ t. t && (is_integer b && true)) p.integers ∙ ap (λ t. t && true) (ap is_integer_type e));
        trees =
            let q0 = there_parts now (exprs ids) (key_of b ∷ keys_of left) p.stand in
            map-append (tree_at new) ids (i.id ∷ [])
            ∙ (ap (λ xs. xs ++ tree_at new i.id ∷ []) (trees_kept now new ids q.exchanges.extends q.exchanges.scopes q0.0 ∙ p.trees)
            ∙ (ap (λ x. map (as_kind old kind) p.done ++ x ∷ []) as_was ∙ sym (map-append (as_kind old kind) p.done (b ∷ []))));
        extends = extends_more old now new p.extends q.exchanges.extends;
        scopes = q.exchanges.scopes ∙ p.scopes;
        stand =
            let q0 = there_parts now (exprs ids) (key_of b ∷ keys_of left) p.stand in
            let q1 = there_parts now (key_of b ∷ []) (keys_of left) q0.1 in
            let more = there_still now new q.exchanges.extends in
            subst (λ keys. there new (keys ++ keys_of left) ≡ true) (sym ids_are)
            (there_append new (exprs ids ++ key_of i ∷ []) (keys_of left) (there_append new (exprs ids) (key_of i ∷ []) (more (exprs ids) q0.0) q.exchanges.stand) (more (keys_of left) q1.1));
        makes = λ start m. subst (λ keys. Makes start new (keys ++ keys_of left)) (sym ids_are) (moved start (p.makes start m));
      }
