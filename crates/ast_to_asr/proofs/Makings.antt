-- Nodes that are made one behind another.
use Rattle.std.proofs.Common.{◌≡◌, suc, Bool, true, ◌&&◌, List, [], ◌∷◌, ◌++◌, length, Ok, None, Some, slice_get, refl, sym, ap, subst, ◌∙◌, arith, length-append}
use Rattle.std.specs.List.{list_all}
use Rattle.std.proofs.lemmas.List.{append_assoc}
use Rattle.std.proofs.lemmas.Bool.{and_parts}
use Rattle.lf_base.specs.declared.id.ExprId.{ExprId}
use Rattle.lf_base.specs.declared.id.StmtId.{StmtId}
use Rattle.asr_nodes.specs.Keys.{Key, Node, expr, stmt}
use Rattle.asr_nodes.specs.Nodes.{Nodes, Sound, Extends, BuildsExpr, BuildsStmt, node_at, node_count, there, with_expr, with_stmt}
use Rattle.asr_nodes.specs.OnePlace.{StandAlone, places_at}
use Rattle.asr_nodes.specs.Parts.{parts, expr_parts, stmt_parts}
use Rattle.asr_nodes.specs.declared.node.Expr.{Expr}
use Rattle.asr_nodes.specs.declared.node.Stmt.{Stmt}
use Rattle.asr_nodes.proofs.Callers.{there_still}
use Rattle.asr_nodes.proofs.Grows.{get_last, expr_sound, stmt_sound}
use Rattle.asr_nodes.proofs.OnePlace.{total_append, built_alone}
use Rattle.asr_nodes.proofs.VisitLists.{all_append}
use Rattle.ast_to_asr.specs.Making.{Makes}

pub extends_none : (a : Nodes) → Extends a a
extends_none a = record { nodes = λ key x e. e; trees = λ key x e path. refl }

pub extends_more : (a b c : Nodes) → Extends a b → Extends b c → Extends a c
extends_more a b c p q = record {
  nodes = λ key x e. q.nodes key x (p.nodes key x e);
  trees = λ key x e path. q.trees key x (p.nodes key x e) path ∙ p.trees key x e path;
}

pub there_parts : (a : Nodes) (xs ys : List Key) → there a (xs ++ ys) ≡ true → (there a xs ≡ true) × (there a ys ≡ true)
there_parts a [] ys h = (refl, h)
there_parts a (x ∷ xs) ys h =
    let p = and_parts _ _ h in
    let q = there_parts a xs ys p.1 in
    (by _ _ p.0 q.0, q.1)
  where
    by : (b c : Bool) → b ≡ true → c ≡ true → (b && c) ≡ true
    by b c e f = ap (λ z. z && c) e ∙ f

pub there_append : (a : Nodes) (xs ys : List Key) → there a xs ≡ true → there a ys ≡ true → there a (xs ++ ys) ≡ true
there_append a xs ys = all_append (λ key. is_there a key) xs ys
  where
    is_there : (a : Nodes) → Key → Bool
    is_there a key = Rattle.std.specs.Prelude.is_some (node_at a key)

alone_swapped : (a : Nodes) (xs ys mine others : List Key) → StandAlone a ((xs ++ ys) ++ mine) others → StandAlone a ((ys ++ xs) ++ mine) others
alone_swapped a xs ys mine others s = record {
  once = λ key l.
      let p = total_append (places_at a key) (xs ++ ys) mine in
      let q = total_append (places_at a key) (ys ++ xs) mine in
      let r = total_append (places_at a key) xs ys in
      let t = total_append (places_at a key) ys xs in
      let o = s.once key (omega (arith, p, q, r, t, l)) in
      omega (arith, p, q, r, t, o);
}

pub makes_none : (a : Nodes) → Makes a a []
makes_none a = record {
  grows = extends_none a;
  counted = omega arith;
  scopes = refl;
  noted = refl;
  sound = λ h. h;
  stand = refl;
  alone = λ h mine others t u s. s;
}

pub makes_more : (a b c : Nodes) (xs ys : List Key) → Makes a b xs → Makes b c ys → Makes a c (ys ++ xs)
makes_more a b c xs ys p q = record {
  grows = extends_more a b c p.grows q.grows;
  counted = let m = p.counted in let n = q.counted in omega (arith, m, n);
  scopes = q.scopes ∙ p.scopes;
  noted = q.noted ∙ p.noted;
  sound = λ h. q.sound (p.sound h);
  stand = there_append c ys xs q.stand (there_still b c q.grows xs p.stand);
  alone = λ h mine others t u s.
      subst (λ keys. StandAlone c keys others) (sym (append_assoc ys xs mine))
      (q.alone (p.sound h) (xs ++ mine) others (there_append b xs mine p.stand (there_still a b p.grows mine t)) (there_still a b p.grows others u) (p.alone h mine others t u s));
}

pub makes_swapped : (a b : Nodes) (xs ys : List Key) → Makes a b (xs ++ ys) → Makes a b (ys ++ xs)
makes_swapped a b xs ys p = record {
  grows = p.grows;
  counted = p.counted;
  scopes = p.scopes;
  noted = p.noted;
  sound = p.sound;
  stand = let q = there_parts b xs ys p.stand in there_append b ys xs q.1 q.0;
  alone = λ h mine others t u s. alone_swapped b xs ys mine others (p.alone h mine others t u s);
}

-- one more of what is made: its key stands behind those of what was made before
pub makes_last : (a b c : Nodes) (xs : List Key) (key : Key) → Makes a b xs → Makes b c (key ∷ []) → Makes a c (xs ++ key ∷ [])
makes_last a b c xs key p q = makes_swapped a c (key ∷ []) xs (makes_more a b c xs (key ∷ []) p q)

-- A new node of parts that were made, beside the rest of them.
module _ (a b c : Nodes) (rest : List Key) (at : Key) (x : Node at) where
  built : Makes a b (parts at x ++ rest) → Extends b c → (Sound b → Sound c) → node_count c ≡ suc (node_count b) → c.scopes ≡ b.scopes → c.noted ≡ b.noted
      → node_at b at ≡ None → node_at c at ≡ Some x → Makes a c (at ∷ rest)
  built p more sound counted scopes noted none here = record {
    grows = extends_more a b c p.grows more;
    counted = let m = p.counted in omega (arith, m, counted);
    scopes = scopes ∙ p.scopes;
    noted = noted ∙ p.noted;
    sound = λ h. sound (p.sound h);
    stand = let q = there_parts b (parts at x) rest p.stand in by _ _ (ap Rattle.std.specs.Prelude.is_some here) (there_still b c more rest q.1);
    alone = λ h mine others t u s.
        let q = there_parts b (parts at x) rest p.stand in
        let m = there_still a b p.grows mine t in
        let o = there_still a b p.grows others u in
        built_alone b c (p.sound h) more.nodes (omega (arith, counted)) (sound (p.sound h)) at x none here q.0 (rest ++ mine) others (there_append b rest mine q.1 m) o
        (subst (λ keys. StandAlone b keys others) (append_assoc (parts at x) rest mine) (p.alone h mine others t u s));
  }
    where
      by : (d e : Bool) → d ≡ true → e ≡ true → (d && e) ≡ true
      by d e f g = ap (λ z. z && e) f ∙ g

nowhere : {A : Type 0} (xs : List A) → slice_get xs (length xs) ≡ None
nowhere [] = refl
nowhere (x ∷ xs) = nowhere xs

pub makes_expr : (a b c : Nodes) (x : Expr) (id : ExprId) (rest : List Key) → Makes a b (expr_parts x ++ rest) → Extends b c → BuildsExpr b c x (Ok id) → Makes a c (expr id ∷ rest)
makes_expr a b c x id rest p more h =
    subst (λ d. Extends b d → Makes a d (expr id ∷ rest)) (sym h.1)
    (λ extends.
    built a b (with_expr b x) rest (expr id) x p extends
    (λ s. expr_sound b s x (there_parts b (expr_parts x) rest p.stand).0)
    (omega (arith, length-append b.exprs (x ∷ []))) refl refl
    (ap (slice_get b.exprs) h.0 ∙ nowhere b.exprs)
    (ap (slice_get (b.exprs ++ x ∷ [])) h.0 ∙ get_last b.exprs x))
    more

pub makes_stmt : (a b c : Nodes) (x : Stmt) (id : StmtId) (rest : List Key) → Makes a b (stmt_parts x ++ rest) → Extends b c → BuildsStmt b c x (Ok id) → Makes a c (stmt id ∷ rest)
makes_stmt a b c x id rest p more h =
    subst (λ d. Extends b d → Makes a d (stmt id ∷ rest)) (sym h.1)
    (λ extends.
    built a b (with_stmt b x) rest (stmt id) x p extends
    (λ s. stmt_sound b s x (there_parts b (stmt_parts x) rest p.stand).0)
    (omega (arith, length-append b.stmts (x ∷ []))) refl refl
    (ap (slice_get b.stmts) h.0 ∙ nowhere b.stmts)
    (ap (slice_get (b.stmts ++ x ∷ [])) h.0 ∙ get_last b.stmts x))
    more

-- what was made may be left out of all trees
pub makes_dropped : (a b : Nodes) (key : Key) (rest : List Key) → Makes a b (key ∷ rest) → Makes a b rest
makes_dropped a b key rest p = record {
  grows = p.grows;
  counted = p.counted;
  scopes = p.scopes;
  noted = p.noted;
  sound = p.sound;
  stand = (there_parts b (key ∷ []) rest p.stand).1;
  alone = λ h mine others t u s.
      let q = p.alone h mine others t u s in
      record {
        once = λ k l. let o = q.once k (omega (arith, l)) in omega (arith, l, o);
      };
}
