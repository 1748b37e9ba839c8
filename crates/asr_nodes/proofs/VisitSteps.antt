-- One step of a visit, as its stack makes it.
use Rattle.std.proofs.Common.{◌≡◌, ℕ, ◌+◌, ◌-◌, true, List, [], ◌∷◌, ◌++◌, length, take, drop, slice_get, Some, is_some, Result, Ok, Err, OnOk, reverse, refl, sym, ap, subst, ◌∙◌, append-nil, append_assoc}
use Rattle.std.proofs.lemmas.Bool.{and_parts, and_from}
use Rattle.std.proofs.lemmas.List.{reverse-append}
use Rattle.std.proofs.lemmas.Option.{slice_get_within}
use Rattle.lf_base.specs.declared.fault.Memory.{Memory}
use Rattle.lf_base.specs.declared.id.ExprId.{ExprId}
use Rattle.lf_base.specs.declared.id.StmtId.{StmtId}
use Rattle.asr_nodes.specs.Keys.{Key, Node, expr, stmt, exprs, chained}
use Rattle.asr_nodes.specs.Nodes.{Nodes, Sound, HasExpr, HasStmt, node_at, there}
use Rattle.asr_nodes.specs.Parts.{parts}
use Rattle.asr_nodes.specs.Visiting.{behind, first_key, keys_behind, keys_of, parts_at, pending_keys, piece_keys, to_come}
use Rattle.asr_nodes.specs.Visits.{visits}
use Rattle.asr_nodes.specs.Walks.{made}
use Rattle.asr_nodes.specs.declared.visit.pending.Pending.{Pending}
use Rattle.asr_nodes.specs.declared.visit.piece.Piece.{Piece}
use Rattle.asr_nodes.proofs.Grows.{some_is, parts_there}
use Rattle.asr_nodes.proofs.Missing.{drop_next}
use Rattle.asr_nodes.proofs.VisitLists.{chained_more, all_append, visits_more, visits_are}

pub keys_push : (ps : List Pending) (p : Pending) → keys_of (ps ++ p ∷ []) ≡ keys_of ps ++ pending_keys p
keys_push ps p = chained_more pending_keys ps (p ∷ []) ∙ ap (λ l. keys_of ps ++ l) (append-nil (pending_keys p))

come_append : (ps qs : List Pending) → to_come (ps ++ qs) ≡ to_come qs ++ to_come ps
come_append [] qs = sym (append-nil (to_come qs))
come_append (p ∷ ps) qs = ap (λ l. l ++ pending_keys p) (come_append ps qs) ∙ append_assoc (to_come qs) (to_come ps) (pending_keys p)

come_reversed : (ps : List Pending) → to_come (reverse ps) ≡ keys_of ps
come_reversed [] = refl
come_reversed (p ∷ ps) = ap to_come (reverse-append (p ∷ []) ps) ∙ come_append (reverse ps) (p ∷ []) ∙ ap (λ l. pending_keys p ++ l) (come_reversed ps)

pub come_turned : (listed turned : List Pending) → turned ≡ reverse listed → to_come turned ≡ keys_of listed
come_turned listed turned e = ap to_come e ∙ come_reversed listed

-- after the parts of the top one, and what is behind it, have been put in its place
module _ (a : Nodes) (h : Sound a) (s : List Pending) (top : Pending) (ps : List Pending) (listed : keys_of ps ≡ parts_at a (first_key top) ++ keys_behind top) (old : there a (to_come (s ++ top ∷ [])) ≡ true) where
  abbrev rest : List Key
  rest = keys_behind top ++ to_come s

  was : to_come (s ++ top ∷ []) ≡ first_key top ∷ rest
  was = come_append s (top ∷ [])

  is : to_come (s ++ reverse ps) ≡ parts_at a (first_key top) ++ rest
  is =
      come_append s (reverse ps)
      ∙ ap (λ l. l ++ to_come s) (come_reversed ps ∙ listed)
      ∙ append_assoc (parts_at a (first_key top)) (keys_behind top) (to_come s)

  here : (is_some (node_at a (first_key top)) ≡ true) × (there a rest ≡ true)
  here = and_parts _ _ (ap (there a) (sym was) ∙ old)

  node : (x : Node (first_key top)) × (node_at a (first_key top) ≡ Some x)
  node = some_is (node_at a (first_key top)) here.0

  parts_is : parts_at a (first_key top) ≡ parts (first_key top) node.0
  parts_is = ap (made (parts (first_key top)) []) node.1

  pub taken : visits a (to_come (s ++ top ∷ [])) ≡ first_key top ∷ visits a (to_come (s ++ reverse ps))
  taken =
      ap (visits a) was
      ∙ ap (λ l. l ++ visits a rest) (visits_are a h (first_key top) node.0 node.1)
      ∙ ap (λ l. first_key top ∷ l) (ap (λ l. visits a l ++ visits a rest) (sym parts_is) ∙ sym (visits_more a (parts_at a (first_key top)) rest) ∙ ap (visits a) (sym is))

  pub still_there : there a (to_come (s ++ reverse ps)) ≡ true
  still_there =
      ap (there a) is
      ∙ all_append (λ key. is_some (node_at a key)) (parts_at a (first_key top)) rest (ap (there a) parts_is ∙ parts_there a h (first_key top) node.0 node.1) here.1

pub record Stepped (a : Nodes) (stack new : List Pending) (key : Key) : Type 0 where
  pub stands : there a (to_come new) ≡ true
  pub visited : visits a (to_come stack) ≡ key ∷ visits a (to_come new)

-- as the code lists them: the parts, what is behind, and all of it turned round
pub stepped : (a : Nodes) → Sound a → (slice stack cleared listed all turned new : List Pending) (top : Pending) (key : Key) → slice ≡ stack → slice ≡ take (length slice - 1) slice ++ top ∷ [] → key ≡ first_key top
    → cleared ≡ [] → keys_of listed ≡ keys_of cleared ++ parts_at a key → keys_of all ≡ keys_of listed ++ keys_behind top → turned ≡ reverse all → new ≡ take (length stack - 1) stack ++ turned
    → there a (to_come stack) ≡ true → Stepped a stack new key
stepped a h slice stack cleared listed all turned new top key same split is none parts more turns put there_is =
    let s = take (length stack - 1) stack in
    let was : stack ≡ s ++ top ∷ [] = subst (λ xs. xs ≡ take (length xs - 1) xs ++ top ∷ []) same split in
    let whole : keys_of all ≡ parts_at a (first_key top) ++ keys_behind top = more ∙ ap (λ l. l ++ keys_behind top) (parts ∙ ap (λ z. keys_of z ++ parts_at a key) none ∙ ap (parts_at a) is) in
    let old : there a (to_come (s ++ top ∷ [])) ≡ true = ap (λ xs. there a (to_come xs)) (sym was) ∙ there_is in
    let now : new ≡ s ++ reverse all = put ∙ ap (λ r. s ++ r) turns in
    record {
      stands = ap (λ xs. there a (to_come xs)) now ∙ still_there a h s top all whole old;
      visited = ap (λ xs. visits a (to_come xs)) was ∙ taken a h s top all whole old ∙ (λ i. sym is i ∷ visits a (to_come (sym now i)));
    }

pub top_there : (a : Nodes) (slice stack : List Pending) (top : Pending) (key : Key) → slice ≡ stack → slice ≡ take (length slice - 1) slice ++ top ∷ [] → key ≡ first_key top → there a (to_come stack) ≡ true → there a (key ∷ []) ≡ true
top_there a slice stack top key same split is there_is =
    let s = take (length slice - 1) slice in
    let t = ap (λ xs. there a (to_come xs)) (sym split ∙ same) ∙ there_is in
    let both = and_parts _ _ (ap (there a) (sym (come_append s (top ∷ []))) ∙ t) in
    and_from _ _ (ap (λ k. is_some (node_at a k)) is ∙ both.0) refl

pub has_expr : (a : Nodes) (id : ExprId) → there a (expr id ∷ []) ≡ true → HasExpr a id
has_expr a id e = let x = some_is (slice_get a.exprs id.0) (and_parts _ _ e).0 in slice_get_within a.exprs id.0 x.0 x.1

pub has_stmt : (a : Nodes) (id : StmtId) → there a (stmt id ∷ []) ≡ true → HasStmt a id
has_stmt a id e = let x = some_is (slice_get a.stmts id.0) (and_parts _ _ e).0 in slice_get_within a.stmts id.0 x.0 x.1

-- the number at a place of a list
pub expr_listed : (ids : List ExprId) (place : ℕ) (id : ExprId) (front more whole : List Key) → slice_get ids place ≡ Some id → more ≡ front ++ expr id ∷ [] → front ++ exprs (drop place ids) ≡ whole → more ++ exprs (drop (place + 1) ids) ≡ whole
expr_listed ids place id front more whole at e w =
    ap (λ l. l ++ exprs (drop (place + 1) ids)) e ∙ append_assoc front (expr id ∷ []) (exprs (drop (place + 1) ids)) ∙ ap (λ js. front ++ exprs js) (sym (drop_next ids place id at)) ∙ w

behind_is : (keys : List Key) (ps : List Piece) → behind keys ps ≡ keys ++ behind [] ps
behind_is keys [] = sym (append-nil keys)
behind_is keys (p ∷ ps) =
    behind_is (keys ++ piece_keys p) ps ∙ append_assoc keys (piece_keys p) (behind [] ps) ∙ ap (λ l. keys ++ l) (sym (behind_is (piece_keys p) ps))

-- all fields of the node at a key
pub parts_listed : (r : Result (Unit {0}) Memory) (a : Nodes) (key : Key) (x : Node key) (ps : List Piece) (old new : List Key) → node_at a key ≡ Some x → behind [] ps ≡ parts key x → OnOk r (new ≡ behind old ps) → OnOk r (new ≡ old ++ parts_at a key)
parts_listed (Ok _) a key x ps old new at is e = e ∙ behind_is old ps ∙ ap (λ l. old ++ l) (is ∙ sym (ap (made (parts key) []) at))
parts_listed (Err fault) a key x ps old new at is e = tt
