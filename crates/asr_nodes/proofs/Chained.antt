-- A chain of `else if` is put link by link, and its closers behind it.
use Rattle.std.proofs.Common.{◌≡◌, ℕ, suc, ◌+◌, ◌-◌, ◌<◌, ◌≤◌, Bool, List, [], ◌∷◌, codes, map, length, slice_index_or, Option, refl, sym, ap, subst, ◌∙◌, arith, append-nil, append_assoc}
use Rattle.std.specs.Fmt.{decimal}
use Rattle.lf_base.specs.declared.id.ExprId.{ExprId}
use Rattle.lf_base.specs.declared.id.StmtId.{StmtId}
use Rattle.lf_base.specs.Contents.{joined}
use Rattle.ast_nodes.specs.Node.{opened, behind_blank, listed}
use Rattle.ast_nodes.specs.Prints.{Ended, Prints, Awaits}
use Rattle.ast_nodes.proofs.Chains.{prints_more, joined_first}
use Rattle.asr_nodes.specs.Reading.{stmt_node}
use Rattle.asr_nodes.specs.Shapes.{Shown, closers}
use Rattle.asr_nodes.specs.Text.{Text, expr_text, stmt_text, stmt_layer}
use Rattle.asr_nodes.specs.declared.node.Stmt.TheVariants.{If}
use Rattle.asr_nodes.specs.declared.tree.StmtTree.{StmtTree-F}
use Rattle.asr_nodes.proofs.Lengths.{first_longer}
use Rattle.asr_nodes.proofs.Texts.{stmt_text-If}

one_joined : (x : Text) → joined (x ∷ []) ≡ x
unfolding joined
one_joined x = append-nil x

-- an `if` with one statement in its `else` part
link_is : (tag x y z next : Text) → joined (tag ∷ x ∷ y ∷ z ∷ behind_blank (listed (next ∷ [])) ∷ codes ")" ∷ []) ≡ joined (joined (tag ∷ joined (x ∷ y ∷ z ∷ []) ∷ codes " [" ∷ []) ∷ next ∷ codes "])" ∷ [])
unfolding joined
link_is tag x y z next = simp (append_assoc, append-nil) refl

one_item : {A : Type 0} (xs ys : List A) (d : A) → ys ≡ xs → 1 ≤ length ys → length ys < 2 → xs ≡ slice_index_or ys 0 d ∷ []
one_item xs [] d e h k = absurd (omega (arith, h))
one_item xs (y ∷ []) d e h k = sym e
one_item xs (y ∷ z ∷ ys) d e h k = absurd (omega (arith, k))

pub link_text_is : (r : Shown) (line : ℕ) (condition : ExprId) (block others rest : List StmtId) (d : StmtId) → rest ≡ others → 1 ≤ length rest → length rest < 2
    → stmt_text (stmt_node r.reading (If line condition block others))
    ≡ joined (joined (opened (codes "If") ∷ joined (behind_blank (decimal line) ∷ behind_blank (expr_text (r.reading.expr condition)) ∷ behind_blank (listed (map stmt_text (map r.reading.stmt block))) ∷ []) ∷ codes " [" ∷ []) ∷ stmt_text (r.reading.stmt (slice_index_or rest 0 d)) ∷ codes "])" ∷ [])
link_text_is r line condition block others rest d e h k =
    stmt_text-If line (r.reading.expr condition) (map r.reading.stmt block) (map r.reading.stmt others)
    ∙ ap (λ b. stmt_layer (StmtTree-F.If line (expr_text (r.reading.expr condition)) (map stmt_text (map r.reading.stmt block)) (map stmt_text (map r.reading.stmt b)))) (one_item others rest d e h k)
    ∙ link_is (opened (codes "If")) (behind_blank (decimal line)) (behind_blank (expr_text (r.reading.expr condition))) (behind_blank (listed (map stmt_text (map r.reading.stmt block)))) (stmt_text (r.reading.stmt (slice_index_or rest 0 d)))

pub closers_more : (n : ℕ) → codes "])" ∷ closers n ≡ closers (n + 1)
closers_more n = ap closers (next n)
  where
    next : (n : ℕ) → suc n ≡ n + 1
    next n = omega arith

pub closers_left : (n i : ℕ) → i < n → closers (n - i) ≡ codes "])" ∷ closers (n - (i + 1))
closers_left n i l = ap closers (left n i l)
  where
    left : (n i : ℕ) → i < n → n - i ≡ suc (n - (i + 1))
    left n i l = omega (arith, l)

pub closers_none : (n i : ℕ) → n ≤ i → closers (n - i) ≡ []
closers_none n i l = ap closers (none n i l)
  where
    none : (n i : ℕ) → n ≤ i → n - i ≡ 0
    none n i l = omega (arith, l)

module _ {S : Type 0} (contents : S → Option (List ℕ)) (faults : S → ℕ) (fails takes : Bool) (keeps : S → S → Type 0) where
  -- the first of three pieces of what is awaited first
  pub awaits_inside : (r s t : Ended) (a b c : S) (all : List Text) (whole p q e : Text) (rest more : List Text) → Awaits contents faults fails takes keeps r s a b all (whole ∷ rest)
      → whole ≡ joined (p ∷ q ∷ e ∷ []) → e ∷ rest ≡ more → Prints contents faults fails takes keeps s t b c p → Awaits contents faults fails takes keeps r t a c all (q ∷ more)
  unfolding Awaits
  awaits_inside r s t a b c all whole p q e rest more w is m h =
      λ u d k.
      w u d
      (subst (λ x. Prints contents faults fails takes keeps s u b d x)
      (sym (ap (λ t. joined (t ∷ rest)) is ∙ joined_first (p ∷ q ∷ e ∷ []) rest ∙ ap (λ t. joined (p ∷ q ∷ t)) m))
      (prints_more contents faults fails takes keeps s t u b c d p (q ∷ more) h k))

  -- the last of what is awaited
  pub awaits_end : (r s t u : Ended) (a b c d : S) (whole p : Text) (rest : List Text) → Awaits contents faults fails takes keeps r s a b (whole ∷ []) (p ∷ rest)
      → Prints contents faults fails takes keeps s t b c p → Prints contents faults fails takes keeps t u c d (joined rest) → Prints contents faults fails takes keeps r u a d whole
  unfolding Awaits
  awaits_end r s t u a b c d whole p rest w h k =
      subst (λ x. Prints contents faults fails takes keeps r u a d x) (one_joined whole) (w u d (prints_more contents faults fails takes keeps s t u b c d p rest h k))

-- how long a chain's link and the rest of it are
pub link_shorter : (whole p q e : Text) → whole ≡ joined (p ∷ q ∷ e ∷ []) → length p + length q ≤ length whole
link_shorter whole p q e is =
    let n = ap length is in
    let a = first_longer p (q ∷ e ∷ []) in
    let b = first_longer q (e ∷ []) in
    omega arith
