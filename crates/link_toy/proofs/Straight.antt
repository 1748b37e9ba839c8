-- Statements with no loop and no call, and their code, are alike: one lemma each, for both directions.
use Rattle.std.proofs.Common.{◌≡◌, ℕ, ◌≤◌, true, Option, Some, None, sym, ap, subst, arith, ◌&&◌}
use Rattle.std.proofs.lemmas.Bool.{and_parts}
use Rattle.lf_base.specs.Outcome.{Location, Written, KeepsLocation, KeptLocation, Never}
use Rattle.lf_base.specs.Acts.{Stretch, Going, Act, then_do, bind, give, change, print, next_or}
use Rattle.lf_base.specs.Order.{Link}
use Rattle.lf_base.specs.Alike.{Alike, AlikeFrom}
use Rattle.lf_base.proofs.Stretches.{Left}
use Rattle.lf_base.proofs.Alike.{alike_bind}
use Rattle.link_toy.specs.Source.{Expression, Assign, Print, Scope, is_declared, knows}
use Rattle.link_toy.specs.Meaning.{Store, Signal, by_name, find, put, largest_factor, line_of, assign, value, exec}
use Rattle.link_toy.specs.Target.{CStatement, Load, Set, Write, Memory, set_cell, store_in, Callable, exec_c}
use Rattle.link_toy.specs.Translation.{Layout, IsLayout, evaluate, translate}
use Rattle.link_toy.specs.Relation.{Kept, Stands, Besides, InTemporary, ExitJumps}
use Rattle.link_toy.proofs.Helper.{after_load}
use Rattle.link_toy.proofs.Cells.{stands_kept, stands_assigned}
use Rattle.link_toy.proofs.Values.{fetch_is, once_stored, Helps, stored_from}

-- how a statement and its code go on, where the label behind the loop around is `label`
abbrev pub LeftThere : (Store → Memory → Type 0) → ℕ → Link Store (Option Signal) Memory (Option ℕ)
LeftThere H label = Left Never KeepsLocation H (ExitJumps H label)

abbrev pub LeftBack : (Store → Memory → Type 0) → ℕ → Link Memory (Option ℕ) Store (Option Signal)
LeftBack H label = Left Never KeptLocation (λ m s. H s m) (λ j m b s. ExitJumps H label b s j m)

-- a declared variable is written
pub assign_is : (x v u : ℕ) (s : Store) (w : Written) → find x s ≡ Some u → assign by_name x v s w ≡ Going tt (put x v s) w
assign_is x v u s w e = ap (λ z. then_do z (λ old. change (put x v))) (fetch_is x u s w e)

module _ (scope : Scope) (layout : Layout) (ok : IsLayout scope layout) (kept : Kept) (low : layout.base ≤ kept.top) (n : ℕ) (enough : largest_factor ≤ n) (inner : Callable → Act Memory ℕ) (helps : Helps n inner) where
  abbrev H : Store → Memory → Type 0
  H = Stands scope layout kept

  abbrev t : ℕ
  t = kept.top

  abbrev code : CStatement → Act Memory (Option ℕ)
  code = exec_c n inner

  pub stored : (here : Location) (e : Expression) → knows scope e ≡ true → AlikeFrom KeepsLocation H (InTemporary t H) (value by_name here e) (code (evaluate layout.object here e t))
  stored here e f = stored_from n enough inner helps scope layout ok here e f t low H (λ s m h. h.0) (λ s m m' h k. stands_kept scope layout ok kept t low (omega arith) s m m' h k)

  module _ (label n' : ℕ) (inner' : ℕ → Act Store (Unit {0})) where
    put_by_code : (x v : ℕ) → is_declared scope x ≡ true → AlikeFrom KeepsLocation (Besides t v H) (LeftThere H label) (bind (assign by_name x v) (λ u. give None)) (code (Set (layout.object x) (Load t)))
    put_by_code x v dx s m w r =
        let y = r.1.0 x dx in
        by_step (bind (assign by_name x v) (λ u. give None) s w) (ap (λ z. then_do z (λ u. give None)) (assign_is x v y.0 s w y.1))
      where
        by_step : (z : Stretch Store (Option Signal)) → z ≡ Going None (put x v s) w → Alike KeepsLocation (LeftThere H label) z (code (Set (layout.object x) (Load t)) m w)
        by_step z e = subst (λ z. Alike KeepsLocation (LeftThere H label) z (code (Set (layout.object x) (Load t)) m w)) (sym e) (None, set_cell (layout.object x) v m, stands_assigned scope layout ok kept x v dx s m r.1, after_load t v m w (store_in (layout.object x)) r.0)

    pub assigned : (here : Location) (x : ℕ) (e : Expression) → (is_declared scope x && knows scope e) ≡ true → AlikeFrom KeepsLocation H (LeftThere H label) (exec by_name scope n' inner' (Assign here x e)) (code (translate scope layout (Assign here x e) t label))
    assigned here x e f =
        let both = and_parts (is_declared scope x) (knows scope e) f in
        alike_bind KeepsLocation H (InTemporary t H) (LeftThere H label) (value by_name here e) (code (evaluate layout.object here e t)) (λ v. bind (assign by_name x v) (λ u. give None)) (next_or (code (Set (layout.object x) (Load t)))) (stored here e both.1)
        (λ v o. once_stored t v H (LeftThere H label) (bind (assign by_name x v) (λ u. give None)) (code (Set (layout.object x) (Load t))) (put_by_code x v both.0) o)

    pub printed : (here : Location) (e : Expression) → knows scope e ≡ true → AlikeFrom KeepsLocation H (LeftThere H label) (exec by_name scope n' inner' (Print here e)) (code (translate scope layout (Print here e) t label))
    printed here e f =
        alike_bind KeepsLocation H (InTemporary t H) (LeftThere H label) (value by_name here e) (code (evaluate layout.object here e t)) (λ v. bind (print (line_of v)) (λ u. give None)) (next_or (code (Write t))) (stored here e f)
        (λ v o. once_stored t v H (LeftThere H label) (bind (print (line_of v)) (λ u. give None)) (code (Write t))
        (λ s m w r. (None, m, r.1, after_load t v m w (λ v. bind (print (line_of v)) (λ u. give None)) r.0)) o)
