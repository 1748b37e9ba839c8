-- An expression, and the code that puts its value into a temporary: a claim from each state.
use Rattle.std.proofs.Common.{◌≡◌, ℕ, suc, ◌+◌, ◌*◌, ◌≤◌, Bool, true, false, cond, leb, List, Option, Some, None, refl, sym, ap, subst, ◌∙◌, arith, leb-true, ◌&&◌}
use Rattle.std.proofs.lemmas.Bool.{and_parts}
use Rattle.std.proofs.lemmas.Map.{update_apart}
use Rattle.lf_base.specs.Outcome.{Location, Written, Stuck, KeepsLocation}
use Rattle.lf_base.specs.Traps.{trap_text}
use Rattle.lf_base.specs.declared.trap.Trap.TheVariants.{IntegerOverflow}
use Rattle.lf_base.specs.Acts.{Going, Act, then_do, bind, give, trap_at, given, next_or}
use Rattle.lf_base.specs.Order.{Link}
use Rattle.lf_base.specs.Alike.{Alike, AlikeFrom}
use Rattle.lf_base.proofs.Alike.{alike_then, alike_weaker}
use Rattle.link_toy.specs.Source.{Expression, Number, Variable, Sum, Less, Product, Scope, knows}
use Rattle.link_toy.specs.Meaning.{Store, by_name, find, fetch, less, largest_factor, product, value}
use Rattle.link_toy.specs.Target.{CExpression, CStatement, Load, Add, IsLess, Then, Set, Multiply, Memory, cell, set_cell, load, store_in, c_value, added_up, overflow, multiply, multiply_into, Callable, Multiplier, exec_c}
use Rattle.link_toy.specs.Translation.{Layout, IsLayout, evaluate}
use Rattle.link_toy.specs.Relation.{ObjectsHold, Unchanged, Valued, Besides, InTemporary}
use Rattle.link_toy.proofs.Helper.{after_load, cell_set, multiplies}
use Rattle.link_toy.proofs.Cells.{unchanged_same, unchanged_more, unchanged_set, cell_kept, objects_kept}

-- a variable is read
pub fetch_is : (x v : ℕ) (s : Store) (w : Written) → find x s ≡ Some v → fetch by_name x s w ≡ Going v s w
fetch_is x v s w e = ap (λ o. given Stuck o s w) e

-- what was stored, then the rest
pub once_stored : {A B : Type 0} (t v : ℕ) (Q : Store → Memory → Type 0) (T : Link Store A Memory (Option B)) (act : Act Store A) (rest : Act Memory (Option B)) → AlikeFrom KeepsLocation (Besides t v Q) T act rest → (o : Option B) → AlikeFrom KeepsLocation (λ s m. (o ≡ None) × Besides t v Q s m) T act (next_or rest o)
once_stored t v Q T act rest h None s m w r = h s m w r.1
once_stored t v Q T act rest h (Some b) s m w r = absurd (cc r.0)

-- calls are deep enough for the helper
abbrev pub Helps : ℕ → (Callable → Act Memory ℕ) → Type 0
Helps n inner = (r u v : ℕ) (text : List ℕ) → inner (Multiplier r u v text) ≡ multiply n r u v text

valued : (t v : ℕ) (s : Store) (m : Memory) → Valued t s m v s None (set_cell t v m)
valued t v s m = (refl, cell_set t v m, refl, unchanged_set t t v m (omega arith))

module _ (n : ℕ) (enough : largest_factor ≤ n) (inner : Callable → Act Memory ℕ) (helps : Helps n inner) (scope : Scope) (layout : Layout) (ok : IsLayout scope layout) (here : Location) where
  abbrev code : Expression → ℕ → Act Memory (Option ℕ)
  code e t = exec_c n inner (evaluate layout.object here e t)

  -- the last step of an operator, whose operands stand in t and t + 1
  abbrev Ends : ℕ → (ℕ → ℕ → Act Store ℕ) → CStatement → Type 0
  Ends t operator last = (u v : ℕ) (s : Store) (m : Memory) (w : Written) → cell t m ≡ Some u → cell (suc t) m ≡ Some v → Alike KeepsLocation (Valued t s m) (operator u v s w) (exec_c n inner last m w)

  abbrev pub Claim : Expression → Type 0
  Claim e = knows scope e ≡ true → (t : ℕ) → layout.base ≤ t → (s : Store) (m : Memory) (w : Written) → ObjectsHold scope layout s m → Alike KeepsLocation (Valued t s m) (value by_name here e s w) (code e t m w)

  operator_is : (a b : Expression) → (knows scope a && knows scope b) ≡ true → (t : ℕ) → layout.base ≤ t → (operator : ℕ → ℕ → Act Store ℕ) (last : CStatement) → Claim a → Claim b → Ends t operator last → (s : Store) (m : Memory) (w : Written) → ObjectsHold scope layout s m → Alike KeepsLocation (Valued t s m) (bind (value by_name here a) (λ u. bind (value by_name here b) (operator u)) s w) (exec_c n inner (Then (evaluate layout.object here a t) (Then (evaluate layout.object here b (suc t)) last)) m w)
  operator_is a b f t low operator last ha hb hl s m w h =
      alike_then KeepsLocation (Valued t s m) (Valued t s m) (value by_name here a s w) (code a t m w) (λ u. bind (value by_name here b) (operator u)) (next_or (exec_c n inner (Then (evaluate layout.object here b (suc t)) last))) (ha (and_parts (knows scope a) (knows scope b) f).0 t low s m w h) second
    where
      third : (u : ℕ) (s1 : Store) (m1 : Memory) → Valued t s m u s1 None m1 → (v : ℕ) (o : Option ℕ) → AlikeFrom KeepsLocation (λ s2 m2. Valued (suc t) s1 m1 v s2 o m2) (Valued t s m) (operator u v) (next_or (exec_c n inner last) o)
      third u s1 m1 r v (Some j) s2 m2 w2 q = absurd (cc q.0)
      third u s1 m1 r v None s2 m2 w2 q =
          alike_weaker KeepsLocation (Valued t s2 m2) (Valued t s m) (operator u v s2 w2) (exec_c n inner last m2 w2)
          (λ x s3 o m3 z. (z.0, z.1, z.2 ∙ q.2 ∙ r.2, unchanged_more t t (omega arith) m m2 m3 (unchanged_more t (suc t) (omega arith) m m1 m2 r.3 q.3) z.3))
          (hl u v s2 m2 w2 (cell_kept (suc t) t m1 m2 (omega arith) q.3 ∙ r.1) q.1)

      second : (u : ℕ) (o : Option ℕ) → AlikeFrom KeepsLocation (λ s1 m1. Valued t s m u s1 o m1) (Valued t s m) (bind (value by_name here b) (operator u)) (next_or (exec_c n inner (Then (evaluate layout.object here b (suc t)) last)) o)
      second u (Some j) s1 m1 w1 r = absurd (cc r.0)
      second u None s1 m1 w1 r =
          alike_then KeepsLocation (Valued (suc t) s1 m1) (Valued t s m) (value by_name here b s1 w1) (code b (suc t) m1 w1) (operator u) (next_or (exec_c n inner last))
          (hb (and_parts (knows scope a) (knows scope b) f).1 (suc t) (omega arith) s1 m1 w1 (subst (λ z. ObjectsHold scope layout z m1) (sym r.2) (objects_kept scope layout ok t low s m m1 h r.3)))
          (third u s1 m1 r)

  -- an operator of C
  set_ends : (t : ℕ) (f : ℕ → ℕ → ℕ) (e : CExpression) → ((u v : ℕ) (m : Memory) (w : Written) → cell t m ≡ Some u → cell (suc t) m ≡ Some v → c_value e m w ≡ Going (f u v) m w) → Ends t (λ u v. give (f u v)) (Set t e)
  set_ends t f e h u v s m w p q = (None, set_cell t (f u v) m, valued t (f u v) s m, ap (λ z. then_do z (store_in t)) (h u v m w p q))

  operands : (t u v : ℕ) (f : ℕ → ℕ → ℕ) (m : Memory) (w : Written) → cell t m ≡ Some u → cell (suc t) m ≡ Some v → bind (load t) (λ u. bind (load (suc t)) (λ v. give (f u v))) m w ≡ Going (f u v) m w
  operands t u v f m w p q = after_load t u m w (λ u. bind (load (suc t)) (λ v. give (f u v))) p ∙ after_load (suc t) v m w (λ v. give (f u v)) q

  -- the helper gives the product, or writes the text of the trap and ends with its status
  by_helper : (t u v : ℕ) (s : Store) (m : Memory) (w : Written) → (b : Bool) → leb u largest_factor ≡ b → Alike KeepsLocation (Valued t s m) (cond b (give {S = Store} (u * v)) (trap_at IntegerOverflow here) s w) (then_do (cond b (added_up n (suc t) u v) (overflow (trap_text IntegerOverflow here)) m w) (store_in t))
  by_helper t u v s m w true e =
      let x = multiplies (Unchanged (suc t) m) (suc t) v (λ i o y lo g. unchanged_more (suc t) (suc t) (omega arith) m i (set_cell o y i) g (unchanged_set (suc t) o y i lo)) w n u m (let fits = leb-true u largest_factor e in omega (arith, fits, enough)) (unchanged_same (suc t) m) in
      (None, set_cell t (u * v) x.0, (refl, cell_set t (u * v) x.0, refl, (x.1.0, (λ a b. let fr = x.1.0 in update_apart x.0.cells (x.0.frame + t) (Some (u * v)) a (λ i. omega (arith, b, fr, i)) ∙ x.1.1 a (omega (arith, b))))), ap (λ z. then_do z (store_in t)) x.2)
  by_helper t u v s m w false e = (None, tt, refl)

  abbrev text : List ℕ
  text = trap_text IntegerOverflow here

  multiply_ends : (t : ℕ) → Ends t (product here) (Multiply t t (suc t) (trap_text IntegerOverflow here))
  multiply_ends t u v s m w p q =
      subst (λ z. Alike KeepsLocation (Valued t s m) (product here u v s w) z)
      (sym (after_load t u m w (λ u. bind (load (suc t)) (multiply_into inner t text u)) p ∙ after_load (suc t) v m w (multiply_into inner t text u) q ∙ ap (λ act. bind act (store_in t) m w) (helps (suc t) u v text)))
      (by_helper t u v s m w (leb u largest_factor) refl)

  variable_is : (x t v : ℕ) (s : Store) (m : Memory) (w : Written) → find x s ≡ Some v → cell (layout.object x) m ≡ Some v → Alike KeepsLocation (Valued t s m) (value by_name here (Variable x) s w) (code (Variable x) t m w)
  variable_is x t v s m w e f = subst (λ z. Alike KeepsLocation (Valued t s m) z (code (Variable x) t m w)) (sym (fetch_is x v s w e)) (None, set_cell t v m, valued t v s m, after_load (layout.object x) v m w (store_in t) f)

  pub values : (e : Expression) → Claim e
  values (Number v) f t low = λ s m w h. (None, set_cell t v m, valued t v s m, refl)
  values (Variable x) f t low = λ s m w h. let y = h x f in variable_is x t y.0 s m w y.1 y.2
  values (Sum a b) f t low = operator_is a b f t low (λ u v. give (u + v)) (Set t (Add (Load t) (Load (suc t)))) (values a) (values b) (set_ends t (λ u v. u + v) (Add (Load t) (Load (suc t))) (λ u v. operands t u v (λ u v. u + v)))
  values (Less a b) f t low = operator_is a b f t low (λ u v. give (less u v)) (Set t (IsLess (Load t) (Load (suc t)))) (values a) (values b) (set_ends t less (IsLess (Load t) (Load (suc t))) (λ u v. operands t u v less))
  values (Product a b) f t low = operator_is a b f t low (product here) (Multiply t t (suc t) (trap_text IntegerOverflow here)) (values a) (values b) (multiply_ends t)

  -- from a relation that whatever keeps the cells below t keeps
  pub stored_from : (e : Expression) → knows scope e ≡ true → (t : ℕ) → layout.base ≤ t → (Q : Store → Memory → Type 0) → ((s : Store) (m : Memory) → Q s m → ObjectsHold scope layout s m) → ((s : Store) (m m' : Memory) → Q s m → Unchanged t m m' → Q s m') → AlikeFrom KeepsLocation Q (InTemporary t Q) (value by_name here e) (code e t)
  stored_from e f t low Q q k s m w h = alike_weaker KeepsLocation (Valued t s m) (InTemporary t Q) (value by_name here e s w) (code e t m w) (λ v s' o m' r. (r.0, (r.1, subst (λ z. Q z m') (sym r.2) (k s m m' h r.3)))) (values e f t low s m w (q s m h))
