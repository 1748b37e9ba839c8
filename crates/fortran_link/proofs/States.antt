-- What typed states keep: variables are fetched and assigned.
use Rattle.std.proofs.Common.{◌≡◌, ℕ, Bool, true, false, if◌then◌else◌, ◌==◌, List, [], ◌∷◌, Option, Some, None, refl, sym, ap, subst, ◌∙◌, arith, inl, inr}
use Rattle.std.specs.Option.{option_map, option_and_then, option_or}
use Rattle.std.proofs.lemmas.Bool.Decides.{nat_tests, eqb_tells}
use Rattle.lf_base.specs.Outcome.{Stuck}
use Rattle.lf_base.specs.Acts.{look}
use Rattle.lf_base.specs.Equal.{World, Equal, Anyhow}
use Rattle.lf_base.proofs.Equals.{bind_equal, look_equal, given_equal, change_equal}
use Rattle.type_rules.specs.Values.{Scalar, Integer, Logical, Characters}
use Rattle.type_rules.specs.Store.{Value, Single, Array, Record, Store, held, with_held, read, write}
use Rattle.type_rules.specs.Bindings.{Binding, place_of}
use Rattle.asr_semantics.specs.Machine.{State, bound_in, binding_of, whole, variable, fetch, assign, stored, replaced, become, with_store, is_like, is_like_scalar, stuck}
use Rattle.ast_nodes.specs.declared.expression.Expr.{Expr}
use Rattle.fortran_semantics.specs.Declared.{ScalarType, IntegerType, LogicalType, Declared, Variable, declared_as}
use Rattle.fortran_link.specs.Typed.{IsTyped, HasType, Cell, IsBound, Typed, Later}

pub later_same : (s : State) → Later s s
later_same s = record { frame = refl; statics = refl; cells = λ i ty c. c }

pub later_more : (a b c : State) → Later a b → Later b c → Later a c
later_more a b c h k = record { frame = k.frame ∙ h.frame; statics = k.statics ∙ h.statics; cells = λ i ty x. k.cells i ty (h.cells i ty x) }

pub bound_later : (ty : ScalarType) (b : Binding) (s t : State) → Later s t → IsBound ty b s → IsBound ty b t
bound_later ty b s t l h = record { instance = h.instance; is = h.is; cell = l.cells h.instance ty h.cell }

module _ (unit_name : List ℕ) (declared : List Declared) where
  pub keeps : (s t : State) → Typed unit_name declared s → Later s t → Typed unit_name declared t
  keeps s t h l = record {
    frame = l.frame ∙ h.frame;
    variables = λ name ty init e.
        let v = h.variables name ty init e in
        record { binding = v.binding; is = ap (λ names. bound_in names (unit_name ∷ name ∷ [])) l.statics ∙ v.is; bound = bound_later ty v.binding s t l v.bound };
  }

  abbrev pub world : World State
  world = record { holds = Typed unit_name declared; later = Later; same = later_same; more = later_more; keeps = keeps }

-- the claim on values and on bindings
abbrev pub Is : ScalarType → Value → State → Type 0
Is ty value s = HasType ty value

like_scalar : (ty : ScalarType) (old new : Scalar) → IsTyped ty old → IsTyped ty new → is_like_scalar old new ≡ true
like_scalar (IntegerType kind) (Integer j a) (Integer k b) h g = let e = h.0 in let f = g.0 in grind (arith, nat_tests)
like_scalar (IntegerType kind) (Integer j a) (Logical t) h g = absurd g
like_scalar (IntegerType kind) (Integer j a) (Characters t) h g = absurd g
like_scalar (IntegerType kind) (Logical t) new h g = absurd h
like_scalar (IntegerType kind) (Characters t) new h g = absurd h
like_scalar LogicalType (Logical t) (Logical u) h g = refl
like_scalar LogicalType (Logical t) (Integer k b) h g = absurd g
like_scalar LogicalType (Logical t) (Characters b) h g = absurd g
like_scalar LogicalType (Integer j a) new h g = absurd h
like_scalar LogicalType (Characters t) new h g = absurd h

like_value : (ty : ScalarType) (old new : Value) → HasType ty old → HasType ty new → is_like old new ≡ true
like_value ty (Single old) (Single new) h g = like_scalar ty old new h g
like_value ty (Single old) (Array e x v) h g = absurd g
like_value ty (Single old) (Record c) h g = absurd g
like_value ty (Array e x v) new h g = absurd h
like_value ty (Record c) new h g = absurd h

-- a value that has two types has them as another of one of them has
again_scalar : (ty ty' : ScalarType) (old new : Scalar) → IsTyped ty old → IsTyped ty' old → IsTyped ty new → IsTyped ty' new
again_scalar (IntegerType kind) (IntegerType kind') (Integer j a) (Integer k b) h h' g = let e : kind' ≡ kind = sym h'.0 ∙ h.0 in subst (λ m. IsTyped (IntegerType m) (Integer k b)) (sym e) g
again_scalar (IntegerType kind) (IntegerType kind') (Integer j a) (Logical t) h h' g = absurd g
again_scalar (IntegerType kind) (IntegerType kind') (Integer j a) (Characters t) h h' g = absurd g
again_scalar (IntegerType kind) ty' (Logical t) new h h' g = absurd h
again_scalar (IntegerType kind) ty' (Characters t) new h h' g = absurd h
again_scalar (IntegerType kind) LogicalType (Integer j a) new h h' g = absurd h'
again_scalar LogicalType LogicalType (Logical t) new h h' g = g
again_scalar LogicalType (IntegerType kind') (Logical t) new h h' g = absurd h'
again_scalar LogicalType ty' (Integer j a) new h h' g = absurd h
again_scalar LogicalType ty' (Characters t) new h h' g = absurd h

again_value : (ty ty' : ScalarType) (old new : Value) → HasType ty old → HasType ty' old → HasType ty new → HasType ty' new
again_value ty ty' (Single old) (Single new) h h' g = again_scalar ty ty' old new h h' g
again_value ty ty' (Single old) (Array e x v) h h' g = absurd g
again_value ty ty' (Single old) (Record c) h h' g = absurd g
again_value ty ty' (Array e x v) new h h' g = absurd h
again_value ty ty' (Record c) new h h' g = absurd h

-- the store behind an assignment
held_here : (store : Store) (i : ℕ) (old new : Value) → held store i ≡ Some old → held (with_held store i new) i ≡ Some new
held_here [] i old new e = absurd (cc)
held_here (entry ∷ store) i old new e = by (entry.0 == i) refl (λ h. held_here store i old new h)
  where
    self : (n : ℕ) → (n == n) ≡ true
    self n = grind (arith, nat_tests)

    by : (t : Bool) → (entry.0 == i) ≡ t → (held store i ≡ Some old → held (with_held store i new) i ≡ Some new) → held (if t then (i, new) ∷ store else entry ∷ with_held store i new) i ≡ Some new
    by true f more = ap (λ t. if t then Some new else held store i) (self i)
    by false f more =
        ap (λ t. if t then Some entry.1 else held (with_held store i new) i) f
        ∙ more (sym (ap (λ t. if t then Some entry.1 else held store i) f) ∙ e)

held_apart : (store : Store) (i j : ℕ) (new : Value) → (i == j) ≡ false → held (with_held store i new) j ≡ held store j
held_apart [] i j new n = refl
held_apart (entry ∷ store) i j new n = by (entry.0 == i) refl (held_apart store i j new n)
  where
    by : (t : Bool) → (entry.0 == i) ≡ t → held (with_held store i new) j ≡ held store j → held (if t then (i, new) ∷ store else entry ∷ with_held store i new) j ≡ held (entry ∷ store) j
    by true f more =
        let o : (entry.0 == j) ≡ false = grind (arith, nat_tests) in
        ap (λ t. if t then Some new else held store j) n ∙ sym (ap (λ t. if t then Some entry.1 else held store j) o)
    by false f more = ap (λ o. if entry.0 == j then Some entry.1 else o) more

cell_kept : (store : Store) (i : ℕ) (ty : ScalarType) (old new : Value) → held store i ≡ Some old → HasType ty old → HasType ty new → (j : ℕ) (ty' : ScalarType) → Cell store j ty' → Cell (with_held store i new) j ty'
cell_kept store i ty old new e h g j ty' c =
    elim (eqb_tells i j) as (λ _. Cell (with_held store i new) j ty') [
      | inl p ↦
          let q : held store j ≡ Some old = subst (λ k. held store k ≡ Some old) p.1 e in
          let o : c.value ≡ old = some_same (sym c.is ∙ q) in
          record { value = new; is = subst (λ k. held (with_held store i new) k ≡ Some new) p.1 (held_here store i old new e); typed = again_value ty ty' old new h (subst (HasType ty') o c.typed) g }
      | inr p ↦ record { value = c.value; is = held_apart store i j new p.0 ∙ c.is; typed = c.typed }
    ]
  where
    some_same : Some c.value ≡ Some old → c.value ≡ old
    some_same q = cc

record Found (ty : ScalarType) (o : Option Binding) (s : State) : Type 0 where
  binding : Binding
  is : o ≡ Some binding
  bound : IsBound ty binding s

record Reads (ty : ScalarType) (o : Option Value) (s : State) : Type 0 where
  value : Value
  is : o ≡ Some value
  typed : HasType ty value

record Writes (o : Option Store) (s : State) : Type 0 where
  store : Store
  is : o ≡ Some store
  cells : (j : ℕ) (ty : ScalarType) → Cell s.store j ty → Cell store j ty

same_store : (x y : Store) → Some x ≡ Some y → y ≡ x
same_store x y q = cc

module _ (unit_name : List ℕ) (declared : List Declared) where
  abbrev pub W : World State
  W = world unit_name declared

  -- a declared variable is bound to a cell of its type
  pub variable_equal : (P : State → Type 0) (name : List ℕ) (ty : ScalarType) (init : Option Expr) → declared_as declared name ≡ Some (Variable ty init) → Equal W P (IsBound ty) (variable (unit_name ∷ name ∷ [])) (variable (unit_name ∷ name ∷ []))
  variable_equal P name ty init e =
      bind_equal W P (Found ty) (IsBound ty) (look (binding_of (unit_name ∷ name ∷ []))) (look (binding_of (unit_name ∷ name ∷ []))) stuck stuck
      (look_equal W P (Found ty) (binding_of (unit_name ∷ name ∷ [])) (binding_of (unit_name ∷ name ∷ [])) found (λ s h p. refl))
      (λ o s h p. given_equal W (λ t. W.later s t × Found ty o t) (IsBound ty) Stuck o (λ t k q. (q.1.binding, q.1.is, q.1.bound)))
    where
      found : (s : State) → W.holds s → P s → Found ty (binding_of (unit_name ∷ name ∷ []) s) s
      found s h p =
          let v = h.variables name ty init e in
          record {
            binding = v.binding;
            is = ap (λ names. option_or (bound_in names (unit_name ∷ name ∷ [])) (bound_in s.statics (unit_name ∷ name ∷ []))) h.frame ∙ v.is;
            bound = v.bound;
          }

  -- its value has its type
  pub fetch_equal : (P : State → Type 0) (b : Binding) (ty : ScalarType) → ((s : State) → W.holds s → P s → IsBound ty b s) → Equal W P (Is ty) (fetch b) (fetch b)
  fetch_equal P b ty bound =
      bind_equal W P (Reads ty) (Is ty) (look (λ s. read s.store (place_of b))) (look (λ s. read s.store (place_of b))) stuck stuck
      (look_equal W P (Reads ty) (λ s. read s.store (place_of b)) (λ s. read s.store (place_of b)) found (λ s h p. refl))
      (λ o s h p. given_equal W (λ t. W.later s t × Reads ty o t) (Is ty) Stuck o (λ t k q. (q.1.value, q.1.is, q.1.typed)))
    where
      found : (s : State) → W.holds s → P s → Reads ty (read s.store (place_of b)) s
      found s h p =
          let i = bound s h p in
          record {
            value = i.cell.value;
            is = ap (λ c. read s.store (place_of c)) i.is ∙ ap (λ o. option_and_then (λ v. Some v) o) i.cell.is;
            typed = i.cell.typed;
          }

  kept : (s : State) (store : Store) (t : State) → W.holds t → W.later s t × Writes (Some store) t → W.later t (with_store store t) × Unit {0}
  kept s store t h p = (record { frame = refl; statics = refl; cells = λ j ty c. subst (λ x. Cell x j ty) (same_store store p.1.store p.1.is) (p.1.cells j ty c) }, tt)

  become_equal : (s : State) (o : Option Store) → Equal W (λ t. W.later s t × Writes o t) Anyhow (become o) (become o)
  become_equal s None = λ t h p w. absurd (cc (p.1.is))
  become_equal s (Some store) = change_equal W (λ t. W.later s t × Writes (Some store) t) Anyhow (with_store store) (with_store store) (kept s store) (λ t h p. refl)

  -- and it may be assigned one
  pub assign_equal : (P : State → Type 0) (b : Binding) (ty : ScalarType) (value : Value) → HasType ty value → ((s : State) → W.holds s → P s → IsBound ty b s) → Equal W P Anyhow (assign b value) (assign b value)
  assign_equal P b ty value g bound =
      bind_equal W P Writes Anyhow (look (stored b value)) (look (stored b value)) become become
      (look_equal W P Writes (stored b value) (stored b value) found (λ s h p. refl))
      (λ o s h p. become_equal s o)
    where
      found : (s : State) → W.holds s → P s → Writes (stored b value s) s
      found s h p =
          let i = bound s h p in
          record {
            store = with_held s.store i.instance value;
            is =
                ap (λ c. replaced s.store (place_of c) value (read s.store (place_of c))) i.is
                ∙ ap (λ o. replaced s.store (place_of (whole i.instance)) value (option_and_then (λ v. Some v) o)) i.cell.is
                ∙ ap (λ t. if t then write s.store (place_of (whole i.instance)) value else None) (like_value ty i.cell.value value i.cell.typed g)
                ∙ ap (λ o. option_map (with_held s.store i.instance) (option_and_then (λ old. Some value) o)) i.cell.is;
            cells = cell_kept s.store i.instance ty i.cell.value value i.cell.is i.cell.typed g;
          }
