-- An assignment of a source does what its tree does.
use Rattle.std.proofs.lemmas.Bool.Decides.{eqb_tells}
use Rattle.std.proofs.Common.{◌≡◌, ℕ, ℤ, Bool, true, false, if◌then◌else◌, ◌==◌, List, [], ◌∷◌, Option, Some, None, Ok, Err, refl, sym, ap, subst, ◌∙◌, inl, inr}
use Rattle.std.specs.List.{list_any}
use Rattle.std.specs.Str.{bytes_eq}
use Rattle.lf_base.specs.Outcome.{Location, Written}
use Rattle.lf_base.specs.Acts.{Stretch, Going, Stopped, then_do, bind, give}
use Rattle.lf_base.specs.Equal.{World, Equal, EqualAt, Always, Anyhow}
use Rattle.lf_base.proofs.Equals.{bind_equal, bind_bind, give_equal, equal_steps, equal_always, step_equal}
use Rattle.type_rules.specs.Values.{Integer, Logical, Evaluation, is_kind, is_in_kind}
use Rattle.type_rules.specs.Store.{Value, Single}
use Rattle.type_rules.specs.Bindings.{Binding}
use Rattle.type_rules.specs.Operations.{convert}
use Rattle.type_rules.specs.declared.constant.Op.TheVariants.{Convert}
use Rattle.asr_nodes.specs.declared.tree.ExprTree.{ExprTree}
use Rattle.asr_nodes.specs.declared.tree.ExprTree.TheVariants as e
use Rattle.asr_semantics.specs.Machine.{State, M, result, assign}
use Rattle.asr_semantics.specs.Entities.{Entities}
use Rattle.asr_semantics.specs.Meaning.{operate, Calls, expression}
use Rattle.asr_semantics.specs.Meaning as t
use Rattle.asr_semantics.proofs.Nodes.{expression-Convert}
use Rattle.fortran_semantics.specs.Declared.{ScalarType, IntegerType, LogicalType, Declared}
use Rattle.fortran_semantics.specs.Meaning as f
use Rattle.fortran_semantics.specs.Meaning.{Meant, becoming}
use Rattle.ast_to_asr.specs.Expressions.{Elaborated, Elab, in_kind}
use Rattle.ast_to_asr.specs.Statements.{assigned_tree, changed, changed_name, assigned_value}
use Rattle.fortran_link.specs.Typed.{HasType, IsBound}
use Rattle.fortran_link.specs.Claims.{IsKinded}
use Rattle.fortran_link.proofs.States.{Is, W, assign_equal}
use Rattle.fortran_link.proofs.Values.{convert_own, convert_yields}
use Rattle.fortran_link.proofs.Expressions.{result_equal, on_integer, on_logical}
use Rattle.fortran_link.proofs.Claims.{Claim, ClaimOf}

-- an act, and then only its value
given_again : {A : Type 0} (x : Stretch State A) → then_do x give ≡ x
given_again (Going value s sofar) = refl
given_again (Stopped outcome) = refl

module _ (unit_name : List ℕ) (declared : List Declared) (es : Entities) (n : ℕ) (inner : Calls) where
  abbrev V : World State
  V = W unit_name declared

  abbrev A : ExprTree → Location → M Value
  A x here = (expression es n inner x).value here

  -- what gives the value back changes nothing
  same_again : {X Y : Type 0} (P : X → State → Type 0) (U : Y → State → Type 0) (act : M X) (act' : M Y) (go : X → M Y) → Equal V Always U (bind act go) (bind act' give) → Equal V Always U (bind act go) act'
  same_again P U act act' go h = λ s i p w. equal_steps V s U (bind act go s w) (bind act go s w) (act' s w) (then_do (act' s w) give) refl (sym (given_again (act' s w))) (h s i p w)

  -- a value in the type of what it is assigned to, which is converted in the tree
  number_into : (here : Location) (k j : ℕ) (x : ExprTree) (act : M Value) → is_kind k ≡ true → Equal V Always (Is (IntegerType j)) act (A x here) → Equal V Always (Is (IntegerType k)) (bind act (λ v. result here (becoming (IntegerType k) v))) (A (in_kind k j x) here)
  number_into here k j x act f claim =
      elim (eqb_tells j k) as (λ _. Equal V Always (Is (IntegerType k)) (bind act (λ v. result here (becoming (IntegerType k) v))) (A (in_kind k j x) here)) [
        | inl p ↦
            subst (λ b. Equal V Always (Is (IntegerType k)) (bind act (λ v. result here (becoming (IntegerType k) v))) (A (if b then x else e.Convert k x) here)) (sym p.0)
            (same_again (Is (IntegerType j)) (Is (IntegerType k)) act (A x here) (λ v. result here (becoming (IntegerType k) v))
            (bind_equal V Always (Is (IntegerType j)) (Is (IntegerType k)) act (A x here) (λ v. result here (becoming (IntegerType k) v)) give claim
            (λ v s i q.
            on_integer unit_name declared j (Is (IntegerType k)) (λ u. result here (becoming (IntegerType k) u)) give s
            (λ z g r. own here k j z p.1 f g r) v)))
        | inr p ↦
            subst (λ b. Equal V Always (Is (IntegerType k)) (bind act (λ v. result here (becoming (IntegerType k) v))) (A (if b then x else e.Convert k x) here)) (sym p.0)
            (subst (λ m. Equal V Always (Is (IntegerType k)) (bind act (λ v. result here (becoming (IntegerType k) v))) (m.value here)) (sym (expression-Convert es n inner k x))
            (bind_equal V Always (Is (IntegerType j)) (Is (IntegerType k)) act (A x here) (λ v. result here (becoming (IntegerType k) v)) (λ v. operate here (Convert k) (v ∷ [])) claim
            (λ v s i q.
            on_integer unit_name declared j (Is (IntegerType k)) (λ u. result here (becoming (IntegerType k) u)) (λ u. operate here (Convert k) (u ∷ [])) s
            (λ z g r. result_equal unit_name declared Always here (IntegerType k) (convert k (Integer j z)) (convert_yields k f j z)) v)))
      ]
    where
      own : (here : Location) (k j : ℕ) (z : ℤ) → j ≡ k → is_kind k ≡ true → is_kind j ≡ true → is_in_kind j z ≡ true → Equal V Always (Is (IntegerType k)) (result here (becoming (IntegerType k) (Single (Integer j z)))) (give (Single (Integer j z)))
      own here k j z q f g r =
          subst (λ m. Equal V Always (Is (IntegerType m)) (result here (becoming (IntegerType m) (Single (Integer j z)))) (give (Single (Integer j z)))) q
          (subst (λ x. Equal V Always (Is (IntegerType j)) (result here (Rattle.type_rules.specs.Arrays.single x)) (give (Single (Integer j z)))) (sym (convert_own j z g r))
          (give_equal V Always (Is (IntegerType j)) (Single (Integer j z)) (λ s i p. (refl, g, r))))

  into_type : (here : Location) (ty s : ScalarType) (x y : ExprTree) (act : M Value) → assigned_tree ty s x ≡ Some y → IsKinded ty → Equal V Always (Is s) act (A x here) → Equal V Always (Is ty) (bind act (λ v. result here (becoming ty v))) (A y here)
  into_type here (IntegerType k) (IntegerType j) x y act q f claim = let r : in_kind k j x ≡ y = cc in subst (λ u. Equal V Always (Is (IntegerType k)) (bind act (λ v. result here (becoming (IntegerType k) v))) (A u here)) r (number_into here k j x act f claim)
  into_type here LogicalType LogicalType x y act q f claim =
      let r : x ≡ y = cc in
      subst (λ u. Equal V Always (Is LogicalType) (bind act (λ v. result here (becoming LogicalType v))) (A u here)) r
      (same_again (Is LogicalType) (Is LogicalType) act (A x here) (λ v. result here (becoming LogicalType v))
      (bind_equal V Always (Is LogicalType) (Is LogicalType) act (A x here) (λ v. result here (becoming LogicalType v)) give claim
      (λ v s i p.
      on_logical unit_name declared (Is LogicalType) (λ u. result here (becoming LogicalType u)) give s
      (λ b. give_equal V Always (Is LogicalType) (Single (Logical b)) (λ s i p. tt)) v)))
  into_type here (IntegerType k) LogicalType x y act q f claim = absurd (cc)
  into_type here LogicalType (IntegerType j) x y act q f claim = absurd (cc)

  -- the value, then what it becomes, then what the target is bound to
  pub assigns_equal : (here : Location) (ty s : ScalarType) (target x y : ExprTree) (m v : Meant) → assigned_tree ty s x ≡ Some y → IsKinded ty → Equal V Always (IsBound ty) m.place ((expression es n inner target).place here) → ((u : Value) → m.becomes u ≡ becoming ty u) → Equal V Always (Is s) (v.value here) (A x here) → Equal V Always Anyhow (f.assigns here m v) (t.assigns here (expression es n inner target) (expression es n inner y))
  assigns_equal here ty s target x y m v q c place becomes claim =
      λ state i p w. equal_steps V state Anyhow
      (f.assigns here m v state w) (bind (bind (v.value here) (λ u. result here (m.becomes u))) (λ u. bind m.place (λ b. assign b u)) state w)
      (t.assigns here (expression es n inner target) (expression es n inner y) state w) (t.assigns here (expression es n inner target) (expression es n inner y) state w)
      (sym (bind_bind (v.value here) (λ u. result here (m.becomes u)) (λ u. bind m.place (λ b. assign b u)) state w)) refl
      (bind_equal V Always (Is ty) Anyhow (bind (v.value here) (λ u. result here (m.becomes u))) (A y here)
      (λ u. bind m.place (λ b. assign b u)) (λ u. bind ((expression es n inner target).place here) (λ b. assign b u))
      (turned (into_type here ty s x y (v.value here) q c claim))
      (λ u s1 i1 p1.
      λ s2 i2 p2 w2.
      bind_equal V Always (IsBound ty) Anyhow m.place ((expression es n inner target).place here) (λ b. assign b u) (λ b. assign b u) place
      (λ b s3 i3 p3. assign_equal unit_name declared (λ r. V.later s3 r × IsBound ty b r) b ty u p2.1 (λ r j k. k.1)) s2 i2 tt w2)
      state i p w)
    where
      turned : Equal V Always (Is ty) (bind (v.value here) (λ u. result here (becoming ty u))) (A y here) → Equal V Always (Is ty) (bind (v.value here) (λ u. result here (m.becomes u))) (A y here)
      turned h = subst (λ (g : Value → Evaluation Value). Equal V Always (Is ty) (bind (v.value here) (λ u. result here (g u))) (A y here)) (λ k u. sym (becomes u) k) h

  -- where the target may be changed, and the value has its type
  abbrev pub Assigned : Location → Elab → Option ExprTree → Elaborated → Meant → Meant → Type 0
  Assigned here (Ok target) (Some y) a m v = Equal V Always Anyhow (f.assigns here m v) (t.assigns here (expression es n inner a.tree) (expression es n inner y))
  Assigned here (Ok target) None a m v = Unit {0}
  Assigned here (Err rule) p a m v = Unit {0}

  -- an assignment that breaks no rule, of a variable that no loop steps
  pub assignment_by : (here : Location) (active : List (List ℕ)) (a b : Elaborated) (m v : Meant) → Claim unit_name declared es n inner a m → Claim unit_name declared es n inner b v → (o : Option (List ℕ)) → a.variable ≡ o → (p : Option ExprTree) → assigned_tree a.ty b.ty b.tree ≡ p → Assigned here (changed_name active a o) p a m v
  assignment_by here active a b m v h g None q p r = tt
  assignment_by here active a b m v h g (Some name) q None r = either (list_any (bytes_eq name) active)
    where
      either : (u : Bool) → Assigned here (if u then Err Rattle.lf_base.specs.declared.rule.Rule.TheVariants.E410 else Ok a) None a m v
      either true = tt
      either false = tt
  assignment_by here active a b m v h g (Some name) q (Some y) r = either (list_any (bytes_eq name) active)
    where
      either : (u : Bool) → Assigned here (if u then Err Rattle.lf_base.specs.declared.rule.Rule.TheVariants.E410 else Ok a) (Some y) a m v
      either true = tt
      either false = let w = h.target name q in assigns_equal here a.ty b.ty a.tree b.tree y m v r h.kinded (w.place here) w.becomes (g.does here)
