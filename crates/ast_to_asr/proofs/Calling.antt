-- References of functions, by what was built of their arguments.
use Rattle.std.proofs.Common.{◌≡◌, ℕ, suc, ◌≤◌, ◌<◌, get_or, Bool, true, false, ◌&&◌, cond, List, [], ◌∷◌, ◌++◌, map, length, Some, None, Ok, Err, refl, sym, ap, subst, ◌∙◌, arith}
use Rattle.std.specs.Prelude.{Option, Result}
use Rattle.std.specs.List.{list_all}
use Rattle.std.proofs.lemmas.Bool.{and_parts}
use Rattle.std.proofs.lemmas.List.{append-nil}
use Rattle.lf_base.specs.declared.fault.Memory.{Memory}
use Rattle.lf_base.specs.declared.rule.Rule.{Rule}
use Rattle.lf_base.specs.declared.rule.Rule.TheVariants.{E304, E405, E406}
use Rattle.lf_base.specs.declared.id.ExprId.{ExprId}
use Rattle.asr_nodes.specs.Nodes.{Nodes}
use Rattle.asr_nodes.specs.declared.node.Expr.TheVariants.{Convert, Intrinsic}
use Rattle.asr_nodes.specs.declared.tree.ExprTree.TheVariants as tree
use Rattle.fortran_semantics.specs.Declared as declared
use Rattle.ast_to_asr.specs.declared.build.Built.{Built}
use Rattle.ast_to_asr.specs.declared.names.ScalarType.{ScalarType}
use Rattle.ast_to_asr.specs.declared.names.ScalarType.TheVariants.{Integer, Logical}
use Rattle.ast_to_asr.specs.Expressions.{Elaborated, Elab, Argument, argument_of, integer_argument, greatest_kind, greater, takes, called, miscounted, function_of, function_tree, in_kind}
use Rattle.ast_to_asr.specs.Judged.{Judged, also, both, map_right, in_front, all, and_then, lesser}
use Rattle.ast_to_asr.specs.Known.{type_of}
use Rattle.ast_to_asr.specs.Making.{Makes}
use Rattle.ast_to_asr.specs.Building.{Adds, Are, AnyWrong, Converted, BuildsOfAll, IsRight, IsWrong, IsBuilt, tree_at, key_of, kind_of, as_kind, greatest_of, is_integer, is_integer_type}
use Rattle.ast_to_asr.specs.Building.{ToKind, by_name}
use Rattle.ast_to_asr.specs.Expressions.{int_tree, int_to, huge_tree, huge_of, written_kind}
use Rattle.ast_to_asr.specs.Leaves.{integer_literal}
use Rattle.fortran_semantics.specs.Constants.{is_int, is_huge, intrinsic_named}
use Rattle.type_rules.specs.Values as values
use Rattle.ast_to_asr.proofs.Builds.{adds_makes}
use Rattle.ast_to_asr.proofs.Makings.{makes_dropped, makes_swapped, makes_more}

pub are_counted : (a : Nodes) (bs : List Built) (es : List Elab) → Are a bs es → length es ≡ length bs
are_counted a [] [] h = refl
are_counted a (b ∷ bs) (e ∷ es) h = ap suc (are_counted a bs es h.1)
are_counted a [] (e ∷ es) h = absurd h
are_counted a (b ∷ bs) [] h = absurd h

-- one argument, by its type
argument_is : (a : Nodes) (b : Built) (e : Elab) (k : ℕ) (h : IsRight a b e) → b.ty ≡ Integer k
    → integer_argument e ≡ Ok (record { kind = k; tree = h.elaborated.tree; is_constant = h.elaborated.is_constant; variable = h.elaborated.variable })
argument_is a b e k h t = ap integer_argument h.right ∙ ap (argument_of h.elaborated) (sym h.is.ty ∙ ap type_of t)

argument_wrong : (a : Nodes) (b : Built) (e : Elab) → IsRight a b e → b.ty ≡ Logical → integer_argument e ≡ Err E406
argument_wrong a b e h t = ap integer_argument h.right ∙ ap (argument_of h.elaborated) (sym h.is.ty ∙ ap type_of t)

-- what arguments that are all integers are
pub record Integers (a : Nodes) (bs : List Built) (es : List Elab) : Type 0 where
  pub arguments : List Argument
  pub right : all (map integer_argument es) ≡ Ok arguments
  pub trees : (kind : ℕ) → map (λ x. in_kind kind x.kind x.tree) arguments ≡ map (as_kind a kind) bs
  pub greatest : greatest_kind arguments ≡ greatest_of bs

all_next : (x : Judged Argument) (xs : List (Judged Argument)) (y : Argument) (ys : List Argument) → x ≡ Ok y → all xs ≡ Ok ys → all (x ∷ xs) ≡ Ok (y ∷ ys)
all_next x xs y ys e f = ap (λ z. map_right in_front (both z (all xs))) e ∙ ap (λ z. map_right in_front (both (Ok y) z)) f

typed : (ty : ScalarType) → is_integer_type ty ≡ true → (k : ℕ) × (ty ≡ Integer k)
typed (Integer k) h = (k, refl)
typed Logical h = absurd (let q : false ≡ true = h in cc)

logical : (ty : ScalarType) → is_integer_type ty ≡ false → ty ≡ Logical
logical (Integer k) h = absurd (let q : true ≡ false = h in cc)
logical Logical h = refl

pub integers_are : (a : Nodes) (bs : List Built) (es : List Elab) → Are a bs es → list_all is_integer bs ≡ true → Integers a bs es
integers_are a [] [] h t = record { arguments = []; right = refl; trees = λ kind. refl; greatest = refl }
integers_are a [] (e ∷ es) h t = absurd h
integers_are a (b ∷ bs) [] h t = absurd h
integers_are a (b ∷ bs) (e ∷ es) h t =
    let p = and_parts (is_integer b) (list_all is_integer bs) t in
    let k = typed b.ty p.0 in
    let r = integers_are a bs es h.1 p.1 in
    let x : Argument = record { kind = k.0; tree = h.0.elaborated.tree; is_constant = h.0.elaborated.is_constant; variable = h.0.elaborated.variable } in
    record {
      arguments = x ∷ r.arguments;
      right = all_next (integer_argument e) (map integer_argument es) x r.arguments (argument_is a b e k.0 h.0 k.1) r.right;
      trees = λ kind.
          ap (λ z. z ∷ map (λ y. in_kind kind y.kind y.tree) r.arguments) (ap (λ z. in_kind kind k.0 z) (sym h.0.is.tree) ∙ ap (λ j. in_kind kind j (tree_at a b.id)) (sym (ap kind_of k.1)))
          ∙ ap (λ zs. as_kind a kind b ∷ zs) (r.trees kind);
      greatest = ap (greater k.0) r.greatest ∙ ap (λ j. greater j (greatest_of bs)) (sym (ap kind_of k.1));
    }

-- one that breaks a rule, or is no integer
first_wrong : (x : Judged Argument) (xs : List (Judged Argument)) (rule : Rule) → x ≡ Err rule → (r : Rule) × (all (x ∷ xs) ≡ Err r)
first_wrong x xs rule e = by (all xs) refl
  where
    by : (rest : Judged (List Argument)) → all xs ≡ rest → (r : Rule) × (all (x ∷ xs) ≡ Err r)
    by (Ok ys) f = (rule, ap (λ z. map_right in_front (both z (all xs))) e ∙ ap (λ z. map_right in_front (both (Err rule) z)) f)
    by (Err other) f = (lesser rule other, ap (λ z. map_right in_front (both z (all xs))) e ∙ ap (λ z. map_right in_front (both (Err rule) z)) f)

later_wrong : (x : Judged Argument) (xs : List (Judged Argument)) (rule : Rule) → all xs ≡ Err rule → (r : Rule) × (all (x ∷ xs) ≡ Err r)
later_wrong (Ok y) xs rule e = (rule, ap (λ z. map_right in_front (both (Ok y) z)) e)
later_wrong (Err first) xs rule e = (lesser first rule, ap (λ z. map_right in_front (both (Err first) z)) e)

wrong_by : (a : Nodes) (b : Built) (bs : List Built) (e : Elab) (es : List Elab) (c : Bool) → IsRight a b e → is_integer b ≡ c → (list_all is_integer bs ≡ false → (r : Rule) × (all (map integer_argument es) ≡ Err r))
    → (is_integer b && list_all is_integer bs) ≡ false → (r : Rule) × (all (integer_argument e ∷ map integer_argument es) ≡ Err r)
wrong_by a b bs e es true h f next t =
    let r = next (sym (ap (λ z. z && list_all is_integer bs) f) ∙ t) in
    later_wrong (integer_argument e) (map integer_argument es) r.0 r.1
wrong_by a b bs e es false h f next t = first_wrong (integer_argument e) (map integer_argument es) E406 (argument_wrong a b e h (logical b.ty f))

pub not_all_integers : (a : Nodes) (bs : List Built) (es : List Elab) → Are a bs es → list_all is_integer bs ≡ false → (r : Rule) × (all (map integer_argument es) ≡ Err r)
not_all_integers a [] [] h t = absurd (let q : true ≡ false = t in cc)
not_all_integers a [] (e ∷ es) h t = absurd h
not_all_integers a (b ∷ bs) [] h t = absurd h
not_all_integers a (b ∷ bs) (e ∷ es) h t = wrong_by a b bs e es (is_integer b) h.0 refl (not_all_integers a bs es h.1) t

-- one argument that breaks a rule
pub any_wrong : (es : List Elab) → AnyWrong es → (r : Rule) × (all (map integer_argument es) ≡ Err r)
any_wrong es w = subst (λ zs. (r : Rule) × (all (map integer_argument zs) ≡ Err r)) (sym w.among) (by w.before w.one w.behind w.wrong)
  where
    by : (before : List Elab) (e : Elab) (behind : List Elab) → IsWrong e → (r : Rule) × (all (map integer_argument (before ++ e ∷ behind)) ≡ Err r)
    by [] e behind h = first_wrong (integer_argument e) (map integer_argument behind) h.rule (ap integer_argument h.wrong)
    by (x ∷ before) e behind h = let r = by before e behind h in later_wrong (integer_argument x) (map integer_argument (before ++ e ∷ behind)) r.0 r.1

-- Functions that are computed by their arguments' values.
pub function_wrong : (code : ℕ) (es : List Elab) (rule : Rule) → all (map integer_argument es) ≡ Err rule → IsWrong (function_of code es)
function_wrong code es rule e = by (takes code (length es)) refl
  where
    by : (t : Bool) → takes code (length es) ≡ t → IsWrong (function_of code es)
    by true f = record { rule = rule; wrong = ap (λ t. cond t (map_right (called code) (all (map integer_argument es))) (miscounted es)) f ∙ ap (map_right (called code)) e }
    by false f = record { rule = also E405 (all es); wrong = ap (λ t. cond t (map_right (called code) (all (map integer_argument es))) (miscounted es)) f }

module _ (a : Nodes) (bs : List Built) (code : ℕ) where
  pub of_miscounted : takes code (length bs) ≡ false → BuildsOfAll a a bs (function_of code) (Ok None)
  of_miscounted t = record {
    by = λ start es h m.
        record { rule = also E405 (all es); wrong = ap (λ c. cond c (map_right (called code) (all (map integer_argument es))) (miscounted es)) (ap (takes code) (are_counted a bs es h) ∙ t) };
  }

  pub of_logicals : (b : Nodes) → list_all is_integer bs ≡ false → BuildsOfAll a b bs (function_of code) (Ok None)
  of_logicals b t = record { by = λ start es h m. let r = not_all_integers a bs es h t in function_wrong code es r.0 r.1 }

  pub of_integers : (b c : Nodes) (kind : ℕ) (ids : List ExprId) (i : Built) → takes code (length bs) ≡ true → kind ≡ greatest_of bs → Converted a b kind bs ids [] → Adds b c (Intrinsic code ids) (Integer kind) i
      → BuildsOfAll a c bs (function_of code) (Ok (Some i))
  of_integers b c kind ids i t k p h = record {
    by = λ start es are m.
        let q = integers_are a bs es are (ap (list_all is_integer) (sym p.whole ∙ append-nil p.done) ∙ p.integers) in
        let g = q.greatest ∙ sym k in (
          record {
            elaborated = called code q.arguments;
            right = ap (λ d. cond d (map_right (called code) (all (map integer_argument es))) (miscounted es)) (ap (takes code) (are_counted a bs es are) ∙ t) ∙ ap (map_right (called code)) q.right;
            is = record {
              tree =
                  h.tree
                  ∙ ap (tree.Intrinsic code)
                  (p.trees
                  ∙ (ap (map (as_kind a kind)) (sym (append-nil p.done) ∙ p.whole) ∙ (sym (q.trees kind) ∙ ap (λ j. map (λ x. in_kind j x.kind x.tree) q.arguments) (sym g))));
              ty = ap type_of h.type_is ∙ ap declared.IntegerType (sym g);
              writes = h.writes;
            };
          },
          adds_makes start b c (Intrinsic code ids) (Integer kind) i [] (p.makes start m) h,
        );
  }

pub all_failed : (a b : Nodes) (bs : List Built) (f : List Elab → Elab) (fault : Memory) → BuildsOfAll a b bs f (Err fault)
all_failed a b bs f fault = record { by = λ start es h m. tt }

-- `int` and `huge`.
unlike : (a : Nodes) (b : Built) (e : Elab) → IsRight a b e → is_integer b ≡ false → integer_argument e ≡ Err E406
unlike a b e h t = argument_wrong a b e h (logical b.ty t)

-- the argument that an integer is
argument : (a : Nodes) (b : Built) (e : Elab) (h : IsRight a b e) → is_integer b ≡ true
    → (x : Argument) × ((integer_argument e ≡ Ok x) × ((x.tree ≡ h.elaborated.tree) × (x.kind ≡ kind_of b.ty)))
argument a b e h t =
    let k = typed b.ty t in
    (record { kind = k.0; tree = h.elaborated.tree; is_constant = h.elaborated.is_constant; variable = h.elaborated.variable }, (argument_is a b e k.0 h k.1, (refl, sym (ap kind_of k.1))))

written_is : (a : Nodes) (k : Built) (e : Elab) (kind : ℕ) → IsRight a k e → k.writes ≡ Some kind → written_kind e ≡ Ok kind
written_is a k e kind h w = ap written_kind h.right ∙ ap (Rattle.ast_to_asr.specs.Judged.right E406) (sym h.is.writes ∙ w)

unwritten_is : (a : Nodes) (k : Built) (e : Elab) → IsRight a k e → k.writes ≡ None → written_kind e ≡ Err E406
unwritten_is a k e h w = ap written_kind h.right ∙ ap (Rattle.ast_to_asr.specs.Judged.right E406) (sym h.is.writes ∙ w)

pub both_wrong : {X Y Z : Type 0} (f : X × Y → Z) (x : Judged X) (y : Judged Y) (rule : Rule) → y ≡ Err rule → (r : Rule) × (map_right f (both x y) ≡ Err r)
both_wrong f (Ok x) y rule e = (rule, ap (λ z. map_right f (both (Ok x) z)) e)
both_wrong f (Err first) y rule e = (lesser first rule, ap (λ z. map_right f (both (Err first) z)) e)

pub front_wrong : {X Y Z : Type 0} (f : X × Y → Z) (x : Judged X) (y : Judged Y) (rule : Rule) → x ≡ Err rule → (r : Rule) × (map_right f (both x y) ≡ Err r)
front_wrong f x (Ok y) rule e = (rule, ap (λ z. map_right f (both z (Ok y))) e)
front_wrong f x (Err other) rule e = (lesser rule other, ap (λ z. map_right f (both z (Err other))) e)

int_one_by : (a b start : Nodes) (x : Built) (e : Elab) (r : Result (Option Built) Memory) → ToKind a b 4 x r → IsRight a x e → Makes start a (key_of x ∷ []) → IsBuilt start b (int_tree (e ∷ [])) r
int_one_by a b start x e (Ok (Some i)) h is m =
    let y = argument a x e is h.0 in (
      record {
        elaborated = int_to 4 y.0;
        right = ap (map_right (int_to 4)) y.1.0;
        is = record { tree = h.1.tree ∙ ap (tree.Convert 4) (is.is.tree ∙ sym y.1.1.0); ty = ap type_of h.1.type_is; writes = h.1.writes };
      },
      adds_makes start a b (Convert 4 x.id) (Integer 4) i [] m h.1,
    )
int_one_by a b start x e (Ok None) h is m = record { rule = E406; wrong = ap (map_right (int_to 4)) (unlike a x e is h) }
int_one_by a b start x e (Err fault) h is m = tt

pub int_one : (a b : Nodes) (x : Built) (r : Result (Option Built) Memory) → ToKind a b 4 x r → BuildsOfAll a b (x ∷ []) int_tree r
int_one a b x r h = record { by = λ start es are m. cases es are m }
  where
    cases : {start : Nodes} (es : List Elab) → Are a (x ∷ []) es → Makes start a (key_of x ∷ []) → IsBuilt start b (int_tree es) r
    cases [] are m = absurd are
    cases {start} (e ∷ []) are m = int_one_by a b start x e r h are.0 m
    cases (e ∷ d ∷ es) are m = absurd are.1

int_two_by : (a b start : Nodes) (kind : ℕ) (x k : Built) (e d : Elab) (r : Result (Option Built) Memory) → k.writes ≡ Some kind → ToKind a b kind x r → IsRight a x e → IsRight a k d → Makes start a (key_of x ∷ key_of k ∷ [])
    → IsBuilt start b (int_tree (e ∷ d ∷ [])) r
int_two_by a b start kind x k e d (Ok (Some i)) w h is js m =
    let y = argument a x e is h.0 in (
      record {
        elaborated = int_to kind y.0;
        right = ap (λ z. map_right (λ p. int_to p.1 p.0) (both z (written_kind d))) y.1.0 ∙ ap (λ z. map_right (λ p. int_to p.1 p.0) (both (Ok y.0) z)) (written_is a k d kind js w);
        is = record { tree = h.1.tree ∙ ap (tree.Convert kind) (is.is.tree ∙ sym y.1.1.0); ty = ap type_of h.1.type_is; writes = h.1.writes };
      },
      adds_makes start a b (Convert kind x.id) (Integer kind) i [] (makes_dropped start a (key_of k) (key_of x ∷ []) (makes_swapped start a (key_of x ∷ []) (key_of k ∷ []) m)) h.1,
    )
int_two_by a b start kind x k e d (Ok None) w h is js m =
    let r = front_wrong (λ p. int_to p.1 p.0) (integer_argument e) (written_kind d) E406 (unlike a x e is h) in
    record { rule = r.0; wrong = r.1 }
int_two_by a b start kind x k e d (Err fault) w h is js m = tt

pub int_two : (a b : Nodes) (kind : ℕ) (x k : Built) (r : Result (Option Built) Memory) → k.writes ≡ Some kind → ToKind a b kind x r → BuildsOfAll a b (x ∷ k ∷ []) int_tree r
int_two a b kind x k r w h = record { by = λ start es are m. cases es are m }
  where
    cases : {start : Nodes} (es : List Elab) → Are a (x ∷ k ∷ []) es → Makes start a (key_of x ∷ key_of k ∷ []) → IsBuilt start b (int_tree es) r
    cases [] are m = absurd are
    cases (e ∷ []) are m = absurd are.1
    cases {start} (e ∷ d ∷ []) are m = int_two_by a b start kind x k e d r w h are.0 are.1.0 m
    cases (e ∷ d ∷ c ∷ es) are m = absurd are.1.1

pub int_unwritten : (a : Nodes) (x k : Built) → k.writes ≡ None → BuildsOfAll a a (x ∷ k ∷ []) int_tree (Ok None)
int_unwritten a x k w = record { by = λ start es are m. cases es are }
  where
    cases : (es : List Elab) → Are a (x ∷ k ∷ []) es → IsWrong (int_tree es)
    cases [] are = absurd are
    cases (e ∷ []) are = absurd are.1
    cases (e ∷ d ∷ []) are =
        let r = both_wrong (λ p. int_to p.1 p.0) (integer_argument e) (written_kind d) E406 (unwritten_is a k d are.1.0 w) in
        record { rule = r.0; wrong = r.1 }
    cases (e ∷ d ∷ c ∷ es) are = absurd are.1.1

pub int_none : (a : Nodes) → BuildsOfAll a a [] int_tree (Ok None)
int_none a = record { by = λ start es are m. cases es are }
  where
    cases : (es : List Elab) → Are a [] es → IsWrong (int_tree es)
    cases [] are = record { rule = E405; wrong = refl }
    cases (e ∷ es) are = absurd are

pub int_many : (a : Nodes) (bs : List Built) → 3 ≤ length bs → BuildsOfAll a a bs int_tree (Ok None)
int_many a bs l = record { by = λ start es are m. cases es (omega (arith, l, are_counted a bs es are)) }
  where
    cases : (es : List Elab) → 3 ≤ length es → IsWrong (int_tree es)
    cases [] k = absurd (omega (arith, k))
    cases (e ∷ []) k = absurd (omega (arith, k))
    cases (e ∷ d ∷ []) k = absurd (omega (arith, k))
    cases (e ∷ d ∷ c ∷ es) k = record { rule = also E405 (all (e ∷ d ∷ c ∷ es)); wrong = refl }

-- lists of so many items
pub one_item : {X : Type 0} (xs : List X) (d : X) → 1 ≤ length xs → length xs < 2 → get_or xs 0 d ∷ [] ≡ xs
one_item [] d l m = absurd (omega (arith, l))
one_item (x ∷ []) d l m = refl
one_item (x ∷ y ∷ xs) d l m = absurd (omega (arith, m))

pub two_items : {X : Type 0} (xs : List X) (d e : X) → 2 ≤ length xs → length xs < 3 → get_or xs 0 d ∷ get_or xs 1 e ∷ [] ≡ xs
two_items [] d e l m = absurd (omega (arith, l))
two_items (x ∷ []) d e l m = absurd (omega (arith, l))
two_items (x ∷ y ∷ []) d e l m = refl
two_items (x ∷ y ∷ z ∷ xs) d e l m = absurd (omega (arith, m))

pub ruleset ints = (all_failed, int_one, int_two, int_unwritten, int_none, int_many)

ok_same : (e : Elab) (u v : Elaborated) → e ≡ Ok u → e ≡ Ok v → u ≡ v
ok_same e u v p q = let s : Ok u ≡ Ok v = sym p ∙ q in cc

pub ok_err : (e : Elab) (u : Elaborated) (rule : Rule) → e ≡ Ok u → e ≡ Err rule → ⊥
ok_err e u rule p q = let s : Ok u ≡ Err rule = sym p ∙ q in cc

huge_one_by : (a b start : Nodes) (x : Built) (kind : ℕ) (e : Elab) (r : Result (Option Built) Memory) → x.ty ≡ Integer kind → IsBuilt a b (Ok (integer_literal kind (values.greatest kind) None)) r → IsRight a x e → Makes start a (key_of x ∷ [])
    → IsBuilt start b (huge_tree (e ∷ [])) r
huge_one_by a b start x kind e (Ok (Some i)) t h is m =
    let y : Argument = record { kind = kind; tree = is.elaborated.tree; is_constant = is.elaborated.is_constant; variable = is.elaborated.variable } in
    let l : integer_literal kind (values.greatest kind) None ≡ h.0.elaborated = ok_same (Ok (integer_literal kind (values.greatest kind) None)) _ h.0.elaborated refl h.0.right in (
      record {
        elaborated = huge_of y;
        right = ap (map_right huge_of) (argument_is a x e kind is t);
        is = record { tree = h.0.is.tree ∙ sym (ap (λ z. z.tree) l); ty = h.0.is.ty ∙ sym (ap (λ z. z.ty) l); writes = h.0.is.writes ∙ sym (ap (λ z. z.writes) l) };
      },
      makes_more start a b [] (key_of i ∷ []) (makes_dropped start a (key_of x) [] m) h.1,
    )
huge_one_by a b start x kind e (Ok None) t h is m = absurd (ok_err (Ok (integer_literal kind (values.greatest kind) None)) _ h.rule refl h.wrong)
huge_one_by a b start x kind e (Err fault) t h is m = tt

pub huge_one : (a b : Nodes) (x : Built) (kind : ℕ) (r : Result (Option Built) Memory) → x.ty ≡ Integer kind → IsBuilt a b (Ok (integer_literal kind (values.greatest kind) None)) r → BuildsOfAll a b (x ∷ []) huge_tree r
huge_one a b x kind r t h = record { by = λ start es are m. cases es are m }
  where
    cases : {start : Nodes} (es : List Elab) → Are a (x ∷ []) es → Makes start a (key_of x ∷ []) → IsBuilt start b (huge_tree es) r
    cases [] are m = absurd are
    cases {start} (e ∷ []) are m = huge_one_by a b start x kind e r t h are.0 m
    cases (e ∷ d ∷ es) are m = absurd are.1

pub huge_logical : (a : Nodes) (x : Built) → x.ty ≡ Logical → BuildsOfAll a a (x ∷ []) huge_tree (Ok None)
huge_logical a x t = record { by = λ start es are m. cases es are }
  where
    cases : (es : List Elab) → Are a (x ∷ []) es → IsWrong (huge_tree es)
    cases [] are = absurd are
    cases (e ∷ []) are = record { rule = E406; wrong = ap (map_right huge_of) (argument_wrong a x e are.0 t) }
    cases (e ∷ d ∷ es) are = absurd are.1

pub huge_none : (a : Nodes) → BuildsOfAll a a [] huge_tree (Ok None)
huge_none a = record { by = λ start es are m. cases es are }
  where
    cases : (es : List Elab) → Are a [] es → IsWrong (huge_tree es)
    cases [] are = record { rule = E405; wrong = refl }
    cases (e ∷ es) are = absurd are

pub huge_many : (a : Nodes) (bs : List Built) → 2 ≤ length bs → BuildsOfAll a a bs huge_tree (Ok None)
huge_many a bs l = record { by = λ start es are m. cases es (omega (arith, l, are_counted a bs es are)) }
  where
    cases : (es : List Elab) → 2 ≤ length es → IsWrong (huge_tree es)
    cases [] k = absurd (omega (arith, k))
    cases (e ∷ []) k = absurd (omega (arith, k))
    cases (e ∷ d ∷ es) k = record { rule = also E405 (all (e ∷ d ∷ es)); wrong = refl }

pub ruleset huges = (huge_one, huge_logical, huge_none, huge_many)

-- Functions by their names.
builds_as : (a b : Nodes) (bs : List Built) (f g : List Elab → Elab) (r : Result (Option Built) Memory) → ((es : List Elab) → g es ≡ f es) → BuildsOfAll a b bs f r → BuildsOfAll a b bs g r
builds_as a b bs f g r e h = record { by = λ start es are m. subst (λ x. IsBuilt start b x r) (sym (e es)) (h.by start es are m) }

module _ (a b : Nodes) (bs : List Built) (name : List ℕ) (r : Result (Option Built) Memory) where
  pub named_code : (code : ℕ) → intrinsic_named name ≡ Some code → BuildsOfAll a b bs (function_of code) r → BuildsOfAll a b bs (by_name name) r
  named_code code e h = builds_as a b bs (function_of code) (by_name name) r (λ es. ap (function_tree name es) e) h

  pub named_int : intrinsic_named name ≡ None → is_int name ≡ true → BuildsOfAll a b bs int_tree r → BuildsOfAll a b bs (by_name name) r
  named_int e t h =
      builds_as a b bs int_tree (by_name name) r
      (λ es. ap (function_tree name es) e ∙ ap (λ c. cond c (int_tree es) (cond (is_huge name) (huge_tree es) (Err (also E304 (all es))))) t) h

  pub named_huge : intrinsic_named name ≡ None → is_int name ≡ false → is_huge name ≡ true → BuildsOfAll a b bs huge_tree r → BuildsOfAll a b bs (by_name name) r
  named_huge e s t h =
      builds_as a b bs huge_tree (by_name name) r
      (λ es.
      ap (function_tree name es) e ∙ (ap (λ c. cond c (int_tree es) (cond (is_huge name) (huge_tree es) (Err (also E304 (all es))))) s ∙ ap (λ c. cond c (huge_tree es) (Err (also E304 (all es)))) t)) h

pub named_none : (a : Nodes) (bs : List Built) (name : List ℕ) → intrinsic_named name ≡ None → is_int name ≡ false → is_huge name ≡ false → BuildsOfAll a a bs (by_name name) (Ok None)
named_none a bs name e s t = record {
  by = λ start es are m.
      record {
        rule = also E304 (all es);
        wrong =
            ap (function_tree name es) e ∙ (ap (λ c. cond c (int_tree es) (cond (is_huge name) (huge_tree es) (Err (also E304 (all es))))) s ∙ ap (λ c. cond c (huge_tree es) (Err (also E304 (all es)))) t);
      };
}

pub ruleset functions = (named_code, named_int, named_huge, named_none)

pub ruleset calls = (all_failed, of_miscounted, of_logicals, of_integers)
