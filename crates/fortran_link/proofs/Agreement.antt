-- Functions, designators, and so each expression of a source does what its tree does.
use Rattle.std.proofs.lemmas.Bool.Decides.{nat_tests}
use Rattle.std.proofs.Common.{◌≡◌, ℕ, suc, arith, ℤ, Bool, true, false, if◌then◌else◌, ◌==◌, ◌&&◌, List, [], ◌∷◌, map, length, Option, Some, None, Ok, Err, codes, refl, sym, ap, subst, ◌∙◌, true≢false}
use Rattle.std.specs.List.{list_all}
use Rattle.std.specs.Str.{bytes_eq}
use Rattle.lf_base.specs.Outcome.{Location, Ended, Cut, Wrong}
use Rattle.lf_base.specs.Acts.{bind, Stretch, Going, Stopped}
use Rattle.lf_base.specs.Equal.{World, Sound, Equal, Always}
use Rattle.lf_base.specs.declared.rule.Rule.TheVariants.{E202, E304, E406}
use Rattle.ast_nodes.specs.declared.expression.Designator.{Designator, Designator-F, map-Designator, roll-Designator, fold-roll-Designator, ind-Designator}
use Rattle.ast_nodes.specs.declared.expression.Expr.{Expr, Expr-F, map-Expr, roll-Expr, fold-roll-Expr, ind-Expr}
use Rattle.ast_nodes.specs.declared.expression.RefPart.{RefPart, RefPart-F, map-RefPart, roll-RefPart, fold-RefPart, fold-roll-RefPart}
use Rattle.type_rules.specs.Values.{Integer, Gives, Logical, is_kind, is_in_kind}
use Rattle.type_rules.specs.Operations.{convert}
use Rattle.type_rules.specs.declared.code.TheConstants.{ABS, MOD, MODULO, MIN, MAX, SIGN}
use Rattle.type_rules.specs.declared.constant.Op.TheVariants.{Intrinsic}
use Rattle.asr_nodes.specs.declared.code.TheConstants.{TRUE}
use Rattle.asr_nodes.specs.declared.tree.ExprTree.{ExprTree}
use Rattle.asr_nodes.specs.declared.tree.ExprTree.TheVariants as e
use Rattle.asr_semantics.specs.Machine.{State, M}
use Rattle.asr_semantics.specs.Entities.{Entities}
use Rattle.asr_semantics.specs.Meaning.{operate, Calls, expression}
use Rattle.asr_semantics.proofs.Nodes.{expression-Intrinsic}
use Rattle.fortran_semantics.specs.Constants.{Part, Named, Grouped, joined_kind, intrinsic_named, is_int, is_huge}
use Rattle.fortran_semantics.specs.Declared.{ScalarType, IntegerType, LogicalType, Declared, Declaration, declared_as}
use Rattle.fortran_semantics.specs.Meaning as f
use Rattle.fortran_semantics.specs.Meaning.{Known, known_in, only_value, given_scalar}
use Rattle.ast_to_asr.specs.Judged.{Judged, also, both, and_then, right, map_right, in_front, all}
use Rattle.ast_to_asr.specs.Scope as names
use Rattle.ast_to_asr.specs.Scope.{Scope}
use Rattle.ast_to_asr.specs.Expressions as t
use Rattle.ast_to_asr.specs.Expressions.{Elaborated, Elab, Argument, argument_of, integer_argument, in_kind, greater, greatest_kind, takes, called, function_of, function_tree, int_to, int_tree, written_kind, huge_tree, call_tree, parts_tree}
use Rattle.fortran_link.specs.Claims.{IsKinded, KindIs, AgreeAt, Agree, GoesOn, Alike, ExpressionsAgree}
use Rattle.fortran_link.proofs.States.{Is, W}
use Rattle.fortran_link.proofs.Values.{convert_own, in_greater}
use Rattle.fortran_link.proofs.Operators.{greater_is_kind, greater_either}
use Rattle.fortran_link.proofs.Operands.{convert_equal}
use Rattle.fortran_link.proofs.Functions.{Numbers, plain, wide, IsFunction, IsAbs, IsMod, IsModulo, IsMin, IsMax, IsSign, Arguments, Widens, alike, alike_equal, list_equal, greatest_is_kind, greater_own, greater_over, greater_again}
use Rattle.fortran_link.proofs.Claims.{Claim, ClaimOf, only_claim, literal_claim, truth_does, paren_claim, unary_claim, binary_claim, name_claim, converted_claim, huge_claim}

-- each kind is at most this one
abbrev Within : ℕ → List Argument → Type 0
Within g [] = Unit {0}
Within g (x ∷ xs) = (greater x.kind g ≡ g) × Within g xs

over_both : (j k g : ℕ) → greater j g ≡ g → greater j (greater k g) ≡ greater k g
over_both j k g h = sym (greater_over j k g) ∙ ap (λ m. greater m g) (greater_either j k) ∙ greater_over k j g ∙ ap (greater k) h

within_more : (g k : ℕ) (xs : List Argument) → Within g xs → Within (greater k g) xs
within_more g k [] h = tt
within_more g k (x ∷ xs) h = (over_both x.kind k g h.0, within_more g k xs h.1)

within_greatest : (xs : List Argument) → Within (greatest_kind xs) xs
within_greatest [] = tt
within_greatest (x ∷ xs) = (greater_again x.kind (greatest_kind xs), within_more (greatest_kind xs) x.kind xs (within_greatest xs))

-- the functions by name
some_code : (a b : ℕ) → Some a ≡ Some b → a ≡ b
some_code a b q = cc

function_named : (name : List ℕ) (code : ℕ) → intrinsic_named name ≡ Some code → IsFunction code
function_named name code q = by (bytes_eq name (codes "abs")) (bytes_eq name (codes "mod")) (bytes_eq name (codes "modulo")) (bytes_eq name (codes "min")) (bytes_eq name (codes "max")) (bytes_eq name (codes "sign")) q
  where
    by : (p q r s u v : Bool) → (if p then Some ABS else if q then Some MOD else if r then Some MODULO else if s then Some MIN else if u then Some MAX else if v then Some SIGN else None) ≡ Some code → IsFunction code
    by true q r s u v h = subst IsFunction (some_code ABS code h) IsAbs
    by false true r s u v h = subst IsFunction (some_code MOD code h) IsMod
    by false false true s u v h = subst IsFunction (some_code MODULO code h) IsModulo
    by false false false true u v h = subst IsFunction (some_code MIN code h) IsMin
    by false false false false true v h = subst IsFunction (some_code MAX code h) IsMax
    by false false false false false true h = subst IsFunction (some_code SIGN code h) IsSign
    by false false false false false false h = absurd (cc)

takes_some : (code : ℕ) → IsFunction code → takes code 0 ≡ true → ⊥
takes_some ABS IsAbs h = true≢false (sym h)
takes_some MOD IsMod h = true≢false (sym h)
takes_some MODULO IsModulo h = true≢false (sym h)
takes_some MIN IsMin h = true≢false (sym h)
takes_some MAX IsMax h = true≢false (sym h)
takes_some SIGN IsSign h = true≢false (sym h)

module _ (unit_name : List ℕ) (declared : List Declared) (es : Entities) (n : ℕ) (inner : Calls) where
  abbrev V : World State
  V = W unit_name declared

  abbrev A : ExprTree → Location → M Rattle.type_rules.specs.Store.Value
  A x here = (expression es n inner x).value here

  abbrev C : Elab → f.Meant → Type 0
  C = ClaimOf unit_name declared es n inner

  widens : (g : ℕ) (xs : List Argument) → is_kind g ≡ true → Within g xs → Widens unit_name declared es n inner g xs
  widens g [] h w = tt
  widens g (x ∷ xs) h w = ((λ z p r. convert_own g z h (subst (λ m. is_in_kind m z ≡ true) w.0 (in_greater x.kind g z p r))), widens g xs h w.1)

  -- lists of parts
  abbrev pub AllClaims : List Elab → List f.Meant → Type 0
  AllClaims [] [] = Unit {0}
  AllClaims (a ∷ as') (m ∷ ms) = C a m × AllClaims as' ms
  AllClaims [] (m ∷ ms) = ⊥
  AllClaims (a ∷ as') [] = ⊥

  claims_count : (xs : List Elab) (ms : List f.Meant) → AllClaims xs ms → length xs ≡ length ms
  claims_count [] [] h = refl
  claims_count (x ∷ xs) (m ∷ ms) h = ap suc (claims_count xs ms h.1)
  claims_count [] (m ∷ ms) h = absurd h
  claims_count (x ∷ xs) [] h = absurd h

  abbrev ArgumentOf : Judged Argument → f.Meant → Type 0
  ArgumentOf (Ok x) m = ((here : Location) → Equal V Always (Is (IntegerType x.kind)) (m.value here) (A x.tree here)) × (m.kind ≡ Some x.kind) × (is_kind x.kind ≡ true)
  ArgumentOf (Err rule) m = Unit {0}

  argument_by : (a : Elaborated) (m : f.Meant) → Claim unit_name declared es n inner a m → (ty : ScalarType) → ty ≡ a.ty → ArgumentOf (argument_of a ty) m
  argument_by a m h (IntegerType k) q = (
    (λ here. subst (λ u. Equal V Always (Is u) (m.value here) (A a.tree here)) (sym q) (h.does here)),
    subst (λ u. KindIs u m.kind) (sym q) h.kind,
    subst IsKinded (sym q) h.kinded,
  )
  argument_by a m h LogicalType q = tt

  argument : (a : Elab) (m : f.Meant) → C a m → ArgumentOf (integer_argument a) m
  argument (Ok a) m h = argument_by a m h a.ty refl
  argument (Err rule) m h = tt

  abbrev KindsAre : List Argument → List f.Meant → Type 0
  KindsAre [] [] = Unit {0}
  KindsAre (x ∷ xs) (m ∷ ms) = (m.kind ≡ Some x.kind) × (is_kind x.kind ≡ true) × KindsAre xs ms
  KindsAre [] (m ∷ ms) = ⊥
  KindsAre (x ∷ xs) [] = ⊥

  abbrev ArgumentsOf : Judged (List Argument) → List f.Meant → Type 0
  ArgumentsOf (Ok xs) ms = Arguments unit_name declared es n inner xs ms × KindsAre xs ms × (length xs ≡ length ms)
  ArgumentsOf (Err rule) ms = Unit {0}

  one_more : (i : Judged Argument) (m : f.Meant) (o : Judged (List Argument)) (ms : List f.Meant) → ArgumentOf i m → ArgumentsOf o ms → ArgumentsOf (map_right in_front (both i o)) (m ∷ ms)
  one_more (Ok x) m (Ok xs) ms h g = ((h.0, g.0), (h.1, h.2, g.1), ap suc g.2)
  one_more (Ok x) m (Err rule) ms h g = tt
  one_more (Err rule) m (Ok xs) ms h g = tt
  one_more (Err rule) m (Err other) ms h g = tt

  arguments : (xs : List Elab) (ms : List f.Meant) → AllClaims xs ms → ArgumentsOf (all (map integer_argument xs)) ms
  arguments [] [] h = (tt, tt, refl)
  arguments (x ∷ xs) (m ∷ ms) h = one_more (integer_argument x) m (all (map integer_argument xs)) ms (argument x m h.0) (arguments xs ms h.1)
  arguments [] (m ∷ ms) h = absurd h
  arguments (x ∷ xs) [] h = absurd h

  kinds_joined : (x : Argument) (xs : List Argument) (m : f.Meant) (ms : List f.Meant) → KindsAre (x ∷ xs) (m ∷ ms) → f.all_kinds (m ∷ ms) ≡ Some (greatest_kind (x ∷ xs))
  kinds_joined x [] m [] h = h.0 ∙ ap Some (sym (greater_own x.kind h.1))
  kinds_joined x (y ∷ xs) m (k ∷ ms) h = ap (λ o. joined_kind o (f.all_kinds (k ∷ ms))) h.0 ∙ ap (joined_kind (Some x.kind)) (kinds_joined y xs k ms h.2)
  kinds_joined x [] m (k ∷ ms) h = absurd h.2
  kinds_joined x (y ∷ xs) m [] h = absurd h.2

  all_joined : (code : ℕ) (xs : List Argument) (ms : List f.Meant) → IsFunction code → takes code (length xs) ≡ true → KindsAre xs ms → f.all_kinds ms ≡ Some (greatest_kind xs)
  all_joined code [] ms d h k = absurd (takes_some code d h)
  all_joined code (x ∷ xs) (m ∷ ms) d h k = kinds_joined x xs m ms k
  all_joined code (x ∷ xs) [] d h k = absurd k

  function_by : (code : ℕ) (ms : List f.Meant) → IsFunction code → (o : Judged (List Argument)) → ArgumentsOf o ms → takes code (length ms) ≡ true → C (map_right (called code) o) (only_value (λ here. bind (f.each_value here ms) (operate here (Intrinsic code))) (f.all_kinds ms))
  function_by code ms d (Err rule) h q = tt
  function_by code ms d (Ok xs) h q =
      let q' : takes code (length xs) ≡ true = ap (takes code) h.2 ∙ q in
      let g = greatest_kind xs in
      only_claim unit_name declared es n inner (e.Intrinsic code (map (λ x. in_kind g x.kind x.tree) xs)) (IntegerType g) (list_all (λ x. x.is_constant) xs)
      (λ here. bind (f.each_value here ms) (operate here (Intrinsic code))) (f.all_kinds ms)
      (λ here.
      subst (λ x. Equal V Always (Is (IntegerType g)) (bind (f.each_value here ms) (operate here (Intrinsic code))) (x.value here)) (sym (expression-Intrinsic es n inner code (map (λ x. in_kind g x.kind x.tree) xs)))
      (list_equal unit_name declared es n inner (Is (IntegerType g)) here g xs ms (operate here (Intrinsic code)) (operate here (Intrinsic code)) h.0
      (widens g xs (greatest_is_kind xs) (within_greatest xs))
      (λ ns. alike_equal unit_name declared es n inner here code g (plain xs ns) (wide g xs ns) (greatest_is_kind xs) (alike code d xs ns q'))))
      (all_joined code xs ms d q' h.1)
      (greatest_is_kind xs)

  function_claim : (code : ℕ) → IsFunction code → (xs : List Elab) (ms : List f.Meant) → AllClaims xs ms → C (function_of code xs) (only_value (λ here. bind (f.each_value here ms) (operate here (Intrinsic code))) (f.all_kinds ms))
  function_claim code d xs ms h = by (takes code (length xs)) refl
    where
      by : (u : Bool) → takes code (length xs) ≡ u → C (if u then map_right (called code) (all (map integer_argument xs)) else t.miscounted xs) (only_value (λ here. bind (f.each_value here ms) (operate here (Intrinsic code))) (f.all_kinds ms))
      by true q = function_by code ms d (all (map integer_argument xs)) (arguments xs ms h) (ap (takes code) (sym (claims_count xs ms h)) ∙ q)
      by false q = tt

  -- `int` and `huge`
  kinded_by : (a : Elaborated) (m : f.Meant) → Claim unit_name declared es n inner a m → (ty : ScalarType) → ty ≡ a.ty → (w : Option ℕ) → ((k : ℕ) → w ≡ Some k → is_kind k ≡ true) → C (map_right (λ p. int_to p.1 p.0) (both (argument_of a ty) (right E406 w))) (f.int_to m w)
  kinded_by a m h (IntegerType j) q None k = tt
  kinded_by a m h (IntegerType j) q (Some kind) k =
      only_claim unit_name declared es n inner (e.Convert kind a.tree) (IntegerType kind) a.is_constant (f.converted kind m) (Some kind)
      (λ here. convert_equal unit_name declared es n inner here kind j a.tree (m.value here) (k kind refl) (subst (λ u. Equal V Always (Is u) (m.value here) (A a.tree here)) (sym q) (h.does here)))
      refl (k kind refl)
  kinded_by a m h LogicalType q None k = tt
  kinded_by a m h LogicalType q (Some kind) k = tt

  int_two : (a k : Elab) (m l : f.Meant) → C a m → C k l → C (int_tree (a ∷ k ∷ [])) (f.int_of (m ∷ l ∷ []))
  int_two (Ok a) (Ok k) m l h g =
      subst (λ o. C (map_right (λ p. int_to p.1 p.0) (both (argument_of a a.ty) (right E406 k.writes))) (f.int_to m o)) (sym g.writes)
      (kinded_by a m h a.ty refl k.writes g.written)
  int_two (Ok a) (Err r) m l h g = bad (argument_of a a.ty)
    where
      bad : (o : Judged Argument) → C (map_right (λ p. int_to p.1 p.0) (both o (Err r))) (f.int_to m l.writes)
      bad (Ok x) = tt
      bad (Err q) = tt
  int_two (Err r) (Ok k) m l h g = bad k.writes
    where
      bad : (w : Option ℕ) → C (map_right (λ p. int_to p.1 p.0) (both (Err r) (right E406 w))) (f.int_to m l.writes)
      bad None = tt
      bad (Some kind) = tt
  int_two (Err r) (Err q) m l h g = tt

  int_one : (a : Elab) (m : f.Meant) → C a m → C (int_tree (a ∷ [])) (f.int_of (m ∷ []))
  int_one (Ok a) m h = converted_claim unit_name declared es n inner 4 a m refl h a.ty refl
  int_one (Err r) m h = tt

  int_claim : (xs : List Elab) (ms : List f.Meant) → AllClaims xs ms → C (int_tree xs) (f.int_of ms)
  int_claim [] ms h = tt
  int_claim (a ∷ []) (m ∷ []) h = int_one a m h.0
  int_claim (a ∷ k ∷ []) (m ∷ l ∷ []) h = int_two a k m l h.0 h.1.0
  int_claim (a ∷ k ∷ b ∷ xs) ms h = tt
  int_claim (a ∷ []) [] h = absurd h
  int_claim (a ∷ []) (m ∷ l ∷ ms) h = absurd h.1
  int_claim (a ∷ k ∷ []) [] h = absurd h
  int_claim (a ∷ k ∷ []) (m ∷ []) h = absurd h.1
  int_claim (a ∷ k ∷ []) (m ∷ l ∷ o ∷ ms) h = absurd h.1.1

  huge_one : (a : Elab) (m : f.Meant) → C a m → C (huge_tree (a ∷ [])) (f.huge_one (m ∷ []))
  huge_one (Ok a) m h = huge_claim unit_name declared es n inner a m h a.ty refl
  huge_one (Err r) m h = tt

  huge_all : (xs : List Elab) (ms : List f.Meant) → AllClaims xs ms → C (huge_tree xs) (f.huge_one ms)
  huge_all [] ms h = tt
  huge_all (a ∷ []) (m ∷ []) h = huge_one a m h.0
  huge_all (a ∷ b ∷ xs) ms h = tt
  huge_all (a ∷ []) [] h = absurd h
  huge_all (a ∷ []) (m ∷ l ∷ ms) h = absurd h.1

  -- a function by its name
  named_claim : (name : List ℕ) (xs : List Elab) (ms : List f.Meant) → AllClaims xs ms → (o : Option ℕ) → intrinsic_named name ≡ o → C (function_tree name xs o) (f.function_meant name ms o)
  named_claim name xs ms h (Some code) q = function_claim code (function_named name code q) xs ms h
  named_claim name xs ms h None q = by (is_int name) (is_huge name)
    where
      by : (u v : Bool) → C (if u then int_tree xs else if v then huge_tree xs else Err (also E304 (all xs))) (if u then f.int_of ms else if v then f.huge_one ms else f.no_rule)
      by true v = int_claim xs ms h
      by false true = huge_all xs ms h
      by false false = tt

  module _ (scope : Scope) (known : Known) (agree : Agree es unit_name scope declared known) where
    called_by : (name : List ℕ) (xs : List Elab) (ms : List f.Meant) → AllClaims xs ms → (o : Option names.Entity) (d : Option Declaration) (c : Option Rattle.fortran_semantics.specs.Constants.Constant) → AgreeAt es unit_name name o d c → C (call_tree unit_name scope name xs o) (f.call_meant unit_name declared known name ms d)
    called_by name xs ms h None None c a = named_claim name xs ms h (intrinsic_named name) refl
    called_by name xs ms h (Some o) d c a = tt
    called_by name xs ms h None (Some d) c a = absurd a

    abbrev PartOf : Part Elab → Part f.Meant → Type 0
    PartOf (Named a) (Named b) = a ≡ b
    PartOf (Grouped xs) (Grouped ms) = AllClaims xs ms
    PartOf (Named a) (Grouped ms) = ⊥
    PartOf (Grouped xs) (Named b) = ⊥

    abbrev PartsOf : List (Part Elab) → List (Part f.Meant) → Type 0
    PartsOf [] [] = Unit {0}
    PartsOf (p ∷ ps) (q ∷ qs) = PartOf p q × PartsOf ps qs
    PartsOf [] (q ∷ qs) = ⊥
    PartsOf (p ∷ ps) [] = ⊥

    one_name : (a b : List ℕ) → a ≡ b → C (t.name_tree unit_name scope a (names.entity_of scope a)) (f.name_meant unit_name declared known b (declared_as declared b))
    one_name a b q = subst (λ x. C (t.name_tree unit_name scope a (names.entity_of scope a)) (f.name_meant unit_name declared known x (declared_as declared x))) q (name_claim unit_name declared es n inner scope known a (agree a))

    one_call : (a b : List ℕ) (xs : List Elab) (ms : List f.Meant) → a ≡ b → AllClaims xs ms → C (call_tree unit_name scope a xs (names.entity_of scope a)) (f.call_meant unit_name declared known b ms (declared_as declared b))
    one_call a b xs ms q h = subst (λ x. C (call_tree unit_name scope a xs (names.entity_of scope a)) (f.call_meant unit_name declared known x ms (declared_as declared x))) q (called_by a xs ms h (names.entity_of scope a) (declared_as declared a) (known_in known a) (agree a))

    parts_claim : (ps : List (Part Elab)) (qs : List (Part f.Meant)) → PartsOf ps qs → C (parts_tree unit_name scope ps) (f.parts_meant unit_name declared known qs)
    parts_claim [] qs h = tt
    parts_claim (Named a ∷ []) (Named b ∷ []) h = one_name a b h.0
    parts_claim (Named a ∷ []) (Grouped ms ∷ qs) h = absurd h.0
    parts_claim (Named a ∷ []) (Named b ∷ q ∷ qs) h = absurd h.1
    parts_claim (Named a ∷ []) [] h = absurd h
    parts_claim (Named a ∷ Grouped xs ∷ []) (Named b ∷ Grouped ms ∷ []) h = one_call a b xs ms h.0 h.1.0
    parts_claim (Named a ∷ Grouped xs ∷ []) (Named b ∷ Grouped ms ∷ q ∷ qs) h = absurd h.1.1
    parts_claim (Named a ∷ Grouped xs ∷ []) (Named b ∷ Named c ∷ qs) h = absurd h.1.0
    parts_claim (Named a ∷ Grouped xs ∷ []) (Named b ∷ []) h = absurd h.1
    parts_claim (Named a ∷ Grouped xs ∷ []) (Grouped ms ∷ qs) h = absurd h.0
    parts_claim (Named a ∷ Grouped xs ∷ []) [] h = absurd h
    parts_claim (Named a ∷ Grouped xs ∷ p ∷ ps) qs h = tt
    parts_claim (Named a ∷ Named b ∷ ps) qs h = tt
    parts_claim (Grouped xs ∷ ps) qs h = tt

    -- expressions, by their parts
    abbrev te : Expr → Elab
    te = t.elab_expr unit_name scope

    abbrev fe : Expr → f.Meant
    fe = f.expression unit_name declared known

    abbrev tp : RefPart → Part Elab
    tp = fold-RefPart Elab (Part Elab) Elab (t.expr_layer unit_name scope) (t.part_layer unit_name scope) (t.designator_layer unit_name scope)

    abbrev fp : RefPart → Part f.Meant
    fp = fold-RefPart f.Meant (Part f.Meant) f.Meant (f.expr_layer unit_name declared known) (f.part_layer unit_name declared known) (f.designator_layer unit_name declared known)

    abbrev td : Designator → Elab
    td = t.elab_designator unit_name scope

    abbrev fd : Designator → f.Meant
    fd = f.designated unit_name declared known

    abbrev SA : Type 0
    SA = (x : Expr) × C (te x) (fe x)

    abbrev SB : Type 0
    SB = (x : RefPart) × PartOf (tp x) (fp x)

    abbrev SC : Type 0
    SC = (x : Designator) × C (td x) (fd x)

    all_of : (xs : List SA) → AllClaims (map te (map (λ x. x.0) xs)) (map fe (map (λ x. x.0) xs))
    all_of [] = tt
    all_of (x ∷ xs) = (x.1, all_of xs)

    parts_of : (xs : List SB) → PartsOf (map tp (map (λ x. x.0) xs)) (map fp (map (λ x. x.0) xs))
    parts_of [] = tt
    parts_of (x ∷ xs) = (x.1, parts_of xs)

    at_expr : (y : Expr-F SA SB SC) → C (t.expr_layer unit_name scope (map-Expr Expr RefPart Designator Elab (Part Elab) Elab te tp td (map-Expr SA SB SC Expr RefPart Designator (λ x. x.0) (λ x. x.0) (λ x. x.0) y))) (f.expr_layer unit_name declared known (map-Expr Expr RefPart Designator f.Meant (Part f.Meant) f.Meant fe fp fd (map-Expr SA SB SC Expr RefPart Designator (λ x. x.0) (λ x. x.0) (λ x. x.0) y)))
    at_expr (Expr-F.Int digits suffix) = literal_claim unit_name declared es n inner digits suffix
    at_expr (Expr-F.Log value) = only_claim unit_name declared es n inner (e.LogConst value) LogicalType true (given_scalar (Gives (Logical (value == TRUE)))) None (λ here. truth_does unit_name declared es n inner (value == TRUE) value here refl) tt tt
    at_expr (Expr-F.Ref designator) = designator.1
    at_expr (Expr-F.Unary operator operand) = unary_claim unit_name declared es n inner operator (te operand.0) (fe operand.0) operand.1
    at_expr (Expr-F.Binary operator left right) = binary_claim unit_name declared es n inner operator (te left.0) (te right.0) (fe left.0) (fe right.0) left.1 right.1
    at_expr (Expr-F.Paren inside) = paren_claim unit_name declared es n inner (te inside.0) (fe inside.0) inside.1
    at_expr (Expr-F.Char bytes) = tt
    at_expr (Expr-F.Triple lower upper step) = tt
    at_expr (Expr-F.Array items) = tt
    at_expr (Expr-F.Loop variable lower upper step items) = tt

    at_part : (y : RefPart-F SA SB SC) → PartOf (t.part_layer unit_name scope (map-RefPart Expr RefPart Designator Elab (Part Elab) Elab te tp td (map-RefPart SA SB SC Expr RefPart Designator (λ x. x.0) (λ x. x.0) (λ x. x.0) y))) (f.part_layer unit_name declared known (map-RefPart Expr RefPart Designator f.Meant (Part f.Meant) f.Meant fe fp fd (map-RefPart SA SB SC Expr RefPart Designator (λ x. x.0) (λ x. x.0) (λ x. x.0) y)))
    at_part (RefPart-F.Part name) = refl
    at_part (RefPart-F.Group arguments) = all_of arguments

    at_designator : (y : Designator-F SA SB SC) → C (t.designator_layer unit_name scope (map-Designator Expr RefPart Designator Elab (Part Elab) Elab te tp td (map-Designator SA SB SC Expr RefPart Designator (λ x. x.0) (λ x. x.0) (λ x. x.0) y))) (f.designator_layer unit_name declared known (map-Designator Expr RefPart Designator f.Meant (Part f.Meant) f.Meant fe fp fd (map-Designator SA SB SC Expr RefPart Designator (λ x. x.0) (λ x. x.0) (λ x. x.0) y)))
    at_designator y = parts_claim (map tp (map (λ x. x.0) y.parts)) (map fp (map (λ x. x.0) y.parts)) (parts_of y.parts)

    both_sides : (z : Expr-F Expr RefPart Designator) → C (t.expr_layer unit_name scope (map-Expr Expr RefPart Designator Elab (Part Elab) Elab te tp td z)) (f.expr_layer unit_name declared known (map-Expr Expr RefPart Designator f.Meant (Part f.Meant) f.Meant fe fp fd z)) → C (te (roll-Expr z)) (fe (roll-Expr z))
    both_sides z h =
        subst (λ a. C a (fe (roll-Expr z))) (sym (fold-roll-Expr Elab (Part Elab) Elab (t.expr_layer unit_name scope) (t.part_layer unit_name scope) (t.designator_layer unit_name scope) z))
        (subst (λ m. C (t.expr_layer unit_name scope (map-Expr Expr RefPart Designator Elab (Part Elab) Elab te tp td z)) m) (sym (fold-roll-Expr f.Meant (Part f.Meant) f.Meant (f.expr_layer unit_name declared known) (f.part_layer unit_name declared known) (f.designator_layer unit_name declared known) z)) h)

    both_parts : (z : RefPart-F Expr RefPart Designator) → PartOf (t.part_layer unit_name scope (map-RefPart Expr RefPart Designator Elab (Part Elab) Elab te tp td z)) (f.part_layer unit_name declared known (map-RefPart Expr RefPart Designator f.Meant (Part f.Meant) f.Meant fe fp fd z)) → PartOf (tp (roll-RefPart z)) (fp (roll-RefPart z))
    both_parts z h =
        subst (λ a. PartOf a (fp (roll-RefPart z))) (sym (fold-roll-RefPart Elab (Part Elab) Elab (t.expr_layer unit_name scope) (t.part_layer unit_name scope) (t.designator_layer unit_name scope) z))
        (subst (λ m. PartOf (t.part_layer unit_name scope (map-RefPart Expr RefPart Designator Elab (Part Elab) Elab te tp td z)) m) (sym (fold-roll-RefPart f.Meant (Part f.Meant) f.Meant (f.expr_layer unit_name declared known) (f.part_layer unit_name declared known) (f.designator_layer unit_name declared known) z)) h)

    both_designators : (z : Designator-F Expr RefPart Designator) → C (t.designator_layer unit_name scope (map-Designator Expr RefPart Designator Elab (Part Elab) Elab te tp td z)) (f.designator_layer unit_name declared known (map-Designator Expr RefPart Designator f.Meant (Part f.Meant) f.Meant fe fp fd z)) → C (td (roll-Designator z)) (fd (roll-Designator z))
    both_designators z h =
        subst (λ a. C a (fd (roll-Designator z))) (sym (fold-roll-Designator Elab (Part Elab) Elab (t.expr_layer unit_name scope) (t.part_layer unit_name scope) (t.designator_layer unit_name scope) z))
        (subst (λ m. C (t.designator_layer unit_name scope (map-Designator Expr RefPart Designator Elab (Part Elab) Elab te tp td z)) m) (sym (fold-roll-Designator f.Meant (Part f.Meant) f.Meant (f.expr_layer unit_name declared known) (f.part_layer unit_name declared known) (f.designator_layer unit_name declared known) z)) h)

    -- each expression
    pub expression_agrees : (x : Expr) → C (te x) (fe x)
    expression_agrees =
        ind-Expr (λ x. C (te x) (fe x)) (λ x. PartOf (tp x) (fp x)) (λ x. C (td x) (fd x))
        (λ x y q. subst (λ z. C (te (roll-Expr z)) (fe (roll-Expr z))) q (both_sides (map-Expr SA SB SC Expr RefPart Designator (λ s. s.0) (λ s. s.0) (λ s. s.0) y) (at_expr y)))
        (λ x y q. subst (λ z. PartOf (tp (roll-RefPart z)) (fp (roll-RefPart z))) q (both_parts (map-RefPart SA SB SC Expr RefPart Designator (λ s. s.0) (λ s. s.0) (λ s. s.0) y) (at_part y)))
        (λ x y q. subst (λ z. C (td (roll-Designator z)) (fd (roll-Designator z))) q (both_designators (map-Designator SA SB SC Expr RefPart Designator (λ s. s.0) (λ s. s.0) (λ s. s.0) y) (at_designator y)))

    pub designator_agrees : (x : Designator) → C (td x) (fd x)
    designator_agrees =
        ind-Designator (λ x. C (te x) (fe x)) (λ x. PartOf (tp x) (fp x)) (λ x. C (td x) (fd x))
        (λ x y q. subst (λ z. C (te (roll-Expr z)) (fe (roll-Expr z))) q (both_sides (map-Expr SA SB SC Expr RefPart Designator (λ s. s.0) (λ s. s.0) (λ s. s.0) y) (at_expr y)))
        (λ x y q. subst (λ z. PartOf (tp (roll-RefPart z)) (fp (roll-RefPart z))) q (both_parts (map-RefPart SA SB SC Expr RefPart Designator (λ s. s.0) (λ s. s.0) (λ s. s.0) y) (at_part y)))
        (λ x y q. subst (λ z. C (td (roll-Designator z)) (fd (roll-Designator z))) q (both_designators (map-Designator SA SB SC Expr RefPart Designator (λ s. s.0) (λ s. s.0) (λ s. s.0) y) (at_designator y)))

-- what is claimed, in the words of the laws
goes_on : (unit_name : List ℕ) (declared : List Declared) (s : State) (ty : ScalarType) (x : Stretch State Rattle.type_rules.specs.Store.Value) → Sound (W unit_name declared) s (Is ty) x → GoesOn s ty x
goes_on unit_name declared s ty (Going value t sofar) h = h
goes_on unit_name declared s ty (Stopped (Ended sofar status location)) h = tt
goes_on unit_name declared s ty (Stopped (Cut sofar)) h = tt
goes_on unit_name declared s ty (Stopped (Wrong fault)) h = h

alike_of : (unit_name : List ℕ) (declared : List Declared) (es : Entities) (n : ℕ) (inner : Calls) (a : Elab) (m : f.Meant) → ClaimOf unit_name declared es n inner a m → Alike unit_name declared es n inner a m
alike_of unit_name declared es n inner (Ok a) m h = λ here s i w. let r = h.does here s i tt w in (goes_on unit_name declared s a.ty (m.value here s w) r.0, r.1)
alike_of unit_name declared es n inner (Err rule) m h = tt

pub all_agree : ExpressionsAgree
all_agree unit_name scope declared known es agree n inner x =
    alike_of unit_name declared es n inner (t.elab_expr unit_name scope x) (f.expression unit_name declared known x) (expression_agrees unit_name declared es n inner scope known agree x)
