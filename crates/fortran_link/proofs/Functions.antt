-- Intrinsic functions of integers: the arguments converted to one kind.
use Rattle.std.proofs.lemmas.Bool.Decides.{nat_tests}
use Rattle.std.proofs.Common.{◌≡◌, ℕ, suc, arith, ℤ, max, Bool, true, false, if◌then◌else◌, ◌==◌, ◌||◌, ◌&&◌, nat_le, List, [], ◌∷◌, map, length, Option, Some, None, Ok, refl, sym, ap, subst, ◌∙◌, inl, inr, true≢false}
use Rattle.std.proofs.lemmas.Bool.{and_parts}
use Rattle.std.specs.Int.{int_min, int_max}
use Rattle.std.specs.Option.{option_map}
use Rattle.lf_base.specs.Outcome.{Location}
use Rattle.lf_base.specs.Acts.{Act, bind, give}
use Rattle.lf_base.specs.Equal.{World, Equal, Always}
use Rattle.lf_base.proofs.Equals.{bind_bind, equal_steps}
use Rattle.type_rules.specs.Values.{Scalar, Integer, Evaluation, Gives, Exact, fitted, is_kind, is_in_kind}
use Rattle.type_rules.specs.Store.{Value, Single}
use Rattle.type_rules.specs.Arrays.{single, scalars_of}
use Rattle.type_rules.specs.Integers.{remainder, modulo, magnitude, sign}
use Rattle.type_rules.specs.Operations.{convert, operation, extreme, of_many}
use Rattle.type_rules.specs.declared.code.TheConstants.{ABS, MOD, MODULO, MIN, MAX, SIGN}
use Rattle.type_rules.specs.declared.constant.Op.TheVariants.{Intrinsic}
use Rattle.asr_nodes.specs.declared.tree.ExprTree.{ExprTree}
use Rattle.asr_nodes.specs.declared.tree.ExprTree.TheVariants as e
use Rattle.asr_semantics.specs.Machine.{State, M, result}
use Rattle.asr_semantics.specs.Entities.{Entities}
use Rattle.asr_semantics.specs.Meaning as t
use Rattle.asr_semantics.specs.Meaning.{operate, on_scalars, Calls, expression}
use Rattle.asr_semantics.proofs.Nodes.{expression-Intrinsic}
use Rattle.fortran_semantics.specs.Declared.{IntegerType, Declared}
use Rattle.fortran_semantics.specs.Meaning as f
use Rattle.ast_to_asr.specs.Expressions.{Argument, in_kind, greater, greatest_kind, takes}
use Rattle.fortran_link.proofs.States.{Is, W}
use Rattle.fortran_link.proofs.Values.{kinds, fitted_yields, convert_own, greater_left, in_greater}
use Rattle.fortran_link.proofs.Expressions.{result_equal, converted_equal}
use Rattle.fortran_link.proofs.Operators.{greater_is_kind}

-- the greater of two kinds, by whether each is 8
abbrev pub kind_where : Bool → ℕ
kind_where t = if t then 8 else 4

is_eight : (t : Bool) → (kind_where t == 8) ≡ t
is_eight true = refl
is_eight false = refl

or_or : (p q r : Bool) → ((p || q) || r) ≡ (p || (q || r))
or_or true q r = refl
or_or false q r = refl

pub greater_over : (a b c : ℕ) → greater (greater a b) c ≡ greater a (greater b c)
greater_over a b c =
    ap (λ t. kind_where (t || (c == 8))) (is_eight ((a == 8) || (b == 8)))
    ∙ ap kind_where (or_or (a == 8) (b == 8) (c == 8))
    ∙ ap (λ t. kind_where ((a == 8) || t)) (sym (is_eight ((b == 8) || (c == 8))))

pub greater_own : (k : ℕ) → is_kind k ≡ true → greater k 4 ≡ k
greater_own k h = elim (kinds k h) as (λ _. greater k 4 ≡ k) [
  | inl p ↦ subst (λ m. greater m 4 ≡ m) (sym p) refl
  | inr p ↦ subst (λ m. greater m 4 ≡ m) (sym p) refl
]

pub greater_again : (j k : ℕ) → greater j (greater j k) ≡ greater j k
greater_again j k = ap (λ t. kind_where ((j == 8) || t)) (is_eight ((j == 8) || (k == 8))) ∙ by (j == 8) (k == 8)
  where
    by : (p q : Bool) → kind_where (p || (p || q)) ≡ kind_where (p || q)
    by true q = refl
    by false q = refl

max_self : (k : ℕ) → is_kind k ≡ true → max k k ≡ k
max_self k h = elim (kinds k h) as (λ _. max k k ≡ k) [
  | inl p ↦ subst (λ m. max m m ≡ m) (sym p) refl
  | inr p ↦ subst (λ m. max m m ≡ m) (sym p) refl
]

-- The numbers that arguments have, each in the kind of its argument.
abbrev pub Numbers : List Argument → Type 0
Numbers [] = Unit {0}
Numbers (x ∷ xs) = (z : ℤ) × (is_kind x.kind ≡ true) × (is_in_kind x.kind z ≡ true) × Numbers xs

abbrev pub plain : (xs : List Argument) → Numbers xs → List Scalar
plain [] ns = []
plain (x ∷ xs) ns = Integer x.kind ns.0 ∷ plain xs ns.3

abbrev pub wide : ℕ → (xs : List Argument) → Numbers xs → List Scalar
wide g [] ns = []
wide g (x ∷ xs) ns = Integer g ns.0 ∷ wide g xs ns.3

abbrev pub values : List Scalar → List Value
values = map Single

are_scalars : (ss : List Scalar) → scalars_of (values ss) ≡ Some ss
are_scalars [] = refl
are_scalars (s ∷ ss) = ap (λ o. option_map (λ xs. s ∷ xs) o) (are_scalars ss)

-- An operation that gives the same on both, and fits into the kind or not.
pub record Alike (code g : ℕ) (a b : List Scalar) : Type 0 where
  pub gives : Exact
  pub first : operation (Intrinsic code) a ≡ fitted g gives
  pub second : operation (Intrinsic code) b ≡ fitted g gives

-- the greatest kind, and what an extreme of integers is
abbrev pub maxed : ℕ → List Argument → ℕ
maxed k [] = k
maxed k (x ∷ xs) = maxed (max k x.kind) xs

abbrev pub picked : (ℤ → ℤ → ℤ) → ℤ → (xs : List Argument) → Numbers xs → ℤ
picked pick a [] ns = a
picked pick a (x ∷ xs) ns = picked pick (pick a ns.0) xs ns.3

plain_extreme : (pick : ℤ → ℤ → ℤ) (k : ℕ) (a : ℤ) (xs : List Argument) (ns : Numbers xs) → extreme pick k a (plain xs ns) ≡ fitted (maxed k xs) (Ok (picked pick a xs ns))
plain_extreme pick k a [] ns = refl
plain_extreme pick k a (x ∷ xs) ns = plain_extreme pick (max k x.kind) (pick a ns.0) xs ns.3

wide_extreme : (pick : ℤ → ℤ → ℤ) (g : ℕ) (a : ℤ) (xs : List Argument) (ns : Numbers xs) → max g g ≡ g → extreme pick g a (wide g xs ns) ≡ fitted g (Ok (picked pick a xs ns))
wide_extreme pick g a [] ns h = refl
wide_extreme pick g a (x ∷ xs) ns h = ap (λ m. extreme pick m (pick a ns.0) (wide g xs ns.3)) h ∙ wide_extreme pick g (pick a ns.0) xs ns.3 h

maxed_is : (k : ℕ) (xs : List Argument) → is_kind k ≡ true → Numbers xs → maxed k xs ≡ greater k (greatest_kind xs)
maxed_is k [] h ns = sym (greater_own k h)
maxed_is k (x ∷ xs) h ns =
    let m : greater k x.kind ≡ max k x.kind = (greater_left k x.kind h ns.1).0 in
    ap (λ j. maxed j xs) (sym m) ∙ maxed_is (greater k x.kind) xs (greater_is_kind k x.kind) ns.3 ∙ greater_over k x.kind (greatest_kind xs)

pub greatest_is_kind : (xs : List Argument) → is_kind (greatest_kind xs) ≡ true
greatest_is_kind [] = refl
greatest_is_kind (x ∷ xs) = greater_is_kind x.kind (greatest_kind xs)

not_one : (n : ℕ) → (suc (suc n) == 1) ≡ false
not_one n = grind (arith, nat_tests)

not_two : (n : ℕ) → (suc (suc (suc n)) == 2) ≡ false
not_two n = grind (arith, nat_tests)

-- `abs` takes one integer
alike_abs : (xs : List Argument) (ns : Numbers xs) → takes ABS (length xs) ≡ true → Alike ABS (greatest_kind xs) (plain xs ns) (wide (greatest_kind xs) xs ns)
alike_abs [] ns h = absurd (true≢false (sym h))
alike_abs (x ∷ []) ns h =
    record {
      gives = Ok (magnitude ns.0);
      first = ap (λ k. fitted k (Ok (magnitude ns.0))) (sym (greater_own x.kind ns.1));
      second = refl;
    }
alike_abs (x ∷ y ∷ xs) ns h = absurd (true≢false (sym h ∙ not_one (length xs)))

-- two integers
two_kinds : (x y : Argument) → is_kind x.kind ≡ true → is_kind y.kind ≡ true → (greatest_kind (x ∷ y ∷ []) ≡ max x.kind y.kind) × (max (greatest_kind (x ∷ y ∷ [])) (greatest_kind (x ∷ y ∷ [])) ≡ greatest_kind (x ∷ y ∷ []))
two_kinds x y h g = (
  ap (greater x.kind) (greater_own y.kind g) ∙ (greater_left x.kind y.kind h g).0,
  max_self (greatest_kind (x ∷ y ∷ [])) (greatest_is_kind (x ∷ y ∷ [])),
)

alike_mod : (xs : List Argument) (ns : Numbers xs) → takes MOD (length xs) ≡ true → Alike MOD (greatest_kind xs) (plain xs ns) (wide (greatest_kind xs) xs ns)
alike_mod [] ns h = absurd (true≢false (sym h))
alike_mod (x ∷ []) ns h = absurd (true≢false (sym h))
alike_mod (x ∷ y ∷ []) ns h =
    let k = two_kinds x y ns.1 ns.3.1 in
    record {
      gives = remainder ns.0 ns.3.0;
      first = ap (λ m. fitted m (remainder ns.0 ns.3.0)) (sym k.0);
      second = ap (λ m. fitted m (remainder ns.0 ns.3.0)) k.1;
    }
alike_mod (x ∷ y ∷ z ∷ xs) ns h = absurd (true≢false (sym h ∙ not_two (length xs)))

alike_modulo : (xs : List Argument) (ns : Numbers xs) → takes MODULO (length xs) ≡ true → Alike MODULO (greatest_kind xs) (plain xs ns) (wide (greatest_kind xs) xs ns)
alike_modulo [] ns h = absurd (true≢false (sym h))
alike_modulo (x ∷ []) ns h = absurd (true≢false (sym h))
alike_modulo (x ∷ y ∷ []) ns h =
    let k = two_kinds x y ns.1 ns.3.1 in
    record {
      gives = modulo ns.0 ns.3.0;
      first = ap (λ m. fitted m (modulo ns.0 ns.3.0)) (sym k.0);
      second = ap (λ m. fitted m (modulo ns.0 ns.3.0)) k.1;
    }
alike_modulo (x ∷ y ∷ z ∷ xs) ns h = absurd (true≢false (sym h ∙ not_two (length xs)))

alike_sign : (xs : List Argument) (ns : Numbers xs) → takes SIGN (length xs) ≡ true → Alike SIGN (greatest_kind xs) (plain xs ns) (wide (greatest_kind xs) xs ns)
alike_sign [] ns h = absurd (true≢false (sym h))
alike_sign (x ∷ []) ns h = absurd (true≢false (sym h))
alike_sign (x ∷ y ∷ []) ns h =
    let k = two_kinds x y ns.1 ns.3.1 in
    record {
      gives = Ok (sign ns.0 ns.3.0);
      first = ap (λ m. fitted m (Ok (sign ns.0 ns.3.0))) (sym k.0);
      second = ap (λ m. fitted m (Ok (sign ns.0 ns.3.0))) k.1;
    }
alike_sign (x ∷ y ∷ z ∷ xs) ns h = absurd (true≢false (sym h ∙ not_two (length xs)))

-- two to 31 integers
plain_count : (xs : List Argument) (ns : Numbers xs) → length (plain xs ns) ≡ length xs
plain_count [] ns = refl
plain_count (x ∷ xs) ns = ap suc (plain_count xs ns.3)

wide_count : (g : ℕ) (xs : List Argument) (ns : Numbers xs) → length (wide g xs ns) ≡ length xs
wide_count g [] ns = refl
wide_count g (x ∷ xs) ns = ap suc (wide_count g xs ns.3)

-- the least and the greatest of two to 31
record Extreme (code : ℕ) (pick : ℤ → ℤ → ℤ) : Type 0 where
  takes_many : (count : ℕ) → takes code count ≡ true → (nat_le 2 count && nat_le count 31) ≡ true
  of_two : (j k : ℕ) (a b : ℤ) → operation (Intrinsic code) (Integer j a ∷ Integer k b ∷ []) ≡ extreme pick j a (Integer k b ∷ [])
  of_more : (j : ℕ) (a : ℤ) (b c : Scalar) (rest : List Scalar) → nat_le (length (b ∷ c ∷ rest)) 30 ≡ true → operation (Intrinsic code) (Integer j a ∷ b ∷ c ∷ rest) ≡ extreme pick j a (b ∷ c ∷ rest)

least_extreme : Extreme MIN int_min
least_extreme = record {
  takes_many = λ count h. h;
  of_two = λ j k a b. refl;
  of_more = λ j a b c rest h. ap (λ t. if t then extreme int_min j a (b ∷ c ∷ rest) else Rattle.type_rules.specs.Values.NoRule) h;
}

greatest_extreme : Extreme MAX int_max
greatest_extreme = record {
  takes_many = λ count h. h;
  of_two = λ j k a b. refl;
  of_more = λ j a b c rest h. ap (λ t. if t then extreme int_max j a (b ∷ c ∷ rest) else Rattle.type_rules.specs.Values.NoRule) h;
}

within_30 : (n m : ℕ) → n ≡ m → nat_le (suc (suc (suc m))) 31 ≡ true → nat_le (suc (suc n)) 30 ≡ true
within_30 n m e h = grind (arith, nat_tests)

alike_extreme : (code : ℕ) (pick : ℤ → ℤ → ℤ) → Extreme code pick → (xs : List Argument) (ns : Numbers xs) → takes code (length xs) ≡ true → Alike code (greatest_kind xs) (plain xs ns) (wide (greatest_kind xs) xs ns)
alike_extreme code pick ex [] ns h = absurd (true≢false (sym (ex.takes_many 0 h)))
alike_extreme code pick ex (x ∷ []) ns h = absurd (true≢false (sym (ex.takes_many 1 h)))
alike_extreme code pick ex (x ∷ y ∷ []) ns h =
    let g = greatest_kind (x ∷ y ∷ []) in
    record {
      gives = Ok (picked pick ns.0 (y ∷ []) ns.3);
      first =
          ex.of_two x.kind y.kind ns.0 ns.3.0 ∙ plain_extreme pick x.kind ns.0 (y ∷ []) ns.3
          ∙ ap (λ m. fitted m (Ok (picked pick ns.0 (y ∷ []) ns.3))) (maxed_is x.kind (y ∷ []) ns.1 ns.3);
      second = ex.of_two g g ns.0 ns.3.0 ∙ wide_extreme pick g ns.0 (y ∷ []) ns.3 (max_self g (greatest_is_kind (x ∷ y ∷ [])));
    }
alike_extreme code pick ex (x ∷ y ∷ z ∷ xs) ns h =
    let g = greatest_kind (x ∷ y ∷ z ∷ xs) in
    let many = (and_parts _ _ (ex.takes_many (length (x ∷ y ∷ z ∷ xs)) h)).1 in
    record {
      gives = Ok (picked pick ns.0 (y ∷ z ∷ xs) ns.3);
      first =
          ex.of_more x.kind ns.0 (Integer y.kind ns.3.0) (Integer z.kind ns.3.3.0) (plain xs ns.3.3.3) (within_30 (length (plain xs ns.3.3.3)) (length xs) (plain_count xs ns.3.3.3) many)
          ∙ plain_extreme pick x.kind ns.0 (y ∷ z ∷ xs) ns.3
          ∙ ap (λ m. fitted m (Ok (picked pick ns.0 (y ∷ z ∷ xs) ns.3))) (maxed_is x.kind (y ∷ z ∷ xs) ns.1 ns.3);
      second =
          ex.of_more g ns.0 (Integer g ns.3.0) (Integer g ns.3.3.0) (wide g xs ns.3.3.3) (within_30 (length (wide g xs ns.3.3.3)) (length xs) (wide_count g xs ns.3.3.3) many)
          ∙ wide_extreme pick g ns.0 (y ∷ z ∷ xs) ns.3 (max_self g (greatest_is_kind (x ∷ y ∷ z ∷ xs)));
    }

-- the functions of the table
pub data IsFunction : ℕ → Type 0 where
  IsAbs : IsFunction ABS
  IsMod : IsFunction MOD
  IsModulo : IsFunction MODULO
  IsMin : IsFunction MIN
  IsMax : IsFunction MAX
  IsSign : IsFunction SIGN

pub alike : (code : ℕ) → IsFunction code → (xs : List Argument) (ns : Numbers xs) → takes code (length xs) ≡ true → Alike code (greatest_kind xs) (plain xs ns) (wide (greatest_kind xs) xs ns)
alike ABS IsAbs xs ns h = alike_abs xs ns h
alike MOD IsMod xs ns h = alike_mod xs ns h
alike MODULO IsModulo xs ns h = alike_modulo xs ns h
alike MIN IsMin xs ns h = alike_extreme MIN int_min least_extreme xs ns h
alike MAX IsMax xs ns h = alike_extreme MAX int_max greatest_extreme xs ns h
alike SIGN IsSign xs ns h = alike_sign xs ns h

module _ (unit_name : List ℕ) (declared : List Declared) (es : Entities) (n : ℕ) (inner : Calls) where
  abbrev V : World State
  V = W unit_name declared

  abbrev A : ExprTree → Location → M Value
  A x here = (expression es n inner x).value here

  pub operated_list : (here : Location) (code : ℕ) (ss : List Scalar) → operate here (Intrinsic code) (values ss) ≡ result here (single (operation (Intrinsic code) ss))
  operated_list here code ss = ap (λ o. result here (on_scalars (Intrinsic code) o)) (are_scalars ss)

  pub alike_equal : (here : Location) (code g : ℕ) (a b : List Scalar) → is_kind g ≡ true → Alike code g a b → Equal V Always (Is (IntegerType g)) (operate here (Intrinsic code) (values a)) (operate here (Intrinsic code) (values b))
  alike_equal here code g a b f h =
      let left = operated_list here code a ∙ ap (λ o. result here (single o)) h.first in
      let right = operated_list here code b ∙ ap (λ o. result here (single o)) h.second in
      subst (λ x. Equal V Always (Is (IntegerType g)) x (operate here (Intrinsic code) (values b))) (sym left)
      (subst (λ y. Equal V Always (Is (IntegerType g)) (result here (single (fitted g h.gives))) y) (sym right)
      (result_equal unit_name declared Always here (IntegerType g) (fitted g h.gives) (fitted_yields g f h.gives)))

  -- arguments one behind another, each converted directly behind its evaluation
  abbrev pub Arguments : List Argument → List f.Meant → Type 0
  Arguments [] [] = Unit {0}
  Arguments (x ∷ xs) (m ∷ ms) = ((here : Location) → Equal V Always (Is (IntegerType x.kind)) (m.value here) (A x.tree here)) × Arguments xs ms
  Arguments [] (m ∷ ms) = ⊥
  Arguments (x ∷ xs) [] = ⊥

  abbrev pub Widens : ℕ → List Argument → Type 0
  Widens g [] = Unit {0}
  Widens g (x ∷ xs) = ((z : ℤ) → is_kind x.kind ≡ true → is_in_kind x.kind z ≡ true → convert g (Integer x.kind z) ≡ Gives (Integer g z)) × Widens g xs

  regrouped : {X Y Z : Type 0} (U : Z → State → Type 0) (act act' : M X) (f f' : X → M Y) (g g' : Y → M Z) → Equal V Always U (bind act (λ a. bind (f a) g)) (bind act' (λ a. bind (f' a) g')) → Equal V Always U (bind (bind act f) g) (bind (bind act' f') g')
  regrouped U act act' f f' g g' h = λ s i p w. equal_steps V s U (bind (bind act f) g s w) (bind act (λ a. bind (f a) g) s w) (bind (bind act' f') g' s w) (bind act' (λ a. bind (f' a) g') s w) (bind_bind act f g s w) (bind_bind act' f' g' s w) (h s i p w)

  pub list_equal : (U : Value → State → Type 0) (here : Location) (g : ℕ) (xs : List Argument) (ms : List f.Meant) (go go' : List Value → M Value) → Arguments xs ms → Widens g xs → ((ns : Numbers xs) → Equal V Always U (go (values (plain xs ns))) (go' (values (wide g xs ns)))) → Equal V Always U (bind (f.each_value here ms) go) (bind (t.each_value here (map (expression es n inner) (map (λ x. in_kind g x.kind x.tree) xs))) go')
  list_equal U here g [] [] go go' c w k = k tt
  list_equal U here g (x ∷ xs) (m ∷ ms) go go' c w k =
      regrouped U (m.value here) (A (in_kind g x.kind x.tree) here)
      (λ v. bind (f.each_value here ms) (λ vs. give (v ∷ vs)))
      (λ v. bind (t.each_value here (map (expression es n inner) (map (λ y. in_kind g y.kind y.tree) xs))) (λ vs. give (v ∷ vs)))
      go go'
      (converted_equal unit_name declared es n inner U here g x.kind x.tree (m.value here)
      (λ v. bind (bind (f.each_value here ms) (λ vs. give (v ∷ vs))) go)
      (λ v. bind (bind (t.each_value here (map (expression es n inner) (map (λ y. in_kind g y.kind y.tree) xs))) (λ vs. give (v ∷ vs))) go')
      w.0 (c.0 here)
      (λ z p r.
      regrouped U (f.each_value here ms) (t.each_value here (map (expression es n inner) (map (λ y. in_kind g y.kind y.tree) xs)))
      (λ vs. give (Single (Integer x.kind z) ∷ vs)) (λ vs. give (Single (Integer g z) ∷ vs)) go go'
      (list_equal U here g xs ms (λ vs. go (Single (Integer x.kind z) ∷ vs)) (λ vs. go' (Single (Integer g z) ∷ vs)) c.1 w.1 (λ ns. k (z, p, r, ns)))))
  list_equal U here g [] (m ∷ ms) go go' c w k = absurd c
  list_equal U here g (x ∷ xs) [] go go' c w k = absurd c
