-- An operation whose types are right gives a value of its type or traps, and one whose types are wrong gives none.
use Rattle.std.proofs.Common.{◌≡◌, ℕ, zero, suc, max, Bool, true, false, not, ◌&&◌, ◌||◌, refl, sym, ◌∙◌, ap, subst, arith, ◌==◌, if◌then◌else◌, List, [], ◌∷◌, length, map, Option, Some, None, Ok, Err, ◌⊎◌, inl, inr}
use Rattle.std.specs.Option.{option_map}
use Rattle.std.proofs.lemmas.Bool.{and_parts, and_from}
use Rattle.std.proofs.lemmas.Bool.Decides.{nat_tests}
use Rattle.lf_base.specs.declared.operator.Operator.{Operator}
use Rattle.lf_base.specs.Operators.{operator_of}
use Rattle.lf_base.specs.declared.rule.Rule.TheVariants.{E406}
use Rattle.type_rules.specs.Codes.{intrinsic_of}
use Rattle.type_rules.specs.Values.{Scalar, Integer, Logical, Characters}
use Rattle.type_rules.specs.Store.{Value, Single, Array, Record, Values, size_of}
use Rattle.type_rules.specs.Shapes.{shapes_of, Definitions, are_of, is_array, is_element, count_shapes, scalar_type}
use Rattle.type_rules.specs.Types.{is_concatenation}
use Rattle.type_rules.specs.Typing.{class_of, is_in_class, kind_of, result_element, intrinsic_judged, judged, ranks_of, ranks_of_intrinsic, ranks_of_operator, ranks_of_function, some_array, joined_with, elements_of, dims_of}
use Rattle.type_rules.specs.Arrays.{scalars_of, all_have, element_at_run, rank_of}
use Rattle.type_rules.specs.Judging.{Suits, AllSuit, AreValues}
use Rattle.type_rules.specs.declared.ty.Ty.{Ty}
use Rattle.type_rules.specs.declared.ty.Elem.{Elem}
use Rattle.type_rules.specs.declared.ty.Dim.{Dim}
use Rattle.type_rules.specs.declared.ty.Dim.TheVariants as dim
use Rattle.type_rules.specs.declared.code.Intrinsic.{Intrinsic}
use Rattle.type_rules.specs.declared.constant.Op.{Op}
use Rattle.type_rules.specs.declared.constant.Op.TheVariants.{Unary, Binary, Intrinsic as IntrinsicOf, Convert}
use Rattle.type_rules.specs.declared.signature.Judgement.{Judgement}
use Rattle.type_rules.specs.declared.signature.Judgement.TheVariants.{Element, NoType, Misused}
use Rattle.type_rules.specs.declared.signature.Ranks.{Ranks}
use Rattle.type_rules.specs.declared.signature.Ranks.TheVariants.{Elementwise, Scalars, OneArray}
use Rattle.lf_base.specs.declared.trap.Trap.TheVariants.{ShapeMismatch}
use Rattle.type_rules.specs.Values.{Evaluation, Gives, Traps, NoRule, and_then}
use Rattle.type_rules.specs.Operations.{operation}
use Rattle.type_rules.specs.Arrays.{elements_from, reduced, single}
use Rattle.type_rules.specs.Judging.{Answers, IsRight}
use Rattle.type_rules.proofs.Answering.{answers, no_reduction}
use Rattle.type_rules.proofs.Judging.{type_of_scalar}
use Rattle.type_rules.proofs.Arrayed.{AllPlain, Called, called, array_of, not_a_record}
use Rattle.lf_base.specs.declared.rule.Rule.{Rule}
use Rattle.lf_base.specs.declared.rule.Rule.TheVariants.{E412}
use Rattle.type_rules.specs.Types.{typed, extents_apart}
use Rattle.type_rules.specs.Typing.{breaks_ranks, dims_of_result, some_apart, apart_from, ranks_apart, some_ranks_apart, least_rule, type_of}
use Rattle.type_rules.specs.Arrays.{first_extents, type_at_run, each_under, reduction, reduced_by, under_ranks, under_type, on_arrays, on_values, operation_on}
use Rattle.type_rules.specs.Judging.{IsWrong}
use Rattle.std.specs.Prelude.{replicate}
use Rattle.type_rules.proofs.Judging.{typed_parts, all_scalars, right_scalars}
use Rattle.type_rules.proofs.Arrayed.{all_plain, unmeasured_judged, elements_are, ranks_are, there_is_array}
use Rattle.type_rules.proofs.Elements.{AreElements, are_elements, all_fit, some_dims, is_array_of}
use Rattle.type_rules.proofs.Reductions.{values_known, closed, Closed, Good, reduced_class, one_argument}
use Rattle.std.proofs.lemmas.List.{length-replicate}

right_good : (ds : Definitions) (x : Elem) (o : Evaluation Scalar) → Good x o → IsRight ds (scalar_type x) (single o)
right_good ds x (Gives s) g = record { holds = type_of_scalar ds x s g.0 g.1 }
right_good ds x (Traps trap) g = tt
right_good ds x NoRule g = absurd g

-- An array of the elements, or a trap.
right_elements : (ds : Definitions) (e : Elem) (dims : List Dim) (xs : List ℕ) (o : Evaluation Values) → is_array dims xs ≡ true → Closed e → AreElements ds e (size_of xs) o → IsRight ds (record { elem = e; dims = dims }) (and_then o (λ elements. Gives (Array e xs elements)))
right_elements ds e dims xs (Gives vs) a c h = record {
  holds = and_from (is_array dims xs) (is_element e e && ((count_shapes (shapes_of vs) == size_of xs) && are_of ds e (shapes_of vs))) a
      (and_from (is_element e e) ((count_shapes (shapes_of vs) == size_of xs) && are_of ds e (shapes_of vs)) c
      (and_from (count_shapes (shapes_of vs) == size_of xs) (are_of ds e (shapes_of vs)) (same h.0) h.1));
}
  where
    same : count_shapes (shapes_of vs) ≡ size_of xs → (count_shapes (shapes_of vs) == size_of xs) ≡ true
    same e = grind (arith, nat_tests)
right_elements ds e dims xs (Traps trap) a c h = tt
right_elements ds e dims xs NoRule a c h = absurd h

joined_only : (all : List (List Dim)) (dims : List Dim) → dims_of_result Elementwise all ≡ Ok dims → joined_with [] all ≡ dims
joined_only all dims h = by (some_apart all) h
  where
    by : (t : Bool) → (if t then Err E412 else Ok (joined_with [] all)) ≡ Ok dims → joined_with [] all ≡ dims
    by true g = cc
    by false g = cc

right_each : (ds : Definitions) (op : Op) (ts : List Ty) (vs : List Value) (e : Elem) (dims : List Dim) → judged op (elements_of ts) ≡ Element e → ranks_of op ≡ Elementwise → dims_of_result Elementwise (dims_of ts) ≡ Ok dims → AllPlain (elements_of ts) → AreValues ds ts vs → some_array (map length (dims_of ts)) ≡ true → IsRight ds (record { elem = e; dims = dims }) (each_under op vs (first_extents vs) e)
right_each ds op ts vs e dims j r d p h some = by (all_have (first_extents vs) vs) refl
  where
    by : (t : Bool) → all_have (first_extents vs) vs ≡ t → IsRight ds (record { elem = e; dims = dims }) (if t then and_then (elements_from op vs 0 (size_of (first_extents vs))) (λ elements. Gives (Array e (first_extents vs) elements)) else Traps ShapeMismatch)
    by true same =
        let xs = first_extents vs in
        let fits = all_fit ds ts vs xs [] p h same tt in
        let array = is_array_of (joined_with [] (dims_of ts)) xs (some_dims [] (dims_of ts) some) fits in
        let there = subst (λ (x : List Dim). is_array x xs ≡ true) (joined_only (dims_of ts) dims d) array in
        right_elements ds e dims xs (elements_from op vs 0 (size_of xs)) there (closed op (elements_of ts) e j (values_known ds ts vs p h) r)
        (are_elements ds op ts vs xs e 0 (size_of xs) j (λ g. let k : Elementwise ≡ OneArray = sym r ∙ g in cc) p h same (omega arith))
    by false same = tt

one_array : (all : List (List Dim)) (dims : List Dim) → dims_of_result OneArray all ≡ Ok dims → dims ≡ []
one_array all dims h = by (some_array (map length all)) h
  where
    by : (t : Bool) → (if t then Ok [] else Err E406) ≡ Ok dims → dims ≡ []
    by true g = cc
    by false g = cc

right_function : (ds : Definitions) (which : Intrinsic) (ts : List Ty) (vs : List Value) (e : Elem) → Called which (elements_of ts) e → ranks_of_intrinsic which ≡ OneArray → AllPlain (elements_of ts) → AreValues ds ts vs → scalars_of vs ≡ None → IsRight ds (scalar_type e) (reduction (Some which) vs)
right_function ds which [] vs e c r p h s = let n : ◌≡◌ {A = ℕ} 0 1 = one_argument which 0 r c.number in absurd (omega arith)
right_function ds which (t ∷ ts) [] e c r p h s = absurd h
right_function ds which (t ∷ []) (Array element extents elements ∷ []) e c r p h s =
    let a = array_of ds t element extents elements h.0 in
    let g = reduced_class ds which (class_of which) t.elem element elements r refl (and_parts (is_in_class (class_of which) t.elem) true c.class).0 a.element_is a.are in
    subst (λ (x : Elem). IsRight ds (scalar_type x) (single (reduced which element elements))) (sym c.is) (right_good ds (result_element which (max (kind_of t.elem) 0)) (reduced which element elements) g)
right_function ds which (t ∷ []) (Single x ∷ []) e c r p h s = cc
right_function ds which (t ∷ []) (Record cs ∷ []) e c r p h s = absurd (not_a_record ds t cs h.0 p.0)
right_function ds which (t ∷ []) (v ∷ w ∷ vs) e c r p h s = absurd h.1
right_function ds which (t ∷ u ∷ ts) (v ∷ vs) e c r p h s = let n : length (elements_of (t ∷ u ∷ ts)) ≡ 1 = one_argument which (length (elements_of (t ∷ u ∷ ts))) r c.number in absurd (omega arith)

right_reduction : (ds : Definitions) (op : Op) (ts : List Ty) (vs : List Value) (e : Elem) → judged op (elements_of ts) ≡ Element e → ranks_of op ≡ OneArray → AllPlain (elements_of ts) → AreValues ds ts vs → scalars_of vs ≡ None → IsRight ds (scalar_type e) (reduced_by op vs)
right_reduction ds (Unary code) ts vs e j r p h s = cc
right_reduction ds (Binary code) ts vs e j r p h s = by (operator_of code) r
  where
    either : (t : Bool) → (if t then Scalars else Elementwise) ≡ OneArray → ⊥
    either true g = cc
    either false g = cc

    by : (o : Option Operator) → ranks_of_operator o ≡ OneArray → IsRight ds (scalar_type e) (reduced_by (Binary code) vs)
    by None g = cc
    by (Some op) g = absurd (either (is_concatenation op) g)
right_reduction ds (IntrinsicOf code) ts vs e j r p h s = by (intrinsic_of code) j r
  where
    by : (o : Option Intrinsic) → intrinsic_judged o (elements_of ts) ≡ Element e → ranks_of_function o ≡ OneArray → IsRight ds (scalar_type e) (reduction o vs)
    by None g k = cc
    by (Some which) g k = right_function ds which ts vs e (called which (elements_of ts) e g) k p h s
right_reduction ds (Convert kind) ts vs e j r p h s = cc

-- What the operation gives under the ranks that it has.
right_ranks : (ds : Definitions) (op : Op) (r : Ranks) (ts : List Ty) (vs : List Value) (e : Elem) (dims : List Dim) → ranks_of op ≡ r → judged op (elements_of ts) ≡ Element e → breaks_ranks r (map length (dims_of ts)) ≡ false → dims_of_result r (dims_of ts) ≡ Ok dims → AllPlain (elements_of ts) → AreValues ds ts vs → scalars_of vs ≡ None → (r ≡ Scalars → ⊥) × IsRight ds (record { elem = e; dims = dims }) (under_ranks r op vs e)
right_ranks ds op Elementwise ts vs e dims q j b d p h s = (λ g. cc, right_each ds op ts vs e dims j q d p h (there_is_array ds ts vs p h s))
right_ranks ds op Scalars ts vs e dims q j b d p h s = let some = there_is_array ds ts vs p h s in let g : false ≡ true = sym b ∙ some in cc
right_ranks ds op OneArray ts vs e dims q j b d p h s =
    (λ g. cc, subst (λ (x : List Dim). IsRight ds (record { elem = e; dims = x }) (reduced_by op vs)) (sym (one_array (dims_of ts) dims d)) (right_reduction ds op ts vs e j q p h s))

right_arrays : (ds : Definitions) (op : Op) (ts : List Ty) (vs : List Value) (ty : Ty) → AreValues ds ts vs → scalars_of vs ≡ None → type_of op ts ≡ Ok ty → IsRight ds ty (on_arrays op vs)
right_arrays ds op ts vs ty h s e =
    let t = typed_parts (judged op (elements_of ts)) (breaks_ranks (ranks_of op) (map length (dims_of ts))) (dims_of_result (ranks_of op) (dims_of ts)) ty e in
    let p = all_plain op (elements_of ts) t.element t.judgement in
    let r = right_ranks ds op (ranks_of op) ts vs t.element t.dims refl t.judgement t.ranks t.shape p h s in
    let j : judged op (map element_at_run vs) ≡ Element t.element = ap (judged op) (elements_are ds ts vs p h) ∙ unmeasured_judged op (elements_of ts) t.element t.judgement r.0 in
    let b : breaks_ranks (ranks_of op) (map rank_of vs) ≡ false = ap (breaks_ranks (ranks_of op)) (ranks_are ds ts vs h) ∙ t.ranks in
    let under : under_type op vs (judged op (map element_at_run vs)) (breaks_ranks (ranks_of op) (map rank_of vs)) ≡ under_ranks (ranks_of op) op vs t.element = ap (λ (x : Judgement). under_type op vs x (breaks_ranks (ranks_of op) (map rank_of vs))) j ∙ ap (λ (x : Bool). if x then NoRule else under_ranks (ranks_of op) op vs t.element) b in
    subst (λ (x : Ty). IsRight ds x (on_arrays op vs)) (sym t.is) (subst (λ (o : Evaluation Value). IsRight ds (record { elem = t.element; dims = t.dims }) o) (sym under) r.1)

-- Right types: a value of the type, or a trap.
pub right : (ds : Definitions) (op : Op) (ts : List Ty) (vs : List Value) (ty : Ty) → AreValues ds ts vs → type_of op ts ≡ Ok ty → IsRight ds ty (operation_on op vs)
right ds op ts vs ty h e = by (scalars_of vs) refl
  where
    by : (o : Option (List Scalar)) → scalars_of vs ≡ o → IsRight ds ty (on_values op vs o)
    by None s = right_arrays ds op ts vs ty h s e
    by (Some ss) s = right_scalars ds op ts ss ty (all_scalars ds ts vs ss h s) e

-- The types of values while the program runs.
elements_at_run : (vs : List Value) → elements_of (map type_at_run vs) ≡ map element_at_run vs
elements_at_run [] = refl
elements_at_run (v ∷ vs) = ap (λ (es : List Elem). element_at_run v ∷ es) (elements_at_run vs)

ranks_at_run : (vs : List Value) → map length (dims_of (map type_at_run vs)) ≡ map rank_of vs
ranks_at_run [] = refl
ranks_at_run (v ∷ vs) = ap (λ (n : ℕ). n ∷ map length (dims_of (map type_at_run vs))) (length-replicate (rank_of v) dim.Assumed) ∙ ap (λ (ns : List ℕ). rank_of v ∷ ns) (ranks_at_run vs)

no_dims_apart : (m n : ℕ) → extents_apart (replicate m dim.Assumed) (replicate n dim.Assumed) ≡ false
no_dims_apart zero n = refl
no_dims_apart (suc m) zero = refl
no_dims_apart (suc m) (suc n) = no_dims_apart m n

none_apart_from : (m : ℕ) (vs : List Value) → apart_from (replicate m dim.Assumed) (dims_of (map type_at_run vs)) ≡ false
none_apart_from m [] = refl
none_apart_from m (v ∷ vs) = ap (λ (t : Bool). t || apart_from (replicate m dim.Assumed) (dims_of (map type_at_run vs))) (no_dims_apart m (rank_of v)) ∙ none_apart_from m vs

none_apart : (vs : List Value) → some_apart (dims_of (map type_at_run vs)) ≡ false
none_apart [] = refl
none_apart (v ∷ vs) = ap (λ (t : Bool). t || some_apart (dims_of (map type_at_run vs))) (none_apart_from (rank_of v) vs) ∙ none_apart vs

scalars_suit : (vs : List Value) (ss : List Scalar) → scalars_of vs ≡ Some ss → AllSuit (map element_at_run vs) ss × (some_array (map rank_of vs) ≡ false)
scalars_suit [] ss e = let same : [] ≡ ss = cc in subst (λ (x : List Scalar). AllSuit [] x × (false ≡ false)) same (tt, refl)
scalars_suit (Single s ∷ vs) ss e = by (scalars_of vs) refl e (λ rest f. scalars_suit vs rest f)
  where
    suits : (s : Scalar) → Suits (element_at_run (Single s)) s
    suits (Integer k z) = refl
    suits (Logical p) = tt
    suits (Characters b) = tt

    by : (o : Option (List Scalar)) → scalars_of vs ≡ o → option_map (λ rest. s ∷ rest) o ≡ Some ss → ((rest : List Scalar) → scalars_of vs ≡ Some rest → AllSuit (map element_at_run vs) rest × (some_array (map rank_of vs) ≡ false)) → AllSuit (map element_at_run (Single s ∷ vs)) ss × (some_array (map rank_of (Single s ∷ vs)) ≡ false)
    by None f g later = cc
    by (Some rest) f g later =
        let same : s ∷ rest ≡ ss = cc in
        let h = later rest f in
        subst (λ (x : List Scalar). AllSuit (map element_at_run (Single s ∷ vs)) x × (some_array (map rank_of (Single s ∷ vs)) ≡ false)) same ((suits s, h.0), h.1)
scalars_suit (Array element extents elements ∷ vs) ss e = cc
scalars_suit (Record cs ∷ vs) ss e = cc

unanswered : (j : Judgement) (o : Evaluation Scalar) → Answers j o → ((x : Elem) → j ≡ Element x → ⊥) → IsWrong (single o)
unanswered (Element x) o a h = absurd (h x refl)
unanswered NoType (Gives s) a h = absurd a
unanswered NoType (Traps trap) a h = absurd a
unanswered NoType NoRule a h = tt
unanswered (Misused rule) (Gives s) a h = absurd a
unanswered (Misused rule) (Traps trap) a h = a
unanswered (Misused rule) NoRule a h = tt

unlike_none : (m n : ℕ) → (n == 0) ≡ true → ranks_apart m n ≡ false
unlike_none m n e = ap (λ (t : Bool). not (m == 0) && (not t && not (m == n))) e ∙ by (not (m == 0))
  where
    by : (t : Bool) → (t && false) ≡ false
    by true = refl
    by false = refl

scalars_conform : (ns : List ℕ) (m : ℕ) → some_array ns ≡ false → some_ranks_apart m ns ≡ false
scalars_conform [] m e = refl
scalars_conform (n ∷ ns) m e = by (n == 0) refl e (λ f. scalars_conform ns (max m n) f)
  where
    by : (t : Bool) → (n == 0) ≡ t → (not t || some_array ns) ≡ false → (some_array ns ≡ false → some_ranks_apart (max m n) ns ≡ false) → (ranks_apart m n || some_ranks_apart (max m n) ns) ≡ false
    by true p f later = ap (λ (u : Bool). u || some_ranks_apart (max m n) ns) (unlike_none m n p) ∙ later f
    by false p f later = cc

ranks_kept : (r : Ranks) (ns : List ℕ) → some_array ns ≡ false → breaks_ranks r ns ≡ false
ranks_kept Elementwise ns e = scalars_conform ns 0 e
ranks_kept Scalars ns e = e
ranks_kept OneArray ns e = refl

-- A type at run that there is not.
not_typed : (j : Judgement) (broken : Bool) (r : Ranks) (all : List (List Dim)) (rule : Rule) → some_apart all ≡ false → least_rule j broken (dims_of_result r all) ≡ Err rule → (x : Elem) → j ≡ Element x → (broken ≡ false) → (r ≡ OneArray) × (some_array (map length all) ≡ false)
not_typed NoType broken r all rule a e x f b = cc
not_typed (Misused other) broken r all rule a e x f b = cc
not_typed (Element y) true r all rule a e x f b = cc
not_typed (Element y) false Elementwise all rule a e x f b =
    let g : typed y (if false then Err E412 else Ok (joined_with [] all)) ≡ Err rule = ap (λ (t : Bool). typed y (if t then Err E412 else Ok (joined_with [] all))) (sym a) ∙ e in cc
not_typed (Element y) false Scalars all rule a e x f b = cc
not_typed (Element y) false OneArray all rule a e x f b = by (some_array (map length all)) refl e
  where
    by : (t : Bool) → some_array (map length all) ≡ t → typed y (if t then Ok [] else Err E406) ≡ Err rule → (OneArray ≡ OneArray) × (some_array (map length all) ≡ false)
    by true p g = cc
    by false p g = (refl, p)

one_array_or_not : (r : Ranks) → (r ≡ OneArray) ⊎ (r ≡ OneArray → ⊥)
one_array_or_not Elementwise = inr (λ h. cc)
one_array_or_not Scalars = inr (λ h. cc)
one_array_or_not OneArray = inl refl

wrong_scalars : (op : Op) (vs : List Value) (ss : List Scalar) (rule : Rule) → scalars_of vs ≡ Some ss → type_of op (map type_at_run vs) ≡ Err rule → IsWrong (single (operation op ss))
wrong_scalars op vs ss rule s e = by (one_array_or_not (ranks_of op))
  where
    by : (ranks_of op ≡ OneArray) ⊎ (ranks_of op ≡ OneArray → ⊥) → IsWrong (single (operation op ss))
    by (inl r) = subst (λ (o : Evaluation Scalar). IsWrong (single o)) (sym (no_reduction op ss r)) tt
    by (inr r) =
        let h = scalars_suit vs ss s in
        let j = elements_at_run vs in
        let ranks = ranks_kept (ranks_of op) (map length (dims_of (map type_at_run vs))) (ap some_array (ranks_at_run vs) ∙ h.1) in
        unanswered (judged op (map element_at_run vs)) (operation op ss) (answers op (map element_at_run vs) ss h.0 r)
        (λ x f. r (not_typed (judged op (elements_of (map type_at_run vs))) (breaks_ranks (ranks_of op) (map length (dims_of (map type_at_run vs)))) (ranks_of op) (dims_of (map type_at_run vs)) rule (none_apart vs) e x (ap (judged op) j ∙ f) ranks).0)

extents_there : (ds : List Dim) (ns : List ℕ) → is_array ds ns ≡ true → not (length ns == 0) ≡ true
extents_there [] ns h = cc
extents_there (d ∷ ds) [] h = cc
extents_there (d ∷ ds) (n ∷ ns) h = by (length (n ∷ ns) == 0) refl
  where
    by : (t : Bool) → (length (n ∷ ns) == 0) ≡ t → not t ≡ true
    by true e = let f : suc (length ns) ≡ 0 = grind (arith, nat_tests) in absurd (omega arith)
    by false e = refl

or_true : (t : Bool) → (t || true) ≡ true
or_true true = refl
or_true false = refl

array_at_run : (ds : Definitions) (ts : List Ty) (vs : List Value) → AreValues ds ts vs → AllPlain (map element_at_run vs) → scalars_of vs ≡ None → some_array (map rank_of vs) ≡ true
array_at_run ds [] [] h p e = cc
array_at_run ds [] (v ∷ vs) h p e = absurd h
array_at_run ds (t ∷ ts) [] h p e = absurd h
array_at_run ds (t ∷ ts) (Single s ∷ vs) h p e = by (scalars_of vs) refl e (λ f. array_at_run ds ts vs h.1 p.1 f)
  where
    by : (o : Option (List Scalar)) → scalars_of vs ≡ o → option_map (λ rest. s ∷ rest) o ≡ None → (scalars_of vs ≡ None → some_array (map rank_of vs) ≡ true) → some_array (map rank_of (Single s ∷ vs)) ≡ true
    by None f g later = later f
    by (Some rest) f g later = cc
array_at_run ds (t ∷ ts) (Array element extents elements ∷ vs) h p e =
    ap (λ (u : Bool). u || some_array (map rank_of vs)) (extents_there t.dims extents (array_of ds t element extents elements h.0).array)
array_at_run ds (t ∷ ts) (Record cs ∷ vs) h p e = absurd p.0

wrong_arrays : (ds : Definitions) (op : Op) (ts : List Ty) (vs : List Value) (rule : Rule) → AreValues ds ts vs → scalars_of vs ≡ None → type_of op (map type_at_run vs) ≡ Err rule → IsWrong (on_arrays op vs)
wrong_arrays ds op ts vs rule h s e = by (judged op (map element_at_run vs)) (breaks_ranks (ranks_of op) (map rank_of vs)) refl refl
  where
    by : (j : Judgement) (b : Bool) → judged op (map element_at_run vs) ≡ j → breaks_ranks (ranks_of op) (map rank_of vs) ≡ b → IsWrong (under_type op vs j b)
    by NoType b p q = tt
    by (Misused other) b p q = tt
    by (Element x) true p q = tt
    by (Element x) false p q =
        let n = not_typed (judged op (elements_of (map type_at_run vs))) (breaks_ranks (ranks_of op) (map length (dims_of (map type_at_run vs)))) (ranks_of op) (dims_of (map type_at_run vs)) rule (none_apart vs) e x (ap (judged op) (elements_at_run vs) ∙ p) (ap (breaks_ranks (ranks_of op)) (ranks_at_run vs) ∙ q) in
        let some = array_at_run ds ts vs h (all_plain op (map element_at_run vs) x p) s in
        let g : true ≡ false = sym some ∙ (ap some_array (sym (ranks_at_run vs)) ∙ n.1) in
        cc

-- Wrong types: no value.
pub wrong : (ds : Definitions) (op : Op) (ts : List Ty) (vs : List Value) (rule : Rule) → AreValues ds ts vs → type_of op (map type_at_run vs) ≡ Err rule → IsWrong (operation_on op vs)
wrong ds op ts vs rule h e = by (scalars_of vs) refl
  where
    by : (o : Option (List Scalar)) → scalars_of vs ≡ o → IsWrong (on_values op vs o)
    by None s = wrong_arrays ds op ts vs rule h s e
    by (Some ss) s = wrong_scalars op vs ss rule s e
