-- The ends of loops over two lists of dimensions, and the dimensions of an operation on two operands.
use Rattle.std.proofs.Common.{◌≡◌, ℕ, suc, ◌<◌, max, refl, sym, ap, ◌∙◌, arith, Bool, true, false, not, ◌&&◌, ◌||◌, if◌then◌else◌, List, [], ◌∷◌, ◌++◌, length, map, ◌==◌, append-nil, Option, Some, None}
use Rattle.std.specs.Prelude.{Result, Ok, Err}
use Rattle.std.specs.Result.{IsErrAnd}
use Rattle.type_rules.specs.declared.constant.TypeFault.{TypeFault}
use Rattle.type_rules.specs.declared.constant.TypeFault.TheVariants.{Rule as Broken, Memory}
use Rattle.lf_base.specs.declared.rule.Rule.TheVariants.{E404, E412}
use Rattle.lf_base.specs.declared.operator.Operator.{Operator}
use Rattle.lf_base.specs.Operators.{operator_of}
use Rattle.type_rules.specs.declared.ty.Ty.{Ty}
use Rattle.type_rules.specs.declared.ty.Elem.{Elem}
use Rattle.type_rules.specs.declared.ty.Dim.{Dim}
use Rattle.type_rules.specs.declared.ty.Dim.TheVariants.{Fixed, Assumed}
use Rattle.type_rules.specs.declared.constant.Op.TheVariants.{Binary}
use Rattle.type_rules.specs.Equality.{identical_dims}
use Rattle.type_rules.specs.Types.{joined_dims, joined_dim, from_one, extents_apart, conformed, scalars, dims_under, is_concatenation, typed, with_element, element_of, result_type, TakesMemory, GivesDims}
use Rattle.type_rules.specs.Typing.{ranks_apart, some_ranks_apart, some_array, some_apart, joined, joined_with, dims_of_result, breaks_ranks, element_or_none, least_rule, type_of}
use Rattle.type_rules.specs.declared.signature.Ranks.TheVariants.{Elementwise, Scalars}

pub joined_end : (all xs others whole : List Dim) → length others < 1 → all ++ joined_dims xs others ≡ whole → whole ≡ all
joined_end all [] [] whole h e = sym e ∙ append-nil all
joined_end all (x ∷ xs) [] whole h e = sym e ∙ append-nil all
joined_end all xs (o ∷ os) whole h e = absurd (omega arith)

pub apart_end : (xs others : List Dim) (whole : Bool) → length others < 1 → extents_apart xs others ≡ whole → false ≡ whole
apart_end [] [] whole h e = e
apart_end (x ∷ xs) [] whole h e = e
apart_end xs (o ∷ os) whole h e = absurd (omega arith)

pub identical_end : (xs others : List Dim) (whole : Bool) → 0 < length xs → length others < 1 → identical_dims xs others ≡ whole → false ≡ whole
identical_end [] others whole some h e = absurd (omega arith)
identical_end (x ∷ xs) [] whole some h e = e
identical_end (x ∷ xs) (o ∷ os) whole some h e = absurd (omega arith)

-- What takes memory once takes it to the end.
joined_takes : (a b : List Dim) → TakesMemory (Ok a) → TakesMemory (Ok (joined a b))
joined_takes [] b h = absurd h
joined_takes (a ∷ xs) [] h = tt
joined_takes (a ∷ xs) (b ∷ ys) h = tt

pub joined_with_takes : (a : List Dim) (all : List (List Dim)) → TakesMemory (Ok a) → TakesMemory (Ok (joined_with a all))
joined_with_takes a [] h = h
joined_with_takes a (b ∷ bs) h = joined_with_takes (joined a b) bs (joined_takes a b h)

-- A `?` hands on why there are none.
pub handed_on : (r : Result (List Dim) TypeFault) (fault : TypeFault) (a : List Dim) (all : List (List Dim)) → IsErrAnd r (λ e. e ≡ fault) → GivesDims (Err fault) (Ok a) → GivesDims r (Ok (joined_with a all))
handed_on (Ok dims) fault a all same given = absurd same
handed_on (Err (Broken rule)) (Broken other) a all same given = cc
handed_on (Err (Broken rule)) Memory a all same given = cc
handed_on (Err Memory) (Broken other) a all same given = cc
handed_on (Err Memory) Memory a all same given = joined_with_takes a all given

-- The dimensions of an operation on two operands are those of any number.
from_one_once : (ds : List Dim) → map from_one (map from_one ds) ≡ map from_one ds
from_one_once [] = refl
from_one_once (Fixed lower n ∷ ds) = ap (λ xs. from_one (Fixed lower n) ∷ xs) (from_one_once ds)
from_one_once (Assumed ∷ ds) = ap (λ xs. Assumed ∷ xs) (from_one_once ds)

from_one_joined : (xs ys : List Dim) → joined_dims (map from_one xs) ys ≡ joined_dims xs ys
from_one_joined [] ys = refl
from_one_joined (Fixed lower n ∷ xs) [] = refl
from_one_joined (Assumed ∷ xs) [] = refl
from_one_joined (Fixed lower n ∷ xs) (y ∷ ys) = ap (λ zs. joined_dim (Fixed lower n) y ∷ zs) (from_one_joined xs ys)
from_one_joined (Assumed ∷ xs) (y ∷ ys) = ap (λ zs. joined_dim Assumed y ∷ zs) (from_one_joined xs ys)

nonzero : (n : ℕ) → (suc n == 0) ≡ false
nonzero n = by (suc n == 0) refl
  where
    by : (t : Bool) → (suc n == 0) ≡ t → t ≡ false
    by true e = absurd (grind arith)
    by false e = refl

or_false : (t : Bool) → (t || false) ≡ t
or_false true = refl
or_false false = refl

ranks_of_two : (m n : ℕ) → some_ranks_apart 0 (m ∷ n ∷ []) ≡ ranks_apart m n
ranks_of_two m n = or_false (ranks_apart (max 0 m) n) ∙ ap (λ k. ranks_apart k n) (let e : max 0 m ≡ m = omega arith in e)

apart_of_two : (a b : List Dim) → some_apart (a ∷ b ∷ []) ≡ extents_apart a b
apart_of_two a b = or_false (extents_apart a b || false) ∙ or_false (extents_apart a b)

shapes_alike : (e : Elem) (a b : List Dim) → typed e (conformed a b) ≡ (if ranks_apart (length a) (length b) then Err E404 else typed e (if extents_apart a b then Err E412 else Ok (joined (joined [] a) b)))
shapes_alike e [] b = refl
shapes_alike e (a ∷ xs) [] = ap (λ ds. typed e (Ok ds)) (sym (from_one_once (a ∷ xs))) ∙ by (not (length (a ∷ xs) == 0))
  where
    by : (t : Bool) → typed e (Ok (map from_one (map from_one (a ∷ xs)))) ≡ (if t && false then Err E404 else typed e (Ok (joined (joined [] (a ∷ xs)) [])))
    by true = refl
    by false = refl
shapes_alike e (a ∷ xs) (b ∷ ys) =
    by (length (a ∷ xs) == 0) (length (b ∷ ys) == 0) (length (a ∷ xs) == length (b ∷ ys)) (extents_apart (a ∷ xs) (b ∷ ys)) (joined_dims (a ∷ xs) (b ∷ ys)) (joined (joined [] (a ∷ xs)) (b ∷ ys)) (nonzero (length xs)) (nonzero (length ys)) (sym (from_one_joined (a ∷ xs) (b ∷ ys)))
  where
    by : (m0 n0 same apart : Bool) (x y : List Dim) → m0 ≡ false → n0 ≡ false → x ≡ y → typed e (if not same then Err E404 else if apart then Err E412 else Ok x) ≡ (if not m0 && (not n0 && not same) then Err E404 else typed e (if apart then Err E412 else Ok y))
    by true n0 same apart x y p q r = cc
    by false true same apart x y p q r = cc
    by false false true true x y p q r = refl
    by false false true false x y p q r = ap (λ ds. typed e (Ok ds)) r
    by false false false apart x y p q r = refl

scalars_alike : (e : Elem) (a b : List Dim) → typed e (scalars a b) ≡ (if some_array (length a ∷ length b ∷ []) then Err E404 else typed e (Ok []))
scalars_alike e [] [] = refl
scalars_alike e [] (b ∷ ys) = ap (λ t. if not t || false then Err E404 else typed e (Ok [])) (sym (nonzero (length ys)))
scalars_alike e (a ∷ xs) b = ap (λ t. if not t || some_array (length b ∷ []) then Err E404 else typed e (Ok [])) (sym (nonzero (length xs))) ∙ refl

under : (op : Operator) (e : Elem) (a b : List Dim) (t : Bool) → is_concatenation op ≡ t → typed e (dims_under op a b) ≡ (if breaks_ranks (if t then Scalars else Elementwise) (length a ∷ length b ∷ []) then Err E404 else typed e (dims_of_result (if t then Scalars else Elementwise) (a ∷ b ∷ [])))
under op e a b true p = ap (λ t. typed e (if t then scalars a b else conformed a b)) p ∙ scalars_alike e a b
under op e a b false p =
    ap (λ t. typed e (if t then scalars a b else conformed a b)) p ∙ shapes_alike e a b ∙ ap (λ t. if t then Err E404 else typed e (if extents_apart a b then Err E412 else Ok (joined (joined [] a) b))) (sym (ranks_of_two (length a) (length b))) ∙ ap (λ t. if some_ranks_apart 0 (length a ∷ length b ∷ []) then Err E404 else typed e (if t then Err E412 else Ok (joined (joined [] a) b))) (sym (apart_of_two a b))

of_operator : (op : Operator) (o : Option Elem) (a b : List Dim) → with_element o (dims_under op a b) ≡ least_rule (element_or_none o) (breaks_ranks (if is_concatenation op then Scalars else Elementwise) (length a ∷ length b ∷ [])) (dims_of_result (if is_concatenation op then Scalars else Elementwise) (a ∷ b ∷ []))
of_operator op None a b = refl
of_operator op (Some e) a b = by (is_concatenation op) refl
  where
    by : (t : Bool) → is_concatenation op ≡ t → typed e (dims_under op a b) ≡ (if breaks_ranks (if t then Scalars else Elementwise) (length a ∷ length b ∷ []) then Err E404 else typed e (dims_of_result (if t then Scalars else Elementwise) (a ∷ b ∷ [])))
    by t p = under op e a b t p

pub of_two : (code : ℕ) (a b : Ty) → result_type (Binary code) a b ≡ type_of (Binary code) (a ∷ b ∷ [])
of_two code a b = by (operator_of code) refl
  where
    by : (o : Option Operator) → operator_of code ≡ o → result_type (Binary code) a b ≡ type_of (Binary code) (a ∷ b ∷ [])
    by None p = rw p refl
    by (Some op) p = rw p (of_operator op (element_of op a.elem b.elem) a.dims b.dims)
