-- The text of a part is shorter than the text of the node or list in which it stands.
use Rattle.std.proofs.Common.{◌≡◌, ℕ, zero, suc, ◌+◌, ◌<◌, ◌≤◌, List, [], ◌∷◌, ◌++◌, codes, map, length, get_or, slice_get, Some, refl, sym, ap, ◌∙◌, arith, length-append}
use Rattle.lf_base.specs.Contents.{joined}
use Rattle.ast_nodes.specs.Node.{opened, behind_blank, behind_blanks, led, listed}
use Rattle.ast_nodes.proofs.Chains.{joined_first}

pub first_longer : (x : List ℕ) (xs : List (List ℕ)) → length (joined (x ∷ xs)) ≡ length x + length (joined xs)
unfolding joined
first_longer x xs = length-append x (joined xs)

both_longer : (xs ys : List (List ℕ)) → length (joined (xs ++ ys)) ≡ length (joined xs) + length (joined ys)
both_longer xs ys = sym (ap length (joined_first xs ys)) ∙ first_longer (joined xs) ys

pub blank_longer : (text : List ℕ) → length (behind_blank text) ≡ length text + 1
unfolding joined
blank_longer text = let e = length-append text [] in omega arith

opened_long : (tag : List ℕ) → 1 ≤ length (opened tag)
unfolding joined
opened_long tag = omega arith

closed_long : length (joined (codes ")" ∷ [])) ≡ 1
unfolding joined
closed_long = refl

pub link_longer : (tag fields : List ℕ) → length fields + 1 ≤ length (joined (opened tag ∷ fields ∷ codes " [" ∷ []))
link_longer tag fields =
    let a = first_longer (opened tag) (fields ∷ codes " [" ∷ []) in
    let b = first_longer fields (codes " [" ∷ []) in
    let c = opened_long tag in
    omega arith

pub part_shorter : {X : Type 0} (f : X → List ℕ) (xs : List X) (i : ℕ) (d : X) → i < length xs → length (f (get_or xs i d)) ≤ length (joined (map f xs))
part_shorter f [] i d l = absurd (omega arith)
part_shorter f (x ∷ xs) zero d l = let e = first_longer (f x) (map f xs) in omega arith
part_shorter f (x ∷ xs) (suc i) d l = let e = first_longer (f x) (map f xs) in let k = part_shorter f xs i d (omega arith) in omega arith

pub fields_shorter : (tag : List ℕ) (texts : List (List ℕ)) → length (joined texts) + 2 ≤ length (joined (opened tag ∷ texts ++ (codes ")" ∷ [])))
fields_shorter tag texts =
    let a = first_longer (opened tag) (texts ++ (codes ")" ∷ [])) in
    let b = both_longer texts (codes ")" ∷ []) in
    let c = opened_long tag in
    let d = closed_long in
    omega arith

some_same : {A : Type 0} (x y : A) → Some x ≡ Some y → x ≡ y
some_same x y e = cc

blanks_item : (texts : List (List ℕ)) (i : ℕ) (t : List ℕ) → slice_get texts i ≡ Some t → length t ≤ length (joined (behind_blanks texts))
blanks_item [] i t e = absurd (cc)
blanks_item (x ∷ xs) zero t e =
    let a = first_longer (behind_blank x) (behind_blanks xs) in
    let b = blank_longer x in
    let s = ap length (some_same x t e) in
    omega arith
blanks_item (x ∷ xs) (suc i) t e =
    let a = first_longer (behind_blank x) (behind_blanks xs) in
    let k = blanks_item xs i t e in
    omega arith

led_first : (x : List ℕ) → length (joined ([] ∷ x ∷ [])) ≡ length x
unfolding joined
led_first x = let e = length-append x [] in omega arith

led_item : (texts : List (List ℕ)) (i : ℕ) (t : List ℕ) → slice_get texts i ≡ Some t → length t ≤ length (joined (led [] texts))
led_item [] i t e = absurd (cc)
led_item (x ∷ xs) zero t e =
    let a = first_longer (joined ([] ∷ x ∷ [])) (behind_blanks xs) in
    let b = led_first x in
    let s = ap length (some_same x t e) in
    omega arith
led_item (x ∷ xs) (suc i) t e =
    let a = first_longer (joined ([] ∷ x ∷ [])) (behind_blanks xs) in
    let k = blanks_item xs i t e in
    omega arith

open_bracket : length (codes "[") ≡ 1
open_bracket = refl

pub item_shorter : (texts : List (List ℕ)) (i : ℕ) (t : List ℕ) → slice_get texts i ≡ Some t → length t + 1 ≤ length (listed texts)
item_shorter texts i t e =
    let a = first_longer (codes "[") (led [] texts ++ (codes "]" ∷ [])) in
    let b = both_longer (led [] texts) (codes "]" ∷ []) in
    let c = open_bracket in
    let k = led_item texts i t e in
    omega arith
