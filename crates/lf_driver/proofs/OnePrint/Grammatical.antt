-- The printed C is a file of the profile: its names are identifiers and no words, and its statements and items are in
-- the grammar.
use Rattle.std.proofs.Common.{◌≡◌, ℕ, ◌+◌, ◌%◌, ◌^◌, ◌<◌, ◌≤◌, Bool, true, false, List, [], ◌∷◌, ◌++◌, length, map, codes, refl, ap, ◌∙◌, arith}
use Rattle.std.specs.Prelude.{◌&&◌, not, nat_lt}
use Rattle.std.specs.Fmt.{decimal}
use Rattle.std.specs.List.{AllByRecursion, list_all}
use Rattle.std.specs.Str.{bytes_eq}
use Rattle.std.proofs.lemmas.Bool.Decides.{nat_tests}
use Rattle.std.proofs.lemmas.Fmt.{decimal_by_steps_wide}
use Rattle.std.proofs.lemmas.List.Folds.{list_all-append, list_all-map}
use Rattle.lf_base.specs.Outcome.{Location}
use Rattle.c_nodes.specs.declared.tree.CExpr.TheVariants.{Variable, Constant, Literal as Text}
use Rattle.c_nodes.specs.declared.tree.CItem.TheVariants.{Prototype, Function}
use Rattle.c_nodes.specs.declared.tree.CResult.TheVariants.{Void, Int}
use Rattle.c_nodes.specs.declared.tree.CStmt.{CStmt}
use Rattle.c_nodes.specs.declared.tree.CStmt.TheVariants.{Assign, Call, Return, ReturnValue, Block}
use Rattle.c_nodes.specs.Grammar.{is_name, is_word, is_stmt, is_item, is_block, has_last_labels}
use Rattle.c_prelude.specs.PreludeFile.{IsGrammatical}
use Rattle.c_nodes.proofs.GrammarShapes.{standings}
use Rattle.c_prelude.proofs.PreludeTexts.{grammatical_with}
use Rattle.lf_driver.specs.declared.one_print.built.Operator.{Operator}
use Rattle.lf_driver.specs.declared.one_print.built.Operator.TheVariants.{Add, Subtract, Multiply}
use Rattle.lf_driver.specs.OnePrint.Built.{is_name_byte}
use Rattle.lf_driver.specs.OnePrint.Fortran.{IsSmall}
use Rattle.lf_driver.specs.OnePrint.Lowered.{temporary, constant, computed, fitted, noted, operation, count, lowered, printing_begins, printing_ends, printed, init_name, main_body, lowered_items, lowered_file}
use Rattle.lf_driver.specs.OnePrint.Source.{Tree, Literal, Binary, Source, IsLocation}
use Rattle.lf_driver.proofs.OnePrint.PlainMain.{main_last, return_last}
use Rattle.lf_driver.proofs.OnePrint.Temporaries.{Few}

digit_goes_on : (d : ℕ) → d < 10 → is_name_byte (48 + d) ≡ true
digit_goes_on d h = grind (arith, nat_tests)

both : (p q : Bool) → p && q ≡ true → (p ≡ true) × (q ≡ true)
both true q h = (refl, h)
both false q h = absurd (cc)

and_true : (p q : Bool) → p ≡ true → q ≡ true → p && q ≡ true
and_true p q h k = ap (λ b. b && q) h ∙ k

append_goes_on : (xs ys : List ℕ) → list_all is_name_byte xs ≡ true → list_all is_name_byte ys ≡ true → list_all is_name_byte (xs ++ ys) ≡ true
append_goes_on xs ys h k = list_all-append is_name_byte xs ys ∙ and_true (list_all is_name_byte xs) (list_all is_name_byte ys) h k

decimal_goes_on : (n : ℕ) → Few n → list_all is_name_byte (decimal n) ≡ true
decimal_goes_on n few =
    decimal_by_steps_wide (λ m ds. list_all is_name_byte ds ≡ true) (λ m small. and_true (is_name_byte (48 + m)) true (digit_goes_on m (omega arith)) refl) (λ m ds large d. append_goes_on ds ((48 + m % 10) ∷ []) d (and_true (is_name_byte (48 + m % 10)) true (digit_goes_on (m % 10) (omega arith)) refl)) n few

temporary_named : (k : ℕ) → Few k → is_name (temporary k) ≡ true
temporary_named k few = ap (λ b. b && not (is_word (temporary k))) (decimal_goes_on k few)

init_named : (name : List ℕ) → length name < 2 ^ 64 → list_all is_name_byte name ≡ true → is_name (init_name name) ≡ true
init_named name short h =
    let digits = decimal (length name) in
    let number = append_goes_on digits (codes "_") (decimal_goes_on (length name) (omega arith)) refl in
    let named = append_goes_on (digits ++ codes "_") name number h in
    ap (λ b. b && not (is_word (init_name name))) (append_goes_on ((digits ++ codes "_") ++ name) (codes "_init") named refl)

constant_right : (k v : ℕ) → Few k → v ≤ 2147483647 → is_stmt (constant k v) ≡ true
constant_right k v few small =
    let named = temporary_named k few in
    let fits : nat_lt v (2 ^ 63) ≡ true = grind (arith, nat_tests) in
    simp (standings, named, fits) refl

computed_right : (o : Operator) (l r k : ℕ) → Few l → Few r → Few k → is_stmt (computed o l r k) ≡ true
computed_right Add l r k fl fr fk = let a = temporary_named l fl in let b = temporary_named r fr in let c = temporary_named k fk in simp (standings, a, b, c) refl
computed_right Subtract l r k fl fr fk = let a = temporary_named l fl in let b = temporary_named r fr in let c = temporary_named k fk in simp (standings, a, b, c) refl
computed_right Multiply l r k fl fr fk = let a = temporary_named l fl in let b = temporary_named r fr in let c = temporary_named k fk in simp (standings, a, b, c) refl

fitted_right : (l k : ℕ) → Few l → Few k → is_stmt (fitted l k) ≡ true
fitted_right l k fl fk = let a = temporary_named l fl in let c = temporary_named k fk in simp (standings, a, c) refl

right_append : (xs ys : List CStmt) → list_all is_stmt xs ≡ true → list_all is_stmt ys ≡ true → list_all is_stmt (xs ++ ys) ≡ true
right_append xs ys h k = list_all-append is_stmt xs ys ∙ and_true (list_all is_stmt xs) (list_all is_stmt ys) h k

all_bytes : (bytes : List ℕ) → AllByRecursion (λ b. b < 256) bytes → list_all (λ byte. nat_lt byte 256) bytes ≡ true
all_bytes [] h = refl
all_bytes (b ∷ bytes) h = let small = h.0 in let t : nat_lt b 256 ≡ true = grind (arith, nat_tests) in and_true (nat_lt b 256) (list_all (λ byte. nat_lt byte 256) bytes) t (all_bytes bytes h.1)

name_right : (location : Location) → IsLocation location → is_stmt (Assign (Variable (codes "lf_name")) (Text location.source)) ≡ true
name_right location is = let bytes = all_bytes location.source is.bytes in simp (standings, bytes) refl

line_right : (location : Location) → IsLocation location → is_stmt (Assign (Variable (codes "lf_line")) (Constant location.line)) ≡ true
line_right location is =
    let small = is.small in
    let fits : nat_lt location.line (2 ^ 63) ≡ true = grind (arith, nat_tests) in
    simp (standings, fits) refl

noted_right : (location : Location) (rest : List CStmt) → IsLocation location → list_all is_stmt rest ≡ true → list_all is_stmt (noted location ++ rest) ≡ true
noted_right location rest is h =
    and_true (is_stmt (Assign (Variable (codes "lf_name")) (Text location.source))) (list_all is_stmt (Assign (Variable (codes "lf_line")) (Constant location.line) ∷ rest)) (name_right location is)
    (and_true (is_stmt (Assign (Variable (codes "lf_line")) (Constant location.line))) (list_all is_stmt rest) (line_right location is) h)

operation_right : (location : Location) → IsLocation location → (o : Operator) (l r k : ℕ) → Few l → Few r → Few (k + 2) → list_all is_stmt (operation location o l r k) ≡ true
operation_right location is o l r k fl fr fk =
    noted_right location (computed o l r (k + 1) ∷ noted location ++ fitted (k + 1) (k + 2) ∷ []) is
    (and_true (is_stmt (computed o l r (k + 1))) (list_all is_stmt (noted location ++ fitted (k + 1) (k + 2) ∷ [])) (computed_right o l r (k + 1) fl fr (omega (arith, fk)))
    (noted_right location (fitted (k + 1) (k + 2) ∷ []) is (and_true (is_stmt (fitted (k + 1) (k + 2))) true (fitted_right (k + 1) (k + 2) (omega (arith, fk)) fk) refl)))

lowered_right : (location : Location) → IsLocation location → (t : Tree) (behind : ℕ) → IsSmall t → behind + count t < 2 ^ 71 → list_all is_stmt (lowered location t behind) ≡ true
lowered_right location is (Literal v) behind small few = and_true (is_stmt (constant (behind + 1) v)) true (constant_right (behind + 1) v (omega (arith, few)) small) refl
lowered_right location is (Binary o l r) behind small few =
    let m : ℕ = behind + count l in
    let k : ℕ = m + count r in
    right_append (lowered location l behind) (lowered location r m ++ operation location o m k k) (lowered_right location is l behind small.0 (omega (arith, few))) (right_append (lowered location r m) (operation location o m k k) (lowered_right location is r m small.1 (omega (arith, few))) (operation_right location is o m k k (omega (arith, few)) (omega (arith, few)) (omega (arith, few))))

begins_right : list_all is_stmt printing_begins ≡ true
begins_right = simp standings refl

ends_right : (k : ℕ) → Few k → list_all is_stmt (printing_ends k) ≡ true
ends_right k few = let a = temporary_named k few in simp (standings, a) refl

printed_right : (location : Location) → IsLocation location → (t : Tree) → IsSmall t → count t < 2 ^ 70 → list_all is_stmt (printed location t) ≡ true
printed_right location is t small few = right_append (printing_begins ++ lowered location t 0) (printing_ends (count t)) (right_append printing_begins (lowered location t 0) begins_right (lowered_right location is t 0 small (omega (arith, few)))) (ends_right (count t) (omega (arith, few)))

body_right : (name : List ℕ) (body : List CStmt) → is_name name ≡ true → is_block (map is_stmt body) ≡ true → list_all is_stmt (Call name [] ∷ Block body ∷ ReturnValue (Constant 0) ∷ []) ≡ true
body_right name body named right = simp (standings, named, right) refl

main_right : (location : Location) (source : Source) → is_name (init_name source.name) ≡ true → list_all is_stmt (printed location source.value) ≡ true → list_all is_stmt (main_body location source) ≡ true
main_right location source named right = body_right (init_name source.name) (printed location source.value) named (list_all-map (λ b. b) is_stmt (printed location source.value) ∙ right)

three_right : (name : List ℕ) (body : List CStmt) → is_name name ≡ true → not (bytes_eq name (codes "main")) ≡ true → list_all is_stmt body ≡ true → has_last_labels body ≡ true → list_all is_item (Prototype Void name [] ∷ Function false Void name [] (Return ∷ []) ∷ Function false Int (codes "main") [] body ∷ []) ≡ true
three_right name body named other right last = simp (standings, named, other, right, last, return_last) refl

items_right : (location : Location) → IsLocation location → (source : Source) → IsSmall source.value → count source.value < 2 ^ 70 → length source.name < 2 ^ 64 → list_all is_name_byte source.name ≡ true → list_all is_item (lowered_items location source) ≡ true
items_right location is source small few short letters =
    let named = init_named source.name short letters in
    three_right (init_name source.name) (main_body location source) named refl (main_right location source named (printed_right location is source.value small few)) (main_last location source)

pub grammatical : (location : Location) → IsLocation location → (source : Source) → IsSmall source.value → count source.value < 2 ^ 70 → length source.name < 2 ^ 64 → list_all is_name_byte source.name ≡ true → IsGrammatical (lowered_file location source)
grammatical location is source small few short letters = grammatical_with (lowered_items location source) (items_right location is source small few short letters) refl
