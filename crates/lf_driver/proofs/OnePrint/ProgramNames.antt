-- The name of a program's init function is no name of the prelude, of the library or of `main`.
use Rattle.std.proofs.Common.{◌≡◌, ℕ, ◌+◌, ◌%◌, ◌^◌, ◌<◌, ◌≤◌, true, false, List, [], ◌∷◌, ◌++◌, length, Some, codes, cond, refl, sym, ap, ◌∙◌, arith}
use Rattle.std.specs.Fmt.{decimal}
use Rattle.std.specs.Prelude.{nat_eq}
use Rattle.std.proofs.lemmas.Fmt.{decimal_by_steps, decimal_by_steps_wide}
use Rattle.std.proofs.lemmas.Bool.Decides.{nat_tests}
use Rattle.lf_base.specs.Outcome.{Location}
use Rattle.c_nodes.specs.declared.tree.CItem.{CItem}
use Rattle.c_nodes.specs.declared.tree.CResult.TheVariants as result
use Rattle.c_nodes.specs.declared.tree.CStmt.TheVariants.{Return}
use Rattle.c_semantics.specs.CMeaning.{Procedure, function_in}
use Rattle.c_prelude.specs.Prelude.{prelude_items}
use Rattle.lf_driver.specs.OnePrint.Source.{Source}
use Rattle.lf_driver.specs.OnePrint.Lowered.{init_name, lowered_items}
use Rattle.lf_driver.proofs.OnePrint.Temporaries.{Few, same_name}

-- a number begins with a digit
pub record Digited (ds : List ℕ) : Type 0 where
  pub first : ℕ
  pub rest : List ℕ
  pub is : ds ≡ first ∷ rest
  pub small : first ≤ 57

pub decimal_begins : (n : ℕ) → n < 2 ^ 64 → Digited (decimal n)
decimal_begins n h = decimal_by_steps (λ m ds. Digited ds) (λ m small. record { first = 48 + m; rest = []; is = refl; small = omega arith }) (λ m ds large d. record { first = d.first; rest = d.rest ++ (48 + m % 10) ∷ []; is = ap (λ l. l ++ (48 + m % 10) ∷ []) d.is; small = d.small }) n h

pub decimal_begins_wide : (n : ℕ) → Few n → Digited (decimal n)
decimal_begins_wide n h = decimal_by_steps_wide (λ m ds. Digited ds) (λ m small. record { first = 48 + m; rest = []; is = refl; small = omega arith }) (λ m ds large d. record { first = d.first; rest = d.rest ++ (48 + m % 10) ∷ []; is = ap (λ l. l ++ (48 + m % 10) ∷ []) d.is; small = d.small }) n h

pub no_digit : (l c : ℕ) → c ≤ 57 → 57 < l → nat_eq l c ≡ false
no_digit l c h k = grind (arith, nat_tests)

abbrev pub init_with : List ℕ → List ℕ → List ℕ
init_with digits name = (((codes "lf_" ++ digits) ++ codes "_") ++ name) ++ codes "_init"

skips : (c : ℕ) (ds name : List ℕ) (rest : List CItem) → c ≤ 57 → function_in (init_with (c ∷ ds) name) true 0 (prelude_items ++ rest) ≡ function_in (init_with (c ∷ ds) name) true 0 rest
skips c ds name rest h = simp (no_digit 97 c h (omega arith), no_digit 99 c h (omega arith), no_digit 100 c h (omega arith), no_digit 101 c h (omega arith), no_digit 102 c h (omega arith), no_digit 103 c h (omega arith), no_digit 105 c h (omega arith), no_digit 106 c h (omega arith), no_digit 109 c h (omega arith), no_digit 110 c h (omega arith), no_digit 111 c h (omega arith), no_digit 112 c h (omega arith), no_digit 114 c h (omega arith), no_digit 115 c h (omega arith), no_digit 116 c h (omega arith), no_digit 122 c h (omega arith)) refl

abbrev pub init_procedure : Procedure
init_procedure = record { file = 0; result = result.Void; parameters = []; body = Return ∷ [] }

pub init_found : (location : Location) (source : Source) → length source.name < 2 ^ 64 → function_in (init_name source.name) true 0 (prelude_items ++ lowered_items location source) ≡ Some init_procedure
init_found location source h =
    let d = decimal_begins (length source.name) h in
    let name : List ℕ = init_with (d.first ∷ d.rest) source.name in
    let is : init_name source.name ≡ name = ap (λ ds. init_with ds source.name) d.is in
    ap (λ l. function_in l true 0 (prelude_items ++ lowered_items location source)) is
    ∙ skips d.first d.rest source.name (lowered_items location source) d.small
    ∙ ap (λ l. function_in l true 0 (lowered_items location source)) (sym is)
    ∙ ap (λ b. cond b (Some init_procedure) (function_in (init_name source.name) true 0 [])) (same_name (init_name source.name))
