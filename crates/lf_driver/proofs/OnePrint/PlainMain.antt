-- Nothing jumps in the functions of the printed C.
use Rattle.std.proofs.Common.{◌≡◌, ℕ, ◌+◌, true, ◌&&◌, List, [], ◌∷◌, ◌++◌, codes, ap, ◌∙◌}
use Rattle.std.specs.List.{AllByRecursion, list_all}
use Rattle.std.proofs.lemmas.List.Folds.{list_all-append}
use Rattle.lf_base.specs.Outcome.{Location}
use Rattle.c_nodes.specs.declared.tree.CType.TheVariants.{Int64}
use Rattle.c_nodes.specs.declared.tree.CExpr.{CExpr}
use Rattle.c_nodes.specs.declared.tree.CExpr.TheVariants.{Variable, Constant, Address, Literal as Text}
use Rattle.c_nodes.specs.declared.tree.CStmt.{CStmt}
use Rattle.c_nodes.specs.declared.tree.CStmt.TheVariants.{Assign, Return}
use Rattle.c_nodes.specs.Grammar.{has_last_labels}
use Rattle.c_semantics.specs.Program.{has_right_jumps}
use Rattle.c_prelude.specs.Prelude.{prelude_items}
use Rattle.c_prelude.proofs.PreludeLinked.{prelude_jumps}
use Rattle.c_nodes.proofs.GrammarShapes.{mark_of-Assign}
use Rattle.c_semantics.proofs.JumpShapes.{jumps-Assign, labels-Assign}
use Rattle.c_semantics.proofs.PlainBodies.{Plain, plain_value, plain_call_value, plain_call, plain_return, plain_return_value, plain_block, plain_last, plain_jumps}
use Rattle.lf_driver.specs.OnePrint.Source.{Tree, Literal, Binary, Source}
use Rattle.lf_driver.specs.OnePrint.Lowered.{temporary, temporary_value, helper, computed, fitted, noted, count, lowered, printing_begins, printing_ends, printed, init_name, main_body, main_with, lowered_items, lowered_file}

plain_assign : (target value : CExpr) → Plain (Assign target value)
plain_assign target value = record { mark = mark_of-Assign target value; lead = λ outer. ap (λ j. j.lead outer) (jumps-Assign target value); labels = labels-Assign target value }

append_plain : (xs ys : List CStmt) → AllByRecursion Plain xs → AllByRecursion Plain ys → AllByRecursion Plain (xs ++ ys)
append_plain [] ys h k = k
append_plain (x ∷ xs) ys h k = (h.0, append_plain xs ys h.1 k)

noted_plain : (location : Location) (rest : List CStmt) → AllByRecursion Plain rest → AllByRecursion Plain (noted location ++ rest)
noted_plain location rest h = (plain_assign (Variable (codes "lf_name")) (Text location.source), (plain_assign (Variable (codes "lf_line")) (Constant location.line), h))

lowered_plain : (location : Location) (t : Tree) (behind : ℕ) → AllByRecursion Plain (lowered location t behind)
lowered_plain location (Literal v) behind = (plain_value Int64 (temporary (behind + 1)) (Constant v), tt)
lowered_plain location (Binary operator l r) behind =
    let m : ℕ = behind + count l in
    let k : ℕ = m + count r in
    append_plain (lowered location l behind) _ (lowered_plain location l behind)
    (append_plain (lowered location r m) _ (lowered_plain location r m)
    (noted_plain location (computed operator m k (k + 1) ∷ noted location ++ fitted (k + 1) (k + 2) ∷ [])
    (plain_call_value Int64 (temporary (k + 1)) (helper operator) (temporary_value m ∷ temporary_value k ∷ []), noted_plain location (fitted (k + 1) (k + 2) ∷ []) (plain_call_value Int64 (temporary (k + 2)) (codes "lf_fit") (temporary_value (k + 1) ∷ []), tt))))

printed_plain : (location : Location) (t : Tree) → AllByRecursion Plain (printed location t)
printed_plain location t =
    append_plain (printing_begins ++ lowered location t 0) (printing_ends (count t))
    (append_plain printing_begins (lowered location t 0) (plain_value Int64 (codes "r1") (Constant 0), (plain_call (codes "putchar") (Constant 32 ∷ []), tt)) (lowered_plain location t 0))
    (plain_call (codes "lf_gap") (Address (Variable (codes "r1")) ∷ Constant 1 ∷ []), (plain_call (codes "lf_int") (temporary_value (count t) ∷ []), (plain_call (codes "putchar") (Constant 10 ∷ []), tt)))

main_plain : (location : Location) (source : Source) → AllByRecursion Plain (main_body location source)
main_plain location source = (plain_call (init_name source.name) [], (plain_block (printed location source.value) (printed_plain location source.value), (plain_return_value (Constant 0), tt)))

pub main_last : (location : Location) (source : Source) → has_last_labels (main_body location source) ≡ true
main_last location source = plain_last (main_body location source) (main_plain location source)

pub return_last : has_last_labels (Return ∷ []) ≡ true
return_last = plain_last (Return ∷ []) (plain_return, tt)

pub jumps_of : (location : Location) (source : Source) → list_all has_right_jumps (lowered_file location source).items ≡ true
jumps_of location source =
    list_all-append has_right_jumps prelude_items (lowered_items location source)
    ∙ ap (λ b. b && list_all has_right_jumps (lowered_items location source)) prelude_jumps
    ∙ ap (λ b. b && (has_right_jumps (main_with source.name (printed location source.value)) && true)) (plain_jumps (Return ∷ []) (plain_return, tt))
    ∙ ap (λ b. b && true) (plain_jumps (main_body location source) (main_plain location source))
