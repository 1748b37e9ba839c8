-- What the statements of the small body become.
use Rattle.std.proofs.Common.{◌≡◌, ℕ, [], ◌∷◌, pos, ◌∙◌}
use Rattle.asr_nodes.specs.Examples.{literal}
use Rattle.asr_nodes.specs.declared.tree.ExprTree.TheVariants as et
use Rattle.asr_nodes.specs.declared.tree.PrintItemTree.{PrintItemTree-F}
use Rattle.asr_nodes.specs.declared.tree.PrintItemTree.TheVariants as pit
use Rattle.asr_nodes.specs.declared.tree.StmtTree.{StmtTree-F}
use Rattle.asr_nodes.specs.declared.tree.StmtTree.TheVariants as st
use Rattle.asr_nodes.proofs.TreeFolds as folds
use Rattle.pass_array_op.specs.Drawing.{plain, in_turn}
use Rattle.pass_array_op.specs.Examples.{value, before, after}
use Rattle.pass_array_op.specs.Lowering.{print_layer, array_item_layer, expr_layer, print_item_layer, section_part_layer, stmt_layer, case_layer, lowered_expr, lowered_item, lowered_stmt, lowered_body}

literal_is : (n : ℕ) → lowered_expr (literal n) ≡ plain (literal n)
literal_is n = folds.fold_expr-IntConst _ _ _ _ _ _ array_item_layer expr_layer print_item_layer section_part_layer stmt_layer case_layer 4 (pos n)

value_is : (n : ℕ) → lowered_item (value n) ≡ print_item_layer (PrintItemTree-F.«PrintItemTree::Value» (plain (literal n)))
value_is n = folds.fold_print_item-Value _ _ _ _ _ _ array_item_layer expr_layer print_item_layer section_part_layer stmt_layer case_layer (literal n) ∙ (λ i. print_item_layer (PrintItemTree-F.«PrintItemTree::Value» (literal_is n i)))

first : lowered_stmt (st.Print 2 0 1 (value 5 ∷ value 6 ∷ [])) ≡ print_layer 2 0 1 (print_item_layer (PrintItemTree-F.«PrintItemTree::Value» (plain (literal 5))) ∷ print_item_layer (PrintItemTree-F.«PrintItemTree::Value» (plain (literal 6))) ∷ [])
first = folds.fold_stmt-Print _ _ _ _ _ _ array_item_layer expr_layer print_item_layer section_part_layer stmt_layer case_layer 2 0 1 (value 5 ∷ value 6 ∷ []) ∙ (λ i. print_layer 2 0 1 (value_is 5 i ∷ value_is 6 i ∷ []))

one_value : (line form n : ℕ) → lowered_stmt (st.Print line form 1 (value n ∷ [])) ≡ print_layer line form 1 (print_item_layer (PrintItemTree-F.«PrintItemTree::Value» (plain (literal n))) ∷ [])
one_value line form n = folds.fold_stmt-Print _ _ _ _ _ _ array_item_layer expr_layer print_item_layer section_part_layer stmt_layer case_layer line form 1 (value n ∷ []) ∙ (λ i. print_layer line form 1 (value_is n i ∷ []))

truth_is : lowered_expr (et.LogConst 1) ≡ plain (et.LogConst 1)
truth_is = folds.fold_expr-LogConst _ _ _ _ _ _ array_item_layer expr_layer print_item_layer section_part_layer stmt_layer case_layer 1

branch : lowered_stmt (st.If 3 (et.LogConst 1) (st.Print 4 0 1 (value 7 ∷ []) ∷ []) []) ≡ stmt_layer (StmtTree-F.If 3 (plain (et.LogConst 1)) (print_layer 4 0 1 (print_item_layer (PrintItemTree-F.«PrintItemTree::Value» (plain (literal 7))) ∷ []) ∷ []) [])
branch =
    folds.fold_stmt-If _ _ _ _ _ _ array_item_layer expr_layer print_item_layer section_part_layer stmt_layer case_layer 3 (et.LogConst 1) (st.Print 4 0 1 (value 7 ∷ []) ∷ []) []
    ∙ (λ i. stmt_layer (StmtTree-F.If 3 (truth_is i) (one_value 4 0 7 i ∷ []) []))

variable_is : lowered_expr (et.Var []) ≡ plain (et.Var [])
variable_is = folds.fold_expr-Var _ _ _ _ _ _ array_item_layer expr_layer print_item_layer section_part_layer stmt_layer case_layer []

loop_is : lowered_item (pit.Loop (et.Var []) (literal 1) (literal 2) (literal 1) (value 9 ∷ [])) ≡ print_item_layer (PrintItemTree-F.«PrintItemTree::Loop» (plain (et.Var [])) (plain (literal 1)) (plain (literal 2)) (plain (literal 1)) (print_item_layer (PrintItemTree-F.«PrintItemTree::Value» (plain (literal 9))) ∷ []))
loop_is =
    folds.fold_print_item-Loop _ _ _ _ _ _ array_item_layer expr_layer print_item_layer section_part_layer stmt_layer case_layer (et.Var []) (literal 1) (literal 2) (literal 1) (value 9 ∷ [])
    ∙ (λ i. print_item_layer (PrintItemTree-F.«PrintItemTree::Loop» (variable_is i) (literal_is 1 i) (literal_is 2 i) (literal_is 1 i) (value_is 9 i ∷ [])))

last : lowered_stmt (st.Print 7 0 1 (pit.Loop (et.Var []) (literal 1) (literal 2) (literal 1) (value 9 ∷ []) ∷ [])) ≡ print_layer 7 0 1 (print_item_layer (PrintItemTree-F.«PrintItemTree::Loop» (plain (et.Var [])) (plain (literal 1)) (plain (literal 2)) (plain (literal 1)) (print_item_layer (PrintItemTree-F.«PrintItemTree::Value» (plain (literal 9))) ∷ [])) ∷ [])
last =
    folds.fold_stmt-Print _ _ _ _ _ _ array_item_layer expr_layer print_item_layer section_part_layer stmt_layer case_layer 7 0 1 (pit.Loop (et.Var []) (literal 1) (literal 2) (literal 1) (value 9 ∷ []) ∷ [])
    ∙ (λ i. print_layer 7 0 1 (loop_is i ∷ []))

pub becomes : (lowered_body before).from 4 ≡ after
becomes = λ i. (in_turn (first i ∷ branch i ∷ one_value 6 2 8 i ∷ last i ∷ [])).from 4

pub draws : (lowered_body before).count ≡ 2
draws = λ i. (in_turn (first i ∷ branch i ∷ one_value 6 2 8 i ∷ last i ∷ [])).count
