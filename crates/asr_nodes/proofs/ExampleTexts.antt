-- The texts of small trees.
use Rattle.std.proofs.Common.{◌≡◌, ℕ, pos, List, [], ◌∷◌, codes, ap, ◌∙◌, None}
use Rattle.std.specs.Fmt.{digits, decimal, signed_decimal}
use Rattle.lf_base.specs.Contents.{joined}
use Rattle.ast_nodes.specs.Node.{node, behind_blank, listed, optional}
use Rattle.asr_nodes.specs.declared.tree.ExprTree.TheVariants.{Binary}
use Rattle.asr_nodes.specs.declared.tree.PrintItemTree.TheVariants.{Value}
use Rattle.asr_nodes.specs.declared.tree.SectionPartTree.TheVariants.{At, Triple}
use Rattle.asr_nodes.specs.declared.tree.StmtTree.TheVariants.{Assign}
use Rattle.asr_nodes.specs.Examples.{literal, program, variable, x, section, home, block, selection}
use Rattle.asr_nodes.specs.Text.{Text, expr_text, stmt_text, print_item_text, symbol_text, unit_text, unit_front}
use Rattle.asr_nodes.proofs.Texts.{expr_text-IntConst, expr_text-Var, expr_text-Section, expr_text-Binary, section_part_text-At, section_part_text-Triple, print_item_text-Value, stmt_text-Assign, stmt_text-Select, stmt_text-Print, stmt_text-Return, case_text-block, symbol_text-Function, symbol_text-Variable}

literal_text : (value : ℕ) → expr_text (literal value) ≡ node (codes "IntConst") (decimal 4 ∷ signed_decimal (pos value) ∷ [])
literal_text value = expr_text-IntConst 4 (pos value)

product_text : expr_text (Binary 2 (literal 3) (literal 4)) ≡ node (codes "Binary") (decimal 2 ∷ node (codes "IntConst") (decimal 4 ∷ signed_decimal (pos 3) ∷ []) ∷ node (codes "IntConst") (decimal 4 ∷ signed_decimal (pos 4) ∷ []) ∷ [])
product_text = expr_text-Binary 2 (literal 3) (literal 4) ∙ (λ k. node (codes "Binary") (decimal 2 ∷ literal_text 3 k ∷ literal_text 4 k ∷ []))

item_text : print_item_text (Value (Binary 0 (literal 2) (Binary 2 (literal 3) (literal 4)))) ≡ codes "(Value (Binary 0 (IntConst 4 2) (Binary 2 (IntConst 4 3) (IntConst 4 4))))"
unfolding joined digits
item_text =
    print_item_text-Value (Binary 0 (literal 2) (Binary 2 (literal 3) (literal 4)))
    ∙ ap (λ t. node (codes "Value") (t ∷ []))
    (expr_text-Binary 0 (literal 2) (Binary 2 (literal 3) (literal 4)) ∙ (λ k. node (codes "Binary") (decimal 0 ∷ literal_text 2 k ∷ product_text k ∷ [])))

pub program_text : unit_text program ≡ codes "(Program p \"p1.f90\" [] [\n] [(Print 2 0 0 [(Value (Binary 0 (IntConst 4 2) (Binary 2 (IntConst 4 3) (IntConst 4 4))))])])\n"
unfolding joined digits
program_text =
    ap (λ t. joined (unit_front (codes "Program") (codes "p") (codes "p1.f90") [] ∷ joined [] ∷ codes "]" ∷ behind_blank (listed (t ∷ [])) ∷ codes ")\n" ∷ []))
    (stmt_text-Print 2 0 0 (Value (Binary 0 (literal 2) (Binary 2 (literal 3) (literal 4))) ∷ []) ∙ ap (λ t. node (codes "Print") (decimal 2 ∷ decimal 0 ∷ decimal 0 ∷ listed (t ∷ []) ∷ [])) item_text)

x_text : expr_text x ≡ codes "(Var s.x)"
unfolding joined digits
x_text = expr_text-Var (codes "m" ∷ codes "s" ∷ codes "x" ∷ [])

section_text : expr_text section ≡ codes "(Section (Var s.x) [(At (IntConst 4 1)) (Triple - - -)])"
unfolding joined digits
section_text =
    expr_text-Section x (At (literal 1) ∷ Triple None None None ∷ [])
    ∙ (λ k. node (codes "Section") (x_text k ∷ listed (section_part_text-At (literal 1) k ∷ section_part_text-Triple None None None k ∷ []) ∷ []))
    ∙ ap (λ t. node (codes "Section") (codes "(Var s.x)" ∷ listed (node (codes "At") (t ∷ []) ∷ codes "(Triple - - -)" ∷ []) ∷ [])) (literal_text 1)

assign_text : stmt_text (Assign 5 section (literal 0)) ≡ codes "(Assign 5 (Section (Var s.x) [(At (IntConst 4 1)) (Triple - - -)]) (IntConst 4 0))"
unfolding joined digits
assign_text = stmt_text-Assign 5 section (literal 0) ∙ (λ k. node (codes "Assign") (decimal 5 ∷ section_text k ∷ literal_text 0 k ∷ []))

variable_text : symbol_text variable ≡ codes "(Variable x 1 (Type (Integer 4) [(Fixed -1 3)]) 0 0 [])"
unfolding joined digits
variable_text = symbol_text-Variable _ _ _ _ _ _

procedure_text : List Text → List Text → Text
procedure_text symbols body = node (codes "Function") (codes "s" ∷ decimal 0 ∷ listed [] ∷ optional None ∷ decimal 0 ∷ listed symbols ∷ listed body ∷ [])

pub home_text : unit_text home ≡ codes "(Module m \"m.f90\" [n] [\n(Function s 0 [] - 0 [(Variable x 1 (Type (Integer 4) [(Fixed -1 3)]) 0 0 [])] [(Assign 5 (Section (Var s.x) [(At (IntConst 4 1)) (Triple - - -)]) (IntConst 4 0))])\n])\n"
unfolding joined digits procedure_text
home_text =
    ap (λ t. joined (unit_front (codes "Module") (codes "m") (codes "m.f90") (codes "n" ∷ []) ∷ joined (joined (t ∷ codes "\n" ∷ []) ∷ []) ∷ codes "])\n" ∷ []))
    (symbol_text-Function (codes "s") 0 [] None 0 (variable ∷ []) (Assign 5 section (literal 0) ∷ []) ∙ (λ k. procedure_text (variable_text k ∷ []) (assign_text k ∷ [])))

pub selection_text : stmt_text selection ≡ codes "(Select 3 (Var s.x) [(Case [(Between (IntConst 4 1) (IntConst 4 2))] [(Return 4)])] [])"
unfolding joined digits
selection_text =
    stmt_text-Select 3 x (block ∷ []) []
    ∙ (λ k. node (codes "Select") (decimal 3 ∷ x_text k ∷ listed (case_text-block block k ∷ []) ∷ listed [] ∷ []))
    ∙ ap (λ t. node (codes "Select") (decimal 3 ∷ codes "(Var s.x)" ∷ listed (node (codes "Case") (listed (codes "(Between (IntConst 4 1) (IntConst 4 2))" ∷ []) ∷ listed (t ∷ []) ∷ []) ∷ []) ∷ listed [] ∷ [])) (stmt_text-Return 4)
