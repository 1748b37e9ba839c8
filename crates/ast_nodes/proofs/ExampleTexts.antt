-- The texts of small trees.
use Rattle.std.proofs.Common.{◌≡◌, ℕ, List, [], ◌∷◌, codes, ap, ◌∙◌, refl, Some, None}
use Rattle.std.specs.Fmt.{digits, decimal}
use Rattle.lf_base.specs.Contents.{joined}
use Rattle.ast_nodes.specs.declared.expression.Expr.TheVariants.{Triple}
use Rattle.ast_nodes.specs.declared.expression.RefPart.{Part, Group}
use Rattle.ast_nodes.specs.declared.statement.Statement.TheVariants.{Exit}
use Rattle.ast_nodes.specs.Node.{node, listed, quoted}
use Rattle.ast_nodes.specs.Exprs.{expr_text, part_text}
use Rattle.ast_nodes.specs.Text.{stmt_layer, arm_layer, case_layer, stmt_text, vars_text, ast_text}
use Rattle.ast_nodes.specs.Examples.{literal, product, sum, program, characters, section, loop, variables}
use Rattle.ast_nodes.proofs.Texts.{expr_text-Int, expr_text-Char, expr_text-Ref, expr_text-Triple, expr_text-Binary, part_text-Part, part_text-Group, designator_text-parts}
use Rattle.ast_nodes.proofs.StmtFolds as statements
use Rattle.ast_nodes.proofs.StmtTexts.{stmt_text-Print, stmt_text-Exit}

literal_text : (value : List ℕ) → expr_text (literal value) ≡ node (codes "Int") (quoted value ∷ decimal 0 ∷ [])
literal_text value = expr_text-Int value 0

product_text : expr_text product ≡ node (codes "Binary") (decimal 2 ∷ node (codes "Int") (quoted (codes "3") ∷ decimal 0 ∷ []) ∷ node (codes "Int") (quoted (codes "4") ∷ decimal 0 ∷ []) ∷ [])
product_text = expr_text-Binary 2 (literal (codes "3")) (literal (codes "4")) ∙ ap (λ t. node (codes "Binary") (decimal 2 ∷ t ∷ expr_text (literal (codes "4")) ∷ [])) (literal_text (codes "3")) ∙ ap (λ t. node (codes "Binary") (decimal 2 ∷ node (codes "Int") (quoted (codes "3") ∷ decimal 0 ∷ []) ∷ t ∷ [])) (literal_text (codes "4"))

pub sum_text : expr_text sum ≡ codes "(Binary 0 (Int \"2\" 0) (Binary 2 (Int \"3\" 0) (Int \"4\" 0)))"
unfolding joined digits
sum_text = expr_text-Binary 0 (literal (codes "2")) product ∙ ap (λ t. node (codes "Binary") (decimal 0 ∷ t ∷ expr_text product ∷ [])) (literal_text (codes "2")) ∙ ap (λ t. node (codes "Binary") (decimal 0 ∷ node (codes "Int") (quoted (codes "2") ∷ decimal 0 ∷ []) ∷ t ∷ [])) product_text

pub program_text : ast_text program ≡ codes "(Program 1 p [] [(Print 2 0 0 [(Binary 0 (Int \"2\" 0) (Binary 2 (Int \"3\" 0) (Int \"4\" 0)))])] [])\n"
unfolding joined digits
program_text = ap (λ t. joined (joined (node (codes "Program") (decimal 1 ∷ codes "p" ∷ listed [] ∷ listed (t ∷ []) ∷ listed [] ∷ []) ∷ codes "\n" ∷ []) ∷ [])) (stmt_text-Print 2 0 0 (sum ∷ []) ∙ ap (λ t. node (codes "Print") (decimal 2 ∷ decimal 0 ∷ decimal 0 ∷ listed (t ∷ []) ∷ [])) sum_text)

pub characters_text : expr_text characters ≡ codes "(Char \"a\\077\\042\\011\")"
unfolding joined digits
characters_text = expr_text-Char (97 ∷ 63 ∷ 34 ∷ 9 ∷ [])

triple_text : expr_text (Triple None None None) ≡ codes "(Triple - - -)"
unfolding joined digits
triple_text = expr_text-Triple None None None

pub section_text : expr_text section ≡ codes "(Ref [(Part a) (Group [(Triple - - -)])])"
unfolding joined digits
section_text =
    expr_text-Ref (record { parts = Part (codes "a") ∷ Group (Triple None None None ∷ []) ∷ [] })
    ∙ designator_text-parts (record { parts = Part (codes "a") ∷ Group (Triple None None None ∷ []) ∷ [] })
    ∙ ap (λ t. node (codes "Ref") (listed (t ∷ part_text (Group (Triple None None None ∷ [])) ∷ []) ∷ [])) (part_text-Part (codes "a"))
    ∙ ap (λ t. node (codes "Ref") (listed (node (codes "Part") (codes "a" ∷ []) ∷ t ∷ []) ∷ [])) (part_text-Group (Triple None None None ∷ []) ∙ ap (λ t. node (codes "Group") (listed (t ∷ []) ∷ [])) triple_text)

pub loop_text : stmt_text loop ≡ codes "(While 3 - - [(Exit 4 c)])"
unfolding joined digits
loop_text = statements.fold-While (List ℕ) (List ℕ) (List ℕ) stmt_layer arm_layer case_layer 3 None None (Exit 4 (Some (codes "c")) ∷ []) ∙ ap (λ t. node (codes "While") (decimal 3 ∷ codes "-" ∷ codes "-" ∷ listed (t ∷ []) ∷ [])) (stmt_text-Exit 4 (Some (codes "c")))

pub variables_text : vars_text variables ≡ codes "(Vars 2 (Character (Star)) [(Save)] [(Entity c [(Bound - -)] -)])"
unfolding joined digits
variables_text = refl
