-- The text of expressions and of the fields of a node (ISO/IEC 1539-1:2018, 10.1, 9.1).
use Rattle.std.specs.Prelude.{ℕ, List, [], ◌∷◌, codes, map}
use Rattle.std.specs.Fmt.{decimal}
use Rattle.ast_nodes.specs.Node.{quoted, node, listed, optional}
use Rattle.ast_nodes.specs.declared.expression.Expr.{Expr}
use Rattle.ast_nodes.specs.declared.expression.Expr.TheOpen.{Expr-F, RefPart-F, Designator-F}
use Rattle.ast_nodes.specs.declared.expression.Expr.TheFolds.{fold-Expr, fold-RefPart, fold-Designator}
use Rattle.ast_nodes.specs.declared.expression.RefPart.{RefPart}
use Rattle.ast_nodes.specs.declared.expression.Designator.{Designator}

abbrev pub Text : Type 0
Text = List ℕ

-- one shape of an expression, with the texts of its parts
abbrev pub expr_layer : Expr-F Text Text Text → Text
expr_layer (Expr-F.Int digits suffix) = node (codes "Int") (quoted digits ∷ decimal suffix ∷ [])
expr_layer (Expr-F.Log value) = node (codes "Log") (decimal value ∷ [])
expr_layer (Expr-F.Char bytes) = node (codes "Char") (quoted bytes ∷ [])
expr_layer (Expr-F.Ref designator) = designator
expr_layer (Expr-F.Triple lower upper step) = node (codes "Triple") (optional lower ∷ optional upper ∷ optional step ∷ [])
expr_layer (Expr-F.Unary operator operand) = node (codes "Unary") (decimal operator ∷ operand ∷ [])
expr_layer (Expr-F.Binary operator left right) = node (codes "Binary") (decimal operator ∷ left ∷ right ∷ [])
expr_layer (Expr-F.Paren inner) = node (codes "Paren") (inner ∷ [])
expr_layer (Expr-F.Array items) = node (codes "Array") (listed items ∷ [])
expr_layer (Expr-F.Loop variable lower upper step items) = node (codes "Loop") (variable ∷ lower ∷ upper ∷ optional step ∷ listed items ∷ [])

abbrev pub part_layer : RefPart-F Text Text Text → Text
part_layer (RefPart-F.Part name) = node (codes "Part") (name ∷ [])
part_layer (RefPart-F.Group arguments) = node (codes "Group") (listed arguments ∷ [])

abbrev pub designator_layer : Designator-F Text Text Text → Text
designator_layer designator = node (codes "Ref") (listed designator.parts ∷ [])

abbrev pub expr_text : Expr → Text
expr_text = fold-Expr Text Text Text expr_layer part_layer designator_layer

abbrev pub part_text : RefPart → Text
part_text = fold-RefPart Text Text Text expr_layer part_layer designator_layer

abbrev pub designator_text : Designator → Text
designator_text = fold-Designator Text Text Text expr_layer part_layer designator_layer

abbrev pub expr_texts : List Expr → List Text
expr_texts = map expr_text

abbrev pub part_texts : List RefPart → List Text
part_texts = map part_text
