-- The text of each shape, and what the printing functions cite.
use Rattle.std.proofs.Common.{◌≡◌, ℕ, List, [], ◌∷◌, codes, Option, option_map}
use Rattle.std.specs.Fmt.{decimal}
use Rattle.ast_nodes.proofs.Chains.{chains}
use Rattle.lf_base.specs.declared.name.Name.{Name}
use Rattle.ast_nodes.specs.declared.expression.Expr.{Expr}
use Rattle.ast_nodes.specs.declared.expression.Expr.TheVariants.{Int, Log, Char, Ref, Triple, Unary, Binary, Paren, Array, Loop}
use Rattle.ast_nodes.specs.declared.expression.RefPart.{Part, Group}
use Rattle.ast_nodes.specs.declared.expression.Designator.{Designator}
use Rattle.ast_nodes.specs.Node.{quoted, node, listed, optional}
use Rattle.ast_nodes.specs.Exprs.{Text, expr_layer, part_layer, designator_layer, expr_text, expr_texts, part_text, part_texts, designator_text}
use Rattle.ast_nodes.proofs.ExprFolds as expressions

pub expr_text-Int : (digits : List ℕ) (suffix : ℕ) → expr_text (Int digits suffix) ≡ node (codes "Int") (quoted digits ∷ decimal suffix ∷ [])
expr_text-Int digits suffix = expressions.fold-Int Text Text Text expr_layer part_layer designator_layer digits suffix

pub expr_text-Log : (value : ℕ) → expr_text (Log value) ≡ node (codes "Log") (decimal value ∷ [])
expr_text-Log value = expressions.fold-Log Text Text Text expr_layer part_layer designator_layer value

pub expr_text-Char : (bytes : List ℕ) → expr_text (Char bytes) ≡ node (codes "Char") (quoted bytes ∷ [])
expr_text-Char bytes = expressions.fold-Char Text Text Text expr_layer part_layer designator_layer bytes

pub expr_text-Ref : (it : Designator) → expr_text (Ref it) ≡ designator_text it
expr_text-Ref it = expressions.fold-Ref Text Text Text expr_layer part_layer designator_layer it

pub expr_text-Triple : (lower : Option Expr) (upper : Option Expr) (step : Option Expr) → expr_text (Triple lower upper step) ≡ node (codes "Triple") (optional (option_map expr_text lower) ∷ optional (option_map expr_text upper) ∷ optional (option_map expr_text step) ∷ [])
expr_text-Triple lower upper step = expressions.fold-Triple Text Text Text expr_layer part_layer designator_layer lower upper step

pub expr_text-Unary : (operator : ℕ) (operand : Expr) → expr_text (Unary operator operand) ≡ node (codes "Unary") (decimal operator ∷ expr_text operand ∷ [])
expr_text-Unary operator operand = expressions.fold-Unary Text Text Text expr_layer part_layer designator_layer operator operand

pub expr_text-Binary : (operator : ℕ) (left : Expr) (right : Expr) → expr_text (Binary operator left right) ≡ node (codes "Binary") (decimal operator ∷ expr_text left ∷ expr_text right ∷ [])
expr_text-Binary operator left right = expressions.fold-Binary Text Text Text expr_layer part_layer designator_layer operator left right

pub expr_text-Paren : (inner : Expr) → expr_text (Paren inner) ≡ node (codes "Paren") (expr_text inner ∷ [])
expr_text-Paren inner = expressions.fold-Paren Text Text Text expr_layer part_layer designator_layer inner

pub expr_text-Array : (items : List Expr) → expr_text (Array items) ≡ node (codes "Array") (listed (expr_texts items) ∷ [])
expr_text-Array items = expressions.fold-Array Text Text Text expr_layer part_layer designator_layer items

pub expr_text-Loop : (variable : Name) (lower : Expr) (upper : Expr) (step : Option Expr) (items : List Expr) → expr_text (Loop variable lower upper step items) ≡ node (codes "Loop") (variable ∷ expr_text lower ∷ expr_text upper ∷ optional (option_map expr_text step) ∷ listed (expr_texts items) ∷ [])
expr_text-Loop variable lower upper step items = expressions.fold-Loop Text Text Text expr_layer part_layer designator_layer variable lower upper step items

pub part_text-Part : (name : Name) → part_text (Part name) ≡ node (codes "Part") (name ∷ [])
part_text-Part name = expressions.fold-Part Text Text Text expr_layer part_layer designator_layer name

pub part_text-Group : (arguments : List Expr) → part_text (Group arguments) ≡ node (codes "Group") (listed (expr_texts arguments) ∷ [])
part_text-Group arguments = expressions.fold-Group Text Text Text expr_layer part_layer designator_layer arguments

pub designator_text-parts : (it : Designator) → designator_text it ≡ node (codes "Ref") (listed (part_texts it.parts) ∷ [])
designator_text-parts it = expressions.fold-parts Text Text Text expr_layer part_layer designator_layer it

pub ruleset shapes = (expr_text-Int, expr_text-Log, expr_text-Char, expr_text-Ref, expr_text-Triple, expr_text-Unary, expr_text-Binary, expr_text-Paren, expr_text-Array, expr_text-Loop, part_text-Part, part_text-Group, designator_text-parts)

pub ruleset texts = (chains, shapes)
