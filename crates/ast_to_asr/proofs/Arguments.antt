-- Arguments that are all built.
use Rattle.std.proofs.Common.{◌≡◌, Bool, List, [], ◌∷◌, map, ◌&&◌, refl, ap, ◌∙◌}
use Rattle.std.specs.List.{list_all}
use Rattle.ast_nodes.specs.declared.expression.Expr.{Expr}
use Rattle.ast_nodes.specs.declared.expression.RefPart.{Group}
use Rattle.ast_nodes.proofs.ExprFolds as exprs
use Rattle.fortran_semantics.specs.Constants.{Part}
use Rattle.ast_to_asr.specs.Built.{is_built, part_of, groups_built, expr_layer, part_layer, designator_layer}

each_built : (xs : List Expr) → list_all (λ x. x) (map is_built xs) ≡ list_all is_built xs
each_built [] = refl
each_built (x ∷ xs) = ap (λ t. is_built x && t) (each_built xs)

pub grouped : (xs : List Expr) → groups_built (part_of (Group xs)) ≡ list_all is_built xs
grouped xs = ap groups_built (exprs.fold-Group Bool (Part Bool) Bool expr_layer part_layer designator_layer xs) ∙ each_built xs
