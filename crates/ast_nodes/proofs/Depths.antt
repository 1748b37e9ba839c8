-- The depth of small trees.
use Rattle.std.proofs.Common.{◌≡◌, ℕ, ◌+◌, ap, ◌∙◌}
use Rattle.lf_base.specs.declared.name.Name.{Name}
use Rattle.ast_nodes.specs.Depth.{depth_layer, part_depth, designator_depth, depth_of, named, deepest}
use Rattle.ast_nodes.proofs.ExprFolds as expressions
use Rattle.std.specs.Prelude.{[], ◌∷◌}

pub depth_of_named : (name : Name) → depth_of (named name) ≡ 2
depth_of_named name = expressions.fold-Ref ℕ ℕ ℕ depth_layer part_depth designator_depth _ ∙ ap (λ n. n + 1) (expressions.fold-parts ℕ ℕ ℕ depth_layer part_depth designator_depth _ ∙ ap (λ n. deepest (n ∷ [])) (expressions.fold-Part ℕ ℕ ℕ depth_layer part_depth designator_depth name))
