-- Expressions and designators of a source, by the names that are declared where they stand.
use Rattle.std.specs.Prelude.{◌≡◌, ℕ, List, ◌++◌}
use Rattle.ast_nodes.specs.declared.expression.Designator.{Designator}
use Rattle.ast_nodes.specs.declared.expression.Expr.{Expr}
use Rattle.ast_nodes.specs.declared.expression.RefPart.{RefPart, fold-RefPart}
use Rattle.asr_nodes.specs.Nodes.{Nodes}
use Rattle.fortran_semantics.specs.Constants.{Part}
use Rattle.ast_to_asr.specs.declared.build.Built.{Built}
use Rattle.ast_to_asr.specs.Building.{Are, keys_of}
use Rattle.ast_to_asr.specs.Expressions.{Elab, expr_layer, part_layer, designator_layer, elab_expr, elab_designator, parts_tree, call_tree}
use Rattle.ast_to_asr.specs.Known.{Entries, scope_of}
use Rattle.ast_to_asr.specs.Making.{Makes}
use Rattle.ast_to_asr.specs.Scope.{entity_of}

module _ (unit : List ℕ) (names : Entries) where
  abbrev pub expr_in : Expr → Elab
  expr_in = elab_expr unit (scope_of names)

  abbrev pub designator_in : Designator → Elab
  designator_in = elab_designator unit (scope_of names)

  abbrev pub part_in : RefPart → Part Elab
  part_in = fold-RefPart Elab (Part Elab) Elab (expr_layer unit (scope_of names)) (part_layer unit (scope_of names)) (designator_layer unit (scope_of names))

  abbrev pub parts_in : List (Part Elab) → Elab
  parts_in = parts_tree unit (scope_of names)

  -- a name with these arguments behind it
  abbrev pub call_in : List ℕ → List Elab → Elab
  call_in name es = call_tree unit (scope_of names) name es (entity_of (scope_of names) name)

-- Of expressions in order, a front is built, and the rest is left.
pub record BuiltSoFar (start now : Nodes) (bs : List Built) (left all : List Elab) : Type 0 where
  pub done : List Elab
  pub are : Are now bs done
  pub whole : done ++ left ≡ all
  pub makes : Makes start now (keys_of bs)
