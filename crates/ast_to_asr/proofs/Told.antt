-- What is told of the parts of a designator, and of parts or arguments in a number that none takes.
use Rattle.std.proofs.Common.{◌≡◌, ◌≤◌, List, [], ◌∷◌, map, length, Err, refl, sym, ap, ◌∙◌, arith}
use Rattle.lf_base.specs.declared.name.Name.{Name}
use Rattle.lf_base.specs.declared.rule.Rule.TheVariants.{E202, E405}
use Rattle.ast_nodes.specs.declared.expression.Designator.{Designator}
use Rattle.ast_nodes.specs.declared.expression.Expr.{Expr}
use Rattle.ast_nodes.specs.declared.expression.RefPart.{RefPart, Part, Group}
use Rattle.ast_nodes.proofs.ExprFolds as exprs
use Rattle.fortran_semantics.specs.Constants.{Part as NamePart, Named, Grouped}
use Rattle.ast_to_asr.specs.Known.{Entries}
use Rattle.ast_to_asr.specs.Facts.{Told, expr_layer, part_layer, designator_layer, expr_told, part_told, parts_told, designator_told, int_told, least_from}

pub told-Part : (entries : Entries) (name : Name) → part_told entries (Part name) ≡ Named name
told-Part entries name = exprs.fold-Part Told (NamePart Told) Told (expr_layer entries) (part_layer entries) (designator_layer entries) name

pub told-Group : (entries : Entries) (arguments : List Expr) → part_told entries (Group arguments) ≡ Grouped (map (expr_told entries) arguments)
told-Group entries arguments = exprs.fold-Group Told (NamePart Told) Told (expr_layer entries) (part_layer entries) (designator_layer entries) arguments

pub ruleset parts = (told-Part, told-Group)

no_parts : (entries : Entries) (parts : List RefPart) → 3 ≤ length parts → Err E202 ≡ parts_told entries (map (part_told entries) parts)
no_parts entries [] h = absurd (omega (arith, h))
no_parts entries (p ∷ []) h = absurd (omega (arith, h))
no_parts entries (p ∷ q ∷ []) h = absurd (omega (arith, h))
no_parts entries (p ∷ q ∷ r ∷ more) h = refl

pub many_parts : (entries : Entries) (it : Designator) (parts : List RefPart) → parts ≡ it.parts → 3 ≤ length parts → Err E202 ≡ designator_told entries it
many_parts entries it parts e h =
    no_parts entries parts h ∙ (ap (λ ps. parts_told entries (map (part_told entries) ps)) e
    ∙ sym (exprs.fold-parts Told (NamePart Told) Told (expr_layer entries) (part_layer entries) (designator_layer entries) it))

pub many_of_int : (entries : Entries) (xs : List Expr) → 3 ≤ length xs → Err (least_from E405 (map (expr_told entries) xs)) ≡ int_told (map (expr_told entries) xs)
many_of_int entries [] h = absurd (omega (arith, h))
many_of_int entries (x ∷ []) h = absurd (omega (arith, h))
many_of_int entries (x ∷ y ∷ []) h = absurd (omega (arith, h))
many_of_int entries (x ∷ y ∷ z ∷ more) h = refl
