-- Only a name alone designates a variable.
use Rattle.std.proofs.Common.{◌≡◌, ℕ, Bool, true, false, if◌then◌else◌, List, [], ◌∷◌, map, length, Option, Some, None, Ok, Err, refl, sym, subst}
use Rattle.lf_base.specs.declared.name.Name.{Name}
use Rattle.lf_base.specs.declared.rule.Rule.{Rule}
use Rattle.lf_base.specs.declared.rule.Rule.TheVariants.{E304, E405, E414}
use Rattle.ast_nodes.specs.declared.expression.Designator.{Designator}
use Rattle.ast_nodes.specs.declared.expression.Expr.{Expr}
use Rattle.ast_nodes.specs.declared.expression.Expr.TheViews.{rolls-Part, rolls-Group}
use Rattle.ast_nodes.specs.declared.expression.RefPart.{RefPart, RefPart-F, Part, Group, map-RefPart, roll-RefPart, ind-RefPart}
use Rattle.ast_nodes.proofs.ExprFolds as exprs
use Rattle.fortran_semantics.specs.Constants.{Part as NamePart, Named, Grouped, intrinsic_named, is_int, is_huge}
use Rattle.ast_to_asr.specs.Judged.{Judged, both, map_right}
use Rattle.ast_to_asr.specs.Known.{Entries, known_in}
use Rattle.ast_to_asr.specs.Expressions.{takes, is_intrinsic}
use Rattle.ast_to_asr.specs.Facts as f
use Rattle.ast_to_asr.specs.Facts.{Told, Designates, expr_layer, part_layer, designator_layer, expr_told, part_told, parts_told, designator_told, joined_from, no_arguments, least_from, integer_argument, written_kind}
use Rattle.ast_to_asr.specs.declared.judge.functions.Argument.{Argument}
use Rattle.ast_to_asr.specs.declared.judge.functions.Joined.{Joined}
use Rattle.ast_to_asr.specs.declared.names.Known.{Known}
use Rattle.ast_to_asr.specs.declared.names.Known.TheVariants as known
use Rattle.ast_to_asr.proofs.Told.{told-Part, told-Group}

-- what designates no variable
abbrev pub IsPlain : Told → Type 0
IsPlain (Ok facts) = facts.variable ≡ None
IsPlain (Err rule) = Unit {0}

called_plain : (so : Judged Joined) → IsPlain (map_right f.called so)
called_plain (Ok so) = refl
called_plain (Err rule) = tt

function_plain : (b : Bool) (so : Judged Joined) (rule : Rule) → IsPlain (if b then map_right f.called so else Err rule)
function_plain true so rule = called_plain so
function_plain false so rule = tt

int_one : (a : Judged Argument) → IsPlain (map_right (f.int_to 4) a)
int_one (Ok a) = refl
int_one (Err rule) = tt

int_two : (a : Judged Argument) (k : Judged ℕ) → IsPlain (map_right (λ p. f.int_to p.1 p.0) (both a k))
int_two (Ok a) (Ok k) = refl
int_two (Ok a) (Err s) = tt
int_two (Err r) (Ok k) = tt
int_two (Err r) (Err s) = tt

int_plain : (xs : List Told) → IsPlain (f.int_told xs)
int_plain [] = tt
int_plain (a ∷ []) = int_one (integer_argument a)
int_plain (a ∷ k ∷ []) = int_two (integer_argument a) (written_kind k)
int_plain (a ∷ k ∷ l ∷ more) = tt

huge_one : (a : Judged Argument) → IsPlain (map_right f.huge_of a)
huge_one (Ok a) = refl
huge_one (Err rule) = tt

huge_plain : (xs : List Told) → IsPlain (f.huge_told xs)
huge_plain [] = tt
huge_plain (a ∷ []) = huge_one (integer_argument a)
huge_plain (a ∷ b ∷ more) = tt

named_plain : (xs : List Told) (b c : Bool) → IsPlain (if b then f.int_told xs else if c then f.huge_told xs else Err (least_from E304 xs))
named_plain xs true c = int_plain xs
named_plain xs false true = huge_plain xs
named_plain xs false false = tt

function_told_plain : (name : List ℕ) (xs : List Told) (code : Option ℕ) → IsPlain (f.function_told name xs code)
function_told_plain name xs (Some code) = function_plain (takes code (length xs)) (joined_from (Ok no_arguments) xs) (least_from E405 xs)
function_told_plain name xs None = named_plain xs (is_int name) (is_huge name)

call_plain : (name : List ℕ) (xs : List Told) (k : Option Known) → IsPlain (f.call_told name xs k)
call_plain name xs None = function_told_plain name xs (intrinsic_named name)
call_plain name xs (Some k) = tt

-- a part is a name or a group
module _ (P : RefPart → Type 0) (named : (name : Name) → P (Part name)) (grouped : (xs : List Expr) → P (Group xs)) where
  abbrev SA : Type 0
  SA = (x : Expr) × Unit {0}

  abbrev SB : Type 0
  SB = (x : RefPart) × P x

  abbrev SC : Type 0
  SC = (x : Designator) × Unit {0}

  at_part : (y : RefPart-F SA SB SC) → P (roll-RefPart (map-RefPart SA SB SC Expr RefPart Designator (λ s. s.0) (λ s. s.0) (λ s. s.0) y))
  at_part (RefPart-F.Part name) = subst P (sym (rolls-Part name)) (named name)
  at_part (RefPart-F.Group xs) = subst P (sym (rolls-Group (map (λ s. s.0) xs))) (grouped (map (λ s. s.0) xs))

  each_part : (p : RefPart) → P p
  each_part = ind-RefPart (λ x. Unit {0}) P (λ x. Unit {0}) (λ x y q. tt) (λ x y q. subst (λ z. P (roll-RefPart z)) q (at_part y)) (λ x y q. tt)

module _ (entries : Entries) where
  undeclared : (name : Name) (b : Bool) → Designates entries (Part name ∷ []) (if b then Err E414 else Err E304)
  undeclared name true = tt
  undeclared name false = tt

  name_known : (name : Name) (k : Option Known) → known_in entries name ≡ k → Designates entries (Part name ∷ []) (f.name_told name k)
  name_known name (Some (known.Variable symbol ty)) e = (name, refl, e)
  name_known name (Some (known.NamedConstant ty value)) e = tt
  name_known name None e = undeclared name (is_intrinsic name)

  plain_known : (parts : List RefPart) (x : Told) → IsPlain x → Designates entries parts x
  plain_known parts (Ok facts) h = subst (f.IsNameOf entries parts facts.ty) (sym h) tt
  plain_known parts (Err rule) h = tt

  one_known : (p : RefPart) → Designates entries (p ∷ []) (f.alone entries (part_told entries p))
  one_known =
      each_part (λ p. Designates entries (p ∷ []) (f.alone entries (part_told entries p)))
      (λ name. subst (λ q. Designates entries (Part name ∷ []) (f.alone entries q)) (sym (told-Part entries name)) (name_known name (known_in entries name) refl))
      (λ xs. subst (λ q. Designates entries (Group xs ∷ []) (f.alone entries q)) (sym (told-Group entries xs)) tt)

  grouped_plain : (name : List ℕ) (q : NamePart Told) → IsPlain (f.grouped entries name q)
  grouped_plain name (Named other) = tt
  grouped_plain name (Grouped xs) = call_plain name xs (known_in entries name)

  referenced_plain : (p q : NamePart Told) → IsPlain (f.referenced entries p q)
  referenced_plain (Named name) q = grouped_plain name q
  referenced_plain (Grouped xs) q = tt

  parts_known : (parts : List RefPart) → Designates entries parts (parts_told entries (map (part_told entries) parts))
  parts_known [] = tt
  parts_known (p ∷ []) = one_known p
  parts_known (p ∷ q ∷ []) = plain_known (p ∷ q ∷ []) (f.referenced entries (part_told entries p) (part_told entries q)) (referenced_plain (part_told entries p) (part_told entries q))
  parts_known (p ∷ q ∷ r ∷ more) = tt

  pub designator_known : (it : Designator) → Designates entries it.parts (designator_told entries it)
  designator_known it = subst (Designates entries it.parts) (sym (exprs.fold-parts Told (NamePart Told) Told (expr_layer entries) (part_layer entries) (designator_layer entries) it)) (parts_known it.parts)
