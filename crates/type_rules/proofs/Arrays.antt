-- The table on values, at scalars and at arrays without elements.
use Rattle.std.proofs.Common.{◌≡◌, ℕ, refl, ap, List, [], ◌∷◌, map, Some}
use Rattle.std.specs.Option.{option_map}
use Rattle.type_rules.specs.Values.{Scalar}
use Rattle.type_rules.specs.Store.{Single}
use Rattle.type_rules.specs.Arrays.{operation_on, single, scalars_of, on_values, OfEmpty}
use Rattle.type_rules.specs.Operations.{operation}
use Rattle.type_rules.specs.declared.constant.Op.{Op}

all_scalars : (args : List Scalar) → scalars_of (map Single args) ≡ Some args
all_scalars [] = refl
all_scalars (a ∷ rest) = ap (λ o. option_map (λ ss. a ∷ ss) o) (all_scalars rest)

pub at_scalars : (op : Op) (args : List Scalar) → operation_on op (map Single args) ≡ single (operation op args)
at_scalars op args = ap (λ o. on_values op (map Single args) o) (all_scalars args)

pub of_empty : (kind : ℕ) → OfEmpty kind
of_empty kind = record { sum = refl; product = refl; maxval = refl; minval = refl; count = refl; any = refl; all = refl }
