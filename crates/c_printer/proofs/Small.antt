-- The C of small main programs, computed.
use Rattle.std.proofs.Common.{◌≡◌, [], ◌∷◌, true, refl}
use Rattle.c_printer.specs.Files.{unit_items}
use Rattle.c_printer.specs.Scalar.{is_scalar_unit}
use Rattle.c_printer.specs.SmallUnits.{prints_one, prints_one_c, counts, counts_c, chooses, chooses_c, stops_early, stops_early_c, mixes_kinds, mixes_kinds_c, begins, begins_c, leaves_outer, leaves_outer_c, ends, ends_c, refers, refers_c, keeps, keeps_c}
use Rattle.std.specs.Fmt.{digits}
use Rattle.std.specs.List.{list_all}
use Rattle.c_printer.proofs.Nodes.{nodes, scalars, symbols}

pub prints_one_is : unit_items (prints_one ∷ []) ≡ prints_one_c
unfolding digits
prints_one_is = simp (nodes, symbols) refl

pub counts_is : unit_items (counts ∷ []) ≡ counts_c
unfolding digits
counts_is = simp (nodes, symbols) refl

pub chooses_is : unit_items (chooses ∷ []) ≡ chooses_c
unfolding digits
chooses_is = simp (nodes, symbols) refl

pub stops_early_is : unit_items (stops_early ∷ []) ≡ stops_early_c
unfolding digits
stops_early_is = simp (nodes, symbols) refl

pub mixes_kinds_is : unit_items (mixes_kinds ∷ []) ≡ mixes_kinds_c
unfolding digits
mixes_kinds_is = simp (nodes, symbols) refl

pub begins_is : unit_items (begins ∷ []) ≡ begins_c
unfolding digits
begins_is = simp (nodes, symbols) refl

pub leaves_outer_is : unit_items (leaves_outer ∷ []) ≡ leaves_outer_c
unfolding digits
leaves_outer_is = simp (nodes, symbols) refl

pub ends_is : unit_items (ends ∷ []) ≡ ends_c
unfolding digits
ends_is = simp (nodes, symbols) refl

pub refers_is : unit_items (refers ∷ []) ≡ refers_c
unfolding digits
refers_is = simp (nodes, symbols) refl

pub keeps_is : unit_items (keeps ∷ []) ≡ keeps_c
unfolding digits
keeps_is = simp (nodes, symbols) refl

pub are_scalar : list_all is_scalar_unit (prints_one ∷ counts ∷ chooses ∷ stops_early ∷ mixes_kinds ∷ begins ∷ leaves_outer ∷ ends ∷ refers ∷ keeps ∷ []) ≡ true
unfolding digits
are_scalar = simp (scalars, symbols) refl
