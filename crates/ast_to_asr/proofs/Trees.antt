-- The trees of small sources, computed.
use Rattle.std.proofs.Common.{◌≡◌, [], ◌∷◌, codes, Ok, refl}
use Rattle.fortran_semantics.specs.SmallSources.{leaves_two, mixes_kinds, does_not_fit, else_if_traps}
use Rattle.ast_to_asr.proofs.Constants.{values}
use Rattle.ast_to_asr.specs.Elab.{elab_file}
use Rattle.ast_to_asr.specs.SmallTrees.{leaves_two_tree, mixes_kinds_tree, does_not_fit_tree, else_if_traps_tree}
use Rattle.ast_to_asr.proofs.Nodes.{nodes}

pub leaves_two_is : elab_file (codes "p.f90") 0 leaves_two ≡ Ok (leaves_two_tree ∷ [])
leaves_two_is = simp nodes refl

pub mixes_kinds_is : elab_file (codes "p.f90") 0 mixes_kinds ≡ Ok (mixes_kinds_tree ∷ [])
mixes_kinds_is = simp (nodes, values) refl

pub does_not_fit_is : elab_file (codes "p.f90") 0 does_not_fit ≡ Ok (does_not_fit_tree ∷ [])
does_not_fit_is = simp (nodes, values) refl

pub else_if_traps_is : elab_file (codes "p.f90") 0 else_if_traps ≡ Ok (else_if_traps_tree ∷ [])
else_if_traps_is = simp nodes refl
