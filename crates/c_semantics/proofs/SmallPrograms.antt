-- Which of the small files are programs.
use Rattle.std.proofs.Common.{◌≡◌, false, [], ◌∷◌, codes, refl}
use Rattle.std.specs.List.{list_all}
use Rattle.c_semantics.specs.Linking.{is_right_file}
use Rattle.c_semantics.specs.Program.{IsProgram, with_defined, are_same_objects, objects_in, has_right_jumps}
use Rattle.c_semantics.specs.SmallFiles.{file, Unlinked, sets_pointer, own_object, keeps_object, empty_array, call_into_element, declares, declares_library, low_name, static_twice, turns, jumps, structures, stops_early, zeros, unused_object, shares, sets, leads_nowhere, jumps_past_array, label_twice, no_member, no_structure, number_as_structure, undefined_object, other_type, defines_again}
use Rattle.c_semantics.proofs.LinkingShapes.{links, callings}
use Rattle.c_semantics.proofs.JumpShapes.{jumping}

pub turns_linked : IsProgram (file turns ∷ [])
turns_linked = record {
  right = simp links refl;
  once = refl;
  external = refl;
  objects = refl;
  apart = refl;
  agreed = refl;
  same = refl;
  structures = refl;
  defined = simp callings refl;
  used = simp links refl;
  jumps = simp jumping refl;
  main = refl;
}

pub jumps_linked : IsProgram (file jumps ∷ [])
jumps_linked = record {
  right = simp links refl;
  once = refl;
  external = refl;
  objects = refl;
  apart = refl;
  agreed = refl;
  same = refl;
  structures = refl;
  defined = simp callings refl;
  used = simp links refl;
  jumps = simp jumping refl;
  main = refl;
}

pub structures_linked : IsProgram (file structures ∷ [])
structures_linked = record {
  right = simp links refl;
  once = refl;
  external = refl;
  objects = refl;
  apart = refl;
  agreed = refl;
  same = refl;
  structures = refl;
  defined = simp callings refl;
  used = simp links refl;
  jumps = simp jumping refl;
  main = refl;
}

pub stops_early_linked : IsProgram (file stops_early ∷ [])
stops_early_linked = record {
  right = simp links refl;
  once = refl;
  external = refl;
  objects = refl;
  apart = refl;
  agreed = refl;
  same = refl;
  structures = refl;
  defined = simp callings refl;
  used = simp links refl;
  jumps = simp jumping refl;
  main = refl;
}

pub zeros_linked : IsProgram (file zeros ∷ [])
zeros_linked = record {
  right = simp links refl;
  once = refl;
  external = refl;
  objects = refl;
  apart = refl;
  agreed = refl;
  same = refl;
  structures = refl;
  defined = simp callings refl;
  used = simp links refl;
  jumps = simp jumping refl;
  main = refl;
}

pub unused_object_linked : IsProgram (file unused_object ∷ [])
unused_object_linked = record {
  right = simp links refl;
  once = refl;
  external = refl;
  objects = refl;
  apart = refl;
  agreed = refl;
  same = refl;
  structures = refl;
  defined = simp callings refl;
  used = simp links refl;
  jumps = simp jumping refl;
  main = refl;
}

pub shares_linked : IsProgram (file shares ∷ file sets ∷ [])
shares_linked = record {
  right = simp links refl;
  once = refl;
  external = refl;
  objects = refl;
  apart = refl;
  agreed = refl;
  same = refl;
  structures = refl;
  defined = simp callings refl;
  used = simp links refl;
  jumps = simp jumping refl;
  main = refl;
}

leads_nowhere_fails : list_all (λ f. list_all has_right_jumps f.items) (file leads_nowhere ∷ []) ≡ false
leads_nowhere_fails = simp jumping refl

pub leads_nowhere_unlinked : Unlinked (file leads_nowhere ∷ [])
leads_nowhere_unlinked p = let a = leads_nowhere_fails in let b = p.jumps in cc

jumps_past_array_fails : list_all (λ f. list_all has_right_jumps f.items) (file jumps_past_array ∷ []) ≡ false
jumps_past_array_fails = simp jumping refl

pub jumps_past_array_unlinked : Unlinked (file jumps_past_array ∷ [])
jumps_past_array_unlinked p = let a = jumps_past_array_fails in let b = p.jumps in cc

label_twice_fails : list_all (λ f. list_all has_right_jumps f.items) (file label_twice ∷ []) ≡ false
label_twice_fails = simp jumping refl

pub label_twice_unlinked : Unlinked (file label_twice ∷ [])
label_twice_unlinked p = let a = label_twice_fails in let b = p.jumps in cc

no_member_fails : list_all is_right_file (file no_member ∷ []) ≡ false
no_member_fails = simp links refl

pub no_member_unlinked : Unlinked (file no_member ∷ [])
no_member_unlinked p = let a = no_member_fails in let b = p.right in cc

no_structure_fails : list_all is_right_file (file no_structure ∷ []) ≡ false
no_structure_fails = simp links refl

pub no_structure_unlinked : Unlinked (file no_structure ∷ [])
no_structure_unlinked p = let a = no_structure_fails in let b = p.right in cc

number_as_structure_fails : list_all is_right_file (file number_as_structure ∷ []) ≡ false
number_as_structure_fails = simp links refl

pub number_as_structure_unlinked : Unlinked (file number_as_structure ∷ [])
number_as_structure_unlinked p = let a = number_as_structure_fails in let b = p.right in cc

undefined_object_fails : list_all (λ f. is_right_file (with_defined (file undefined_object ∷ []) f)) (file undefined_object ∷ []) ≡ false
undefined_object_fails = simp links refl

pub undefined_object_unlinked : Unlinked (file undefined_object ∷ [])
undefined_object_unlinked p = let a = undefined_object_fails in let b = p.used in cc

pub other_type_unlinked : Unlinked (file shares ∷ file other_type ∷ [])
other_type_unlinked p = let a : are_same_objects (objects_in (file shares ∷ file other_type ∷ [])) ≡ false = refl in let b = p.same in cc

pub defines_again_unlinked : Unlinked (file shares ∷ file defines_again ∷ [])
defines_again_unlinked p = let b = p.objects in cc

pub sets_pointer_linked : IsProgram (file sets_pointer ∷ [])
sets_pointer_linked = record {
  right = simp links refl;
  once = refl;
  external = refl;
  objects = refl;
  apart = refl;
  agreed = refl;
  same = refl;
  structures = refl;
  defined = simp callings refl;
  used = simp links refl;
  jumps = simp jumping refl;
  main = refl;
}

pub own_object_linked : IsProgram (file keeps_object ∷ file own_object ∷ [])
own_object_linked = record {
  right = simp links refl;
  once = refl;
  external = refl;
  objects = refl;
  apart = refl;
  agreed = refl;
  same = refl;
  structures = refl;
  defined = simp callings refl;
  used = simp links refl;
  jumps = simp jumping refl;
  main = refl;
}

empty_array_fails : list_all is_right_file (file empty_array ∷ []) ≡ false
empty_array_fails = simp links refl

pub empty_array_unlinked : Unlinked (file empty_array ∷ [])
empty_array_unlinked p = let a = empty_array_fails in let b = p.right in cc

call_into_element_fails : list_all is_right_file (file call_into_element ∷ []) ≡ false
call_into_element_fails = simp links refl

pub call_into_element_unlinked : Unlinked (file call_into_element ∷ [])
call_into_element_unlinked p = let a = call_into_element_fails in let b = p.right in cc

reserved_word_fails : list_all is_right_file (file (declares (codes "for")) ∷ []) ≡ false
reserved_word_fails = simp links refl

pub reserved_word_unlinked : Unlinked (file (declares (codes "for")) ∷ [])
reserved_word_unlinked p = let a = reserved_word_fails in let b = p.right in cc

reserved_macro_fails : list_all is_right_file (file (declares (codes "EOF")) ∷ []) ≡ false
reserved_macro_fails = simp links refl

pub reserved_macro_unlinked : Unlinked (file (declares (codes "EOF")) ∷ [])
reserved_macro_unlinked p = let a = reserved_macro_fails in let b = p.right in cc

reserved_function_fails : list_all is_right_file (file declares_library ∷ []) ≡ false
reserved_function_fails = refl

pub reserved_function_unlinked : Unlinked (file declares_library ∷ [])
reserved_function_unlinked p = let a = reserved_function_fails in let b = p.right in cc

low_name_fails : list_all is_right_file (file low_name ∷ []) ≡ false
low_name_fails = refl

pub low_name_unlinked : Unlinked (file low_name ∷ [])
low_name_unlinked p = let a = low_name_fails in let b = p.right in cc

static_twice_fails : list_all is_right_file (file static_twice ∷ []) ≡ false
static_twice_fails = refl

pub static_twice_unlinked : Unlinked (file static_twice ∷ [])
static_twice_unlinked p = let a = static_twice_fails in let b = p.right in cc
