-- Which C files are one program (ISO/IEC 9899:1999): each is right by itself, declarations of one name agree in all files
-- (6.2.7), a structure is alike in each (6.2.7, 1), what is used is defined once (6.9, 5), there is one `main` (5.1.2.2.1),
-- and a jump leads to the label at the end of a block around it (6.8.1, 6.8.6.1). Static functions and static objects
-- belong to their file (6.2.2, 3).
use Rattle.std.specs.Prelude.{ℕ, Bool, true, false, ◌&&◌, ◌||◌, not, if◌then◌else◌, IsTrue, List, [], ◌∷◌, ◌++◌, map, codes}
use Rattle.std.specs.List.{list_all, list_any, flat_map, filter}
use Rattle.std.specs.Str.{bytes_eq}
use Rattle.c_nodes.specs.declared.tree.CObject.{CObject}
use Rattle.c_nodes.specs.declared.tree.CExpr.{CExpr, CExpr-F, fold-CExpr}
use Rattle.c_nodes.specs.declared.tree.CStmt.{CStmt, CStmt-F, fold-CStmt}
use Rattle.c_nodes.specs.declared.tree.CItem.{CItem}
use Rattle.c_nodes.specs.declared.tree.CItem.TheVariants.{Prototype, Function}
use Rattle.c_nodes.specs.declared.tree.CItem.TheVariants as item
use Rattle.c_nodes.specs.declared.tree.CFile.{CFile}
use Rattle.c_semantics.specs.Linking.{Structure, object_name, same_parameters, Signature, same_signature, library, signature, are_different, same_object, same_objects, has_object, has_name, is_right_file}

-- the functions that an item defines, and those of them that other files see
abbrev pub defined_by : CItem → List Signature
defined_by (Function is_static gives name parameters body) = signature gives name parameters ∷ []
defined_by item = []

abbrev pub external_by : CItem → List Signature
external_by (Function false gives name parameters body) = signature gives name parameters ∷ []
external_by item = []

abbrev pub functions_of : CFile → List Signature
functions_of file = flat_map defined_by file.items

abbrev pub externals_of : List CFile → List Signature
externals_of files = flat_map (λ file. flat_map external_by file.items) files

-- no two have one name
abbrev pub are_distinct : List Signature → Bool
are_distinct [] = true
are_distinct (s ∷ ss) = not (has_name s.name ss) && are_distinct ss

-- the functions that other files may see, as an item declares them
abbrev pub shown_by : CItem → List Signature
shown_by (Prototype gives name parameters) = signature gives name parameters ∷ []
shown_by (Function false gives name parameters body) = signature gives name parameters ∷ []
shown_by item = []

abbrev pub shown_in : List CFile → List Signature
shown_in files = flat_map (λ file. flat_map shown_by file.items) files

-- declarations of one name are the same
abbrev pub are_agreed : List Signature → Bool
are_agreed [] = true
are_agreed (s ∷ ss) = list_all (λ other. not (bytes_eq s.name other.name) || same_signature s other) ss && are_agreed ss

-- the objects that an item declares, and those that it defines (6.9.2, 1 and 2)
abbrev pub objects_by : CItem → List CObject
objects_by (item.Object is_extern o) = o ∷ []
objects_by item = []

abbrev pub defined_objects_by : CItem → List CObject
defined_objects_by (item.Object false o) = o ∷ []
defined_objects_by item = []

abbrev pub objects_in : List CFile → List CObject
objects_in files = flat_map (λ file. flat_map objects_by file.items) files

abbrev pub defined_objects : List CFile → List CObject
defined_objects files = flat_map (λ file. flat_map defined_objects_by file.items) files

abbrev pub are_same_objects : List CObject → Bool
are_same_objects [] = true
are_same_objects (o ∷ os) = list_all (λ other. not (bytes_eq (object_name o) (object_name other)) || same_object o other) os && are_same_objects os

abbrev pub structures_by : CItem → List Structure
structures_by (item.Struct tag members) = record { tag = tag; members = members } ∷ []
structures_by item = []

abbrev pub structures_in : List CFile → List Structure
structures_in files = flat_map (λ file. flat_map structures_by file.items) files

-- structures of one tag have the same members in the same order (6.2.7, 1)
abbrev pub are_same_structures : List Structure → Bool
are_same_structures [] = true
are_same_structures (s ∷ ss) = list_all (λ other. not (bytes_eq s.tag other.tag) || same_objects s.members other.members) ss && are_same_structures ss

-- each statement of a block does
abbrev pub all_do : List Bool → Bool
all_do = list_all (λ does. does)

-- one shape of a statement: whether each function that it calls passes the test
abbrev pub calls_layer : (List ℕ → Bool) → CStmt-F Bool → Bool
calls_layer test (CStmt-F.DeclareCall kind name callee arguments) = test callee
calls_layer test (CStmt-F.AssignCall target callee arguments) = test callee
calls_layer test (CStmt-F.Call callee arguments) = test callee
calls_layer test (CStmt-F.ReturnCall callee arguments) = test callee
calls_layer test (CStmt-F.Block body) = all_do body
calls_layer test (CStmt-F.While condition body) = all_do body
calls_layer test (CStmt-F.If condition then_body) = all_do then_body
calls_layer test (CStmt-F.IfElse condition then_body else_body) = all_do then_body && all_do else_body
calls_layer test stmt = true

abbrev pub calls_only : (List ℕ → Bool) → CStmt → Bool
calls_only test = fold-CStmt Bool (calls_layer test)

abbrev pub item_calls_only : (List ℕ → Bool) → CItem → Bool
item_calls_only test (Function is_static gives name parameters body) = list_all (calls_only test) body
item_calls_only test item = true

-- the library has the function, or the file, or another file that shows it
abbrev pub is_defined : List CFile → CFile → List ℕ → Bool
is_defined files file name = has_name name library || has_name name (functions_of file) || has_name name (externals_of files)

-- whether an item is no declaration of an object that no file defines
abbrev pub declares_defined : List CFile → CItem → Bool
declares_defined files (item.Object is_extern o) = has_object (object_name o) (defined_objects files)
declares_defined files item = true

-- a file without its declarations of objects that no file defines
abbrev pub with_defined : List CFile → CFile → CFile
with_defined files file = record { items = filter (declares_defined files) file.items }

-- A statement: the label that it is, whether it declares an array whose size is no constant, and whether each jump
-- in it leads to one of these labels or to one at the end of a block in it.
pub record Jumps : Type 0 where
  pub label : List (List ℕ)
  pub is_variable : Bool
  pub lead : List (List ℕ) → Bool

-- The label at the end of these statements, if a jump from before them reaches it: none goes past the declaration
-- of an array whose size is no constant (6.8.6.1, 1).
abbrev pub label_behind : List Jumps → List (List ℕ)
label_behind [] = []
label_behind (j ∷ []) = j.label
label_behind (j ∷ k ∷ js) = if j.is_variable then [] else label_behind (k ∷ js)

abbrev pub lead_in : List Jumps → List (List ℕ) → Bool
lead_in [] labels = true
lead_in (j ∷ js) labels = j.lead (label_behind js ++ labels) && lead_in js labels

abbrev pub constant_layer : CExpr-F Bool → Bool
constant_layer (CExpr-F.Constant value) = true
constant_layer e = false

abbrev pub is_constant : CExpr → Bool
is_constant = fold-CExpr Bool constant_layer

-- a statement without labels and jumps
abbrev pub no_jump : Bool → Jumps
no_jump is_variable = record { label = []; is_variable = is_variable; lead = λ labels. true }

abbrev pub inner_jumps : (List (List ℕ) → Bool) → Jumps
inner_jumps lead = record { label = []; is_variable = false; lead = lead }

abbrev pub jumps_layer : CStmt-F Jumps → Jumps
jumps_layer (CStmt-F.DeclareArray kind name size) = no_jump (not (is_constant size))
jumps_layer (CStmt-F.Goto label) = inner_jumps (λ labels. list_any (bytes_eq label) labels)
jumps_layer (CStmt-F.Label name) = record { label = name ∷ []; is_variable = false; lead = λ labels. true }
jumps_layer (CStmt-F.Block body) = inner_jumps (lead_in body)
jumps_layer (CStmt-F.While test body) = inner_jumps (lead_in body)
jumps_layer (CStmt-F.If test then_body) = inner_jumps (lead_in then_body)
jumps_layer (CStmt-F.IfElse test then_body else_body) = inner_jumps (λ labels. lead_in then_body labels && lead_in else_body labels)
jumps_layer stmt = no_jump false

abbrev pub jumps : CStmt → Jumps
jumps = fold-CStmt Jumps jumps_layer

abbrev pub all_labels : List (List (List ℕ)) → List (List ℕ)
all_labels = flat_map (λ labels. labels)

-- the labels in a statement
abbrev pub labels_layer : CStmt-F (List (List ℕ)) → List (List ℕ)
labels_layer (CStmt-F.Label name) = name ∷ []
labels_layer (CStmt-F.Block body) = all_labels body
labels_layer (CStmt-F.While test body) = all_labels body
labels_layer (CStmt-F.If test then_body) = all_labels then_body
labels_layer (CStmt-F.IfElse test then_body else_body) = all_labels then_body ++ all_labels else_body
labels_layer stmt = []

abbrev pub labels : CStmt → List (List ℕ)
labels = fold-CStmt (List (List ℕ)) labels_layer

-- A function has no label twice (6.8.1, 3), and each jump leads to the label at the end of a block around it.
abbrev pub has_right_jumps : CItem → Bool
has_right_jumps (Function is_static gives name parameters body) = are_different (all_labels (map labels body)) && lead_in (map jumps body) []
has_right_jumps item = true

-- `main` takes nothing (5.1.2.2.1)
abbrev pub is_main : Signature → Bool
is_main s = bytes_eq s.name (codes "main") && same_parameters s.takes []

pub record IsProgram (files : List CFile) : Type 0 where
  pub right : IsTrue (list_all is_right_file files)
  -- a file defines each of its functions once, and none of the library's
  pub once : IsTrue (list_all (λ file. are_distinct (library ++ functions_of file)) files)
  -- what files see of each other is defined once, and declared alike
  pub external : IsTrue (are_distinct (externals_of files))
  pub objects : IsTrue (are_different (map object_name (defined_objects files)))
  pub apart : IsTrue (list_all (λ o. not (has_name (object_name o) (shown_in files))) (objects_in files))
  pub agreed : IsTrue (are_agreed (shown_in files))
  pub same : IsTrue (are_same_objects (objects_in files))
  pub structures : IsTrue (are_same_structures (structures_in files))
  -- what a file calls is defined
  pub defined : IsTrue (list_all (λ file. list_all (item_calls_only (is_defined files file)) file.items) files)
  -- an object that a file uses is defined: the file is right also without the declarations of others
  pub used : IsTrue (list_all (λ file. is_right_file (with_defined files file)) files)
  pub jumps : IsTrue (list_all (λ file. list_all has_right_jumps file.items) files)
  pub main : IsTrue (list_any is_main (externals_of files))
