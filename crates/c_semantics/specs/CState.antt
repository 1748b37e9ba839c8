-- The objects of a C program that runs, those outside functions and those of the functions that are active: names
-- and their scopes (ISO/IEC 9899:1999, 6.2.1), objects and how long they live (6.2.4), structures and their
-- members (6.7.2.1), and access to them (6.5.2.1, 6.5.2.3, 6.5.3.2).
use Rattle.std.specs.Prelude.{ℕ, zero, suc, ◌+◌, ◌-◌, ◌*◌, ◌==◌, ◌&&◌, nat_lt, Bool, true, false, if◌then◌else◌, List, [], ◌∷◌, ◌++◌, map, length, take, drop, replicate, Option, Some, None, pos}
use Rattle.std.specs.Str.{bytes_eq}
use Rattle.std.proofs.Math.IntN.{ℤ}
use Rattle.c_nodes.specs.declared.tree.CType.{CType}
use Rattle.c_nodes.specs.declared.tree.CType.TheVariants.{Int64, Int32, Byte}
use Rattle.c_nodes.specs.declared.tree.CType.TheVariants as type
use Rattle.c_nodes.specs.declared.tree.CObject.{CObject}
use Rattle.c_nodes.specs.declared.tree.CObject.TheVariants.{Single, Array}
use Rattle.c_nodes.specs.declared.tree.CItem.{CItem}
use Rattle.c_nodes.specs.declared.tree.CItem.TheVariants.{Struct, Object, StaticObject, StaticPointer}
use Rattle.c_nodes.specs.declared.tree.CFile.{CFile}
use Rattle.c_semantics.specs.CValues.{Base, Local, Text, Outside, Inside, CValue, Structure, held_as, promoted}

-- what a name stands for: an object of one or more elements, each a number if it was set; one of structures, each
-- with the numbers of its members in order; or a pointer
pub data Slot : Type 0 where
  Cells : (kind : CType) (is_array : Bool) (cells : List (Option ℤ)) → Slot
  Records : (tag : List ℕ) (is_array : Bool) (records : List (List (Option ℤ))) → Slot
  Leads : (to : Option (Base × ℕ)) → Slot

-- a member of a structure: the numbers before it, those in each of its elements, and how many elements it has
pub record Field : Type 0 where
  pub name : List ℕ
  pub kind : CType
  pub is_array : Bool
  pub before : ℕ
  pub size : ℕ
  pub count : ℕ

-- a structure, its members, and the numbers in it
pub record Layout : Type 0 where
  pub tag : List ℕ
  pub fields : List Field
  pub size : ℕ

-- a declared name, with the number of its object
pub record Declared : Type 0 where
  pub name : List ℕ
  pub number : ℕ

-- the content of the object that has this number
pub record Stored : Type 0 where
  pub number : ℕ
  pub slot : Slot

-- an object outside functions; `file` is its file where it is static
pub record Global : Type 0 where
  pub file : Option ℕ
  pub name : List ℕ
  pub slot : Slot

-- the function that runs: its file, and the names that are declared in it, the newest in front
pub record Frame : Type 0 where
  pub file : ℕ
  pub names : List Declared

-- what all functions share: the structures, the objects outside functions, and the input that is left
pub record Around : Type 0 where
  pub layouts : List Layout
  pub globals : List Global
  pub input : List ℕ

-- The function that runs; the number of the next object; the objects that live, the newest in front; and what is
-- around all functions. A number is given once, so a pointer means the same object wherever it is handed.
pub record State : Type 0 where
  pub here : Frame
  pub next : ℕ
  pub memory : List Stored
  pub around : Around

abbrev pub find_name : List ℕ → List Declared → Option Declared
find_name name [] = None
find_name name (d ∷ ds) = if bytes_eq d.name name then Some d else find_name name ds

abbrev pub slot_of : ℕ → List Stored → Option Slot
slot_of number [] = None
slot_of number (o ∷ os) = if o.number == number then Some o.slot else slot_of number os

abbrev pub same_file : Option ℕ → Option ℕ → Bool
same_file None None = true
same_file (Some a) (Some b) = a == b
same_file a b = false

abbrev pub is_global : Option ℕ → List ℕ → Global → Bool
is_global file name g = bytes_eq g.name name && same_file g.file file

abbrev pub global_of : Option ℕ → List ℕ → List Global → Option Slot
global_of file name [] = None
global_of file name (g ∷ gs) = if is_global file name g then Some g.slot else global_of file name gs

abbrev pub nth : {A : Type 0} → ℕ → List A → Option A
nth n [] = None
nth zero (x ∷ xs) = Some x
nth (suc n) (x ∷ xs) = nth n xs

abbrev pub set_nth : {A : Type 0} → ℕ → A → List A → List A
set_nth n x [] = []
set_nth zero x (y ∷ ys) = x ∷ ys
set_nth (suc n) x (y ∷ ys) = y ∷ set_nth n x ys

-- the members of a structure
abbrev pub fields_of : List ℕ → List Layout → List Field
fields_of tag [] = []
fields_of tag (l ∷ ls) = if bytes_eq l.tag tag then l.fields else fields_of tag ls

-- the numbers in a structure
abbrev pub size_of : List ℕ → List Layout → ℕ
size_of tag [] = 0
size_of tag (l ∷ ls) = if bytes_eq l.tag tag then l.size else size_of tag ls

-- the numbers in an object of this type that is no array
abbrev pub cells_in : List Layout → CType → ℕ
cells_in layouts Int64 = 1
cells_in layouts Int32 = 1
cells_in layouts Byte = 1
cells_in layouts (type.Struct tag) = size_of tag layouts

abbrev pub laid_out : List Layout → CObject → ℕ → Field
laid_out layouts (Single kind name) before = record { name = name; kind = kind; is_array = false; before = before; size = cells_in layouts kind; count = 1 }
laid_out layouts (Array kind name n) before = record { name = name; kind = kind; is_array = true; before = before; size = cells_in layouts kind; count = n }

abbrev pub behind : Field → ℕ
behind f = f.before + f.size * f.count

-- members one behind another, from so many numbers on
abbrev pub fields_from : List Layout → List CObject → ℕ → List Field
fields_from layouts [] before = []
fields_from layouts (o ∷ os) before = laid_out layouts o before ∷ fields_from layouts os (behind (laid_out layouts o before))

abbrev pub end_of : List Field → ℕ
end_of [] = 0
end_of (f ∷ []) = behind f
end_of (f ∷ g ∷ fs) = end_of (g ∷ fs)

abbrev pub layout : List Layout → List ℕ → List CObject → Layout
layout layouts tag members = record { tag = tag; fields = fields_from layouts members 0; size = end_of (fields_from layouts members 0) }

-- the structures that items declare, behind those that are declared before them
abbrev pub layouts_of : List CItem → List Layout → List Layout
layouts_of [] layouts = layouts
layouts_of (Struct tag members ∷ items) layouts = layouts_of items (layout layouts tag members ∷ layouts)
layouts_of (item ∷ items) layouts = layouts_of items layouts

-- so many elements of a type, each number of which is this
abbrev pub filled_with : Option ℤ → List Layout → CType → Bool → ℕ → Slot
filled_with z layouts (type.Struct tag) is_array n = Records tag is_array (replicate n (replicate (size_of tag layouts) z))
filled_with z layouts kind is_array n = Cells kind is_array (replicate n z)

-- An object outside functions begins as zero (6.7.8, 10).
abbrev pub as_zero : List Layout → Option ℕ → CObject → Global
as_zero layouts file (Single kind name) = record { file = file; name = name; slot = filled_with (Some (pos 0)) layouts kind false 1 }
as_zero layouts file (Array kind name n) = record { file = file; name = name; slot = filled_with (Some (pos 0)) layouts kind true n }

-- The objects that the items of a file define; `extern` declares one that is defined elsewhere (6.2.2, 6.9.2). A
-- static pointer begins as one to no object.
abbrev pub globals_of : List Layout → ℕ → List CItem → List Global
globals_of layouts file [] = []
globals_of layouts file (Object false object ∷ items) = as_zero layouts None object ∷ globals_of layouts file items
globals_of layouts file (StaticObject kind name ∷ items) = as_zero layouts (Some file) (Single kind name) ∷ globals_of layouts file items
globals_of layouts file (StaticPointer kind name ∷ items) = record { file = Some file; name = name; slot = Leads None } ∷ globals_of layouts file items
globals_of layouts file (item ∷ items) = globals_of layouts file items

-- the objects that files define, the first of which has this number
abbrev pub all_globals : List Layout → ℕ → List CFile → List Global
all_globals layouts file [] = []
all_globals layouts file (f ∷ fs) = globals_of layouts file f.items ++ all_globals layouts (suc file) fs

-- An object in a block begins with no number set (6.7.8, 10).
abbrev pub unset : CType → Bool → ℕ → State → Slot
unset kind is_array n s = filled_with None s.around.layouts kind is_array n

-- a literal's bytes and the 0 behind them
abbrev pub literal : List ℕ → List (Option ℤ)
literal bytes = map (λ b. Some (pos b)) bytes ++ Some (pos 0) ∷ []

abbrev pub field_of : List ℕ → List Field → Option Field
field_of name [] = None
field_of name (f ∷ fs) = if bytes_eq f.name name then Some f else field_of name fs

-- so many pieces of a length
abbrev pub pieces : {A : Type 0} → ℕ → ℕ → List A → List (List A)
pieces zero size xs = []
pieces (suc n) size xs = take size xs ∷ pieces n size (drop size xs)

abbrev pub shaped : CType → Bool → ℕ → ℕ → List (Option ℤ) → Slot
shaped (type.Struct tag) is_array size count cells = Records tag is_array (pieces count size cells)
shaped kind is_array size count cells = Cells kind is_array cells

-- a member, of the numbers of its structure
abbrev pub member_in : Option Field → Option (List (Option ℤ)) → Option Slot
member_in (Some f) (Some cells) = Some (shaped f.kind f.is_array f.size f.count (take (f.size * f.count) (drop f.before cells)))
member_in f cells = None

abbrev pub member_of : List Layout → ℕ → List ℕ → Option Slot → Option Slot
member_of layouts offset name (Some (Records tag is_array records)) = member_in (field_of name (fields_of tag layouts)) (nth offset records)
member_of layouts offset name slot = None

-- the object into which a pointer leads, while it lives
abbrev pub object_at : Base → State → Option Slot
object_at (Local number) s = slot_of number s.memory
object_at (Text bytes) s = Some (Cells Byte true (literal bytes))
object_at (Outside file name) s = global_of file name s.around.globals
object_at (Inside whole offset member) s = member_of s.around.layouts offset member (object_at whole s)

-- the element's value, if its object lives, has it, and it was set
abbrev pub element : CType → Option (Option ℤ) → Option CValue
element kind None = None
element kind (Some None) = None
element kind (Some (Some z)) = promoted kind z

-- A structure is its members, set or not: copying it reads none of them (6.5.16.1, 6.2.6.1, 6).
abbrev pub structure : List ℕ → Option (List (Option ℤ)) → Option CValue
structure tag None = None
structure tag (Some cells) = Some (Structure tag cells)

abbrev pub read_from : ℕ → Option Slot → Option CValue
read_from offset None = None
read_from offset (Some (Cells kind is_array cells)) = element kind (nth offset cells)
read_from offset (Some (Records tag is_array records)) = structure tag (nth offset records)
read_from offset (Some (Leads to)) = None

abbrev pub read_at : Base → ℕ → State → Option CValue
read_at base offset s = read_from offset (object_at base s)

abbrev pub with_slot : ℕ → Slot → List Stored → List Stored
with_slot number slot [] = []
with_slot number slot (o ∷ os) = if o.number == number then (record { number = o.number; slot = slot } ∷ os) else (o ∷ with_slot number slot os)

abbrev pub with_global : Option ℕ → List ℕ → Slot → List Global → List Global
with_global file name slot [] = []
with_global file name slot (g ∷ gs) = if is_global file name g then (record { file = g.file; name = name; slot = slot } ∷ gs) else (g ∷ with_global file name slot gs)

abbrev pub in_around : Option ℕ → List ℕ → Slot → Around → Around
in_around file name slot a = record { layouts = a.layouts; globals = with_global file name slot a.globals; input = a.input }

-- the numbers of an object, in order
abbrev pub all_in : List (List (Option ℤ)) → List (Option ℤ)
all_in [] = []
all_in (cells ∷ more) = cells ++ all_in more

abbrev pub cells_of : Slot → List (Option ℤ)
cells_of (Cells kind is_array cells) = cells
cells_of (Records tag is_array records) = all_in records
cells_of (Leads to) = []

-- a structure whose member has this content
abbrev pub with_part : Option Field → Slot → Option (List (Option ℤ)) → Option (List (Option ℤ))
with_part (Some f) slot (Some cells) = Some (take f.before cells ++ cells_of slot ++ drop (behind f) cells)
with_part f slot cells = None

abbrev pub with_record : List ℕ → Bool → List (List (Option ℤ)) → ℕ → Option (List (Option ℤ)) → Option Slot
with_record tag is_array records offset None = None
with_record tag is_array records offset (Some cells) = Some (Records tag is_array (set_nth offset cells records))

abbrev pub with_member : List Layout → ℕ → List ℕ → Slot → Option Slot → Option Slot
with_member layouts offset name slot (Some (Records tag is_array records)) = with_record tag is_array records offset (with_part (field_of name (fields_of tag layouts)) slot (nth offset records))
with_member layouts offset name slot whole = None

abbrev pub put_some : (Slot → State → State) → Option Slot → State → State
put_some put None s = s
put_some put (Some slot) s = put slot s

-- the object has this content
abbrev pub put_object : Base → Slot → State → State
put_object (Local number) slot s = record { here = s.here; next = s.next; memory = with_slot number slot s.memory; around = s.around }
put_object (Text bytes) slot s = s
put_object (Outside file name) slot s = record { here = s.here; next = s.next; memory = s.memory; around = in_around file name slot s.around }
put_object (Inside whole offset member) slot s = put_some (put_object whole) (with_member s.around.layouts offset member slot (object_at whole s)) s

abbrev pub stored : CType → Bool → List (Option ℤ) → ℕ → Option ℤ → Option Slot
stored kind is_array cells offset None = None
stored kind is_array cells offset (Some z) = if nat_lt offset (length cells) then Some (Cells kind is_array (set_nth offset (Some z) cells)) else None

abbrev pub write_to : ℕ → ℤ → Option Slot → Option Slot
write_to offset z None = None
write_to offset z (Some (Cells kind is_array cells)) = stored kind is_array cells offset (held_as kind z)
write_to offset z (Some (Records tag is_array records)) = None
write_to offset z (Some (Leads to)) = None

abbrev pub put_written : Base → Option Slot → State → Option State
put_written base None s = None
put_written base (Some slot) s = Some (put_object base slot s)

-- A number is stored into an element; a literal is not written (6.4.5, 6).
abbrev pub write_at : Base → ℕ → ℤ → State → Option State
write_at (Text bytes) offset z s = None
write_at base offset z s = put_written base (write_to offset z (object_at base s)) s

-- A structure is stored into an element of its type (6.5.16.1, 1).
abbrev pub copied_to : ℕ → List ℕ → List (Option ℤ) → Option Slot → Option Slot
copied_to offset tag cells (Some (Records other is_array records)) = if bytes_eq other tag && nat_lt offset (length records) then Some (Records other is_array (set_nth offset cells records)) else None
copied_to offset tag cells slot = None

abbrev pub copy_at : Base → ℕ → List ℕ → List (Option ℤ) → State → Option State
copy_at base offset tag cells s = put_written base (copied_to offset tag cells (object_at base s)) s

-- A name is declared in the innermost block, for an object that begins to live.
abbrev pub declare : List ℕ → Slot → State → State
declare name slot s = record { here = record { file = s.here.file; names = record { name = name; number = s.next } ∷ s.here.names }; next = suc s.next; memory = record { number = s.next; slot = slot } ∷ s.memory; around = s.around }

-- The names that a block or a function declared, and their objects, end with it (6.2.1, 4; 6.2.4, 5).
abbrev pub closed : State → State → State
closed before after = record { here = before.here; next = after.next; memory = drop (length after.memory - length before.memory) after.memory; around = after.around }
