-- What the functions of the prelude do, wherever they are called in a file that begins with it: for which
-- arguments they answer which value, and where they end the program by which trap.
use Rattle.std.specs.Prelude.{◌≡◌, ℕ, zero, suc, ◌+◌, ◌^◌, ◌≤◌, ◌<◌, Bool, true, false, List, [], ◌∷◌, ◌++◌, Option, Some, None, codes, length, if◌then◌else◌, ◌&&◌, pos}
use Rattle.std.specs.Fmt.{signed_decimal}
use Rattle.std.specs.List.{AllByRecursion}
use Rattle.std.specs.Ordering.{int_eq}
use Rattle.std.proofs.Math.IntN.{ℤ}
use Rattle.lf_base.specs.Outcome.{Location, Written, Any}
use Rattle.lf_base.specs.Acts.{Stretch, Going, trap}
use Rattle.lf_base.specs.Order.{Below, Same}
use Rattle.lf_base.specs.Monotone.{SameLocation}
use Rattle.lf_base.specs.Traps.{trap_number, trap_name, trap_text}
use Rattle.lf_base.specs.declared.trap.Trap.{Trap}
use Rattle.lf_base.specs.declared.trap.Trap.TheVariants.{IntegerOverflow}
use Rattle.c_nodes.specs.declared.tree.CItem.{CItem}
use Rattle.c_nodes.specs.declared.tree.CFile.{CFile}
use Rattle.c_nodes.specs.declared.tree.CType.TheVariants.{Int64}
use Rattle.c_nodes.specs.declared.tree.CExpr.TheVariants.{Variable, Constant, Literal}
use Rattle.c_nodes.specs.declared.tree.CStmt.{CStmt}
use Rattle.c_nodes.specs.declared.tree.CStmt.TheVariants.{Assign}
use Rattle.c_semantics.specs.CValues.{Width, W32, W64, Base, Local, Text, Outside, CValue, Number, Pointer, fits}
use Rattle.c_semantics.specs.CState.{Cells, Leads, Around, State, find_name, global_of, object_at, put_object}
use Rattle.c_semantics.specs.CMeaning.{Calls, items_of, calls_of, statements}
use Rattle.c_prelude.specs.Prelude.{prelude_items}

-- The file of this number begins with the prelude.
pub record HasPrelude (files : List CFile) (file : ℕ) : Type 0 where
  pub rest : List CItem
  pub is : items_of file files ≡ prelude_items ++ rest

-- The objects of the file's prelude name this source and this line.
pub record Locates (file : ℕ) (location : Location) (around : Around) : Type 0 where
  pub name : global_of (Some file) (codes "lf_name") around.globals ≡ Some (Leads (Some (Text location.source, 0)))
  pub line : global_of (Some file) (codes "lf_line") around.globals ≡ Some (Cells Int64 false (Some (pos location.line) ∷ []))
  pub short : length location.source < 2 ^ 32
  pub bytes : AllByRecursion (λ b. b < 256) location.source
  pub small : location.line < 2 ^ 32

-- The first stretch goes as far as its bounds let it: it is the second, or it was cut and had written a front of
-- what the second writes.
abbrev pub Reaches : {S A : Type 0} → Stretch S A → Stretch S A → Type 0
Reaches = Below Any SameLocation Same

-- A call within so many turns and so deep does this, and with fewer it is cut on the way there.
pub record Does (files : List CFile) (file turns depth : ℕ) (name : List ℕ) (vs : List CValue) (s : State) (w : Written) (this : Stretch State (Option CValue)) : Type 0 where
  pub enough : (n d : ℕ) → turns ≤ n → depth ≤ d → calls_of files n d file name vs s w ≡ this
  pub every : (n d : ℕ) → Reaches (calls_of files n d file name vs s w) this

-- what a file with the prelude does in a call of one of its functions
abbrev pub Anywhere : ((files : List CFile) (file : ℕ) (s : State) (w : Written) → Type 0) → Type 0
Anywhere law = (files : List CFile) (file : ℕ) → HasPrelude files file → (s : State) (w : Written) → law files file s w

-- the state with further numbers of objects given, whose objects have ended
abbrev pub aged : ℕ → State → State
aged zero s = s
aged (suc k) s = aged k (record { here = s.here; next = suc s.next; memory = s.memory; around = s.around })

-- the end of the program by a trap, told with its location
abbrev pub trapped : Trap → Location → State → Written → Stretch State (Option CValue)
trapped cause location = trap cause (trap_text cause location) None

-- the turns in which a trap's text is written: the longest name of a trap has 19 bytes
abbrev pub trap_turns : Location → ℕ
trap_turns location = 20 + length location.source

-- `lf_trap`: the program ends by the trap of this number and name
abbrev pub Traps : Type 0
Traps = (cause : Trap) (location : Location) (v : Width) → Anywhere (λ files file s w. Locates file location s.around → Does files file (trap_turns location) 1 (codes "lf_trap") (Number v (pos (trap_number cause)) ∷ Pointer (Text (trap_name cause)) 0 ∷ []) s w (trapped cause location s w))

-- `lf_over`: the trap of an overflow
abbrev pub TrapsOver : Type 0
TrapsOver = (location : Location) → Anywhere (λ files file s w. Locates file location s.around → Does files file (trap_turns location) 2 (codes "lf_over") [] s w (trapped IntegerOverflow location s w))

-- a helper that takes numbers of 64 bits and answers one, where it fits this type: else the trap of an overflow
pub record Answers (name : List ℕ) (vs : List CValue) (width : Width) (declares : ℕ) (z : ℤ) : Type 0 where
  pub value : fits width z ≡ true → Anywhere (λ files file s w. Does files file 0 1 name vs s w (Going (Some (Number W64 z)) (aged declares s) w))
  pub trap : fits width z ≡ false → (location : Location) → Anywhere (λ files file s w. Locates file location s.around → Does files file (trap_turns location) 3 name vs s w (trapped IntegerOverflow location s w))

-- a helper of two numbers, which declares so many objects
abbrev pub Combines : List ℕ → ℕ → (ℤ → ℤ → ℤ) → Type 0
Combines name declares f = (v w : Width) (a b : ℤ) → fits W64 a ≡ true → fits W64 b ≡ true → Answers name (Number v a ∷ Number w b ∷ []) W64 declares (f a b)

-- `lf_fit`: the number itself, where 32 bits hold it
abbrev pub Fits : Type 0
Fits = (v : Width) (a : ℤ) → fits W64 a ≡ true → Answers (codes "lf_fit") (Number v a ∷ []) W32 1 a

-- `lf_int`: the number is written in its fewest digits, with a sign if it is negative
abbrev pub WritesInt : Type 0
WritesInt = (v : Width) (z : ℤ) → fits W64 z ≡ true → Anywhere (λ files file s w. Does files file 20 1 (codes "lf_int") (Number v z ∷ []) s w (Going None (aged 4 s) (record { out = w.out ++ signed_decimal z; err = w.err })))

-- The blank before a further item of a record, unless it and the item before are characters: k is 2 for
-- characters and 1 for others, and g is what stands for the item before, 0 before the first.
abbrev pub gap : ℤ → ℤ → List ℕ
gap g k = if int_eq g (pos 0) then [] else (if int_eq g (pos 2) && int_eq k (pos 2) then [] else 32 ∷ [])

-- `lf_gap`: writes the blank and notes the item in an object that is declared
abbrev pub WritesGap : Type 0
WritesGap = (number : ℕ) (is_array : Bool) (g : ℤ) (cells : List (Option ℤ)) (v : Width) (k : ℤ) → fits W64 k ≡ true → Anywhere (λ files file s w. number < s.next → object_at (Local number) s ≡ Some (Cells Int64 is_array (Some g ∷ cells)) → Does files file 0 1 (codes "lf_gap") (Pointer (Local number) 0 ∷ Number v k ∷ []) s w (Going None (aged 2 (put_object (Local number) (Cells Int64 is_array (Some k ∷ cells)) s)) (record { out = w.out ++ gap g k; err = w.err })))

-- A number at an end of the range is answered, and the one behind it is not.
pub record AtEnd (width : Width) (last behind : ℤ) : Type 0 where
  pub value : fits width last ≡ true
  pub trap : fits width behind ≡ false

-- The objects of the file's prelude are there, whatever they hold.
pub record HasLocation (file : ℕ) (around : Around) : Type 0 where
  pub to : Option (Base × ℕ)
  pub last : Option ℤ
  pub name : global_of (Some file) (codes "lf_name") around.globals ≡ Some (Leads to)
  pub line : global_of (Some file) (codes "lf_line") around.globals ≡ Some (Cells Int64 false (last ∷ []))

-- the two statements that tell a trap its location
abbrev pub location_set : Location → List CStmt
location_set location = Assign (Variable (codes "lf_name")) (Literal location.source) ∷ Assign (Variable (codes "lf_line")) (Constant location.line) ∷ []

abbrev pub with_name : List ℕ → State → State
with_name source s = put_object (Outside (Some s.here.file) (codes "lf_name")) (Leads (Some (Text source, 0))) s

abbrev pub with_location : Location → State → State
with_location location s = put_object (Outside (Some s.here.file) (codes "lf_line")) (Cells Int64 false (Some (pos location.line) ∷ [])) (with_name location.source s)

-- In a function that declares neither name, the two statements make the objects name the location, and change nothing
-- else.
pub record SetsLocation (location : Location) (n : ℕ) (calls : Calls) (s : State) (w : Written) : Type 0 where
  pub runs : statements n calls (location_set location) s w ≡ Going None (with_location location s) w
  pub locates : Locates s.here.file location (with_location location s).around

abbrev pub SetsLocations : Type 0
SetsLocations = (location : Location) → length location.source < 2 ^ 32 → AllByRecursion (λ b. b < 256) location.source → location.line < 2 ^ 32 → (n : ℕ) (calls : Calls) (s : State) (w : Written) → HasLocation s.here.file s.around → find_name (codes "lf_name") s.here.names ≡ None → find_name (codes "lf_line") s.here.names ≡ None → SetsLocation location n calls s w
