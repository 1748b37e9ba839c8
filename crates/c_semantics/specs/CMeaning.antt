-- What C files that are one program do: expressions (ISO/IEC 9899:1999, 6.5), declarations in blocks
-- (6.7.8), statements (6.8), calls (6.5.2.2, 6.9.1), objects outside functions (6.2.2, 6.9.2), the start and the
-- end of a program (5.1.2.2) and the library's `putchar`, `getchar`, `fputc` to `stderr` and `exit` (7.19.7,
-- 7.20.4.3). What the standard leaves undefined is Undefined. `n` bounds the turns of one execution of a
-- `while`, `d` the depth of calls.
use Rattle.std.specs.Prelude.{ℕ, zero, suc, ◌+◌, ◌-◌, nat_le, nat_lt, Bool, true, false, not, if◌then◌else◌, List, [], ◌∷◌, map, length, Option, Some, None, pos, negsuc, codes, unsigned_abs}
use Rattle.std.specs.Int.{int_rem_euclid}
use Rattle.std.specs.List.{flat_map}
use Rattle.std.specs.Str.{bytes_eq}
use Rattle.std.proofs.Math.IntN.{ℤ}
use Rattle.lf_base.specs.Outcome.{Meaning, Undefined, written}
use Rattle.lf_base.specs.Acts.{Act, bind, give, look, change, print, complain, stop, cut, wrong, given, in_order, within, iterate, outcome_of}
use Rattle.c_nodes.specs.declared.tree.CType.{CType}
use Rattle.c_nodes.specs.declared.tree.CResult.{CResult}
use Rattle.c_nodes.specs.declared.tree.CResult.TheVariants as result
use Rattle.c_nodes.specs.declared.tree.CParameter.{CParameter}
use Rattle.c_nodes.specs.declared.tree.CParameter.TheVariants as parameter
use Rattle.c_nodes.specs.declared.tree.CBinary.TheVariants.{And, Or}
use Rattle.c_nodes.specs.declared.tree.CBinary.{CBinary}
use Rattle.c_nodes.specs.declared.tree.CExpr.{CExpr, CExpr-F, fold-CExpr}
use Rattle.c_nodes.specs.declared.tree.CStmt.{CStmt, CStmt-F, fold-CStmt}
use Rattle.c_nodes.specs.declared.tree.CItem.{CItem}
use Rattle.c_nodes.specs.declared.tree.CItem.TheVariants.{Function}
use Rattle.c_nodes.specs.declared.tree.CFile.{CFile}
use Rattle.c_semantics.specs.CValues.{W32, W64, Base, Local, Text, Outside, Inside, CValue, Number, Pointer, Errors, Structure, greatest64, least64, is_zero, binary, both, either, negated, denied, constant, held_as, cast_to, to_int}
use Rattle.c_semantics.specs.CState.{Slot, Cells, Records, Leads, Declared, Around, State, find_name, layouts_of, all_globals, unset, object_at, read_at, write_at, copy_at, put_object, declare, closed}

-- what an expression designates, if it designates an object: an element, a whole array, or a pointer
pub data Designated : Type 0 where
  Element : (base : Base) (offset : ℕ) → Designated
  Whole : (base : Base) → Designated
  Variable : (base : Base) (to : Option (Base × ℕ)) → Designated

-- an expression, which changes nothing: its value and what it designates
pub record Reading : Type 0 where
  pub value : State → Option CValue
  pub place : State → Option Designated

abbrev pub whole_or_element : Base → Bool → Designated
whole_or_element base true = Whole base
whole_or_element base false = Element base 0

-- an object of this content
abbrev pub by_content : Base → Option Slot → Option Designated
by_content base None = None
by_content base (Some (Cells kind is_array cells)) = Some (whole_or_element base is_array)
by_content base (Some (Records tag is_array records)) = Some (whole_or_element base is_array)
by_content base (Some (Leads to)) = Some (Variable base to)

abbrev pub designated : Base → State → Option Designated
designated base s = by_content base (object_at base s)

abbrev pub first_designated : Option Designated → Option Designated → Option Designated
first_designated None d = d
first_designated (Some d) e = Some d

-- What a name designates: what the function declares under it, else a static object of its file, else an object that
-- all files share (6.2.1, 4; 6.2.2).
abbrev pub named : List ℕ → Option Declared → State → Option Designated
named name (Some d) s = designated (Local d.number) s
named name None s = first_designated (designated (Outside (Some s.here.file) name) s) (designated (Outside None name) s)

-- A pointer is a value while the object lives into which it leads (6.2.4, 2).
abbrev pub while_alive : Option Slot → CValue → Option CValue
while_alive None v = None
while_alive (Some slot) v = Some v

abbrev pub pointed : Option (Base × ℕ) → State → Option CValue
pointed None s = None
pointed (Some p) s = while_alive (object_at p.0 s) (Pointer p.0 p.1)

-- the value of what is designated; an array is a pointer to its first element (6.3.2.1, 3)
abbrev pub value_at : Option Designated → State → Option CValue
value_at None s = None
value_at (Some (Element base offset)) s = read_at base offset s
value_at (Some (Whole base)) s = Some (Pointer base 0)
value_at (Some (Variable base to)) s = pointed to s

abbrev pub natural : Base → ℕ → ℤ → Option Designated
natural base offset (pos n) = Some (Element base (offset + n))
natural base offset (negsuc n) = if nat_lt n offset then Some (Element base (offset - (n + 1))) else None

-- an element from a pointer (6.5.2.1)
abbrev pub indexed : Option CValue → Option CValue → Option Designated
indexed (Some (Pointer base offset)) (Some (Number w z)) = natural base offset z
indexed a b = None

abbrev pub within_object : Base → ℕ → Option Slot → Option CValue
within_object base offset (Some (Cells kind is_array cells)) = if nat_le offset (length cells) then Some (Pointer base offset) else None
within_object base offset (Some (Records tag is_array records)) = if nat_le offset (length records) then Some (Pointer base offset) else None
within_object base offset o = None

-- the address of an element, or of the place behind the last (6.5.3.2, 3; 6.5.6, 8)
abbrev pub address_of : Option Designated → State → Option CValue
address_of (Some (Element base offset)) s = within_object base offset (object_at base s)
address_of o s = None

-- a member of a structure (6.5.2.3, 3)
abbrev pub member_at : List ℕ → Option Designated → State → Option Designated
member_at name (Some (Element base offset)) s = by_content (Inside base offset name) (object_at (Inside base offset name) s)
member_at name o s = None

abbrev pub nowhere : State → Option Designated
nowhere s = None

abbrev pub only_value : (State → Option CValue) → Reading
only_value value = record { value = value; place = nowhere }

abbrev pub at_place : (State → Option Designated) → Reading
at_place place = record { value = λ s. value_at (place s) s; place = place }

abbrev pub variable_value : List ℕ → Option Declared → State → Option CValue
variable_value name None s = if bytes_eq name (codes "stderr") then Some Errors else value_at (named name None s) s
variable_value name (Some d) s = value_at (named name (Some d) s) s

abbrev pub binary_value : CBinary → Reading → Reading → State → Option CValue
binary_value And a b s = both (a.value s) (b.value s)
binary_value Or a b s = either (a.value s) (b.value s)
binary_value operator a b s = binary operator (a.value s) (b.value s)

abbrev pub reading_layer : CExpr-F Reading → Reading
reading_layer (CExpr-F.Variable name) = record { value = λ s. variable_value name (find_name name s.here.names) s; place = λ s. named name (find_name name s.here.names) s }
reading_layer (CExpr-F.Index base subscript) = at_place (λ s. indexed (base.value s) (subscript.value s))
reading_layer (CExpr-F.Member base name) = at_place (λ s. member_at name (base.place s) s)
reading_layer (CExpr-F.Constant n) = only_value (λ s. constant n)
reading_layer CExpr-F.Greatest = only_value (λ s. Some (Number W64 greatest64))
reading_layer CExpr-F.Least = only_value (λ s. Some (Number W64 least64))
reading_layer (CExpr-F.Paren inner) = only_value inner.value
reading_layer (CExpr-F.Negate operand) = only_value (λ s. negated (operand.value s))
reading_layer (CExpr-F.Not operand) = only_value (λ s. denied (operand.value s))
reading_layer (CExpr-F.Binary operator left right) = only_value (binary_value operator left right)
reading_layer (CExpr-F.Cast kind operand) = only_value (λ s. cast_to kind (operand.value s))
reading_layer (CExpr-F.ToInt operand) = only_value (λ s. to_int (operand.value s))
reading_layer (CExpr-F.Address place) = only_value (λ s. address_of (place.place s) s)
reading_layer (CExpr-F.Literal bytes) = only_value (λ s. Some (Pointer (Text bytes) 0))

abbrev pub reading : CExpr → Reading
reading = fold-CExpr Reading reading_layer

-- the value of an expression now, and what it designates
abbrev pub value_of : CExpr → Act State CValue
value_of e = bind (look (λ s. (reading e).value s)) (given Undefined)

abbrev pub place_of : CExpr → Act State Designated
place_of e = bind (look (λ s. (reading e).place s)) (given Undefined)

abbrev pub in_front : CValue → Option (List CValue) → Option (List CValue)
in_front v None = None
in_front v (Some vs) = Some (v ∷ vs)

abbrev pub all_given : List (Option CValue) → Option (List CValue)
all_given [] = Some []
all_given (None ∷ vs) = None
all_given (Some v ∷ vs) = in_front v (all_given vs)

-- the arguments of a call, none of which changes anything
abbrev pub arguments_of : List CExpr → Act State (List CValue)
arguments_of es = bind (look (λ s. all_given (map (λ e. (reading e).value s) es))) (given Undefined)

-- the state becomes another, where there is one
abbrev pub become : Option State → Act State (Unit {0})
become o = bind (given Undefined o) (λ s. change (λ _. s))

-- a value is stored as by assignment (6.5.16.1)
abbrev pub stored_in : Designated → CValue → State → Option State
stored_in (Element base offset) (Number w z) s = write_at base offset z s
stored_in (Element base offset) (Structure tag cells) s = copy_at base offset tag cells s
stored_in (Variable object to) (Pointer base offset) s = Some (put_object object (Leads (Some (base, offset))) s)
stored_in p v s = None

abbrev pub store : Designated → CValue → Act State (Unit {0})
store p v = bind (look (stored_in p v)) become

-- how a statement is left, if not for the next one: by a return, or by a jump that has not reached its label
pub data Flow : Type 0 where
  Returned : (value : Option CValue) → Flow
  Jumped : (label : List ℕ) → Flow

abbrev pub Doing : Type 0
Doing = Act State (Option Flow)

-- a statement: its name, if it is a label, and what it does
pub record Clause : Type 0 where
  pub label : Option (List ℕ)
  pub does : Doing

-- what a function of the program does with arguments, and what it answers
abbrev pub Calls : Type 0
Calls = List ℕ → List CValue → Act State (Option CValue)

abbrev pub then_next : Act State (Unit {0}) → Doing
then_next act = bind act (λ u. give None)

-- the number of elements of an array is at least one (6.7.5.2, 5)
abbrev pub room : CType → CValue → State → Option Slot
room kind (Number w (pos (suc n))) s = Some (unset kind true (suc n) s)
room kind v s = None

-- an object that is no array is declared
abbrev pub begin_object : CType → List ℕ → State → State
begin_object kind name s = declare name (unset kind false 1 s) s

abbrev pub begin_array : CType → List ℕ → CValue → Act State (Unit {0})
begin_array kind name v = bind (bind (look (room kind v)) (given Undefined)) (λ slot. change (declare name slot))

abbrev pub by_names : List Declared → State → Option Designated
by_names [] s = None
by_names (d ∷ ds) s = designated (Local d.number) s

-- the object of the name that was declared last
abbrev pub newest : State → Option Designated
newest s = by_names s.here.names s

-- the declared object gets a value
abbrev pub initialize : CValue → Act State (Unit {0})
initialize v = bind (bind (look newest) (given Undefined)) (λ p. store p v)

-- what a call answers, where a value is wanted
abbrev pub answer : Calls → List ℕ → List CExpr → Act State (Option CValue)
answer calls callee arguments = bind (arguments_of arguments) (calls callee)

abbrev pub answered : Calls → List ℕ → List CExpr → Act State CValue
answered calls callee arguments = bind (answer calls callee arguments) (given Undefined)

-- a test holds where its value is not zero (6.8.4.1, 2)
abbrev pub holds : CValue → Option Bool
holds (Number w z) = Some (not (is_zero z))
holds v = None

abbrev pub tested : CExpr → Act State Bool
tested e = bind (value_of e) (λ v. given Undefined (holds v))

abbrev pub choose : Doing → Doing → Bool → Doing
choose a b true = a
choose a b false = b

-- the label that stands last in a block
abbrev pub last_label : List Clause → Option (List ℕ)
last_label [] = None
last_label (c ∷ []) = c.label
last_label (c ∷ d ∷ cs) = last_label (d ∷ cs)

-- A jump to the label at the end of a block ends the block, and what stands behind it follows (6.8.6.1, 2).
abbrev pub landed : Option (List ℕ) → Option Flow → Option Flow
landed label None = None
landed label (Some (Returned v)) = Some (Returned v)
landed None (Some (Jumped to)) = Some (Jumped to)
landed (Some name) (Some (Jumped to)) = if bytes_eq name to then None else Some (Jumped to)

-- statements with the scope of their own that a block is (6.8.2), and the label at its end
abbrev pub block : List Clause → Doing
block body = bind (within (λ s. s) closed (in_order (map (λ c. c.does) body))) (λ flow. give (landed (last_label body) flow))

abbrev pub statement_layer : ℕ → Calls → CStmt-F Clause → Doing
statement_layer n calls (CStmt-F.Declare kind name) = then_next (change (begin_object kind name))
statement_layer n calls (CStmt-F.DeclareArray kind name size) = then_next (bind (value_of size) (begin_array kind name))
statement_layer n calls (CStmt-F.DeclareValue kind name value) = then_next (bind (change (begin_object kind name)) (λ u. bind (value_of value) initialize))
statement_layer n calls (CStmt-F.DeclarePointer kind name value) = then_next (bind (change (declare name (Leads None))) (λ u. bind (value_of value) initialize))
statement_layer n calls (CStmt-F.DeclareCall kind name callee arguments) = then_next (bind (change (begin_object kind name)) (λ u. bind (answered calls callee arguments) initialize))
statement_layer n calls (CStmt-F.Assign target value) = then_next (bind (value_of value) (λ v. bind (place_of target) (λ p. store p v)))
statement_layer n calls (CStmt-F.AssignCall target callee arguments) = then_next (bind (answered calls callee arguments) (λ v. bind (place_of target) (λ p. store p v)))
statement_layer n calls (CStmt-F.Call callee arguments) = bind (answer calls callee arguments) (λ v. give None)
statement_layer n calls CStmt-F.Return = give (Some (Returned None))
statement_layer n calls (CStmt-F.ReturnValue value) = bind (value_of value) (λ v. give (Some (Returned (Some v))))
statement_layer n calls (CStmt-F.ReturnCall callee arguments) = bind (answered calls callee arguments) (λ v. give (Some (Returned (Some v))))
statement_layer n calls (CStmt-F.Goto label) = give (Some (Jumped label))
statement_layer n calls (CStmt-F.Label name) = give None
statement_layer n calls (CStmt-F.Block body) = block body
statement_layer n calls (CStmt-F.While test body) = iterate n (tested test) (block body)
statement_layer n calls (CStmt-F.If test then_body) = bind (tested test) (choose (block then_body) (give None))
statement_layer n calls (CStmt-F.IfElse test then_body else_body) = bind (tested test) (choose (block then_body) (block else_body))

abbrev pub label_layer : CStmt-F Clause → Option (List ℕ)
label_layer (CStmt-F.Label name) = Some name
label_layer s = None

abbrev pub clause_layer : ℕ → Calls → CStmt-F Clause → Clause
clause_layer n calls s = record { label = label_layer s; does = statement_layer n calls s }

abbrev pub clause : ℕ → Calls → CStmt → Clause
clause n calls = fold-CStmt Clause (clause_layer n calls)

abbrev pub statement : ℕ → Calls → CStmt → Doing
statement n calls s = (clause n calls s).does

abbrev pub statements : ℕ → Calls → List CStmt → Doing
statements n calls body = in_order (map (statement n calls) body)

-- a function of the program: the number of its file, and its definition
pub record Procedure : Type 0 where
  pub file : ℕ
  pub result : CResult
  pub parameters : List CParameter
  pub body : List CStmt

abbrev pub holding : CType → Option ℤ → Option Slot
holding kind None = None
holding kind (Some z) = Some (Cells kind false (Some z ∷ []))

-- what a parameter stands for: the argument, as by assignment (6.5.2.2, 7; 6.9.1, 10)
abbrev pub parameter_slot : CParameter → CValue → Option Slot
parameter_slot (parameter.Value kind name) (Number w z) = holding kind (held_as kind z)
parameter_slot (parameter.Pointer kind name) (Pointer base offset) = Some (Leads (Some (base, offset)))
parameter_slot p v = None

abbrev pub parameter_name : CParameter → List ℕ
parameter_name (parameter.Value kind name) = name
parameter_name (parameter.Pointer kind name) = name

abbrev pub bound : List ℕ → Option Slot → State → Option State
bound name None s = None
bound name (Some slot) s = Some (declare name slot s)

-- the parameters with their arguments, one for each
abbrev pub bound_all : List CParameter → List CValue → Option State → Option State
bound_all ps vs None = None
bound_all [] [] (Some s) = Some s
bound_all (p ∷ ps) (v ∷ vs) (Some s) = bound_all ps vs (bound (parameter_name p) (parameter_slot p v) s)
bound_all ps vs (Some s) = None

-- the function runs, and no name of its caller is one of its own
abbrev pub started : ℕ → State → State
started file s = record { here = record { file = file; names = [] }; next = s.next; memory = s.memory; around = s.around }

abbrev pub entering : Procedure → List CValue → State → Option State
entering p vs s = bound_all p.parameters vs (Some (started p.file s))

abbrev pub returned_number : CResult → CValue → Option CValue
returned_number result.Void v = None
returned_number result.Int64 (Number w z) = Some (Number W64 z)
returned_number result.Int v = to_int (Some v)
returned_number result.Int64 v = None

-- The value that the caller gets, converted as by assignment (6.8.6.4, 3); none without one. A jump that no block
-- has ended is one to the label at the end of the body (6.9.1, 12).
abbrev pub returned : CResult → Option Flow → Option CValue
returned r None = None
returned r (Some (Jumped label)) = None
returned r (Some (Returned None)) = None
returned r (Some (Returned (Some v))) = returned_number r v

abbrev pub called : ℕ → Calls → Procedure → State → Act State (Option CValue)
called n calls p inner = within (λ s. inner) closed (bind (statements n calls p.body) (λ flow. give (returned p.result flow)))

abbrev pub call : ℕ → Calls → Procedure → List CValue → Act State (Option CValue)
call n calls p vs = bind (bind (look (entering p vs)) (given Undefined)) (called n calls p)

-- a static function belongs to its file (6.2.2, 3)
abbrev pub of_linkage : Bool → Bool → Procedure → Option Procedure → Option Procedure
of_linkage true false p more = more
of_linkage s t p more = Some p

abbrev pub function_in : List ℕ → Bool → ℕ → List CItem → Option Procedure
function_in name statics file [] = None
function_in name statics file (Function s r m ps body ∷ items) = if bytes_eq m name then of_linkage s statics (record { file = file; result = r; parameters = ps; body = body }) (function_in name statics file items) else function_in name statics file items
function_in name statics file (item ∷ items) = function_in name statics file items

abbrev pub items_of : ℕ → List CFile → List CItem
items_of n [] = []
items_of zero (file ∷ files) = file.items
items_of (suc n) (file ∷ files) = items_of n files

abbrev pub first_of : Option Procedure → Option Procedure → Option Procedure
first_of None p = p
first_of (Some p) q = Some p

abbrev pub external_in : List ℕ → ℕ → List CFile → Option Procedure
external_in name file [] = None
external_in name file (f ∷ files) = first_of (function_in name false file f.items) (external_in name (suc file) files)

-- the function that a name means in a file (6.2.2)
abbrev pub function_of : List CFile → ℕ → List ℕ → Option Procedure
function_of files file name = first_of (function_in name true file (items_of file files)) (external_in name 0 files)

-- the byte that a number is written as (7.19.7.3, 2)
abbrev pub byte_of : ℤ → ℕ
byte_of z = unsigned_abs (int_rem_euclid z (pos 256))

abbrev pub next_byte : List ℕ → Option CValue
next_byte [] = Some (Number W32 (negsuc 0))
next_byte (b ∷ bs) = Some (Number W32 (pos b))

abbrev pub by_input : List ℕ → List ℕ
by_input [] = []
by_input (b ∷ bs) = bs

abbrev pub without_first : State → State
without_first s = record { here = s.here; next = s.next; memory = s.memory; around = record { layouts = s.around.layouts; globals = s.around.globals; input = by_input s.around.input } }

abbrev pub on_int : Option CValue → (ℤ → Act State (Option CValue)) → Act State (Option CValue)
on_int (Some (Number w z)) go = go z
on_int o go = wrong Undefined

abbrev pub written_byte : ℤ → Option CValue
written_byte z = Some (Number W32 (pos (byte_of z)))

abbrev pub put_out : List CValue → Act State (Option CValue)
put_out (v ∷ []) = on_int (to_int (Some v)) (λ z. bind (print (byte_of z ∷ [])) (λ u. give (written_byte z)))
put_out vs = wrong Undefined

abbrev pub put_error : List CValue → Act State (Option CValue)
put_error (v ∷ Errors ∷ []) = on_int (to_int (Some v)) (λ z. bind (complain (byte_of z ∷ [])) (λ u. give (written_byte z)))
put_error vs = wrong Undefined

abbrev pub get_byte : List CValue → Act State (Option CValue)
get_byte [] = bind (look (λ s. next_byte s.around.input)) (λ v. bind (change without_first) (λ u. give v))
get_byte vs = wrong Undefined

abbrev pub leave : List CValue → Act State (Option CValue)
leave (v ∷ []) = on_int (to_int (Some v)) (λ z. stop (byte_of z))
leave vs = wrong Undefined

-- the library's functions, and for every other name what the program has
abbrev pub library_or : Calls → Calls
library_or more name vs =
    if bytes_eq name (codes "putchar") then put_out vs
    else if bytes_eq name (codes "fputc") then put_error vs
    else if bytes_eq name (codes "getchar") then get_byte vs
    else if bytes_eq name (codes "exit") then leave vs
    else more name vs

abbrev pub on_procedure : Option Procedure → (Procedure → Act State (Option CValue)) → Act State (Option CValue)
on_procedure None go = wrong Undefined
on_procedure (Some p) go = go p

-- the calls in a file of the program, at most d deep; the library's are not counted
abbrev pub calls_of : List CFile → ℕ → ℕ → ℕ → Calls
calls_of files n zero file = library_or (λ name vs. cut)
calls_of files n (suc d) file = library_or (λ name vs. on_procedure (function_of files file name) (λ p. call n (calls_of files n d p.file) p vs))

abbrev pub status_by : Option CValue → Option ℕ
status_by (Some (Number w z)) = Some (byte_of z)
status_by v = None

-- What `main` gives is converted to `int`, and counts modulo 256; behind the end of its body it gives 0 (5.1.2.2.3;
-- 6.8.6.4, 3).
abbrev pub status_of : Option Flow → Option ℕ
status_of None = Some 0
status_of (Some (Jumped label)) = Some 0
status_of (Some (Returned None)) = None
status_of (Some (Returned (Some v))) = status_by (to_int (Some v))

-- the items of all files
abbrev pub all_items : List CFile → List CItem
all_items = flat_map (λ file. file.items)

-- An object outside functions is one in the whole program, whichever files declare it, unless it is static (6.2.2, 2
-- and 3), and begins as zero.
abbrev pub around_all : List CFile → List ℕ → Around
around_all files input = record { layouts = layouts_of (all_items files) []; globals = all_globals (layouts_of (all_items files) []) 0 files; input = input }

-- before the functions of a file run
abbrev pub begin : List CFile → List ℕ → ℕ → State
begin files input file = record { here = record { file = file; names = [] }; next = 0; memory = []; around = around_all files input }

abbrev pub main_of : List CFile → Option Procedure
main_of files = external_in (codes "main") 0 files

abbrev pub main_file : Option Procedure → ℕ
main_file None = 0
main_file (Some p) = p.file

abbrev pub run_main : List CFile → ℕ → ℕ → Option Procedure → Act State ℕ
run_main files n d None = wrong Undefined
run_main files n d (Some p) = bind (statements n (calls_of files n d p.file) p.body) (λ flow. given Undefined (status_of flow))

-- The program of these files from its `main`, whose end is the end of the program (5.1.2.2.3).
abbrev pub CMeaning : List CFile → Meaning
CMeaning files input n d = outcome_of (run_main files n d (main_of files) (begin files input (main_file (main_of files))) (written [] []))
