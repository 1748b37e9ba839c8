-- How a statement of each form is written, case by case: which items it is, whatever order words are looked at in (ISO/IEC 1539-1:2018, R501 to R517).
use Rattle.std.specs.Prelude.{◌≡◌, ℕ, Bool, true, false, List, [], ◌∷◌, ◌++◌, codes, max, slice_get, Option, Some, None, ◌==◌}
use Rattle.ast_nodes.specs.declared.declaration.Attribute.{Attribute}
use Rattle.ast_nodes.specs.declared.declaration.Attribute.TheVariants as attribute
use Rattle.ast_nodes.specs.declared.declaration.Bound.{Bound}
use Rattle.ast_nodes.specs.declared.declaration.Entity.{Entity}
use Rattle.ast_nodes.specs.declared.declaration.Length.{Length}
use Rattle.ast_nodes.specs.declared.declaration.Length.TheVariants as length_of
use Rattle.ast_nodes.specs.declared.declaration.Rename.{Rename}
use Rattle.ast_nodes.specs.declared.declaration.TypeSpec.{TypeSpec}
use Rattle.ast_nodes.specs.declared.declaration.TypeSpec.TheVariants as type
use Rattle.ast_nodes.specs.declared.expression.Designator.{Designator}
use Rattle.ast_nodes.specs.declared.expression.Expr.{Expr}
use Rattle.ast_nodes.specs.declared.statement.CaseRange.{CaseRange}
use Rattle.ast_nodes.specs.declared.statement.CaseRange.TheVariants as range
use Rattle.ast_nodes.specs.declared.statement.Statement.{Statement}
use Rattle.ast_nodes.specs.declared.statement.Statement.TheVariants as statement
use Rattle.ff_lexer.specs.Statements.{Spelled}
use Rattle.ff_expressions.specs.declared.item.Bracket.TheVariants.{Round}
use Rattle.ff_expressions.specs.declared.item.Item.{Item}
use Rattle.ff_expressions.specs.declared.item.Item.TheVariants.{Word, Text, Group}
use Rattle.ff_expressions.specs.declared.item.Item.TheVariants as item
use Rattle.ff_expressions.specs.declared.item.Mark.{Mark}
use Rattle.ff_expressions.specs.declared.item.Mark.TheVariants.{Operator, Comma, Colon, DoubleColon, Equals, Arrow, Percent}
use Rattle.ff_expressions.specs.declared.item.Parsed.{Parsed}
use Rattle.ff_expressions.specs.declared.item.Part.{Part}
use Rattle.ff_expressions.specs.declared.item.Part.TheVariants.{Star, Plain, Keyed, Section}
use Rattle.ff_expressions.specs.declared.item.Stride.TheVariants.{Absent}
use Rattle.ff_expressions.specs.Items.{items_of}
use Rattle.ff_expressions.specs.Pieces.{is_mark, pieces_of}
use Rattle.ff_forms.specs.declared.form.End.{End}
use Rattle.ff_forms.specs.declared.form.End.TheVariants as ended
use Rattle.ff_forms.specs.declared.form.Form.{Form}
use Rattle.ff_forms.specs.declared.form.Form.TheVariants as form
use Rattle.ff_forms.specs.declared.form.Formed.{Formed}
use Rattle.ff_forms.specs.Answers.{each}
use Rattle.ff_forms.specs.Shapes.{is_colon, expression_in, output_in, designator_in, arguments_in, one_expression, one_name}
use Rattle.ff_forms.specs.Names.{dummies_of, use_stmt}
use Rattle.ff_forms.specs.Types.{kind_in}
use Rattle.ff_forms.specs.Output.{format_of, text_format, text_in, is_no, ref_in}
use Rattle.ff_forms.specs.Actions.{lone_if}
use Rattle.ff_forms.specs.Forms.{deep_flag}

-- `{N}`: a name that may be left out
abbrev pub perhaps : Option (List ℕ) → List Item
perhaps None = []
perhaps (Some name) = Word name ∷ []

-- This mark stands nowhere in the items.
abbrev pub Lacks : Mark → List Item → Type 0
Lacks at [] = Unit {0}
Lacks at (item ∷ items) = (is_mark at item ≡ false) × Lacks at items

-- pieces that are each one of these
pub data AreAll {A : Type 0} (IsOne : List Item → A → Type 0) : List (List Item) → List A → Type 0 where
  none : AreAll IsOne [] []
  one_more : {piece : List Item} {pieces : List (List Item)} {x : A} {xs : List A} → IsOne piece x → AreAll IsOne pieces xs → AreAll IsOne (piece ∷ pieces) (x ∷ xs)

-- the same of pieces or parts, with the greatest depth of them
pub data AreEach {A B : Type 0} (IsOne : A → B → ℕ → Type 0) : List A → List B → ℕ → Type 0 where
  none : AreEach IsOne [] [] 0
  one_more : {x : A} {xs : List A} {y : B} {ys : List B} {d e : ℕ} → IsOne x y d → AreEach IsOne xs ys e → AreEach IsOne (x ∷ xs) (y ∷ ys) (max d e)

pub data IsName : List Item → List ℕ → Type 0 where
  name : {name : List ℕ} → IsName (Word name ∷ []) name

-- `{::} names`
pub data AreListed : List Item → List (List ℕ) → Type 0 where
  plain : {items : List Item} {names : List (List ℕ)} → AreAll IsName (pieces_of Comma items) names → AreListed items names
  behind_colons : {items : List Item} {names : List (List ℕ)} → AreAll IsName (pieces_of Comma items) names → AreListed (item.Mark DoubleColon ∷ items) names

-- `b => c` (R1411)
pub data IsRename : List Item → Rename → Type 0 where
  renamed : {local original : List ℕ} → IsRename (Word local ∷ item.Mark Arrow ∷ Word original ∷ []) (record { local = local; original = original })

-- `a` or `b => c` (R1412)
pub data IsOnly : List Item → Rename → Type 0 where
  same : {name : List ℕ} → IsOnly (Word name ∷ []) (record { local = name; original = name })
  renamed : {items : List Item} {rename : Rename} → IsRename items rename → IsOnly items rename

-- a word of access, and its code
pub data IsAccess : List ℕ → ℕ → Type 0 where
  public : IsAccess (codes "public") 0
  private : IsAccess (codes "private") 1

-- the word behind `end`, and what it closes
pub data Closes : List ℕ → End → Type 0 where
  a_program : Closes (codes "program") ended.Program
  a_module : Closes (codes "module") ended.Module
  a_subroutine : Closes (codes "subroutine") ended.Subroutine
  a_function : Closes (codes "function") ended.Function
  a_type : Closes (codes "type") ended.Type
  an_interface : Closes (codes "interface") ended.Interface
  an_if : Closes (codes "if") ended.If
  a_do : Closes (codes "do") ended.Do
  a_select : Closes (codes "select") ended.Select

-- a kind, `4` or `8`, or either behind `kind=` (R706)
pub data IsKind : List Part → ℕ → Type 0 where
  plain : {value : Parsed} {kind : ℕ} → kind_in value.tree ≡ Some kind → IsKind (Plain value ∷ []) kind
  keyed : {value : Parsed} {kind : ℕ} → kind_in value.tree ≡ Some kind → IsKind (Keyed (codes "kind") (Some value) ∷ []) kind

-- a length, `*` or an expression, or either behind `len=` (R722)
pub data IsLength : List Part → Length → ℕ → Type 0 where
  star : IsLength (Star ∷ []) length_of.Star 0
  plain : {value : Parsed} → IsLength (Plain value ∷ []) (length_of.Given value.tree) value.depth
  keyed_star : IsLength (Keyed (codes "len") None ∷ []) length_of.Star 0
  keyed : {value : Parsed} → IsLength (Keyed (codes "len") (Some value) ∷ []) (length_of.Given value.tree) value.depth

-- a bound: `e`, `e:e` or `:`
pub data IsBound : Part → Bound → ℕ → Type 0 where
  upper : {value : Parsed} → IsBound (Plain value) (record { lower = None; upper = Some value.tree }) value.depth
  both : {lower upper : Parsed} → IsBound (Section (Some lower) (Some upper) Absent) (record { lower = Some lower.tree; upper = Some upper.tree }) (max lower.depth upper.depth)
  neither : IsBound (Section None None Absent) (record { lower = None; upper = None }) 0

-- at least one
pub data AreBounds : List Part → List Bound → ℕ → Type 0 where
  bounds : {part : Part} {parts : List Part} {bounds : List Bound} {depth : ℕ} → AreEach IsBound (part ∷ parts) bounds depth → AreBounds (part ∷ parts) bounds depth

-- a range of a `case`: `e`, `a:b`, `a:` or `:b` (R1146)
pub data IsRange : Part → CaseRange → ℕ → Type 0 where
  one : {value : Parsed} → IsRange (Plain value) (range.One value.tree) value.depth
  both : {lower upper : Parsed} → IsRange (Section (Some lower) (Some upper) Absent) (range.Range (Some lower.tree) (Some upper.tree)) (max lower.depth upper.depth)
  from : {lower : Parsed} → IsRange (Section (Some lower) None Absent) (range.Range (Some lower.tree) None) lower.depth
  up_to : {upper : Parsed} → IsRange (Section None (Some upper) Absent) (range.Range None (Some upper.tree)) upper.depth

-- at least one
pub data AreRanges : List Part → List CaseRange → ℕ → Type 0 where
  ranges : {part : Part} {parts : List Part} {ranges : List CaseRange} {depth : ℕ} → AreEach IsRange (part ∷ parts) ranges depth → AreRanges (part ∷ parts) ranges depth

-- the type of a function's result: `integer`, `integer (kind)` or `logical`
pub data IsResultType : List Item → TypeSpec → Type 0 where
  integer : IsResultType (Word (codes "integer") ∷ []) (type.Integer 4)
  integer_kind : {parts : List Part} {kind : ℕ} → IsKind parts kind → IsResultType (Word (codes "integer") ∷ Group Round parts ∷ []) (type.Integer kind)
  logical : IsResultType (Word (codes "logical") ∷ []) type.Logical

-- the type of a declaration, with its depth: one of those, `character`, `character (length)` or `type (T)` (7.3.2.1)
pub data IsType : List Item → TypeSpec → ℕ → Type 0 where
  of_result : {items : List Item} {of : TypeSpec} → IsResultType items of → IsType items of 0
  character : IsType (Word (codes "character") ∷ []) (type.Character None) 0
  character_length : {parts : List Part} {length : Length} {depth : ℕ} → IsLength parts length depth
      → IsType (Word (codes "character") ∷ Group Round parts ∷ []) (type.Character (Some length)) depth
  derived : {parts : List Part} {name : List ℕ} → one_name parts ≡ Some name → IsType (Word (codes "type") ∷ Group Round parts ∷ []) (type.Derived name) 0

-- the direction of a dummy, and its code (R826)
pub data IsIntent : List ℕ → ℕ → Type 0 where
  into : IsIntent (codes "in") 1
  out : IsIntent (codes "out") 2
  in_and_out : IsIntent (codes "inout") 3

-- an attribute (R802)
pub data IsAttribute : List Item → Attribute → ℕ → Type 0 where
  parameter : IsAttribute (Word (codes "parameter") ∷ []) attribute.Parameter 0
  save : IsAttribute (Word (codes "save") ∷ []) attribute.Save 0
  private : IsAttribute (Word (codes "private") ∷ []) attribute.Private 0
  public : IsAttribute (Word (codes "public") ∷ []) attribute.Public 0
  dimension : {parts : List Part} {bounds : List Bound} {depth : ℕ} → AreBounds parts bounds depth
      → IsAttribute (Word (codes "dimension") ∷ Group Round parts ∷ []) (attribute.Dimension bounds) depth
  intent : {parts : List Part} {word : List ℕ} {code : ℕ} → one_name parts ≡ Some word → IsIntent word code
      → IsAttribute (Word (codes "intent") ∷ Group Round parts ∷ []) (attribute.Intent code) 0

-- `{(bounds)}`
pub data HasBounds : List Item → List Bound → ℕ → Type 0 where
  none : HasBounds [] [] 0
  given : {parts : List Part} {bounds : List Bound} {depth : ℕ} → AreBounds parts bounds depth → HasBounds (Group Round parts ∷ []) bounds depth

-- `{= e}`, where there may be a value at all
pub data HasValue : Bool → List Item → Option Expr → ℕ → Type 0 where
  none : {may : Bool} → HasValue may [] None 0
  given : {items : List Item} {value : Expr} {depth : ℕ} → expression_in items ≡ Some (value, depth) → HasValue true (item.Mark Equals ∷ items) (Some value) depth

-- an entity, `N {(bounds)} {= e}` (R803)
pub data IsEntity (may : Bool) : List Item → Entity → ℕ → Type 0 where
  entity : {name : List ℕ} {front items : List Item} {bounds : List Bound} {value : Option Expr} {d e : ℕ} → HasBounds front bounds d → HasValue may items value e
      → IsEntity may (Word name ∷ (front ++ items)) (record { name = name; bounds = bounds; init = value }) (max d e)

-- `{, attributes}`
pub data AreAttributes : List Item → List Attribute → ℕ → Type 0 where
  none : AreAttributes [] [] 0
  listed : {items : List Item} {attributes : List Attribute} {depth : ℕ} → AreEach IsAttribute (pieces_of Comma items) attributes depth
      → AreAttributes (item.Mark Comma ∷ items) attributes depth

-- what stands behind the type of a declaration: entities without values, or `{, attributes} :: entities` (R801)
pub data AreDeclared : List Item → List Attribute → List Entity → ℕ → Type 0 where
  plain : {items : List Item} {entities : List Entity} {depth : ℕ} → Lacks DoubleColon items → AreEach (IsEntity false) (pieces_of Comma items) entities depth → AreDeclared items [] entities depth
  full : {front : List Item} (names : List Item) {attributes : List Attribute} {entities : List Entity} {d e : ℕ} → Lacks DoubleColon front → Lacks DoubleColon names
      → AreAttributes front attributes d → AreEach (IsEntity true) (pieces_of Comma names) entities e → AreDeclared (front ++ item.Mark DoubleColon ∷ names) attributes entities (max d e)

-- `{result (N)}`
pub data IsResult : List Item → Option (List ℕ) → Type 0 where
  none : IsResult [] None
  named : {parts : List Part} {name : List ℕ} → one_name parts ≡ Some name → IsResult (Word (codes "result") ∷ Group Round parts ∷ []) (Some name)

-- `subroutine N {(dummies)}` (15.6.2.3)
pub data IsSubroutine : List Item → Form → Type 0 where
  bare : {name : List ℕ} → IsSubroutine (Word (codes "subroutine") ∷ Word name ∷ []) (form.Procedure name 0 None [] None)
  with_dummies : {name : List ℕ} {parts : List Part} {dummies : List (List ℕ)} → dummies_of parts ≡ Some dummies
      → IsSubroutine (Word (codes "subroutine") ∷ Word name ∷ Group Round parts ∷ []) (form.Procedure name 0 None dummies None)

-- `function N (dummies) {result (N)}`, with the type that stands in front (15.6.2.2)
pub data IsFunction (of : Option TypeSpec) : List Item → Form → Type 0 where
  headed : {name : List ℕ} {parts : List Part} {dummies : List (List ℕ)} {items : List Item} {result_name : Option (List ℕ)}
      → dummies_of parts ≡ Some dummies → IsResult items result_name
      → IsFunction of (Word (codes "function") ∷ Word name ∷ Group Round parts ∷ items) (form.Procedure name 1 of dummies result_name)

-- a procedure's head, where `recursive` and a type may stand in front in either order
pub data IsHead : List Item → Form → Type 0 where
  subroutine : {items : List Item} {head : Form} → IsSubroutine items head → IsHead items head
  recursive_subroutine : {items : List Item} {head : Form} → IsSubroutine items head → IsHead (Word (codes "recursive") ∷ items) head
  function : {items : List Item} {head : Form} → IsFunction None items head → IsHead items head
  recursive_function : {items : List Item} {head : Form} → IsFunction None items head → IsHead (Word (codes "recursive") ∷ items) head
  typed_function : {front items : List Item} {of : TypeSpec} {head : Form} → IsResultType front of → IsFunction (Some of) items head → IsHead (front ++ items) head
  typed_recursive : {front items : List Item} {of : TypeSpec} {head : Form} → IsResultType front of → IsFunction (Some of) items head
      → IsHead (front ++ Word (codes "recursive") ∷ items) head
  recursive_typed : {front items : List Item} {of : TypeSpec} {head : Form} → IsResultType front of → IsFunction (Some of) items head
      → IsHead (Word (codes "recursive") ∷ front ++ items) head

-- the step of a loop, `{, e}`
pub data IsStep : List Item → Option Expr → ℕ → Type 0 where
  none : IsStep [] None 0
  given : {items : List Item} {step : Expr} {depth : ℕ} → Lacks Comma items → expression_in items ≡ Some (step, depth) → IsStep (item.Mark Comma ∷ items) (Some step) depth

-- the beginning of a construct, behind its name where it has one (11.1.7, 11.1.8, 11.1.9)
pub data BeginsConstruct (construct : Option (List ℕ)) : List Item → Form → ℕ → Type 0 where
  -- `if (e) then`
  if_then : {parts : List Part} {condition : Expr} {depth : ℕ} → one_expression parts ≡ Some (condition, depth)
      → BeginsConstruct construct (Word (codes "if") ∷ Group Round parts ∷ Word (codes "then") ∷ []) (form.IfThen construct condition) depth
  -- `do`
  do_alone : BeginsConstruct construct (Word (codes "do") ∷ []) (form.While construct None) 0
  -- `do while (e)`
  do_while : {parts : List Part} {condition : Expr} {depth : ℕ} → one_expression parts ≡ Some (condition, depth)
      → BeginsConstruct construct (Word (codes "do") ∷ Word (codes "while") ∷ Group Round parts ∷ []) (form.While construct (Some condition)) depth
  -- `do i = e, e {, e}`
  do_counted : {variable : List ℕ} (first second : List Item) {items : List Item} {lower upper : Expr} {step : Option Expr} {d e f : ℕ} → Lacks Comma first → Lacks Comma second
      → expression_in first ≡ Some (lower, d) → expression_in second ≡ Some (upper, e) → IsStep items step f
      → BeginsConstruct construct (Word (codes "do") ∷ Word variable ∷ item.Mark Equals ∷ (first ++ item.Mark Comma ∷ (second ++ items))) (form.Do construct variable lower upper step) (max (max d e) f)
  -- `select case (e)`
  select : {parts : List Part} {value : Expr} {depth : ℕ} → one_expression parts ≡ Some (value, depth)
      → BeginsConstruct construct (Word (codes "select") ∷ Word (codes "case") ∷ Group Round parts ∷ []) (form.Select construct value) depth
  select_at_once : {parts : List Part} {value : Expr} {depth : ℕ} → one_expression parts ≡ Some (value, depth)
      → BeginsConstruct construct (Word (codes "selectcase") ∷ Group Round parts ∷ []) (form.Select construct value) depth

-- a format: `*` or a text (R1215)
pub data IsFormat : Item → ℕ → Type 0 where
  star : IsFormat (item.Mark (Operator 2)) 0
  text : {bytes : List ℕ} {code : ℕ} → format_of bytes ≡ Some code → IsFormat (Text bytes) code

-- the same in parentheses
pub data IsFormatPart : Part → ℕ → Type 0 where
  star : IsFormatPart Star 0
  text : {value : Parsed} {code : ℕ} → text_format value.tree ≡ Some code → IsFormatPart (Plain value) code

-- what is written in this format: any list with `*`, one expression with every other format
pub data IsRecord : ℕ → List Item → List Expr → ℕ → Type 0 where
  any : {items : List Item} {values : List Expr} {depth : ℕ} → each output_in (pieces_of Comma items) ≡ Some (values, depth) → IsRecord 0 items values depth
  one : {code : ℕ} {items : List Item} {value : Expr} {depth : ℕ} → (code == 0) ≡ false → Lacks Comma items → expression_in items ≡ Some (value, depth) → IsRecord code items (value ∷ []) depth

-- `*, format {, advance='no'}`, with the format and whether no newline ends the record
pub data AreWriteControls : List Part → ℕ → ℕ → Type 0 where
  plain : {format : Part} {code : ℕ} → IsFormatPart format code → AreWriteControls (Star ∷ format ∷ []) code 0
  no_advance : {format : Part} {code : ℕ} {value : Parsed} {bytes : List ℕ} → IsFormatPart format code → (code == 0) ≡ false
      → text_in value.tree ≡ Some bytes → is_no bytes ≡ true
      → AreWriteControls (Star ∷ format ∷ Keyed (codes "advance") (Some value) ∷ []) code 1

-- `*, '(A)' {, iostat=v}`
pub data AreReadControls : List Part → Option Designator → ℕ → Type 0 where
  plain : {format : Part} → IsFormatPart format 1 → AreReadControls (Star ∷ format ∷ []) None 0
  iostat : {format : Part} {value : Parsed} {variable : Designator} → IsFormatPart format 1 → ref_in value.tree ≡ Some variable
      → AreReadControls (Star ∷ format ∷ Keyed (codes "iostat") (Some value) ∷ []) (Some variable) value.depth

-- `stop` and `error stop` (11.4)
pub data Stops : List Item → ℕ → Type 0 where
  stop : Stops (Word (codes "stop") ∷ []) 0
  error_stop : Stops (Word (codes "error") ∷ Word (codes "stop") ∷ []) 1

-- an action that is no assignment and no `if` (R515)
pub data HasAction (line : ℕ) : List Item → Statement → ℕ → Type 0 where
  -- `call N {(args)}` (15.5.1)
  call : {name : List ℕ} → HasAction line (Word (codes "call") ∷ Word name ∷ []) (statement.Call line name []) 0
  call_with : {name : List ℕ} {parts : List Part} {arguments : List Expr} {depth : ℕ} → arguments_in parts ≡ Some (arguments, depth)
      → HasAction line (Word (codes "call") ∷ Word name ∷ Group Round parts ∷ []) (statement.Call line name arguments) depth
  -- `return` and `continue`
  return : HasAction line (Word (codes "return") ∷ []) (statement.Return line) 0
  continue : HasAction line (Word (codes "continue") ∷ []) (statement.Continue line) 0
  -- `stop {e}`
  stop : {front : List Item} {is_error : ℕ} → Stops front is_error → HasAction line front (statement.Stop line is_error None) 0
  stop_with : {front : List Item} {is_error : ℕ} (first : Item) (items : List Item) {code : Expr} {depth : ℕ} → Stops front is_error → expression_in (first ∷ items) ≡ Some (code, depth)
      → HasAction line (front ++ first ∷ items) (statement.Stop line is_error (Some code)) depth
  -- `exit {C}` and `cycle {C}`
  exit : {construct : Option (List ℕ)} → HasAction line (Word (codes "exit") ∷ perhaps construct) (statement.Exit line construct) 0
  cycle : {construct : Option (List ℕ)} → HasAction line (Word (codes "cycle") ∷ perhaps construct) (statement.Cycle line construct) 0
  -- `print *` and `print f, e` (12.6.1)
  print_nothing : HasAction line (Word (codes "print") ∷ item.Mark (Operator 2) ∷ []) (statement.Print line 0 0 []) 0
  print : {format : Item} {code : ℕ} {items : List Item} {values : List Expr} {depth : ℕ} → IsFormat format code → IsRecord code items values depth
      → HasAction line (Word (codes "print") ∷ format ∷ item.Mark Comma ∷ items) (statement.Print line code 0 values) depth
  -- `write (*, *)` and `write (*, f) e`
  write_nothing : {parts : List Part} {advance : ℕ} → AreWriteControls parts 0 advance → HasAction line (Word (codes "write") ∷ Group Round parts ∷ []) (statement.Print line 0 advance []) 0
  write : {parts : List Part} {code advance : ℕ} {first : Item} {items : List Item} {values : List Expr} {depth : ℕ} → AreWriteControls parts code advance → IsRecord code (first ∷ items) values depth
      → HasAction line (Word (codes "write") ∷ Group Round parts ∷ first ∷ items) (statement.Print line code advance values) depth
  -- `read (*, '(A)') v`
  read : {parts : List Part} {iostat : Option Designator} {items : List Item} {target : Designator} {d e : ℕ} → AreReadControls parts iostat d → designator_in items ≡ Some (target, e)
      → HasAction line (Word (codes "read") ∷ Group Round parts ∷ items) (statement.Read line target iostat) (max d e)

-- What may stand in front of `=`: a name, and behind it arguments in parentheses and components.
pub data IsChain : List Item → Type 0 where
  name : {name : List ℕ} → IsChain (Word name ∷ [])
  listed : {front : List Item} (parts : List Part) → IsChain front → IsChain (front ++ Group Round parts ∷ [])
  component : {front : List Item} (name : List ℕ) → IsChain front → IsChain (front ++ item.Mark Percent ∷ Word name ∷ [])

-- It stands in front of `=`.
abbrev pub IsAssigned : List Item → Type 0
IsAssigned items = (target : List Item) × (value : List Item) × IsChain target × (items ≡ target ++ item.Mark Equals ∷ value)

-- `v = e` (10.2.1)
pub data IsAssignment (line : ℕ) : List Item → Statement → ℕ → Type 0 where
  assignment : (target value : List Item) {variable : Designator} {of : Expr} {d e : ℕ} → Lacks Equals target → Lacks Equals value
      → designator_in target ≡ Some (variable, d) → expression_in value ≡ Some (of, e) → IsAssignment line (target ++ item.Mark Equals ∷ value) (statement.Assign line variable of) (max d e)

-- an action that may stand behind `if (e)`: an assignment exactly where a designator chain stands in front of `=`
pub data IsAction (line : ℕ) : List Item → Statement → ℕ → Type 0 where
  assigns : {items : List Item} {action : Statement} {depth : ℕ} → IsAssigned items → IsAssignment line items action depth → IsAction line items action depth
  acts : {items : List Item} {action : Statement} {depth : ℕ} → (IsAssigned items → ⊥) → HasAction line items action depth → IsAction line items action depth

-- a statement that is no assignment and has no construct's name in front
pub data HasForm (line : ℕ) : List Item → Form → ℕ → Type 0 where
  -- `program N` (14.1)
  program : {name : List ℕ} → HasForm line (Word (codes "program") ∷ Word name ∷ []) (form.Program name) 0
  -- `module N` (14.2.1)
  a_module : {name : List ℕ} → HasForm line (Word (codes "module") ∷ Word name ∷ []) (form.Module name) 0
  -- `contains`
  contains : HasForm line (Word (codes "contains") ∷ []) form.Contains 0
  -- `end`, `end program {N}` and `endprogram {N}`, and so for all that is closed
  end : HasForm line (Word (codes "end") ∷ []) (form.End ended.Bare None) 0
  end_of : {word : List ℕ} {of : End} {name : Option (List ℕ)} → Closes word of → HasForm line (Word (codes "end") ∷ Word word ∷ perhaps name) (form.End of name) 0
  end_at_once : {word : List ℕ} {of : End} {name : Option (List ℕ)} → Closes word of → HasForm line (Word (codes "end" ++ word) ∷ perhaps name) (form.End of name) 0
  -- `use M`, `use :: M`, `use M, only: {list}` and `use M, renames` (R1409)
  use_all : {name : List ℕ} → HasForm line (Word (codes "use") ∷ Word name ∷ []) (form.Use (use_stmt line name 0 [])) 0
  use_behind_colons : {name : List ℕ} → HasForm line (Word (codes "use") ∷ item.Mark DoubleColon ∷ Word name ∷ []) (form.Use (use_stmt line name 0 [])) 0
  use_none : {name : List ℕ} → HasForm line (Word (codes "use") ∷ Word name ∷ item.Mark Comma ∷ Word (codes "only") ∷ item.Mark Colon ∷ []) (form.Use (use_stmt line name 1 [])) 0
  use_only : {name : List ℕ} (items : List Item) {renames : List Rename} → AreAll IsOnly (pieces_of Comma items) renames
      → HasForm line (Word (codes "use") ∷ Word name ∷ item.Mark Comma ∷ Word (codes "only") ∷ item.Mark Colon ∷ items) (form.Use (use_stmt line name 1 renames)) 0
  use_renamed : {name : List ℕ} (items : List Item) {renames : List Rename} → AreAll IsRename (pieces_of Comma items) renames
      → HasForm line (Word (codes "use") ∷ Word name ∷ item.Mark Comma ∷ items) (form.Use (use_stmt line name 0 renames)) 0
  -- `implicit none` (8.7)
  implicit_none : HasForm line (Word (codes "implicit") ∷ Word (codes "none") ∷ []) form.ImplicitNone 0
  -- `private`, `public`, and either with `{::} names` (8.6.1)
  access : {word : List ℕ} {code : ℕ} → IsAccess word code → HasForm line (Word word ∷ []) (form.Access code []) 0
  access_of : {word : List ℕ} {code : ℕ} {items : List Item} {names : List (List ℕ)} → IsAccess word code → AreListed items names → HasForm line (Word word ∷ items) (form.Access code names) 0
  -- `type T`, `type :: T`, and `type, private :: T` or with `public` (7.5.2.1)
  a_type : {name : List ℕ} → HasForm line (Word (codes "type") ∷ Word name ∷ []) (form.TypeDef name 2) 0
  type_behind_colons : {name : List ℕ} → HasForm line (Word (codes "type") ∷ item.Mark DoubleColon ∷ Word name ∷ []) (form.TypeDef name 2) 0
  type_with_access : {word name : List ℕ} {code : ℕ} → IsAccess word code → HasForm line (Word (codes "type") ∷ item.Mark Comma ∷ Word word ∷ item.Mark DoubleColon ∷ Word name ∷ []) (form.TypeDef name code) 0
  -- `interface G`, and `{module} procedure {::} names` (15.4.3.2)
  interface : {name : List ℕ} → HasForm line (Word (codes "interface") ∷ Word name ∷ []) (form.Interface name) 0
  procedures : {items : List Item} {names : List (List ℕ)} → AreListed items names → HasForm line (Word (codes "procedure") ∷ items) (form.Specifics names) 0
  module_procedures : {items : List Item} {names : List (List ℕ)} → AreListed items names → HasForm line (Word (codes "module") ∷ Word (codes "procedure") ∷ items) (form.Specifics names) 0
  -- `subroutine` or `function`, with what may stand in front (15.6.2)
  head : {items : List Item} {made : Form} → IsHead items made → HasForm line items made 0
  -- a type, and what is declared of it (8.2)
  variables : {front items : List Item} {of : TypeSpec} {attributes : List Attribute} {entities : List Entity} {d e : ℕ} → IsType front of d → AreDeclared items attributes entities e
      → HasForm line (front ++ items) (form.Variables (record { line = line; type_spec = of; attributes = attributes; entities = entities })) (max d e)
  -- `if (e) then`, `do` and `select case`, without a name
  begins : {items : List Item} {made : Form} {depth : ℕ} → BeginsConstruct None items made depth → HasForm line items made depth
  -- `else if (e) then {C}` and `else {C}` (11.1.8)
  else_if : {parts : List Part} {condition : Expr} {construct : Option (List ℕ)} {depth : ℕ} → one_expression parts ≡ Some (condition, depth)
      → HasForm line (Word (codes "else") ∷ Word (codes "if") ∷ Group Round parts ∷ Word (codes "then") ∷ perhaps construct) (form.ElseIf construct condition) depth
  else_if_at_once : {parts : List Part} {condition : Expr} {construct : Option (List ℕ)} {depth : ℕ} → one_expression parts ≡ Some (condition, depth)
      → HasForm line (Word (codes "elseif") ∷ Group Round parts ∷ Word (codes "then") ∷ perhaps construct) (form.ElseIf construct condition) depth
  else : {construct : Option (List ℕ)} → HasForm line (Word (codes "else") ∷ perhaps construct) (form.Else construct) 0
  -- `case (ranges) {C}` and `case default {C}` (11.1.9)
  case : {parts : List Part} {ranges : List CaseRange} {construct : Option (List ℕ)} {depth : ℕ} → AreRanges parts ranges depth
      → HasForm line (Word (codes "case") ∷ Group Round parts ∷ perhaps construct) (form.Case construct 0 ranges) depth
  case_default : {construct : Option (List ℕ)} → HasForm line (Word (codes "case") ∷ Word (codes "default") ∷ perhaps construct) (form.Case construct 1 []) 0
  -- an action
  action : {items : List Item} {of : Statement} {depth : ℕ} → HasAction line items of depth → HasForm line items (form.Action of) depth
  -- `if (e)` and an action (11.1.8.4)
  lone : {parts : List Part} {condition : Expr} {items : List Item} {of : Statement} {d e : ℕ} → one_expression parts ≡ Some (condition, d) → IsAction line items of e
      → HasForm line (Word (codes "if") ∷ Group Round parts ∷ items) (form.Action (lone_if line condition of)) (max d e)

-- A statement is an assignment exactly where a designator chain stands in front of `=`. Else it is the beginning of a construct with a
-- name exactly where its first word has a colon behind it.
pub data IsForm (line : ℕ) : List Item → Form → ℕ → Type 0 where
  assigns : {items : List Item} {action : Statement} {depth : ℕ} → IsAssigned items → IsAssignment line items action depth → IsForm line items (form.Action action) depth
  named : {construct : List ℕ} {items : List Item} {made : Form} {depth : ℕ} → BeginsConstruct (Some construct) items made depth → IsForm line (Word construct ∷ item.Mark Colon ∷ items) made depth
  other : {items : List Item} {made : Form} {depth : ℕ} → (IsAssigned items → ⊥) → is_colon (slice_get items 1) ≡ false → HasForm line items made depth → IsForm line items made depth

-- These tokens are a statement of this form, on this line.
abbrev pub IsStatement : ℕ → List Spelled → Formed → Type 0
IsStatement line tokens formed =
    (items : List Item) × (depth : ℕ) × (items_of tokens ≡ Some items) × IsForm line items formed.form depth × (formed.line ≡ line) × (formed.is_deep ≡ deep_flag depth)
