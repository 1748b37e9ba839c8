-- Small sources, and what ISO/IEC 1539-1:2018 says of them: what they write, and how they end.
use Rattle.std.specs.Prelude.{◌≡◌, ℕ, List, [], ◌∷◌, codes, Option, Some, None}
use Rattle.lf_base.specs.Outcome.{Ended, Cut, written}
use Rattle.lf_base.specs.Traps.{trap_status, trap_text}
use Rattle.lf_base.specs.declared.trap.Trap.{Trap}
use Rattle.lf_base.specs.declared.operator.TheConstants.{ADD, SUBTRACT, DIVIDE, EQ, LT, AND, OR, NOT}
use Rattle.ast_nodes.specs.declared.code.TheConstants.{FORMAT_LIST, FORMAT_INTEGER}
use Rattle.ast_nodes.specs.declared.declaration.Attribute.{Attribute}
use Rattle.ast_nodes.specs.declared.declaration.Attribute.TheVariants as attribute
use Rattle.ast_nodes.specs.declared.declaration.Decl.{Decl}
use Rattle.ast_nodes.specs.declared.declaration.Decl.TheVariants.{Variables}
use Rattle.ast_nodes.specs.declared.declaration.TypeSpec.{TypeSpec}
use Rattle.ast_nodes.specs.declared.declaration.TypeSpec.TheVariants.{Integer}
use Rattle.ast_nodes.specs.declared.expression.Designator.{Designator}
use Rattle.ast_nodes.specs.declared.expression.Expr.{Expr}
use Rattle.ast_nodes.specs.declared.expression.Expr.TheVariants.{Int, Log, Ref, Unary, Binary}
use Rattle.ast_nodes.specs.declared.expression.RefPart.{Part, Group}
use Rattle.ast_nodes.specs.declared.file.File.{File}
use Rattle.ast_nodes.specs.declared.file.Unit.TheVariants.{Program}
use Rattle.ast_nodes.specs.declared.statement.Statement.{Statement}
use Rattle.ast_nodes.specs.declared.statement.Statement.TheVariants.{Assign, If, Do, While, Print, Stop, Exit, Cycle}
use Rattle.asr_nodes.specs.declared.code.TheConstants.{TRUE, FALSE}
use Rattle.fortran_semantics.specs.Meaning.{fortran_meaning}

-- With so many turns, the program writes this and ends with this status, whatever the input.
abbrev pub Ends : File → List ℕ → ℕ → Type 0
Ends file text status = (input : List ℕ) → fortran_meaning (codes "p.f90") file input 5 0 ≡ Ended (written text []) status None

-- It ends by a trap at this line.
abbrev pub TrapsAt : File → List ℕ → Trap → ℕ → Type 0
TrapsAt file text cause line =
    (input : List ℕ) → fortran_meaning (codes "p.f90") file input 5 0 ≡ Ended (written text (trap_text cause (record { source = codes "p.f90"; line = line }))) (trap_status cause) (Some (record { source = codes "p.f90"; line = line }))

abbrev pub number : List ℕ → Expr
number digits = Int digits 0

abbrev pub designator : List ℕ → Designator
designator name = record { parts = Part name ∷ [] }

abbrev pub named : List ℕ → Expr
named name = Ref (designator name)

abbrev pub call : List ℕ → List Expr → Expr
call name arguments = Ref (record { parts = Part name ∷ Group arguments ∷ [] })

abbrev pub declares : TypeSpec → List Attribute → List ℕ → Option Expr → Decl
declares ty attributes name init = Variables (record { line = 2; type_spec = ty; attributes = attributes; entities = record { name = name; bounds = []; init = init } ∷ [] })

abbrev pub program : List Decl → List Statement → File
program decls body = record { units = Program 1 (codes "p") decls body [] ∷ [] }

abbrev pub print : ℕ → List Expr → Statement
print line items = Print line FORMAT_LIST FALSE items

abbrev pub only_if : ℕ → Expr → Statement → Statement
only_if line condition action = If line None (record { line = line; condition = Some condition; body = action ∷ [] } ∷ [])

abbrev pub i : List ℕ
i = codes "i"

-- a: do i = 1, 3; b: do j = 1, 3; if (j == 2) exit a; print *, i, j; end do b; end do a; print *, i, j
abbrev pub leaves_two : File
leaves_two =
    program (declares (Integer 4) [] i None ∷ declares (Integer 4) [] (codes "j") None ∷ [])
    (Do 3 (Some (codes "a")) i (number (codes "1")) (number (codes "3")) None
    (Do 4 (Some (codes "b")) (codes "j") (number (codes "1")) (number (codes "3")) None
    (only_if 5 (Binary EQ (named (codes "j")) (number (codes "2"))) (Exit 5 (Some (codes "a"))) ∷ print 6 (named i ∷ named (codes "j") ∷ []) ∷ [])
    ∷ [])
    ∷ print 9 (named i ∷ named (codes "j") ∷ [])
    ∷ [])

-- do i = 1, 3; if (i == 2) cycle; print *, i; end do; print *, i
abbrev pub cycles_once : File
cycles_once =
    program (declares (Integer 4) [] i None ∷ [])
    (Do 3 None i (number (codes "1")) (number (codes "3")) None
    (only_if 4 (Binary EQ (named i) (number (codes "2"))) (Cycle 4 None) ∷ print 5 (named i ∷ []) ∷ [])
    ∷ print 7 (named i ∷ [])
    ∷ [])

-- integer(8) :: k = 2147483647; integer, parameter :: m = 2 + 1; k = k + m; print *, k, huge(i), int(k - 5, 4)
abbrev pub mixes_kinds : File
mixes_kinds =
    program
    (declares (Integer 8) [] (codes "k") (Some (number (codes "2147483647")))
    ∷ declares (Integer 4) (attribute.Parameter ∷ []) (codes "m") (Some (Binary ADD (number (codes "2")) (number (codes "1"))))
    ∷ declares (Integer 4) [] i None
    ∷ [])
    (Assign 4 (designator (codes "k")) (Binary ADD (named (codes "k")) (named (codes "m")))
    ∷ print 5 (named (codes "k") ∷ call (codes "huge") (named i ∷ []) ∷ call (codes "int") (Binary SUBTRACT (named (codes "k")) (number (codes "5")) ∷ number (codes "4") ∷ []) ∷ [])
    ∷ [])

-- A value is converted to the kind of the variable: integer(8) :: k = 2147483648_8; i = k
abbrev pub does_not_fit : File
does_not_fit =
    program (declares (Integer 8) [] (codes "k") (Some (Int (codes "2147483648") 8)) ∷ declares (Integer 4) [] i None ∷ [])
    (print 3 [] ∷ Assign 4 (designator i) (named (codes "k")) ∷ [])

-- Each condition has its own line: if (i == 1) then; else if (1 / i == 1) then; end if
abbrev pub else_if_traps : File
else_if_traps =
    program (declares (Integer 4) [] i None ∷ [])
    (If 3 None
    (record { line = 3; condition = Some (Binary EQ (named i) (number (codes "1"))); body = [] }
    ∷ record { line = 4; condition = Some (Binary EQ (Binary DIVIDE (number (codes "1")) (named i)) (number (codes "1"))); body = [] }
    ∷ [])
    ∷ [])

-- if (i == 1 .and. 1 / i == 1) print *, 1; print *, .not. .true. .or. i < 1; where i is 0
abbrev pub stops_early : File
stops_early =
    program (declares (Integer 4) [] i None ∷ [])
    (only_if 3 (Binary AND (Binary EQ (named i) (number (codes "1"))) (Binary EQ (Binary DIVIDE (number (codes "1")) (named i)) (number (codes "1")))) (print 3 (number (codes "1") ∷ []))
    ∷ print 4 (Binary OR (Unary NOT (Log TRUE)) (Binary LT (named i) (number (codes "1"))) ∷ [])
    ∷ [])

-- do while (i < 2); i = i + 1; end do; write (*, '(I0)', advance='no') mod(-7, 4); error stop
abbrev pub ends_in_error : File
ends_in_error =
    program (declares (Integer 4) [] i None ∷ [])
    (While 3 None (Some (Binary LT (named i) (number (codes "2")))) (Assign 4 (designator i) (Binary ADD (named i) (number (codes "1"))) ∷ [])
    ∷ Print 6 FORMAT_INTEGER TRUE (call (codes "mod") (Unary SUBTRACT (number (codes "7")) ∷ number (codes "4") ∷ []) ∷ [])
    ∷ Stop 7 TRUE None
    ∷ [])

-- do; print *, 1; end do
abbrev pub never_ends : File
never_ends = program [] (While 2 None None (print 3 (number (codes "1") ∷ []) ∷ []) ∷ [])

abbrev pub IsCut : File → ℕ → List ℕ → Type 0
IsCut file n text = (input : List ℕ) → fortran_meaning (codes "p.f90") file input n 0 ≡ Cut (written text [])
