-- Small sources that break one rule each, or just do not, by which ISO/IEC 1539-1:2018 is read.
use Rattle.std.specs.Prelude.{◌≡◌, ℕ, true, List, [], ◌∷◌, codes, Option, Some, None, Err}
use Rattle.std.specs.Result.{is_ok}
use Rattle.lf_base.specs.declared.operator.TheConstants.{ADD, DIVIDE}
use Rattle.lf_base.specs.declared.rule.Rule.{Rule}
use Rattle.ast_nodes.specs.declared.declaration.Attribute.{Attribute}
use Rattle.ast_nodes.specs.declared.declaration.Attribute.TheVariants as attribute
use Rattle.ast_nodes.specs.declared.declaration.Decl.{Decl}
use Rattle.ast_nodes.specs.declared.declaration.Decl.TheVariants.{Variables}
use Rattle.ast_nodes.specs.declared.declaration.TypeSpec.{TypeSpec}
use Rattle.ast_nodes.specs.declared.declaration.TypeSpec.TheVariants.{Integer, Logical}
use Rattle.ast_nodes.specs.declared.expression.Expr.{Expr}
use Rattle.ast_nodes.specs.declared.expression.Expr.TheVariants.{Log, Binary}
use Rattle.ast_nodes.specs.declared.file.File.{File}
use Rattle.ast_nodes.specs.declared.statement.Statement.{Statement}
use Rattle.ast_nodes.specs.declared.statement.Statement.TheVariants.{Assign, Do, Exit}
use Rattle.asr_nodes.specs.declared.code.TheConstants.{TRUE}
use Rattle.fortran_semantics.specs.SmallSources.{number, designator, named, call, program, print}
use Rattle.ast_to_asr.specs.Elab.{elab_file}

-- of the rules that the source breaks this one is told, at this line
abbrev pub Breaks : File → ℕ → Rule → Type 0
Breaks file line rule = elab_file (codes "p.f90") 0 file ≡ Err (record { line = line; rule = rule })

abbrev pub IsRight : File → Type 0
IsRight file = is_ok (elab_file (codes "p.f90") 0 file) ≡ true

abbrev pub declares : ℕ → TypeSpec → List Attribute → List ℕ → Option Expr → Decl
declares line ty attributes name init = Variables (record { line = line; type_spec = ty; attributes = attributes; entities = record { name = name; bounds = []; init = init } ∷ [] })

abbrev pub n : List ℕ
n = codes "n"

abbrev pub one : Expr
one = number (codes "1")

abbrev pub yes : Expr
yes = Log TRUE

abbrev pub ratio : Expr
ratio = Binary DIVIDE one (number (codes "0"))

-- integer :: n, and a statement
abbrev pub with_integer : Statement → File
with_integer statement = program (declares 2 (Integer 4) [] n None ∷ []) (statement ∷ [])

-- integer, parameter :: n = 1, and a statement
abbrev pub with_constant : Statement → File
with_constant statement = program (declares 2 (Integer 4) (attribute.Parameter ∷ []) n (Some one) ∷ []) (statement ∷ [])

abbrev pub prints : Expr → File
prints item = with_integer (print 3 (item ∷ []))

-- a declaration alone
abbrev pub declared : List Attribute → Option Expr → File
declared attributes init = program (declares 2 (Integer 4) attributes n init ∷ []) []

-- integer :: n; and integer, parameter :: m with this value
abbrev pub constant : Expr → File
constant init = program (declares 2 (Integer 4) [] n None ∷ declares 3 (Integer 4) (attribute.Parameter ∷ []) (codes "m") (Some init) ∷ []) []

-- integer :: n; integer :: m, by this name
abbrev pub second_named : List ℕ → File
second_named name = program (declares 2 (Integer 4) [] n None ∷ declares 3 Logical [] name None ∷ []) []

-- integer, parameter :: a = 1, b = a; and the same in two statements
abbrev pub asks_its_own_statement : File
asks_its_own_statement =
    program
    (Variables (record {
      line = 2;
      type_spec = Integer 4;
      attributes = attribute.Parameter ∷ [];
      entities = record { name = codes "a"; bounds = []; init = Some one } ∷ record { name = codes "b"; bounds = []; init = Some (named (codes "a")) } ∷ [];
    }) ∷ []) []

abbrev pub asks_an_earlier_statement : File
asks_an_earlier_statement =
    program
    (declares 2 (Integer 4) (attribute.Parameter ∷ []) (codes "a") (Some one) ∷ declares 2 (Integer 4) (attribute.Parameter ∷ []) (codes "b") (Some (named (codes "a"))) ∷ []) []

-- integer :: abs; print *, abs(1)
abbrev pub hides_a_function : File
hides_a_function = program (declares 2 (Integer 4) [] (codes "abs") None ∷ []) (print 3 (call (codes "abs") (one ∷ []) ∷ []) ∷ [])

-- do n = 1, 1; and a statement in it
abbrev pub steps : Statement → File
steps statement = with_integer (Do 3 (Some (codes "a")) n one one None (statement ∷ []))

abbrev pub counted_by : TypeSpec → Expr → File
counted_by ty upper = program (declares 2 ty [] n None ∷ []) (Do 3 None n one upper None [] ∷ [])

abbrev pub assigns : Expr → Statement
assigns value = Assign 4 (designator n) value

-- logical :: l; l = abs(.true.): the call has no type, so the assignment breaks no rule of its own
abbrev pub no_type : File
no_type = program (declares 2 Logical [] (codes "l") None ∷ []) (Assign 3 (designator (codes "l")) (call (codes "abs") (yes ∷ [])) ∷ [])

-- integer, parameter :: n = 1 / 0; print *, y, on one line: declarations come first
abbrev pub both_phases : File
both_phases = program (declares 2 (Integer 4) (attribute.Parameter ∷ []) n (Some ratio) ∷ []) (print 2 (named (codes "y") ∷ []) ∷ [])

-- print *, .true. + 1, y, and on the next line exit
abbrev pub two_lines : File
two_lines = program [] (print 2 (Binary ADD yes one ∷ named (codes "y") ∷ []) ∷ Exit 3 None ∷ [])
