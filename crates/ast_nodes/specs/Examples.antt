-- Small trees, to read the text by.
use Rattle.std.specs.Prelude.{ℕ, List, [], ◌∷◌, codes, Some, None}
use Rattle.ast_nodes.specs.declared.expression.Expr.{Expr}
use Rattle.ast_nodes.specs.declared.expression.Expr.TheVariants.{Int, Char, Ref, Triple, Binary}
use Rattle.ast_nodes.specs.declared.expression.RefPart.{Part, Group}
use Rattle.ast_nodes.specs.declared.statement.Statement.{Statement}
use Rattle.ast_nodes.specs.declared.statement.Statement.TheVariants.{Print, While, Exit}
use Rattle.ast_nodes.specs.declared.declaration.Vars.{Vars}
use Rattle.ast_nodes.specs.declared.declaration.TypeSpec.TheVariants.{Character}
use Rattle.ast_nodes.specs.declared.declaration.Length.TheVariants.{Star}
use Rattle.ast_nodes.specs.declared.declaration.Attribute.TheVariants.{Save}
use Rattle.ast_nodes.specs.declared.file.Unit.TheVariants.{Program}
use Rattle.ast_nodes.specs.declared.file.File.{File}

abbrev pub literal : List ℕ → Expr
literal digits = Int digits 0

abbrev pub product : Expr
product = Binary 2 (literal (codes "3")) (literal (codes "4"))

-- 2 + 3 * 4
abbrev pub sum : Expr
sum = Binary 0 (literal (codes "2")) product

-- print *, 2 + 3 * 4
abbrev pub print_sum : Statement
print_sum = Print 2 0 0 (sum ∷ [])

abbrev pub program : File
program = record { units = Program 1 (codes "p") [] (print_sum ∷ []) [] ∷ [] }

-- 'a?"', and a tabulator
abbrev pub characters : Expr
characters = Char (97 ∷ 63 ∷ 34 ∷ 9 ∷ [])

-- a(:)
abbrev pub section : Expr
section = Ref (record { parts = Part (codes "a") ∷ Group (Triple None None None ∷ []) ∷ [] })

-- do, exit, end do
abbrev pub loop : Statement
loop = While 3 None None (Exit 4 (Some (codes "c")) ∷ [])

-- character(*), save :: c(:)
abbrev pub variables : Vars
variables = record {
  line = 2;
  type_spec = Character (Some Star);
  attributes = Save ∷ [];
  entities = record { name = codes "c"; bounds = record { lower = None; upper = None } ∷ []; init = None } ∷ [];
}
