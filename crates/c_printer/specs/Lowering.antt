-- What is lowered to lines of C, one act behind another: each act adds its lines behind those of the acts before it, and
-- knows how many values these have computed and which types the temporaries of the tree have.
use Rattle.std.specs.Prelude.{ℕ, ◌+◌, ◌==◌, if◌then◌else◌, List, [], ◌∷◌, ◌++◌, codes}
use Rattle.lf_base.specs.Outcome.{Location}
use Rattle.c_nodes.specs.declared.tree.CType.TheVariants.{Int64}
use Rattle.c_nodes.specs.declared.tree.CExpr.{CExpr}
use Rattle.c_nodes.specs.declared.tree.CExpr.TheVariants.{Variable, Constant, Literal}
use Rattle.c_nodes.specs.declared.tree.CStmt.{CStmt}
use Rattle.c_nodes.specs.declared.tree.CStmt.TheVariants.{DeclareValue, Assign, Block}
use Rattle.c_printer.specs.declared.scalar.ScalarType.{ScalarType}
use Rattle.c_printer.specs.declared.scalar.ScalarType.TheVariants.{Integer4}
use Rattle.c_printer.specs.Names.{value_name, temp_name}

-- how many values the function has computed so far, and the types of the tree's temporaries by their numbers
pub record Drawn : Type 0 where
  pub values : ℕ
  pub temps : ℕ → ScalarType

abbrev pub nothing_drawn : Drawn
nothing_drawn = record { values = 0; temps = λ number. Integer4 }

-- the lines of an act, what it gives, and what is drawn behind it
pub data Lines (A : Type 0) : Type 0 where
  Wrote : (lines : List CStmt) (gives : A) (drawn : Drawn) → Lines A

abbrev pub lines_of : {A : Type 0} → Lines A → List CStmt
lines_of (Wrote lines x d) = lines

abbrev pub Lowering : Type 0 → Type 0
Lowering A = Drawn → Lines A

abbrev pub give : {A : Type 0} → A → Lowering A
give x d = Wrote [] x d

abbrev pub behind : {A : Type 0} → List CStmt → Lines A → Lines A
behind before (Wrote lines x d) = Wrote (before ++ lines) x d

abbrev pub go_on : {A B : Type 0} → Lines A → (A → Lowering B) → Lines B
go_on (Wrote lines x d) more = behind lines (more x d)

-- one act and then another, which is told what the first one gave
abbrev pub bind : {A B : Type 0} → Lowering A → (A → Lowering B) → Lowering B
bind act more d = go_on (act d) more

-- one line
abbrev pub line : CStmt → Lowering (Unit {0})
line s d = Wrote (s ∷ []) tt d

-- the lines of an act, kept apart
abbrev pub apart : Lines (Unit {0}) → Lines (List CStmt)
apart (Wrote lines u d) = Wrote [] lines d

abbrev pub captured : Lowering (Unit {0}) → Lowering (List CStmt)
captured act d = apart (act d)

abbrev pub block : Lowering (Unit {0}) → Lowering (Unit {0})
block act = bind (captured act) (λ body. line (Block body))

abbrev pub variable : List ℕ → CExpr
variable name = Variable name

-- a value that was computed, by its number
abbrev pub value_of : ℕ → CExpr
value_of number = Variable (value_name number)

abbrev pub temp_of : ℕ → CExpr
temp_of number = Variable (temp_name number)

-- the lines that tell where a trap of the next line shows
abbrev pub located : Location → List CStmt → List CStmt
located here lines = Assign (Variable (codes "lf_name")) (Literal here.source) ∷ Assign (Variable (codes "lf_line")) (Constant here.line) ∷ lines

abbrev pub one_more : Drawn → Drawn
one_more d = record { values = d.values + 1; temps = d.temps }

abbrev pub with_temp : ℕ → ScalarType → Drawn → Drawn
with_temp number ty d = record { values = d.values; temps = λ n. if n == number then ty else d.temps n }

-- the next value, `int64_t tN = X;`
abbrev pub computed : CExpr → Lowering ℕ
computed x d = Wrote (DeclareValue Int64 (value_name (d.values + 1)) x ∷ []) (d.values + 1) (one_more d)
