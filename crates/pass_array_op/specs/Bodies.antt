-- What becomes of the statements of a body.
use Rattle.std.specs.Prelude.{◌≡◌, ℕ, ◌<◌, ◌≤◌, Bool, true, Result, Ok, Err, List, [], ◌∷◌, map, Some}
use Rattle.std.specs.List.{list_all, AllByRecursion}
use Rattle.lf_base.specs.declared.fault.Memory.{Memory}
use Rattle.lf_base.specs.declared.id.StmtId.{StmtId}
use Rattle.lf_base.specs.declared.id.SymId.{SymId}
use Rattle.asr_nodes.specs.Keys.{Key, Node, stmt, stmts, is_other}
use Rattle.asr_nodes.specs.Nodes.{Nodes, node_at, tree_at, stmt_tree, there}
use Rattle.asr_nodes.specs.OnePlace.{StandAlone, places}
use Rattle.asr_nodes.specs.Reading.{Path}
use Rattle.asr_nodes.specs.Visits.{visits}
use Rattle.pass_array_op.specs.Lowering.{lowered_body}
use Rattle.pass_array_op.specs.Prints.{prints, Keeps, AreRecords, IsLowered}

-- no two of these are the same
abbrev pub Differ : List StmtId → Type 0
Differ [] = Unit {0}
Differ (id ∷ ids) = AllByRecursion (λ j. is_other (stmt id) (stmt j) ≡ true) ids × Differ ids

-- whether a key is none of these statements
abbrev pub is_none_of : List StmtId → Key → Bool
is_none_of ids key = list_all (λ id. is_other (stmt id) key) ids

-- What is none of these statements stays where it stood, with its fields.
abbrev pub KeepsBut : Nodes → Nodes → List StmtId → Type 0
KeepsBut old new ids = (key : Key) (x : Node key) → is_none_of ids key ≡ true → node_at old key ≡ Some x → node_at new key ≡ Some x

-- Trees in which none of these statements stands stay.
abbrev pub KeepsTrees : Nodes → Nodes → List StmtId → Type 0
KeepsTrees old new ids = (keys : List Key) → there old keys ≡ true → AllByRecursion (λ id. places old (stmt id) keys ≡ 0) ids
    → (path : SymId → Path) → AllByRecursion (λ key. tree_at new path key ≡ tree_at old path key) keys

-- Trees stand alone, and these statements stand in those at `mine`.
pub record HoldAlone (a : Nodes) (mine others : List Key) (ids : List StmtId) : Type 0 where
  pub mine_there : there a mine ≡ true
  pub others_there : there a others ≡ true
  pub alone : StandAlone a mine others
  pub placed : AllByRecursion (λ id. 0 < places a (stmt id) mine) ids

-- Records with one number behind another stand in the place of statements, and all else as it stood.
pub record Records (old new : Nodes) (ids : List StmtId) (number : ℕ) : Type 0 where
  pub rest : Keeps old new
  pub stays : KeepsBut old new ids
  pub records : AreRecords old new number ids
  pub scopes : new.scopes ≡ old.scopes
  pub alone : (mine others : List Key) → HoldAlone old mine others ids → HoldAlone new mine others []

-- Each of some statements waits to be lowered, and those before them have been: with records for these, all have theirs.
pub record Midway (old now : Nodes) (all ids : List StmtId) (number next : ℕ) : Type 0 where
  pub rest : Keeps old now
  pub stays : (new : Nodes) → KeepsBut now new ids → KeepsBut old new all
  pub waits : AllByRecursion (λ id. node_at now (stmt id) ≡ node_at old (stmt id)) ids
  pub lowered : AllByRecursion (IsLowered old) ids
  pub differ : Differ ids
  pub records : (new : Nodes) → Keeps now new → AreRecords old new next ids → AreRecords old new number all
  pub scopes : now.scopes ≡ old.scopes
  pub alone : (mine others : List Key) → HoldAlone old mine others all → HoldAlone now mine others ids

-- Each node has one place at most below a body, as where trees stand alone.
abbrev pub HasNoneTwice : Nodes → List StmtId → Type 0
HasNoneTwice a body = (key : Key) → places a key (stmts body) ≤ 1

-- The statements of a body become what their definition says, with the numbers of the records from the first one on, and
-- all else stays, also output statements of other bodies, and with it trees in which none of the lowered statements stands.
-- Where all nodes stood at one place of the trees that hold the body, they do so still.
pub record LowersBody (old new : Nodes) (body : List StmtId) (number : ℕ) : Type 0 where
  pub tree : (path : SymId → Path) → map (stmt_tree new path) body ≡ (lowered_body (map (stmt_tree old path) body)).from number
  pub rest : Keeps old new
  pub stays : KeepsBut old new (prints old (visits old (stmts body)))
  pub trees : KeepsTrees old new (prints old (visits old (stmts body)))
  pub records : AreRecords old new number (prints old (visits old (stmts body)))
  pub scopes : new.scopes ≡ old.scopes
  pub alone : (mine others : List Key) → there old mine ≡ true → there old others ≡ true → ((key : Key) → places old key (stmts body) ≤ places old key mine) → StandAlone old mine others → StandAlone new mine others

-- what lowering a body answers
abbrev pub LowersOr : Nodes → Nodes → List StmtId → ℕ → Result (Unit {0}) Memory → Type 0
LowersOr old new body number (Ok _) = LowersBody old new body number
LowersOr old new body number (Err fault) = Unit {0}
