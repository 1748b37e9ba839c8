-- The same by numbers of nodes: which statements are lowered, and what stands for them afterwards.
use Rattle.std.specs.Prelude.{is_some, ◌≡◌, ℕ, suc, true, ◌==◌, if◌then◌else◌, List, [], ◌∷◌, ◌++◌, map, Option, Some, None}
use Rattle.std.specs.Option.{option_map_or}
use Rattle.lf_base.specs.declared.id.ExprId.{ExprId}
use Rattle.lf_base.specs.declared.id.StmtId.{StmtId}
use Rattle.asr_nodes.specs.Keys.{Key, expr, stmt, Node}
use Rattle.asr_nodes.specs.Nodes.{Nodes, node_at}
use Rattle.asr_nodes.specs.Splices.{line_of, spliced}
use Rattle.asr_nodes.specs.declared.code.TheConstants.{FORMAT_LIST as list_form}
use Rattle.asr_nodes.specs.declared.node.PrintItem.{PrintItem, PrintItem-F, fold-PrintItem}
use Rattle.asr_nodes.specs.declared.node.Stmt.{Stmt}
use Rattle.asr_nodes.specs.declared.node.Stmt.TheVariants as s
use Rattle.pass_array_op.specs.Drawing.{some}

abbrev pub value_layer : PrintItem-F (Option ExprId) → Option ExprId
value_layer (PrintItem-F.Value value) = Some value
value_layer (PrintItem-F.Loop variable lower upper step items) = None

-- the value of an item that is no implied do
abbrev pub value_of : PrintItem → Option ExprId
value_of = fold-PrintItem (Option ExprId) value_layer

abbrev pub behind_value : Option ExprId → Option (List ExprId) → Option (List ExprId)
behind_value (Some value) (Some values) = Some (value ∷ values)
behind_value (Some value) None = None
behind_value None values = None

-- the values of a list that holds nothing else
abbrev pub values_of : List PrintItem → Option (List ExprId)
values_of [] = Some []
values_of (item ∷ items) = behind_value (value_of item) (values_of items)

-- the values of list-directed output that holds nothing else
abbrev pub values_put : Stmt → Option (List ExprId)
values_put (s.Print line form advance items) = if form == list_form then values_of items else None
values_put (s.Assign line target value) = None
values_put (s.If line condition then_block else_block) = None
values_put (s.Do line id variable lower upper step body) = None
values_put (s.While line id condition body) = None
values_put (s.Exit line id) = None
values_put (s.Cycle line id) = None
values_put (s.Select line value cases default) = None
values_put (s.Call line callee arguments) = None
values_put (s.Read line target iostat) = None
values_put (s.Stop line error code) = None
values_put (s.Return line) = None
values_put (s.Block line body) = None
values_put (s.Let line number value) = None
values_put (s.Room line number element len extents) = None
values_put (s.Count line number bound body) = None
values_put (s.Same line left right) = None
values_put (s.Probe line designator) = None
values_put (s.Begin line number) = None
values_put (s.Put line number value) = None
values_put (s.End line) = None

abbrev pub values_at : (key : Key) → Node key → Option (List ExprId)
values_at (expr id) x = None
values_at (stmt id) x = values_put x

-- the number of a statement that is lowered
abbrev pub number_of : (key : Key) → Option (Node key) → List StmtId
number_of (expr id) x = []
number_of (stmt id) None = []
number_of (stmt id) (Some x) = option_map_or (λ values. id ∷ []) (values_put x) []

-- those of the statements of some keys that are lowered
abbrev pub prints : Nodes → List Key → List StmtId
prints a [] = []
prints a (key ∷ keys) = number_of key (node_at a key) ++ prints a keys

abbrev pub puts : ℕ → ℕ → List ExprId → List Stmt
puts line number [] = s.End line ∷ []
puts line number (value ∷ values) = s.Put line number value ∷ puts line number values

-- the statements of a record
abbrev pub record_nodes : ℕ → ℕ → List ExprId → List Stmt
record_nodes line number values = s.Begin line number ∷ puts line number values

module _ (old new : Nodes) where
  -- What is not lowered stays where it stood, with its fields.
  abbrev pub Keeps : Type 0
  Keeps = (key : Key) (x : Node key) → node_at old key ≡ Some x → values_at key x ≡ None → node_at new key ≡ Some x

module _ (old new : Nodes) where
  -- The statements of a record stand in a block, in the place of the output statement, whose line they have.
  pub record IsRecord (id : StmtId) (number : ℕ) : Type 0 where
    pub stands : (x : Stmt) (values : List ExprId) → node_at old (stmt id) ≡ Some x → values_put x ≡ Some values → (ids : List StmtId) × (node_at new (stmt id) ≡ Some (s.Block (line_of x) ids)) × (map (λ i. node_at new (stmt i)) ids ≡ map some (record_nodes (line_of x) number values))

  -- records with one number behind another
  abbrev pub AreRecords : ℕ → List StmtId → Type 0
  AreRecords number [] = Unit {0}
  AreRecords number (id ∷ ids) = IsRecord id number × AreRecords (suc number) ids

-- Such a statement stands there.
pub record IsLowered (a : Nodes) (id : StmtId) : Type 0 where
  pub node : Stmt
  pub stands : node_at a (stmt id) ≡ Some node
  pub is_lowered : is_some (values_put node) ≡ true

abbrev pub or_none : Option (List ExprId) → List ExprId
or_none None = []
or_none (Some values) = values

-- the record of a statement
abbrev pub record_for : Stmt → ℕ → List Stmt
record_for x number = record_nodes (line_of x) number (or_none (values_put x))

-- the nodes with a record in the place of a statement
abbrev pub with_record : Nodes → StmtId → ℕ → Nodes
with_record a id number = option_map_or (λ x. spliced a id (record_for x number)) (node_at a (stmt id)) a
