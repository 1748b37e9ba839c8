-- What the builders of expressions answer: the expression at a number has the tree of the source's, and its type.
use Rattle.std.specs.Prelude.{◌≡◌, ℕ, Bool, true, false, List, [], ◌∷◌, ◌++◌, map, Option, Some, None, Result, Ok, Err}
use Rattle.lf_base.specs.declared.id.ExprId.{ExprId}
use Rattle.lf_base.specs.declared.fault.Memory.{Memory}
use Rattle.lf_base.specs.declared.rule.Rule.{Rule}
use Rattle.symtab_arena.specs.Paths.{path_of}
use Rattle.symtab_arena.specs.Scopes.{Scopes}
use Rattle.std.specs.List.{list_all}
use Rattle.asr_nodes.specs.Keys.{Key, expr, exprs}
use Rattle.asr_nodes.specs.Nodes.{Nodes, Extends, expr_tree, reads, there, BuildsExpr}
use Rattle.asr_nodes.specs.Reading.{expr_node}
use Rattle.asr_nodes.specs.declared.node.Expr.{Expr}
use Rattle.asr_nodes.specs.declared.node.Expr.TheVariants.{Convert}
use Rattle.asr_nodes.specs.declared.node.Symbol.{Symbol}
use Rattle.asr_nodes.specs.declared.tree.ExprTree.{ExprTree}
use Rattle.asr_nodes.specs.declared.tree.ExprTree.TheVariants as tree
use Rattle.fortran_semantics.specs.Constants.{intrinsic_named}
use Rattle.ast_to_asr.specs.declared.build.Built.{Built}
use Rattle.ast_to_asr.specs.declared.names.Known.TheVariants.{Variable}
use Rattle.ast_to_asr.specs.declared.names.ScalarType.{ScalarType}
use Rattle.ast_to_asr.specs.declared.names.ScalarType.TheVariants.{Integer, Logical}
use Rattle.ast_to_asr.specs.Expressions.{Elaborated, Elab, in_kind, greater, function_tree}
use Rattle.ast_to_asr.specs.Known.{Entries, known_in, type_of}
use Rattle.ast_to_asr.specs.Making.{Makes}

-- the tree at a number, with the paths of the arena
abbrev pub tree_at : Nodes → ExprId → ExprTree
tree_at a id = expr_tree a (path_of a.scopes) id

pub record Is (a : Nodes) (b : Built) (x : Elaborated) : Type 0 where
  pub tree : tree_at a b.id ≡ x.tree
  pub ty : type_of b.ty ≡ x.ty
  pub writes : b.writes ≡ x.writes

pub record IsRight (a : Nodes) (b : Built) (e : Elab) : Type 0 where
  pub elaborated : Elaborated
  pub right : e ≡ Ok elaborated
  pub is : Is a b elaborated

pub record IsWrong (e : Elab) : Type 0 where
  pub rule : Rule
  pub wrong : e ≡ Err rule

abbrev pub key_of : Built → Key
key_of b = expr b.id

abbrev pub keys_of : List Built → List Key
keys_of = map key_of

-- An expression that breaks no rule is built, and of another nothing is told.
abbrev pub IsBuilt : Nodes → Nodes → Elab → Result (Option Built) Memory → Type 0
IsBuilt old new e (Ok (Some b)) = IsRight new b e × Makes old new (key_of b ∷ [])
IsBuilt old new e (Ok None) = IsWrong e
IsBuilt old new e (Err fault) = Unit {0}

abbrev pub Are : Nodes → List Built → List Elab → Type 0
Are a [] [] = Unit {0}
Are a (b ∷ bs) (e ∷ es) = IsRight a b e × Are a bs es
Are a [] (e ∷ es) = ⊥
Are a (b ∷ bs) [] = ⊥

-- what was built of a front of the source's, and the rest of it
pub record Whole (a : Nodes) (bs : List Built) (left all : List Elab) : Type 0 where
  pub done : List Elab
  pub are : Are a bs done
  pub whole : done ++ left ≡ all

-- one of several breaks a rule
pub record AnyWrong (es : List Elab) : Type 0 where
  pub before : List Elab
  pub one : Elab
  pub behind : List Elab
  pub among : es ≡ before ++ one ∷ behind
  pub wrong : IsWrong one

-- A node is added with this type, and its tree is made of the trees of its parts.
pub record Adds (old new : Nodes) (node : Expr) (ty : ScalarType) (b : Built) : Type 0 where
  pub type_is : b.ty ≡ ty
  pub writes : b.writes ≡ None
  pub builds : BuildsExpr old new node (Ok b.id)
  pub extends : Extends old new
  pub stand : there new (key_of b ∷ []) ≡ true
  pub tree : tree_at new b.id ≡ expr_node (reads old (path_of old.scopes)) node

abbrev pub AddsOr : Nodes → Nodes → Expr → ScalarType → Result Built Memory → Type 0
AddsOr old new node ty (Ok b) = Adds old new node ty b
AddsOr old new node ty (Err fault) = Unit {0}

-- A node may stand in the place of another one in what was made.
pub record Exchanges (old new : Nodes) (before after : Key) : Type 0 where
  pub extends : Extends old new
  pub scopes : new.scopes ≡ old.scopes
  pub stand : there new (after ∷ []) ≡ true
  pub makes : (start : Nodes) (rest : List Key) → Makes start old (before ∷ rest) → Makes start new (after ∷ rest)

pub record Converts (old new : Nodes) (kind from : ℕ) (operand b : Built) : Type 0 where
  pub ty : b.ty ≡ Integer kind
  pub tree : tree_at new b.id ≡ in_kind kind from (tree_at old operand.id)
  pub exchanges : Exchanges old new (key_of operand) (key_of b)

abbrev pub ConvertsOr : Nodes → Nodes → ℕ → ℕ → Built → Result Built Memory → Type 0
ConvertsOr old new kind from operand (Ok b) = Converts old new kind from operand b
ConvertsOr old new kind from operand (Err fault) = Unit {0}

-- The symbols of variables have their paths in the unit.
pub record IsDeclared (scopes : Scopes Symbol) (unit : List ℕ) (names : Entries) : Type 0 where
  pub variables : (name : List ℕ) (symbol : Rattle.lf_base.specs.declared.id.SymId.SymId) (ty : ScalarType) → known_in names name ≡ Some (Variable symbol ty) → path_of scopes symbol ≡ unit ∷ name ∷ []

-- What is built of one operand, whatever it was built of.
pub record BuildsOf (old new : Nodes) (operand : Built) (elab : Elaborated → Elab) (r : Result (Option Built) Memory) : Type 0 where
  pub by : (start : Nodes) (x : Elaborated) → Is old operand x → Makes start old (key_of operand ∷ []) → IsBuilt start new (elab x) r

-- An operation of two operands, each converted to a kind.
pub record Joins (old new : Nodes) (code kind j k : ℕ) (ty : ScalarType) (left right b : Built) : Type 0 where
  pub type_is : b.ty ≡ ty
  pub writes : b.writes ≡ None
  pub tree : tree_at new b.id ≡ tree.Binary code (in_kind kind j (tree_at old left.id)) (in_kind kind k (tree_at old right.id))
  pub makes : (start : Nodes) → Makes start old (key_of left ∷ key_of right ∷ []) → Makes start new (key_of b ∷ [])

abbrev pub JoinsOr : Nodes → Nodes → ℕ → ℕ → ℕ → ℕ → ScalarType → Built → Built → Result Built Memory → Type 0
JoinsOr old new code kind j k ty left right (Ok b) = Joins old new code kind j k ty left right b
JoinsOr old new code kind j k ty left right (Err fault) = Unit {0}

-- What is built of two operands, whatever they were built of.
pub record BuildsOfTwo (old new : Nodes) (left right : Built) (elab : Elaborated → Elaborated → Elab) (r : Result (Option Built) Memory) : Type 0 where
  pub by : (start : Nodes) (x y : Elaborated) → Is old left x → Is old right y → Makes start old (key_of left ∷ key_of right ∷ []) → IsBuilt start new (elab x y) r

abbrev pub kind_of : ScalarType → ℕ
kind_of (Integer kind) = kind
kind_of Logical = 4

abbrev pub is_integer_type : ScalarType → Bool
is_integer_type (Integer kind) = true
is_integer_type Logical = false

abbrev pub is_integer : Built → Bool
is_integer b = is_integer_type b.ty

abbrev pub greatest_of : List Built → ℕ
greatest_of [] = 4
greatest_of (b ∷ bs) = greater (kind_of b.ty) (greatest_of bs)

-- an argument in a kind
abbrev pub as_kind : Nodes → ℕ → Built → ExprTree
as_kind a kind b = in_kind kind (kind_of b.ty) (tree_at a b.id)

-- Of operands in order, a front is converted to a kind, and the rest stands.
pub record Converted (old now : Nodes) (kind : ℕ) (bs : List Built) (ids : List ExprId) (left : List Built) : Type 0 where
  pub done : List Built
  pub whole : done ++ left ≡ bs
  pub integers : list_all is_integer done ≡ true
  pub trees : map (tree_at now) ids ≡ map (as_kind old kind) done
  pub extends : Extends old now
  pub scopes : now.scopes ≡ old.scopes
  pub stand : there now (exprs ids ++ keys_of left) ≡ true
  pub makes : (start : Nodes) → Makes start old (keys_of bs) → Makes start now (exprs ids ++ keys_of left)

-- All operands are converted to a kind, where all are integers; where one is none, nothing is told.
abbrev pub ConvertsAll : Nodes → Nodes → ℕ → List Built → Result (Option (List ExprId)) Memory → Type 0
ConvertsAll old new kind bs (Ok (Some ids)) = Converted old new kind bs ids []
ConvertsAll old new kind bs (Ok None) = list_all is_integer bs ≡ false
ConvertsAll old new kind bs (Err fault) = Unit {0}

-- What is built of several operands, whatever they were built of.
pub record BuildsOfAll (old new : Nodes) (bs : List Built) (elab : List Elab → Elab) (r : Result (Option Built) Memory) : Type 0 where
  pub by : (start : Nodes) (es : List Elab) → Are old bs es → Makes start old (keys_of bs) → IsBuilt start new (elab es) r

-- Several expressions are built, where none breaks a rule.
abbrev pub AreBuilt : Nodes → Nodes → List Elab → Result (Option (List Built)) Memory → Type 0
AreBuilt old new es (Ok (Some bs)) = Are new bs es × Makes old new (keys_of bs)
AreBuilt old new es (Ok None) = AnyWrong es
AreBuilt old new es (Err fault) = Unit {0}

-- An integer is converted to a kind, whatever kind it has; a logical is not.
abbrev pub ToKind : Nodes → Nodes → ℕ → Built → Result (Option Built) Memory → Type 0
ToKind old new kind operand (Ok (Some b)) = (is_integer operand ≡ true) × Adds old new (Convert kind operand.id) (Integer kind) b
ToKind old new kind operand (Ok None) = is_integer operand ≡ false
ToKind old new kind operand (Err fault) = Unit {0}

-- a reference by its name
abbrev pub by_name : List ℕ → List Elab → Elab
by_name name es = function_tree name es (intrinsic_named name)
