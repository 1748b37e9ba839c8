-- Which trees are files of the profile, and the bytes that spell one. The grammar is a part of that of
-- ISO/IEC 9899:1999, annex A.
use Rattle.std.specs.Prelude.{◌≡◌, ℕ, ◌^◌, Bool, true, false, ◌&&◌, ◌||◌, ◌==◌, not, nat_lt, if◌then◌else◌, IsTrue, List, [], ◌∷◌, ◌++◌, map, codes}
use Rattle.std.specs.Char.{is_ascii_alphabetic, is_ascii_alphanumeric}
use Rattle.std.specs.List.{list_all, list_any}
use Rattle.std.specs.Str.{bytes_eq}
use Rattle.c_nodes.specs.declared.tree.CType.{CType}
use Rattle.c_nodes.specs.declared.tree.CType.TheVariants as type
use Rattle.c_nodes.specs.declared.tree.CObject.{CObject}
use Rattle.c_nodes.specs.declared.tree.CObject.TheVariants.{Single, Array}
use Rattle.c_nodes.specs.declared.tree.CResult.{CResult}
use Rattle.c_nodes.specs.declared.tree.CResult.TheVariants.{Void, Int64, Int}
use Rattle.c_nodes.specs.declared.tree.CParameter.{CParameter}
use Rattle.c_nodes.specs.declared.tree.CParameter.TheVariants.{Value, Pointer}
use Rattle.c_nodes.specs.declared.tree.CExpr.{CExpr}
use Rattle.c_nodes.specs.declared.tree.CExpr.TheOpen.{CExpr-F}
use Rattle.c_nodes.specs.declared.tree.CExpr.TheFolds.{fold-CExpr}
use Rattle.c_nodes.specs.declared.tree.CStmt.{CStmt}
use Rattle.c_nodes.specs.declared.tree.CStmt.TheOpen.{CStmt-F}
use Rattle.c_nodes.specs.declared.tree.CStmt.TheFolds.{fold-CStmt}
use Rattle.c_nodes.specs.declared.tree.CItem.{CItem}
use Rattle.c_nodes.specs.declared.tree.CItem.TheVariants.{Struct, Object, StaticObject, StaticPointer, Prototype, Function}
use Rattle.c_nodes.specs.declared.tree.CFile.{CFile}
use Rattle.c_nodes.specs.Text.{file_text}

-- the keywords of the profile, and the names that its headers give a meaning of their own
abbrev pub words : List (List ℕ)
words = codes "INT64_C" ∷ codes "INT64_MAX" ∷ codes "INT64_MIN" ∷ codes "char" ∷ codes "else" ∷ codes "extern" ∷ codes "goto" ∷ codes "if" ∷ codes "int" ∷ codes "int32_t" ∷ codes "int64_t" ∷ codes "return" ∷ codes "static" ∷ codes "struct" ∷ codes "unsigned" ∷ codes "void" ∷ codes "while" ∷ []

abbrev pub is_word : List ℕ → Bool
is_word name = list_any (bytes_eq name) words

-- an identifier (6.4.2): a letter, followed by letters, digits and underscores, and no word
abbrev pub is_name : List ℕ → Bool
is_name [] = false
is_name (first ∷ rest) = is_ascii_alphabetic first && list_all (λ byte. is_ascii_alphanumeric byte || byte == 95) rest && not (is_word (first ∷ rest))

abbrev pub is_type : CType → Bool
is_type type.Int64 = true
is_type type.Int32 = true
is_type type.Byte = true
is_type (type.Struct name) = is_name name

-- a constant is at most the greatest value of `int64_t`
abbrev pub is_constant : ℕ → Bool
is_constant value = nat_lt value (2 ^ 63)

-- What an expression is. An lvalue may stand where an operand may, and an operand where a whole expression may.
pub data Standing : Type 0 where
  Lvalue : Standing
  Operand : Standing
  Whole : Standing
  Nothing : Standing

abbrev pub is_lvalue : Standing → Bool
is_lvalue Lvalue = true
is_lvalue Operand = false
is_lvalue Whole = false
is_lvalue Nothing = false

abbrev pub is_operand : Standing → Bool
is_operand Lvalue = true
is_operand Operand = true
is_operand Whole = false
is_operand Nothing = false

abbrev pub is_whole : Standing → Bool
is_whole Lvalue = true
is_whole Operand = true
is_whole Whole = true
is_whole Nothing = false

abbrev pub standing_if : Bool → Standing → Standing
standing_if right standing = if right then standing else Nothing

-- one shape of an expression, with what its parts are
abbrev pub standing_layer : CExpr-F Standing → Standing
standing_layer (CExpr-F.Variable name) = standing_if (is_name name) Lvalue
standing_layer (CExpr-F.Index base subscript) = standing_if (is_lvalue base && is_whole subscript) Lvalue
standing_layer (CExpr-F.Member base name) = standing_if (is_lvalue base && is_name name) Lvalue
standing_layer (CExpr-F.Constant value) = standing_if (is_constant value) Operand
standing_layer CExpr-F.Greatest = Operand
standing_layer CExpr-F.Least = Operand
standing_layer (CExpr-F.Paren inner) = standing_if (is_whole inner) Operand
standing_layer (CExpr-F.Negate operand) = standing_if (is_operand operand) Whole
standing_layer (CExpr-F.Not operand) = standing_if (is_operand operand) Whole
standing_layer (CExpr-F.Binary operator left right) = standing_if (is_operand left && is_operand right) Whole
standing_layer (CExpr-F.Cast kind operand) = standing_if (is_type kind && is_operand operand) Whole
standing_layer (CExpr-F.ToInt operand) = standing_if (is_operand operand) Whole
standing_layer (CExpr-F.Address place) = standing_if (is_lvalue place) Whole
standing_layer (CExpr-F.Literal bytes) = standing_if (list_all (λ byte. nat_lt byte 256) bytes) Whole

abbrev pub standing_of : CExpr → Standing
standing_of = fold-CExpr Standing standing_layer

abbrev pub is_expr : CExpr → Bool
is_expr expr = is_whole (standing_of expr)

abbrev pub is_target : CExpr → Bool
is_target expr = is_lvalue (standing_of expr)

abbrev pub is_call : List ℕ → List CExpr → Bool
is_call callee arguments = is_name callee && list_all is_expr arguments

-- each statement of a block is one
abbrev pub is_block : List Bool → Bool
is_block = list_all (λ right. right)

-- one shape of a statement, with whether the statements in it are ones
abbrev pub stmt_layer : CStmt-F Bool → Bool
stmt_layer (CStmt-F.Declare kind name) = is_type kind && is_name name
stmt_layer (CStmt-F.DeclareArray kind name size) = is_type kind && is_name name && is_expr size
stmt_layer (CStmt-F.DeclareValue kind name value) = is_type kind && is_name name && is_expr value
stmt_layer (CStmt-F.DeclarePointer kind name value) = is_type kind && is_name name && is_expr value
stmt_layer (CStmt-F.DeclareCall kind name callee arguments) = is_type kind && is_name name && is_call callee arguments
stmt_layer (CStmt-F.Assign target value) = is_target target && is_expr value
stmt_layer (CStmt-F.AssignCall target callee arguments) = is_target target && is_call callee arguments
stmt_layer (CStmt-F.Call callee arguments) = is_call callee arguments
stmt_layer CStmt-F.Return = true
stmt_layer (CStmt-F.ReturnValue value) = is_expr value
stmt_layer (CStmt-F.ReturnCall callee arguments) = is_call callee arguments
stmt_layer (CStmt-F.Goto label) = is_name label
stmt_layer (CStmt-F.Label name) = is_name name
stmt_layer (CStmt-F.Block body) = is_block body
stmt_layer (CStmt-F.While test body) = is_expr test && is_block body
stmt_layer (CStmt-F.If test then_body) = is_expr test && is_block then_body
stmt_layer (CStmt-F.IfElse test then_body else_body) = is_expr test && is_block then_body && is_block else_body

abbrev pub is_stmt : CStmt → Bool
is_stmt = fold-CStmt Bool stmt_layer

-- What a statement is where labels are told apart from others. A label is wrong in front of another statement.
pub data Mark : Type 0 where
  IsLabel : Mark
  IsOther : Mark
  IsWrong : Mark

abbrev pub other_if : Bool → Mark
other_if right = if right then IsOther else IsWrong

-- labels stand last in a block
abbrev pub are_last : List Mark → Bool
are_last [] = true
are_last (IsLabel ∷ []) = true
are_last (IsLabel ∷ mark ∷ marks) = false
are_last (IsOther ∷ marks) = are_last marks
are_last (IsWrong ∷ marks) = false

abbrev pub mark_layer : CStmt-F Mark → Mark
mark_layer (CStmt-F.Label name) = IsLabel
mark_layer (CStmt-F.Block body) = other_if (are_last body)
mark_layer (CStmt-F.While test body) = other_if (are_last body)
mark_layer (CStmt-F.If test then_body) = other_if (are_last then_body)
mark_layer (CStmt-F.IfElse test then_body else_body) = other_if (are_last then_body && are_last else_body)
mark_layer stmt = IsOther

abbrev pub mark_of : CStmt → Mark
mark_of = fold-CStmt Mark mark_layer

abbrev pub has_last_labels : List CStmt → Bool
has_last_labels body = are_last (map mark_of body)

abbrev pub is_parameter : CParameter → Bool
is_parameter (Value kind name) = is_type kind && is_name name
is_parameter (Pointer kind name) = is_type kind && is_name name

-- `main` returns an `int`, and no other function does (5.1.2.2.1)
abbrev pub may_return : CResult → List ℕ → Bool
may_return Void name = not (bytes_eq name (codes "main"))
may_return Int64 name = not (bytes_eq name (codes "main"))
may_return Int name = bytes_eq name (codes "main")

abbrev pub is_head : CResult → List ℕ → List CParameter → Bool
is_head result name parameters = is_name name && may_return result name && list_all is_parameter parameters

abbrev pub is_object : CObject → Bool
is_object (Single kind name) = is_type kind && is_name name
is_object (Array kind name size) = is_type kind && is_name name && is_constant size

-- a structure has a member (6.7.2.1, 1)
abbrev pub are_members : List CObject → Bool
are_members [] = false
are_members (member ∷ members) = list_all is_object (member ∷ members)

abbrev pub is_item : CItem → Bool
is_item (Struct name members) = is_name name && are_members members
is_item (Object is_extern object) = is_object object
is_item (StaticObject kind name) = is_type kind && is_name name
is_item (StaticPointer kind name) = is_type kind && is_name name
is_item (Prototype result name parameters) = is_head result name parameters
is_item (Function is_static result name parameters body) = is_head result name parameters && list_all is_stmt body && has_last_labels body

-- whether other files see the function or the object (6.2.2)
abbrev pub is_external : CItem → Bool
is_external (StaticObject kind name) = false
is_external (StaticPointer kind name) = false
is_external (Function is_static result name parameters body) = not is_static
is_external item = true

-- A file begins with these items, the prelude, and behind them nothing is `static`.
pub record IsGrammaticalBehind (prelude : List CItem) (file : CFile) : Type 0 where
  pub rest : List CItem
  pub begins : file.items ≡ prelude ++ rest
  pub items : IsTrue (list_all is_item file.items)
  pub external : IsTrue (list_all is_external rest)

-- A file that begins with the prelude has one spelling: its text.
pub record SpellsBehind (prelude : List CItem) (bytes : List ℕ) (file : CFile) : Type 0 where
  pub grammatical : IsGrammaticalBehind prelude file
  pub text : bytes ≡ file_text file
