-- What an expression reads, by its shape.
use Rattle.std.proofs.Common.{◌≡◌, ℕ, List}
use Rattle.lf_base.specs.declared.name.Name.{Name}
use Rattle.c_nodes.specs.declared.tree.CType.{CType}
use Rattle.c_nodes.specs.declared.tree.CBinary.{CBinary}
use Rattle.c_nodes.specs.declared.tree.CExpr.{CExpr, CExpr-F}
use Rattle.c_nodes.specs.declared.tree.CExpr.TheVariants.{Variable, Index, Member, Constant, Greatest, Least, Paren, Negate, Not, Binary, Cast, ToInt, Address, Literal}
use Rattle.c_semantics.specs.CMeaning.{Reading, reading, reading_layer}
use Rattle.c_nodes.proofs.ExprInduction.{fold-Variable, fold-Index, fold-Member, fold-Constant, fold-Greatest, fold-Least, fold-Paren, fold-Negate, fold-Not, fold-Binary, fold-Cast, fold-ToInt, fold-Address, fold-Literal}

pub reads_variable : (name : Name) → reading (Variable name) ≡ reading_layer (CExpr-F.Variable name)
reads_variable name = fold-Variable Reading reading_layer name

pub reads_index : (base subscript : CExpr) → reading (Index base subscript) ≡ reading_layer (CExpr-F.Index (reading base) (reading subscript))
reads_index base subscript = fold-Index Reading reading_layer base subscript

pub reads_member : (base : CExpr) (name : Name) → reading (Member base name) ≡ reading_layer (CExpr-F.Member (reading base) name)
reads_member base name = fold-Member Reading reading_layer base name

pub reads_constant : (n : ℕ) → reading (Constant n) ≡ reading_layer (CExpr-F.Constant n)
reads_constant n = fold-Constant Reading reading_layer n

pub reads_greatest : reading Greatest ≡ reading_layer CExpr-F.Greatest
reads_greatest = fold-Greatest Reading reading_layer

pub reads_least : reading Least ≡ reading_layer CExpr-F.Least
reads_least = fold-Least Reading reading_layer

pub reads_paren : (inner : CExpr) → reading (Paren inner) ≡ reading_layer (CExpr-F.Paren (reading inner))
reads_paren inner = fold-Paren Reading reading_layer inner

pub reads_negate : (e : CExpr) → reading (Negate e) ≡ reading_layer (CExpr-F.Negate (reading e))
reads_negate e = fold-Negate Reading reading_layer e

pub reads_not : (e : CExpr) → reading (Not e) ≡ reading_layer (CExpr-F.Not (reading e))
reads_not e = fold-Not Reading reading_layer e

pub reads_binary : (operator : CBinary) (a b : CExpr) → reading (Binary operator a b) ≡ reading_layer (CExpr-F.Binary operator (reading a) (reading b))
reads_binary operator a b = fold-Binary Reading reading_layer operator a b

pub reads_cast : (kind : CType) (e : CExpr) → reading (Cast kind e) ≡ reading_layer (CExpr-F.Cast kind (reading e))
reads_cast kind e = fold-Cast Reading reading_layer kind e

pub reads_to_int : (e : CExpr) → reading (ToInt e) ≡ reading_layer (CExpr-F.ToInt (reading e))
reads_to_int e = fold-ToInt Reading reading_layer e

pub reads_address : (place : CExpr) → reading (Address place) ≡ reading_layer (CExpr-F.Address (reading place))
reads_address place = fold-Address Reading reading_layer place

pub reads_literal : (bytes : List ℕ) → reading (Literal bytes) ≡ reading_layer (CExpr-F.Literal bytes)
reads_literal bytes = fold-Literal Reading reading_layer bytes

pub ruleset exprs = (reads_variable, reads_index, reads_member, reads_constant, reads_greatest, reads_least, reads_paren, reads_negate, reads_not, reads_binary, reads_cast, reads_to_int, reads_address, reads_literal)
