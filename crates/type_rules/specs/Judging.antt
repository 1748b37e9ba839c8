-- An operation on values of types: what its type says of what it gives (ISO/IEC 1539-1:2018, 10.1.9).
use Rattle.std.specs.Prelude.{◌≡◌, ℕ, List, [], ◌∷◌, length}
use Rattle.lf_base.specs.declared.trap.Trap.TheVariants.{SubstringOutOfRange}
use Rattle.type_rules.specs.Values.{Scalar, Integer, Logical, Characters, Evaluation, Gives, Traps, NoRule}
use Rattle.type_rules.specs.Store.{Value}
use Rattle.type_rules.specs.Shapes.{Definitions, IsValue}
use Rattle.type_rules.specs.declared.ty.Ty.{Ty}
use Rattle.type_rules.specs.declared.ty.Elem.{Elem}
use Rattle.type_rules.specs.declared.ty.Elem.TheVariants as elem
use Rattle.type_rules.specs.declared.ty.Len.{Len}
use Rattle.type_rules.specs.declared.ty.Len.TheVariants as len
use Rattle.type_rules.specs.declared.signature.Judgement.{Judgement}
use Rattle.type_rules.specs.declared.signature.Judgement.TheVariants.{Element, NoType, Misused}

abbrev pub HasLength : Len → List ℕ → Type 0
HasLength (len.Fixed n) bytes = length bytes ≡ n
HasLength len.Assumed bytes = Unit {0}

-- A scalar of this element type, whatever its number is.
abbrev pub Suits : Elem → Scalar → Type 0
Suits (elem.Integer j) (Integer k value) = j ≡ k
Suits elem.Logical (Logical truth) = Unit {0}
Suits (elem.Character n) (Characters bytes) = HasLength n bytes
Suits _ _ = ⊥

abbrev pub AllSuit : List Elem → List Scalar → Type 0
AllSuit [] [] = Unit {0}
AllSuit (e ∷ es) (s ∷ ss) = Suits e s × AllSuit es ss
AllSuit _ _ = ⊥

-- Where there is an element type, an operation gives a scalar of it or traps; where there is none, it has no rule. One
-- character that is known to be none or more traps, too.
abbrev pub Answers : Judgement → Evaluation Scalar → Type 0
Answers (Element e) (Gives s) = Suits e s
Answers (Element e) (Traps trap) = Unit {0}
Answers (Element e) NoRule = ⊥
Answers NoType (Gives s) = ⊥
Answers NoType (Traps trap) = ⊥
Answers NoType NoRule = Unit {0}
Answers (Misused rule) (Gives s) = ⊥
Answers (Misused rule) (Traps trap) = trap ≡ SubstringOutOfRange
Answers (Misused rule) NoRule = Unit {0}

-- Values of these types.
abbrev pub AreValues : Definitions → List Ty → List Value → Type 0
AreValues definitions [] [] = Unit {0}
AreValues definitions (t ∷ ts) (v ∷ vs) = IsValue definitions t v × AreValues definitions ts vs
AreValues definitions _ _ = ⊥

-- A value of this type, or a trap.
abbrev pub IsRight : Definitions → Ty → Evaluation Value → Type 0
IsRight definitions ty (Gives v) = IsValue definitions ty v
IsRight definitions ty (Traps trap) = Unit {0}
IsRight definitions ty NoRule = ⊥

-- No value. One character that is none or more traps before its type is looked at.
abbrev pub IsWrong : Evaluation Value → Type 0
IsWrong (Gives v) = ⊥
IsWrong (Traps trap) = trap ≡ SubstringOutOfRange
IsWrong NoRule = Unit {0}
