-- Arguments of functions, one behind another.
use Rattle.std.proofs.Common.{◌≡◌, ℕ, Bool, true, false, ◌==◌, ◌||◌, cond, List, [], ◌∷◌, refl}
use Rattle.ast_to_asr.specs.Building.{greatest_of, kind_of}
use Rattle.ast_to_asr.specs.declared.build.Built.{Built}
use Rattle.ast_to_asr.specs.Expressions.{greater}

-- a kind of two, by whether either is the long one
abbrev two : Bool → ℕ
two b = cond b 8 4

pub greater_all : (a b c : ℕ) → greater (greater a b) c ≡ greater a (greater b c)
greater_all a b c = by (a == 8) (b == 8) (c == 8)
  where
    by : (p q r : Bool) → two ((two (p || q) == 8) || r) ≡ two (p || (two (q || r) == 8))
    by true true true = refl
    by true true false = refl
    by true false true = refl
    by true false false = refl
    by false true true = refl
    by false true false = refl
    by false false true = refl
    by false false false = refl

pub greater_default : (a b : ℕ) → greater (greater a b) 4 ≡ greater a b
greater_default a b = by (a == 8) (b == 8)
  where
    by : (p q : Bool) → two ((two (p || q) == 8) || false) ≡ two (p || q)
    by true true = refl
    by true false = refl
    by false true = refl
    by false false = refl

pub default_greater : (a b : ℕ) → greater 4 (greater a b) ≡ greater a b
default_greater a b = by (a == 8) (b == 8)
  where
    by : (p q : Bool) → two (two (p || q) == 8) ≡ two (p || q)
    by true true = refl
    by true false = refl
    by false true = refl
    by false false = refl

pub default_first : (bs : List Built) → greater 4 (greatest_of bs) ≡ greatest_of bs
default_first [] = refl
default_first (b ∷ bs) = default_greater (kind_of b.ty) (greatest_of bs)

pub ruleset kinds = (greater_all, greater_default, default_first)
