-- Operations on characters, by their bytes (ISO/IEC 1539-1:2018, 10.1.5.3, 10.1.5.5 and 16.9: INDEX, LEN_TRIM, TRIM).
use Rattle.std.specs.Prelude.{◌≡◌, ◌≢◌, ℕ, ◌+◌, ◌-◌, ◌≤◌, ◌<◌, max, true, drop, take, ◌==◌, nat_eq, nat_le, nat_lt, if◌then◌else◌, List, [], ◌∷◌, ◌++◌, length, replicate, Option, Some, None}
use Rattle.std.specs.Prelude.{ℤ, pos, negsuc}
use Rattle.std.specs.List.{starts_with}
use Rattle.std.specs.Ordering.{nat_cmp}
use Rattle.std.specs.declared.cmp.Ordering.{Ordering}
use Rattle.std.specs.declared.cmp.Ordering.TheVariants.{Equal}
use Rattle.type_rules.specs.Values.{Scalar, Characters, Evaluation, Gives, Traps}
use Rattle.lf_base.specs.declared.trap.Trap.TheVariants.{SubstringOutOfRange, LengthLimit, BadCharacterCode}

-- The text with blanks at its end, up to this length.
abbrev pub padded : ℕ → List ℕ → List ℕ
padded n text = text ++ replicate (n - length text) 32

-- What a variable of this length holds of a text: the text is cut, or padded with blanks (10.2.1.3).
abbrev pub in_length : ℕ → List ℕ → List ℕ
in_length n text = take n (padded n text)

-- The bytes at the first place where two texts of one length differ.
abbrev pub first_difference : List ℕ → List ℕ → Option (ℕ × ℕ)
first_difference (a ∷ xs) (b ∷ ys) = if a == b then first_difference xs ys else Some (a, b)
first_difference _ _ = None

abbrev pub order_at : Option (ℕ × ℕ) → Ordering
order_at (Some (a, b)) = nat_cmp a b
order_at None = Equal

-- The order of two texts, of which the shorter one is padded: that of the first bytes that differ.
abbrev pub text_order : List ℕ → List ℕ → Ordering
text_order a b =
    let n = max (length a) (length b) in
    order_at (first_difference (padded n a) (padded n b))

-- A value has at most 65,535 bytes.
abbrev pub concatenated : List ℕ → List ℕ → Evaluation Scalar
concatenated a b = if nat_le (length a + length b) 65535 then Gives (Characters (a ++ b)) else Traps LengthLimit

-- A byte in front of a text without blanks at its end.
abbrev pub before_trimmed : ℕ → List ℕ → List ℕ
before_trimmed b [] = if b == 32 then [] else b ∷ []
before_trimmed b (c ∷ cs) = b ∷ c ∷ cs

-- The text without the blanks at its end.
abbrev pub trimmed : List ℕ → List ℕ
trimmed [] = []
trimmed (b ∷ bs) = before_trimmed b (trimmed bs)

-- The first place, counted from this number on, at which the first text stands in the second; 0 where there is none.
abbrev pub place_from : ℕ → List ℕ → List ℕ → ℕ
place_from k d [] = if length d == 0 then k else 0
place_from k d (c ∷ cs) = if starts_with nat_eq (c ∷ cs) d then k else place_from (k + 1) d cs

-- The number of the one byte.
abbrev pub number_of_byte : List ℕ → Evaluation ℕ
number_of_byte (b ∷ []) = Gives b
number_of_byte _ = Traps SubstringOutOfRange

-- The one byte of a number.
abbrev pub byte_of_number : ℤ → Evaluation Scalar
byte_of_number (pos n) = if nat_lt n 256 then Gives (Characters (n ∷ [])) else Traps BadCharacterCode
byte_of_number (negsuc n) = Traps BadCharacterCode

-- Two texts of one length are the same, or this is the first place where they differ, with the bytes there.
pub record IsFirstDifference (xs ys : List ℕ) (a b : ℕ) : Type 0 where
  pub front : List ℕ
  pub rest : List ℕ
  pub other_rest : List ℕ
  pub is : xs ≡ front ++ a ∷ rest
  pub other_is : ys ≡ front ++ b ∷ other_rest
  pub apart : a ≢ b

abbrev pub DifferAt : List ℕ → List ℕ → Option (ℕ × ℕ) → Type 0
DifferAt xs ys None = xs ≡ ys
DifferAt xs ys (Some (a, b)) = IsFirstDifference xs ys a b

-- What is left of a text without the blanks at its end: only blanks follow, and it does not end in one.
pub record IsTrimmed (text left : List ℕ) : Type 0 where
  pub blanks : ℕ
  pub is : text ≡ left ++ replicate blanks 32
  pub no_blank : (front : List ℕ) → left ≢ front ++ 32 ∷ []

-- The part stands in the text behind so many bytes.
abbrev pub StandsAt : List ℕ → List ℕ → ℕ → Type 0
StandsAt part text k = starts_with nat_eq (drop k text) part ≡ true

-- The least place, counted from 1, at which the part stands in the text; 0 where there is none.
pub record IsPlace (part text : List ℕ) (place : ℕ) : Type 0 where
  pub stands : (k : ℕ) → place ≡ k + 1 → StandsAt part text k
  pub least : (k : ℕ) → k + 1 < place → ¬ StandsAt part text k
  pub none : place ≡ 0 → (k : ℕ) → k ≤ length text → ¬ StandsAt part text k
