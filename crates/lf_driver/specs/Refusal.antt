-- Why a call refuses its words, and the text that tells it.
use Rattle.std.specs.Prelude.{ℕ, List, [], ◌∷◌, ◌++◌, codes}
use Rattle.std.specs.List.{flat_map}
use Rattle.std.specs.Fmt.{decimal}
use Rattle.lf_base.specs.declared.rule.Rule.{Rule}
use Rattle.lf_base.specs.Contents.{joined}
use Rattle.lf_base.specs.Rules.{number_of}

pub data Refusal : Type 0 where
  -- the words are no command
  Usage : Refusal
  -- there is no file of this name
  Absent : (name : List ℕ) → Refusal
  -- the file breaks a rule first at this line
  Refused : (name : List ℕ) (line : ℕ) (rule : Rule) → Refusal
  -- these files wait for one another
  Circular : (names : List (List ℕ)) → Refusal

-- names, each with a text before it and one behind it
abbrev pub listed : List ℕ → List ℕ → List (List ℕ) → List ℕ
listed before behind names = flat_map (λ name. before ++ (name ++ behind)) names

abbrev pub refusal_text : Refusal → List ℕ
refusal_text Usage = codes "lf: usage: COMMAND [--turns=N] FILE ...\n"
refusal_text (Absent name) = joined (codes "lf: no such file: " ∷ name ∷ codes "\n" ∷ [])
refusal_text (Refused name line rule) = joined (name ∷ codes ":" ∷ decimal line ∷ codes ": E" ∷ joined (decimal (number_of rule) ∷ codes "\n" ∷ []) ∷ [])
refusal_text (Circular names) = joined (codes "lf: cycle" ∷ listed (codes " ") [] names ∷ codes "\n" ∷ [])

abbrev pub read_fault_text : List ℕ
read_fault_text = codes "lf: read fault\n"

abbrev pub write_fault_text : List ℕ
write_fault_text = codes "lf: write fault\n"

abbrev pub memory_text : List ℕ
memory_text = codes "lf: out of memory\n"
