-- How values are written (ISO/IEC 1539-1:2018, 13.10.4): in a record of the format `*`, and under the format `'(I0)'`.
use Rattle.std.specs.Prelude.{ℕ, ◌==◌, Bool, true, false, if◌then◌else◌, List, [], ◌++◌, codes, Option, Some, None}
use Rattle.std.specs.Fmt.{signed_decimal}
use Rattle.lf_base.specs.Acts.{bind, give, print, wrong}
use Rattle.lf_base.specs.Outcome.{Stuck}
use Rattle.type_rules.specs.Values.{Scalar, Integer, Logical, Characters}
use Rattle.type_rules.specs.Store.{Value, Single, Array, Record}
use Rattle.asr_nodes.specs.declared.code.TheConstants.{FALSE}
use Rattle.asr_semantics.specs.Machine.{Last, Nothing, Plain, M}
use Rattle.asr_semantics.specs.Machine.{Characters as Text}

abbrev pub letter : Bool → List ℕ
letter true = codes "T"
letter false = codes "F"

-- An integer in its fewest digits, and a logical by its letter. Characters have no rule yet.
abbrev pub scalar_text : Scalar → Option (List ℕ)
scalar_text (Integer kind value) = Some (signed_decimal value)
scalar_text (Logical truth) = Some (letter truth)
scalar_text (Characters bytes) = None

abbrev pub item_text : Value → Option (List ℕ)
item_text (Single scalar) = scalar_text scalar
item_text (Array element extents elements) = None
item_text (Record components) = None

-- A record begins with a blank. Each further item has a blank before it, unless it and its neighbour are characters.
abbrev pub gap : Last → Last → List ℕ
gap Nothing next = []
gap Text Text = []
gap Text next = codes " "
gap Plain next = codes " "

-- the item behind what was written last
abbrev pub put_text : Last → Option (List ℕ) → M Last
put_text last None = wrong Stuck
put_text last (Some text) = bind (print (gap last Plain ++ text)) (λ u. give Plain)

abbrev pub put_item : Last → Value → M Last
put_item last value = put_text last (item_text value)

-- an integer alone, by its digits
abbrev pub digits : Value → Option (List ℕ)
digits (Single (Integer kind value)) = Some (signed_decimal value)
digits _ = None

abbrev pub begin_record : M (Unit {0})
begin_record = print (codes " ")

abbrev pub end_record : M (Unit {0})
end_record = print (codes "\n")

-- the record goes on with `advance='no'`
abbrev pub advance_record : ℕ → M (Unit {0})
advance_record advance = if advance == FALSE then end_record else give tt
