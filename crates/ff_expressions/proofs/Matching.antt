-- The reader with its open groups finds exactly what the tokens spell.
use Rattle.std.proofs.Common.{◌≡◌, ℕ, Bool, true, false, List, [], ◌∷◌, ◌++◌, Option, Some, None, refl, sym, ap, ◌∙◌, subst, append-nil, append_assoc}
use Rattle.std.specs.Prelude.{if◌then◌else◌}
use Rattle.std.specs.Option.{option_map, option_and_then}
use Rattle.std.proofs.lemmas.Option.{option_and_then_some}
use Rattle.ff_lexer.specs.declared.token.Kind.{Kind}
use Rattle.ff_lexer.specs.declared.token.Kind.TheVariants as kind
use Rattle.ff_lexer.specs.Statements.{Spelled}
use Rattle.ff_expressions.specs.declared.item.Bracket.{Bracket}
use Rattle.ff_expressions.specs.declared.item.Bracket.TheVariants.{Round, Square}
use Rattle.ff_expressions.specs.declared.item.Part.{Part}
use Rattle.ff_expressions.specs.declared.item.Item.{Item}
use Rattle.ff_expressions.specs.declared.item.Item.TheVariants as item
use Rattle.ff_expressions.specs.declared.sign.Sign.{Sign}
use Rattle.ff_expressions.specs.declared.sign.Sign.TheVariants as sign
use Rattle.ff_expressions.specs.declared.reader.Opened.{Opened}
use Rattle.ff_expressions.specs.declared.reader.Reader.{Reader}
use Rattle.ff_expressions.specs.Signs.{sign_of, text_value}
use Rattle.ff_expressions.specs.Items.{parts_of, with_item, opened_by, same_bracket, closed_with, closed_by, with_mark, number_of, with_token, end_with, read_behind, start, items_of}
use Rattle.ff_expressions.specs.Brackets.{single_in, single, Opens, Closes, Spells, Nothing, Single, Grouped, ItemsAreSpelled}

-- ahead: what is spelled is read

single_mark : (reader : Reader) (s : Option Sign) (one : Item) → single_in s ≡ Some one → with_mark reader s ≡ Some (with_item reader one)
single_mark reader None one e = cc
single_mark reader (Some (sign.Mark mark)) one e = ap (option_map (with_item reader)) e
single_mark reader (Some (sign.Truth value)) one e = ap (option_map (with_item reader)) e
single_mark reader (Some (sign.Opening bracket)) one e = cc
single_mark reader (Some (sign.Closing bracket)) one e = cc

single_is : (reader : Reader) (kind : Kind) (bytes : List ℕ) (one : Item) → single kind bytes ≡ Some one → with_token reader kind bytes ≡ Some (with_item reader one)
single_is reader kind.Word bytes one e = ap (option_map (with_item reader)) e
single_is reader kind.Number bytes one e = ap (option_map (with_item reader)) e
single_is reader kind.Text bytes one e = ap (option_map (with_item reader)) e
single_is reader kind.Mark bytes one e = single_mark reader (sign_of bytes) one e

opening_is : (reader : Reader) (token : Spelled) (bracket : Bracket) → Opens token bracket → with_token reader token.0 token.1 ≡ Some (opened_by bracket reader)
opening_is reader token bracket h = ap (λ k. with_token reader k token.1) h.mark ∙ ap (with_mark reader) h.sign

same_is : (bracket : Bracket) → same_bracket bracket bracket ≡ true
same_is Round = refl
same_is Square = refl

closing_is : (group : Opened) (opened : List Opened) (items : List Item) (token : Spelled) → Closes token group.bracket → with_token (record { opened = group ∷ opened; items = items }) token.0 token.1 ≡ closed_with group opened (parts_of items)
closing_is group opened items token h =
    ap (λ k. with_token (record { opened = group ∷ opened; items = items }) k token.1) h.mark
    ∙ ap (with_mark (record { opened = group ∷ opened; items = items })) h.sign
    ∙ ap (λ t. if t then closed_with group opened (parts_of items) else None) (same_is group.bracket)

abbrev with_items : Reader → List Item → Reader
with_items reader more = record { opened = reader.opened; items = reader.items ++ more }

abbrev then_read : List Spelled → Option Reader → Option (List Item)
then_read rest = option_and_then (λ next. read_behind next rest)

reads : {tokens : List Spelled} {items : List Item} → Spells tokens items → (reader : Reader) (rest : List Spelled) → read_behind reader (tokens ++ rest) ≡ read_behind (with_items reader items) rest
reads Nothing reader rest = ap (λ t. read_behind (record { opened = reader.opened; items = t }) rest) (sym (append-nil reader.items))
reads (Single token tokens one items e s) reader rest =
    ap (then_read (tokens ++ rest)) (single_is reader token.0 token.1 one e)
    ∙ reads s (with_item reader one) rest
    ∙ ap (λ t. read_behind (record { opened = reader.opened; items = t }) rest) (append_assoc reader.items (one ∷ []) items)
reads (Grouped opening closing bracket inner tokens within items parts o c s e t) reader rest =
    ap (λ u. read_behind reader (opening ∷ u)) (append_assoc inner (closing ∷ tokens) rest)
    ∙ ap (then_read (inner ++ closing ∷ (tokens ++ rest))) (opening_is reader opening bracket o)
    ∙ reads s (opened_by bracket reader) (closing ∷ (tokens ++ rest))
    ∙ ap (then_read (tokens ++ rest)) (closing_is (record { bracket = bracket; before = reader.items }) reader.opened within closing c ∙ ap (closed_with (record { bracket = bracket; before = reader.items }) reader.opened) e)
    ∙ reads t (with_item reader (item.Group bracket parts)) rest
    ∙ ap (λ u. read_behind (record { opened = reader.opened; items = u }) rest) (append_assoc reader.items (item.Group bracket parts ∷ []) items)

spelled_is_read : (tokens : List Spelled) (items : List Item) → Spells tokens items → items_of tokens ≡ Some items
spelled_is_read tokens items s = ap (read_behind start) (sym (append-nil tokens)) ∙ reads s start []

-- back: what is read is spelled

appended : {p : List Spelled} {is : List Item} → (q : List Spelled) (js : List Item) → Spells p is → Spells q js → Spells (p ++ q) (is ++ js)
appended q js Nothing t = t
appended q js (Single token tokens one items e s) t = Single token (tokens ++ q) one (items ++ js) e (appended q js s t)
appended q js (Grouped opening closing bracket inner tokens within items parts o c s e u) t =
    subst (λ x. Spells (opening ∷ x) (item.Group bracket parts ∷ (items ++ js))) (sym (append_assoc inner (closing ∷ tokens) q))
    (Grouped opening closing bracket inner (tokens ++ q) within (items ++ js) parts o c s e (appended q js u t))

-- how the tokens so far have brought a reader where it is
abbrev Reached : List Opened → List Spelled → List Item → Type 0
Reached [] p items = Spells p items
Reached (group ∷ opened) p items =
    (before : List Spelled) × (opening : Spelled) × (inner : List Spelled) × (p ≡ before ++ opening ∷ inner) × Opens opening group.bracket × Reached opened before group.before × Spells inner items

grown : (opened : List Opened) (p : List Spelled) (items : List Item) (q : List Spelled) (more : List Item) → Reached opened p items → Spells q more → Reached opened (p ++ q) (items ++ more)
grown [] p items q more h s = appended q more h s
grown (group ∷ opened) p items q more h s =
    (h.0, h.1, h.2 ++ q, ap (λ t. t ++ q) h.3 ∙ append_assoc h.0 (h.1 ∷ h.2) q, h.4, h.5, appended q more h.6 s)

abbrev At : Reader → List Spelled → Type 0
At reader p = Reached reader.opened p reader.items

step_single : (reader next : Reader) (p : List Spelled) (token : Spelled) (one : Item) → At reader p → single token.0 token.1 ≡ Some one → with_item reader one ≡ next → At next (p ++ token ∷ [])
step_single reader next p token one h e n =
    subst (λ r. At r (p ++ token ∷ [])) n (grown reader.opened p reader.items (token ∷ []) (one ∷ []) h (Single token [] one [] e Nothing))

same_same : (one other : Bracket) → same_bracket one other ≡ true → one ≡ other
same_same Round Round e = refl
same_same Round Square e = cc
same_same Square Round e = cc
same_same Square Square e = refl

module _ (next : Reader) (group : Opened) (opened : List Opened) (items : List Item) (p : List Spelled) (bytes : List ℕ) (bracket : Bracket) (es : sign_of bytes ≡ Some (sign.Closing bracket)) (h : Reached (group ∷ opened) p items) where
  abbrev token : Spelled
  token = (kind.Mark, bytes)

  grouped : (parts : List Part) → group.bracket ≡ bracket → parts_of items ≡ Some parts → Reached opened (p ++ token ∷ []) (group.before ++ item.Group group.bracket parts ∷ [])
  grouped parts b e =
      subst (λ t. Reached opened t (group.before ++ item.Group group.bracket parts ∷ []))
      (sym (ap (λ t. t ++ token ∷ []) h.3 ∙ append_assoc h.0 (h.1 ∷ h.2) (token ∷ [])))
      (grown opened h.0 group.before (h.1 ∷ (h.2 ++ token ∷ [])) (item.Group group.bracket parts ∷ []) h.5
      (Grouped h.1 token group.bracket h.2 [] items [] parts h.4 (record { mark = refl; sign = es ∙ ap (λ t. Some (sign.Closing t)) (sym b) }) h.6 e Nothing))

  by_parts : (parts : Option (List Part)) → group.bracket ≡ bracket → parts_of items ≡ parts → closed_with group opened parts ≡ Some next → At next (p ++ token ∷ [])
  by_parts None b e w = cc
  by_parts (Some parts) b e w =
      let n : ◌≡◌ {A = Reader} (record { opened = opened; items = group.before ++ item.Group group.bracket parts ∷ [] }) next = cc in
      subst (λ r. At r (p ++ token ∷ [])) n (grouped parts b e)

  by_bracket : (t : Bool) → same_bracket group.bracket bracket ≡ t → (if t then closed_with group opened (parts_of items) else None) ≡ Some next → At next (p ++ token ∷ [])
  by_bracket true b w = by_parts (parts_of items) (same_same group.bracket bracket b) refl w
  by_bracket false b w = cc

by_closing : (next : Reader) (opened : List Opened) (items : List Item) (p : List Spelled) (bytes : List ℕ) (bracket : Bracket) → sign_of bytes ≡ Some (sign.Closing bracket) → Reached opened p items → closed_by bracket opened items ≡ Some next → At next (p ++ (kind.Mark, bytes) ∷ [])
by_closing next [] items p bytes bracket es h w = cc
by_closing next (group ∷ opened) items p bytes bracket es h w = by_bracket next group opened items p bytes bracket es h (same_bracket group.bracket bracket) refl w

by_sign : (reader next : Reader) (p : List Spelled) (bytes : List ℕ) (s : Option Sign) → sign_of bytes ≡ s → At reader p → with_mark reader s ≡ Some next → At next (p ++ (kind.Mark, bytes) ∷ [])
by_sign reader next p bytes None es h w = cc
by_sign reader next p bytes (Some (sign.Mark mark)) es h w =
    let n : with_item reader (item.Mark mark) ≡ next = cc in step_single reader next p (kind.Mark, bytes) (item.Mark mark) h (ap single_in es) n
by_sign reader next p bytes (Some (sign.Truth value)) es h w =
    let n : with_item reader (item.Truth value) ≡ next = cc in step_single reader next p (kind.Mark, bytes) (item.Truth value) h (ap single_in es) n
by_sign reader next p bytes (Some (sign.Opening bracket)) es h w =
    let n : opened_by bracket reader ≡ next = cc in
    subst (λ r. At r (p ++ (kind.Mark, bytes) ∷ [])) n (p, (kind.Mark, bytes), [], refl, record { mark = refl; sign = es }, h, Nothing)
by_sign reader next p bytes (Some (sign.Closing bracket)) es h w = by_closing next reader.opened reader.items p bytes bracket es h w

step : (reader next : Reader) (p : List Spelled) (kind : Kind) (bytes : List ℕ) → At reader p → with_token reader kind bytes ≡ Some next → At next (p ++ (kind, bytes) ∷ [])
step reader next p kind.Word bytes h w =
    let n : with_item reader (item.Word bytes) ≡ next = cc in step_single reader next p (kind.Word, bytes) (item.Word bytes) h refl n
step reader next p kind.Number bytes h w =
    let n : with_item reader (number_of bytes) ≡ next = cc in step_single reader next p (kind.Number, bytes) (number_of bytes) h refl n
step reader next p kind.Text bytes h w =
    let n : with_item reader (item.Text (text_value bytes)) ≡ next = cc in step_single reader next p (kind.Text, bytes) (item.Text (text_value bytes)) h refl n
step reader next p kind.Mark bytes h w = by_sign reader next p bytes (sign_of bytes) refl h w

at_end : (opened : List Opened) (p : List Spelled) (items found : List Item) → Reached opened p items → end_with opened items ≡ Some found → Spells (p ++ []) found
at_end [] p items found h e =
    let n : items ≡ found = cc in subst (λ t. Spells t found) (sym (append-nil p)) (subst (λ t. Spells p t) n h)
at_end (group ∷ opened) p items found h e = cc

all_read : (tokens : List Spelled) (reader : Reader) (p : List Spelled) (found : List Item) → At reader p → read_behind reader tokens ≡ Some found → Spells (p ++ tokens) found
all_read [] reader p found h e = at_end reader.opened p reader.items found h e
all_read (token ∷ tokens) reader p found h e =
    option_and_then_some (λ next. read_behind next tokens) (with_token reader token.0 token.1) found e
    (λ next w r. subst (λ t. Spells t found) (append_assoc p (token ∷ []) tokens) (all_read tokens next (p ++ token ∷ []) found (step reader next p token.0 token.1 h w) r))

pub items_are_spelled : ItemsAreSpelled
items_are_spelled tokens items = (spelled_is_read tokens items, λ e. all_read tokens start [] items Nothing e)
