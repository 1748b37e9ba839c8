-- The same text in fewer pieces.
use Rattle.std.proofs.Common.{◌≡◌, ℕ, ◌<◌, ◌+◌, ◌/◌, ◌%◌, Bool, true, false, ◌&&◌, if◌then◌else◌, List, [], ◌∷◌, ◌++◌, codes, take, drop, refl, sym, ap, ◌∙◌, append-nil}
use Rattle.std.specs.Fmt.{digits, decimal}
use Rattle.std.proofs.lemmas.Fmt.{decimal_digit}
use Rattle.lf_base.specs.Contents.{joined}
use Rattle.lf_base.specs.declared.name.Name.{Name}
use Rattle.ast_nodes.specs.declared.expression.RefPart.{Part}
use Rattle.ast_nodes.specs.declared.expression.Designator.{Designator}
use Rattle.ast_nodes.specs.Node.{is_plain, are_plain, byte_texts, quoted, behind_blank, node, listed}
use Rattle.ast_nodes.specs.Exprs.{part_texts, designator_text}
use Rattle.ast_nodes.proofs.Chains.{joined_first}
use Rattle.ast_nodes.proofs.Texts.{part_text-Part, designator_text-parts}

name_closed : (name : List ℕ) → (((((name ++ []) ++ codes ")") ++ []) ++ codes "]") ++ []) ++ codes ")" ≡ name ++ codes ")])"
name_closed [] = refl
name_closed (byte ∷ name) = ap (λ t. byte ∷ t) (name_closed name)

one_name : (name : List ℕ) → node (codes "Ref") (listed (node (codes "Part") (name ∷ []) ∷ []) ∷ []) ≡ joined (codes "(Ref [(Part " ∷ name ∷ codes ")])" ∷ [])
unfolding joined
one_name name = ap (λ t. codes "(Ref [(Part " ++ t) (name_closed name)

-- a designator that is one name
pub name_alone : (it : Designator) (name : Name) → it.parts ≡ Part name ∷ [] → designator_text it ≡ joined (codes "(Ref [(Part " ∷ name ∷ codes ")])" ∷ [])
name_alone it name e =
    designator_text-parts it
    ∙ ap (λ parts. node (codes "Ref") (listed (part_texts parts) ∷ [])) e
    ∙ ap (λ t. node (codes "Ref") (listed (t ∷ []) ∷ [])) (part_text-Part name)
    ∙ one_name name

blank_joined : (front : List ℕ) (texts : List (List ℕ)) → behind_blank (joined (front ∷ texts)) ≡ joined ((32 ∷ front) ∷ texts)
unfolding joined
blank_joined front texts = ap (λ t. 32 ∷ t) (append-nil (front ++ joined texts))

pub name_behind : (it : Designator) (name : Name) → it.parts ≡ Part name ∷ [] → behind_blank (designator_text it) ≡ joined (codes " (Ref [(Part " ∷ name ∷ codes ")])" ∷ [])
name_behind it name e = ap behind_blank (name_alone it name e) ∙ blank_joined (codes "(Ref [(Part ") (name ∷ codes ")])" ∷ [])

-- a name and the part behind it
part_closed : (part : List ℕ) → ((((part ++ []) ++ codes "]") ++ []) ++ codes ")") ++ [] ≡ part ++ codes "])"
part_closed [] = refl
part_closed (byte ∷ part) = ap (λ t. byte ∷ t) (part_closed part)

pair_closed : (name part : List ℕ) → ((((((name ++ []) ++ codes ")") ++ []) ++ ((32 ∷ (part ++ [])) ++ codes "]")) ++ []) ++ codes ")") ++ [] ≡ name ++ (codes ") " ++ (part ++ codes "])"))
pair_closed [] part = ap (λ t. 41 ∷ 32 ∷ t) (part_closed part)
pair_closed (byte ∷ name) part = ap (λ t. byte ∷ t) (pair_closed name part)

pair_pieces : (name part : List ℕ) → behind_blank (node (codes "Ref") (listed (node (codes "Part") (name ∷ []) ∷ part ∷ []) ∷ [])) ≡ joined (codes " (Ref [(Part " ∷ name ∷ codes ") " ∷ part ∷ codes "])" ∷ [])
unfolding joined
pair_pieces name part = ap (λ t. codes " (Ref [(Part " ++ t) (pair_closed name part)

pub pair_behind : (name part : List ℕ) → behind_blank (node (codes "Ref") (listed (node (codes "Part") (name ∷ []) ∷ part ∷ []) ∷ [])) ≡ joined (joined (codes " (Ref [(Part " ∷ name ∷ codes ") " ∷ []) ∷ part ∷ codes "])" ∷ [])
pair_behind name part = pair_pieces name part ∙ sym (joined_first (codes " (Ref [(Part " ∷ name ∷ codes ") " ∷ []) (part ∷ codes "])" ∷ []))

-- an operation
pub operation_behind : (operator left right : List ℕ) → behind_blank (node (codes "Binary") (operator ∷ left ∷ right ∷ [])) ≡ joined (codes " (Binary " ∷ operator ∷ behind_blank left ∷ behind_blank right ∷ codes ")" ∷ [])
unfolding joined
operation_behind operator left right =
    let rest = joined (behind_blank left ∷ behind_blank right ∷ codes ")" ∷ []) in
    ap (λ t. codes " (Binary " ++ t) (append-nil ((operator ++ []) ++ rest) ∙ ap (λ t. t ++ rest) (append-nil operator))

-- an expression in parentheses
pub paren_behind : (inner : List ℕ) → behind_blank (node (codes "Paren") (inner ∷ [])) ≡ joined (codes " (Paren" ∷ behind_blank inner ∷ codes ")" ∷ [])
unfolding joined
paren_behind inner = blank_joined (codes "(Paren") (behind_blank inner ∷ codes ")" ∷ [])

-- bytes in quotes
pub quoted_behind : (bytes : List ℕ) → behind_blank (quoted bytes) ≡ joined (codes " \"" ∷ joined (byte_texts bytes) ∷ codes "\"" ∷ [])
quoted_behind bytes = blank_joined (codes "\"") (joined (byte_texts bytes) ∷ codes "\"" ∷ [])

text_closed : (text rest : List ℕ) → (((text ++ codes "\"") ++ []) ++ rest) ++ [] ≡ text ++ ((34 ∷ rest) ++ [])
text_closed [] rest = refl
text_closed (byte ∷ text) rest = ap (λ t. byte ∷ t) (text_closed text rest)

-- an integer literal
pub literal_behind : (bytes suffix : List ℕ) → behind_blank (node (codes "Int") (quoted bytes ∷ suffix ∷ [])) ≡ joined (codes " (Int \"" ∷ joined (byte_texts bytes) ∷ joined (codes "\"" ∷ behind_blank suffix ∷ codes ")" ∷ []) ∷ [])
unfolding joined
literal_behind bytes suffix = ap (λ t. codes " (Int \"" ++ t) (text_closed (joined (byte_texts bytes)) (joined (behind_blank suffix ∷ codes ")" ∷ [])))

plain_step : (byte : ℕ) (bytes : List ℕ) (b : Bool) → is_plain byte ≡ b → (b && are_plain bytes) ≡ true → (are_plain bytes ≡ true → joined (byte_texts bytes) ≡ bytes) → joined (byte_texts (byte ∷ bytes)) ≡ byte ∷ bytes
unfolding joined
plain_step byte bytes true b e h = ap (λ t. (if t then byte ∷ [] else 92 ∷ (48 + byte / 64) ∷ (48 + byte / 8 % 8) ∷ (48 + byte % 8) ∷ []) ++ joined (byte_texts bytes)) b ∙ ap (λ t. byte ∷ t) (h e)
plain_step byte bytes false b e h = absurd (cc)

-- bytes that all stand for themselves
pub plain_text : (bytes : List ℕ) → are_plain bytes ≡ true → joined (byte_texts bytes) ≡ bytes
unfolding joined
plain_text [] e = refl
plain_text (byte ∷ bytes) e = plain_step byte bytes (is_plain byte) refl e (plain_text bytes)

-- the number 0 behind the digits of a literal
pub no_suffix : joined (codes "\"" ∷ behind_blank (decimal 0) ∷ codes ")" ∷ []) ≡ codes "\" 0)"
unfolding joined digits
no_suffix = refl

-- a number of one digit
pub digit_behind : (n : ℕ) → n < 10 → behind_blank (decimal n) ≡ 32 ∷ (48 + n) ∷ []
unfolding joined
digit_behind n h = ap (λ t. 32 ∷ t) (append-nil (decimal n) ∙ decimal_digit n h)

-- the first text of a list
pub first_text : (text : List ℕ) → joined ([] ∷ text ∷ []) ≡ text
unfolding joined
first_text text = append-nil text

-- a piece, cut behind its first byte
pub cut_text : (piece : List ℕ) → joined (take 1 piece ∷ drop 1 piece ∷ []) ≡ piece
unfolding joined
cut_text [] = refl
cut_text (byte ∷ bytes) = ap (λ t. byte ∷ t) (append-nil bytes)
