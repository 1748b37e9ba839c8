-- Nothing of a text is lost in its tokens.
use Rattle.std.proofs.Common.{◌≡◌, ℕ, zero, suc, ◌+◌, Bool, true, false, List, [], ◌∷◌, ◌++◌, map, drop, take, inl, inr, Option, Some, None, Ok, Err, refl, sym, ap, ◌∙◌, subst, arith}
use Rattle.std.specs.Prelude.{if◌then◌else◌, ◌==◌, ◌&&◌, ◌||◌, not, nat_lt}
use Rattle.std.proofs.lemmas.Bool.Decides.{nat_tests}
use Rattle.lf_base.specs.declared.rule.Rule.{Rule}
use Rattle.lf_base.specs.declared.rule.Rule.TheVariants.{E101, E102, E105, E106, E107}
use Rattle.ff_lexer.specs.declared.bytes.Context.{Context}
use Rattle.ff_lexer.specs.declared.bytes.Context.TheVariants.{Code}
use Rattle.ff_lexer.specs.declared.lexeme.Lexeme.{Lexeme}
use Rattle.ff_lexer.specs.declared.lexeme.Placed.{Placed}
use Rattle.ff_lexer.specs.declared.lexeme.What.{What}
use Rattle.ff_lexer.specs.declared.lexeme.What.TheVariants.{Gap, Is, Breaks}
use Rattle.ff_lexer.specs.declared.token.Kind.TheVariants.{Word, Number, Text, Mark}
use Rattle.ff_lexer.specs.Bytes.{behind, is_letter, is_digit, is_name_byte, is_blank, is_quote, is_code}
use Rattle.ff_lexer.specs.Lexemes.{Lexed, both, meaning, front, first_byte, lexeme, is_dotted, name, is_kind, number, constant, is_pair, is_mark, mark, lexeme_at, then_behind, tokens_behind, so_far, lexed}
use Rattle.ff_lexer.specs.Lines.{Draft}
use Rattle.ff_lexer.specs.Solid.{is_gap, solid, bytes_as, joined}
use Rattle.ff_lexer.specs.Statements.{byte_of}
use Rattle.ff_lexer.proofs.Cleaned.{Clean, lexeme_clean}

abbrev IsSolid : What → Type 0
IsSolid Gap = ⊥
IsSolid (Is kind) = Unit {0}
IsSolid (Breaks rule) = Unit {0}

name_solid : (n : ℕ) → IsSolid (name n).what
name_solid n = elim (nat_lt n 63) as (λ t. IsSolid (if t then lexeme n (Is Word) else lexeme n (Breaks E105)).what) [ true ↦ tt | false ↦ tt ]

number_solid : (n : ℕ) (bs : List Placed) → IsSolid (number n bs).what
number_solid n [] = tt
number_solid n (b ∷ bs) = by (b.byte == 95) (is_kind bs) (is_letter b.byte) (b.byte == 46 && not (is_dotted bs))
  where
    by : (t u v w : Bool) → IsSolid (if t then (if u then lexeme (n + 2) (Is Number) else lexeme (n + 1 + front is_name_byte bs) (Breaks E107)) else if v then lexeme n (Breaks E107) else if w then lexeme (n + 1) (Breaks E107) else lexeme n (Is Number)).what
    by true true v w = tt
    by true false v w = tt
    by false u true w = tt
    by false u false true = tt
    by false u false false = tt

constant_solid : (delimiter : ℕ) (m : Bool) (n : ℕ) (bs : List Placed) → IsSolid (constant delimiter m n bs).what
constant_solid delimiter true n [] = tt
constant_solid delimiter false n [] = tt
constant_solid delimiter m n (b ∷ bs) = by m (b.byte == delimiter) (b.byte == 10) (constant_solid delimiter true (n + 1) bs) (constant_solid delimiter false (n + 1) bs)
  where
    by : (m t u : Bool) → IsSolid (constant delimiter true (n + 1) bs).what → IsSolid (constant delimiter false (n + 1) bs).what → IsSolid (if t then constant delimiter (not m) (n + 1) bs else if m then lexeme n (Is Text) else if u then lexeme n (Breaks E102) else constant delimiter false (n + 1) bs).what
    by true true u x y = y
    by false true u x y = x
    by true false u x y = tt
    by false false true x y = tt
    by false false false x y = y

mark_solid : (b : ℕ) (bs : List Placed) → IsSolid (mark b bs).what
mark_solid b bs = by (b == 46) (is_dotted bs) (is_pair b (first_byte bs)) (is_mark b)
  where
    by : (t u v w : Bool) → IsSolid (if t then (if u then lexeme (front is_letter bs + 1) (Is Mark) else lexeme 0 (Breaks E101)) else if v then lexeme 1 (Is Mark) else if w then lexeme 0 (Is Mark) else lexeme 0 (Breaks E101)).what
    by true true v w = tt
    by true false v w = tt
    by false u true w = tt
    by false u false true = tt
    by false u false false = tt

-- a byte that parts nothing begins a token, or is at fault
lexeme_solid : (b : ℕ) (bs : List Placed) → (b == 10) ≡ false → is_gap b ≡ false → IsSolid (lexeme_at b bs).what
lexeme_solid b bs e h = by (is_letter b) (is_digit b) (is_quote b) (is_blank b || b == 10 || b == 59) refl (b == 38)
  where
    by : (t u v w : Bool) → (is_blank b || b == 10 || b == 59) ≡ w → (x : Bool) → IsSolid (if t then name (front is_name_byte bs) else if u then number (front is_digit bs) (drop (front is_digit bs) bs) else if v then constant b false 0 bs else if w then lexeme 0 Gap else if x then lexeme 0 (Breaks E106) else mark b bs).what
    by true u v w k x = name_solid (front is_name_byte bs)
    by false true v w k x = number_solid (front is_digit bs) (drop (front is_digit bs) bs)
    by false false true w k x = constant_solid b false 0 bs
    by false false false true k x = absurd (grind (arith, nat_tests, e, h, k))
    by false false false false k true = tt
    by false false false false k false = mark_solid b bs

fourth : (t u v w : Bool) (a b c d e : Lexeme) → t ≡ false → u ≡ false → v ≡ false → w ≡ true → (if t then a else if u then b else if v then c else if w then d else e) ≡ d
fourth t u v w a b c d e h i j k =
    ap (λ x. if x then a else if u then b else if v then c else if w then d else e) h
    ∙ ap (λ x. if x then b else if v then c else if w then d else e) i
    ∙ ap (λ x. if x then c else if w then d else e) j
    ∙ ap (λ x. if x then d else e) k

gap_lexeme : (b : ℕ) (bs : List Placed) → (is_blank b || b == 10 || b == 59) ≡ true → lexeme_at b bs ≡ lexeme 0 Gap
gap_lexeme b bs h =
    fourth (is_letter b) (is_digit b) (is_quote b) (is_blank b || b == 10 || b == 59) (name (front is_name_byte bs)) (number (front is_digit bs) (drop (front is_digit bs) bs)) (constant b false 0 bs) (lexeme 0 Gap) (if b == 38 then lexeme 0 (Breaks E106) else mark b bs)
    (grind (arith, nat_tests, h)) (grind (arith, nat_tests, h)) (grind (arith, nat_tests, h)) h

-- these bytes and the pieces make the text
abbrev Pieces : Lexed (List ℕ) → List ℕ → List ℕ → Type 0
Pieces (Ok pieces) bytes text = text ≡ bytes ++ joined pieces
Pieces (Err rule) bytes text = Unit {0}

piece_more : (r : Lexed (List ℕ)) (b : ℕ) (bytes text : List ℕ) → Pieces r bytes text → Pieces r (b ∷ bytes) (b ∷ text)
piece_more (Ok pieces) b bytes text h = ap (λ l. b ∷ l) h
piece_more (Err rule) b bytes text h = tt

piece_whole : (what : What) (bytes : List Placed) (r : Lexed (List ℕ)) (text : List ℕ) → IsSolid what → Pieces r (map byte_of bytes) text → Pieces (both (meaning bytes_as what bytes) r) [] text
piece_whole Gap bytes r text s h = absurd s
piece_whole (Is kind) bytes (Ok pieces) text s h = h
piece_whole (Is kind) bytes (Err rule) text s h = tt
piece_whole (Breaks rule) bytes (Ok pieces) text s h = tt
piece_whole (Breaks rule) bytes (Err least) text s h = tt

no_piece : (r : Lexed (List ℕ)) (text : List ℕ) → Pieces r [] text → Pieces (both (Ok []) r) [] text
no_piece (Ok pieces) text h = h
no_piece (Err rule) text h = tt

abbrev Covers : ℕ → Context → List Placed → Type 0
Covers passed context bs = Pieces (tokens_behind bytes_as passed bs) (map byte_of (take passed bs)) (solid context bs)

module _ (b : Placed) (bs : List Placed) (rest : (n : ℕ) (context : Context) → Clean n context bs → Covers n context bs) where
  -- a byte of a token
  inside : (n : ℕ) (context : Context) → (b.byte == 10) ≡ false → (is_code context && is_gap b.byte) ≡ false → Clean n (behind context b.byte) bs → Covers (suc n) context (b ∷ bs)
  inside n context e g h =
      subst (Pieces (tokens_behind bytes_as n bs) (b.byte ∷ map byte_of (take n bs))) (sym solid_byte) (piece_more (tokens_behind bytes_as n bs) b.byte (map byte_of (take n bs)) (solid (behind context b.byte) bs) (rest n (behind context b.byte) h))
    where
      solid_byte : solid context (b ∷ bs) ≡ b.byte ∷ solid (behind context b.byte) bs
      solid_byte = ap (λ t. if t then solid Code bs else if is_code context && is_gap b.byte then solid context bs else b.byte ∷ solid (behind context b.byte) bs) e ∙ ap (λ t. if t then solid context bs else b.byte ∷ solid (behind context b.byte) bs) g

  -- a byte that parts tokens
  between : (context : Context) → (is_blank b.byte || b.byte == 10 || b.byte == 59) ≡ true → solid context (b ∷ bs) ≡ solid Code bs → Covers 0 context (b ∷ bs)
  between context g e =
      subst (λ l. Pieces (then_behind bytes_as l (b ∷ bs) (λ more. tokens_behind bytes_as more bs)) [] (solid context (b ∷ bs))) (sym (gap_lexeme b.byte bs g))
      (subst (Pieces (both (Ok []) (tokens_behind bytes_as 0 bs)) []) (sym e) (no_piece (tokens_behind bytes_as 0 bs) (solid Code bs) (rest 0 Code (inl refl))))

  newline : (context : Context) → (b.byte == 10) ≡ true → Covers 0 context (b ∷ bs)
  newline context e = between context (grind (arith, nat_tests, e)) (ap (λ t. if t then solid Code bs else if is_code context && is_gap b.byte then solid context bs else b.byte ∷ solid (behind context b.byte) bs) e)

  -- the first byte of a token
  token : (b.byte == 10) ≡ false → is_gap b.byte ≡ false → Covers 0 Code (b ∷ bs)
  token e g =
      let l : Lexeme = lexeme_at b.byte bs in
      let counted : take (l.more + 1) (b ∷ bs) ≡ b ∷ take l.more bs = ap (λ n. take n (b ∷ bs)) {y = suc l.more} (omega arith) in
      subst (λ x. Pieces (both (meaning bytes_as l.what x) (tokens_behind bytes_as l.more bs)) [] (solid Code (b ∷ bs))) (sym counted)
      (piece_whole l.what (b ∷ take l.more bs) (tokens_behind bytes_as l.more bs) (solid Code (b ∷ bs)) (lexeme_solid b.byte bs e g) (inside l.more Code e g (lexeme_clean b.byte bs)))

  first : (t : Bool) → (b.byte == 10) ≡ t → (u : Bool) → is_gap b.byte ≡ u → Covers 0 Code (b ∷ bs)
  first true e u g = newline Code e
  first false e true g = between Code (grind (arith, nat_tests, g)) (ap (λ t. if t then solid Code bs else if is_code Code && is_gap b.byte then solid Code bs else b.byte ∷ solid (behind Code b.byte) bs) e ∙ ap (λ t. if t then solid Code bs else b.byte ∷ solid (behind Code b.byte) bs) g)
  first false e false g = token e g

covered : (bs : List Placed) (passed : ℕ) (context : Context) → Clean passed context bs → Covers passed context bs
covered [] zero context h = refl
covered [] (suc n) context h = refl
covered (b ∷ bs) (suc n) context h = inside b bs (covered bs) n context h.0 h.1 h.2
covered (b ∷ bs) zero context (inr e) = newline b bs (covered bs) context e
covered (b ∷ bs) zero context (inl c) = subst (λ x. Covers 0 x (b ∷ bs)) (sym c) (first b bs (covered bs) (b.byte == 10) refl (is_gap b.byte) refl)

abbrev pieces_in : List (List ℕ) → Lexed (List ℕ)
pieces_in ts = Ok ts

same_pieces : (ts pieces : List (List ℕ)) → pieces_in ts ≡ pieces_in pieces → pieces ≡ ts
same_pieces ts pieces e = cc

-- the tokens of a statement make its text
pub tokens_cover : (d : Draft) (pieces : List (List ℕ)) → lexed bytes_as d ≡ Ok pieces → joined pieces ≡ solid Code d.text
tokens_cover d pieces e = by d.fault (tokens_behind bytes_as 0 d.text) e (covered d.text 0 Code (inl refl))
  where
    by : (fault : Option Rule) (r : Lexed (List ℕ)) → both (so_far [] fault) r ≡ Ok pieces → Pieces r [] (solid Code d.text) → joined pieces ≡ solid Code d.text
    by None (Ok ts) e h = ap joined (same_pieces ts pieces e) ∙ sym h
    by None (Err rule) e h = cc
    by (Some least) (Ok ts) e h = cc
    by (Some least) (Err rule) e h = cc
