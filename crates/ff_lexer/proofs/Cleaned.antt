-- Behind a lexeme the source is outside constants.
use Rattle.std.proofs.Common.{◌≡◌, ℕ, zero, suc, ◌+◌, Bool, true, false, List, [], ◌∷◌, drop, ◌⊎◌, inl, inr, refl, sym, subst, arith}
use Rattle.std.specs.Prelude.{if◌then◌else◌, ◌==◌, ◌&&◌, ◌||◌, not, nat_lt}
use Rattle.std.proofs.lemmas.Bool.Decides.{nat_tests}
use Rattle.lf_base.specs.declared.rule.Rule.TheVariants.{E101, E102, E105, E106, E107}
use Rattle.ff_lexer.specs.declared.bytes.Context.{Context}
use Rattle.ff_lexer.specs.declared.bytes.Context.TheVariants.{Code, Constant}
use Rattle.ff_lexer.specs.declared.lexeme.Lexeme.{Lexeme}
use Rattle.ff_lexer.specs.declared.lexeme.Placed.{Placed}
use Rattle.ff_lexer.specs.declared.lexeme.What.TheVariants.{Gap, Is, Breaks}
use Rattle.ff_lexer.specs.declared.token.Kind.TheVariants.{Word, Number, Text, Mark}
use Rattle.ff_lexer.specs.Bytes.{behind, is_letter, is_digit, is_name_byte, is_blank, is_quote, is_code}
use Rattle.ff_lexer.specs.Lexemes.{front, first_byte, lexeme, is_dotted, name, is_kind, suffixed, number, constant, is_pair, is_mark, point, mark, lexeme_at}
use Rattle.ff_lexer.specs.Solid.{is_gap}

-- The text is at its end, or goes on on a line of its own.
abbrev pub Parted : List Placed → Type 0
Parted [] = Unit {0}
Parted (b ∷ bs) = (b.byte == 10) ≡ true

-- Behind these many bytes, which stand in this context and of which none parts tokens, the text is outside constants.
abbrev pub Clean : ℕ → Context → List Placed → Type 0
Clean zero context bs = (context ≡ Code) ⊎ Parted bs
Clean (suc n) context [] = Unit {0}
Clean (suc n) context (b ∷ bs) = ((b.byte == 10) ≡ false) × ((is_code context && is_gap b.byte) ≡ false) × Clean n (behind context b.byte) bs

-- a byte that neither begins a constant nor parts tokens or lines
abbrev is_plain : ℕ → Bool
is_plain b = not (is_quote b || b == 10 || is_gap b)

-- these many bytes are plain, or fewer that are left
abbrev Plain : ℕ → List Placed → Type 0
Plain zero bs = Unit {0}
Plain (suc n) [] = Unit {0}
Plain (suc n) (b ∷ bs) = (is_plain b.byte ≡ true) × Plain n bs

no_newline : (b : ℕ) → is_plain b ≡ true → (b == 10) ≡ false
no_newline b h = grind (arith, nat_tests)

no_gap : (b : ℕ) → is_plain b ≡ true → is_gap b ≡ false
no_gap b h = grind (arith, nat_tests)

no_quote : (b : ℕ) → is_plain b ≡ true → is_quote b ≡ false
no_quote b h = grind (arith, nat_tests)

plain_clean : (n : ℕ) (bs : List Placed) → Plain n bs → Clean n Code bs
plain_clean zero bs h = inl refl
plain_clean (suc n) [] h = tt
plain_clean (suc n) (b ∷ bs) h = (no_newline b.byte h.0, no_gap b.byte h.0, subst (λ t. Clean n (if t then Constant b.byte else Code) bs) (sym (no_quote b.byte h.0)) (plain_clean n bs h.1))

plain_more : (n m : ℕ) (bs : List Placed) → Plain n bs → Plain m (drop n bs) → Plain (n + m) bs
plain_more zero m bs h k = subst (λ x. Plain x bs) {x = m} (omega arith) k
plain_more (suc n) m [] h k = subst (λ x. Plain x []) {x = suc (n + m)} (omega arith) tt
plain_more (suc n) m (b ∷ bs) h k = subst (λ x. Plain x (b ∷ bs)) {x = suc (n + m)} (omega arith) (h.0, plain_more n m bs h.1 k)

-- a class of bytes that are all plain
abbrev IsClass : (ℕ → Bool) → Type 0
IsClass test = (b : ℕ) → test b ≡ true → is_plain b ≡ true

front_plain : (test : ℕ → Bool) → IsClass test → (bs : List Placed) → Plain (front test bs) bs
front_plain test h [] = tt
front_plain test h (b ∷ bs) = by (test b.byte) refl (front_plain test h bs)
  where
    by : (t : Bool) → test b.byte ≡ t → Plain (front test bs) bs → Plain (if t then front test bs + 1 else 0) (b ∷ bs)
    by true e k = subst (λ n. Plain n (b ∷ bs)) {x = suc (front test bs)} (omega arith) (h b.byte e, k)
    by false e k = tt

letters_plain : IsClass is_letter
letters_plain b h = grind (arith, nat_tests)

digits_plain : IsClass is_digit
digits_plain b h = grind (arith, nat_tests)

names_plain : IsClass is_name_byte
names_plain b h = grind (arith, nat_tests)

-- one byte is plain
one_plain : (bs : List Placed) → is_plain (first_byte bs) ≡ true → Plain 1 bs
one_plain [] h = tt
one_plain (b ∷ bs) h = (h, tt)

name_clean : (bs : List Placed) → Clean (name (front is_name_byte bs)).more Code bs
name_clean bs = elim (nat_lt (front is_name_byte bs) 63) as (λ t. Clean (if t then lexeme (front is_name_byte bs) (Is Word) else lexeme (front is_name_byte bs) (Breaks E105)).more Code bs) [ true ↦ plain_clean (front is_name_byte bs) bs (front_plain is_name_byte names_plain bs) | false ↦ plain_clean (front is_name_byte bs) bs (front_plain is_name_byte names_plain bs) ]

-- an underscore and a kind
underscored : (n : ℕ) (bs rest : List Placed) (b : Placed) → Plain n bs → drop n bs ≡ b ∷ rest → (b.byte == 95) ≡ true → Plain (suffixed n rest).more bs
underscored n bs rest b h e k = by (is_kind rest) refl
  where
    parted : (m : ℕ) → Plain m rest → Plain (n + suc m) bs
    parted m x = plain_more n (suc m) bs h (subst (λ l. Plain (suc m) l) (sym e) (grind (arith, nat_tests, k), x))

    kind : is_kind rest ≡ true → Plain 1 rest
    kind x = one_plain rest (grind (arith, nat_tests, x))

    by : (t : Bool) → is_kind rest ≡ t → Plain (if t then lexeme (n + 2) (Is Number) else lexeme (n + 1 + front is_name_byte rest) (Breaks E107)).more bs
    by true x = parted 1 (kind x)
    by false x = subst (λ m. Plain m bs) (omega arith) (parted (front is_name_byte rest) (front_plain is_name_byte names_plain rest))

number_plain : (n : ℕ) (bs rest : List Placed) → Plain n bs → drop n bs ≡ rest → Plain (number n rest).more bs
number_plain n bs [] h e = h
number_plain n bs (b ∷ rest) h e = by (b.byte == 95) refl
  where
    point : (t : Bool) → (b.byte == 46 && not (is_dotted rest)) ≡ t → Plain (if t then lexeme (n + 1) (Breaks E107) else lexeme n (Is Number)).more bs
    point true k = plain_more n 1 bs h (subst (Plain 1) (sym e) (grind (arith, nat_tests, k), tt))
    point false k = h

    letter : (t : Bool) → Plain (if t then lexeme n (Breaks E107) else if b.byte == 46 && not (is_dotted rest) then lexeme (n + 1) (Breaks E107) else lexeme n (Is Number)).more bs
    letter true = h
    letter false = point (b.byte == 46 && not (is_dotted rest)) refl

    by : (t : Bool) → (b.byte == 95) ≡ t → Plain (if t then suffixed n rest else if is_letter b.byte then lexeme n (Breaks E107) else if b.byte == 46 && not (is_dotted rest) then lexeme (n + 1) (Breaks E107) else lexeme n (Is Number)).more bs
    by true k = underscored n bs rest b h e k
    by false k = letter (is_letter b.byte)

-- where a constant stands that may be over
abbrev standing : ℕ → Bool → Context
standing delimiter may_be_over = if may_be_over then Code else Constant delimiter

abbrev Closes : ℕ → Bool → ℕ → List Placed → Lexeme → Type 0
Closes delimiter may_be_over n bs l = (m : ℕ) × (l.more ≡ n + m) × Clean m (standing delimiter may_be_over) bs

constant_closes : (delimiter : ℕ) → is_quote delimiter ≡ true → (may_be_over : Bool) (n : ℕ) (bs : List Placed) → Closes delimiter may_be_over n bs (constant delimiter may_be_over n bs)
constant_closes delimiter q true n [] = (0, omega arith, inl refl)
constant_closes delimiter q false n [] = (0, omega arith, inr tt)
constant_closes delimiter q m n (b ∷ bs) = by m (b.byte == delimiter) refl (constant_closes delimiter q true (n + 1) bs) (constant_closes delimiter q false (n + 1) bs)
  where
    by : (m t : Bool) → (b.byte == delimiter) ≡ t → Closes delimiter true (n + 1) bs (constant delimiter true (n + 1) bs) → Closes delimiter false (n + 1) bs (constant delimiter false (n + 1) bs) → Closes delimiter m n (b ∷ bs) (if t then constant delimiter (not m) (n + 1) bs else if m then lexeme n (Is Text) else if b.byte == 10 then lexeme n (Breaks E102) else constant delimiter false (n + 1) bs)
    by true true e x y = (suc y.0, omega (arith, y.1), (grind (arith, nat_tests, q, e), grind (arith, nat_tests, q, e), subst (λ c. Clean y.0 c bs) (sym opened) y.2))
      where
        opened : behind Code b.byte ≡ Constant delimiter
        opened = grind (arith, nat_tests, q, e)
    by false true e x y = (suc x.0, omega (arith, x.1), (grind (arith, nat_tests, q, e), refl, subst (λ t. Clean x.0 (if t then Code else Constant delimiter) bs) (sym e) x.2))
    by true false e x y = (0, omega arith, inl refl)
    by false false e x y = newline (b.byte == 10) refl
      where
        newline : (u : Bool) → (b.byte == 10) ≡ u → Closes delimiter false n (b ∷ bs) (if u then lexeme n (Breaks E102) else constant delimiter false (n + 1) bs)
        newline true k = (0, omega arith, inr k)
        newline false k = (suc y.0, omega (arith, y.1), (k, refl, subst (λ t. Clean y.0 (if t then Code else Constant delimiter) bs) (sym e) y.2))

constant_clean : (delimiter : ℕ) (bs : List Placed) → is_quote delimiter ≡ true → Clean (constant delimiter false 0 bs).more (Constant delimiter) bs
constant_clean delimiter bs q = let c = constant_closes delimiter q false 0 bs in subst (λ n. Clean n (Constant delimiter) bs) (omega (arith, c.1)) c.2

point_plain : (bs : List Placed) → Plain (point bs).more bs
point_plain bs = by (is_dotted bs) refl
  where
    by : (t : Bool) → is_dotted bs ≡ t → Plain (if t then lexeme (front is_letter bs + 1) (Is Mark) else lexeme 0 (Breaks E101)).more bs
    by true h = plain_more (front is_letter bs) 1 bs (front_plain is_letter letters_plain bs) (one_plain (drop (front is_letter bs) bs) (grind (arith, nat_tests, h)))
    by false h = tt

pair_plain : (a b : ℕ) → is_pair a b ≡ true → is_plain b ≡ true
pair_plain a b h = grind (arith, nat_tests)

mark_plain : (b : ℕ) (bs : List Placed) → Plain (mark b bs).more bs
mark_plain b bs = by (b == 46) (is_pair b (first_byte bs)) refl (is_mark b)
  where
    by : (t u : Bool) → is_pair b (first_byte bs) ≡ u → (v : Bool) → Plain (if t then point bs else if u then lexeme 1 (Is Mark) else if v then lexeme 0 (Is Mark) else lexeme 0 (Breaks E101)).more bs
    by true u h v = point_plain bs
    by false true h v = one_plain bs (pair_plain b (first_byte bs) h)
    by false false h true = tt
    by false false h false = tt

-- behind a lexeme that begins outside constants
pub lexeme_clean : (b : ℕ) (bs : List Placed) → Clean (lexeme_at b bs).more (behind Code b) bs
lexeme_clean b bs = by (is_quote b) refl
  where
    rest : (t u v w : Bool) → Clean (if t then name (front is_name_byte bs) else if u then number (front is_digit bs) (drop (front is_digit bs) bs) else if v then lexeme 0 Gap else if w then lexeme 0 (Breaks E106) else mark b bs).more Code bs
    rest true u v w = name_clean bs
    rest false true v w = plain_clean (number (front is_digit bs) (drop (front is_digit bs) bs)).more bs (number_plain (front is_digit bs) bs (drop (front is_digit bs) bs) (front_plain is_digit digits_plain bs) refl)
    rest false false true w = inl refl
    rest false false false true = inl refl
    rest false false false false = plain_clean (mark b bs).more bs (mark_plain b bs)

    quoted : (t u : Bool) → is_letter b ≡ t → is_digit b ≡ u → is_quote b ≡ true → Clean (if t then name (front is_name_byte bs) else if u then number (front is_digit bs) (drop (front is_digit bs) bs) else constant b false 0 bs).more (Constant b) bs
    quoted true u h k q = absurd (grind (arith, nat_tests, h, q))
    quoted false true h k q = absurd (grind (arith, nat_tests, k, q))
    quoted false false h k q = constant_clean b bs q

    by : (t : Bool) → is_quote b ≡ t → Clean (if is_letter b then name (front is_name_byte bs) else if is_digit b then number (front is_digit bs) (drop (front is_digit bs) bs) else if t then constant b false 0 bs else if is_blank b || b == 10 || b == 59 then lexeme 0 Gap else if b == 38 then lexeme 0 (Breaks E106) else mark b bs).more (if t then Constant b else Code) bs
    by true q = quoted (is_letter b) (is_digit b) refl refl q
    by false q = rest (is_letter b) (is_digit b) (is_blank b || b == 10 || b == 59) (b == 38)
