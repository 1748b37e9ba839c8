-- The body of a line is split at each `;` that ends a statement.
use Rattle.std.proofs.Common.{◌≡◌, Bool, true, false, ℕ, List, [], ◌∷◌, ◌++◌, map, refl, sym, ap, ◌∙◌, append_assoc, append-nil}
use Rattle.std.specs.Prelude.{if◌then◌else◌, ◌||◌}
use Rattle.std.specs.List.{list_any}
use Rattle.std.proofs.Math.Bool.{or_assoc}
use Rattle.ff_lexer.specs.declared.bytes.Context.{Context}
use Rattle.ff_lexer.specs.declared.bytes.Context.TheVariants.{Code}
use Rattle.ff_lexer.specs.declared.lexeme.Placed.{Placed}
use Rattle.ff_lexer.specs.Bytes.{behind}
use Rattle.ff_lexer.specs.Lines.{Draft, fresh, begins, added, is_end, Taken, earlier, in_body}
use Rattle.ff_lexer.specs.Statements.{byte_of}
use Rattle.ff_lexer.specs.Written.{behind_all, ends_statement, NoneEnds, EndsAt, Segment, AreSplit, body_with, longer, statements_with, HasStatements}

or_false : (a : Bool) → (a || false) ≡ a
or_false true = refl
or_false false = refl

no_longer : (d : Draft) → longer d [] ≡ d
no_longer d =
    ap (λ text. record { line = d.line; text = text; context = d.context; has_begun = d.has_begun || false; continuations = d.continuations; fault = d.fault }) (append-nil d.text)
    ∙ ap (λ begun. record { line = d.line; text = d.text; context = d.context; has_begun = begun; continuations = d.continuations; fault = d.fault }) (or_false d.has_begun)

one_longer : (d : Draft) (b : Placed) (bs : List Placed) → longer (added d b) bs ≡ longer d (b ∷ bs)
one_longer d b bs =
    ap (λ text. record { line = d.line; text = text; context = behind_all (behind d.context b.byte) (map byte_of bs); has_begun = (d.has_begun || begins b.byte) || list_any begins (map byte_of bs); continuations = d.continuations; fault = d.fault }) (append_assoc d.text (b ∷ []) bs)
    ∙ ap (λ begun. record { line = d.line; text = d.text ++ b ∷ bs; context = behind_all (behind d.context b.byte) (map byte_of bs); has_begun = begun; continuations = d.continuations; fault = d.fault }) (or_assoc d.has_begun (begins b.byte) (list_any begins (map byte_of bs)))

next_in : (line : ℕ) (d : Draft) (b : Placed) (bs : List Placed) {t : Bool} → is_end d b.byte ≡ t → in_body line d (b ∷ bs) ≡ (if t then earlier d (in_body line (fresh line) bs) else in_body line (added d b) bs)
next_in line d b bs e = ap (λ t. if t then earlier d (in_body line (fresh line) bs) else in_body line (added d b) bs) e

none_found : (line : ℕ) (d : Draft) (bs : List Placed) → NoneEnds d.context d.has_begun bs → in_body line d bs ≡ ([], longer d bs)
none_found line d [] h = ap (λ o. ([], o)) (sym (no_longer d))
none_found line d (b ∷ bs) h = next_in line d b bs h.0 ∙ none_found line (added d b) bs h.1 ∙ ap (λ o. ([], o)) (one_longer d b bs)

piece_found : (line : ℕ) (d : Draft) (bs : List Placed) (end : Placed) (rest : List Placed) → EndsAt d.context d.has_begun bs end.byte → in_body line d (bs ++ end ∷ rest) ≡ earlier (longer d bs) (in_body line (fresh line) rest)
piece_found line d [] end rest h = next_in line d end rest h ∙ ap (λ o. earlier o (in_body line (fresh line) rest)) (sym (no_longer d))
piece_found line d (b ∷ bs) end rest h =
    next_in line d b (bs ++ end ∷ rest) h.0
    ∙ piece_found line (added d b) bs end rest h.1
    ∙ ap (λ o. earlier o (in_body line (fresh line) rest)) (one_longer d b bs)

found : (line : ℕ) (d : Draft) (pieces : List Segment) (last : List Placed) → AreSplit d.context d.has_begun pieces last → in_body line d (body_with pieces last) ≡ statements_with line d pieces last
found line d [] last h = none_found line d last h
found line d (piece ∷ pieces) last h =
    piece_found line d piece.0 piece.1 (body_with pieces last) h.0
    ∙ ap (earlier (longer d piece.0)) (found line (fresh line) pieces last h.1)

pub only_statements : (line : ℕ) (d : Draft) (body : List Placed) (statements : Taken) → HasStatements line d body statements → statements ≡ in_body line d body
only_statements line d body statements h = h.statements_are ∙ sym (found line d h.pieces h.last h.are_split) ∙ ap (in_body line d) (sym h.body_is)

-- each body is split so

record Splits (context : Context) (has_begun : Bool) (body : List Placed) : Type 0 where
  pub pieces : List Segment
  pub last : List Placed
  pub are_split : AreSplit context has_begun pieces last
  pub body_is : body ≡ body_with pieces last

more_split : (context : Context) (has_begun : Bool) (b : Placed) (bs : List Placed) → ends_statement context has_begun b.byte ≡ false → (pieces : List Segment) (last : List Placed) → AreSplit (behind context b.byte) (has_begun || begins b.byte) pieces last → bs ≡ body_with pieces last → Splits context has_begun (b ∷ bs)
more_split context has_begun b bs e [] last h k = record { pieces = []; last = b ∷ last; are_split = (e, h); body_is = ap (λ l. b ∷ l) k }
more_split context has_begun b bs e (piece ∷ pieces) last h k =
    record { pieces = (b ∷ piece.0, piece.1) ∷ pieces; last = last; are_split = ((e, h.0), h.1); body_is = ap (λ l. b ∷ l) k }

next_split : (context : Context) (has_begun : Bool) (b : Placed) (bs : List Placed) → Splits Code false bs → Splits (behind context b.byte) (has_begun || begins b.byte) bs → Splits context has_begun (b ∷ bs)
next_split context has_begun b bs s r = by (ends_statement context has_begun b.byte) refl
  where
    by : (t : Bool) → ends_statement context has_begun b.byte ≡ t → Splits context has_begun (b ∷ bs)
    by true e = record { pieces = ([], b) ∷ s.pieces; last = s.last; are_split = (e, s.are_split); body_is = ap (λ l. b ∷ l) s.body_is }
    by false e = more_split context has_begun b bs e r.pieces r.last r.are_split r.body_is

splits : (context : Context) (has_begun : Bool) (body : List Placed) → Splits context has_begun body
splits context has_begun [] = record { pieces = []; last = []; are_split = tt; body_is = refl }
splits context has_begun (b ∷ bs) = next_split context has_begun b bs (splits Code false bs) (splits (behind context b.byte) (has_begun || begins b.byte) bs)

pub statements_there : (line : ℕ) (d : Draft) (body : List Placed) → HasStatements line d body (in_body line d body)
statements_there line d body =
    let s = splits d.context d.has_begun body in
    record { pieces = s.pieces; last = s.last; are_split = s.are_split; body_is = s.body_is; statements_are = ap (in_body line d) s.body_is ∙ found line d s.pieces s.last s.are_split }
