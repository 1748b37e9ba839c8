-- Reading a source from place to place: what a span tells, and the bytes of a text one after another.
use Rattle.std.proofs.Common.{◌≡◌, ℕ, ◌+◌, ◌-◌, ◌<◌, ◌≤◌, Bool, true, false, List, [], ◌∷◌, ◌++◌, length, drop, map, ◌⊎◌, inl, inr, refl, sym, ap, ◌∙◌, subst, arith, length-drop}
use Rattle.std.specs.Prelude.{if◌then◌else◌, ◌==◌, not}
use Rattle.ff_lexer.specs.declared.bytes.Context.{Context}
use Rattle.ff_lexer.specs.declared.bytes.Context.TheVariants.{Code}
use Rattle.ff_lexer.specs.declared.lexeme.Placed.{Placed}
use Rattle.ff_lexer.specs.declared.unbroken.Reading.{Reading}
use Rattle.ff_lexer.specs.declared.unbroken.Reading.TheVariants as reading
use Rattle.ff_lexer.specs.Bytes.{behind, ends, is_continued}
use Rattle.ff_lexer.specs.Rest.{next_reading, is_told}
use Rattle.ff_lexer.specs.Spans.{unbroken, end_of}
use Rattle.ff_lexer.specs.Statements.{byte_of}
use Rattle.ff_lexer.proofs.Steps.{told_left, passed_left}

abbrev pub context_of : Reading → Context
context_of (reading.Body context) = context
context_of (reading.Tail context) = context
context_of (reading.Front context) = context

-- Nothing is told between two places of the source.
pub record Passes (source : List ℕ) (from : Reading) (p : ℕ) (to : Reading) (q : ℕ) : Type 0 where
  pub same : context_of to ≡ context_of from
  pub order : p ≤ q
  pub within : p ≤ length source → q ≤ length source
  pub skips : (n : ℕ) → unbroken (n + (q - p)) from (drop p source) ≡ unbroken n to (drop q source)

pub passes_none : (source : List ℕ) (r : Reading) (p : ℕ) → Passes source r p r p
passes_none source r p = record { same = refl; order = omega arith; within = λ h. h; skips = λ n. ap (λ k. unbroken k r (drop p source)) (omega arith) }

pub passes_more : (source : List ℕ) (a b c : Reading) (p q r : ℕ) → Passes source a p b q → Passes source b q c r → Passes source a p c r
passes_more source a b c p q r x y = record {
  same = y.same ∙ x.same;
  order = omega (arith, x.order, y.order);
  within = λ h. y.within (x.within h);
  skips = λ n. ap (λ k. unbroken k a (drop p source)) (omega (arith, x.order, y.order)) ∙ x.skips (n + (r - q)) ∙ y.skips n;
}

keeps : (r : Reading) (b : ℕ) (bs : List ℕ) → is_told r b bs ≡ false → context_of (next_reading r b bs) ≡ context_of r
keeps (reading.Body context) b bs h = by (is_continued context b bs) h
  where
    by : (t : Bool) → not t ≡ false → context_of (if t then reading.Tail context else reading.Body (behind context b)) ≡ context
    by true e = refl
    by false e = cc
keeps (reading.Tail context) b bs h = elim (b == 10) as (λ t. context_of (if t then reading.Front context else reading.Tail context) ≡ context) [ true ↦ refl | false ↦ refl ]
keeps (reading.Front context) b bs h =
    elim (b == 38) as (λ t. context_of (if t then (if ends context bs then reading.Tail context else reading.Body context) else if b == 33 then reading.Tail context else reading.Front context) ≡ context) [
      | true ↦ elim (ends context bs) as (λ t. context_of (if t then reading.Tail context else reading.Body context) ≡ context) [ true ↦ refl | false ↦ refl ]
      | false ↦ elim (b == 33) as (λ t. context_of (if t then reading.Tail context else reading.Front context) ≡ context) [ true ↦ refl | false ↦ refl ]
    ]

-- a place of the source where a byte stands
pub has_byte : (source : List ℕ) (p b : ℕ) (bs : List ℕ) → drop p source ≡ b ∷ bs → p + 1 ≤ length source
has_byte source p b bs h = omega (arith, sym (length-drop p source) ∙ ap length h, counted)
  where
    counted : length (b ∷ bs) ≡ length bs + 1
    counted = omega arith

pub passes_byte : (source : List ℕ) (r r' : Reading) (p b : ℕ) → drop p source ≡ b ∷ drop (p + 1) source → is_told r b (drop (p + 1) source) ≡ false → next_reading r b (drop (p + 1) source) ≡ r' → Passes source r p r' (p + 1)
passes_byte source r r' p b h t e = record {
  same = sym (ap context_of e) ∙ keeps r b (drop (p + 1) source) t;
  order = omega arith;
  within = λ _. has_byte source p b (drop (p + 1) source) h;
  skips = λ n.
      ap (unbroken (n + (p + 1 - p)) r) h
      ∙ passed_left (n + (p + 1 - p)) r b (drop (p + 1) source) (omega arith) t
      ∙ ap (λ k. unbroken k (next_reading r b (drop (p + 1) source)) (drop (p + 1) source)) (omega arith)
      ∙ ap (λ x. unbroken n x (drop (p + 1) source)) e;
}

-- the next byte that is told
pub record Told (source : List ℕ) (r : Reading) (p : ℕ) (b : Placed) : Type 0 where
  pub passes : Passes source r p (reading.Body (context_of r)) (b.end - 1)
  pub some : 0 < b.end
  pub there : drop (b.end - 1) source ≡ b.byte ∷ drop b.end source
  pub whole : is_continued (context_of r) b.byte (drop b.end source) ≡ false
  pub plain : (b.byte == 10) ≡ false

abbrev pub after : Reading → Placed → Reading
after r b = reading.Body (behind (context_of r) b.byte)

-- The bytes are told one after another.
abbrev pub Run : List ℕ → Reading → ℕ → List Placed → Reading → ℕ → Type 0
Run source r p [] r' p' = Passes source r p r' p'
Run source r p (b ∷ bs) r' p' = Told source r p b × Run source (after r b) b.end bs r' p'

-- The same, where a newline stands for a place from which on the source is read anew.
abbrev pub Path : List ℕ → Reading → ℕ → List Placed → Reading → ℕ → Type 0
Path source r p [] r' p' = Passes source r p r' p'
Path source r p (b ∷ bs) r' p' =
    (Told source r p b × Path source (after r b) b.end bs r' p')
    ⊎ (((b.byte == 10) ≡ true) × (q : ℕ) × (p ≤ q) × (q ≤ length source) × Path source (reading.Body Code) q bs r' p')

told_after : (source : List ℕ) (r s : Reading) (p q : ℕ) (b : Placed) → Passes source r p s q → Told source s q b → Told source r p b
told_after source r s p q b x t = record {
  passes = subst (λ c. Passes source r p (reading.Body c) (b.end - 1)) x.same (passes_more source r s (reading.Body (context_of s)) p q (b.end - 1) x t.passes);
  some = t.some;
  there = t.there;
  whole = subst (λ c. is_continued c b.byte (drop b.end source) ≡ false) x.same t.whole;
  plain = t.plain;
}

pub path_after : (source : List ℕ) (r s r' : Reading) (p q p' : ℕ) (bs : List Placed) → Passes source r p s q → Path source s q bs r' p' → Path source r p bs r' p'
path_after source r s r' p q p' [] x y = passes_more source r s r' p q p' x y
path_after source r s r' p q p' (b ∷ bs) x (inl y) = inl (told_after source r s p q b x y.0, subst (λ c. Path source (reading.Body (behind c b.byte)) b.end bs r' p') x.same y.1)
path_after source r s r' p q p' (b ∷ bs) x (inr y) = inr (y.0, y.1, omega (arith, x.order, y.2), y.3, y.4)

pub path_more : (source : List ℕ) (r s r' : Reading) (p q p' : ℕ) (bs cs : List Placed) → Path source r p bs s q → Path source s q cs r' p' → Path source r p (bs ++ cs) r' p'
path_more source r s r' p q p' [] cs x y = path_after source r s r' p q p' cs x y
path_more source r s r' p q p' (b ∷ bs) cs (inl x) y = inl (x.0, path_more source (after r b) s r' b.end q p' bs cs x.1 y)
path_more source r s r' p q p' (b ∷ bs) cs (inr x) y = inr (x.0, x.1, x.2, x.3, path_more source (reading.Body Code) s r' x.1 q p' bs cs x.4 y)

-- the path of one byte
pub path_one : (source : List ℕ) (r : Reading) (p : ℕ) (b : Placed) → Told source r p b → Path source r p (b ∷ []) (after r b) b.end
path_one source r p b t = inl (t, passes_none source (after r b) b.end)

-- the path of a mark
pub path_mark : (source : List ℕ) (r : Reading) (p q : ℕ) (b : Placed) → (b.byte == 10) ≡ true → p ≤ q → q ≤ length source → Path source r p (b ∷ []) (reading.Body Code) q
path_mark source r p q b h k m = inr (h, q, k, m, passes_none source (reading.Body Code) q)

told_within : (source : List ℕ) (r : Reading) (p : ℕ) (b : Placed) → Told source r p b → (p < b.end) × (b.end ≤ length source)
told_within source r p b t = (omega (arith, t.some, t.passes.order), omega (arith, t.some, has_byte source (b.end - 1) b.byte (drop b.end source) t.there))

pub path_within : (source : List ℕ) (r r' : Reading) (p p' : ℕ) (bs : List Placed) → p ≤ length source → Path source r p bs r' p' → (p ≤ p') × (p' ≤ length source)
path_within source r r' p p' [] h x = (x.order, x.within h)
path_within source r r' p p' (b ∷ bs) h (inl x) =
    let t = told_within source r p b x.0 in
    let k = path_within source (after r b) r' b.end p' bs t.1 x.1 in
    (omega (arith, t.0, k.0), k.1)
path_within source r r' p p' (b ∷ bs) h (inr x) =
    let k = path_within source (reading.Body Code) r' x.1 p' bs x.3 x.4 in
    (omega (arith, x.2, k.0), k.1)

pub path_rises : (source : List ℕ) (r r' : Reading) (p p' : ℕ) (bs : List Placed) → Path source r p bs r' p' → p ≤ p'
path_rises source r r' p p' [] x = x.order
path_rises source r r' p p' (b ∷ bs) (inl x) = omega (arith, (told_within source r p b x.0).0, path_rises source (after r b) r' b.end p' bs x.1)
path_rises source r r' p p' (b ∷ bs) (inr x) = omega (arith, x.2, path_rises source (reading.Body Code) r' x.1 p' bs x.4)

pub run_rises : (source : List ℕ) (r r' : Reading) (p p' : ℕ) (bs : List Placed) → Run source r p bs r' p' → p ≤ end_of p bs
run_rises source r r' p p' [] x = omega arith
run_rises source r r' p p' (b ∷ bs) x = omega (arith, (told_within source r p b x.0).0, run_rises source (after r b) r' b.end p' bs x.1)

first_told : (source : List ℕ) (r : Reading) (p n : ℕ) (b : Placed) → Told source r p b → 0 < n → unbroken n (reading.Body (context_of r)) (drop (b.end - 1) source) ≡ b.byte ∷ unbroken (n - 1) (after r b) (drop b.end source)
first_told source r p n b t m =
    ap (unbroken n (reading.Body (context_of r))) t.there
    ∙ told_left n (reading.Body (context_of r)) b.byte (drop b.end source) m (ap not t.whole)
    ∙ ap (λ x. b.byte ∷ unbroken (n - 1) (if x then reading.Tail (context_of r) else after r b) (drop b.end source)) t.whole

-- a token's bytes are those that its span tells
pub run_tells : (source : List ℕ) (r r' : Reading) (p p' : ℕ) (b : Placed) (bs : List Placed) → Run source r p (b ∷ bs) r' p' → unbroken (end_of b.end bs - (b.end - 1)) (reading.Body (context_of r)) (drop (b.end - 1) source) ≡ map byte_of (b ∷ bs)
run_tells source r r' p p' b [] x =
    first_told source r p (b.end - (b.end - 1)) b x.0 (omega (arith, x.0.some))
    ∙ ap (λ n. b.byte ∷ unbroken n (after r b) (drop b.end source)) {y = 0} (omega (arith, x.0.some))
run_tells source r r' p p' b (c ∷ cs) x =
    first_told source r p (end_of c.end cs - (b.end - 1)) b x.0 (omega (arith, x.0.some, far, x.1.0.passes.order, x.1.0.some))
    ∙ ap (λ n. b.byte ∷ unbroken n (after r b) (drop b.end source)) {y = end_of c.end cs - (c.end - 1) + (c.end - 1 - b.end)} (omega (arith, x.0.some, far, x.1.0.passes.order, x.1.0.some))
    ∙ ap (λ l. b.byte ∷ l) (x.1.0.passes.skips (end_of c.end cs - (c.end - 1)) ∙ run_tells source (after r b) r' b.end p' c cs x.1)
  where
    far : c.end ≤ end_of c.end cs
    far = run_rises source (after (after r b) c) r' c.end p' cs x.1.1
