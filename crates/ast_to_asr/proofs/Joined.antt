-- Arguments that are joined one after another are what they are all together.
use Rattle.std.proofs.Common.{◌≡◌, ℕ, ◌==◌, Bool, true, false, ◌||◌, ◌&&◌, if◌then◌else◌, List, [], ◌∷◌, map, Ok, Err, option_map, refl, sym, ap, ◌∙◌}
use Rattle.std.specs.List.{list_all}
use Rattle.lf_base.specs.declared.rule.Rule.{Rule}
use Rattle.fortran_semantics.specs.Declared as declared
use Rattle.ast_to_asr.specs.Judged.{Judged, also, both, map_right, all, in_front}
use Rattle.ast_to_asr.specs.Known.{Entries, known_in}
use Rattle.ast_to_asr.specs.Expressions as t
use Rattle.ast_to_asr.specs.Expressions.{Elaborated, Elab, greater, greatest_kind}
use Rattle.ast_to_asr.specs.Facts as f
use Rattle.ast_to_asr.specs.Facts.{Told, seen, symbol_of, type_seen, integer_argument, joined, joined_next, joined_from, no_arguments, least_from}
use Rattle.ast_to_asr.specs.declared.judge.functions.Argument.{Argument}
use Rattle.ast_to_asr.specs.declared.judge.functions.Joined.{Joined}
use Rattle.ast_to_asr.proofs.Rules.{lesser_joins}

joins_by : (s t u : Bool) → ◌≡◌ {A = ℕ} (if ((if s || t then 8 else 4) == 8) || u then 8 else 4) (if s || ((if t || u then 8 else 4) == 8) then 8 else 4)
joins_by true true true = refl
joins_by true true false = refl
joins_by true false true = refl
joins_by true false false = refl
joins_by false true true = refl
joins_by false true false = refl
joins_by false false true = refl
joins_by false false false = refl

greater_joins : (j k l : ℕ) → greater (greater j k) l ≡ greater j (greater k l)
greater_joins j k l = joins_by (j == 8) (k == 8) (l == 8)

-- A kind that was joined is one of the two.
after_by : (s t : Bool) → ◌≡◌ {A = ℕ} (if ((if s || t then 8 else 4) == 8) || false then 8 else 4) (if s || t then 8 else 4)
after_by true t = refl
after_by false true = refl
after_by false false = refl

greater_after : (j k : ℕ) → greater (greater j k) 4 ≡ greater j k
greater_after j k = after_by (j == 8) (k == 8)

before_by : (s t : Bool) → ◌≡◌ {A = ℕ} (if false || ((if s || t then 8 else 4) == 8) then 8 else 4) (if s || t then 8 else 4)
before_by true t = refl
before_by false true = refl
before_by false false = refl

kind_before : (xs : List t.Argument) → greater 4 (greatest_kind xs) ≡ greatest_kind xs
kind_before [] = refl
kind_before (x ∷ xs) = before_by (x.kind == 8) (greatest_kind xs == 8)

and_joins : (a b c : Bool) → ((a && b) && c) ≡ (a && (b && c))
and_joins true b c = refl
and_joins false b c = refl

and_true : (a : Bool) → (a && true) ≡ a
and_true true = refl
and_true false = refl

abbrev pub together : List t.Argument → Joined
together xs = record { kind = greatest_kind xs; is_constant = list_all (λ x. x.is_constant) xs }

abbrev pub with : Joined → Joined → Joined
with a b = record { kind = greater a.kind b.kind; is_constant = a.is_constant && b.is_constant }

abbrev pub made : ℕ → Bool → Joined
made kind is_constant = record { kind = kind; is_constant = is_constant }

same : (j k : ℕ) (a b : Bool) → j ≡ k → a ≡ b → made j a ≡ made k b
same j k a b p q = ap (λ m. made m a) p ∙ ap (made k) q

abbrev pub IsJoined : Judged Joined → Type 0
IsJoined (Ok so) = greater so.kind 4 ≡ so.kind
IsJoined (Err rule) = Unit {0}

module _ (entries : Entries) where
  abbrev pub told : Elab → Told
  told = map_right (seen entries)

  abbrev pub stripped : t.Argument → Argument
  stripped x = record { kind = x.kind; is_constant = x.is_constant; variable = option_map (λ name. symbol_of (known_in entries name)) x.variable }

  argument_by : (a : Elaborated) (ty : declared.ScalarType) → f.argument_of (seen entries a) (type_seen ty) ≡ map_right stripped (t.argument_of a ty)
  argument_by a (declared.IntegerType kind) = refl
  argument_by a declared.LogicalType = refl

  pub argument_seen : (x : Elab) → integer_argument (told x) ≡ map_right stripped (t.integer_argument x)
  argument_seen (Ok a) = argument_by a a.ty
  argument_seen (Err rule) = refl

  also_seen : (rule : Rule) (x : Elab) (ys : Judged (List Elaborated)) → also (also rule (told x)) ys ≡ also rule (map_right in_front (both x ys))
  also_seen rule (Ok x) (Ok ys) = refl
  also_seen rule (Ok x) (Err s) = refl
  also_seen rule (Err r) (Ok ys) = refl
  also_seen rule (Err r) (Err s) = lesser_joins rule r s

  pub least_seen : (rule : Rule) (xs : List Elab) → least_from rule (map told xs) ≡ also rule (all xs)
  least_seen rule [] = refl
  least_seen rule (x ∷ xs) = least_seen (also rule (told x)) xs ∙ also_seen rule x (all xs)

  next_by : (so : Judged Joined) (a : Judged t.Argument) (b : Judged (List t.Argument)) → map_right (λ p. with p.0 p.1) (both (joined_next so (map_right stripped a)) (map_right together b)) ≡ map_right (λ p. with p.0 p.1) (both so (map_right together (map_right in_front (both a b))))
  next_by (Ok so) (Ok x) (Ok xs) = ap Ok (same (greater (greater so.kind x.kind) (greatest_kind xs)) (greater so.kind (greater x.kind (greatest_kind xs))) ((so.is_constant && x.is_constant) && list_all (λ a. a.is_constant) xs) (so.is_constant && (x.is_constant && list_all (λ a. a.is_constant) xs)) (greater_joins so.kind x.kind (greatest_kind xs)) (and_joins so.is_constant x.is_constant (list_all (λ a. a.is_constant) xs)))
  next_by (Ok so) (Ok x) (Err r) = refl
  next_by (Ok so) (Err r) (Ok xs) = refl
  next_by (Ok so) (Err r) (Err s) = refl
  next_by (Err r) (Ok x) (Ok xs) = refl
  next_by (Err r) (Ok x) (Err s) = refl
  next_by (Err r) (Err s) (Ok xs) = refl
  next_by (Err r) (Err s) (Err u) = ap Err (lesser_joins r s u)

  next_joined : (so : Judged Joined) (a : Judged Argument) → IsJoined (joined_next so a)
  next_joined (Ok so) (Ok x) = greater_after so.kind x.kind
  next_joined (Ok so) (Err r) = tt
  next_joined (Err r) (Ok x) = tt
  next_joined (Err r) (Err s) = tt

  none_by : (so : Judged Joined) → IsJoined so → so ≡ map_right (λ p. with p.0 p.1) (both so (Ok (together [])))
  none_by (Ok so) h = ap Ok (same so.kind (greater so.kind 4) so.is_constant (so.is_constant && true) (sym h) (sym (and_true so.is_constant)))
  none_by (Err r) h = refl

  joined_seen : (so : Judged Joined) (xs : List Elab) → IsJoined so → joined_from so (map told xs) ≡ map_right (λ p. with p.0 p.1) (both so (map_right together (all (map t.integer_argument xs))))
  joined_seen so [] h = none_by so h
  joined_seen so (x ∷ xs) h =
      joined_seen (joined_next so (integer_argument (told x))) xs (next_joined so (integer_argument (told x)))
      ∙ (ap (λ a. map_right (λ p. with p.0 p.1) (both (joined_next so a) (map_right together (all (map t.integer_argument xs))))) (argument_seen x)
      ∙ next_by so (t.integer_argument x) (all (map t.integer_argument xs)))

  called_by : (code : ℕ) (ys : Judged (List t.Argument)) → map_right f.called (map_right (λ p. with p.0 p.1) (both (Ok no_arguments) (map_right together ys))) ≡ told (map_right (t.called code) ys)
  called_by code (Ok xs) = ap (λ kind. Ok (f.called (made kind (list_all (λ x. x.is_constant) xs)))) (kind_before xs)
  called_by code (Err rule) = refl

  pub called_seen : (code : ℕ) (xs : List Elab) → map_right f.called (joined_from (Ok no_arguments) (map told xs)) ≡ told (map_right (t.called code) (all (map t.integer_argument xs)))
  called_seen code xs = ap (map_right f.called) (joined_seen (Ok no_arguments) xs refl) ∙ called_by code (all (map t.integer_argument xs))
