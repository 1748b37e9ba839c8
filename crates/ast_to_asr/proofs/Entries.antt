-- The scope that names stand for.
use Rattle.std.proofs.Common.{◌≡◌, ℕ, Bool, true, false, cond, List, [], ◌∷◌, Option, Some, None, option_map, refl, sym, ap, ◌∙◌}
use Rattle.std.proofs.lemmas.List.{map-append}
use Rattle.std.proofs.lemmas.Slice.Eq.{bytes_eq-Decides}
use Rattle.std.specs.Bool.{Decides}
use Rattle.std.specs.Str.{bytes_eq}
use Rattle.ast_to_asr.specs.declared.names.Known.{Known}
use Rattle.ast_to_asr.specs.Scope.{entity_of, added, added_new}
use Rattle.ast_to_asr.specs.Known.{Entries, known_in, scope_of, entity_known, with_name, with_new}

pub turned : (n m : List ℕ) → bytes_eq n m ≡ bytes_eq m n
turned n m = by (bytes_eq n m) (bytes_eq m n) refl refl (bytes_eq-Decides n m) (bytes_eq-Decides m n)
  where
    by : (b c : Bool) → bytes_eq n m ≡ b → bytes_eq m n ≡ c → Decides (bytes_eq n m) (n ≡ m) → Decides (bytes_eq m n) (m ≡ n) → bytes_eq n m ≡ bytes_eq m n
    by true true e f p q = e ∙ sym f
    by false false e f p q = e ∙ sym f
    by true false e f p q = absurd (cc (f, q.1 (sym (p.0 e))))
    by false true e f p q = absurd (cc (e, p.1 (sym (q.0 f))))

chosen : (b : Bool) (k : Known) (r : Option Known) → option_map entity_known (cond b (Some k) r) ≡ cond b (Some (entity_known k)) (option_map entity_known r)
chosen true k r = refl
chosen false k r = refl

pub entity_found : (entries : Entries) (name : List ℕ) → option_map entity_known (known_in entries name) ≡ entity_of (scope_of entries) name
entity_found [] name = refl
entity_found (e ∷ es) name =
    chosen (bytes_eq name e.0) e.1 (known_in es name)
    ∙ (ap (λ b. cond b (Some (entity_known e.1)) (option_map entity_known (known_in es name))) (turned name e.0)
    ∙ ap (λ r. cond (bytes_eq e.0 name) (Some (entity_known e.1)) r) (entity_found es name))

with_is : (entries : Entries) (name : List ℕ) (k : Known) (found : Option Known) → scope_of (with_new entries name k found) ≡ added_new (scope_of entries) name (entity_known k) (option_map entity_known found)
with_is entries name k None = map-append (λ e. (e.0, entity_known e.1)) entries ((name, k) ∷ [])
with_is entries name k (Some first) = refl

pub scope_with : (entries : Entries) (name : List ℕ) (k : Known) → scope_of (with_name entries name k) ≡ added (scope_of entries) name (entity_known k)
scope_with entries name k = with_is entries name k (known_in entries name) ∙ ap (added_new (scope_of entries) name (entity_known k)) (entity_found entries name)

pub ruleset entries = (entity_found, scope_with)
