-- What is found of statements is what the grammar relates them to.
use Rattle.std.proofs.Common.{◌≡◌, ℕ, Bool, true, false, ◌&&◌, ◌||◌, List, [], ◌∷◌, ◌++◌, map, refl, sym, ap, subst, ◌∙◌, append_assoc, append-nil, Option, Some, None, Result, Ok, Err}
use Rattle.std.specs.Prelude.{◌==◌, if◌then◌else◌}
use Rattle.std.specs.List.{flat_map, AllByRecursion as Each}
use Rattle.lf_base.specs.declared.rule.Rule.{Rule}
use Rattle.lf_base.specs.declared.rule.Rule.TheVariants.{E203, E205, E206}
use Rattle.lf_base.specs.declared.fault.SyntaxFault.{SyntaxFault}
use Rattle.lf_base.specs.declared.fault.SyntaxFault.TheVariants.{At, Memory}
use Rattle.ast_nodes.specs.declared.file.File.{File}
use Rattle.ast_nodes.specs.declared.file.Unit.{Unit as ProgramUnit}
use Rattle.ff_lexer.specs.Statements.{Spelled}
use Rattle.ff_forms.specs.declared.form.Form.{Form}
use Rattle.ff_forms.specs.declared.form.Formed.{Formed}
use Rattle.ff_forms.specs.Cases.{IsStatement}
use Rattle.ff_forms.specs.Forms.{form_of}
use Rattle.ff_forms.proofs.Written.{is_written, is_statement}
use Rattle.ff_parser.specs.declared.nest.Nest.{Nest}
use Rattle.ff_parser.specs.declared.nest.Nest.TheVariants as nest
use Rattle.ff_parser.specs.Allowed.{is_allowed}
use Rattle.ff_parser.specs.Names.{is_named, begins_construct, is_full}
use Rattle.ff_parser.specs.Taken.{taken}
use Rattle.ff_parser.specs.Grammar.{Stated, unit_forms, IsNested}
use Rattle.ff_parser.specs.Files.{Judged, and_then, is_too_deep, broken, unless, step, ended, rest_of, on_line, form_in, file_in, AreOfForms, IsShallow, stated, IsFile, Answers, Parses}
use Rattle.ff_parser.proofs.States.{May, Leads, State, outside, in_body, in_type, in_interface, in_constructs, behind_contains, nest_of, forms_of, IsRight}
use Rattle.ff_parser.proofs.Closing.{untrue}
use Rattle.ff_parser.proofs.Found.{Goes, from_outside, from_body, from_contains}
use Rattle.ff_parser.proofs.Nested.{from_type, from_interface, from_constructs}
use Rattle.ff_parser.proofs.Leading.{all_units}

goes_by : (s : State) → IsRight s → (line : ℕ) (f : Form) → May (nest_of s) line f → Goes s line f
goes_by (outside us) h line f m = from_outside us line f h.0 m.allowed
goes_by (in_body us o body) h line f m = from_body us o body.uses body.declarations body.block line f h m
goes_by (in_type us o uses ds first name access components) h line f m = from_type us o uses ds first name access components line f h m
goes_by (in_interface us o uses ds first name specifics) h line f m = from_interface us o uses ds first name specifics line f h m
goes_by (in_constructs us o body spot around) h line f m = from_constructs us o body spot.front spot.block around line f h m
goes_by (behind_contains us u internal) h line f m = from_contains us u internal line f h m

-- what is open behind statements, by the grammar
record Reaches (s : State) (ss : List Stated) (m : Nest) : Type 0 where
  state : State
  right : IsRight state
  same : nest_of state ≡ m
  forms : forms_of state ≡ forms_of s ++ ss

reaches : (ss : List Stated) (s : State) (m : Nest) → IsRight s → Leads (nest_of s) ss m → Reaches s ss m
reaches [] s m h l = record { state = s; right = h; same = l; forms = sym (append-nil (forms_of s)) }
reaches (x ∷ ss) s m h l =
    let g = goes_by s h x.0 x.1 l.0 in
    let k = reaches ss g.next m g.right (subst (λ n. Leads n ss m) g.leads l.1) in
    record { state = k.state; right = k.right; same = k.same; forms = k.forms ∙ ap (λ t. t ++ ss) g.forms ∙ append_assoc (forms_of s) (x ∷ []) ss }

abbrev units_in : Nest → List ProgramUnit
units_in (nest.Outside units) = units
units_in _ = []

closed_state : (s : State) (units : List ProgramUnit) (ss : List Stated) → IsRight s → nest_of s ≡ nest.Outside units → forms_of s ≡ ss → IsNested ss (record { units = units })
closed_state (outside us) units ss h p q = (us, h.0, sym (append-nil (flat_map unit_forms us)) ∙ q, ap (λ n. record { units = units_in n }) p)
closed_state _ units ss h p q = absurd cc

-- statements that lead out of all units are written by the grammar
written : (ss : List Stated) (units : List ProgramUnit) → Leads (nest.Outside []) ss (nest.Outside units) → IsNested ss (record { units = units })
written ss units l =
    let r = reaches ss (outside []) (nest.Outside units) (tt, tt) l in
    closed_state r.state units ss r.right r.same r.forms

leads : (ss : List Stated) (file : File) → IsNested ss file → Leads (nest.Outside []) ss (nest.Outside file.units)
leads ss file w =
    subst (λ t. Leads (nest.Outside []) t (nest.Outside file.units)) w.2
    (subst (λ t. Leads (nest.Outside []) (flat_map unit_forms w.0) (nest.Outside t)) (ap (λ f. f.units) w.3) (all_units [] w.0 w.1))

-- the same of forms that are judged
unbroken : (allowed named deep : Bool) → allowed ≡ true → named ≡ true → deep ≡ false → (if allowed then (if named then (if deep then Some E206 else None) else Some E205) else Some E203) ≡ None
unbroken allowed named deep a n d = rw (a, n, d) refl

stepped : (n : Nest) (f : Formed) → IsShallow f → May n f.line f.form → step n f ≡ Ok (taken n f.line f.form)
stepped n f shallow m =
    ap (λ rule. unless rule f.line (taken n f.line f.form))
    (unbroken (is_allowed n f.form) (is_named n f.form) (is_too_deep n f) m.allowed m.named (ap (λ t. t || (begins_construct f.form && is_full n)) shallow ∙ m.room))

pub found_behind : (forms : List Formed) (n m : Nest) → Each IsShallow forms → Leads n (map stated forms) m → rest_of n (map (λ f. Ok f) forms) ≡ ended m
found_behind [] n m s l = ap ended l
found_behind (f ∷ forms) n m s l = ap (λ r. and_then r (λ next. rest_of next (map (λ g. Ok g) forms))) (stepped n f s.0 l.0) ∙ found_behind forms (taken n f.line f.form) m s.1 l.1

judged : (statements : List (ℕ × List Spelled)) (forms : List Formed) → AreOfForms statements forms → map form_in statements ≡ map (λ f. Ok f) forms
judged [] [] h = refl
judged [] (f ∷ forms) h = absurd h
judged (s ∷ statements) [] h = absurd h
judged (s ∷ statements) (f ∷ forms) h = ap (λ t. on_line s.0 t ∷ map form_in statements) (is_statement s.0 s.1 f h.0) ∙ ap (λ t. Ok f ∷ t) (judged statements forms h.1)

pub only : (statements : List (ℕ × List Spelled)) (file : File) → IsFile statements file → file_in statements ≡ Ok file
only statements file h =
    ap (rest_of (nest.Outside [])) (judged statements h.0 h.1) ∙ found_behind h.0 (nest.Outside []) (nest.Outside file.units) h.2 (leads (map stated h.0) file h.3)

one_value : (r : Judged File) (a b : File) → r ≡ Ok a → r ≡ Ok b → a ≡ b
one_value r a b p q = cc

pub one : (statements : List (ℕ × List Spelled)) (a b : File) → IsFile statements a → IsFile statements b → a ≡ b
one statements a b p q = one_value (file_in statements) a b (only statements a p) (only statements b q)

-- what a statement that breaks no rule leads to
record Unbroken (n : Nest) (f : Formed) : Type 0 where
  shallow : IsShallow f
  may : May n f.line f.form

neither : (p q : Bool) → (p || q) ≡ false → (p ≡ false) × (q ≡ false)
neither true q h = (h, absurd (untrue (sym h)))
neither false q h = (refl, h)

told : (n : Nest) (f : Formed) (allowed named deep : Bool) → is_allowed n f.form ≡ allowed → is_named n f.form ≡ named → is_too_deep n f ≡ deep → (if allowed then (if named then (if deep then Some E206 else None) else Some E205) else Some E203) ≡ None → Unbroken n f
told n f true true false a b d h =
    let both = neither (f.is_deep == 1) (begins_construct f.form && is_full n) d in
    record { shallow = both.0; may = record { allowed = a; named = b; room = both.1 } }
told n f true true true a b d h = absurd cc
told n f true false deep a b d h = absurd cc
told n f false named deep a b d h = absurd cc

abbrev failed : ℕ × Rule → Judged File
failed fault = Err fault

not_both : (fault : ℕ × Rule) (file : File) → failed fault ≡ Ok file → ⊥
not_both fault file h = cc

abbrev units_or : Judged File → List ProgramUnit
units_or (Ok file) = file.units
units_or (Err fault) = []

-- what is found behind statements leads through their forms
record FoundBehind (n : Nest) (statements : List (ℕ × List Spelled)) (file : File) : Type 0 where
  forms : List Formed
  of_forms : AreOfForms statements forms
  shallow : Each IsShallow forms
  last : Nest
  leads_on : Leads n (map stated forms) last
  ends : ended last ≡ Ok file

by_step : (n : Nest) (f : Formed) (statements : List (ℕ × List Spelled)) (s : ℕ × List Spelled) (file : File) (rule : Option Rule) → IsStatement s.0 s.1 f → broken n f ≡ rule → and_then (unless rule f.line (taken n f.line f.form)) (λ next. rest_of next (map form_in statements)) ≡ Ok file → ((next : Nest) → rest_of next (map form_in statements) ≡ Ok file → FoundBehind next statements file) → FoundBehind n (s ∷ statements) file
by_step n f statements s file None formed b h go =
    let u = told n f (is_allowed n f.form) (is_named n f.form) (is_too_deep n f) refl refl refl b in
    let k = go (taken n f.line f.form) h in
    record { forms = f ∷ k.forms; of_forms = (formed, k.of_forms); shallow = (u.shallow, k.shallow); last = k.last; leads_on = (u.may, k.leads_on); ends = k.ends }
by_step n f statements s file (Some rule) formed b h go = absurd (not_both (f.line, rule) file h)

by_form : (n : Nest) (statements : List (ℕ × List Spelled)) (s : ℕ × List Spelled) (file : File) (r : Result Formed Rule) → form_of s.0 s.1 ≡ r → and_then (and_then (on_line s.0 r) (step n)) (λ next. rest_of next (map form_in statements)) ≡ Ok file → ((next : Nest) → rest_of next (map form_in statements) ≡ Ok file → FoundBehind next statements file) → FoundBehind n (s ∷ statements) file
by_form n statements s file (Ok f) formed h go = by_step n f statements s file (broken n f) (is_written s.0 s.1 f formed) refl h go
by_form n statements s file (Err rule) formed h go = absurd (not_both (s.0, rule) file h)

behind : (statements : List (ℕ × List Spelled)) (n : Nest) (file : File) → rest_of n (map form_in statements) ≡ Ok file → FoundBehind n statements file
behind [] n file h = record { forms = []; of_forms = tt; shallow = tt; last = n; leads_on = refl; ends = h }
behind (s ∷ statements) n file h = by_form n statements s file (form_of s.0 s.1) refl h (λ next k. behind statements next file k)

closed_nest : (m : Nest) (file : File) → ended m ≡ Ok file → m ≡ nest.Outside file.units
closed_nest (nest.Outside units) file h = ap (λ r. nest.Outside (units_or r)) h
closed_nest (nest.Scope units scope) file h = absurd cc
closed_nest (nest.Definition units scope definition) file h = absurd cc
closed_nest (nest.Construct units scope level around) file h = absurd cc

pub found : (statements : List (ℕ × List Spelled)) (file : File) → file_in statements ≡ Ok file → IsFile statements file
found statements file h =
    let k = behind statements (nest.Outside []) file h in
    (k.forms, k.of_forms, k.shallow, written (map stated k.forms) file.units (subst (λ m. Leads (nest.Outside []) (map stated k.forms) m) (closed_nest k.last file k.ends) k.leads_on))

neither_is : (r : Judged File) (fault : ℕ × Rule) (file : File) → r ≡ Err fault → r ≡ Ok file → ⊥
neither_is r fault file h k = cc

-- so an answer is by the grammar
pub parses : (statements : List (ℕ × List Spelled)) (r : Result File SyntaxFault) → Answers (λ file. file) r (file_in statements) → Parses statements r
parses statements (Ok file) h = found statements file h
parses statements (Err Memory) h = tt
parses statements (Err (At line rule)) h = λ file written. neither_is (file_in statements) (line, rule) file h (only statements file written)
