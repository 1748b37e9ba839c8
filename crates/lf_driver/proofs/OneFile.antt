-- A list of one file ends at that file, with none before it.
use Rattle.std.proofs.Common.{◌≡◌, ℕ, zero, suc, ◌<◌, List, [], ◌∷◌, ◌++◌, Option, Some, inl, inr, ap, subst, ◌∙◌, arith}
use Rattle.lf_driver.specs.declared.command.Verb.{Verb}
use Rattle.lf_driver.specs.declared.command.Verb.TheVariants.{Compile, Ast, Order}
use Rattle.lf_driver.specs.Answers.{OfCommand, Halts, Circles, IsUntouched, IsUnread, IsUnwritten, IsCutShort, IsBehind, StopsAt, FailsToRead, FailsToWrite, WantsMemory, ComesTo, Answered}
use Rattle.lf_driver.specs.Call.{Stored, Call}
use Rattle.lf_driver.specs.Refusal.{Refusal}
use Rattle.lf_driver.specs.Refusal as refusal
use Rattle.lf_driver.specs.Words.{CommandText, words_of}

abbrev SameFiles : Stored → Stored → Type 0
SameFiles s t = t.files ≡ s.files

none_before : (front : List (List ℕ)) (file other : List ℕ) (rest : List (List ℕ)) (s between : Stored) → file ∷ [] ≡ front ++ (other ∷ rest) → IsBehind front s between → between ≡ s
none_before [] file other rest s between e h = h
none_before (x ∷ []) file other rest s between e h = cc
none_before (x ∷ y ∷ front) file other rest s between e h = cc

halts_at_one : (Ends : List ℕ → Stored → Stored → Type 0) (file : List ℕ) (s t : Stored) → ((f : List ℕ) (a b : Stored) → Ends f a b → SameFiles a b) → Halts Ends (file ∷ []) s t → SameFiles s t
halts_at_one Ends file s t same h = same h.file h.between t h.ends ∙ ap (λ x. x.files) (none_before h.front file h.file h.rest s h.between h.is h.behind)

untouched : (name f : List ℕ) (a b : Stored) → IsUntouched name f a b → SameFiles a b
untouched name f a b e = ap (λ x. x.files) e.1

of_command : (o : Option CommandText) (verb : Verb) (file : List ℕ) (fact : Verb → List (List ℕ) → Type 0) → o ≡ Some (verb, 0, file ∷ []) → OfCommand o fact → fact verb (file ∷ [])
of_command o verb file fact e h = subst (λ x. OfCommand x fact) e h

module _ (c : Call) (file : List ℕ) where
  stopped : (name : List ℕ) (verb : Verb) → StopsAt c name verb (file ∷ []) → SameFiles c.store c.store'
  stopped name Compile h = halts_at_one (IsUntouched name) file c.store c.store' (untouched name) h
  stopped name Ast h = ap (λ x. x.files) h.1
  stopped name Order h = ap (λ x. x.files) h.1

  circled : (cycle : List (List ℕ)) (verb : Verb) → Circles c cycle verb (file ∷ []) → SameFiles c.store c.store'
  circled cycle Compile h = absurd h
  circled cycle Ast h = absurd h
  circled cycle Order h = ap (λ x. x.files) h.0

  unread : (verb : Verb) → FailsToRead c verb (file ∷ []) → SameFiles c.store c.store'
  unread Compile h = halts_at_one IsUnread file c.store c.store' (λ f a b k. k.files) h
  unread Ast h = h.files
  unread Order h = h.files

  unwritten : (verb : Verb) → FailsToWrite c verb (file ∷ []) → SameFiles c.store c.store'
  unwritten Compile h = halts_at_one IsUnwritten file c.store c.store' (λ f a b k. k.files) h.0
  unwritten Ast h = ap (λ x. x.files) h.0
  unwritten Order h = ap (λ x. x.files) h.0

  short : (verb : Verb) → WantsMemory c verb (file ∷ []) → SameFiles c.store c.store'
  short Compile h = halts_at_one IsCutShort file c.store c.store' (λ f a b k. k.files) h.0
  short Ast h = ap (λ x. x.files) h.0
  short Order h = ap (λ x. x.files) h.0

  refused_at : (verb : Verb) → words_of c.words ≡ Some (verb, 0, file ∷ []) → (refused : Refusal) → ComesTo c refused → SameFiles c.store c.store'
  refused_at verb w refusal.Usage h = ap (λ x. x.files) h.1
  refused_at verb w (refusal.Absent name) h = stopped name verb (of_command (words_of c.words) verb file (StopsAt c name) w h.0)
  refused_at verb w (refusal.Refused name line rule) h = stopped name verb (of_command (words_of c.words) verb file (StopsAt c name) w h.0)
  refused_at verb w (refusal.Circular cycle) h = circled cycle verb (of_command (words_of c.words) verb file (Circles c cycle) w h.0)

  by_status : (status : ℕ) (verb : Verb) → words_of c.words ≡ Some (verb, 0, file ∷ []) → Answered status c → 0 < status → SameFiles c.store c.store'
  by_status zero verb w h positive = absurd (omega (arith, positive))
  by_status (suc zero) verb w h positive = refused_at verb w (refusal.Refused h.0 h.1 h.2) h.3.0
  by_status (suc (suc zero)) verb w (inl h) positive = refused_at verb w refusal.Usage h.0
  by_status (suc (suc zero)) verb w (inr h) positive = refused_at verb w (refusal.Absent h.0) h.1.0
  by_status (suc (suc (suc zero))) verb w h positive = unread verb (of_command (words_of c.words) verb file (FailsToRead c) w h.0)
  by_status (suc (suc (suc (suc zero)))) verb w (inl h) positive = unwritten verb (of_command (words_of c.words) verb file (FailsToWrite c) w h.0)
  by_status (suc (suc (suc (suc zero)))) verb w (inr h) positive = refused_at verb w h.0 h.1
  by_status (suc (suc (suc (suc (suc zero))))) verb w (inl h) positive = short verb (of_command (words_of c.words) verb file (WantsMemory c) w h.0)
  by_status (suc (suc (suc (suc (suc zero))))) verb w (inr h) positive = refused_at verb w h.0 h.1
  by_status (suc (suc (suc (suc (suc (suc zero)))))) verb w h positive = absurd h
  by_status (suc (suc (suc (suc (suc (suc (suc zero))))))) verb w h positive = absurd h
  by_status (suc (suc (suc (suc (suc (suc (suc (suc zero)))))))) verb w h positive = refused_at verb w (refusal.Circular h.0) h.1.0
  by_status (suc (suc (suc (suc (suc (suc (suc (suc (suc status))))))))) verb w h positive = absurd h

pub files_stay : (status : ℕ) (c : Call) (verb : Verb) (file : List ℕ) → words_of c.words ≡ Some (verb, 0, file ∷ []) → Answered status c → 0 < status → c.store'.files ≡ c.store.files
files_stay status c verb file w h positive = by_status c file status verb w h positive
