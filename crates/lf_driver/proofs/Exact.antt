-- Where no count rose, the status is the verdict's, and a count that rose decides the status.
use Rattle.std.proofs.Common.{◌≡◌, ℕ, Bool, zero, suc, ◌-◌, ◌^◌, ◌<◌, ◌≤◌, List, [], ◌∷◌, Option, Some, None, Result, Ok, Err, ◌⊎◌, inl, inr, refl, sym, ap, subst, ◌∙◌, arith}
use Rattle.lf_base.specs.declared.fault.PutFault.{PutFault}
use Rattle.lf_base.specs.declared.fault.PutFault.TheVariants as put
use Rattle.lf_base.specs.Causes.{Rose, HasCause}
use Rattle.lf_base.specs.Files.{Files}
use Rattle.ast_nodes.specs.Text.{ast_text}
use Rattle.lf_driver.specs.declared.command.Verb.{Verb}
use Rattle.lf_driver.specs.declared.command.Verb.TheVariants.{Compile, Ast, Order}
use Rattle.lf_driver.specs.Answers.{OfCommand, Halts, IsUntouched, IsBehind, Circles, Succeeds, StopsAt, FailsToRead, FailsToWrite, WantsMemory, ComesTo, Answered, Quiet, Counting, status_by, IsStatusBy, IsExact, IsCounted}
use Rattle.lf_driver.specs.Call.{Stored, Held, Call, IsTried, Tries, Tells}
use Rattle.lf_driver.specs.Refusal.{Refusal}
use Rattle.lf_driver.specs.Refusal as refusal
use Rattle.lf_driver.specs.Verdict.{Refuses, Shown, Sorts, Told, AreWritten, of_left, of_command, written, verdict}
use Rattle.lf_driver.specs.Words.{CommandText, words_of}

pub told_at : (o : Option Files) (files : Files) (fact : Files → Type 0) → o ≡ Some files → Told o fact → fact files
told_at o files fact e h = subst (λ x. Told x fact) e h

-- what holds by the command that the words are
by_command : (o : Option CommandText) (fact : Verb → List (List ℕ) → Type 0) (P : Type 0) → OfCommand o fact → ((verb : Verb) (names : List (List ℕ)) → fact verb names → P) → P
by_command None fact P h k = absurd h
by_command (Some command) fact P h k = k command.0 command.2 h

-- the counts of a store that are as they were
abbrev Same : Stored → Stored → Type 0
Same s t = (t.reads ≡ s.reads) × (t.writes ≡ s.writes)

same_all : (s t : Stored) → t ≡ s → Same s t
same_all s t e = (ap (λ x. x.reads) e, ap (λ x. x.writes) e)

behind : (front : List (List ℕ)) (s t : Stored) → IsBehind front s t → Same s t
behind [] s t h = same_all s t h
behind (file ∷ front) s t h = (h.reads, h.writes)

untouched : (name : List ℕ) (names : List (List ℕ)) (s t : Stored) → Halts (IsUntouched name) names s t → Same s t
untouched name names s t h =
    let b = behind h.front s h.between h.behind in
    let e = same_all h.between t h.ends.1 in
    (e.0 ∙ b.0, e.1 ∙ b.1)

stops : (c : Call) (name : List ℕ) (verb : Verb) (names : List (List ℕ)) → StopsAt c name verb names → Same c.store c.store'
stops c name Compile names h = untouched name names c.store c.store' h
stops c name Ast names h = same_all c.store c.store' h.1
stops c name Order names h = same_all c.store c.store' h.1

circles : (c : Call) (cycle : List (List ℕ)) (verb : Verb) (names : List (List ℕ)) → Circles c cycle verb names → Same c.store c.store'
circles c cycle Compile names h = absurd h
circles c cycle Ast names h = absurd h
circles c cycle Order names h = same_all c.store c.store' h.0

-- no count of the store or of the sink of the trees rose
abbrev Still : Call → Type 0
Still c = Same c.store c.store' × (c.out'.faults ≡ c.out.faults)

comes_still : (c : Call) (refused : Refusal) → ComesTo c refused → Still c
comes_still c refusal.Usage h = (same_all c.store c.store' h.1, ap (λ x. x.faults) h.2)
comes_still c (refusal.Absent name) h = (by_command (words_of c.words) (StopsAt c name) (Same c.store c.store') h.0 (stops c name), ap (λ x. x.faults) h.1)
comes_still c (refusal.Refused name line rule) h = (by_command (words_of c.words) (StopsAt c name) (Same c.store c.store') h.0 (stops c name), ap (λ x. x.faults) h.1)
comes_still c (refusal.Circular cycle) h = (by_command (words_of c.words) (Circles c cycle) (Same c.store c.store') h.0 (circles c cycle), ap (λ x. x.faults) h.1)

succeeds_still : (c : Call) (verb : Verb) (names : List (List ℕ)) → Succeeds c verb names → Still c
succeeds_still c Compile names h = ((h.0.reads, h.0.writes), ap (λ x. x.faults) h.1)
succeeds_still c Ast names h = (same_all c.store c.store' h.0, h.1)
succeeds_still c Order names h = (same_all c.store c.store' h.0, h.1)

wants_still : (c : Call) (verb : Verb) (names : List (List ℕ)) → WantsMemory c verb names → Still c
wants_still c Compile names h =
    let b = behind h.0.front c.store h.0.between h.0.behind in
    ((h.0.ends.reads ∙ b.0, h.0.ends.writes ∙ b.1), ap (λ x. x.faults) h.1)
wants_still c Ast names h = (same_all c.store c.store' h.0, h.1)
wants_still c Order names h = (same_all c.store c.store' h.0, h.1)

-- a failed read raised its count, and no other one
abbrev ReadRose : Call → Type 0
ReadRose c = Rose c.store.reads c.store'.reads × (c.store'.writes ≡ c.store.writes)

reading : (c : Call) (verb : Verb) (names : List (List ℕ)) → FailsToRead c verb names → ReadRose c
reading c Compile names h =
    let b = behind h.front c.store h.between h.behind in
    (subst (λ n. Rose n c.store'.reads) b.0 h.ends.reads, h.ends.writes ∙ b.1)
reading c Ast names h = (h.reads, h.writes)
reading c Order names h = (h.reads, h.writes)

-- a failed write raised one of two counts, and no read failed
abbrev WriteRose : Call → Type 0
WriteRose c = (c.store'.reads ≡ c.store.reads) × (Rose c.store.writes c.store'.writes ⊎ Rose c.out.faults c.out'.faults)

writing : (c : Call) (verb : Verb) (names : List (List ℕ)) → FailsToWrite c verb names → WriteRose c
writing c Compile names h =
    let b = behind h.0.front c.store h.0.between h.0.behind in
    (h.0.ends.reads ∙ b.0, inl (subst (λ n. Rose n c.store'.writes) b.1 h.0.ends.writes))
writing c Ast names h = (ap (λ x. x.reads) h.0, inr h.2)
writing c Order names h = (ap (λ x. x.reads) h.0, inr h.2)

-- a count that rose has risen after another call
rose_twice : (l m n : ℕ) → Rose l m → Rose m n → Rose l n
rose_twice l m n h k = grind (arith)

still_rose : (f w : Bool) (ended : Result (Unit {0}) PutFault) (l m n : ℕ) → Rose l m → HasCause {T = Unit {0}} f w m n ended → Rose l n
still_rose f w (Ok u) l m n h k = subst (Rose l) (sym k) h
still_rose f w (Err put.Memory) l m n h k = subst (Rose l) (sym k.1) h
still_rose f w (Err put.Failed) l m n h k = rose_twice l m n h k.1

untold_rose : (a b c : Held) (s t : List ℕ) → IsTried (Err put.Failed) a b s → Tries b c t → Rose a.faults c.faults
untold_rose a b c s t h k = still_rose b.may_fail b.takes_memory k.0 a.faults b.faults c.faults h.counts.cause.1 k.1.counts.cause

not_risen : (before now : ℕ) → before < 2 ^ 64 - 1 → now ≡ before → Rose before now → ⊥
not_risen before now some same rose = omega (arith, some, same, rose)

-- the verdict by which a call succeeds or is refused
succeeded : (c : Call) (files : Files) (o : Option CommandText) → words_of c.words ≡ o → c.store.files ≡ Some files → OfCommand o (Succeeds c) → IsStatusBy (verdict c.words files) 0
succeeded c files None w e h = absurd h
succeeded c files (Some (Compile, number, names)) w e h =
    let t = told_at c.store.files files (AreWritten names c.store'.files) e h.0.files in
    subst (λ v. IsStatusBy v 0) (sym (ap (λ x. of_command x files) w ∙ ap (λ s. of_left (written files names).files s) t.0)) refl
succeeded c files (Some (Ast, number, names)) w e h = subst (λ v. IsStatusBy v 0) (sym (told_at c.store.files files (λ f. verdict c.words f ≡ Shown (ast_text h.2.0)) e h.2.1)) refl
succeeded c files (Some (Order, number, names)) w e h = subst (λ v. IsStatusBy v 0) (sym (told_at c.store.files files (λ f. verdict c.words f ≡ Sorts names h.2.trees) e h.2.judged)) (inl (refl, (h.2.order, h.2.least)))

circled : (c : Call) (files : Files) (cycle : List (List ℕ)) → c.store.files ≡ Some files → (verb : Verb) (names : List (List ℕ)) → Circles c cycle verb names → IsStatusBy (verdict c.words files) 8
circled c files cycle e Compile names h = absurd h
circled c files cycle e Ast names h = absurd h
circled c files cycle e Order names h = subst (λ v. IsStatusBy v 8) (sym (told_at c.store.files files (λ f. verdict c.words f ≡ Sorts names h.1.trees) e h.1.judged)) (inr (refl, (h.1.places, h.1.named)))

refused_is : (c : Call) (files : Files) (refused : Refusal) → c.store.files ≡ Some files → ComesTo c refused → IsStatusBy (verdict c.words files) (status_by refused)
refused_is c files refusal.Usage e h = subst (λ v. IsStatusBy v 2) (sym (ap (λ o. of_command o files) h.0)) refl
refused_is c files (refusal.Absent name) e h = subst (λ v. IsStatusBy v 2) (sym (told_at c.store.files files (λ f. verdict c.words f ≡ Refuses (refusal.Absent name)) e h.2)) refl
refused_is c files (refusal.Refused name line rule) e h = subst (λ v. IsStatusBy v 1) (sym (told_at c.store.files files (λ f. verdict c.words f ≡ Refuses (refusal.Refused name line rule)) e h.2)) refl
refused_is c files (refusal.Circular cycle) e h = by_command (words_of c.words) (Circles c cycle) (IsStatusBy (verdict c.words files) 8) h.0 (circled c files cycle e)

no_write : (c : Call) → Quiet c → Counting c → WriteRose c → ⊥
no_write c quiet counting (r, inl w) = not_risen c.store.writes c.store'.writes counting.1 quiet.1 w
no_write c quiet counting (r, inr w) = not_risen c.out.faults c.out'.faults counting.2 quiet.2 w

pub exact : (status : ℕ) (c : Call) → Answered status c → IsExact status c
exact zero c h files e quiet counting = inl (succeeded c files (words_of c.words) refl e h.0)
exact (suc zero) c h files e quiet counting = inl (refused_is c files (refusal.Refused h.0 h.1 h.2) e h.3.0)
exact (suc (suc zero)) c (inl h) files e quiet counting = inl (refused_is c files refusal.Usage e h.0)
exact (suc (suc zero)) c (inr h) files e quiet counting = inl (refused_is c files (refusal.Absent h.0) e h.1.0)
exact (suc (suc (suc zero))) c h files e quiet counting = absurd (not_risen c.store.reads c.store'.reads counting.0 quiet.0 (by_command (words_of c.words) (FailsToRead c) (ReadRose c) h.0 (reading c)).0)
exact (suc (suc (suc (suc zero)))) c (inl h) files e quiet counting = absurd (no_write c quiet counting (by_command (words_of c.words) (FailsToWrite c) (WriteRose c) h.0 (writing c)))
exact (suc (suc (suc (suc zero)))) c (inr h) files e quiet counting = absurd (not_risen c.err.faults c.err'.faults counting.3 quiet.3 (untold_rose c.err h.2.0 c.err' _ _ h.2.1 h.2.2))
exact (suc (suc (suc (suc (suc zero))))) c h files e quiet counting = inr refl
exact (suc (suc (suc (suc (suc (suc zero)))))) c h files e quiet counting = absurd h
exact (suc (suc (suc (suc (suc (suc (suc zero))))))) c h files e quiet counting = absurd h
exact (suc (suc (suc (suc (suc (suc (suc (suc zero)))))))) c h files e quiet counting = inl (refused_is c files (refusal.Circular h.0) e h.1.0)
exact (suc (suc (suc (suc (suc (suc (suc (suc (suc status))))))))) c h files e quiet counting = absurd h

not_less : (m n : ℕ) → n ≡ m → m < n → ⊥
not_less m n e h = omega (arith, e, h)

-- a status at which only the count of the sink of the texts may have risen
counted_still : (status : ℕ) (c : Call) → Still c → (c.err.faults < c.err'.faults → (3 ≤ status) × (status ≤ 5)) → IsCounted status c
counted_still status c q k = (λ l. absurd (not_less c.store.reads c.store'.reads q.0.0 l), λ l. absurd (not_less c.store.writes c.store'.writes q.0.1 l), λ l. absurd (not_less c.out.faults c.out'.faults q.1 l), k)

told_whole : (a b : Held) (t : List ℕ) (P : Type 0) → IsTried (Ok tt) a b t → a.faults < b.faults → P
told_whole a b t P h l = absurd (not_less a.faults b.faults h.counts.cause l)

pub counted : (status : ℕ) (c : Call) → Answered status c → IsCounted status c
counted zero c h = counted_still 0 c (by_command (words_of c.words) (Succeeds c) (Still c) h.0 (succeeds_still c)) (λ l. absurd (not_less c.err.faults c.err'.faults (ap (λ x. x.faults) h.1) l))
counted (suc zero) c h = counted_still 1 c (comes_still c (refusal.Refused h.0 h.1 h.2) h.3.0) (told_whole c.err c.err' _ _ h.3.1)
counted (suc (suc zero)) c (inl h) = counted_still 2 c (comes_still c refusal.Usage h.0) (told_whole c.err c.err' _ _ h.1)
counted (suc (suc zero)) c (inr h) = counted_still 2 c (comes_still c (refusal.Absent h.0) h.1.0) (told_whole c.err c.err' _ _ h.1.1)
counted (suc (suc (suc zero))) c h =
    let r = by_command (words_of c.words) (FailsToRead c) (ReadRose c) h.0 (reading c) in
    (λ l. refl, λ l. absurd (not_less c.store.writes c.store'.writes r.1 l), λ l. absurd (not_less c.out.faults c.out'.faults (ap (λ x. x.faults) h.1) l), λ l. (omega arith, omega arith))
counted (suc (suc (suc (suc zero)))) c (inl h) =
    let r = by_command (words_of c.words) (FailsToWrite c) (WriteRose c) h.0 (writing c) in
    (λ l. absurd (not_less c.store.reads c.store'.reads r.0 l), λ l. refl, λ l. refl, λ l. (omega arith, omega arith))
counted (suc (suc (suc (suc zero)))) c (inr h) = counted_still 4 c (comes_still c h.0 h.1) (λ l. (omega arith, omega arith))
counted (suc (suc (suc (suc (suc zero))))) c (inl h) = counted_still 5 c (by_command (words_of c.words) (WantsMemory c) (Still c) h.0 (wants_still c)) (λ l. (omega arith, omega arith))
counted (suc (suc (suc (suc (suc zero))))) c (inr h) = counted_still 5 c (comes_still c h.0 h.1) (λ l. (omega arith, omega arith))
counted (suc (suc (suc (suc (suc (suc zero)))))) c h = absurd h
counted (suc (suc (suc (suc (suc (suc (suc zero))))))) c h = absurd h
counted (suc (suc (suc (suc (suc (suc (suc (suc zero)))))))) c h = counted_still 8 c (comes_still c (refusal.Circular h.0) h.1.0) (told_whole c.err c.err' _ _ h.1.1)
counted (suc (suc (suc (suc (suc (suc (suc (suc (suc status))))))))) c h = absurd h

-- a text that was tried on a sink whose count does not rise
pub stands : (old new : Held) (text : List ℕ) → Tries old new text → new.faults ≡ old.faults → old.faults < 2 ^ 64 - 1 → Tells old new text ⊎ IsTried (Err put.Memory) old new text
stands old new text (Ok u, k) same some = inl k
stands old new text (Err put.Memory, k) same some = inr k
stands old new text (Err put.Failed, k) same some = absurd (not_risen old.faults new.faults some same k.counts.cause.1)
