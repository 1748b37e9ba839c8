-- What is told decides the status, and the status tells what came.
use Rattle.std.proofs.Common.{◌≡◌, ℕ, List, [], ◌∷◌, Option, Some, None, Result, Ok, Err, Vec, Global, inl, inr, refl, sym, ap, subst, ◌∙◌}
use Rattle.std.specs.FinMap.{get}
use denote.Ref.{Bor}
use Rattle.lf_base.specs.declared.fault.PutFault.TheVariants as put
use Rattle.lf_base.specs.declared.rule.Rule.{Rule}
use Rattle.lf_base.specs.Files.{Files}
use Rattle.ast_nodes.specs.declared.file.File.{File}
use Rattle.ast_nodes.specs.Text.{ast_text}
use Rattle.lf_driver.specs.declared.command.Verb.{Verb}
use Rattle.lf_driver.specs.declared.command.Verb.TheVariants.{Compile, Ast, Order}
use Rattle.lf_driver.specs.declared.outcome.Answer.{Answer}
use Rattle.lf_driver.specs.declared.outcome.Answer.TheVariants.{Done, Usage, Absent, Refused, Circular, ReadFault, WriteFault, Memory}
use Rattle.lf_driver.specs.Answers.{OfCommand, Halts, Circles, IsUntouched, IsUnread, IsUnwritten, IsCutShort, Succeeds, StopsAt, FailsToRead, FailsToWrite, WantsMemory, ComesTo, Answered}
use Rattle.lf_driver.specs.Call.{Stored, Held, Call, Tells, TellsInstead, stored, held}
use Rattle.lf_driver.specs.Compile.{Compiles}
use Rattle.lf_driver.specs.Ends.{status_of, text_of, Does, Sorted, Performs, Announces, Reports}
use Rattle.lf_driver.specs.Known.{nothing}
use Rattle.lf_driver.specs.Refusal.{Refusal, refusal_text, write_fault_text, memory_text}
use Rattle.lf_driver.specs.Refusal as refusal
use Rattle.lf_driver.specs.Order.{names_at}
use Rattle.lf_driver.specs.Show.{FileShows}
use Rattle.lf_driver.specs.Sort.{HasTrees, TreesSortTo, FilesSortTo}
use Rattle.lf_driver.specs.Verdict.{Verdict, Refuses, Shown, Stops, Told, AreWritten, of_left, of_shown, of_trees, trees_of, of_files, of_command, step, then_more, left_by, verdict}
use Rattle.lf_driver.specs.Words.{CommandText, words_of}
use Rattle.lf_driver.proofs.Written.{written_one}

same_stored : (s t : Stored) → t.files ≡ s.files → t.pending ≡ s.pending → t.bytes ≡ s.bytes → t.reads ≡ s.reads → t.writes ≡ s.writes → t ≡ s
same_stored s t f p b r w =
    ap (λ x. stored x t.pending t.bytes t.reads t.writes) f
    ∙ ap (λ x. stored s.files x t.bytes t.reads t.writes) p
    ∙ ap (λ x. stored s.files s.pending x t.reads t.writes) b
    ∙ ap (λ x. stored s.files s.pending s.bytes x t.writes) r
    ∙ ap (stored s.files s.pending s.bytes s.reads) w

same_held : (a b : Held) → b.bytes ≡ a.bytes → b.faults ≡ a.faults → b.may_fail ≡ a.may_fail → b.takes_memory ≡ a.takes_memory → b ≡ a
same_held a b e f g h =
    ap (λ x. held b.may_fail b.takes_memory x b.faults) e
    ∙ ap (held b.may_fail b.takes_memory a.bytes) f
    ∙ ap (λ x. held x b.takes_memory a.bytes a.faults) g
    ∙ ap (λ x. held a.may_fail x a.bytes a.faults) h

-- a fact of the one file that words name
of_one : (o : Option CommandText) (verb : Verb) (file : List ℕ) (fact : Verb → List (List ℕ) → Type 0) → o ≡ Some (verb, 0, file ∷ []) → fact verb (file ∷ []) → OfCommand o fact
of_one o verb file fact e h = subst (λ x. OfCommand x fact) (sym e) h

halts_first : (Ends : List ℕ → Stored → Stored → Type 0) (file : List ℕ) (s t : Stored) → Ends file s t → Halts Ends (file ∷ []) s t
halts_first Ends file s t h = record { front = []; file = file; rest = []; is = refl; between = s; behind = refl; ends = h }

told_weaker : (o : Option Files) (A B : Files → Type 0) → ((files : Files) → A files → B files) → Told o A → Told o B
told_weaker None A B h a = tt
told_weaker (Some files) A B h a = h files a

-- the verdict on one file
stopped_is : (file : List ℕ) (refused : Refusal) (files : Files) → step nothing file (get files file) ≡ Stops refused → of_files Compile (file ∷ []) files ≡ Refuses refused
stopped_is file refused files e = ap (λ t. of_left (then_more t nothing files (λ known' files'. left_by known' files' [])).files (then_more t nothing files (λ known' files'. left_by known' files' [])).stopped) e

judged_by : (words : List (List ℕ)) (verb : Verb) (file : List ℕ) (v : Verdict) (files : Files) → words_of words ≡ Some (verb, 0, file ∷ []) → of_files verb (file ∷ []) files ≡ v → verdict words files ≡ v
judged_by words verb file v files h e = ap (λ c. of_command c files) h ∙ e

module _ (c : Call) (file : List ℕ) where
  compile_refused : (refused : Refusal) → words_of c.words ≡ Some (Compile, 0, file ∷ []) → Told c.store.files (λ files. step nothing file (get files file) ≡ Stops refused) → Told c.store.files (λ files. verdict c.words files ≡ Refuses refused)
  compile_refused refused h t = told_weaker c.store.files (λ files. step nothing file (get files file) ≡ Stops refused) (λ files. verdict c.words files ≡ Refuses refused) (λ files e. judged_by c.words Compile file (Refuses refused) files h (stopped_is file refused files e)) t

  ast_is : (v : Verdict) → words_of c.words ≡ Some (Ast, 0, file ∷ []) → Told c.store.files (λ files. of_shown file (get files file) ≡ v) → Told c.store.files (λ files. verdict c.words files ≡ v)
  ast_is v h t = told_weaker c.store.files (λ files. of_shown file (get files file) ≡ v) (λ files. verdict c.words files ≡ v) (λ files e. judged_by c.words Ast file v files h e) t

  succeeds : (verb : Verb) → words_of c.words ≡ Some (verb, 0, file ∷ []) → Does Done verb file c.store c.store' c.out c.out' → Succeeds c verb (file ∷ [])
  succeeds Compile h d = (record { files = told_weaker c.store.files (λ files. Compiles file files c.store'.files) (AreWritten (file ∷ []) c.store'.files) (λ files k. written_one file files c.store'.files k) d.comes.0; pending = d.pending; reads = d.counts.0.0; writes = d.counts.0.1 }, same_held c.out c.out' d.comes.1 d.counts.1 d.fails d.takes)
  succeeds Ast h d = (same_stored c.store c.store' d.comes.1 d.pending.0 d.pending.1 d.counts.0.0 d.counts.1, d.counts.0.1, (d.comes.0.0, ast_is (Shown (ast_text d.comes.0.0)) h d.comes.0.1, d.comes.0.2))
  succeeds Order h d = absurd d.comes

  fails_to_read : (verb : Verb) → Does ReadFault verb file c.store c.store' c.out c.out' → FailsToRead c verb (file ∷ []) × (c.out' ≡ c.out)
  fails_to_read Compile d = (halts_first IsUnread file c.store c.store' (record { files = d.comes.0; pending = d.pending.0; bytes = d.pending.1; reads = d.counts.0.0; writes = d.counts.0.1 }), same_held c.out c.out' d.comes.1 d.counts.1 d.fails d.takes)
  fails_to_read Ast d = (record { files = d.comes.1; pending = d.pending.0; bytes = d.pending.1; reads = d.counts.0.0; writes = d.counts.1 }, same_held c.out c.out' d.comes.0 d.counts.0.1 d.fails d.takes)
  fails_to_read Order d = absurd d.comes

  fails_to_write : (verb : Verb) → words_of c.words ≡ Some (verb, 0, file ∷ []) → Does WriteFault verb file c.store c.store' c.out c.out' → FailsToWrite c verb (file ∷ [])
  fails_to_write Compile h d = (halts_first IsUnwritten file c.store c.store' (record { files = d.comes.0; pending = d.pending; reads = d.counts.0.0; writes = d.counts.0.1 }), same_held c.out c.out' d.comes.1 d.counts.1 d.fails d.takes)
  fails_to_write Ast h d = (same_stored c.store c.store' d.comes.1 d.pending.0 d.pending.1 d.counts.0.0 d.counts.1, d.comes.0.0, d.counts.0.1, (d.comes.0.1.0, ast_is (Shown (ast_text d.comes.0.1.0)) h d.comes.0.1.1, d.comes.0.1.2))
  fails_to_write Order h d = absurd d.comes

  wants_memory : (verb : Verb) → words_of c.words ≡ Some (verb, 0, file ∷ []) → Does Memory verb file c.store c.store' c.out c.out' → WantsMemory c verb (file ∷ [])
  wants_memory Compile h d = (halts_first IsCutShort file c.store c.store' (record { files = d.comes.0; pending = d.pending; reads = d.counts.0.0; writes = d.counts.0.1 }), same_held c.out c.out' d.comes.1 d.counts.1 d.fails d.takes)
  wants_memory Order h d = absurd d.comes
  wants_memory Ast h d = by d.comes.0
    where
      by : FileShows c.out.may_fail c.out.takes_memory Memory file c.store.files c.out.bytes c.out'.bytes → WantsMemory c Ast (file ∷ [])
      by (inl e) = (same_stored c.store c.store' d.comes.1 d.pending.0 d.pending.1 d.counts.0.0 d.counts.1, d.counts.0.1, inl e)
      by (inr s) = (same_stored c.store c.store' d.comes.1 d.pending.0 d.pending.1 d.counts.0.0 d.counts.1, d.counts.0.1, inr (s.0, (s.1.0, ast_is (Shown (ast_text s.1.0)) h s.1.1, s.1.2)))

  stops_absent : (verb : Verb) (name : Bor (List ℕ)) → words_of c.words ≡ Some (verb, 0, file ∷ []) → Does (Absent name) verb file c.store c.store' c.out c.out' → ComesTo c (refusal.Absent name.now)
  stops_absent Compile name h d = (of_one (words_of c.words) Compile file (StopsAt c name.now) h (halts_first (IsUntouched name.now) file c.store c.store' (sym d.comes.0.2, same_stored c.store c.store' d.comes.0.0 d.pending.0 d.pending.1 d.counts.0.0 d.counts.0.1)), same_held c.out c.out' d.comes.1 d.counts.1 d.fails d.takes, compile_refused (refusal.Absent name.now) h d.comes.0.1)
  stops_absent Ast name h d = (of_one (words_of c.words) Ast file (StopsAt c name.now) h (ap (λ x. x ∷ []) (sym d.comes.0.2), same_stored c.store c.store' d.comes.1 d.pending.0 d.pending.1 d.counts.0.0 d.counts.1), same_held c.out c.out' d.comes.0.0 d.counts.0.1 d.fails d.takes, ast_is (Refuses (refusal.Absent name.now)) h d.comes.0.1)
  stops_absent Order name h d = absurd d.comes

  stops_refused : (verb : Verb) (name : Bor (List ℕ)) (line : ℕ) (rule : Rule) → words_of c.words ≡ Some (verb, 0, file ∷ []) → Does (Refused name line rule) verb file c.store c.store' c.out c.out' → ComesTo c (refusal.Refused name.now line rule)
  stops_refused Compile name line rule h d = (of_one (words_of c.words) Compile file (StopsAt c name.now) h (halts_first (IsUntouched name.now) file c.store c.store' (sym d.comes.0.2, same_stored c.store c.store' d.comes.0.0 d.pending.0 d.pending.1 d.counts.0.0 d.counts.0.1)), same_held c.out c.out' d.comes.1 d.counts.1 d.fails d.takes, compile_refused (refusal.Refused name.now line rule) h d.comes.0.1)
  stops_refused Ast name line rule h d = (of_one (words_of c.words) Ast file (StopsAt c name.now) h (ap (λ x. x ∷ []) (sym d.comes.0.2), same_stored c.store c.store' d.comes.1 d.pending.0 d.pending.1 d.counts.0.0 d.counts.1), same_held c.out c.out' d.comes.0.0 d.counts.0.1 d.fails d.takes, ast_is (Refuses (refusal.Refused name.now line rule)) h d.comes.0.1)
  stops_refused Order name line rule h d = absurd d.comes

-- A refusal is told, or what is told in its place.
module _ (c : Call) (came : Answer) (refused : Refusal) (same : text_of came ≡ refusal_text refused) (comes : ComesTo c refused) (own : Tells c.err c.err' (refusal_text refused) → Answered (status_of came) c) where
  whole : (told : Answer) → told ≡ came → Tells c.err c.err' (text_of came) → Answered (status_of told) c
  whole told e h = subst (λ o. Answered (status_of o) c) (sym e) (own (subst (Tells c.err c.err') same h))

  announced : (told : Answer) → Announces came told c.err c.err' → Answered (status_of told) c
  announced Done h = whole Done h.0 h.1
  announced Usage h = whole Usage h.0 h.1
  announced (Absent name) h = whole (Absent name) h.0 h.1
  announced (Refused name line rule) h = whole (Refused name line rule) h.0 h.1
  announced (Circular text) h = whole (Circular text) h.0 h.1
  announced ReadFault h = whole ReadFault h.0 h.1
  announced WriteFault h = inr (refused, comes, subst (λ t. TellsInstead put.Failed c.err c.err' t write_fault_text) same h)
  announced Memory h = inr (refused, comes, subst (λ t. TellsInstead put.Memory c.err c.err' t memory_text) same h)

no_usage : (verb : Verb) (file : List ℕ) (s t : Stored) (a b : Held) → Does Usage verb file s t a b → ⊥
no_usage Compile file s t a b d = d.comes.0
no_usage Ast file s t a b d = d.comes.0
no_usage Order file s t a b d = d.comes

no_circle : (text : Vec ℕ Global) (verb : Verb) (file : List ℕ) (s t : Stored) (a b : Held) → Does (Circular text) verb file s t a b → ⊥
no_circle text Compile file s t a b d = d.comes.0
no_circle text Ast file s t a b d = d.comes.0
no_circle text Order file s t a b d = d.comes

abbrev Told_by : Answer → Call → Type 0
Told_by told c = Answered (status_of told) c

of_file : (came told : Answer) (verb : Verb) (file : List ℕ) (c : Call) → words_of c.words ≡ Some (verb, 0, file ∷ []) → Does came verb file c.store c.store' c.out c.out' → Reports came told c.err c.err' → Answered (status_of told) c
of_file Done told verb file c h d r = subst (λ o. Told_by o c) (sym r.0) (of_one (words_of c.words) verb file (Succeeds c) h (succeeds c file verb h d), r.1)
of_file Usage told verb file c h d r = absurd (no_usage verb file c.store c.store' c.out c.out' d)
of_file (Absent name) told verb file c h d r =
    let comes = stops_absent c file verb name h d in
    announced c (Absent name) (refusal.Absent name.now) refl comes (λ t. inr (name.now, (comes, t))) told r
of_file (Refused name line rule) told verb file c h d r =
    let comes = stops_refused c file verb name line rule h d in
    announced c (Refused name line rule) (refusal.Refused name.now line rule) refl comes (λ t. (name.now, line, rule, (comes, t))) told r
of_file (Circular text) told verb file c h d r = absurd (no_circle text verb file c.store c.store' c.out c.out' d)
of_file ReadFault told verb file c h d r =
    let f = fails_to_read c file verb d in
    subst (λ o. Told_by o c) (sym r.0) (of_one (words_of c.words) verb file (FailsToRead c) h f.0, f.1, r.1)
of_file WriteFault told verb file c h d r = subst (λ o. Told_by o c) (sym r.0) (inl (of_one (words_of c.words) verb file (FailsToWrite c) h (fails_to_write c file verb h d), r.1))
of_file Memory told verb file c h d r = subst (λ o. Told_by o c) (sym r.0) (inl (of_one (words_of c.words) verb file (WantsMemory c) h (wants_memory c file verb h d), r.1))

-- files whose order is wanted
module _ (c : Call) (names : List (List ℕ)) (w : words_of c.words ≡ Some (Order, 0, names)) where
  of_order : (fact : Verb → List (List ℕ) → Type 0) → fact Order names → OfCommand (words_of c.words) fact
  of_order fact h = subst (λ x. OfCommand x fact) (sym w) h

  judged : (there : Result (List File) Refusal) → HasTrees there names c.store.files → Told c.store.files (λ files. verdict c.words files ≡ of_trees names there)
  judged there t = told_weaker c.store.files (λ files. trees_of files names ≡ there) (λ files. verdict c.words files ≡ of_trees names there) (λ files e. ap (λ o. of_command o files) w ∙ ap (of_trees names) e) t

  unchanged : (came : Answer) → Sorted came names c.store c.store' c.out c.out' → c.store'.reads ≡ c.store.reads → c.store' ≡ c.store
  unchanged came d r = same_stored c.store c.store' d.files d.pending d.bytes r d.writes

  order_done : Sorted Done names c.store c.store' c.out c.out' → Succeeds c Order names
  order_done d = (unchanged Done d d.counts.0, d.counts.1, record { trees = d.comes.0; judged = judged (Ok d.comes.0) d.comes.1; order = d.comes.2.0; least = d.comes.2.1; text = d.comes.2.2 })

  order_unread : Sorted ReadFault names c.store c.store' c.out c.out' → FailsToRead c Order names × (c.out' ≡ c.out)
  order_unread d = (record { files = d.files; pending = d.pending; bytes = d.bytes; reads = d.counts.0; writes = d.writes }, same_held c.out c.out' d.comes d.counts.1 d.fails d.takes)

  order_unwritten : Sorted WriteFault names c.store c.store' c.out c.out' → FailsToWrite c Order names
  order_unwritten d = (unchanged WriteFault d d.counts.0, d.comes.2.0, d.counts.1, record { trees = d.comes.0; judged = judged (Ok d.comes.0) d.comes.1; order = d.comes.2.1.0; least = d.comes.2.1.1; text = d.comes.2.1.2 })

  order_short : Sorted Memory names c.store c.store' c.out c.out' → WantsMemory c Order names
  order_short d = by d.comes
    where
      shown : (trees : List File) → HasTrees (Ok trees) names c.store.files → TreesSortTo c.out.may_fail c.out.takes_memory Memory names trees c.out.bytes c.out'.bytes → WantsMemory c Order names
      shown trees h (inl e) = (unchanged Memory d d.counts.0, d.counts.1, inl e)
      shown trees h (inr s) = (unchanged Memory d d.counts.0, d.counts.1, inr (s.0, record { trees = trees; judged = judged (Ok trees) h; order = s.1.0; least = s.1.1; text = s.1.2 }))

      by : FilesSortTo c.out.may_fail c.out.takes_memory Memory names c.store.files c.out.bytes c.out'.bytes → WantsMemory c Order names
      by (inl e) = (unchanged Memory d d.counts.0, d.counts.1, inl e)
      by (inr t) = shown t.0 t.1 t.2

  order_absent : (name : Bor (List ℕ)) → Sorted (Absent name) names c.store c.store' c.out c.out' → ComesTo c (refusal.Absent name.now)
  order_absent name d = (of_order (StopsAt c name.now) (d.comes.2, unchanged (Absent name) d d.counts.0), same_held c.out c.out' d.comes.0 d.counts.1 d.fails d.takes, judged (Err (refusal.Absent name.now)) d.comes.1)

  order_refused : (name : Bor (List ℕ)) (line : ℕ) (rule : Rule) → Sorted (Refused name line rule) names c.store c.store' c.out c.out' → ComesTo c (refusal.Refused name.now line rule)
  order_refused name line rule d = (of_order (StopsAt c name.now) (d.comes.2, unchanged (Refused name line rule) d d.counts.0), same_held c.out c.out' d.comes.0 d.counts.1 d.fails d.takes, judged (Err (refusal.Refused name.now line rule)) d.comes.1)

  order_circular : (text : Vec ℕ Global) (d : Sorted (Circular text) names c.store c.store' c.out c.out') → ComesTo c (refusal.Circular (names_at names d.comes.2.1.0))
  order_circular text d = (of_order (Circles c (names_at names d.comes.2.1.0)) (unchanged (Circular text) d d.counts.0, record { trees = d.comes.0; judged = judged (Ok d.comes.0) d.comes.1; places = d.comes.2.1.0; named = d.comes.2.1.1; is = refl }), same_held c.out c.out' d.comes.2.0 d.counts.1 d.fails d.takes)

  of_sorted : (came told : Answer) → Sorted came names c.store c.store' c.out c.out' → Reports came told c.err c.err' → Answered (status_of told) c
  of_sorted Done told d r = subst (λ o. Told_by o c) (sym r.0) (of_order (Succeeds c) (order_done d), r.1)
  of_sorted Usage told d r = absurd d.comes
  of_sorted (Absent name) told d r =
      let comes = order_absent name d in
      announced c (Absent name) (refusal.Absent name.now) refl comes (λ t. inr (name.now, (comes, t))) told r
  of_sorted (Refused name line rule) told d r =
      let comes = order_refused name line rule d in
      announced c (Refused name line rule) (refusal.Refused name.now line rule) refl comes (λ t. (name.now, line, rule, (comes, t))) told r
  of_sorted (Circular text) told d r =
      let cycle = names_at names d.comes.2.1.0 in
      let comes = order_circular text d in
      announced c (Circular text) (refusal.Circular cycle) d.comes.2.1.2 comes (λ t. (cycle, (comes, t))) told r
  of_sorted ReadFault told d r =
      let f = order_unread d in
      subst (λ o. Told_by o c) (sym r.0) (of_order (FailsToRead c) f.0, f.1, r.1)
  of_sorted WriteFault told d r = subst (λ o. Told_by o c) (sym r.0) (inl (of_order (FailsToWrite c) (order_unwritten d), r.1))
  of_sorted Memory told d r = subst (λ o. Told_by o c) (sym r.0) (inl (of_order (WantsMemory c) (order_short d), r.1))

of_usage : (came told : Answer) (c : Call) → came ≡ Usage → words_of c.words ≡ None → c.store' ≡ c.store → c.out' ≡ c.out → Reports came told c.err c.err' → Answered (status_of told) c
of_usage came told c e h s o r =
    let comes : ComesTo c refusal.Usage = (h, s, o) in
    announced c Usage refusal.Usage refl comes (λ t. inl (comes, t)) told (subst (λ x. Reports x told c.err c.err') e r)

pub answered : (status : ℕ) (came told : Answer) (c : Call) → status ≡ status_of told → Performs came c.words c.store c.store' c.out c.out' → Reports came told c.err c.err' → Answered status c
answered status came told c e (inl p) r = subst (λ s. Answered s c) (sym e) (of_usage came told c p.0 p.1 p.2 p.3 r)
answered status came told c e (inr (inl p)) r = subst (λ s. Answered s c) (sym e) (of_file came told p.0 p.1 c p.2 p.3 r)
answered status came told c e (inr (inr p)) r = subst (λ s. Answered s c) (sym e) (of_sorted c p.0 p.1 came told p.2 r)
