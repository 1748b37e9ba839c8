-- What the status of a call tells, status by status.
use Rattle.std.specs.Prelude.{◌≡◌, ℕ, true, false, zero, suc, ◌-◌, ◌^◌, ◌<◌, ◌≤◌, List, [], ◌∷◌, ◌++◌, Option, Some, None, ◌⊎◌}
use Rattle.lf_base.specs.declared.fault.PutFault.{PutFault}
use Rattle.lf_base.specs.declared.fault.PutFault.TheVariants.{Failed, Memory}
use Rattle.lf_base.specs.declared.rule.Rule.{Rule}
use Rattle.lf_base.specs.Causes.{Rose}
use Rattle.lf_base.specs.Contents.{Appends, AppendsPart}
use Rattle.lf_base.specs.Files.{Files}
use Rattle.ast_nodes.specs.declared.file.File.{File}
use Rattle.ast_nodes.specs.Text.{ast_text}
use Rattle.std.specs.List.{Contains}
use Rattle.file_order.specs.Answers.{IsLeastFileOrder, IsNamedCycle}
use Rattle.lf_driver.specs.declared.command.Verb.{Verb}
use Rattle.lf_driver.specs.declared.command.Verb.TheVariants.{Compile, Ast, Order}
use Rattle.lf_driver.specs.Call.{Stored, Call, Tries, Tells, TellsInstead}
use Rattle.lf_driver.specs.Order.{names_at, order_text}
use Rattle.lf_driver.specs.Refusal.{Refusal, refusal_text, read_fault_text, write_fault_text, memory_text}
use Rattle.lf_driver.specs.Refusal as refusal
use Rattle.lf_driver.specs.Verdict.{Verdict, Refuses, Compiled, Shown, Sorts, Told, AreWritten, c_name, verdict}
use Rattle.lf_driver.specs.Words.{CommandText, words_of}

-- the verdict on the words, where the store tells its files
abbrev pub Judges : Call → Verdict → Type 0
Judges c v = Told c.store.files (λ files. verdict c.words files ≡ v)

-- a fact of the command that the words are
abbrev pub OfCommand : Option CommandText → (Verb → List (List ℕ) → Type 0) → Type 0
OfCommand None fact = ⊥
OfCommand (Some command) fact = fact command.0 command.2

-- All files of a list are compiled: the store has what they write, and nothing is pending.
pub record IsCompiled (names : List (List ℕ)) (old new : Stored) : Type 0 where
  pub files : Told old.files (AreWritten names new.files)
  pub pending : new.pending ≡ None
  pub reads : new.reads ≡ old.reads
  pub writes : new.writes ≡ old.writes

-- The same, and where there is no file all is as it was.
abbrev pub IsBehind : List (List ℕ) → Stored → Stored → Type 0
IsBehind [] old new = new ≡ old
IsBehind (file ∷ names) old new = IsCompiled (file ∷ names) old new

-- The files of a list are compiled in turn, and at one of them the call ends so.
pub record Halts (Ends : List ℕ → Stored → Stored → Type 0) (names : List (List ℕ)) (old new : Stored) : Type 0 where
  pub front : List (List ℕ)
  pub file : List ℕ
  pub rest : List (List ℕ)
  pub is : names ≡ front ++ (file ∷ rest)
  pub between : Stored
  pub behind : IsBehind front old between
  pub ends : Ends file between new

-- Of the file of this name none is begun, and nothing is counted.
abbrev pub IsUntouched : List ℕ → List ℕ → Stored → Stored → Type 0
IsUntouched name file old new = (file ≡ name) × (new ≡ old)

-- A read failed, and nothing else has changed.
pub record IsUnread (file : List ℕ) (old new : Stored) : Type 0 where
  pub files : new.files ≡ old.files
  pub pending : new.pending ≡ old.pending
  pub bytes : new.bytes ≡ old.bytes
  pub reads : Rose old.reads new.reads
  pub writes : new.writes ≡ old.writes

-- what is pending: what was, or nothing, or the C file of this source
abbrev pub IsBegun : List ℕ → Option (List ℕ) → Option (List ℕ) → Type 0
IsBegun file old new = (new ≡ old) ⊎ ((new ≡ None) ⊎ (new ≡ Some (c_name file)))

-- A write failed before the C file was finished.
pub record IsUnwritten (file : List ℕ) (old new : Stored) : Type 0 where
  pub files : new.files ≡ old.files
  pub pending : IsBegun file old.pending new.pending
  pub reads : new.reads ≡ old.reads
  pub writes : Rose old.writes new.writes

-- Memory ran out before the C file was finished.
pub record IsCutShort (file : List ℕ) (old new : Stored) : Type 0 where
  pub files : new.files ≡ old.files
  pub pending : IsBegun file old.pending new.pending
  pub reads : new.reads ≡ old.reads
  pub writes : new.writes ≡ old.writes

-- The sink of the trees has gained the text of the tree, or a front of it.
abbrev pub ShowsTree : Call → Type 0
ShowsTree c = (tree : File) × Judges c (Shown (ast_text tree)) × Appends c.out.bytes c.out'.bytes (ast_text tree)

abbrev pub ShowsFront : Call → Type 0
ShowsFront c = (tree : File) × Judges c (Shown (ast_text tree)) × AppendsPart c.out.bytes c.out'.bytes (ast_text tree)

-- The files of these names have an order, which is the least, and the sink has gained its text.
pub record ShowsOrder (c : Call) (names : List (List ℕ)) : Type 0 where
  pub trees : List File
  pub judged : Judges c (Sorts names trees)
  pub order : List ℕ
  pub least : IsLeastFileOrder trees order
  pub text : Appends c.out.bytes c.out'.bytes (order_text names order)

-- the same with a front of it
pub record ShowsOrderFront (c : Call) (names : List (List ℕ)) : Type 0 where
  pub trees : List File
  pub judged : Judges c (Sorts names trees)
  pub order : List ℕ
  pub least : IsLeastFileOrder trees order
  pub text : AppendsPart c.out.bytes c.out'.bytes (order_text names order)

-- The files of these names have no order: these are those on the cycle that they name.
pub record NamesCycle (c : Call) (cycle names : List (List ℕ)) : Type 0 where
  pub trees : List File
  pub judged : Judges c (Sorts names trees)
  pub places : List ℕ
  pub named : IsNamedCycle trees places
  pub is : cycle ≡ names_at names places

-- 0: all files are compiled, or the tree or the order is shown.
abbrev pub Succeeds : Call → Verb → List (List ℕ) → Type 0
Succeeds c Compile names = IsCompiled names c.store c.store' × (c.out' ≡ c.out)
Succeeds c Ast names = (c.store' ≡ c.store) × (c.out'.faults ≡ c.out.faults) × ShowsTree c
Succeeds c Order names = (c.store' ≡ c.store) × (c.out'.faults ≡ c.out.faults) × ShowsOrder c names

-- The file of this name is refused: those before it are compiled, and of it none is begun.
abbrev pub StopsAt : Call → List ℕ → Verb → List (List ℕ) → Type 0
StopsAt c name Compile names = Halts (IsUntouched name) names c.store c.store'
StopsAt c name Ast names = (names ≡ name ∷ []) × (c.store' ≡ c.store)
StopsAt c name Order names = Contains names name × (c.store' ≡ c.store)

-- Files whose order is wanted wait for one another, and the store stays as it is.
abbrev pub Circles : Call → List (List ℕ) → Verb → List (List ℕ) → Type 0
Circles c cycle Compile names = ⊥
Circles c cycle Ast names = ⊥
Circles c cycle Order names = (c.store' ≡ c.store) × NamesCycle c cycle names

-- what a call does that ends by this refusal
abbrev pub ComesTo : Call → Refusal → Type 0
ComesTo c refusal.Usage = (words_of c.words ≡ None) × (c.store' ≡ c.store) × (c.out' ≡ c.out)
ComesTo c (refusal.Absent name) = OfCommand (words_of c.words) (StopsAt c name) × (c.out' ≡ c.out) × Judges c (Refuses (refusal.Absent name))
ComesTo c (refusal.Refused name line rule) = OfCommand (words_of c.words) (StopsAt c name) × (c.out' ≡ c.out) × Judges c (Refuses (refusal.Refused name line rule))
ComesTo c (refusal.Circular cycle) = OfCommand (words_of c.words) (Circles c cycle) × (c.out' ≡ c.out)

abbrev pub IsRefused : Call → Refusal → Type 0
IsRefused c refusal = ComesTo c refusal × Tells c.err c.err' (refusal_text refusal)

abbrev pub FailsToRead : Call → Verb → List (List ℕ) → Type 0
FailsToRead c Compile names = Halts IsUnread names c.store c.store'
FailsToRead c Ast names = IsUnread [] c.store c.store'
FailsToRead c Order names = IsUnread [] c.store c.store'

-- The store could not be written, or the sink of the trees and orders, which may fail.
abbrev pub FailsToWrite : Call → Verb → List (List ℕ) → Type 0
FailsToWrite c Compile names = Halts IsUnwritten names c.store c.store' × (c.out' ≡ c.out)
FailsToWrite c Ast names = (c.store' ≡ c.store) × (c.out.may_fail ≡ true) × Rose c.out.faults c.out'.faults × ShowsFront c
FailsToWrite c Order names = (c.store' ≡ c.store) × (c.out.may_fail ≡ true) × Rose c.out.faults c.out'.faults × ShowsOrderFront c names

abbrev pub WantsMemory : Call → Verb → List (List ℕ) → Type 0
WantsMemory c Compile names = Halts IsCutShort names c.store c.store' × (c.out' ≡ c.out)
WantsMemory c Ast names = (c.store' ≡ c.store) × (c.out'.faults ≡ c.out.faults) × ((c.out'.bytes ≡ c.out.bytes) ⊎ ((c.out.takes_memory ≡ true) × ShowsFront c))
WantsMemory c Order names = (c.store' ≡ c.store) × (c.out'.faults ≡ c.out.faults) × ((c.out'.bytes ≡ c.out.bytes) ⊎ ((c.out.takes_memory ≡ true) × ShowsOrderFront c names))

-- The text of a refusal could not be written by this fault, and another one was tried.
abbrev pub IsUntold : PutFault → Call → List ℕ → Type 0
IsUntold fault c text = (refused : Refusal) × ComesTo c refused × TellsInstead fault c.err c.err' (refusal_text refused) text

-- 0: done. 1: a file breaks a rule. 2: there is no such command or file. 3: a read failed. 4: a write failed. 5: memory ran
-- out. 8: files wait for one another.
abbrev pub Answered : ℕ → Call → Type 0
Answered zero c = OfCommand (words_of c.words) (Succeeds c) × (c.err' ≡ c.err)
Answered (suc zero) c = (name : List ℕ) × (line : ℕ) × (rule : Rule) × IsRefused c (refusal.Refused name line rule)
Answered (suc (suc zero)) c = IsRefused c refusal.Usage ⊎ ((name : List ℕ) × IsRefused c (refusal.Absent name))
Answered (suc (suc (suc zero))) c = OfCommand (words_of c.words) (FailsToRead c) × (c.out' ≡ c.out) × Tries c.err c.err' read_fault_text
Answered (suc (suc (suc (suc zero)))) c = (OfCommand (words_of c.words) (FailsToWrite c) × Tries c.err c.err' write_fault_text) ⊎ IsUntold Failed c write_fault_text
Answered (suc (suc (suc (suc (suc zero))))) c = (OfCommand (words_of c.words) (WantsMemory c) × Tries c.err c.err' memory_text) ⊎ IsUntold Memory c memory_text
Answered (suc (suc (suc (suc (suc (suc zero)))))) c = ⊥
Answered (suc (suc (suc (suc (suc (suc (suc zero))))))) c = ⊥
Answered (suc (suc (suc (suc (suc (suc (suc (suc zero)))))))) c = (cycle : List (List ℕ)) × IsRefused c (refusal.Circular cycle)
Answered (suc (suc (suc (suc (suc (suc (suc (suc (suc status))))))))) c = ⊥

-- The text of the status stands whole on the sink of texts: none of 0, the refusal of 1, 2 and 8, and one text each of 3 to 5.
abbrev pub Says : ℕ → Call → Type 0
Says zero c = c.err' ≡ c.err
Says (suc zero) c = (refused : Refusal) × IsRefused c refused
Says (suc (suc zero)) c = (refused : Refusal) × IsRefused c refused
Says (suc (suc (suc zero))) c = Tells c.err c.err' read_fault_text
Says (suc (suc (suc (suc zero)))) c = Tells c.err c.err' write_fault_text
Says (suc (suc (suc (suc (suc zero))))) c = Tells c.err c.err' memory_text
Says (suc (suc (suc (suc (suc (suc status)))))) c = (refused : Refusal) × IsRefused c refused

-- It does where that sink neither fails nor takes memory.
abbrev pub IsSaid : ℕ → Call → Type 0
IsSaid status c = c.err.may_fail ≡ false → c.err.takes_memory ≡ false → Says status c

-- no count rose
abbrev pub Quiet : Call → Type 0
Quiet c = (c.store'.reads ≡ c.store.reads) × (c.store'.writes ≡ c.store.writes) × (c.out'.faults ≡ c.out.faults) × (c.err'.faults ≡ c.err.faults)

-- no count stood at its greatest number, where it cannot rise
abbrev pub Counting : Call → Type 0
Counting c = (c.store.reads < 2 ^ 64 - 1) × (c.store.writes < 2 ^ 64 - 1) × (c.out.faults < 2 ^ 64 - 1) × (c.err.faults < 2 ^ 64 - 1)

-- the status of a refusal
abbrev pub status_by : Refusal → ℕ
status_by (refusal.Refused name line rule) = 1
status_by (refusal.Absent name) = 2
status_by refusal.Usage = 2
status_by (refusal.Circular names) = 8

-- the status of a verdict: of trees that are sorted, 0 where they have an order, and 8 where they name a cycle, and they have
-- not both
abbrev pub IsStatusBy : Verdict → ℕ → Type 0
IsStatusBy (Compiled files) status = status ≡ 0
IsStatusBy (Shown text) status = status ≡ 0
IsStatusBy (Sorts names trees) status = ((status ≡ 0) × ((order : List ℕ) × IsLeastFileOrder trees order)) ⊎ ((status ≡ 8) × ((places : List ℕ) × IsNamedCycle trees places))
IsStatusBy (Refuses refused) status = status ≡ status_by refused

-- Where the store tells its files and no count rose, the status is the verdict's, or memory ran out.
abbrev pub IsExact : ℕ → Call → Type 0
IsExact status c = (files : Files) → c.store.files ≡ Some files → Quiet c → Counting c → IsStatusBy (verdict c.words files) status ⊎ (status ≡ 5)

-- A count that rises decides the status: 3 by a failed read, 4 by a failed write of the store or of the sink of the trees,
-- and 3, 4 or 5 where a text that tells could not be written.
abbrev pub IsCounted : ℕ → Call → Type 0
IsCounted status c =
    (c.store.reads < c.store'.reads → status ≡ 3) × (c.store.writes < c.store'.writes → status ≡ 4) × (c.out.faults < c.out'.faults → status ≡ 4) × (c.err.faults < c.err'.faults → (3 ≤ status) × (status ≤ 5))
