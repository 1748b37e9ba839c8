-- How a call ends: what came, its status, what it leaves in the store, what it writes, and which counts of faults rose.
use Rattle.std.specs.Prelude.{◌≡◌, ℕ, Bool, List, [], ◌∷◌, Option, Some, None, Result, Ok, Err, ◌⊎◌}
use Rattle.lf_base.specs.Contents.{joined}
use Rattle.lf_base.specs.declared.fault.PutFault.{PutFault}
use Rattle.lf_base.specs.declared.fault.PutFault.TheVariants as put
use Rattle.lf_base.specs.Causes.{Rose}
use Rattle.lf_base.specs.Files.{Files}
use Rattle.lf_driver.specs.declared.outcome.Answer.{Answer}
use Rattle.lf_driver.specs.declared.outcome.Answer.TheVariants.{Done, Usage, Absent, Refused, Circular, ReadFault, WriteFault, Memory}
use Rattle.lf_driver.specs.declared.command.Verb.{Verb}
use Rattle.lf_driver.specs.declared.command.Verb.TheVariants.{Compile, Ast, Order}
use Rattle.lf_driver.specs.Call.{Stored, Held, Tries, Tells, TellsInstead}
use Rattle.lf_driver.specs.Compile.{FileComesTo, Begins}
use Rattle.lf_driver.specs.Refusal.{refusal_text, read_fault_text, write_fault_text, memory_text}
use Rattle.lf_driver.specs.Refusal as refusal
use Rattle.lf_driver.specs.Show.{FileShows}
use Rattle.lf_driver.specs.Sort.{FilesSortTo}
use Rattle.lf_driver.specs.Words.{words_of}

abbrev pub status_of : Answer → ℕ
status_of Done = 0
status_of (Refused name line rule) = 1
status_of Usage = 2
status_of (Absent name) = 2
status_of ReadFault = 3
status_of WriteFault = 4
status_of Memory = 5
status_of (Circular told) = 8

-- the text that tells it
abbrev pub text_of : Answer → List ℕ
text_of Done = joined []
text_of Usage = refusal_text refusal.Usage
text_of (Absent name) = refusal_text (refusal.Absent name.now)
text_of (Refused name line rule) = refusal_text (refusal.Refused name.now line rule)
text_of (Circular told) = told.items
text_of ReadFault = read_fault_text
text_of WriteFault = write_fault_text
text_of Memory = memory_text

-- what comes of the one file of a verb, where the sink of the trees may fail or take memory or not
abbrev pub VerbComesTo : Bool → Bool → Answer → Verb → List ℕ → Option Files → Option Files → Option (List ℕ) → Option (List ℕ) → Type 0
VerbComesTo may_fail takes_memory came Compile file old new shown shown' = FileComesTo came file old new × (shown' ≡ shown)
VerbComesTo may_fail takes_memory came Ast file old new shown shown' = FileShows may_fail takes_memory came file old shown shown' × (new ≡ old)
VerbComesTo may_fail takes_memory came Order file old new shown shown' = ⊥

-- what is then pending
abbrev pub VerbBegins : Answer → Verb → List ℕ → Option (List ℕ) → Option (List ℕ) → Option (List ℕ) → Option (List ℕ) → Type 0
VerbBegins came Compile file old new bytes bytes' = Begins came file old new bytes bytes'
VerbBegins came Ast file old new bytes bytes' = (new ≡ old) × (bytes' ≡ bytes)
VerbBegins came Order file old new bytes bytes' = ⊥

-- A count of failed reads and one of failed writes: each rose exactly where that is what came.
abbrev pub Counts : Answer → ℕ → ℕ → ℕ → ℕ → Type 0
Counts Done reads reads' writes writes' = (reads' ≡ reads) × (writes' ≡ writes)
Counts Usage reads reads' writes writes' = (reads' ≡ reads) × (writes' ≡ writes)
Counts (Absent name) reads reads' writes writes' = (reads' ≡ reads) × (writes' ≡ writes)
Counts (Refused name line rule) reads reads' writes writes' = (reads' ≡ reads) × (writes' ≡ writes)
Counts (Circular told) reads reads' writes writes' = (reads' ≡ reads) × (writes' ≡ writes)
Counts ReadFault reads reads' writes writes' = Rose reads reads' × (writes' ≡ writes)
Counts WriteFault reads reads' writes writes' = (reads' ≡ reads) × Rose writes writes'
Counts Memory reads reads' writes writes' = (reads' ≡ reads) × (writes' ≡ writes)

-- The store's count of failed reads, its count of failed writes, and that of the sink of the trees.
abbrev pub VerbCounts : Answer → Verb → ℕ → ℕ → ℕ → ℕ → ℕ → ℕ → Type 0
VerbCounts came Compile reads reads' writes writes' puts puts' = Counts came reads reads' writes writes' × (puts' ≡ puts)
VerbCounts came Ast reads reads' writes writes' puts puts' = Counts came reads reads' puts puts' × (writes' ≡ writes)
VerbCounts came Order reads reads' writes writes' puts puts' = ⊥

-- What came of a file by the verb, and what the store and the sink of the trees then tell.
pub record Does (came : Answer) (verb : Verb) (file : List ℕ) (store store' : Stored) (out out' : Held) : Type 0 where
  pub comes : VerbComesTo out.may_fail out.takes_memory came verb file store.files store'.files out.bytes out'.bytes
  pub pending : VerbBegins came verb file store.pending store'.pending store.bytes store'.bytes
  pub counts : VerbCounts came verb store.reads store'.reads store.writes store'.writes out.faults out'.faults
  pub fails : out'.may_fail ≡ out.may_fail
  pub takes : out'.takes_memory ≡ out.takes_memory

-- What came of files whose order is wanted: the store is read and not changed.
pub record Sorted (came : Answer) (names : List (List ℕ)) (store store' : Stored) (out out' : Held) : Type 0 where
  pub comes : FilesSortTo out.may_fail out.takes_memory came names store.files out.bytes out'.bytes
  pub files : store'.files ≡ store.files
  pub pending : store'.pending ≡ store.pending
  pub bytes : store'.bytes ≡ store.bytes
  pub writes : store'.writes ≡ store.writes
  pub counts : Counts came store.reads store'.reads out.faults out'.faults
  pub fails : out'.may_fail ≡ out.may_fail
  pub takes : out'.takes_memory ≡ out.takes_memory

-- The words are no command, or the file that they name comes to this, or the files do whose order is wanted.
abbrev pub Performs : Answer → List (List ℕ) → Stored → Stored → Held → Held → Type 0
Performs came words store store' out out' =
    ((came ≡ Usage) × (words_of words ≡ None) × (store' ≡ store) × (out' ≡ out)) ⊎ (((verb : Verb) × (file : List ℕ) × (words_of words ≡ Some (verb, 0, file ∷ [])) × Does came verb file store store' out out') ⊎ ((names : List (List ℕ)) × (words_of words ≡ Some (Order, 0, names)) × Sorted came names store store' out out'))

-- How a text was told, and what was told instead where it could not be.
abbrev pub TellsOr : Answer → Result (Unit {0}) PutFault → Held → Held → Type 0
TellsOr came (Ok _) old new = Tells old new (text_of came)
TellsOr came (Err put.Failed) old new = TellsInstead put.Failed old new (text_of came) write_fault_text
TellsOr came (Err put.Memory) old new = TellsInstead put.Memory old new (text_of came) memory_text

-- the same by what is answered for it
abbrev pub Announces : Answer → Answer → Held → Held → Type 0
Announces came WriteFault old new = TellsInstead put.Failed old new (text_of came) write_fault_text
Announces came Memory old new = TellsInstead put.Memory old new (text_of came) memory_text
Announces came told old new = (told ≡ came) × Tells old new (text_of came)

-- the text of a fault is tried once, whatever comes of it
abbrev pub Admits : Answer → Answer → Held → Held → Type 0
Admits came told old new = (told ≡ came) × Tries old new (text_of came)

-- how what has come is told, and what is answered for it
abbrev pub Reports : Answer → Answer → Held → Held → Type 0
Reports Done told old new = (told ≡ Done) × (new ≡ old)
Reports Usage told old new = Announces Usage told old new
Reports (Absent name) told old new = Announces (Absent name) told old new
Reports (Refused name line rule) told old new = Announces (Refused name line rule) told old new
Reports (Circular text) told old new = Announces (Circular text) told old new
Reports ReadFault told old new = Admits ReadFault told old new
Reports WriteFault told old new = Admits WriteFault told old new
Reports Memory told old new = Admits Memory told old new
