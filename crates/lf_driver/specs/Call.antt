-- What the objects of a call tell, before it and behind it.
use Rattle.std.specs.Prelude.{◌≡◌, ℕ, Bool, List, Option, Result, Ok, Err}
use Rattle.lf_base.specs.declared.fault.PutFault.{PutFault}
use Rattle.lf_base.specs.Files.{Files}
use Rattle.lf_base.specs.Puts.{Puts, Causes}

-- a store
pub record Stored : Type 0 where
  pub files : Option Files
  -- the name of the pending file, and its bytes
  pub pending : Option (List ℕ)
  pub bytes : Option (List ℕ)
  -- the counts of failed reads and of failed writes
  pub reads : ℕ
  pub writes : ℕ

-- a sink, with its count of failed writes
pub record Held : Type 0 where
  pub bytes : Option (List ℕ)
  pub faults : ℕ
  -- whether its writes may fail, and whether they take memory
  pub may_fail : Bool
  pub takes_memory : Bool

-- Each object stands twice, the second time as the call leaves it.
pub record Call : Type 0 where
  pub words : List (List ℕ)
  pub store : Stored
  pub store' : Stored
  -- the sink of the trees
  pub out : Held
  pub out' : Held
  -- the sink of the texts that tell what came
  pub err : Held
  pub err' : Held

-- A text was put, and so it ended: the sink has gained all of it, or a front of it where a put failed, which is only where
-- it may fail or takes memory, and only a failure that is no want of memory raises the count.
pub record IsTried (ended : Result (Unit {0}) PutFault) (old new : Held) (text : List ℕ) : Type 0 where
  pub gains : Puts (Ok tt) ended old.bytes new.bytes text
  pub counts : Causes old.may_fail old.takes_memory (Ok tt) ended old.faults new.faults
  -- what may come of later writes stays
  pub fails : new.may_fail ≡ old.may_fail
  pub takes : new.takes_memory ≡ old.takes_memory

-- It was put, however it ended.
abbrev pub Tries : Held → Held → List ℕ → Type 0
Tries old new text = (ended : Result (Unit {0}) PutFault) × IsTried ended old new text

-- It was put and stands whole.
abbrev pub Tells : Held → Held → List ℕ → Type 0
Tells old new text = IsTried (Ok tt) old new text

-- It could not be put by this fault, and behind a front of it another text was put, however that ended.
abbrev pub TellsInstead : PutFault → Held → Held → List ℕ → List ℕ → Type 0
TellsInstead fault old new first second = (between : Held) × IsTried (Err fault) old between first × Tries between new second

abbrev pub stored : Option Files → Option (List ℕ) → Option (List ℕ) → ℕ → ℕ → Stored
stored files pending bytes reads writes = record { files = files; pending = pending; bytes = bytes; reads = reads; writes = writes }

abbrev pub held : Bool → Bool → Option (List ℕ) → ℕ → Held
held may_fail takes_memory bytes faults = record { bytes = bytes; faults = faults; may_fail = may_fail; takes_memory = takes_memory }
