-- A text that is tried, and another one behind a front of it.
use Rattle.std.proofs.Common.{ℕ, Bool, refl, List, Option, Result, Ok, Err}
use Rattle.lf_base.specs.declared.fault.PutFault.{PutFault}
use Rattle.lf_base.specs.Puts.{Puts, Causes}
use Rattle.lf_driver.specs.Call.{Tries, Tells, TellsInstead, held}

pub tells : (f w : Bool) (a b : Option (List ℕ)) (m n : ℕ) (t : List ℕ) → Puts (Ok tt) (Ok tt) a b t → Causes f w (Ok tt) (Ok tt) m n → Tells (held f w a m) (held f w b n) t
tells f w a b m n t h k = record { gains = h; counts = k; fails = refl; takes = refl }

pub tries : (f w : Bool) (r : Result (Unit {0}) PutFault) (a b : Option (List ℕ)) (m n : ℕ) (t : List ℕ) → Puts (Ok tt) r a b t → Causes f w (Ok tt) r m n → Tries (held f w a m) (held f w b n) t
tries f w r a b m n t h k = (r, record { gains = h; counts = k; fails = refl; takes = refl })

pub tells_instead : (f w : Bool) (fault : PutFault) (r : Result (Unit {0}) PutFault) (a b c : Option (List ℕ)) (l m n : ℕ) (s t : List ℕ) → Puts (Ok tt) (Err fault) a b s → Causes f w (Ok tt) (Err fault) l m → Puts (Ok tt) r b c t → Causes f w (Ok tt) r m n → TellsInstead fault (held f w a l) (held f w c n) s t
tells_instead f w fault r a b c l m n s t h k i j = (held f w b m, record { gains = h; counts = k; fails = refl; takes = refl }, tries f w r b c m n t i j)

pub ruleset tellings = (tells, tries, tells_instead)
