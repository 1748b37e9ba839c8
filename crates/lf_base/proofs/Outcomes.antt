-- What begins what.
use Rattle.std.proofs.Common.{ℕ, List, [], ◌++◌, Option, Some, None, refl, sym, ap, subst, ◌∙◌, append_assoc, append-nil}
use Rattle.lf_base.specs.Outcome.{Location, Written, Outcome, Ended, Cut, Wrong, Fault, Stuck, Undefined, Away, IsFront, IsBegun, Began, Extends, KeepsLocation}

pub front_same : (a : List ℕ) → IsFront a a
front_same a = ([], sym (append-nil a))

pub front_more : (a b c : List ℕ) → IsFront a b → IsFront b c → IsFront a c
front_more a b c p q = (p.0 ++ q.0, q.1 ∙ ap (λ t. t ++ q.0) p.1 ∙ append_assoc a p.0 q.0)

pub front_append : (a b : List ℕ) → IsFront a (a ++ b)
front_append a b = (b, refl)

pub begun_same : (a : Written) → IsBegun a a
begun_same a = record { out = front_same a.out; err = front_same a.err }

pub begun_more : (a b c : Written) → IsBegun a b → IsBegun b c → IsBegun a c
begun_more a b c p q = record { out = front_more a.out b.out c.out p.out q.out; err = front_more a.err b.err c.err p.err q.err }

pub began_more : (a b : Written) (fault : Fault) → IsBegun a b → Began b fault → Began a fault
began_more a b Stuck p q = tt
began_more a b Undefined p q = tt
began_more a b (Away later) p q = begun_more a b later p q

pub extends_more : (a b : Written) (o : Outcome) → IsBegun a b → Extends b o → Extends a o
extends_more a b (Ended later status location) p q = begun_more a b later p q
extends_more a b (Cut later) p q = begun_more a b later p q
extends_more a b (Wrong fault) p q = began_more a b fault p q

pub keeps_more : (p q r : Option Location) → KeepsLocation p q → KeepsLocation q r → KeepsLocation p r
keeps_more p q None h k = tt
keeps_more p q (Some r) h k = subst (λ x. KeepsLocation p x) k h
