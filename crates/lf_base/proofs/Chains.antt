-- Several calls, one behind another.
use Rattle.std.proofs.Common.{◌≡◌, ℕ, Bool, false, List, [], ◌∷◌, Option, Result, Ok, Err, refl, sym, subst, ◌∙◌}
use Rattle.lf_base.specs.declared.fault.PutFault.{PutFault}
use Rattle.lf_base.specs.declared.fault.PutFault.TheVariants.{Failed, Memory}
use Rattle.lf_base.specs.Causes.{HasCause}
use Rattle.lf_base.specs.Contents.{AppendsPart, joined}
use Rattle.lf_base.proofs.Printing.{appends_none, appends_more, part_first, part_more}
use Rattle.lf_base.specs.Puts.{Onward, Puts, Cause, Causes, AwaitsPuts}

steps_none : (r : Result (Unit {0}) PutFault) (a : Option (List ℕ)) → Onward r r a a (joined [])
steps_none (Ok u) a = appends_none a
steps_none (Err e) a = (refl, refl)

steps_more : (r s t : Result (Unit {0}) PutFault) (a b c : Option (List ℕ)) (p : List ℕ) (ps : List (List ℕ)) → Onward r s a b p → Onward s t b c (joined ps) → Onward r t a c (joined (p ∷ ps))
steps_more (Ok u) (Ok v) (Ok w) a b c p ps h k = appends_more a b c p ps h k
steps_more (Ok u) (Ok v) (Err e) a b c p ps h k = part_more a b c p ps h k
steps_more (Ok u) (Err e) t a b c p ps h k = subst (λ x. Onward (Ok u) x a c (joined (p ∷ ps))) (sym k.0) (subst (λ x. AppendsPart a x (joined (p ∷ ps))) (sym k.1) (part_first a b p ps h))
steps_more (Err e) s t a b c p ps h k =
    let k' = subst (λ x. Onward x t b c (joined ps)) h.0 k in
    (k'.0, k'.1 ∙ h.1)

pub puts_none : (r : Result (Unit {0}) PutFault) (a : Option (List ℕ)) → Puts r r a a (joined [])
puts_none r a = record { step = steps_none r a }

pub puts_more : (r s t : Result (Unit {0}) PutFault) (a b c : Option (List ℕ)) (p : List ℕ) (ps : List (List ℕ)) → Puts r s a b p → Puts s t b c (joined ps) → Puts r t a c (joined (p ∷ ps))
puts_more r s t a b c p ps h k = record { step = steps_more r s t a b c p ps h.step k.step }

cause_none : (f w : Bool) (r : Result (Unit {0}) PutFault) (m : ℕ) → Cause f w r r m m
cause_none f w (Ok u) m = refl
cause_none f w (Err e) m = (refl, refl)

cause_more : (f w : Bool) (r s t : Result (Unit {0}) PutFault) (l m n : ℕ) → Cause f w r s l m → Cause f w s t m n → Cause f w r t l n
cause_more f w (Ok u) (Ok v) t l m n h k = subst (λ x. HasCause {T = Unit {0}} f w x n t) h k
cause_more f w (Ok u) (Err e) t l m n h k = subst (λ x. HasCause {T = Unit {0}} f w l n x) (sym k.0) (subst (λ x. HasCause {T = Unit {0}} f w l x (Err e)) (sym k.1) h)
cause_more f w (Err e) s t l m n h k =
    let k' = subst (λ x. Cause f w x t m n) h.0 k in
    (k'.0, k'.1 ∙ h.1)

pub causes_none : (f w : Bool) (r : Result (Unit {0}) PutFault) (m : ℕ) → Causes f w r r m m
causes_none f w r m = record { cause = cause_none f w r m }

pub causes_more : (f w : Bool) (r s t : Result (Unit {0}) PutFault) (l m n : ℕ) → Causes f w r s l m → Causes f w s t m n → Causes f w r t l n
causes_more f w r s t l m n h k = record { cause = cause_more f w r s t l m n h.cause k.cause }

-- A sink that neither fails nor takes memory refuses nothing.
pub never_refused : (f w : Bool) (r : Result (Unit {0}) PutFault) (m n : ℕ) → HasCause f w m n r → f ≡ false → w ≡ false → r ≡ Ok tt
never_refused f w (Ok tt) m n h p q = refl
never_refused f w (Err Failed) m n h p q = cc
never_refused f w (Err Memory) m n h p q = cc

pub ruleset chains = (puts_none, puts_more, causes_more)

-- a loop over pieces begins, goes on by one piece, and ends
pub awaits_all : (r : Result (Unit {0}) PutFault) (a : Option (List ℕ)) (all : List (List ℕ)) → AwaitsPuts r r a a all all
awaits_all r a all = record { whole = λ t c h. h }

pub awaits_rest : (r s t : Result (Unit {0}) PutFault) (a b c : Option (List ℕ)) (all : List (List ℕ)) (p : List ℕ) (rest : List (List ℕ)) → AwaitsPuts r s a b all (p ∷ rest) → Puts s t b c p → AwaitsPuts r t a c all rest
awaits_rest r s t a b c all p rest w h = record { whole = λ u d k. w.whole u d (puts_more s t u b c d p rest h k) }

pub awaits_none : (r s : Result (Unit {0}) PutFault) (a b : Option (List ℕ)) (all : List (List ℕ)) → AwaitsPuts r s a b all [] → Puts r s a b (joined all)
awaits_none r s a b all w = w.whole s b (puts_none s b)

pub ruleset looping = (awaits_all, awaits_rest, awaits_none, causes_none, causes_more)
