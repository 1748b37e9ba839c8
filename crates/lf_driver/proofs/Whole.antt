-- On a sink of texts that neither fails nor takes memory the text of each status stands whole.
use Rattle.std.proofs.Common.{◌≡◌, ℕ, zero, suc, false, List, Ok, Err, inl, inr}
use Rattle.lf_base.specs.declared.fault.PutFault.{PutFault}
use Rattle.lf_base.specs.declared.fault.PutFault.TheVariants.{Failed, Memory}
use Rattle.lf_driver.specs.Answers.{Answered, IsSaid}
use Rattle.lf_driver.specs.Call.{Held, Call, IsTried, Tries, Tells, TellsInstead}
use Rattle.lf_driver.specs.Refusal as refusal

never : (fault : PutFault) (a b : Held) (t : List ℕ) (P : Type 0) → a.may_fail ≡ false → a.takes_memory ≡ false → IsTried (Err fault) a b t → P
never Failed a b t P f w h =
    let fails = h.counts.cause.0 in
    cc
never Memory a b t P f w h =
    let takes = h.counts.cause.0 in
    cc

whole : (a b : Held) (t : List ℕ) → a.may_fail ≡ false → a.takes_memory ≡ false → Tries a b t → Tells a b t
whole a b t f w (Ok tt, h) = h
whole a b t f w (Err fault, h) = never fault a b t (Tells a b t) f w h

told : (fault : PutFault) (a b : Held) (s t : List ℕ) (P : Type 0) → a.may_fail ≡ false → a.takes_memory ≡ false → TellsInstead fault a b s t → P
told fault a b s t P f w h = never fault a h.0 s P f w h.1

pub said : (status : ℕ) (c : Call) → Answered status c → IsSaid status c
said zero c h f w = h.1
said (suc zero) c h f w = (refusal.Refused h.0 h.1 h.2, h.3)
said (suc (suc zero)) c (inl h) f w = (refusal.Usage, h)
said (suc (suc zero)) c (inr h) f w = (refusal.Absent h.0, h.1)
said (suc (suc (suc zero))) c h f w = whole c.err c.err' _ f w h.2
said (suc (suc (suc (suc zero)))) c (inl h) f w = whole c.err c.err' _ f w h.1
said (suc (suc (suc (suc zero)))) c (inr h) f w = told Failed c.err c.err' _ _ _ f w h.2
said (suc (suc (suc (suc (suc zero))))) c (inl h) f w = whole c.err c.err' _ f w h.1
said (suc (suc (suc (suc (suc zero))))) c (inr h) f w = told Memory c.err c.err' _ _ _ f w h.2
said (suc (suc (suc (suc (suc (suc zero)))))) c h f w = absurd h
said (suc (suc (suc (suc (suc (suc (suc zero))))))) c h f w = absurd h
said (suc (suc (suc (suc (suc (suc (suc (suc zero)))))))) c h f w = (refusal.Circular h.0, h.1)
said (suc (suc (suc (suc (suc (suc (suc (suc (suc status))))))))) c h f w = absurd h
