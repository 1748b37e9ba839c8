-- What goes no further than an act that is below another is below it: a helper at few turns, from what it does at
-- enough of them.
use Rattle.std.proofs.Common.{Option, sym, ap, subst, ◌∙◌}
use Rattle.lf_base.specs.Outcome.{Location, Written, Ended, Cut, Wrong, Owed, Any}
use Rattle.lf_base.specs.Acts.{Stretch, Going, Stopped, Act}
use Rattle.lf_base.specs.Order.{ExtendsIn, Link, Below, BelowFrom, Same}
use Rattle.lf_base.specs.Monotone.{SameLocation, NoShorter}
use Rattle.lf_base.proofs.Stretches.{extends_in_more}

module _ {S A S' A' : Type 0} (W : Owed) (P : Option Location → Option Location → Type 0) (R : Link S A S' A') where
  extends_before : (sofar : Written) (x : Stretch S A) (y : Stretch S' A') → ExtendsIn sofar x → Below W P R x y → ExtendsIn sofar y
  extends_before sofar (Going a s later) y h b = subst (λ z. ExtendsIn sofar z) (sym b.3) h
  extends_before sofar (Stopped (Ended later status location)) y h b = subst (λ z. ExtendsIn sofar z) (sym b.2) h
  extends_before sofar (Stopped (Cut later)) y h b = extends_in_more sofar later y h b
  extends_before sofar (Stopped (Wrong fault)) y h b = subst (λ z. ExtendsIn sofar z) (sym b.1) h

  pub below_before : (x further : Stretch S A) (y : Stretch S' A') → Below Any SameLocation Same x further → Below W P R further y → Below W P R x y
  below_before (Going a s w) further y h b = subst (λ z. Below W P R z y) (h.3 ∙ ap (λ c. Going c h.1 w) h.2.0 ∙ ap (λ t. Going a t w) h.2.1) b
  below_before (Stopped (Ended w status location)) further y h b = subst (λ z. Below W P R z y) (h.2 ∙ ap (λ q. Stopped (Ended w status q)) h.1) b
  below_before (Stopped (Cut w)) further y h b = extends_before w further y h b
  below_before (Stopped (Wrong fault)) further y h b = subst (λ z. Below W P R z y) h.1 b

  pub from_enough : (Q : S → S' → Type 0) (act enough : Act S A) (other : Act S' A') → NoShorter act enough → BelowFrom W P Q R enough other → BelowFrom W P Q R act other
  from_enough Q act enough other h b s s' w q = below_before (act s w) (enough s w) (other s' w) (h s w) (b s s' w q)
