-- The programs of the examples, which all meanings compute.
use Rattle.std.proofs.Common.{◌≡◌, [], codes, Some, None, refl}
use Rattle.std.specs.Fmt.{digits}
use Rattle.lf_base.specs.Contents.{joined}
use Rattle.lf_base.specs.Traps.{trap_status}
use Rattle.lf_base.specs.declared.trap.Trap.TheVariants.{IntegerOverflow}
use Rattle.lf_base.specs.Outcome.{Ended, Cut, written}
use Rattle.link_toy.specs.Source.{IsFine}
use Rattle.link_toy.specs.Meaning.{success, run}
use Rattle.link_toy.specs.Numbered.{run_numbered}
use Rattle.link_toy.specs.Target.{run_c}
use Rattle.link_toy.specs.Temporary.{passed}
use Rattle.link_toy.specs.Translation.{translated, initial_memory}
use Rattle.link_toy.specs.Example.{spare, layout, at_line, descends, overflows}

pub descends_fine : IsFine descends
descends_fine = record { bodies = λ q. refl; main = refl }

pub overflows_fine : IsFine overflows
overflows_fine = record { bodies = λ q. refl; main = refl }

pub descends_here : run descends 2 2 ≡ Ended (written (codes "5\n5\n2\n2\n5\n5\n2\n2\n") []) success None
unfolding joined digits
descends_here = refl

pub descends_there : run_c (initial_memory layout) (translated layout descends) 3 3 ≡ Ended (written (codes "5\n5\n2\n2\n5\n5\n2\n2\n") []) success None
unfolding joined digits
descends_there = refl

pub descends_numbered : run_numbered descends 2 2 ≡ Ended (written (codes "5\n5\n2\n2\n5\n5\n2\n2\n") []) success None
unfolding joined digits
descends_numbered = refl

pub descends_passed : run (passed spare descends) 2 2 ≡ Ended (written (codes "5\n5\n2\n2\n5\n5\n2\n2\n") []) success None
unfolding joined digits
descends_passed = refl

pub too_shallow : run descends 2 1 ≡ Cut (written [] [])
too_shallow = refl

pub overflows_here : run overflows 0 0 ≡ Ended (written (codes "1\n") (codes "lf: trap IntegerOverflow at toy:2\n")) (trap_status IntegerOverflow) (Some (at_line 2))
unfolding joined digits
overflows_here = refl

pub overflows_there : run_c (initial_memory layout) (translated layout overflows) 0 1 ≡ Ended (written (codes "1\n") (codes "lf: trap IntegerOverflow at toy:2\n")) (trap_status IntegerOverflow) None
unfolding joined digits
overflows_there = refl
