use Rattle.std.proofs.Common.{◌≡◌, map, reverse}
use Rattle.std.specs.Prelude.{string_bytes}
use Rattle.lf_base.specs.SureStore.{entry}
use Rattle.lf_base.proofs.sure_store.SureStore.new.Given as goal

-- the files so far, the newest in front
abbrev pub invariant-loop-name : goal.invariant-loop-name
invariant-loop-name l = map entry l.stored.items ≡ reverse (map (λ f. (string_bytes f.0, f.1.items)) l.yielded)
