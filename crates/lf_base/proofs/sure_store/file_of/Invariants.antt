use Rattle.std.proofs.Common.{◌≡◌, map}
use Rattle.std.specs.Ordering.{nat_cmp}
use Rattle.std.specs.Cmp.Lexicographic.{slice_cmp}
use Rattle.std.specs.FinMap.{find}
use Rattle.std.specs.VecDeque.Iter.{deque_iter_rest}
use Rattle.lf_base.specs.SureStore.{entry}
use Rattle.lf_base.proofs.sure_store.file_of.Given as goal

-- the file is the first of that name among those that are left
abbrev pub invariant-loop-file : goal.invariant-loop-file
invariant-loop-file l = find (slice_cmp nat_cmp) l.name (map entry l.files.items) ≡ find (slice_cmp nat_cmp) l.name (map entry (deque_iter_rest l.file-iterator))
