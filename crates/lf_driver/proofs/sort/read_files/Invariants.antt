use Rattle.std.specs.Prelude.{◌≡◌, drop, map, string_bytes}
use Rattle.lf_driver.proofs.Sorting.{HasRead}
use Rattle.lf_driver.proofs.sort.read_files.Given as goal

abbrev pub invariant-loop-name : goal.invariant-loop-name
invariant-loop-name g l = record {
  trees : HasRead l.trees.items (map string_bytes l.names) (drop l.name-index (map string_bytes l.names)) (g.S.Store.files l.fn.store);
  files : g.S.Store.files l.store ≡ g.S.Store.files l.fn.store;
  pending : g.S.Store.pending l.store ≡ g.S.Store.pending l.fn.store;
  bytes : g.S.Sink.contents l.store ≡ g.S.Sink.contents l.fn.store;
  writes : g.S.Sink.faults l.store ≡ g.S.Sink.faults l.fn.store;
  reads : g.S.Store.read_faults l.store ≡ g.S.Store.read_faults l.fn.store;
}
