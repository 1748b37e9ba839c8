use Rattle.std.proofs.Common.{◌∙◌, ◌+◌, Ok, Err, sym, subst, drop, map, string_bytes}
use Rattle.lf_driver.specs.Sort.{GivesTreeOf}
use Rattle.lf_driver.proofs.Sorting.{HasRead, next_name, name_among, read_more, read_ends}
use Rattle.lf_driver.proofs.sort.read_files.Goals as goal

pub returns-in-Err-clause-gives : goal.returns-in-Err-clause-gives
returns-in-Err-clause-gives g c =
    let names = map string_bytes c.args.names.now in
    let there = g.S.Store.files c.args.store.now in
    let file = c.as_str.result.now in
    let rest = drop (c.loop-name.name-index + 1) names in
    let read = c.loop-name.trees.items in
    let next = next_name c.args.names.now c.loop-name.name-index _ _ file c.loop-name-test.true c.name-item.is c.as_str.ensures.value in
    let among = name_among c.args.names.now c.loop-name.name-index _ _ file c.loop-name-test.true c.name-item.is c.as_str.ensures.value in
    read_ends c.in-Err.came read names file rest there
    (subst (λ left. HasRead read names left there) next c.loop-name.invariant.trees)
    among
    (subst (λ files. GivesTreeOf (Err c.in-Err.came) file files) c.loop-name.invariant.files c.in-Err.ensures.gives)

pub loop-name-preserved : goal.loop-name-preserved
loop-name-preserved g c =
    let names = map string_bytes c.args.names.now in
    let there = g.S.Store.files c.args.store.now in
    let file = c.as_str.result.now in
    let rest = drop (c.loop-name.name-index + 1) names in
    let read = c.loop-name.trees.items in
    let next = next_name c.args.names.now c.loop-name.name-index _ _ file c.loop-name-test.true c.name-item.is c.as_str.ensures.value in
    record {
      trees =
          subst (λ trees. HasRead trees names rest there) (sym c.in-Ok-push.ensures.items)
          (read_more read c.in-Ok.tree names file rest there
          (subst (λ left. HasRead read names left there) next c.loop-name.invariant.trees)
          (subst (λ files. GivesTreeOf (Ok c.in-Ok.tree) file files) c.loop-name.invariant.files c.in-Ok.ensures.gives));
      files = c.in-Ok.ensures.files ∙ c.loop-name.invariant.files;
      pending = c.in-Ok.ensures.pending ∙ c.loop-name.invariant.pending;
      bytes = c.in-Ok.ensures.bytes ∙ c.loop-name.invariant.bytes;
      writes = c.in-Ok.ensures.writes ∙ c.loop-name.invariant.writes;
      reads = c.in-Ok.ensures.reads ∙ c.loop-name.invariant.reads;
    }
