use Rattle.std.proofs.lemmas.Str.{IsCharBoundary-start}
use Rattle.lf_outside.proofs.Folders.{folder_found, none_found, after_slash}
use Rattle.lf_outside.proofs.names.folder_length.Goals as goal

pub returns-then-bytes-end-eq47-clause-folder : goal.returns-then-bytes-end-eq47-clause-folder
returns-then-bytes-end-eq47-clause-folder c = folder_found c.args.name.now c.as_bytes-bytes.result.now c.loop-end.end c.as_bytes-bytes.ensures.value c.loop-end-test.true c.loop-end.invariant.0 c.if-bytes-end-eq47.true c.loop-end.invariant.1

pub returns-then-bytes-end-eq47-clause-boundary : goal.returns-then-bytes-end-eq47-clause-boundary
returns-then-bytes-end-eq47-clause-boundary c = after_slash c.args.name.now c.as_bytes-bytes.result.now c.loop-end.end c.utf8.name c.as_bytes-bytes.ensures.value c.loop-end-test.true c.loop-end.invariant.0 c.if-bytes-end-eq47.true

pub returns-clause-folder : goal.returns-clause-folder
returns-clause-folder c = none_found c.args.name.now c.as_bytes-bytes.result.now c.loop-end.end c.as_bytes-bytes.ensures.value c.loop-end-test.false c.loop-end.invariant.1

pub returns-clause-boundary : goal.returns-clause-boundary
returns-clause-boundary c = IsCharBoundary-start c.args.name.now c.utf8.name
