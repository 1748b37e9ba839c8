use Rattle.std.proofs.Common.{sym, ap, ◌∙◌, map, cond, Some, subst, ◌≡◌}
use Rattle.std.proofs.lemmas.Slice.Eq.{slice_eq-Decides}
use Rattle.std.proofs.lemmas.Bool.Decides.{Decides-eqb}
use Rattle.std.specs.Bool.{Decides}
use Rattle.std.specs.Ordering.{nat_cmp}
use Rattle.std.specs.Cmp.Lexicographic.{slice_cmp}
use Rattle.std.specs.FinMap.{find}
use Rattle.std.specs.VecDeque.Iter.{deque_iter_rest}
use Rattle.lf_base.specs.SureStore.{entry}
use Rattle.lf_base.proofs.Stored.{find_step}
use Rattle.lf_base.proofs.sure_store.file_of.Goals as goal

pub returns-then-eq : goal.returns-then-eq
returns-then-eq c =
    let names = slice_cmp nat_cmp in
    let rest = map entry (deque_iter_rest c.next.new.self) in
    let decides = subst (λ n. Decides c.eq.result (n ≡ c.args.name.now)) c.as_slice.ensures.value (slice_eq-Decides Decides-eqb c.as_slice.result.now c.args.name.now c.eq.result c.eq.ensures) in
    sym (c.loop-file.invariant
    ∙ ap (λ fs. find names c.args.name.now (map entry fs)) c.in-Some.ensures.steps
    ∙ find_step c.args.name.now c.in-Some.file.now rest c.eq.result decides
    ∙ ap (λ b. cond b (Some c.in-Some.file.now.bytes.items) (find names c.args.name.now rest)) c.if-eq.true)

pub loop-file-preserved : goal.loop-file-preserved
loop-file-preserved c =
    let names = slice_cmp nat_cmp in
    let rest = map entry (deque_iter_rest c.next.new.self) in
    let decides = subst (λ n. Decides c.eq.result (n ≡ c.args.name.now)) c.as_slice.ensures.value (slice_eq-Decides Decides-eqb c.as_slice.result.now c.args.name.now c.eq.result c.eq.ensures) in
    c.loop-file.invariant
    ∙ ap (λ fs. find names c.args.name.now (map entry fs)) c.in-Some.ensures.steps
    ∙ find_step c.args.name.now c.in-Some.file.now rest c.eq.result decides
    ∙ ap (λ b. cond b (Some c.in-Some.file.now.bytes.items) (find names c.args.name.now rest)) c.if-eq.false
