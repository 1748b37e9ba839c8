use Rattle.std.proofs.Common.{◌+◌, sym, ◌∙◌, subst, Ok, drop}
use Rattle.std.proofs.lemmas.List.{at_drop_more}
use Rattle.type_rules.specs.declared.ty.Ty.{Ty}
use Rattle.type_rules.specs.Types.{GivesDims}
use Rattle.type_rules.specs.Typing.{joined, joined_with, dims_of}
use Rattle.type_rules.proofs.Dims.{handed_on}
use Rattle.type_rules.proofs.typing.joined_all.Goals as goal

pub returns-in_err-all : goal.returns-in_err-all
returns-in_err-all c =
    let whole = sym (at_drop_more (λ ts. joined_with c.loop-ty.all (dims_of ts)) c.args.args.now c.loop-ty.ty-index c.ty-item.result c.loop-ty-test.true) ∙ c.loop-ty.invariant in
    let first = c.as_slice.ensures in
    let second = c.as_slice-in-loop-ty.ensures in
    let given = rw (first, second) at c.in_err-all.ensures in
    let more = handed_on c.from_residual.result c.in_err-all.field-0.0 (joined c.loop-ty.all c.ty-item.result.dims) (dims_of (drop (c.loop-ty.ty-index + 1) c.args.args.now)) c.from_residual.ensures.1 given in
    let there = subst (λ (t : Ty). GivesDims c.from_residual.result (Ok (joined_with (joined c.loop-ty.all t.dims) (dims_of (drop (c.loop-ty.ty-index + 1) c.args.args.now))))) c.ty-item.is more in
    subst (λ ds. GivesDims c.from_residual.result (Ok ds)) whole there
