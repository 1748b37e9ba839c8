use Rattle.std.proofs.Common.{◌≡◌, rules, arith, ◌∙◌, sym, ap, take, drop, length, ◌-◌, nat_eq}
use Rattle.std.proofs.lemmas.List.{length-drop, take_all}
use Rattle.std.specs.List.{starts_with}
use Rattle.type_rules.proofs.Texts.{place_of_empty, place_step}
use Rattle.type_rules.proofs.character.place.Goals as goal

pub returns-then-is_empty : goal.returns-then-is_empty
returns-then-is_empty c = place_of_empty c.args.part.now c.args.text.now (search rules)

pub loop-i-preserved : goal.loop-i-preserved
loop-i-preserved c =
    let text = c.args.text.now in
    let i = c.loop-i.i in
    let whole : take (length text - i) (drop i text) ≡ drop i text = take_all _ _ (simp length-drop (omega arith)) in
    let tested = ap (λ xs. starts_with nat_eq xs c.args.part.now) (sym whole) ∙ sym c.starts_with.ensures.value ∙ c.if-starts_with.false in
    record {
      same = place_step c.args.part.now text i (omega arith) tested ∙ c.loop-i.invariant.same;
      some = c.loop-i.invariant.some;
    }
