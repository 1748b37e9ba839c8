use Rattle.std.proofs.Common.{sym, ◌∙◌}
use Rattle.ast_nodes.proofs.Chains.{prints_none, prints_more}
use Rattle.asr_nodes.proofs.PathTexts.{path_alone, path_inside, path_begins, within, front_alone, front_inside}
use Rattle.asr_nodes.proofs.print.path.+put_front.Goals as goal

pub returns-in-None : goal.returns-in-None
returns-in-None g t c =
    let alone = path_alone c.args.arena.now c.linked.ensures c.args.symbol _ c.table_of.ensures (sym c.owner.ensures ∙ c.in-None.is) in
    rw (front_alone _ alone.0 alone.1) (prints_none _ _ _ _ _ _ _)

pub returns-in-Some : goal.returns-in-Some
returns-in-Some g t c =
    let owns = sym c.owner.ensures ∙ c.in-Some.is in
    let around = within c.args.arena.now c.linked.ensures c.args.symbol _ _ c.table_of.ensures owns in
    let front = path_begins c.args.arena.now c.linked.ensures _ _ around.table_is in
    rw (front_inside _ _ front.0 front.1 _ (path_inside c.args.arena.now c.linked.ensures c.args.symbol _ _ _ c.table_of.ensures owns c.name_of.ensures) front.2)
    (prints_more _ _ _ _ _ _ _ _ _ _ _ _ _ c.put_front-ended.ensures (prints_more _ _ _ _ _ _ _ _ _ _ _ _ _ c.put_pointed.ensures (prints_none _ _ _ _ _ _ _)))
