use Rattle.std.proofs.Common.{sym, ap, ◌∙◌}
use Rattle.asr_nodes.proofs.Missing.{refuted}
use Rattle.c_printer.specs.Lowering.{give}
use Rattle.c_printer.specs.Places.{place_of}
use Rattle.c_printer.specs.Values.{Expression}
use Rattle.c_printer.proofs.Laid.{place_found, missing_is}
use Rattle.c_printer.proofs.places.place.Goals as goal

pub returns-then-has_expr : goal.returns-then-has_expr
returns-then-has_expr c = λ here.
    place_found c.args.scope.now c.asr-asr.result.now c.args.id _ c.asr-asr.ensures c.expr.ensures.tree here
    ∙ ap (λ s. give (place_of c.args.scope.now s)) (sym c.spot_at.ensures)

pub returns-else-has_expr : goal.returns-else-has_expr
returns-else-has_expr c = λ here. ap (λ (x : Expression). x.place here) (missing_is c.args.scope.now c.asr-asr.result.now c.args.id c.asr-asr.ensures (refuted _ c.has_expr.ensures c.if-has_expr.false))
