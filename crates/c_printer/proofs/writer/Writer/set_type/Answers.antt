use Rattle.std.proofs.Common.{◌==◌, cond, ap, ◌∙◌}
use Rattle.c_printer.specs.Writing.{temp_type}
use Rattle.c_printer.proofs.Temps.{type_put}
use Rattle.c_printer.proofs.writer.Writer.set_type.Goals as goal

pub returns : goal.returns
returns c = (ap (λ w. w.lines) c.self.view_is, ap (λ w. w.values) c.self.view_is, λ n. type_put c.args.number c.args.ty c.self.inside.temps.entries _ c.in-Ok.ensures.updates.0 n ∙ ap (λ w. cond (n == c.args.number) c.args.ty (temp_type w.temps n)) c.self.view_is)
