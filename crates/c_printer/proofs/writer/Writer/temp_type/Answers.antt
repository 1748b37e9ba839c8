use Rattle.c_printer.proofs.Temps.{type_found}
use Rattle.std.proofs.Common.{Some, None, rules}
use Rattle.c_printer.proofs.writer.Writer.temp_type.Goals as goal

pub returns-in-Some : goal.returns-in-Some
returns-in-Some c = type_found c.args.number c.args.self.now.temps (Some c.in-Some.ty.now) (search rules)

pub returns-in-None : goal.returns-in-None
returns-in-None c = type_found c.args.number c.args.self.now.temps None (search rules)
