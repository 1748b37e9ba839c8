use Rattle.std.specs.Option.{option_map_or}
use Rattle.symtab_arena.specs.Scopes.{table_of}
use Rattle.c_printer.proofs.names.+append_path.Given as goal

-- the number of the table around it is smaller
abbrev pub decreases-append_path : goal.decreases-append_path
decreases-append_path l = option_map_or (λ t. t.0) (table_of l.arena.now l.symbol) 0
