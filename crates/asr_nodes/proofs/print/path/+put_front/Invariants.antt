use Rattle.std.specs.Option.{option_map_or}
use Rattle.symtab_arena.specs.Scopes.{table_of}
use Rattle.asr_nodes.proofs.print.path.+put_front.Given as goal

-- the number of the table around it is smaller
abbrev pub decreases-put_front : goal.decreases-put_front
decreases-put_front g l = option_map_or (λ t. t.0) (table_of l.arena.now l.symbol) 0
