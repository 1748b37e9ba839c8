-- What an arena ends as, where a `&mut` to what a symbol stands for is lent.
use Rattle.std.specs.Prelude.{Option}
use Rattle.std.specs.Borrow.{Lends, Fml, RattleType, MutBor}
use Rattle.std.specs.Option.{option_map}
use Rattle.std.specs.contracts.option.Option as option
use Rattle.lf_base.specs.declared.id.SymId.{SymId}
use Rattle.symtab_arena.specs.Changes.{standing_for, replaced_in}
use Rattle.symtab_arena.specs.Scopes.{Scopes}
use Rattle.symtab_arena.specs.contracts.arena.Arena as arena
use Rattle.symtab_arena.specs.contracts.table.Symbol as symbol
use Rattle.symtab_arena.specs.declared.table.Symbol.{Symbol}

module _ (K : RattleType) where
  -- once the borrow r ends, the symbol at the place stands for what was last written through r
  abbrev pub lends_place : MutBor (Option (Symbol K.Denot)) → MutBor K.Denot → Fml
  lends_place place r = Lends (option.the_row (symbol.the_row K)) K place r (λ w. option_map (standing_for w) place.now)

  -- the same of an arena
  abbrev pub lends_what : MutBor (Scopes K.Denot) → SymId → MutBor K.Denot → Fml
  lends_what a s r = Lends (arena.the_row K) K a r (replaced_in a.now s)
