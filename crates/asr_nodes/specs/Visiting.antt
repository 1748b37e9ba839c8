-- What a visit has still to come to, as its stack holds it.
use Rattle.std.specs.Prelude.{ℕ, List, [], ◌∷◌, ◌++◌, map, drop, Option, Some, None}
use Rattle.std.specs.Option.{option_map_or}
use Rattle.lf_base.specs.declared.id.SymId.{SymId}
use Rattle.lf_base.specs.declared.id.TableId.{TableId}
use Rattle.symtab_arena.specs.Scopes.{names_in, owned_by}
use Rattle.asr_nodes.specs.Keys.{Key, expr, stmt, Node, exprs, stmts, perhaps, chained}
use Rattle.asr_nodes.specs.Nodes.{Nodes, node_at}
use Rattle.asr_nodes.specs.Parts.{parts, section_part_parts, array_item_parts, print_item_parts, case_parts}
use Rattle.asr_nodes.specs.Visits.{symbols_of, symbols_below}
use Rattle.asr_nodes.specs.Walks.{made}
use Rattle.asr_nodes.specs.declared.symbol_visit.Turn.{Turn}
use Rattle.asr_nodes.specs.declared.visit.pending.Pending.{Pending}
use Rattle.asr_nodes.specs.declared.visit.pending.Pending.TheVariants as pending
use Rattle.asr_nodes.specs.declared.visit.piece.Piece.{Piece}
use Rattle.asr_nodes.specs.declared.visit.piece.Piece.TheVariants as piece

abbrev pub first_key : Pending → Key
first_key (pending.Expr id) = expr id
first_key (pending.Stmts first more) = stmt first

abbrev pub keys_behind : Pending → List Key
keys_behind (pending.Expr id) = []
keys_behind (pending.Stmts first more) = stmts more.now

abbrev pub pending_keys : Pending → List Key
pending_keys p = first_key p ∷ keys_behind p

-- the keys of a list, the first in front
abbrev pub keys_of : List Pending → List Key
keys_of ps = chained (map pending_keys ps)

-- the keys of a stack, whose last stands on top and comes next
abbrev pub to_come : List Pending → List Key
to_come [] = []
to_come (p ∷ ps) = to_come ps ++ pending_keys p

-- the parts of a node that stand in one field
abbrev pub piece_keys : Piece → List Key
piece_keys piece.Nothing = []
piece_keys (piece.Expr id) = expr id ∷ []
piece_keys (piece.Maybe id) = perhaps id
piece_keys (piece.Exprs ids) = exprs ids.now
piece_keys (piece.Stmts ids) = stmts ids.now
piece_keys (piece.Sections items) = chained (map section_part_parts items.now)
piece_keys (piece.Values items) = chained (map array_item_parts items.now)
piece_keys (piece.Outputs items) = chained (map print_item_parts items.now)
piece_keys (piece.Cases blocks) = chained (map case_parts blocks.now)

-- those of several fields, behind some keys
abbrev pub behind : List Key → List Piece → List Key
behind keys [] = keys
behind keys (p ∷ ps) = behind (keys ++ piece_keys p) ps

-- the parts of the node that stands at a key
abbrev pub parts_at : Nodes → Key → List Key
parts_at a key = made (parts key) [] (node_at a key)

module _ (a : Nodes) where
  -- the symbols of a table from a place on, each with those of its own table
  abbrev pub symbols_from : TableId → ℕ → List SymId
  symbols_from t place = symbols_of a (symbols_below a) (drop place (names_in a.scopes t))

  -- those of the table that a symbol owns
  abbrev pub own_symbols : SymId → List SymId
  own_symbols id = option_map_or (symbols_below a) (owned_by a.scopes id) []

  -- a symbol, and what comes behind it up to the end of its table
  abbrev pub turn_symbols : Turn → List SymId
  turn_symbols turn = turn.symbol ∷ (own_symbols turn.symbol ++ symbols_from turn.table turn.place)

  abbrev pub turn_or_none : Option Turn → List SymId
  turn_or_none None = []
  turn_or_none (Some turn) = turn_symbols turn

  -- the symbols of a stack, whose last stands on top and comes next
  abbrev pub turns_to_come : List Turn → List SymId
  turns_to_come [] = []
  turns_to_come (t ∷ ts) = turns_to_come ts ++ turn_symbols t

abbrev pub turn_list : Option Turn → List Turn
turn_list None = []
turn_list (Some turn) = turn ∷ []
