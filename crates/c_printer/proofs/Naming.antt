-- The names of a path, one behind another.
use Rattle.std.proofs.Common.{◌≡◌, ℕ, zero, suc, ◌<◌, arith, List, [], ◌∷◌, ◌++◌, codes, length, Some, None, sym, ap, ◌∙◌, append-nil, append_assoc}
use Rattle.std.specs.Fmt.{decimal}
use Rattle.std.specs.Option.{option_map_or}
use Rattle.lf_base.specs.declared.id.SymId.{SymId}
use Rattle.lf_base.specs.declared.id.TableId.{TableId}
use Rattle.symtab_arena.specs.Links.{Linked}
use Rattle.symtab_arena.specs.Paths.{path_of, path_within}
use Rattle.symtab_arena.specs.Scopes.{Scopes, symbol_at, owner_of, table_of, name_of}
use Rattle.symtab_arena.specs.declared.table.Symbol.{Symbol}
use Rattle.symtab_arena.proofs.EntryLemmas.{there_within}
use Rattle.asr_nodes.specs.Reading.{Path}
use Rattle.asr_nodes.proofs.PathTexts.{path_inside, seen, name_seen}
use Rattle.c_printer.specs.Names.{name_part, name_parts}

-- three pieces more
pub part_appended : (text name : List ℕ) → (((text ++ codes "_") ++ decimal (length name)) ++ codes "_") ++ name ≡ text ++ name_part name
part_appended text name =
    append_assoc ((text ++ codes "_") ++ decimal (length name)) (codes "_") name
    ∙ append_assoc (text ++ codes "_") (decimal (length name)) (codes "_" ++ name)
    ∙ append_assoc text (codes "_") (decimal (length name) ++ (codes "_" ++ name))

pub parts_last : (path : Path) (name : List ℕ) → name_parts (path ++ name ∷ []) ≡ name_parts path ++ name_part name
parts_last [] name = append-nil (name_part name)
parts_last (x ∷ path) name = ap (λ t. name_part x ++ t) (parts_last path name) ∙ sym (append_assoc (name_part x) (name_parts path) (name_part name))

module _ {K : Type 0} (a : Scopes K) (links : Linked a) where
  lone_within : (n : ℕ) (s : SymId) (y : Symbol K) → 0 < n → symbol_at a s ≡ Some y → owner_of a y.table ≡ None → path_within a n s ≡ y.name ∷ []
  lone_within zero s y more live none = absurd (omega arith)
  lone_within (suc n) s y more live none =
      ap (λ o. option_map_or (λ (x : Symbol K). option_map_or (path_within a n) (owner_of a x.table) [] ++ x.name ∷ []) o []) live
      ∙ ap (λ o. option_map_or (path_within a n) o [] ++ y.name ∷ []) none

  -- the path of a symbol with none around it
  pub path_lone : (s : SymId) (t : TableId) (name : List ℕ) → table_of a s ≡ Some t → owner_of a t ≡ None → name_of a s ≡ Some name → path_of a s ≡ name ∷ []
  path_lone s t name e none called =
      let y = seen a links s t e in
      let root = there_within a.tables 0 links.root in
      lone_within (length a.tables) s y.entry (omega (arith, root)) y.live (ap (owner_of a) y.table ∙ none)
      ∙ ap (λ n. n ∷ []) (name_seen a links s y.entry name y.live called)

  -- the path of a symbol in the outermost scope, behind other text
  pub alone_appended : (text : List ℕ) (s : SymId) (t : TableId) (name : List ℕ) → table_of a s ≡ Some t → owner_of a t ≡ None → name_of a s ≡ Some name
      → text ++ name_part name ≡ text ++ name_parts (path_of a s)
  alone_appended text s t name e none called = ap (λ p. text ++ p) (sym (append-nil (name_part name)) ∙ sym (ap name_parts (path_lone s t name e none called)))

  -- and of one in another
  pub inside_appended : (text : List ℕ) (s o : SymId) (t : TableId) (name : List ℕ) → table_of a s ≡ Some t → owner_of a t ≡ Some o → name_of a s ≡ Some name
      → (text ++ name_parts (path_of a o)) ++ name_part name ≡ text ++ name_parts (path_of a s)
  inside_appended text s o t name e owns called =
      append_assoc text (name_parts (path_of a o)) (name_part name)
      ∙ ap (λ p. text ++ p) (sym (parts_last (path_of a o) name) ∙ sym (ap name_parts (path_inside a links s o t name e owns called)))
