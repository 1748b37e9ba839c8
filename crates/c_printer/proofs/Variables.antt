-- The variables of a table, from the names in it.
use Rattle.std.proofs.Common.{◌≡◌, ◌≢◌, ℕ, ◌==◌, if◌then◌else◌, zero, suc, true, false, List, [], ◌∷◌, map, slice_get, Option, Some, None, refl, sym, ap, ◌∙◌, inl, inr}
use Rattle.std.specs.Option.{option_map_or, option_and_then}
use Rattle.std.specs.Str.{bytes_eq}
use Rattle.lf_base.specs.declared.id.SymId.{SymId}
use Rattle.lf_base.specs.declared.id.TableId.{TableId}
use Rattle.symtab_arena.specs.Links.{Linked}
use Rattle.symtab_arena.specs.Names.{Names, named, AreDistinct}
use Rattle.symtab_arena.specs.Scopes.{symbol_at, symbol_in, names_in}
use Rattle.symtab_arena.specs.declared.table.Symbol.{Symbol as Entry}
use Rattle.symtab_arena.proofs.CountLemmas.{named_in_place}
use Rattle.symtab_arena.proofs.EntryLemmas.{none_some}
use Rattle.symtab_arena.proofs.LinkLemmas.{some_is}
use Rattle.symtab_arena.proofs.NameLemmas.{same_name_or, named_at, named_past}
use Rattle.asr_nodes.specs.Nodes.{Nodes, Sound, expr_tree}
use Rattle.asr_nodes.specs.Reading.{Path, type_node}
use Rattle.asr_nodes.specs.Units.{path, symbol_node, each_entry, symbol_trees}
use Rattle.asr_nodes.specs.declared.code.TheConstants.{SAVED}
use Rattle.asr_nodes.specs.declared.node.Symbol.{Symbol}
use Rattle.asr_nodes.specs.declared.node.Symbol.TheVariants as y
use Rattle.asr_nodes.specs.declared.tree.StmtTree.{StmtTree}
use Rattle.asr_nodes.specs.declared.tree.SymbolTree.{SymbolTree, SymbolTree-F, fold-roll-SymbolTree}
use Rattle.asr_nodes.specs.declared.tree.SymbolTree.TheVariants as tree
use Rattle.asr_nodes.proofs.Nested.{symbols_are}
use Rattle.c_printer.specs.Files.{Variable, variable_of, variable_layer, type_in, saved, saved_where}
use Rattle.c_printer.specs.Units.{variables_in, symbol_type, symbol_variable, variable_at, saved_names}
use Rattle.c_printer.specs.declared.scalar.ScalarType.TheVariants.{Integer4}
use Rattle.c_printer.proofs.Nodes.{variable-is}

-- other symbols are no variables
no_function : (name : List ℕ) (access : ℕ) (dummies : List Path) (result : Option Path) (simple : ℕ) (symbols : List SymbolTree) (body : List StmtTree)
    → variable_of (tree.Function name access dummies result simple symbols body) ≡ None
no_function name access dummies result simple symbols body =
    ap variable_of (sym (tree.rolls-Function name access dummies result simple symbols body))
    ∙ fold-roll-SymbolTree (Option Variable) variable_layer (SymbolTree-F.Function name access dummies result simple symbols body)

no_struct : (name : List ℕ) (access : ℕ) (symbols : List SymbolTree) → variable_of (tree.Struct name access symbols) ≡ None
no_struct name access symbols =
    ap variable_of (sym (tree.rolls-Struct name access symbols)) ∙ fold-roll-SymbolTree (Option Variable) variable_layer (SymbolTree-F.Struct name access symbols)

no_generic : (name : List ℕ) (access : ℕ) (specifics : List Path) → variable_of (tree.Generic name access specifics) ≡ None
no_generic name access specifics =
    ap variable_of (sym (tree.rolls-Generic name access specifics)) ∙ fold-roll-SymbolTree (Option Variable) variable_layer (SymbolTree-F.Generic name access specifics)

no_external : (name : List ℕ) (access : ℕ) (home original : List ℕ) → variable_of (tree.External name access home original) ≡ None
no_external name access home original =
    ap variable_of (sym (tree.rolls-External name access home original)) ∙ fold-roll-SymbolTree (Option Variable) variable_layer (SymbolTree-F.External name access home original)

module _ (a : Nodes) where
  abbrev here : Entry Symbol → Option SymbolTree
  here e = symbol_node a (symbol_trees a) e.name e.what

  node_variable : (name : List ℕ) (x : Symbol) → option_and_then variable_of (symbol_node a (symbol_trees a) name x) ≡ symbol_variable a name x
  node_variable name (y.Program source deps table body) = refl
  node_variable name (y.Module source deps table) = refl
  node_variable name (y.Function access dummies result simple table body) = no_function name access _ _ simple _ _
  node_variable name (y.Variable access ty storage intent init) = variable-is name access (type_node (path a) ty) storage intent (map (expr_tree a (path a)) init)
  node_variable name (y.Struct access table) = no_struct name access _
  node_variable name (y.Generic access specifics) = no_generic name access _
  node_variable name (y.External access home original) = no_external name access home original

  -- what goes over the variables of a list, and passes over all else
  module _ {B : Type 0} (f : List (Option Variable) → B) (skip : (vs : List (Option Variable)) → f (None ∷ vs) ≡ f vs)
      (more : (v : Variable) (vs ws : List (Option Variable)) → f vs ≡ f ws → f (Some v ∷ vs) ≡ f (Some v ∷ ws)) where
    behind : (w : Option Variable) (vs ws : List (Option Variable)) → f vs ≡ f ws → f (w ∷ vs) ≡ f (w ∷ ws)
    behind None vs ws e = skip vs ∙ e ∙ sym (skip ws)
    behind (Some v) vs ws e = more v vs ws e

    one : (o : Option SymbolTree) (w : Option Variable) (ts : List SymbolTree) (ws : List (Option Variable)) → option_and_then variable_of o ≡ w → f (map variable_of ts) ≡ f ws
        → f (map variable_of (option_map_or (λ s. s ∷ ts) o ts)) ≡ f (w ∷ ws)
    one None w ts ws q e = e ∙ sym (skip ws) ∙ ap (λ v. f (v ∷ ws)) q
    one (Some s) w ts ws q e = behind (variable_of s) (map variable_of ts) ws e ∙ ap (λ v. f (v ∷ ws)) q

    one_entry : (o : Option (Entry Symbol)) (ts : List SymbolTree) (ws : List (Option Variable)) → f (map variable_of ts) ≡ f ws
        → f (map variable_of (option_map_or (λ e. option_map_or (λ s. s ∷ ts) (here e) ts) o ts)) ≡ f (option_and_then (λ e. symbol_variable a e.name e.what) o ∷ ws)
    one_entry None ts ws e = e ∙ sym (skip ws)
    one_entry (Some it) ts ws e = one (here it) (symbol_variable a it.name it.what) ts ws (node_variable it.name it.what) e

    each : (names : Names) → f (map variable_of (each_entry a here (map (λ e. symbol_at a.scopes e.1) names))) ≡ f (map (λ e. variable_at a e.1) names)
    each [] = refl
    each (n ∷ names) = one_entry (symbol_at a.scopes n.1) (each_entry a here (map (λ e. symbol_at a.scopes e.1) names)) (map (λ e. variable_at a e.1) names) (each names)

    pub in_table : Linked a.scopes → Sound a → (table : TableId) → f (variables_in a table) ≡ f (map (λ e. variable_at a e.1) (names_in a.scopes table))
    in_table links h table = ap (λ ts. f (map variable_of ts)) (symbols_are a links h table) ∙ each (names_in a.scopes table)

  -- the saved variables of a table
  pub saved_are : Linked a.scopes → Sound a → (table : TableId) → saved (variables_in a table) ≡ saved_names a (names_in a.scopes table)
  saved_are = in_table saved (λ vs. refl) (λ v vs ws e. ap (saved_where (v.storage == SAVED) v) e)

  -- the symbols that are listed are live and have these names
  abbrev Listed : Names → Type 0
  Listed names = (i : ℕ) (e : List ℕ × SymId) → slice_get names i ≡ Some e → (it : Entry Symbol) × (symbol_at a.scopes e.1 ≡ Some it) × (it.name ≡ e.0)

  listed_in : Linked a.scopes → (table : TableId) → Listed (names_in a.scopes table)
  listed_in links table i e at =
      let it = links.lists table e.0 e.1 (named_in_place (names_in a.scopes table) (links.distinct table) i e at) in
      (it.symbol, it.live, it.has_name)

  module _ (own : List ℕ) where
    -- the symbol of another name is passed over
    past : (name : List ℕ) (x : Symbol) (vs : List (Option Variable)) → bytes_eq name own ≡ false → type_in (symbol_variable a name x ∷ vs) own ≡ type_in vs own
    past name (y.Program source deps table body) vs e = refl
    past name (y.Module source deps table) vs e = refl
    past name (y.Function access dummies result simple table body) vs e = refl
    past name (y.Variable access ty storage intent init) vs e = ap (λ b. if b then symbol_type (path a) (y.Variable access ty storage intent init) else type_in vs own) e
    past name (y.Struct access table) vs e = refl
    past name (y.Generic access specifics) vs e = refl
    past name (y.External access home original) vs e = refl

    -- and that of this name counts
    first : (name : List ℕ) (x : Symbol) (vs : List (Option Variable)) → bytes_eq name own ≡ true → type_in vs own ≡ Integer4 → type_in (symbol_variable a name x ∷ vs) own ≡ symbol_type (path a) x
    first name (y.Program source deps table body) vs e none = none
    first name (y.Module source deps table) vs e none = none
    first name (y.Function access dummies result simple table body) vs e none = none
    first name (y.Variable access ty storage intent init) vs e none = ap (λ b. if b then symbol_type (path a) (y.Variable access ty storage intent init) else type_in vs own) e
    first name (y.Struct access table) vs e none = none
    first name (y.Generic access specifics) vs e none = none
    first name (y.External access home original) vs e none = none

    past_entry : (e : List ℕ × SymId) (it : Entry Symbol) (vs : List (Option Variable)) → symbol_at a.scopes e.1 ≡ Some it → it.name ≡ e.0 → own ≢ e.0
        → type_in (variable_at a e.1 ∷ vs) own ≡ type_in vs own
    past_entry e it vs live called other =
        ap (λ o. type_in (option_and_then (λ e. symbol_variable a e.name e.what) o ∷ vs) own) live
        ∙ elim (same_name_or it.name own) [ inl p ↦ absurd (other (sym p.1 ∙ called)) | inr p ↦ past it.name it.what vs p.0 ]

    absent : (names : Names) → Listed names → named own names ≡ None → type_in (map (λ e. variable_at a e.1) names) own ≡ Integer4
    absent [] k none = refl
    absent (e ∷ es) k none =
        let it = k zero e refl in
        let later = absent es (λ i. k (suc i)) in
        elim (same_name_or own e.0) [
          | inl p ↦ absurd (none_some e.1 (sym none ∙ named_at own e es p.1))
          | inr p ↦ past_entry e it.0 (map (λ e. variable_at a e.1) es) it.1 it.2 p.1 ∙ later (sym (named_past own e es p.1) ∙ none)
        ]

    present : (names : Names) → Listed names → AreDistinct names → (s : SymId) (it : Entry Symbol) → named own names ≡ Some s → symbol_at a.scopes s ≡ Some it
        → type_in (map (λ e. variable_at a e.1) names) own ≡ symbol_type (path a) it.what
    present [] k d s it called live = absurd (none_some s called)
    present (e ∷ es) k d s it called live =
        let z = k zero e refl in
        let later = present es (λ i. k (suc i)) d.1 s it in
        let rest = absent es (λ i. k (suc i)) in
        elim (same_name_or own e.0) [
          | inl p ↦
              let same = some_is e.1 s (sym (named_at own e es p.1) ∙ called) in
              let entry = some_is z.0 it (sym z.1 ∙ ap (symbol_at a.scopes) same ∙ live) in
              ap (λ o. type_in (option_and_then (λ e. symbol_variable a e.name e.what) o ∷ map (λ e. variable_at a e.1) es) own) z.1
              ∙ elim (same_name_or z.0.name own) [
                | inl q ↦ first z.0.name z.0.what (map (λ e. variable_at a e.1) es) q.0 (rest (ap (λ n. named n es) p.1 ∙ d.0))
                | inr q ↦ absurd (q.1 (z.2 ∙ sym p.1))
              ]
              ∙ ap (λ (x : Entry Symbol). symbol_type (path a) x.what) entry
          | inr p ↦ past_entry e z.0 (map (λ e. variable_at a e.1) es) z.1 z.2 p.1 ∙ later (sym (named_past own e es p.1) ∙ called) live
        ]

  -- the type of a symbol of a table is found by its name
  pub type_found : Linked a.scopes → Sound a → (table : TableId) (s : SymId) (it : Entry Symbol) → symbol_at a.scopes s ≡ Some it → it.table ≡ table
      → type_in (variables_in a table) it.name ≡ symbol_type (path a) it.what
  type_found links h table s it live stands =
      in_table (λ vs. type_in vs it.name) (λ vs. refl) (λ v vs ws e. ap (λ t. if bytes_eq v.name it.name then v.ty else t) e) links h table
      ∙ present it.name (names_in a.scopes table) (listed_in links table) (links.distinct table) s it
      (ap (λ t. symbol_in a.scopes t it.name) (sym stands) ∙ links.stands s it live) live
