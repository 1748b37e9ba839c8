-- Other symbols over the same expressions and statements.
use Rattle.std.proofs.Common.{◌≡◌, ◌≢◌, ℕ, zero, suc, Bool, true, false, if◌then◌else◌, ◌==◌, List, [], ◌∷◌, ◌++◌, length, Option, Some, None, is_some, IfSome, Result, Ok, Err, refl, sym, ap, subst, ◌∙◌, true≢false, ◌⊎◌, inl, inr}
use Rattle.std.proofs.lemmas.Bool.Decides.{eqb_tells}
use Rattle.std.specs.Option.{option_map, option_map_or}
use Rattle.lf_base.specs.declared.id.SymId.{SymId}
use Rattle.lf_base.specs.declared.id.TableId.{TableId}
use Rattle.symtab_arena.specs.Answers.{MayDeclare, Declares}
use Rattle.symtab_arena.specs.Changes.{declared_in, owner_declared_in, replaced_in, standing_for}
use Rattle.symtab_arena.specs.Links.{Linked}
use Rattle.symtab_arena.specs.Scopes.{Scopes, HasTable, IsLive, symbol_id, symbol_at, names_in, next_symbol, next_table, owner_of, what_of}
use Rattle.symtab_arena.specs.Paths.{path_of, path_within}
use Rattle.symtab_arena.specs.declared.fault.ArenaFault.{ArenaFault}
use Rattle.symtab_arena.specs.declared.table.Symbol.{Symbol as Entry}
use Rattle.symtab_arena.proofs.Callers.{declared_new, declared_other, owner_declared_new, owner_declared_other, replaced_new, replaced_other, declared_path, owner_declared_path}
use Rattle.asr_nodes.specs.Nodes.{Nodes, Sound, there}
use Rattle.asr_nodes.specs.Symbols.{table_in, with_table, is_unit, symbol_parts, with_symbol, IsLike, KeepsPaths}
use Rattle.asr_nodes.specs.declared.node.Symbol.{Symbol}
use Rattle.asr_nodes.specs.declared.node.Symbol.TheVariants.{Program, Module, Function, Variable, Struct, Generic, External}

-- a node with another table names that, and is the same otherwise
pub named_table : (t : TableId) (x : Symbol) → is_some (table_in x) ≡ true → table_in (with_table t x) ≡ Some t
named_table t (Program source deps table body) e = refl
named_table t (Module source deps table) e = refl
named_table t (Function access dummies result simple table body) e = refl
named_table t (Variable access ty storage intent init) e = absurd (true≢false (sym e))
named_table t (Struct access table) e = refl
named_table t (Generic access specifics) e = absurd (true≢false (sym e))
named_table t (External access home original) e = absurd (true≢false (sym e))

pub same_parts : (t : TableId) (x : Symbol) → symbol_parts (with_table t x) ≡ symbol_parts x
same_parts t (Program source deps table body) = refl
same_parts t (Module source deps table) = refl
same_parts t (Function access dummies result simple table body) = refl
same_parts t (Variable access ty storage intent init) = refl
same_parts t (Struct access table) = refl
same_parts t (Generic access specifics) = refl
same_parts t (External access home original) = refl

pub same_unit : (t : TableId) (x : Symbol) → is_unit (with_table t x) ≡ is_unit x
same_unit t (Program source deps table body) = refl
same_unit t (Module source deps table) = refl
same_unit t (Function access dummies result simple table body) = refl
same_unit t (Variable access ty storage intent init) = refl
same_unit t (Struct access table) = refl
same_unit t (Generic access specifics) = refl
same_unit t (External access home original) = refl

no_table : (x : Symbol) → is_some (table_in x) ≡ false → table_in x ≡ None
no_table x e = by (table_in x) e
  where
    by : (o : Option TableId) → is_some o ≡ false → o ≡ None
    by None h = refl
    by (Some t) h = absurd (true≢false h)

-- what holds of each symbol
pub record Fits (a : Nodes) (it : Entry Symbol) : Type 0 where
  pub owned : it.owned ≡ table_in it.what
  pub unit : is_unit it.what ≡ (it.table.0 == 0)
  pub parts : there a (symbol_parts it.what) ≡ true

pub fits : (a : Nodes) → Sound a → (id : SymId) (it : Entry Symbol) → symbol_at a.scopes id ≡ Some it → Fits a it
fits a h id it e = record { owned = h.owned id it e; unit = h.units id it e; parts = h.named id it e }

pub all_fit : (a : Nodes) → Sound a → (sc : Scopes Symbol) → ((id : SymId) (it : Entry Symbol) → symbol_at sc id ≡ Some it → Fits a it) → Sound (record a { scopes = sc })
all_fit a h sc f = record {
  founded = h.founded;
  owned = λ id it e. (f id it e).owned;
  units = λ id it e. (f id it e).unit;
  named = λ id it e. (f id it e).parts;
}

same_or : (s u : SymId) → (s ≡ u) ⊎ (s ≢ u)
same_or s u = elim (eqb_tells s.0 u.0) as (λ _. (s ≡ u) ⊎ (s ≢ u)) [ inl p ↦ inl (ap symbol_id p.1) | inr p ↦ inr (λ e. p.1 (ap (λ (v : SymId). v.0) e)) ]

some_same : {A : Type 0} (x y : A) → Some x ≡ Some y → x ≡ y
some_same x y e = cc

module _ (a : Nodes) (h : Sound a) (t : TableId) (name : List ℕ) (x : Symbol) (links : Linked a.scopes) (here : HasTable a.scopes t) (root : is_unit x ≡ (t.0 == 0)) (parts : there a (symbol_parts x) ≡ true) (may : MayDeclare a.scopes t name) where
  abbrev plain : Scopes Symbol
  plain = declared_in a.scopes t (length (names_in a.scopes t)) name x

  abbrev owner : Scopes Symbol
  owner = owner_declared_in a.scopes t (length (names_in a.scopes t)) name (with_table (next_table a.scopes) x)

  plain_fits : is_some (table_in x) ≡ false → (id : SymId) (it : Entry Symbol) → symbol_at plain id ≡ Some it → Fits a it
  plain_fits k id it e =
      elim (same_or id (next_symbol a.scopes)) as (λ _. Fits a it) [
        | inl p ↦
            subst (Fits a)
            (some_same _ it (sym (declared_new a.scopes t (length (names_in a.scopes t)) name x links here may) ∙ ap (symbol_at plain) (sym p) ∙ e))
            (record { owned = sym (no_table x k); unit = root; parts = parts })
        | inr d ↦ fits a h id it (sym (declared_other a.scopes t (length (names_in a.scopes t)) name x links here may id d) ∙ e)
      ]

  owner_fits : is_some (table_in x) ≡ true → (id : SymId) (it : Entry Symbol) → symbol_at owner id ≡ Some it → Fits a it
  owner_fits k id it e =
      elim (same_or id (next_symbol a.scopes)) as (λ _. Fits a it) [
        | inl p ↦
            subst (Fits a)
            (some_same _ it (sym (owner_declared_new a.scopes t (length (names_in a.scopes t)) name (with_table (next_table a.scopes) x) links here may) ∙ ap (symbol_at owner) (sym p) ∙ e))
            (record {
              owned = sym (named_table (next_table a.scopes) x k);
              unit = same_unit (next_table a.scopes) x ∙ root;
              parts = ap (there a) (same_parts (next_table a.scopes) x) ∙ parts;
            })
        | inr d ↦ fits a h id it (sym (owner_declared_other a.scopes t (length (names_in a.scopes t)) name (with_table (next_table a.scopes) x) links here may id d) ∙ e)
      ]

  pub plain_sound : is_some (table_in x) ≡ false → Sound (record a { scopes = plain })
  plain_sound k = all_fit a h plain (plain_fits k)

  pub owner_sound : is_some (table_in x) ≡ true → Sound (record a { scopes = owner })
  owner_sound k = all_fit a h owner (owner_fits k)

-- what stands for a symbol is replaced
module _ (a : Nodes) (h : Sound a) (id : SymId) (x : Symbol) (like : IfSome (what_of a.scopes id) (λ old. IsLike old x)) (parts : there a (symbol_parts x) ≡ true) where
  replaced_fits : (y : Entry Symbol) → symbol_at a.scopes id ≡ Some y → (u : SymId) (it : Entry Symbol) → symbol_at (replaced_in a.scopes id x) u ≡ Some it → Fits a it
  replaced_fits y was u it e =
      elim (same_or u id) as (λ _. Fits a it) [
        | inl p ↦
            let same : IsLike y.what x = subst (λ o. IfSome (option_map (λ (z : Entry Symbol). z.what) o) (λ old. IsLike old x)) was like in
            let old = fits a h id y was in
            subst (Fits a)
            (some_same (standing_for x y) it (sym (replaced_new a.scopes id y x was) ∙ ap (symbol_at (replaced_in a.scopes id x)) (sym p) ∙ e))
            (record { owned = old.owned ∙ sym same.table; unit = same.unit ∙ old.unit; parts = parts })
        | inr d ↦ fits a h u it (sym (replaced_other a.scopes id y x was u d) ∙ e)
      ]

  pub replaced_sound : IsLive a.scopes id → Sound (record a { scopes = replaced_in a.scopes id x })
  replaced_sound live = by (symbol_at a.scopes id) refl live
    where
      by : (o : Option (Entry Symbol)) → symbol_at a.scopes id ≡ o → is_some o ≡ true → Sound (record a { scopes = replaced_in a.scopes id x })
      by None was l = absurd (true≢false (sym l))
      by (Some y) was l = all_fit a h (replaced_in a.scopes id x) (replaced_fits y was)

-- as the code has it: other symbols, and the other fields of the old value
module _ (old inside : Nodes) (v : inside ≡ old) (h : Sound inside) (x : Symbol) (parts : there old (symbol_parts x) ≡ true) where
  parts_inside : there inside (symbol_parts x) ≡ true
  parts_inside = subst (λ o. there o (symbol_parts x) ≡ true) (sym v) parts

  module _ (t : TableId) (name : List ℕ) (links : Linked inside.scopes) (here : HasTable old.scopes t) (root : is_unit x ≡ (t.0 == 0)) (sc : Scopes Symbol) where
    here_inside : HasTable inside.scopes t
    here_inside = subst (λ (o : Nodes). HasTable o.scopes t) (sym v) here

    pub after_plain : (r : Result SymId ArenaFault) → is_some (table_in x) ≡ false → Declares inside.scopes t name (next_symbol inside.scopes) (declared_in inside.scopes t (length (names_in inside.scopes t)) name x) sc r → Sound (record inside { scopes = sc })
    after_plain (Ok id) k d = subst (λ z. Sound (record inside { scopes = z })) (sym d.2) (plain_sound inside h t name x links here_inside root parts_inside d.0 k)
    after_plain (Err fault) k d = subst (λ z. Sound (record inside { scopes = z })) (sym d.1) h

    pub after_owner : (y : Symbol) → y ≡ with_table (next_table inside.scopes) x → (r : Result (SymId × TableId) ArenaFault) → is_some (table_in x) ≡ true → Declares inside.scopes t name (next_symbol inside.scopes, next_table inside.scopes) (owner_declared_in inside.scopes t (length (names_in inside.scopes t)) name y) sc r → Sound (record inside { scopes = sc })
    after_owner y e (Ok ids) k d =
        subst (λ z. Sound (record inside { scopes = z }))
        (ap (owner_declared_in inside.scopes t (length (names_in inside.scopes t)) name) (sym e) ∙ sym d.2)
        (owner_sound inside h t name x links here_inside root parts_inside d.0 k)
    after_owner y e (Err fault) k d = subst (λ z. Sound (record inside { scopes = z })) (sym d.1) h

  pub after_replacing : (id : SymId) (sc : Scopes Symbol) → IsLive old.scopes id → IfSome (what_of old.scopes id) (λ was. IsLike was x) → sc ≡ replaced_in inside.scopes id x → Sound (record inside { scopes = sc })
  after_replacing id sc live like e =
      subst (λ z. Sound (record inside { scopes = z })) (sym e)
      (replaced_sound inside h id x (subst (λ (o : Nodes). IfSome (what_of o.scopes id) (λ was. IsLike was x)) (sym v) like) parts_inside (subst (λ (o : Nodes). IsLive o.scopes id) (sym v) live))

-- a live symbol keeps its path
module _ (a : Scopes Symbol) (t : TableId) (name : List ℕ) (x : Symbol) (links : Linked a) (here : HasTable a t) where
  grown_path : (b : Bool) → is_some (table_in x) ≡ b → MayDeclare a t name → (s : SymId) (y : Entry Symbol) → symbol_at a s ≡ Some y → path_of (with_symbol a t name x) s ≡ path_of a s
  grown_path true k may s y live = ap (λ b. path_of (if b then owner_declared_in a t (length (names_in a t)) name (with_table (next_table a) x) else declared_in a t (length (names_in a t)) name x) s) k ∙ owner_declared_path a t (length (names_in a t)) name (with_table (next_table a) x) links here may s y live
  grown_path false k may s y live = ap (λ b. path_of (if b then owner_declared_in a t (length (names_in a t)) name (with_table (next_table a) x) else declared_in a t (length (names_in a t)) name x) s) k ∙ declared_path a t (length (names_in a t)) name x links here may s y live

  pub paths_kept : (sc : Scopes Symbol) (r : Result SymId ArenaFault) → Declares a t name (next_symbol a) (with_symbol a t name x) sc r → KeepsPaths a sc
  paths_kept sc (Ok id) d = λ s y live. ap (λ z. path_of z s) d.2 ∙ grown_path (is_some (table_in x)) refl d.0 s y live
  paths_kept sc (Err fault) d = λ s y live. ap (λ z. path_of z s) d.1

-- a symbol keeps its path where what stands for one is replaced
module _ (a : Scopes Symbol) (id : SymId) (x : Symbol) (y : Entry Symbol) (was : symbol_at a id ≡ Some y) where
  abbrev b : Scopes Symbol
  b = replaced_in a id x

  at_entry : (f : Entry Symbol → List (List ℕ)) → ((z : Entry Symbol) → f (standing_for x z) ≡ f z) → (s : SymId) → option_map_or f (symbol_at b s) [] ≡ option_map_or f (symbol_at a s) []
  at_entry f h s =
      elim (same_or s id) as (λ _. option_map_or f (symbol_at b s) [] ≡ option_map_or f (symbol_at a s) []) [
        | inl p ↦
            ap (λ u. option_map_or f (symbol_at b u) []) p
            ∙ ap (λ o. option_map_or f o []) (replaced_new a id y x was)
            ∙ h y
            ∙ sym (ap (λ o. option_map_or f o []) was)
            ∙ sym (ap (λ u. option_map_or f (symbol_at a u) []) p)
        | inr d ↦ ap (λ o. option_map_or f o []) (replaced_other a id y x was s d)
      ]

  replaced_path : (n : ℕ) (s : SymId) → path_within b n s ≡ path_within a n s
  replaced_path zero s = refl
  replaced_path (suc n) s =
      at_entry (λ z. option_map_or (path_within b n) (owner_of a z.table) [] ++ z.name ∷ []) (λ z. refl) s
      ∙ (λ k. option_map_or (λ z. option_map_or (λ u. replaced_path n u k) (owner_of a z.table) [] ++ z.name ∷ []) (symbol_at a s) [])

  replaced_paths : KeepsPaths a b
  replaced_paths s it live = replaced_path (length a.tables) s

pub paths_replaced : (a sc : Scopes Symbol) (id : SymId) (x : Symbol) → IsLive a id → sc ≡ replaced_in a id x → KeepsPaths a sc
paths_replaced a sc id x live e = subst (KeepsPaths a) (sym e) (by (symbol_at a id) refl live)
  where
    by : (o : Option (Entry Symbol)) → symbol_at a id ≡ o → is_some o ≡ true → KeepsPaths a (replaced_in a id x)
    by None was l = absurd (true≢false (sym l))
    by (Some y) was l = replaced_paths a id x y was
