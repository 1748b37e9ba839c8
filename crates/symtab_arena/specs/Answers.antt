-- What a declaration answers: the symbol that has the name already, else that no number is left, else the new symbol.
-- A second declaration of a name in one scope is an error (ISO/IEC 1539-1:2018, 19.3.1).
use Rattle.std.specs.Prelude.{◌≡◌, ℕ, suc, ◌<◌, ◌⊎◌, List, [], ◌∷◌, length, Some, None, Ok, Err}
use Rattle.std.specs.declared.result.Result.{Result}
use Rattle.lf_base.specs.declared.id.TableId.{TableId}
use Rattle.symtab_arena.specs.Changes.{declared_in, declared_last}
use Rattle.symtab_arena.specs.Scopes.{Scopes, symbol_numbers, symbol_in}
use Rattle.symtab_arena.specs.declared.fault.ArenaFault.{ArenaFault}
use Rattle.symtab_arena.specs.declared.fault.ArenaFault.TheVariants.{Twice, Full, Memory}

-- the name is new to the table, and a number is left
pub record MayDeclare {K : Type 0} (a : Scopes K) (t : TableId) (name : List ℕ) : Type 0 where
  pub new_name : symbol_in a t name ≡ None
  pub number_left : length a.symbols < symbol_numbers

-- The fault is the one that comes: only want of memory is answered where the declaration may be made.
abbrev pub IsRefusal : {K : Type 0} → Scopes K → TableId → List ℕ → ArenaFault → Type 0
IsRefusal a t name (Twice s) = symbol_in a t name ≡ Some s
IsRefusal a t name Full = (symbol_in a t name ≡ None) × (length a.symbols ≡ symbol_numbers)
IsRefusal a t name Memory = MayDeclare a t name

-- A refusal leaves all as it was. A success gives the value, and the new state.
abbrev pub Declares : {K V : Type 0} → Scopes K → TableId → List ℕ
    → V → Scopes K → Scopes K → Result V ArenaFault → Type 0
Declares old t name value declared new (Ok v) = MayDeclare old t name × (v ≡ value) × (new ≡ declared)
Declares old t name value declared new (Err fault) = IsRefusal old t name fault × (new ≡ old)

-- whether a declaration is refused before it takes memory
abbrev pub Admits : {K : Type 0} → Scopes K → TableId → List ℕ → Result (Unit {0}) ArenaFault → Type 0
Admits a t name (Ok _) = MayDeclare a t name
Admits a t name (Err Memory) = ⊥
Admits a t name (Err fault) = IsRefusal a t name fault

-- Only memory can be wanting, and then all is as it was.
abbrev pub Makes : {K V F : Type 0} → Scopes K → V → Scopes K → Scopes K → Result V F → Type 0
Makes old value declared new (Ok v) = (v ≡ value) × (new ≡ declared)
Makes old value declared new (Err _) = new ≡ old

-- Names are declared one behind another, each last in the table, up to the first that is refused.
abbrev pub DeclaresEach : {K : Type 0} → Scopes K → TableId → List (List ℕ × K) → Scopes K → Result (Unit {0}) ArenaFault → Type 0
DeclaresEach a t [] new r = (r ≡ Ok tt) × (new ≡ a)
DeclaresEach a t (e ∷ es) new (Ok v) = MayDeclare a t e.0 × DeclaresEach (declared_last a t e.0 e.1) t es new (Ok v)
DeclaresEach a t (e ∷ es) new (Err fault) =
    (MayDeclare a t e.0 × DeclaresEach (declared_last a t e.0 e.1) t es new (Err fault)) ⊎ (IsRefusal a t e.0 fault × (new ≡ a))

-- Names are declared one behind another from a place on, up to the first that is refused.
abbrev pub DeclaresEachAt : {K : Type 0} → Scopes K → TableId → ℕ → List (List ℕ × K) → Scopes K → Result (Unit {0}) ArenaFault → Type 0
DeclaresEachAt a t place [] new r = (r ≡ Ok tt) × (new ≡ a)
DeclaresEachAt a t place (e ∷ es) new (Ok v) =
    MayDeclare a t e.0 × DeclaresEachAt (declared_in a t place e.0 e.1) t (suc place) es new (Ok v)
DeclaresEachAt a t place (e ∷ es) new (Err fault) =
    (MayDeclare a t e.0 × DeclaresEachAt (declared_in a t place e.0 e.1) t (suc place) es new (Err fault))
    ⊎ (IsRefusal a t e.0 fault × (new ≡ a))
