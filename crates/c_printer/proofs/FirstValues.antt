-- First values, one behind another.
use Rattle.std.proofs.Common.{◌≡◌, ℕ, ◌+◌, ◌≤◌, List, [], ◌∷◌, ◌++◌, map, length, slice_get, Some, Result, Ok, Err, refl, sym, ap, subst, ◌∙◌, append_assoc}
use Rattle.std.specs.Option.{option_map}
use Rattle.std.proofs.lemmas.Simd.{map-map}
use Rattle.lf_base.specs.declared.id.SymId.{SymId}
use Rattle.lf_base.specs.declared.fault.Memory.{Memory}
use Rattle.symtab_arena.specs.Names.{Names}
use Rattle.asr_nodes.specs.Nodes.{Nodes, expr_tree}
use Rattle.asr_nodes.specs.Reading.{Path}
use Rattle.asr_nodes.specs.Units.{path}
use Rattle.c_nodes.specs.declared.tree.CStmt.{CStmt}
use Rattle.c_printer.specs.declared.scalar.ScalarType.{ScalarType}
use Rattle.c_printer.specs.Files.{Variable, saved, first_value, first_values, variable_place}
use Rattle.c_printer.specs.Lowering.{Drawn, Lines, Wrote, Lowering, lines_of, nothing_drawn, behind, go_on, give, bind}
use Rattle.c_printer.specs.Statements.{expression, at}
use Rattle.c_printer.specs.declared.saved.SavedVariable.{SavedVariable}
use Rattle.c_printer.specs.UnitTrees.{found, variable_found, place_of_variable}
use Rattle.c_printer.specs.Units.{variable_at}
use Rattle.c_printer.specs.Writing.{Written, drawn_by, from, wrote, nothing_written, Writes}
use Rattle.c_printer.proofs.SavedVariables.{saved_from, saved_next, saved_end}
use Rattle.c_printer.proofs.Writes.{writes_bind, writes_give}

in_turn : {A B : Type 0} (before : List CStmt) (m : Lines A) (g : A → Lowering B) → go_on (behind before m) g ≡ behind before (go_on m g)
in_turn {B = B} before (Wrote lines x d) g = two (g x d)
  where
    two : (m : Lines B) → behind (before ++ lines) m ≡ behind before (behind lines m)
    two (Wrote more y e) = ap (λ ls. Wrote ls y e) (append_assoc before lines more)

-- acts one behind another, however they are taken together
together : {A B C : Type 0} (m : Lines A) (f : A → Lowering B) (g : B → Lowering C) → go_on m (λ x. bind (f x) g) ≡ go_on (go_on m f) g
together (Wrote lines x d) f g = sym (in_turn lines (f x d) g)

nothing_before : {A : Type 0} (m : Lines A) → behind [] m ≡ m
nothing_before (Wrote lines x d) = refl

module _ (name source : List ℕ) (types : Path → ScalarType) where
  abbrev of_one : Variable → Lowering (Unit {0})
  of_one v = first_value (at source 0) (variable_place name v) (map (expression types) v.init)

  firsts_more : (vs ws : List Variable) (d : Drawn) → first_values name source types (vs ++ ws) d ≡ bind (first_values name source types vs) (λ u. first_values name source types ws) d
  firsts_more [] ws d = sym (nothing_before (first_values name source types ws d))
  firsts_more (v ∷ vs) ws d =
      ap (go_on (of_one v d)) (λ i u e. firsts_more vs ws e i)
      ∙ together (of_one v d) (λ u. first_values name source types vs) (λ u. first_values name source types ws)

  -- some, and what is left
  firsts_after : (w v : Written) (vs ws : List Variable) → from w (first_values name source types vs) ≡ wrote v tt → from w (first_values name source types (vs ++ ws)) ≡ from v (first_values name source types ws)
  firsts_after w v vs ws h =
      ap (behind w.lines) (firsts_more vs ws (drawn_by w))
      ∙ writes_bind w v (first_values name source types vs) tt (λ u. first_values name source types ws) h

  firsts_one : (w u : Written) (r : Result (Unit {0}) Memory) (v : Variable) → Writes w u r (of_one v) → Writes w u r (first_values name source types (v ∷ []))
  firsts_one w u (Ok x) v h = writes_bind w u (of_one v) tt (λ z. give tt) h ∙ writes_give u tt
  firsts_one w u (Err fault) v h = tt

  -- the variable that was found
  pub firsts_found : (a : Nodes) (w u : Written) (r : Result (Unit {0}) Memory) (v : SavedVariable) (vs : List Variable) → found a (Some v) ≡ vs
      → Writes w u r (first_value (at source 0) (place_of_variable name v) (map (λ id. expression types (expr_tree a (path a) id)) v.init.now))
      → Writes w u r (first_values name source types vs)
  firsts_found a w u r v vs e h =
      subst (λ xs. Writes w u r (first_values name source types xs)) e
      (firsts_one w u r (variable_found a v)
      (subst (λ es. Writes w u r (first_value (at source 0) (place_of_variable name v) es)) (sym (map-map (expression types) (expr_tree a (path a)) v.init.now)) h))

  module _ (a : Nodes) (names : Names) where
    pub firsts_next : (w v : Written) (place : ℕ) (s : SymId) → option_map (λ e. e.1) (slice_get names place) ≡ Some s
        → from w (first_values name source types (saved (variable_at a s ∷ []))) ≡ wrote v tt
        → from w (first_values name source types (saved_from a place names)) ≡ from v (first_values name source types (saved_from a (place + 1) names))
    firsts_next w v place s e h =
        ap (λ vs. from w (first_values name source types vs)) (saved_next a names place s e)
        ∙ firsts_after w v (saved (variable_at a s ∷ [])) (saved_from a (place + 1) names) h

    pub firsts_end : (w : Written) (place : ℕ) → length names ≤ place → from w (first_values name source types (saved_from a place names)) ≡ wrote w tt
    firsts_end w place h = ap (λ vs. from w (first_values name source types vs)) (saved_end a names place h) ∙ writes_give w tt

-- the lines of a function, once its acts are done
pub lines_written : (u : Written) (act : Lowering (Unit {0})) → from nothing_written act ≡ wrote u tt → lines_of (act nothing_drawn) ≡ u.lines
lines_written u act h = ap lines_of (sym (nothing_before (act nothing_drawn)) ∙ h)
