-- The two statements that tell a trap its location, wherever the file's prelude has its objects.
use Rattle.std.proofs.Common.{◌≡◌, ℕ, ◌<◌, ◌^◌, Bool, true, false, ◌&&◌, if◌then◌else◌, List, [], ◌∷◌, map, Option, Some, None, codes, refl, ap, ◌∙◌, arith}
use Rattle.std.specs.Str.{bytes_eq}
use Rattle.std.proofs.Math.IntN.{pos}
use Rattle.std.proofs.lemmas.Slice.Eq.{bytes_eq-Decides}
use Rattle.lf_base.specs.Outcome.{Location, Written}
use Rattle.lf_base.specs.Acts.{Going}
use Rattle.lf_base.proofs.Runs.{order_next}
use Rattle.c_nodes.specs.declared.tree.CType.TheVariants.{Int64}
use Rattle.c_nodes.specs.declared.tree.CExpr.TheVariants.{Variable, Constant, Literal}
use Rattle.c_nodes.specs.declared.tree.CStmt.TheVariants.{Assign}
use Rattle.c_semantics.specs.CValues.{W32, W64, Number, Pointer, Text, Outside, fits}
use Rattle.c_semantics.specs.CState.{Slot, Cells, Leads, Global, State, find_name, is_global, same_file, global_of, with_global}
use Rattle.c_semantics.specs.CMeaning.{reading, Calls, Element, stored_in, statement, statements}
use Rattle.c_semantics.specs.CMeaning as meaning
use Rattle.c_semantics.proofs.CExprs.{exprs}
use Rattle.c_semantics.proofs.CNumbers.{fits64_nat}
use Rattle.c_semantics.proofs.CRuns.{run_assign}
use Rattle.c_prelude.specs.PreludeLaws.{HasLocation, location_set, with_name, with_location, SetsLocations}

second : (a b : Bool) → (a && b) ≡ true → b ≡ true
second true b h = h
second false b h = absurd (cc)

first : (a b : Bool) → (a && b) ≡ true → a ≡ true
first true b h = refl
first false b h = absurd (cc)

itself : (name : List ℕ) → bytes_eq name name ≡ true
itself name = (bytes_eq-Decides name name).1 refl

-- what was set is found
set_same : (file : Option ℕ) (name : List ℕ) (slot x : Slot) (gs : List Global) → global_of file name gs ≡ Some x → global_of file name (with_global file name slot gs) ≡ Some slot
set_same file name slot x [] h = absurd (cc)
set_same file name slot x (g ∷ gs) h = by_test (is_global file name g) refl h (set_same file name slot x gs)
  where
    by_test : (t : Bool) → is_global file name g ≡ t → global_of file name (g ∷ gs) ≡ Some x → (global_of file name gs ≡ Some x → global_of file name (with_global file name slot gs) ≡ Some slot) → global_of file name (with_global file name slot (g ∷ gs)) ≡ Some slot
    by_test true e k more = let f = second (bytes_eq g.name name) (same_file g.file file) e in rw e (rw (itself name) (rw f refl))
    by_test false e k more = let here : global_of file name gs ≡ Some x = simp e at k in rw e (rw e (more here))

-- what has another name stays
set_other : (file : Option ℕ) (a b : List ℕ) (slot : Slot) (gs : List Global) → bytes_eq a b ≡ false → global_of file b (with_global file a slot gs) ≡ global_of file b gs
set_other file a b slot [] apart = refl
set_other file a b slot (g ∷ gs) apart = by_test (is_global file a g) refl (set_other file a b slot gs apart)
  where
    by_test : (t : Bool) → is_global file a g ≡ t → global_of file b (with_global file a slot gs) ≡ global_of file b gs → global_of file b (with_global file a slot (g ∷ gs)) ≡ global_of file b (g ∷ gs)
    by_test true e more =
        let same : g.name ≡ a = (bytes_eq-Decides g.name a).0 (first (bytes_eq g.name a) (same_file g.file file) e) in
        let old : bytes_eq g.name b ≡ false = ap (λ n. bytes_eq n b) same ∙ apart in
        rw e (rw apart (rw old refl))
    by_test false e more = rw e (ap (λ o. if is_global file b g then Some g.slot else o) more)

module _ (location : Location) (small : location.line < 2 ^ 32) (n : ℕ) (calls : Calls) (s : State) (w : Written) (has : HasLocation s.here.file s.around) (no_name : find_name (codes "lf_name") s.here.names ≡ None) (no_line : find_name (codes "lf_line") s.here.names ≡ None) where
  abbrev named : State
  named = with_name location.source s

  line_there : global_of (Some s.here.file) (codes "lf_line") named.around.globals ≡ Some (Cells Int64 false (has.last ∷ []))
  line_there = set_other (Some s.here.file) (codes "lf_name") (codes "lf_line") (Leads (Some (Text location.source, 0))) s.around.globals refl ∙ has.line

  names : statement n calls (Assign (Variable (codes "lf_name")) (Literal location.source)) s w ≡ Going None named w
  names = run_assign n calls (Variable (codes "lf_name")) (Literal location.source) (Pointer (Text location.source) 0) (meaning.Variable (Outside (Some s.here.file) (codes "lf_name")) has.to) s named w (simp exprs refl) (simp (exprs, no_name, has.name) refl) refl

  line_fits : fits W64 (pos location.line) ≡ true
  line_fits = fits64_nat location.line (omega arith)

  lines_by : (t : Bool) → fits W32 (pos location.line) ≡ t → statement n calls (Assign (Variable (codes "lf_line")) (Constant location.line)) named w ≡ Going None (with_location location s) w
  lines_by true e = run_assign n calls (Variable (codes "lf_line")) (Constant location.line) (Number W32 (pos location.line)) (Element (Outside (Some s.here.file) (codes "lf_line")) 0) named (with_location location s) w (simp (exprs, e) refl) (simp (exprs, no_line, line_there) refl) (simp (line_there, line_fits) refl)
  lines_by false e = run_assign n calls (Variable (codes "lf_line")) (Constant location.line) (Number W64 (pos location.line)) (Element (Outside (Some s.here.file) (codes "lf_line")) 0) named (with_location location s) w (simp (exprs, e, line_fits) refl) (simp (exprs, no_line, line_there) refl) (simp (line_there, line_fits) refl)

  both_run : statements n calls (location_set location) s w ≡ Going None (with_location location s) w
  both_run =
      order_next (statement n calls (Assign (Variable (codes "lf_name")) (Literal location.source))) (map (statement n calls) (Assign (Variable (codes "lf_line")) (Constant location.line) ∷ [])) s w named w names
      ∙ order_next (statement n calls (Assign (Variable (codes "lf_line")) (Constant location.line))) [] named w (with_location location s) w (lines_by (fits W32 (pos location.line)) refl)

pub location_law : SetsLocations
location_law location short bytes small n calls s w has no_name no_line = record {
  runs = both_run location small n calls s w has no_name no_line;
  locates = record {
    name = set_other (Some s.here.file) (codes "lf_line") (codes "lf_name") (Cells Int64 false (Some (pos location.line) ∷ [])) (with_name location.source s).around.globals refl ∙ set_same (Some s.here.file) (codes "lf_name") (Leads (Some (Text location.source, 0))) (Leads has.to) s.around.globals has.name;
    line = set_same (Some s.here.file) (codes "lf_line") (Cells Int64 false (Some (pos location.line) ∷ [])) (Cells Int64 false (has.last ∷ [])) (with_name location.source s).around.globals (line_there location small n calls s w has no_name no_line);
    short = short;
    bytes = bytes;
    small = small;
  };
}
