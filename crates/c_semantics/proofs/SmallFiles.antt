-- What the small files do, computed statement by statement.
use Rattle.std.proofs.Common.{◌≡◌, ℕ, false, List, [], ◌∷◌, Some, None, codes, map, refl, ap, ◌∙◌}
use Rattle.std.proofs.Math.IntN.{pos}
use Rattle.lf_base.specs.Outcome.{Undefined, written}
use Rattle.lf_base.specs.Acts.{Going, outcome_of, bind, given, then_do, in_order, within}
use Rattle.lf_base.proofs.Runs.{order_next}
use Rattle.c_nodes.specs.declared.tree.CFile.{CFile}
use Rattle.c_nodes.specs.declared.tree.CType.TheVariants.{Int64}
use Rattle.c_nodes.specs.declared.tree.CExpr.TheVariants.{Variable, Address}
use Rattle.c_nodes.specs.declared.tree.CStmt.{CStmt}
use Rattle.c_nodes.specs.declared.tree.CStmt.TheVariants.{Declare, Call}
use Rattle.c_nodes.specs.ShownFile.{ends}
use Rattle.c_semantics.specs.CValues.{W32, Local, Number, Pointer}
use Rattle.c_semantics.specs.CState.{Cells, State}
use Rattle.c_semantics.specs.CMeaning.{CMeaning, run_main, statement, statements, called, call, calls_of, around_all, begin, status_of, Calls, Returned}
use Rattle.c_semantics.specs.SmallFiles.{Writes, IsUndefined, IsCut, EndsWith, file, put, i, turns, jumps, structures, wraps, stops_early, zeros, shares, sets, forever, leaves, overflow, int_overflow, by_zero, least_by_minus_one, int32_cast, int_cast, int32_store, unset_read, unset_copy, outside, pointer_outside, outside_member, no_elements, literal_write, returns_number, returns_nothing, returns_too_much, pointer_in_block, pointer_after_block, pointer_after_call, sets_pointer, unset_pointer, own_object, keeps_object}
use Rattle.c_semantics.proofs.CExprs.{exprs}
use Rattle.c_semantics.proofs.CStmts.{deeds, runs-Declare}
use Rattle.c_semantics.proofs.CRuns.{run_call}

ruleset opened = (CMeaning, run_main, statements, outcome_of, bind, then_do, in_order)

pub turns_is : Writes (file turns ∷ []) (codes "aaa")
turns_is input = simp (deeds, exprs, opened) refl

pub jumps_is : Writes (file jumps ∷ []) (codes "ab")
jumps_is input = simp (deeds, exprs, opened) refl

pub structures_is : Writes (file structures ∷ []) (codes "ABC")
structures_is input = simp (deeds, exprs, opened) refl

pub wraps_is : Writes (file wraps ∷ []) (codes "A")
wraps_is input = simp (deeds, exprs, opened) refl

pub stops_early_is : Writes (file stops_early ∷ []) (codes "bc")
stops_early_is input = simp (deeds, exprs, opened) refl

pub zeros_is : Writes (file zeros ∷ []) (codes "AB")
zeros_is input = simp (deeds, exprs, opened) refl

-- the call of `f` in the files that share an object
abbrev both : List CFile
both = file shares ∷ file sets ∷ []

abbrev before : List ℕ → State
before input = record {
  here = record { file = 0; names = record { name = codes "i"; number = 0 } ∷ [] };
  next = 1;
  memory = record { number = 0; slot = Cells Int64 false (None ∷ []) } ∷ [];
  around = around_all both input;
}

abbrev after : List ℕ → State
after input = record {
  here = record { file = 0; names = record { name = codes "i"; number = 0 } ∷ [] };
  next = 2;
  memory = record { number = 0; slot = Cells Int64 false (Some (pos 66) ∷ []) } ∷ [];
  around = record { layouts = []; globals = record { file = None; name = codes "n"; slot = Cells Int64 false (Some (pos 65) ∷ []) } ∷ []; input = input };
}

abbrev calls : Calls
calls = calls_of both 10 2 0

function_called : (input : List ℕ) → calls (codes "f") (Pointer (Local 0) 0 ∷ []) (before input) (written [] []) ≡ Going None (after input) (written [] [])
function_called input = simp (deeds, exprs, opened, within, call, called) refl

abbrev shows : List CStmt
shows = put (Variable (codes "n")) ∷ put i ∷ ends ∷ []

shown : (input : List ℕ) → statements 10 calls shows (after input) (written [] []) ≡ Going (Some (Returned (Some (Number W32 (pos 0))))) (after input) (written (codes "AB") [])
shown input = simp (deeds, exprs, opened) refl

abbrev then_f : List CStmt
then_f = Call (codes "f") (Address i ∷ []) ∷ shows

shared_runs : (input : List ℕ) → statements 10 calls (Declare Int64 (codes "i") ∷ then_f) (begin both input 0) (written [] []) ≡ Going (Some (Returned (Some (Number W32 (pos 0))))) (after input) (written (codes "AB") [])
shared_runs input =
    order_next (statement 10 calls (Declare Int64 (codes "i"))) (map (statement 10 calls) then_f) (begin both input 0) (written [] []) (before input) (written [] []) (runs-Declare 10 calls Int64 (codes "i") (begin both input 0) (written [] []))
    ∙ order_next (statement 10 calls (Call (codes "f") (Address i ∷ []))) (map (statement 10 calls) shows) (before input) (written [] []) (after input) (written [] []) (run_call 10 calls (codes "f") (Address i ∷ []) (Pointer (Local 0) 0 ∷ []) None (before input) (after input) (written [] []) (written [] []) (simp exprs refl) (function_called input))
    ∙ shown input

pub shared_is : Writes (file shares ∷ file sets ∷ []) (codes "AB")
shared_is input = ap (λ x. outcome_of (then_do x (λ flow. given Undefined (status_of flow)))) (shared_runs input)

pub leaves_is : EndsWith leaves 7
leaves_is input = simp (deeds, exprs, opened) refl

pub cut_is : IsCut forever 3 (codes "aaa")
cut_is input = simp (deeds, exprs, opened) refl

pub overflow_is : IsUndefined overflow
overflow_is input = simp (deeds, exprs, opened) refl

pub int_overflow_is : IsUndefined int_overflow
int_overflow_is input = simp (deeds, exprs, opened) refl

pub by_zero_is : IsUndefined by_zero
by_zero_is input = simp (deeds, exprs, opened) refl

pub least_by_minus_one_is : IsUndefined least_by_minus_one
least_by_minus_one_is input = simp (deeds, exprs, opened) refl

pub int32_cast_is : IsUndefined int32_cast
int32_cast_is input = simp (deeds, exprs, opened) refl

pub int_cast_is : IsUndefined int_cast
int_cast_is input = simp (deeds, exprs, opened) refl

pub int32_store_is : IsUndefined int32_store
int32_store_is input = simp (deeds, exprs, opened) refl

pub unset_read_is : IsUndefined unset_read
unset_read_is input = simp (deeds, exprs, opened) refl

pub unset_copy_is : IsUndefined unset_copy
unset_copy_is input = simp (deeds, exprs, opened) refl

pub outside_is : IsUndefined outside
outside_is input = simp (deeds, exprs, opened) refl

pub pointer_outside_is : IsUndefined pointer_outside
pointer_outside_is input = simp (deeds, exprs, opened) refl

pub outside_member_is : IsUndefined outside_member
outside_member_is input = simp (deeds, exprs, opened) refl

pub no_elements_is : IsUndefined no_elements
no_elements_is input = simp (deeds, exprs, opened) refl

pub literal_write_is : IsUndefined literal_write
literal_write_is input = simp (deeds, exprs, opened) refl

pub pointer_is : Writes (file pointer_in_block ∷ []) (codes "A")
pointer_is input = simp (deeds, exprs, opened) refl

pub static_pointer_is : Writes (file sets_pointer ∷ []) (codes "A")
static_pointer_is input = simp (deeds, exprs, opened) refl

pub static_object_is : Writes (file keeps_object ∷ file own_object ∷ []) (codes "A")
static_object_is input = simp (deeds, exprs, opened, within, call, called) refl

pub number_is : EndsWith returns_number 7
number_is input = simp (deeds, exprs, opened) refl

pub nothing_is : EndsWith returns_nothing 0
nothing_is input = refl

pub after_block_is : IsUndefined pointer_after_block
after_block_is input = simp (deeds, exprs, opened) refl

pub after_call_is : IsUndefined pointer_after_call
after_call_is input = simp (deeds, exprs, opened, within, call, called) refl

pub unset_pointer_is : IsUndefined unset_pointer
unset_pointer_is input = simp (deeds, exprs, opened) refl

pub too_much_is : IsUndefined returns_too_much
too_much_is input = simp (deeds, exprs, opened) refl
