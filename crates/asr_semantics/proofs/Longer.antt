-- Acts of which the second goes at least as far as the first, and only writes more: through each combinator, and
-- through the acts on the state.
use Rattle.std.proofs.Common.{ℕ, ◌≤◌, Bool, true, false, List, ◌++◌, Option, Some, None}
use Rattle.lf_base.specs.Outcome.{Location, Stuck}
use Rattle.lf_base.specs.Acts.{bind, give, look, change, print, stop, wrong, away, within, iterate, next_or}
use Rattle.lf_base.specs.Loops.{counted, landing}
use Rattle.lf_base.specs.Order.{Grows}
use Rattle.lf_base.specs.Monotone.{NoShorter}
use Rattle.lf_base.specs.Traps.{trap_text}
use Rattle.lf_base.proofs.Stretches.{grows_bind, grows_give, grows_look, grows_change, grows_print, grows_stop, grows_wrong, grows_given, grows_away, grows_trap, grows_within, grows_iterate, grows_next}
use Rattle.lf_base.proofs.Monotone.{same_self, bind_no_shorter, iterate_no_shorter, next_no_shorter, within_no_shorter}
use Rattle.lf_base.proofs.Counting.{grows_counted, counted_no_shorter}
use Rattle.type_rules.specs.Values.{Evaluation, Gives, Traps, NoRule}
use Rattle.type_rules.specs.Store.{Value, Store}
use Rattle.type_rules.specs.Bindings.{Binding}
use Rattle.asr_nodes.specs.Reading.{Path}
use Rattle.asr_semantics.specs.Machine.{State, M, Last, Plain, result, stuck, variable, fetch, make_copy, create, copy, assign, stored, become, with_store, temporary_value, temporary_last, binding_of, held_value, held_last, temporary_in}
use Rattle.type_rules.specs.Bindings.{place_of}
use Rattle.type_rules.specs.Store.{read}
use Rattle.asr_semantics.specs.Records.{gap, put_text, put_item, item_text}

pub record Longer (A : Type 0) (act act' : M A) : Type 0 where
  pub no_shorter : NoShorter act act'
  pub grows : Grows act'

pub same_longer : (A : Type 0) (act : M A) → Grows act → Longer A act act
same_longer A act g = record { no_shorter = same_self act; grows = g }

pub bind_longer : (A B : Type 0) (act act' : M A) (go go' : A → M B) → Longer A act act' → ((a : A) → Longer B (go a) (go' a)) → Longer B (bind act go) (bind act' go')
bind_longer A B act act' go go' h k = record {
  no_shorter = bind_no_shorter act act' go go' h.no_shorter (λ a. (k a).no_shorter) (λ a. (k a).grows);
  grows = grows_bind act' go' h.grows (λ a. (k a).grows);
}

pub give_longer : (A : Type 0) (a : A) → Longer A (give a) (give a)
give_longer A a = same_longer A (give a) (grows_give a)

pub look_longer : (A : Type 0) (f : State → A) → Longer A (look f) (look f)
look_longer A f = same_longer A (look f) (grows_look f)

pub change_longer : (f : State → State) → Longer (Unit {0}) (change f) (change f)
change_longer f = same_longer (Unit {0}) (change f) (grows_change f)

pub print_longer : (bytes : List ℕ) → Longer (Unit {0}) (print bytes) (print bytes)
print_longer bytes = same_longer (Unit {0}) (print bytes) (grows_print bytes)

pub stop_longer : (A : Type 0) (status : ℕ) → Longer A (stop status) (stop status)
stop_longer A status = same_longer A (stop status) (grows_stop State A status)

pub wrong_longer : (A : Type 0) → Longer A (wrong Stuck) (wrong Stuck)
wrong_longer A = same_longer A (wrong Stuck) (grows_wrong State A Stuck (λ w. tt))

pub away_longer : (A : Type 0) → Longer A away away
away_longer A = same_longer A away (grows_away State A)

pub stuck_longer : (A : Type 0) (o : Option A) → Longer A (stuck o) (stuck o)
stuck_longer A o = same_longer A (stuck o) (grows_given State Stuck (λ w. tt) o)

pub result_longer : (A : Type 0) (here : Location) (x : Evaluation A) → Longer A (result here x) (result here x)
result_longer A here (Gives value) = give_longer A value
result_longer A here (Traps cause) = same_longer A (result here (Traps cause)) (grows_trap State A cause (trap_text cause here) (Some here))
result_longer A here NoRule = wrong_longer A

-- one of two acts
pub next_longer : (B : Type 0) (more more' : M (Option B)) → Longer (Option B) more more' → (o : Option B) → Longer (Option B) (next_or more o) (next_or more' o)
next_longer B more more' h o = record { no_shorter = next_no_shorter more more' h.no_shorter o; grows = grows_next more' h.grows o }

pub iterate_longer : (B : Type 0) (n n' : ℕ) → n ≤ n' → (test test' : M Bool) (body body' : M (Option B)) → Longer Bool test test' → Longer (Option B) body body' → Longer (Option B) (iterate n test body) (iterate n' test' body')
iterate_longer B n n' le test test' body body' h k = record {
  no_shorter = iterate_no_shorter n n' le test test' body body' h.no_shorter k.no_shorter h.grows k.grows;
  grows = grows_iterate n' test' body' h.grows k.grows;
}

pub counted_longer : (B : Type 0) (count n n' : ℕ) → n ≤ n' → (body body' : M (Option B)) → Longer (Option B) body body' → Longer (Option B) (counted count n body) (counted count n' body')
counted_longer B count n n' le body body' h = record {
  no_shorter = counted_no_shorter count n n' le body body' h.no_shorter h.grows;
  grows = grows_counted count n' body' h.grows;
}

pub within_longer : (A : Type 0) (enter : State → State) (leave : State → State → State) (act act' : M A) → Longer A act act' → Longer A (within enter leave act) (within enter leave act')
within_longer A enter leave act act' h = record {
  no_shorter = within_no_shorter enter leave act act' h.no_shorter;
  grows = grows_within enter leave act' h.grows;
}

pub landing_longer : (B : Type 0) (lands : B → Bool) (o : Option B) → Longer (Option B) (landing lands o) (landing lands o)
landing_longer B lands None = give_longer (Option B) None
landing_longer B lands (Some b) = by (lands b)
  where
    by : (t : Bool) → Longer (Option B) (λ s. Rattle.std.specs.Prelude.cond t (give None) (give (Some b)) s) (λ s. Rattle.std.specs.Prelude.cond t (give None) (give (Some b)) s)
    by true = give_longer (Option B) None
    by false = give_longer (Option B) (Some b)

-- the acts on the state
pub variable_longer : (path : Path) → Longer Binding (variable path) (variable path)
variable_longer path = bind_longer (Option Binding) Binding (look (binding_of path)) (look (binding_of path)) stuck stuck (look_longer (Option Binding) (binding_of path)) (stuck_longer Binding)

pub fetch_longer : (b : Binding) → Longer Value (fetch b) (fetch b)
fetch_longer b = bind_longer (Option Value) Value (look (λ s. read s.store (place_of b))) (look (λ s. read s.store (place_of b))) stuck stuck (look_longer (Option Value) (λ s. read s.store (place_of b))) (stuck_longer Value)

pub copy_longer : (value : Value) → Longer Binding (make_copy value) (make_copy value)
copy_longer value =
    bind_longer ℕ Binding (look (λ s. s.next)) (look (λ s. s.next)) (λ i. bind (change (create value)) (λ u. give (copy i))) (λ i. bind (change (create value)) (λ u. give (copy i)))
    (look_longer ℕ (λ s. s.next))
    (λ i. bind_longer (Unit {0}) Binding (change (create value)) (change (create value)) (λ u. give (copy i)) (λ u. give (copy i)) (change_longer (create value)) (λ u. give_longer Binding (copy i)))

become_longer : (o : Option Store) → Longer (Unit {0}) (become o) (become o)
become_longer None = wrong_longer (Unit {0})
become_longer (Some store) = change_longer (with_store store)

pub assign_longer : (b : Binding) (value : Value) → Longer (Unit {0}) (assign b value) (assign b value)
assign_longer b value = bind_longer (Option Store) (Unit {0}) (look (stored b value)) (look (stored b value)) become become (look_longer (Option Store) (stored b value)) become_longer

pub temporary_longer : (number : ℕ) → Longer Value (temporary_value number) (temporary_value number)
temporary_longer number =
    bind_longer (Option Value) Value (look (λ s. held_value (temporary_in s.temporaries number))) (look (λ s. held_value (temporary_in s.temporaries number))) stuck stuck
    (look_longer (Option Value) (λ s. held_value (temporary_in s.temporaries number)))
    (stuck_longer Value)

pub last_longer : (number : ℕ) → Longer Last (temporary_last number) (temporary_last number)
last_longer number =
    bind_longer (Option Last) Last (look (λ s. held_last (temporary_in s.temporaries number))) (look (λ s. held_last (temporary_in s.temporaries number))) stuck stuck
    (look_longer (Option Last) (λ s. held_last (temporary_in s.temporaries number)))
    (stuck_longer Last)

-- records
text_longer : (last : Last) (o : Option (List ℕ)) → Longer Last (put_text last o) (put_text last o)
text_longer last None = wrong_longer Last
text_longer last (Some text) =
    bind_longer (Unit {0}) Last (print (gap last Plain ++ text)) (print (gap last Plain ++ text)) (λ u. give Plain) (λ u. give Plain)
    (print_longer (gap last Plain ++ text))
    (λ u. give_longer Last Plain)

pub item_longer : (last : Last) (value : Value) → Longer Last (put_item last value) (put_item last value)
item_longer last value = text_longer last (item_text value)
