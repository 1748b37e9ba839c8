-- Acts that are written one behind another.
use Rattle.std.proofs.Common.{◌≡◌, ℕ, ◌+◌, ◌==◌, Bool, true, false, if◌then◌else◌, List, [], ◌∷◌, ◌++◌, codes, Result, Ok, Err, refl, sym, ap, ◌∙◌, append-nil, append_assoc}
use Rattle.lf_base.specs.Outcome.{Location}
use Rattle.lf_base.specs.declared.fault.Memory.{Memory}
use Rattle.c_nodes.specs.declared.tree.CType.TheVariants.{Int64}
use Rattle.c_nodes.specs.declared.tree.CExpr.{CExpr}
use Rattle.c_nodes.specs.declared.tree.CExpr.TheVariants.{Variable, Constant, Literal}
use Rattle.c_nodes.specs.declared.tree.CStmt.{CStmt}
use Rattle.c_nodes.specs.declared.tree.CStmt.TheVariants.{Assign, DeclareValue, DeclareCall}
use Rattle.c_printer.specs.declared.scalar.ScalarType.{ScalarType}
use Rattle.c_printer.specs.declared.scalar.Helper.{Helper}
use Rattle.c_printer.specs.declared.scalar.Value.{Value}
use Rattle.c_printer.specs.Helpers.{helper_name, may_trap}
use Rattle.c_printer.specs.Names.{value_name, temp_name}
use Rattle.c_printer.specs.Lowering.{Drawn, Lines, Wrote, Lowering, lines_of, behind, go_on, give, bind, apart, captured, line, one_more, value_of}
use Rattle.c_printer.specs.Statements.{declare_temp}
use Rattle.c_printer.specs.Values.{Expression, each_value, of_type, typed, typed_lines, helped, located_where}
use Rattle.c_printer.specs.Writing.{Written, drawn_by, from, wrote, Writes, Types, with_lines, locating, calling}

behind_bind : {A B : Type 0} (before : List CStmt) (m : Lines A) (f : A → Lowering B) → behind before (go_on m f) ≡ go_on (behind before m) f
behind_bind {B = B} before (Wrote lines x d) f = two (f x d)
  where
    two : (m : Lines B) → behind before (behind lines m) ≡ behind (before ++ lines) m
    two (Wrote more y e) = ap (λ ls. Wrote ls y e) (sym (append_assoc before lines more))

-- an act and then what is to be done with what it gave
pub writes_bind : {A B : Type 0} (w v : Written) (act : Lowering A) (x : A) (f : A → Lowering B) → from w act ≡ wrote v x → from w (bind act f) ≡ from v (f x)
writes_bind w v act x f h = behind_bind w.lines (act (drawn_by w)) f ∙ ap (λ m. go_on m f) h

pub writes_give : {A : Type 0} (w : Written) (x : A) → from w (give x) ≡ wrote w x
writes_give w x = ap (λ ls. Wrote ls x (drawn_by w)) (append-nil w.lines)

-- what is left to be done, by another
pub writes_rest : {A : Type 0} (w v u : Written) (r : Result A Memory) (act rest : Lowering A) → from w act ≡ from v rest → Writes v u r rest → Writes w u r act
writes_rest w v u (Ok x) act rest e h = e ∙ h
writes_rest w v u (Err fault) act rest e h = tt

typed_behind : (ty : ScalarType) (before : List CStmt) (m : Lines ℕ) → behind before (typed_lines ty m) ≡ typed_lines ty (behind before m)
typed_behind ty before (Wrote lines number d) = refl

pub writes_typed : (w v : Written) (ty : ScalarType) (act : Lowering ℕ) (number : ℕ) → from w act ≡ wrote v number → from w (typed ty act) ≡ wrote v (of_type ty number)
writes_typed w v ty act number h = typed_behind ty w.lines (act (drawn_by w)) ∙ ap (typed_lines ty) h

nothing_before : {A : Type 0} (m : Lines A) → behind [] m ≡ m
nothing_before (Wrote lines x d) = refl

-- lines that were written apart
pub writes_captured : (w v : Written) (act : Lowering (Unit {0})) → from (with_lines w []) act ≡ wrote v tt → from w (captured act) ≡ wrote (with_lines v w.lines) v.lines
writes_captured w v act h =
    ap (λ m. behind w.lines (apart m)) (sym (nothing_before (act (drawn_by w))) ∙ h)
    ∙ ap (λ ls. Wrote ls v.lines (drawn_by v)) (append-nil w.lines)

-- the two lines in front of a call that may trap
pub writes_located : (w v : Written) (here : Location) (name text number : CExpr) (count : ℕ) → name ≡ Variable (codes "lf_name") → text ≡ Literal here.source → number ≡ Variable (codes "lf_line") → count ≡ here.line
    → from w (line (Assign name text)) ≡ wrote v tt → from w (locating true here) ≡ from v (line (Assign number (Constant count)))
writes_located w v here name text number count a b c d h =
    (λ i. from w (bind (line (Assign (sym a i) (sym b i))) (λ u. line (Assign (sym c i) (Constant (sym d i))))))
    ∙ writes_bind w v (line (Assign name text)) tt (λ u. line (Assign number (Constant count))) h

helped_is : (traps : Bool) (here : Location) (h : Helper) (arguments : List CExpr) → may_trap h ≡ traps → (d : Drawn) → helped here h arguments d ≡ bind (locating traps here) (λ u. calling h arguments) d
helped_is true here h arguments e d =
    λ i. Wrote (located_where (e i) here (DeclareCall Int64 (value_name (d.values + 1)) (helper_name h) arguments ∷ [])) (d.values + 1) (one_more d)
helped_is false here h arguments e d =
    λ i. Wrote (located_where (e i) here (DeclareCall Int64 (value_name (d.values + 1)) (helper_name h) arguments ∷ [])) (d.values + 1) (one_more d)

pub writes_helped : (w v u : Written) (r : Result ℕ Memory) (here : Location) (h : Helper) (arguments : List CExpr) → may_trap h ≡ true → from w (locating true here) ≡ wrote v tt → Writes v u r (calling h arguments) → Writes w u r (helped here h arguments)
writes_helped w v u r here h arguments e located calls =
    writes_rest w v u r (helped here h arguments) (calling h arguments)
    (ap (behind w.lines) (helped_is true here h arguments e (drawn_by w)) ∙ writes_bind w v (locating true here) tt (λ z. calling h arguments) located) calls

pub writes_called : (w u : Written) (r : Result ℕ Memory) (here : Location) (h : Helper) (arguments : List CExpr) → may_trap h ≡ false → Writes w u r (calling h arguments) → Writes w u r (helped here h arguments)
writes_called w u r here h arguments e calls =
    writes_rest w w u r (helped here h arguments) (calling h arguments)
    (ap (behind w.lines) (helped_is false here h arguments e (drawn_by w) ∙ nothing_before (calling h arguments (drawn_by w)))) calls

pub writes_temp : (w v u : Written) (r : Result (Unit {0}) Memory) (number : ℕ) (value : Value) (name : List ℕ) (given : CExpr) → name ≡ temp_name number → given ≡ value_of value.number
    → from w (line (DeclareValue Int64 name given)) ≡ wrote v tt → Types number value.ty v u r → Writes w u r (declare_temp number value)
writes_temp w v u (Err fault) number value name given a b h k = tt
writes_temp w v u (Ok z) number value name given a b h k =
    let lines = ap lines_of h in
    let drawn = ap drawn_of h in
    λ i. Wrote
    ((ap (λ ls. w.lines ++ ls ∷ []) (λ j. DeclareValue Int64 (sym a j) (sym b j)) ∙ lines ∙ sym k.0) i)
    tt
    (record {
      values = (ap (λ (d : Drawn). d.values) drawn ∙ sym k.1) i;
      temps = λ n. (ap (λ t. if n == number then value.ty else t) (ap (λ (d : Drawn). d.temps n) drawn) ∙ sym (k.2 n)) i;
    })
  where
    drawn_of : {A : Type 0} → Lines A → Drawn
    drawn_of (Wrote lines x d) = d

-- values in front of those that an act gives
abbrev pub behind_values : List Value → Lines (List Value) → Lines (List Value)
behind_values done (Wrote lines values d) = Wrote lines (done ++ values) d

pub values_none : (m : Lines (List Value)) → m ≡ behind_values [] m
values_none (Wrote lines values d) = refl

values_more : (done : List Value) (value : Value) (before : List CStmt) (m : Lines (List Value)) → behind_values done (behind before (go_on m (λ vs. give (value ∷ vs)))) ≡ behind_values (done ++ value ∷ []) (behind before m)
values_more done value before (Wrote lines values d) = λ i. Wrote (before ++ append-nil lines i) (sym (append_assoc done (value ∷ []) values) i) d

-- one more value was computed
pub values_next : (first : Lines (List Value)) (done : List Value) (here : Location) (e : Expression) (es : List Expression) (w v : Written) (value : Value) → first ≡ behind_values done (from w (each_value here (e ∷ es)))
    → from w (e.value here) ≡ wrote v value → first ≡ behind_values (done ++ value ∷ []) (from v (each_value here es))
values_next first done here e es w v value h k =
    h ∙ ap (behind_values done) (writes_bind w v (e.value here) value (λ x. bind (each_value here es) (λ xs. give (x ∷ xs))) k) ∙ values_more done value v.lines (each_value here es (drawn_by v))

pub values_all : (first : Lines (List Value)) (done : List Value) (here : Location) (es : List Expression) (w : Written) → es ≡ [] → first ≡ behind_values done (from w (each_value here es)) → first ≡ wrote w done
values_all first done here es w none h =
    h ∙ ap (λ xs. behind_values done (from w (each_value here xs))) none ∙ (λ i. Wrote (append-nil w.lines i) (append-nil done i) (drawn_by w))
