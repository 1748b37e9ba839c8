-- Chains of `else if`, and the acts of statements one behind another.
use Rattle.std.proofs.Common.{◌≡◌, ℕ, List, [], ◌∷◌, ◌++◌, Option, Some, None, IfSome, Result, refl, sym, ap, subst, ◌∙◌}
use Rattle.lf_base.specs.Outcome.{Location}
use Rattle.lf_base.specs.declared.fault.Memory.{Memory}
use Rattle.lf_base.specs.declared.id.StmtId.{StmtId}
use Rattle.lf_base.specs.declared.id.SymId.{SymId}
use Rattle.asr_nodes.specs.Nodes.{Nodes, stmt_tree, reads}
use Rattle.asr_nodes.specs.Reading.{Path, stmt_node}
use Rattle.asr_nodes.specs.Units.{path}
use Rattle.asr_nodes.specs.declared.node.Stmt.{Stmt}
use Rattle.c_nodes.specs.declared.tree.CBinary.TheVariants.{Less, Subtract}
use Rattle.c_nodes.specs.declared.tree.CExpr.{CExpr}
use Rattle.c_nodes.specs.declared.tree.CExpr.TheVariants.{Constant, Binary}
use Rattle.c_nodes.specs.declared.tree.CStmt.{CStmt}
use Rattle.c_nodes.specs.declared.tree.CStmt.TheVariants.{Assign}
use Rattle.c_printer.specs.declared.scalar.Helper.TheVariants as helper
use Rattle.c_printer.specs.declared.scalar.Value.{Value}
use Rattle.c_printer.specs.declared.statements.chains.Arm.{Arm}
use Rattle.c_printer.specs.declared.statements.chains.Choice.{Choice}
use Rattle.c_printer.specs.Chains.{choice_tree, closed, all_closed}
use Rattle.c_printer.specs.Laid.{counting, turns_end}
use Rattle.c_printer.specs.Lowering.{Lines, Wrote, Lowering, behind, give, bind, line, captured, value_of}
use Rattle.c_printer.specs.Lowered.{reading_of}
use Rattle.c_printer.specs.Statements.{assigned, stepped, turn, counted_turns}
use Rattle.c_printer.specs.Units.{UnitScope}
use Rattle.c_printer.specs.Values.{Place, Expression, fetched, fitted, helped, stored}
use Rattle.c_printer.specs.Writing.{Written, Writes, from, wrote, drawn_by, with_lines}
use Rattle.c_printer.proofs.Writes.{writes_bind, writes_rest, writes_captured}

-- the tree at the number of an `if`
pub tree_found : (u : UnitScope) (a : Nodes) (id : StmtId) (node : Stmt) (o : Option Choice) → a ≡ u.asr → ((path : SymId → Path) → stmt_tree a path id ≡ stmt_node (reads a path) node)
    → IfSome o (λ c. stmt_node (reading_of u) node ≡ choice_tree u c) → IfSome o (λ c. stmt_tree u.asr (path u.asr) id ≡ choice_tree u c)
tree_found u a id node None e h k = tt
tree_found u a id node (Some c) e h k = subst (λ b. (path : SymId → Path) → stmt_tree b path id ≡ stmt_node (reads b path) node) e h (path u.asr) ∙ k

-- the innermost arm is closed first
pub closed_last : (arms : List Arm) (arm : Arm) (lines : Lines (Unit {0})) → all_closed (arms ++ arm ∷ []) lines ≡ all_closed arms (closed arm lines)
closed_last [] arm lines = refl
closed_last (a ∷ arms) arm lines = ap (closed a) (closed_last arms arm lines)

nothing_before : {A : Type 0} (m : Lines A) → behind [] m ≡ m
nothing_before (Wrote lines x d) = refl

pub writes_assigned : (w v u : Written) (r : Result (Unit {0}) Memory) (here : Location) (target value : Expression) (x : Value) (p : Place) → from w (value.value here) ≡ wrote v x → target.place here ≡ give p
    → Writes v u r (line (stored p x.number)) → Writes w u r (assigned here target value)
writes_assigned w v u r here target value x p h e k =
    writes_rest w v u r (assigned here target value) (line (stored p x.number))
    (writes_bind w v (value.value here) x (λ y. bind (target.place here) (λ q. line (stored q y.number))) h ∙ ap (λ a. from v (bind a (λ q. line (stored q x.number)))) e) k

pub writes_stepped : (w a b c d u : Written) (r : Result (Unit {0}) Memory) (here : Location) (p : Place) (step count old sum new : ℕ) (arguments : List CExpr) → arguments ≡ value_of old ∷ value_of step ∷ []
    → from w (fetched p) ≡ wrote a old → from a (helped here helper.Add arguments) ≡ wrote b sum → from b (fitted here sum) ≡ wrote c new → from c (line (stored p new)) ≡ wrote d tt
    → Writes d u r (line (Assign (value_of count) (Binary Subtract (value_of count) (Constant 1)))) → Writes w u r (stepped here p step count)
writes_stepped w a b c d u r here p step count old sum new arguments e h1 h2 h3 h4 k =
    let last = line (Assign (value_of count) (Binary Subtract (value_of count) (Constant 1))) in
    writes_rest w d u r (stepped here p step count) last
    (writes_bind w a (fetched p) old (λ o. bind (helped here helper.Add (value_of o ∷ value_of step ∷ [])) (λ s. bind (fitted here s) (λ n. bind (line (stored p n)) (λ z. last)))) h1
    ∙ writes_bind a b (helped here helper.Add (value_of old ∷ value_of step ∷ [])) sum (λ s. bind (fitted here s) (λ n. bind (line (stored p n)) (λ z. last))) (ap (λ xs. from a (helped here helper.Add xs)) (sym e) ∙ h2)
    ∙ writes_bind b c (fitted here sum) new (λ n. bind (line (stored p n)) (λ z. last)) h3
    ∙ writes_bind c d (line (stored p new)) tt (λ z. last) h4) k

pub counting_begins : (w a b c d f : Written) (here : Location) (id : ℕ) (variable lower upper step : Expression) (l u s : Value) (count : ℕ) (p : Place) (arguments : List CExpr)
    → arguments ≡ value_of l.number ∷ value_of u.number ∷ value_of s.number ∷ [] → variable.place here ≡ give p
    → from w (lower.value here) ≡ wrote a l → from a (upper.value here) ≡ wrote b u → from b (step.value here) ≡ wrote c s → from c (helped here helper.Count arguments) ≡ wrote d count
    → from d (line (stored p l.number)) ≡ wrote f tt → (body : Lowering (Unit {0})) → from w (counting here id variable lower upper step body) ≡ from f (counted_turns here id p s.number count body)
counting_begins w a b c d f here id variable lower upper step l u s count p arguments e is h1 h2 h3 h4 h5 body =
    writes_bind w a (lower.value here) l
    (λ l. bind (upper.value here) (λ u. bind (step.value here) (λ s. bind (helped here helper.Count (value_of l.number ∷ value_of u.number ∷ value_of s.number ∷ [])) (λ count. bind (variable.place here) (λ p. bind (line (stored p l.number)) (λ z. counted_turns here id p s.number count body)))))) h1
    ∙ writes_bind a b (upper.value here) u
    (λ u. bind (step.value here) (λ s. bind (helped here helper.Count (value_of l.number ∷ value_of u.number ∷ value_of s.number ∷ [])) (λ count. bind (variable.place here) (λ p. bind (line (stored p l.number)) (λ z. counted_turns here id p s.number count body))))) h2
    ∙ writes_bind b c (step.value here) s
    (λ s. bind (helped here helper.Count (value_of l.number ∷ value_of u.number ∷ value_of s.number ∷ [])) (λ count. bind (variable.place here) (λ p. bind (line (stored p l.number)) (λ z. counted_turns here id p s.number count body)))) h3
    ∙ writes_bind c d (helped here helper.Count (value_of l.number ∷ value_of u.number ∷ value_of s.number ∷ [])) count
    (λ count. bind (variable.place here) (λ p. bind (line (stored p l.number)) (λ z. counted_turns here id p s.number count body))) (ap (λ xs. from c (helped here helper.Count xs)) (sym e) ∙ h4)
    ∙ ap (λ act. from d (bind act (λ p. bind (line (stored p l.number)) (λ z. counted_turns here id p s.number count body)))) is
    ∙ ap (behind d.lines) (nothing_before (bind (line (stored p l.number)) (λ z. counted_turns here id p s.number count body) (drawn_by d)))
    ∙ writes_bind d f (line (stored p l.number)) tt (λ z. counted_turns here id p s.number count body) h5

-- the turns of a counted loop
pub writes_counted : (w a b c u : Written) (r : Result (Unit {0}) Memory) (around : List CStmt) (here : Location) (id : ℕ) (p : Place) (step count : ℕ) (body : Lowering (Unit {0})) (test : CExpr) → a ≡ with_lines w [] → around ≡ w.lines
    → test ≡ Binary Less (Constant 0) (value_of count) → from a (turn id body) ≡ wrote b tt → from b (stepped here p step count) ≡ wrote c tt → Writes (with_lines c around) u r (turns_end id test c.lines)
    → Writes w u r (counted_turns here id p step count body)
writes_counted w a b c u r around here id p step count body test e1 e2 e3 h1 h2 k =
    let ends = Binary Less (Constant 0) (value_of count) in
    let inside = bind (turn id body) (λ z. stepped here p step count) in
    writes_rest w (with_lines c w.lines) u r (counted_turns here id p step count body) (turns_end id ends c.lines)
    (writes_bind w (with_lines c w.lines) (captured inside) c.lines (λ lines. turns_end id ends lines)
    (writes_captured w c inside (writes_bind (with_lines w []) b (turn id body) tt (λ z. stepped here p step count) (subst (λ v. from v (turn id body) ≡ wrote b tt) e1 h1) ∙ h2)))
    (subst (λ x. Writes (with_lines c w.lines) u r (turns_end id x c.lines)) e3 (subst (λ ls. Writes (with_lines c ls) u r (turns_end id test c.lines)) e2 k))
