-- What each shape of a statement does, by what its parts do.
use Rattle.std.proofs.Common.{◌≡◌, ℕ, List, map, Some, None, ap}
use Rattle.lf_base.specs.declared.name.Name.{Name}
use Rattle.lf_base.specs.Outcome.{Written}
use Rattle.c_nodes.specs.declared.tree.CType.{CType}
use Rattle.c_nodes.specs.declared.tree.CExpr.{CExpr}
use Rattle.c_nodes.specs.declared.tree.CStmt.{CStmt, CStmt-F}
use Rattle.c_nodes.specs.declared.tree.CStmt.TheVariants.{Declare, DeclareArray, DeclareValue, DeclarePointer, DeclareCall, Assign, AssignCall, Call, Return, ReturnValue, ReturnCall, Goto, Label, Block, While, If, IfElse}
use Rattle.c_semantics.specs.CState.{State}
use Rattle.c_semantics.specs.CMeaning.{Calls, Clause, clause_layer, clause, statement_layer, statement}
use Rattle.c_nodes.proofs.StmtInduction.{fold-Declare, fold-DeclareArray, fold-DeclareValue, fold-DeclarePointer, fold-DeclareCall, fold-Assign, fold-AssignCall, fold-Call, fold-Return, fold-ReturnValue, fold-ReturnCall, fold-Goto, fold-Label, fold-Block, fold-While, fold-If, fold-IfElse}

module _ (n : ℕ) (calls : Calls) where
  pub clause-Declare : (kind : CType) (name : Name) → clause n calls (Declare kind name) ≡ clause_layer n calls (CStmt-F.Declare kind name)
  clause-Declare kind name = fold-Declare Clause (clause_layer n calls) kind name

  pub does-Declare : (kind : CType) (name : Name) → statement n calls (Declare kind name) ≡ statement_layer n calls (CStmt-F.Declare kind name)
  does-Declare kind name = ap (λ c. c.does) (clause-Declare kind name)

  pub clause-DeclareArray : (kind : CType) (name : Name) (size : CExpr) → clause n calls (DeclareArray kind name size) ≡ clause_layer n calls (CStmt-F.DeclareArray kind name size)
  clause-DeclareArray kind name size = fold-DeclareArray Clause (clause_layer n calls) kind name size

  pub does-DeclareArray : (kind : CType) (name : Name) (size : CExpr) → statement n calls (DeclareArray kind name size) ≡ statement_layer n calls (CStmt-F.DeclareArray kind name size)
  does-DeclareArray kind name size = ap (λ c. c.does) (clause-DeclareArray kind name size)

  pub clause-DeclareValue : (kind : CType) (name : Name) (value : CExpr) → clause n calls (DeclareValue kind name value) ≡ clause_layer n calls (CStmt-F.DeclareValue kind name value)
  clause-DeclareValue kind name value = fold-DeclareValue Clause (clause_layer n calls) kind name value

  pub does-DeclareValue : (kind : CType) (name : Name) (value : CExpr) → statement n calls (DeclareValue kind name value) ≡ statement_layer n calls (CStmt-F.DeclareValue kind name value)
  does-DeclareValue kind name value = ap (λ c. c.does) (clause-DeclareValue kind name value)

  pub clause-DeclarePointer : (kind : CType) (name : Name) (value : CExpr) → clause n calls (DeclarePointer kind name value) ≡ clause_layer n calls (CStmt-F.DeclarePointer kind name value)
  clause-DeclarePointer kind name value = fold-DeclarePointer Clause (clause_layer n calls) kind name value

  pub does-DeclarePointer : (kind : CType) (name : Name) (value : CExpr) → statement n calls (DeclarePointer kind name value) ≡ statement_layer n calls (CStmt-F.DeclarePointer kind name value)
  does-DeclarePointer kind name value = ap (λ c. c.does) (clause-DeclarePointer kind name value)

  pub clause-DeclareCall : (kind : CType) (name : Name) (callee : Name) (arguments : List CExpr) → clause n calls (DeclareCall kind name callee arguments) ≡ clause_layer n calls (CStmt-F.DeclareCall kind name callee arguments)
  clause-DeclareCall kind name callee arguments = fold-DeclareCall Clause (clause_layer n calls) kind name callee arguments

  pub does-DeclareCall : (kind : CType) (name : Name) (callee : Name) (arguments : List CExpr) → statement n calls (DeclareCall kind name callee arguments) ≡ statement_layer n calls (CStmt-F.DeclareCall kind name callee arguments)
  does-DeclareCall kind name callee arguments = ap (λ c. c.does) (clause-DeclareCall kind name callee arguments)

  pub clause-Assign : (target : CExpr) (value : CExpr) → clause n calls (Assign target value) ≡ clause_layer n calls (CStmt-F.Assign target value)
  clause-Assign target value = fold-Assign Clause (clause_layer n calls) target value

  pub does-Assign : (target : CExpr) (value : CExpr) → statement n calls (Assign target value) ≡ statement_layer n calls (CStmt-F.Assign target value)
  does-Assign target value = ap (λ c. c.does) (clause-Assign target value)

  pub clause-AssignCall : (target : CExpr) (callee : Name) (arguments : List CExpr) → clause n calls (AssignCall target callee arguments) ≡ clause_layer n calls (CStmt-F.AssignCall target callee arguments)
  clause-AssignCall target callee arguments = fold-AssignCall Clause (clause_layer n calls) target callee arguments

  pub does-AssignCall : (target : CExpr) (callee : Name) (arguments : List CExpr) → statement n calls (AssignCall target callee arguments) ≡ statement_layer n calls (CStmt-F.AssignCall target callee arguments)
  does-AssignCall target callee arguments = ap (λ c. c.does) (clause-AssignCall target callee arguments)

  pub clause-Call : (callee : Name) (arguments : List CExpr) → clause n calls (Call callee arguments) ≡ clause_layer n calls (CStmt-F.Call callee arguments)
  clause-Call callee arguments = fold-Call Clause (clause_layer n calls) callee arguments

  pub does-Call : (callee : Name) (arguments : List CExpr) → statement n calls (Call callee arguments) ≡ statement_layer n calls (CStmt-F.Call callee arguments)
  does-Call callee arguments = ap (λ c. c.does) (clause-Call callee arguments)

  pub clause-Return : clause n calls Return ≡ clause_layer n calls CStmt-F.Return
  clause-Return = fold-Return Clause (clause_layer n calls)

  pub does-Return : statement n calls Return ≡ statement_layer n calls CStmt-F.Return
  does-Return = ap (λ c. c.does) (clause-Return)

  pub clause-ReturnValue : (value : CExpr) → clause n calls (ReturnValue value) ≡ clause_layer n calls (CStmt-F.ReturnValue value)
  clause-ReturnValue value = fold-ReturnValue Clause (clause_layer n calls) value

  pub does-ReturnValue : (value : CExpr) → statement n calls (ReturnValue value) ≡ statement_layer n calls (CStmt-F.ReturnValue value)
  does-ReturnValue value = ap (λ c. c.does) (clause-ReturnValue value)

  pub clause-ReturnCall : (callee : Name) (arguments : List CExpr) → clause n calls (ReturnCall callee arguments) ≡ clause_layer n calls (CStmt-F.ReturnCall callee arguments)
  clause-ReturnCall callee arguments = fold-ReturnCall Clause (clause_layer n calls) callee arguments

  pub does-ReturnCall : (callee : Name) (arguments : List CExpr) → statement n calls (ReturnCall callee arguments) ≡ statement_layer n calls (CStmt-F.ReturnCall callee arguments)
  does-ReturnCall callee arguments = ap (λ c. c.does) (clause-ReturnCall callee arguments)

  pub clause-Goto : (label : Name) → clause n calls (Goto label) ≡ clause_layer n calls (CStmt-F.Goto label)
  clause-Goto label = fold-Goto Clause (clause_layer n calls) label

  pub does-Goto : (label : Name) → statement n calls (Goto label) ≡ statement_layer n calls (CStmt-F.Goto label)
  does-Goto label = ap (λ c. c.does) (clause-Goto label)

  pub clause-Label : (name : Name) → clause n calls (Label name) ≡ clause_layer n calls (CStmt-F.Label name)
  clause-Label name = fold-Label Clause (clause_layer n calls) name

  pub does-Label : (name : Name) → statement n calls (Label name) ≡ statement_layer n calls (CStmt-F.Label name)
  does-Label name = ap (λ c. c.does) (clause-Label name)

  pub clause-Block : (body : List CStmt) → clause n calls (Block body) ≡ clause_layer n calls (CStmt-F.Block (map (clause n calls) body))
  clause-Block body = fold-Block Clause (clause_layer n calls) body

  pub does-Block : (body : List CStmt) → statement n calls (Block body) ≡ statement_layer n calls (CStmt-F.Block (map (clause n calls) body))
  does-Block body = ap (λ c. c.does) (clause-Block body)

  pub clause-While : (test : CExpr) (body : List CStmt) → clause n calls (While test body) ≡ clause_layer n calls (CStmt-F.While test (map (clause n calls) body))
  clause-While test body = fold-While Clause (clause_layer n calls) test body

  pub does-While : (test : CExpr) (body : List CStmt) → statement n calls (While test body) ≡ statement_layer n calls (CStmt-F.While test (map (clause n calls) body))
  does-While test body = ap (λ c. c.does) (clause-While test body)

  pub clause-If : (test : CExpr) (then_body : List CStmt) → clause n calls (If test then_body) ≡ clause_layer n calls (CStmt-F.If test (map (clause n calls) then_body))
  clause-If test then_body = fold-If Clause (clause_layer n calls) test then_body

  pub does-If : (test : CExpr) (then_body : List CStmt) → statement n calls (If test then_body) ≡ statement_layer n calls (CStmt-F.If test (map (clause n calls) then_body))
  does-If test then_body = ap (λ c. c.does) (clause-If test then_body)

  pub clause-IfElse : (test : CExpr) (then_body : List CStmt) (else_body : List CStmt) → clause n calls (IfElse test then_body else_body) ≡ clause_layer n calls (CStmt-F.IfElse test (map (clause n calls) then_body) (map (clause n calls) else_body))
  clause-IfElse test then_body else_body = fold-IfElse Clause (clause_layer n calls) test then_body else_body

  pub does-IfElse : (test : CExpr) (then_body : List CStmt) (else_body : List CStmt) → statement n calls (IfElse test then_body else_body) ≡ statement_layer n calls (CStmt-F.IfElse test (map (clause n calls) then_body) (map (clause n calls) else_body))
  does-IfElse test then_body else_body = ap (λ c. c.does) (clause-IfElse test then_body else_body)

  pub label-Declare : (kind : CType) (name : Name) → (clause n calls (Declare kind name)).label ≡ None
  label-Declare kind name = ap (λ c. c.label) (clause-Declare kind name)

  pub label-DeclareArray : (kind : CType) (name : Name) (size : CExpr) → (clause n calls (DeclareArray kind name size)).label ≡ None
  label-DeclareArray kind name size = ap (λ c. c.label) (clause-DeclareArray kind name size)

  pub label-DeclareValue : (kind : CType) (name : Name) (value : CExpr) → (clause n calls (DeclareValue kind name value)).label ≡ None
  label-DeclareValue kind name value = ap (λ c. c.label) (clause-DeclareValue kind name value)

  pub label-DeclarePointer : (kind : CType) (name : Name) (value : CExpr) → (clause n calls (DeclarePointer kind name value)).label ≡ None
  label-DeclarePointer kind name value = ap (λ c. c.label) (clause-DeclarePointer kind name value)

  pub label-DeclareCall : (kind : CType) (name : Name) (callee : Name) (arguments : List CExpr) → (clause n calls (DeclareCall kind name callee arguments)).label ≡ None
  label-DeclareCall kind name callee arguments = ap (λ c. c.label) (clause-DeclareCall kind name callee arguments)

  pub label-Assign : (target : CExpr) (value : CExpr) → (clause n calls (Assign target value)).label ≡ None
  label-Assign target value = ap (λ c. c.label) (clause-Assign target value)

  pub label-AssignCall : (target : CExpr) (callee : Name) (arguments : List CExpr) → (clause n calls (AssignCall target callee arguments)).label ≡ None
  label-AssignCall target callee arguments = ap (λ c. c.label) (clause-AssignCall target callee arguments)

  pub label-Call : (callee : Name) (arguments : List CExpr) → (clause n calls (Call callee arguments)).label ≡ None
  label-Call callee arguments = ap (λ c. c.label) (clause-Call callee arguments)

  pub label-Return : (clause n calls Return).label ≡ None
  label-Return = ap (λ c. c.label) (clause-Return)

  pub label-ReturnValue : (value : CExpr) → (clause n calls (ReturnValue value)).label ≡ None
  label-ReturnValue value = ap (λ c. c.label) (clause-ReturnValue value)

  pub label-ReturnCall : (callee : Name) (arguments : List CExpr) → (clause n calls (ReturnCall callee arguments)).label ≡ None
  label-ReturnCall callee arguments = ap (λ c. c.label) (clause-ReturnCall callee arguments)

  pub label-Goto : (label : Name) → (clause n calls (Goto label)).label ≡ None
  label-Goto label = ap (λ c. c.label) (clause-Goto label)

  pub label-Label : (name : Name) → (clause n calls (Label name)).label ≡ Some name
  label-Label name = ap (λ c. c.label) (clause-Label name)

  pub label-Block : (body : List CStmt) → (clause n calls (Block body)).label ≡ None
  label-Block body = ap (λ c. c.label) (clause-Block body)

  pub label-While : (test : CExpr) (body : List CStmt) → (clause n calls (While test body)).label ≡ None
  label-While test body = ap (λ c. c.label) (clause-While test body)

  pub label-If : (test : CExpr) (then_body : List CStmt) → (clause n calls (If test then_body)).label ≡ None
  label-If test then_body = ap (λ c. c.label) (clause-If test then_body)

  pub label-IfElse : (test : CExpr) (then_body : List CStmt) (else_body : List CStmt) → (clause n calls (IfElse test then_body else_body)).label ≡ None
  label-IfElse test then_body else_body = ap (λ c. c.label) (clause-IfElse test then_body else_body)

  pub runs-Declare : (kind : CType) (name : Name) (s : State) (w : Written) → statement n calls (Declare kind name) s w ≡ statement_layer n calls (CStmt-F.Declare kind name) s w
  runs-Declare kind name s w = ap (λ f. f s w) (does-Declare kind name)

  pub runs-DeclareArray : (kind : CType) (name : Name) (size : CExpr) (s : State) (w : Written) → statement n calls (DeclareArray kind name size) s w ≡ statement_layer n calls (CStmt-F.DeclareArray kind name size) s w
  runs-DeclareArray kind name size s w = ap (λ f. f s w) (does-DeclareArray kind name size)

  pub runs-DeclareValue : (kind : CType) (name : Name) (value : CExpr) (s : State) (w : Written) → statement n calls (DeclareValue kind name value) s w ≡ statement_layer n calls (CStmt-F.DeclareValue kind name value) s w
  runs-DeclareValue kind name value s w = ap (λ f. f s w) (does-DeclareValue kind name value)

  pub runs-DeclarePointer : (kind : CType) (name : Name) (value : CExpr) (s : State) (w : Written) → statement n calls (DeclarePointer kind name value) s w ≡ statement_layer n calls (CStmt-F.DeclarePointer kind name value) s w
  runs-DeclarePointer kind name value s w = ap (λ f. f s w) (does-DeclarePointer kind name value)

  pub runs-DeclareCall : (kind : CType) (name : Name) (callee : Name) (arguments : List CExpr) (s : State) (w : Written) → statement n calls (DeclareCall kind name callee arguments) s w ≡ statement_layer n calls (CStmt-F.DeclareCall kind name callee arguments) s w
  runs-DeclareCall kind name callee arguments s w = ap (λ f. f s w) (does-DeclareCall kind name callee arguments)

  pub runs-Assign : (target : CExpr) (value : CExpr) (s : State) (w : Written) → statement n calls (Assign target value) s w ≡ statement_layer n calls (CStmt-F.Assign target value) s w
  runs-Assign target value s w = ap (λ f. f s w) (does-Assign target value)

  pub runs-AssignCall : (target : CExpr) (callee : Name) (arguments : List CExpr) (s : State) (w : Written) → statement n calls (AssignCall target callee arguments) s w ≡ statement_layer n calls (CStmt-F.AssignCall target callee arguments) s w
  runs-AssignCall target callee arguments s w = ap (λ f. f s w) (does-AssignCall target callee arguments)

  pub runs-Call : (callee : Name) (arguments : List CExpr) (s : State) (w : Written) → statement n calls (Call callee arguments) s w ≡ statement_layer n calls (CStmt-F.Call callee arguments) s w
  runs-Call callee arguments s w = ap (λ f. f s w) (does-Call callee arguments)

  pub runs-Return : (s : State) (w : Written) → statement n calls Return s w ≡ statement_layer n calls CStmt-F.Return s w
  runs-Return s w = ap (λ f. f s w) (does-Return)

  pub runs-ReturnValue : (value : CExpr) (s : State) (w : Written) → statement n calls (ReturnValue value) s w ≡ statement_layer n calls (CStmt-F.ReturnValue value) s w
  runs-ReturnValue value s w = ap (λ f. f s w) (does-ReturnValue value)

  pub runs-ReturnCall : (callee : Name) (arguments : List CExpr) (s : State) (w : Written) → statement n calls (ReturnCall callee arguments) s w ≡ statement_layer n calls (CStmt-F.ReturnCall callee arguments) s w
  runs-ReturnCall callee arguments s w = ap (λ f. f s w) (does-ReturnCall callee arguments)

  pub runs-Goto : (label : Name) (s : State) (w : Written) → statement n calls (Goto label) s w ≡ statement_layer n calls (CStmt-F.Goto label) s w
  runs-Goto label s w = ap (λ f. f s w) (does-Goto label)

  pub runs-Label : (name : Name) (s : State) (w : Written) → statement n calls (Label name) s w ≡ statement_layer n calls (CStmt-F.Label name) s w
  runs-Label name s w = ap (λ f. f s w) (does-Label name)

  pub runs-Block : (body : List CStmt) (s : State) (w : Written) → statement n calls (Block body) s w ≡ statement_layer n calls (CStmt-F.Block (map (clause n calls) body)) s w
  runs-Block body s w = ap (λ f. f s w) (does-Block body)

  pub runs-While : (test : CExpr) (body : List CStmt) (s : State) (w : Written) → statement n calls (While test body) s w ≡ statement_layer n calls (CStmt-F.While test (map (clause n calls) body)) s w
  runs-While test body s w = ap (λ f. f s w) (does-While test body)

  pub runs-If : (test : CExpr) (then_body : List CStmt) (s : State) (w : Written) → statement n calls (If test then_body) s w ≡ statement_layer n calls (CStmt-F.If test (map (clause n calls) then_body)) s w
  runs-If test then_body s w = ap (λ f. f s w) (does-If test then_body)

  pub runs-IfElse : (test : CExpr) (then_body : List CStmt) (else_body : List CStmt) (s : State) (w : Written) → statement n calls (IfElse test then_body else_body) s w ≡ statement_layer n calls (CStmt-F.IfElse test (map (clause n calls) then_body) (map (clause n calls) else_body)) s w
  runs-IfElse test then_body else_body s w = ap (λ f. f s w) (does-IfElse test then_body else_body)

pub ruleset deeds = (runs-Declare, runs-DeclareArray, runs-DeclareValue, runs-DeclarePointer, runs-DeclareCall, runs-Assign, runs-AssignCall, runs-Call, runs-Return, runs-ReturnValue, runs-ReturnCall, runs-Goto, runs-Label, runs-Block, runs-While, runs-If, runs-IfElse, label-Declare, label-DeclareArray, label-DeclareValue, label-DeclarePointer, label-DeclareCall, label-Assign, label-AssignCall, label-Call, label-Return, label-ReturnValue, label-ReturnCall, label-Goto, label-Label, label-Block, label-While, label-If, label-IfElse)
