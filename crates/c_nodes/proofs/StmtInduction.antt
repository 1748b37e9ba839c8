-- Induction over statements, where each part of a list has the claim, and a fold at each of their shapes.
use Rattle.std.proofs.Common.{◌≡◌, List, [], ◌∷◌, map, sym, subst, ap, ◌∙◌}
use Rattle.std.specs.List.{AllByRecursion}
use Rattle.lf_base.specs.declared.name.Name.{Name}
use Rattle.c_nodes.specs.declared.tree.CType.{CType}
use Rattle.c_nodes.specs.declared.tree.CExpr.{CExpr}
use Rattle.c_nodes.specs.declared.tree.CStmt.{CStmt, CStmt-F, map-CStmt, roll-CStmt, ind-CStmt, fold-CStmt, fold-roll-CStmt}
use Rattle.c_nodes.specs.declared.tree.CStmt.TheVariants.{Declare, DeclareArray, DeclareValue, DeclarePointer, DeclareCall, Assign, AssignCall, Call, Return, ReturnValue, ReturnCall, Goto, Label, Block, While, If, IfElse, rolls-Declare, rolls-DeclareArray, rolls-DeclareValue, rolls-DeclarePointer, rolls-DeclareCall, rolls-Assign, rolls-AssignCall, rolls-Call, rolls-Return, rolls-ReturnValue, rolls-ReturnCall, rolls-Goto, rolls-Label, rolls-Block, rolls-While, rolls-If, rolls-IfElse}

-- what holds of each shape, if it holds of its parts
pub record Cases (P : CStmt → Type 0) : Type 0 where
  pub declare : (kind : CType) (name : Name) → P (Declare kind name)
  pub declare_array : (kind : CType) (name : Name) (size : CExpr) → P (DeclareArray kind name size)
  pub declare_value : (kind : CType) (name : Name) (value : CExpr) → P (DeclareValue kind name value)
  pub declare_pointer : (kind : CType) (name : Name) (value : CExpr) → P (DeclarePointer kind name value)
  pub declare_call : (kind : CType) (name : Name) (callee : Name) (arguments : List CExpr) → P (DeclareCall kind name callee arguments)
  pub assign : (target : CExpr) (value : CExpr) → P (Assign target value)
  pub assign_call : (target : CExpr) (callee : Name) (arguments : List CExpr) → P (AssignCall target callee arguments)
  pub call : (callee : Name) (arguments : List CExpr) → P (Call callee arguments)
  pub return : P Return
  pub return_value : (value : CExpr) → P (ReturnValue value)
  pub return_call : (callee : Name) (arguments : List CExpr) → P (ReturnCall callee arguments)
  pub goto : (label : Name) → P (Goto label)
  pub label : (name : Name) → P (Label name)
  pub block : (body : List CStmt) → AllByRecursion P body → P (Block body)
  pub while : (test : CExpr) (body : List CStmt) → AllByRecursion P body → P (While test body)
  pub «if» : (test : CExpr) (then_body : List CStmt) → AllByRecursion P then_body → P (If test then_body)
  pub if_else : (test : CExpr) (then_body : List CStmt) (else_body : List CStmt) → AllByRecursion P then_body → AllByRecursion P else_body → P (IfElse test then_body else_body)

abbrev Shown : (CStmt → Type 0) → Type 0
Shown P = (x : CStmt) × P x

abbrev bare : (P : CStmt → Type 0) → Shown P → CStmt
bare P e = e.0

each : (P : CStmt → Type 0) (all : List (Shown P)) → AllByRecursion P (map (bare P) all)
each P [] = tt
each P (x ∷ xs) = (x.1, each P xs)

layer : (P : CStmt → Type 0) → Cases P → (y : CStmt-F (Shown P)) → P (roll-CStmt (map-CStmt (Shown P) CStmt (bare P) y))
layer P c (CStmt-F.Declare kind name) = subst P (sym (rolls-Declare kind name)) (c.declare kind name)
layer P c (CStmt-F.DeclareArray kind name size) = subst P (sym (rolls-DeclareArray kind name size)) (c.declare_array kind name size)
layer P c (CStmt-F.DeclareValue kind name value) = subst P (sym (rolls-DeclareValue kind name value)) (c.declare_value kind name value)
layer P c (CStmt-F.DeclarePointer kind name value) = subst P (sym (rolls-DeclarePointer kind name value)) (c.declare_pointer kind name value)
layer P c (CStmt-F.DeclareCall kind name callee arguments) = subst P (sym (rolls-DeclareCall kind name callee arguments)) (c.declare_call kind name callee arguments)
layer P c (CStmt-F.Assign target value) = subst P (sym (rolls-Assign target value)) (c.assign target value)
layer P c (CStmt-F.AssignCall target callee arguments) = subst P (sym (rolls-AssignCall target callee arguments)) (c.assign_call target callee arguments)
layer P c (CStmt-F.Call callee arguments) = subst P (sym (rolls-Call callee arguments)) (c.call callee arguments)
layer P c CStmt-F.Return = subst P (sym rolls-Return) c.return
layer P c (CStmt-F.ReturnValue value) = subst P (sym (rolls-ReturnValue value)) (c.return_value value)
layer P c (CStmt-F.ReturnCall callee arguments) = subst P (sym (rolls-ReturnCall callee arguments)) (c.return_call callee arguments)
layer P c (CStmt-F.Goto label) = subst P (sym (rolls-Goto label)) (c.goto label)
layer P c (CStmt-F.Label name) = subst P (sym (rolls-Label name)) (c.label name)
layer P c (CStmt-F.Block body) = subst P (sym (rolls-Block (map (bare P) body))) (c.block (map (bare P) body) (each P body))
layer P c (CStmt-F.While test body) = subst P (sym (rolls-While test (map (bare P) body))) (c.while test (map (bare P) body) (each P body))
layer P c (CStmt-F.If test then_body) = subst P (sym (rolls-If test (map (bare P) then_body))) (c.if test (map (bare P) then_body) (each P then_body))
layer P c (CStmt-F.IfElse test then_body else_body) = subst P (sym (rolls-IfElse test (map (bare P) then_body) (map (bare P) else_body))) (c.if_else test (map (bare P) then_body) (map (bare P) else_body) (each P then_body) (each P else_body))

pub by_cases : (P : CStmt → Type 0) → Cases P → (x : CStmt) → P x
by_cases P c = ind-CStmt P (λ x y e. subst (λ z. P (roll-CStmt z)) e (layer P c y))

-- a fold at each shape
module _ (A : Type 0) (step : CStmt-F A → A) where
  abbrev pub f : CStmt → A
  f = fold-CStmt A step

  pub fold-Declare : (kind : CType) (name : Name) → f (Declare kind name) ≡ step (CStmt-F.Declare kind name)
  fold-Declare kind name = ap f (sym (rolls-Declare kind name)) ∙ fold-roll-CStmt A step (CStmt-F.Declare kind name)

  pub fold-DeclareArray : (kind : CType) (name : Name) (size : CExpr) → f (DeclareArray kind name size) ≡ step (CStmt-F.DeclareArray kind name size)
  fold-DeclareArray kind name size = ap f (sym (rolls-DeclareArray kind name size)) ∙ fold-roll-CStmt A step (CStmt-F.DeclareArray kind name size)

  pub fold-DeclareValue : (kind : CType) (name : Name) (value : CExpr) → f (DeclareValue kind name value) ≡ step (CStmt-F.DeclareValue kind name value)
  fold-DeclareValue kind name value = ap f (sym (rolls-DeclareValue kind name value)) ∙ fold-roll-CStmt A step (CStmt-F.DeclareValue kind name value)

  pub fold-DeclarePointer : (kind : CType) (name : Name) (value : CExpr) → f (DeclarePointer kind name value) ≡ step (CStmt-F.DeclarePointer kind name value)
  fold-DeclarePointer kind name value = ap f (sym (rolls-DeclarePointer kind name value)) ∙ fold-roll-CStmt A step (CStmt-F.DeclarePointer kind name value)

  pub fold-DeclareCall : (kind : CType) (name : Name) (callee : Name) (arguments : List CExpr) → f (DeclareCall kind name callee arguments) ≡ step (CStmt-F.DeclareCall kind name callee arguments)
  fold-DeclareCall kind name callee arguments = ap f (sym (rolls-DeclareCall kind name callee arguments)) ∙ fold-roll-CStmt A step (CStmt-F.DeclareCall kind name callee arguments)

  pub fold-Assign : (target : CExpr) (value : CExpr) → f (Assign target value) ≡ step (CStmt-F.Assign target value)
  fold-Assign target value = ap f (sym (rolls-Assign target value)) ∙ fold-roll-CStmt A step (CStmt-F.Assign target value)

  pub fold-AssignCall : (target : CExpr) (callee : Name) (arguments : List CExpr) → f (AssignCall target callee arguments) ≡ step (CStmt-F.AssignCall target callee arguments)
  fold-AssignCall target callee arguments = ap f (sym (rolls-AssignCall target callee arguments)) ∙ fold-roll-CStmt A step (CStmt-F.AssignCall target callee arguments)

  pub fold-Call : (callee : Name) (arguments : List CExpr) → f (Call callee arguments) ≡ step (CStmt-F.Call callee arguments)
  fold-Call callee arguments = ap f (sym (rolls-Call callee arguments)) ∙ fold-roll-CStmt A step (CStmt-F.Call callee arguments)

  pub fold-Return : f Return ≡ step CStmt-F.Return
  fold-Return = ap f (sym rolls-Return) ∙ fold-roll-CStmt A step CStmt-F.Return

  pub fold-ReturnValue : (value : CExpr) → f (ReturnValue value) ≡ step (CStmt-F.ReturnValue value)
  fold-ReturnValue value = ap f (sym (rolls-ReturnValue value)) ∙ fold-roll-CStmt A step (CStmt-F.ReturnValue value)

  pub fold-ReturnCall : (callee : Name) (arguments : List CExpr) → f (ReturnCall callee arguments) ≡ step (CStmt-F.ReturnCall callee arguments)
  fold-ReturnCall callee arguments = ap f (sym (rolls-ReturnCall callee arguments)) ∙ fold-roll-CStmt A step (CStmt-F.ReturnCall callee arguments)

  pub fold-Goto : (label : Name) → f (Goto label) ≡ step (CStmt-F.Goto label)
  fold-Goto label = ap f (sym (rolls-Goto label)) ∙ fold-roll-CStmt A step (CStmt-F.Goto label)

  pub fold-Label : (name : Name) → f (Label name) ≡ step (CStmt-F.Label name)
  fold-Label name = ap f (sym (rolls-Label name)) ∙ fold-roll-CStmt A step (CStmt-F.Label name)

  pub fold-Block : (body : List CStmt) → f (Block body) ≡ step (CStmt-F.Block (map f body))
  fold-Block body = ap f (sym (rolls-Block body)) ∙ fold-roll-CStmt A step (CStmt-F.Block body)

  pub fold-While : (test : CExpr) (body : List CStmt) → f (While test body) ≡ step (CStmt-F.While test (map f body))
  fold-While test body = ap f (sym (rolls-While test body)) ∙ fold-roll-CStmt A step (CStmt-F.While test body)

  pub fold-If : (test : CExpr) (then_body : List CStmt) → f (If test then_body) ≡ step (CStmt-F.If test (map f then_body))
  fold-If test then_body = ap f (sym (rolls-If test then_body)) ∙ fold-roll-CStmt A step (CStmt-F.If test then_body)

  pub fold-IfElse : (test : CExpr) (then_body : List CStmt) (else_body : List CStmt) → f (IfElse test then_body else_body) ≡ step (CStmt-F.IfElse test (map f then_body) (map f else_body))
  fold-IfElse test then_body else_body = ap f (sym (rolls-IfElse test then_body else_body)) ∙ fold-roll-CStmt A step (CStmt-F.IfElse test then_body else_body)
