-- A fold over a statement at each of its shapes.
use Rattle.std.proofs.Common.{◌≡◌, ℕ, List, map, Option, sym, ap, ◌∙◌}
use Rattle.lf_base.specs.declared.name.Name.{Name}
use Rattle.ast_nodes.specs.declared.expression.Expr.{Expr}
use Rattle.ast_nodes.specs.declared.expression.Designator.{Designator}
use Rattle.ast_nodes.specs.declared.statement.Statement.{Statement, Statement-F, fold-Statement, fold-roll-Statement}
use Rattle.ast_nodes.specs.declared.statement.Statement.TheVariants.{Assign, If, Do, While, Select, Call, Print, Read, Stop, Exit, Cycle, Return, Continue, rolls-Assign, rolls-If, rolls-Do, rolls-While, rolls-Select, rolls-Call, rolls-Print, rolls-Read, rolls-Stop, rolls-Exit, rolls-Cycle, rolls-Return, rolls-Continue}
use Rattle.ast_nodes.specs.declared.statement.Arm.{Arm, Arm-F, fold-Arm, fold-roll-Arm}
use Rattle.ast_nodes.specs.declared.statement.Case.{Case, Case-F, fold-Case, fold-roll-Case}

module _ (A B C : Type 0) (stmt : Statement-F A B C → A) (arm : Arm-F A B C → B) (part : Case-F A B C → C) where
  abbrev pub s : Statement → A
  s = fold-Statement A B C stmt arm part

  abbrev pub a : Arm → B
  a = fold-Arm A B C stmt arm part

  abbrev pub k : Case → C
  k = fold-Case A B C stmt arm part

  pub fold-Assign : (line : ℕ) (target : Designator) (value : Expr) → s (Assign line target value) ≡ stmt (Statement-F.Assign line target value)
  fold-Assign line target value = ap s (sym (rolls-Assign line target value)) ∙ fold-roll-Statement A B C stmt arm part (Statement-F.Assign line target value)

  pub fold-If : (line : ℕ) (construct : Option Name) (arms : List Arm) → s (If line construct arms) ≡ stmt (Statement-F.If line construct (map a arms))
  fold-If line construct arms = ap s (sym (rolls-If line construct arms)) ∙ fold-roll-Statement A B C stmt arm part (Statement-F.If line construct arms)

  pub fold-Do : (line : ℕ) (construct : Option Name) (variable : Name) (lower : Expr) (upper : Expr) (step : Option Expr) (body : List Statement) → s (Do line construct variable lower upper step body) ≡ stmt (Statement-F.Do line construct variable lower upper step (map s body))
  fold-Do line construct variable lower upper step body = ap s (sym (rolls-Do line construct variable lower upper step body)) ∙ fold-roll-Statement A B C stmt arm part (Statement-F.Do line construct variable lower upper step body)

  pub fold-While : (line : ℕ) (construct : Option Name) (condition : Option Expr) (body : List Statement) → s (While line construct condition body) ≡ stmt (Statement-F.While line construct condition (map s body))
  fold-While line construct condition body = ap s (sym (rolls-While line construct condition body)) ∙ fold-roll-Statement A B C stmt arm part (Statement-F.While line construct condition body)

  pub fold-Select : (line : ℕ) (construct : Option Name) (value : Expr) (cases : List Case) → s (Select line construct value cases) ≡ stmt (Statement-F.Select line construct value (map k cases))
  fold-Select line construct value cases = ap s (sym (rolls-Select line construct value cases)) ∙ fold-roll-Statement A B C stmt arm part (Statement-F.Select line construct value cases)

  pub fold-Call : (line : ℕ) (name : Name) (arguments : List Expr) → s (Call line name arguments) ≡ stmt (Statement-F.Call line name arguments)
  fold-Call line name arguments = ap s (sym (rolls-Call line name arguments)) ∙ fold-roll-Statement A B C stmt arm part (Statement-F.Call line name arguments)

  pub fold-Print : (line : ℕ) (form : ℕ) (advance : ℕ) (items : List Expr) → s (Print line form advance items) ≡ stmt (Statement-F.Print line form advance items)
  fold-Print line form advance items = ap s (sym (rolls-Print line form advance items)) ∙ fold-roll-Statement A B C stmt arm part (Statement-F.Print line form advance items)

  pub fold-Read : (line : ℕ) (target : Designator) (iostat : Option Designator) → s (Read line target iostat) ≡ stmt (Statement-F.Read line target iostat)
  fold-Read line target iostat = ap s (sym (rolls-Read line target iostat)) ∙ fold-roll-Statement A B C stmt arm part (Statement-F.Read line target iostat)

  pub fold-Stop : (line : ℕ) (is_error : ℕ) (code : Option Expr) → s (Stop line is_error code) ≡ stmt (Statement-F.Stop line is_error code)
  fold-Stop line is_error code = ap s (sym (rolls-Stop line is_error code)) ∙ fold-roll-Statement A B C stmt arm part (Statement-F.Stop line is_error code)

  pub fold-Exit : (line : ℕ) (construct : Option Name) → s (Exit line construct) ≡ stmt (Statement-F.Exit line construct)
  fold-Exit line construct = ap s (sym (rolls-Exit line construct)) ∙ fold-roll-Statement A B C stmt arm part (Statement-F.Exit line construct)

  pub fold-Cycle : (line : ℕ) (construct : Option Name) → s (Cycle line construct) ≡ stmt (Statement-F.Cycle line construct)
  fold-Cycle line construct = ap s (sym (rolls-Cycle line construct)) ∙ fold-roll-Statement A B C stmt arm part (Statement-F.Cycle line construct)

  pub fold-Return : (line : ℕ) → s (Return line) ≡ stmt (Statement-F.Return line)
  fold-Return line = ap s (sym (rolls-Return line)) ∙ fold-roll-Statement A B C stmt arm part (Statement-F.Return line)

  pub fold-Continue : (line : ℕ) → s (Continue line) ≡ stmt (Statement-F.Continue line)
  fold-Continue line = ap s (sym (rolls-Continue line)) ∙ fold-roll-Statement A B C stmt arm part (Statement-F.Continue line)

  pub fold-arm : (it : Arm) → a it ≡ arm (record { line = it.line; condition = it.condition; body = map s it.body })
  fold-arm it = fold-roll-Arm A B C stmt arm part (record { line = it.line; condition = it.condition; body = it.body })

  pub fold-case : (it : Case) → k it ≡ part (record { line = it.line; is_default = it.is_default; ranges = it.ranges; body = map s it.body })
  fold-case it = fold-roll-Case A B C stmt arm part (record { line = it.line; is_default = it.is_default; ranges = it.ranges; body = it.body })
