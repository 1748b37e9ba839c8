-- The text of each shape of a statement, and what the printing functions cite.
use Rattle.std.proofs.Common.{◌≡◌, ℕ, List, [], ◌∷◌, codes, Option, option_map, sym, ◌∙◌}
use Rattle.std.specs.Fmt.{decimal}
use Rattle.lf_base.specs.declared.name.Name.{Name}
use Rattle.ast_nodes.specs.declared.expression.Expr.{Expr}
use Rattle.ast_nodes.specs.declared.expression.Designator.{Designator}
use Rattle.ast_nodes.specs.declared.statement.Statement.{Statement}
use Rattle.ast_nodes.specs.declared.statement.Statement.TheVariants.{Assign, If, Do, While, Select, Call, Print, Read, Stop, Exit, Cycle, Return, Continue}
use Rattle.ast_nodes.specs.declared.statement.Arm.{Arm}
use Rattle.ast_nodes.specs.declared.statement.Case.{Case}
use Rattle.ast_nodes.specs.Node.{node, apart, listed, optional}
use Rattle.ast_nodes.specs.Exprs.{Text, expr_text, expr_texts, designator_text}
use Rattle.ast_nodes.specs.Text.{range_texts, stmt_layer, arm_layer, case_layer, stmt_text, stmt_texts, arm_text, arm_texts, case_text, case_texts}
use Rattle.ast_nodes.proofs.Chains.{chains, apart_node}
use Rattle.ast_nodes.proofs.StmtFolds as statements

pub stmt_text-Assign : (line : ℕ) (target : Designator) (value : Expr) → stmt_text (Assign line target value) ≡ node (codes "Assign") (decimal line ∷ designator_text target ∷ expr_text value ∷ [])
stmt_text-Assign line target value = statements.fold-Assign Text Text Text stmt_layer arm_layer case_layer line target value

pub stmt_text-If : (line : ℕ) (construct : Option Name) (arms : List Arm) → stmt_text (If line construct arms) ≡ apart (codes "If") (decimal line ∷ optional construct ∷ []) (listed (arm_texts arms) ∷ [])
stmt_text-If line construct arms = statements.fold-If Text Text Text stmt_layer arm_layer case_layer line construct arms ∙ sym (apart_node (codes "If") (decimal line ∷ optional construct ∷ []) (listed (arm_texts arms) ∷ []))

pub stmt_text-Do : (line : ℕ) (construct : Option Name) (variable : Name) (lower : Expr) (upper : Expr) (step : Option Expr) (body : List Statement) → stmt_text (Do line construct variable lower upper step body) ≡ apart (codes "Do") (decimal line ∷ optional construct ∷ variable ∷ expr_text lower ∷ expr_text upper ∷ []) (optional (option_map expr_text step) ∷ listed (stmt_texts body) ∷ [])
stmt_text-Do line construct variable lower upper step body = statements.fold-Do Text Text Text stmt_layer arm_layer case_layer line construct variable lower upper step body ∙ sym (apart_node (codes "Do") (decimal line ∷ optional construct ∷ variable ∷ expr_text lower ∷ expr_text upper ∷ []) (optional (option_map expr_text step) ∷ listed (stmt_texts body) ∷ []))

pub stmt_text-While : (line : ℕ) (construct : Option Name) (condition : Option Expr) (body : List Statement) → stmt_text (While line construct condition body) ≡ apart (codes "While") (decimal line ∷ optional construct ∷ []) (optional (option_map expr_text condition) ∷ listed (stmt_texts body) ∷ [])
stmt_text-While line construct condition body = statements.fold-While Text Text Text stmt_layer arm_layer case_layer line construct condition body ∙ sym (apart_node (codes "While") (decimal line ∷ optional construct ∷ []) (optional (option_map expr_text condition) ∷ listed (stmt_texts body) ∷ []))

pub stmt_text-Select : (line : ℕ) (construct : Option Name) (value : Expr) (cases : List Case) → stmt_text (Select line construct value cases) ≡ apart (codes "Select") (decimal line ∷ optional construct ∷ expr_text value ∷ []) (listed (case_texts cases) ∷ [])
stmt_text-Select line construct value cases = statements.fold-Select Text Text Text stmt_layer arm_layer case_layer line construct value cases ∙ sym (apart_node (codes "Select") (decimal line ∷ optional construct ∷ expr_text value ∷ []) (listed (case_texts cases) ∷ []))

pub stmt_text-Call : (line : ℕ) (name : Name) (arguments : List Expr) → stmt_text (Call line name arguments) ≡ node (codes "Call") (decimal line ∷ name ∷ listed (expr_texts arguments) ∷ [])
stmt_text-Call line name arguments = statements.fold-Call Text Text Text stmt_layer arm_layer case_layer line name arguments

pub stmt_text-Print : (line : ℕ) (form : ℕ) (advance : ℕ) (items : List Expr) → stmt_text (Print line form advance items) ≡ node (codes "Print") (decimal line ∷ decimal form ∷ decimal advance ∷ listed (expr_texts items) ∷ [])
stmt_text-Print line form advance items = statements.fold-Print Text Text Text stmt_layer arm_layer case_layer line form advance items

pub stmt_text-Read : (line : ℕ) (target : Designator) (iostat : Option Designator) → stmt_text (Read line target iostat) ≡ node (codes "Read") (decimal line ∷ designator_text target ∷ optional (option_map designator_text iostat) ∷ [])
stmt_text-Read line target iostat = statements.fold-Read Text Text Text stmt_layer arm_layer case_layer line target iostat

pub stmt_text-Stop : (line : ℕ) (is_error : ℕ) (code : Option Expr) → stmt_text (Stop line is_error code) ≡ node (codes "Stop") (decimal line ∷ decimal is_error ∷ optional (option_map expr_text code) ∷ [])
stmt_text-Stop line is_error code = statements.fold-Stop Text Text Text stmt_layer arm_layer case_layer line is_error code

pub stmt_text-Exit : (line : ℕ) (construct : Option Name) → stmt_text (Exit line construct) ≡ node (codes "Exit") (decimal line ∷ optional construct ∷ [])
stmt_text-Exit line construct = statements.fold-Exit Text Text Text stmt_layer arm_layer case_layer line construct

pub stmt_text-Cycle : (line : ℕ) (construct : Option Name) → stmt_text (Cycle line construct) ≡ node (codes "Cycle") (decimal line ∷ optional construct ∷ [])
stmt_text-Cycle line construct = statements.fold-Cycle Text Text Text stmt_layer arm_layer case_layer line construct

pub stmt_text-Return : (line : ℕ) → stmt_text (Return line) ≡ node (codes "Return") (decimal line ∷ [])
stmt_text-Return line = statements.fold-Return Text Text Text stmt_layer arm_layer case_layer line

pub stmt_text-Continue : (line : ℕ) → stmt_text (Continue line) ≡ node (codes "Continue") (decimal line ∷ [])
stmt_text-Continue line = statements.fold-Continue Text Text Text stmt_layer arm_layer case_layer line

pub arm_text-arm : (it : Arm) → arm_text it ≡ node (codes "Arm") (decimal it.line ∷ optional (option_map expr_text it.condition) ∷ listed (stmt_texts it.body) ∷ [])
arm_text-arm it = statements.fold-arm Text Text Text stmt_layer arm_layer case_layer it

pub case_text-case : (it : Case) → case_text it ≡ apart (codes "Case") (decimal it.line ∷ decimal it.is_default ∷ []) (listed (range_texts it.ranges) ∷ listed (stmt_texts it.body) ∷ [])
case_text-case it = statements.fold-case Text Text Text stmt_layer arm_layer case_layer it ∙ sym (apart_node (codes "Case") (decimal it.line ∷ decimal it.is_default ∷ []) (listed (range_texts it.ranges) ∷ listed (stmt_texts it.body) ∷ []))

pub ruleset shapes = (stmt_text-Assign, stmt_text-If, stmt_text-Do, stmt_text-While, stmt_text-Select, stmt_text-Call, stmt_text-Print, stmt_text-Read, stmt_text-Stop, stmt_text-Exit, stmt_text-Cycle, stmt_text-Return, stmt_text-Continue, arm_text-arm, case_text-case)

pub ruleset texts = (chains, shapes)
