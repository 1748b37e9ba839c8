-- Statements in which nothing jumps: their labels stand right, and each jump leads to its label.
use Rattle.std.proofs.Common.{◌≡◌, ℕ, true, ◌&&◌, List, [], ◌∷◌, ◌++◌, map, refl, ap, ◌∙◌}
use Rattle.std.specs.List.{AllByRecursion}
use Rattle.lf_base.specs.declared.name.Name.{Name}
use Rattle.c_nodes.specs.declared.tree.CType.{CType}
use Rattle.c_nodes.specs.declared.tree.CExpr.{CExpr}
use Rattle.c_nodes.specs.declared.tree.CStmt.{CStmt}
use Rattle.c_nodes.specs.declared.tree.CStmt.TheVariants.{DeclareValue, DeclareCall, Call, Return, ReturnValue, Block}
use Rattle.c_nodes.specs.Grammar.{IsOther, other_if, are_last, mark_of, has_last_labels}
use Rattle.c_semantics.specs.Linking.{are_different}
use Rattle.c_semantics.specs.Program.{label_behind, lead_in, jumps, all_labels, labels}
use Rattle.c_nodes.proofs.GrammarShapes.{mark_of-DeclareValue, mark_of-DeclareCall, mark_of-Call, mark_of-Return, mark_of-ReturnValue, mark_of-Block}
use Rattle.c_semantics.proofs.JumpShapes.{jumps-DeclareValue, jumps-DeclareCall, jumps-Call, jumps-Return, jumps-ReturnValue, jumps-Block, labels-DeclareValue, labels-DeclareCall, labels-Call, labels-Return, labels-ReturnValue, labels-Block}

pub record Plain (s : CStmt) : Type 0 where
  pub mark : mark_of s ≡ IsOther
  pub lead : (outer : List (List ℕ)) → (jumps s).lead outer ≡ true
  pub labels : labels s ≡ []

pub plain_value : (kind : CType) (name : Name) (value : CExpr) → Plain (DeclareValue kind name value)
plain_value kind name value = record { mark = mark_of-DeclareValue kind name value; lead = λ outer. ap (λ j. j.lead outer) (jumps-DeclareValue kind name value); labels = labels-DeclareValue kind name value }

pub plain_call_value : (kind : CType) (name callee : Name) (arguments : List CExpr) → Plain (DeclareCall kind name callee arguments)
plain_call_value kind name callee arguments = record { mark = mark_of-DeclareCall kind name callee arguments; lead = λ outer. ap (λ j. j.lead outer) (jumps-DeclareCall kind name callee arguments); labels = labels-DeclareCall kind name callee arguments }

pub plain_call : (callee : Name) (arguments : List CExpr) → Plain (Call callee arguments)
plain_call callee arguments = record { mark = mark_of-Call callee arguments; lead = λ outer. ap (λ j. j.lead outer) (jumps-Call callee arguments); labels = labels-Call callee arguments }

pub plain_return : Plain Return
plain_return = record { mark = mark_of-Return; lead = λ outer. ap (λ j. j.lead outer) jumps-Return; labels = labels-Return }

pub plain_return_value : (value : CExpr) → Plain (ReturnValue value)
plain_return_value value = record { mark = mark_of-ReturnValue value; lead = λ outer. ap (λ j. j.lead outer) (jumps-ReturnValue value); labels = labels-ReturnValue value }

pub plain_last : (body : List CStmt) → AllByRecursion Plain body → has_last_labels body ≡ true
plain_last [] h = refl
plain_last (s ∷ body) h = ap (λ m. are_last (m ∷ map mark_of body)) h.0.mark ∙ plain_last body h.1

pub plain_lead : (body : List CStmt) (outer : List (List ℕ)) → AllByRecursion Plain body → lead_in (map jumps body) outer ≡ true
plain_lead [] outer h = refl
plain_lead (s ∷ body) outer h = ap (λ b. b && lead_in (map jumps body) outer) (h.0.lead (label_behind (map jumps body) ++ outer)) ∙ plain_lead body outer h.1

plain_labels : (body : List CStmt) → AllByRecursion Plain body → all_labels (map labels body) ≡ []
plain_labels [] h = refl
plain_labels (s ∷ body) h = ap (λ l. l ++ all_labels (map labels body)) h.0.labels ∙ plain_labels body h.1

pub plain_block : (body : List CStmt) → AllByRecursion Plain body → Plain (Block body)
plain_block body h = record {
  mark = mark_of-Block body ∙ ap other_if (plain_last body h);
  lead = λ outer. ap (λ j. j.lead outer) (jumps-Block body) ∙ plain_lead body outer h;
  labels = labels-Block body ∙ plain_labels body h;
}

-- a body whose statements are plain
pub plain_jumps : (body : List CStmt) → AllByRecursion Plain body → (are_different (all_labels (map labels body)) && lead_in (map jumps body) []) ≡ true
plain_jumps body h = ap (λ l. are_different l && lead_in (map jumps body) []) (plain_labels body h) ∙ plain_lead body [] h
