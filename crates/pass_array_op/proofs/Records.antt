-- Records, by what the code knows of the statements that they stand for.
use Rattle.std.proofs.Common.{◌≡◌, ℕ, List, true, Option, Some, None, is_some, refl, sym, ap, subst, ◌∙◌, true≢false}
use Rattle.std.specs.Option.{option_map_or}
use Rattle.lf_base.specs.declared.id.ExprId.{ExprId}
use Rattle.lf_base.specs.declared.id.StmtId.{StmtId}
use Rattle.asr_nodes.specs.Keys.{stmt}
use Rattle.asr_nodes.specs.Nodes.{Nodes, Sound, node_at}
use Rattle.asr_nodes.specs.Splices.{are_apart, spliced, line_of}
use Rattle.asr_nodes.specs.declared.node.Stmt.{Stmt}
use Rattle.pass_array_op.specs.Prints.{values_put, or_none, record_for, record_nodes, with_record, IsLowered}
use Rattle.pass_array_op.proofs.Edits.{is_apart}
use Rattle.pass_array_op.proofs.Trees.{some_same}

pub values_are : (o : Option (List ExprId)) → is_some o ≡ true → (values : List ExprId) × (o ≡ Some values)
values_are (Some values) e = (values, refl)
values_are None e = absurd (true≢false (sym e))

module _ (a : Nodes) (h : Sound a) (at : StmtId) (number : ℕ) (low : IsLowered a at) (x : Stmt) (was : node_at a (stmt at) ≡ Some x) where
  pub is_put : is_some (values_put x) ≡ true
  is_put = subst (λ y. is_some (values_put y) ≡ true) (some_same low.node x (sym low.stands ∙ was)) low.is_lowered

  pub for_apart : (nodes : List Stmt) → nodes ≡ record_for x number → are_apart a at nodes
  for_apart nodes e =
      let v = values_are (values_put x) is_put in
      subst (are_apart a at) (sym (e ∙ ap (λ o. record_nodes (line_of x) number (or_none o)) v.1)) (is_apart a h at x v.0 was v.1 number)

  pub for_new : (nodes : List Stmt) → nodes ≡ record_for x number → (new : Nodes) → new ≡ spliced a at nodes → new ≡ with_record a at number
  for_new nodes e new s =
      s ∙ ap (spliced a at) e ∙ sym (ap (λ o. option_map_or (λ y. spliced a at (record_for y number)) o a) was)
