use Rattle.std.proofs.Common.{◌≡◌, false, [], ◌∷◌, ◌++◌, map, sym, ap, subst, ◌∙◌}
use Rattle.c_nodes.specs.declared.tree.CExpr.TheVariants.{Constant}
use Rattle.c_nodes.specs.declared.tree.CItem.TheVariants.{Function}
use Rattle.c_nodes.specs.declared.tree.CResult.TheVariants.{Int}
use Rattle.c_nodes.specs.declared.tree.CStmt.{CStmt}
use Rattle.c_nodes.specs.declared.tree.CStmt.TheVariants.{Call, ReturnValue}
use Rattle.c_printer.specs.Lowered.{statement_of}
use Rattle.c_printer.specs.Lowering.{lines_of, line, nothing_drawn}
use Rattle.c_printer.specs.Names.{init_name}
use Rattle.c_printer.specs.Statements.{statements}
use Rattle.c_printer.specs.Writing.{Written, from, wrote}
use Rattle.c_printer.proofs.FileItems.{line_first, statements_are}
use Rattle.c_printer.proofs.units.main_function.Goals as goal

pub returns : goal.returns
returns c =
    let u = c.args.scope.now in
    let called = c.in_ok-init_call.ensures ∙ ap (λ n. Call (init_name n) []) c.unit.ensures in
    let act = statements c.args.source.now (map (statement_of u) c.args.body.now) in
    let began = subst (λ (w : Written). from w (line c.in_ok-init_call.field-0) ≡ wrote c.line.new.self tt) c.new-writer.ensures c.in_ok-line.ensures in
    let lines =
    ap (λ (s : CStmt). s ∷ lines_of (act nothing_drawn)) (sym called)
    ∙ line_first c.in_ok-init_call.field-0 act c.line.new.self c.statements.new.writer began c.in_ok-statements.ensures
    in
    let body =
    c.in_ok-push.ensures.ok
    ∙ ap (λ ls. ls ++ ReturnValue (Constant 0) ∷ [])
    (c.into_lines-lines.ensures ∙ sym lines ∙ ap (λ a. Call (init_name u.unit) [] ∷ lines_of (a nothing_drawn)) (statements_are u c.args.source.now c.args.body.now))
    in
    λ i. Function false Int (c.in_ok-new.ensures i) (c.new-2.ensures i) (body i)
