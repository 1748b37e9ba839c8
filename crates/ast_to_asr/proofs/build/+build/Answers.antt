use Rattle.std.proofs.Common.{rules, ◌≡◌, Ok, None, sym, ap, subst, ◌∙◌, drop, map, ◌+◌, ◌∷◌}
use Rattle.std.proofs.lemmas.List.{drop_more}
use Rattle.ast_to_asr.specs.Building.{AreBuilt, IsBuilt}
use Rattle.ast_to_asr.specs.Sources.{BuiltSoFar, expr_in}
use Rattle.ast_nodes.specs.declared.expression.Expr.TheVariants.{Binary}
use Rattle.ast_to_asr.proofs.Sources.{binary_layer, left_wrong, call_wrong, far_next, unary_built, paren_built, operands_there, binary_built}
use Rattle.ast_to_asr.proofs.build.+build.Goals as goal

pub call-returns-in-None : goal.call-returns-in-None
call-returns-in-None n c =
    let unit = c.args.here.unit.now in
    let names = c.args.here.names.now in
    let es = map (expr_in unit names) c.args.arguments.now in
    call_wrong unit names c.args.name.now es c.args.asr.now c.expressions.new.asr (search rules) (subst (λ o. AreBuilt c.args.asr.now c.expressions.new.asr es (Ok o)) c.in-None.is c.in_ok-expressions.ensures)

pub expressions-loop-expr-preserved : goal.expressions-loop-expr-preserved
expressions-loop-expr-preserved n c =
    let f = expr_in c.args.here.unit.now c.args.here.names.now in
    let all = c.args.exprs.now in
    let place = c.loop-expr.expr-index in
    let left = drop (place + 1) all in
    let x = c.expr-item.result in
    let old = c.args.asr.now in
    let now = c.loop-expr.asr in
    let new = c.expression.new.asr in
    let before = subst (λ xs. BuiltSoFar old now c.loop-expr.built (map f xs) (map f all)) (drop_more all place x (search rules) ∙ ap (λ y. y ∷ left) (sym c.expr-item.is)) c.loop-expr.invariant in
    subst (λ bs. BuiltSoFar old new bs (map f left) (map f all)) (sym c.in_ok-push-in-Some.ensures.ok)
    (far_next old now new c.loop-expr.built (f x) (map f left) (map f all) c.in-Some.one before (subst (λ o. IsBuilt now new (f x) (Ok o)) c.in-Some.is c.in_ok-expression.ensures))

pub one_operand-returns-in-Some : goal.one_operand-returns-in-Some
one_operand-returns-in-Some n c =
    let e = expr_in c.args.here.unit.now c.args.here.names.now c.args.operand.now in
    unary_built c.args.asr.now c.expression.new.asr c.unary.new.asr c.args.code e c.in-Some.operand c.unary.result
    (subst (λ o. IsBuilt c.args.asr.now c.expression.new.asr e (Ok o)) c.in-Some.is c.in_ok-expression.ensures) c.unary.ensures

pub parenthesized-returns-in-Some : goal.parenthesized-returns-in-Some
parenthesized-returns-in-Some n c =
    let e = expr_in c.args.here.unit.now c.args.here.names.now c.args.inner.now in
    paren_built c.args.asr.now c.expression.new.asr c.paren.new.asr 0 e c.in-Some.inner c.paren.result
    (subst (λ o. IsBuilt c.args.asr.now c.expression.new.asr e (Ok o)) c.in-Some.is c.in_ok-expression.ensures) c.paren.ensures

pub expression-returns-in_default : goal.expression-returns-in_default
expression-returns-in_default n c =
    let unit = c.args.here.unit.now in
    let names = c.args.here.names.now in
    let old = c.args.asr.now in
    let now = c.expression.new.asr in
    let x = c.get-in-Binary.result.now in
    let f = expr_in unit names c.in-Binary.right in
    let code = c.in-Binary.operator in
    let none : c.in_ok-left-in-Binary.field-0 ≡ None = search rules in
    subst (λ z. IsBuilt old now (expr_in unit names z) (Ok None)) (sym c.in-Binary.is)
    (subst (λ y. IsBuilt old now (expr_in unit names (Binary code y c.in-Binary.right)) (Ok None)) c.get-in-Binary.ensures
    (binary_layer old now unit names (Ok None) code x c.in-Binary.right
    (left_wrong old now code (expr_in unit names x) f (subst (λ o. IsBuilt old now (expr_in unit names x) (Ok o)) none c.in_ok-left-in-Binary.ensures))))

pub expression-binary-requires : goal.expression-binary-requires
expression-binary-requires n c =
    let unit = c.args.here.unit.now in
    let names = c.args.here.names.now in
    let e = expr_in unit names c.get-in-Binary.result.now in
    let f = expr_in unit names c.get-in-Binary-2.result.now in
    operands_there c.args.asr.now c.expression.new.asr c.expression-in-Binary.new.asr e f c.in-Some.left c.in-Some-2.right
    (subst (λ o. IsBuilt c.args.asr.now c.expression.new.asr e (Ok o)) c.in-Some.is c.in_ok-left-in-Binary.ensures)
    (subst (λ o. IsBuilt c.expression.new.asr c.expression-in-Binary.new.asr f (Ok o)) c.in-Some-2.is c.in_ok-expression-in-Binary.ensures)

pub expression-returns-in-Some-2 : goal.expression-returns-in-Some-2
expression-returns-in-Some-2 n c =
    let unit = c.args.here.unit.now in
    let names = c.args.here.names.now in
    let old = c.args.asr.now in
    let new = c.binary.new.asr in
    let x = c.get-in-Binary.result.now in
    let y = c.get-in-Binary-2.result.now in
    let e = expr_in unit names x in
    let f = expr_in unit names y in
    let code = c.in-Binary.operator in
    subst (λ z. IsBuilt old new (expr_in unit names z) c.binary.result) (sym c.in-Binary.is)
    (subst (λ z. IsBuilt old new (expr_in unit names (Binary code z c.in-Binary.right)) c.binary.result) c.get-in-Binary.ensures
    (subst (λ z. IsBuilt old new (expr_in unit names (Binary code x z)) c.binary.result) c.get-in-Binary-2.ensures
    (binary_layer old new unit names c.binary.result code x y
    (binary_built old c.expression.new.asr c.expression-in-Binary.new.asr new code e f c.in-Some.left c.in-Some-2.right c.binary.result
    (subst (λ o. IsBuilt old c.expression.new.asr e (Ok o)) c.in-Some.is c.in_ok-left-in-Binary.ensures)
    (subst (λ o. IsBuilt c.expression.new.asr c.expression-in-Binary.new.asr f (Ok o)) c.in-Some-2.is c.in_ok-expression-in-Binary.ensures)
    c.binary.ensures))))
