use Rattle.std.proofs.Common.{ap, ◌∙◌, arith, length, length-drop}
use Rattle.ff_lexer.specs.Lexemes.{so_far}
use Rattle.ff_lexer.proofs.Lexing.{taken}
use Rattle.ff_lexer.proofs.reader.tokens.Goals as goal

pub loop-first-preserved : goal.loop-first-preserved
loop-first-preserved c = record {
  left = taken c.loop-first.rest.now c.in-Some.behind.now c.through.result.now c.behind_front-rest.result.now c.in-Some.first c.lexeme_at-more.result (so_far c.loop-first.tokens.items c.loop-first.fault) (so_far c.take.new.tokens.items c.in_ok-fault.fault) _ c.in-Some.ensures c.lexeme_at-more.ensures c.through.ensures c.behind_front-rest.ensures c.in_ok-fault.ensures c.loop-first.invariant.left;
  size = omega (arith, c.loop-first.invariant.size, ap length c.in-Some.ensures, ap length c.behind_front-rest.ensures ∙ length-drop c.lexeme_at-more.result.more c.in-Some.behind.now);
}
