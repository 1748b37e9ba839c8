use Rattle.std.proofs.Common.{ap, ◌∙◌, sym, arith, length}
use Rattle.ff_lexer.proofs.Lexing.{rest_goes_on, rest_fails}
use Rattle.ff_lexer.proofs.reader.Reader.read_rest.Goals as goal

pub returns-in-Err-clause-step : goal.returns-in-Err-clause-step
returns-in-Err-clause-step c = λ more. rest_fails c.in-Err.fault c.args.self.now.line c.loop-byte.self c.loop-byte.at c.in-Some.byte c.in-Some.behind.now c.loop-byte.rest.now more _ c.in-Some.ensures (sym c.is_continued.ensures ∙ c.if-is_continued.false) (sym c.is_comment.ensures ∙ c.if-is_comment.false) c.loop-byte.invariant.line c.in-Err.ensures.step (c.loop-byte.invariant.left more)

pub loop-byte-preserved : goal.loop-byte-preserved
loop-byte-preserved c = record {
  left = λ more. rest_goes_on c.args.self.now.line c.read_byte.new.self c.loop-byte.self c.loop-byte.at c.in-Some.byte c.in-Some.behind.now c.loop-byte.rest.now more c.in-Some.ensures (sym c.is_continued.ensures ∙ c.if-is_continued.false) (sym c.is_comment.ensures ∙ c.if-is_comment.false) c.loop-byte.invariant.line c.in-Ok.ensures.step c.in-Ok.ensures.context ∙ c.loop-byte.invariant.left more;
  at = omega (arith, c.loop-byte.invariant.at, ap length c.in-Some.ensures);
  line = c.in-Ok.ensures.line ∙ c.loop-byte.invariant.line;
}
