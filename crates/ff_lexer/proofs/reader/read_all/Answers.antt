use Rattle.std.proofs.Common.{arith, ◌+◌, ◌<◌, length}
use Rattle.std.proofs.lemmas.Grind.{common_steps}
use Rattle.ff_lexer.proofs.FirstLine.{lines_cut, has_size}
use Rattle.ff_lexer.proofs.Lexing.{line_read, line_fails}
use Rattle.ff_lexer.proofs.reader.read_all.Goals as goal

pub returns-in-Err : goal.returns-in-Err
returns-in-Err c =
    let some : 0 < length c.loop-rest.rest.now = grind (arith, common_steps, c.is_empty.ensures, c.loop-rest-test.true) in
    line_fails c.in-Err.fault c.loop-rest.reader c.loop-rest.at (c.loop-rest.at + c.split_line-size.result.1) c.split_line-size.result.0.now c.loop-rest.rest.now c.split_line-size.result.2.now _ (lines_cut c.loop-rest.at c.split_line-size.result.1 c.split_line-size.result.0.now c.loop-rest.rest.now c.split_line-size.result.2.now c.split_line-size.ensures.line c.split_line-size.ensures.size c.split_line-size.ensures.behind some) c.in-Err.ensures.step c.loop-rest.invariant.left

pub loop-rest-preserved : goal.loop-rest-preserved
loop-rest-preserved c =
    let some : 0 < length c.loop-rest.rest.now = grind (arith, common_steps, c.is_empty.ensures, c.loop-rest-test.true) in
    record {
      left = line_read c.read_line.new.self c.loop-rest.reader c.loop-rest.at (c.loop-rest.at + c.split_line-size.result.1) c.read_line.new.self.line c.split_line-size.result.0.now c.loop-rest.rest.now c.split_line-size.result.2.now _ (lines_cut c.loop-rest.at c.split_line-size.result.1 c.split_line-size.result.0.now c.loop-rest.rest.now c.split_line-size.result.2.now c.split_line-size.ensures.line c.split_line-size.ensures.size c.split_line-size.ensures.behind some) c.in-Ok.ensures.line c.in-Ok.ensures.step c.loop-rest.invariant.left;
      at = omega (arith, c.loop-rest.invariant.at, c.split_line-size.ensures.within);
      line = omega (arith, c.loop-rest.invariant.line, c.in-Ok.ensures.line, c.split_line-size.ensures.size, has_size c.loop-rest.rest.now some);
    }
