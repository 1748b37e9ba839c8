use Rattle.ff_lexer.proofs.Lexing.{end_told, end_fails}
use Rattle.ff_lexer.proofs.reader.Reader.end_broken.Goals as goal

pub returns-in-Ok : goal.returns-in-Ok
returns-in-Ok c = end_told c.args.self c.breaks.new.self c.finish.new.self c.breaks.ensures.done c.breaks.ensures.draft c.in-Ok.ensures.done

pub returns-in-Err : goal.returns-in-Err
returns-in-Err c = end_fails c.in-Err.fault c.args.self c.breaks.new.self c.breaks.ensures.done c.breaks.ensures.draft c.in-Err.ensures.done
