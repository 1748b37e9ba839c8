use Rattle.lf_outside.proofs.Folders.{front_is}
use Rattle.lf_outside.proofs.names.front_of.Goals as goal

pub returns : goal.returns
returns c = front_is c.args.text.now c.split_at.result.0.now c.split_at.result.1.now c.floor_char_boundary.result c.floor_char_boundary.ensures.bound c.floor_char_boundary.ensures.boundary c.floor_char_boundary.ensures.nearest c.split_at.ensures.front c.split_at.ensures.back c.split_at.ensures.front_len
