-- Nodes that are made beside those that stand, so that what is made stands at one place.
use Rattle.std.specs.Prelude.{◌≡◌, ◌≤◌, true, List, ◌++◌}
use Rattle.asr_nodes.specs.Keys.{Key}
use Rattle.asr_nodes.specs.Nodes.{Nodes, Sound, Extends, node_count, there}
use Rattle.asr_nodes.specs.OnePlace.{StandAlone}

-- All nodes that stood stand, with their trees, and so do the symbols. The nodes at `keys` are there, and what stands in
-- their trees stands at one place of them, of trees whose parts had one place each, and of all others.
pub record Makes (old new : Nodes) (keys : List Key) : Type 0 where
  pub grows : Extends old new
  pub counted : node_count old ≤ node_count new
  pub scopes : new.scopes ≡ old.scopes
  pub noted : new.noted ≡ old.noted
  pub sound : Sound old → Sound new
  pub stand : there new keys ≡ true
  pub alone : Sound old → (mine others : List Key) → there old mine ≡ true → there old others ≡ true → StandAlone old mine others → StandAlone new (keys ++ mine) others
