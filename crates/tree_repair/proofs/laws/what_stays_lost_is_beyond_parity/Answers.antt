use Rattle.tree_repair.proofs.BeyondLemmas.{stays-lost}
use Rattle.tree_repair.proofs.laws.what_stays_lost_is_beyond_parity.Goals as goal

pub returns : goal.returns
returns c = stays-lost
