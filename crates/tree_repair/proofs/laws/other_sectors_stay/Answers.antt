use Rattle.tree_repair.proofs.StayLemmas.{others-stay}
use Rattle.tree_repair.proofs.laws.other_sectors_stay.Goals as goal

pub returns : goal.returns
returns c = others-stay
