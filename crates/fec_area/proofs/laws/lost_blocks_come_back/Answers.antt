use Rattle.fec_area.proofs.RestoringLemmas.{come-back}
use Rattle.fec_area.proofs.laws.lost_blocks_come_back.Goals as goal

pub returns : goal.returns
returns c = come-back
