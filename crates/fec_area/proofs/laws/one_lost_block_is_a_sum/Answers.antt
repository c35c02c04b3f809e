use Rattle.fec_area.proofs.LostSumLemmas.{lost-sum}
use Rattle.fec_area.proofs.laws.one_lost_block_is_a_sum.Goals as goal

pub returns : goal.returns
returns c = lost-sum
