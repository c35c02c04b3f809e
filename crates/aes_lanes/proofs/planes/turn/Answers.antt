use Rattle.aes_lanes.proofs.ExchangeLemmas.{AreTurned-from_exchanged}
use Rattle.aes_lanes.proofs.planes.turn.Goals as goal

pub returns : goal.returns
returns c = AreTurned-from_exchanged _ _ _ _ c.exchange_1-ones.ensures c.exchange_2-twos.ensures c.exchange_4.ensures
